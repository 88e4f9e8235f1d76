use Rattle.std.proofs.Common.{◌≡◌, ◌+◌, ◌*◌, ap, ◌∙◌, arith}
use Rattle.lfs_segments.specs.Log.{first_of}
use Rattle.lfs_segments.specs.Memory.{log_start}
use Rattle.lfs_fsck.proofs.ReaderLemmas.{read_first, read_on}
use Rattle.lfs_fsck.proofs.ending.goes_on.Goals as goal

pub loop-address-init : goal.loop-address-init
loop-address-init c =
    let m = c.args.log.now.memory in
    let start : c.log_start.result ≡ log_start m.active = c.log_start.ensures
    ∙ ap log_start c.active-active.ensures.active in
    let active = c.active-active.ensures.active in
    let first : c.active-active.result * 64 + c.log_start.result ≡ first_of m.active = omega arith in
    record {
      from = omega arith;
      read = c.start-reader.ensures ∙ read_first m m.active (c.active-active.result * 64 + c.log_start.result) first;
    }

pub loop-address-preserved : goal.loop-address-preserved
loop-address-preserved c =
    let m = c.args.log.now.memory in
    let l = c.loop-address in
    record {
      from = let low = l.invariant.from in omega arith;
      read = read_on m m.active l.address c.has_serials.result l.reader c.pass.new.self c.block.result.now
          c.has_serials.ensures.serials l.invariant.from l.invariant.read c.block.ensures.block c.pass.ensures.next;
    }
