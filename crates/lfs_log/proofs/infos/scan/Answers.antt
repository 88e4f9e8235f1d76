use Rattle.std.proofs.Common.{◌≤◌, Bool, option_map, refl, sym, ap, ◌∙◌, arith}
use Rattle.lfs_segments.specs.Log.{first_of}
use Rattle.lfs_segments.specs.Reading.{named_by}
use Rattle.lfs_segments.specs.Serial.{entries_in}
use Rattle.lfs_segments.proofs.LogLemmas.{expected_at-first}
use Rattle.lfs_segments.proofs.MemoryLemmas.{log_start-le}
use Rattle.lfs_log.proofs.ScanLemmas.{scan_begins, scan_done, scan_ended, scan_named, scan_next, scan_room}
use Rattle.lfs_log.proofs.ScanLemmas.{scan_summary, scan_unnamed}
use Rattle.lfs_log.proofs.infos.scan.Goals.{then-next-count, else-next-count+in-Some}
use Rattle.lfs_log.proofs.infos.scan.Goals as goal

pub loop-address-init : goal.loop-address-init
loop-address-init c =
    let start = c.log_start.ensures in
    record {
      at_most = omega arith;
      held = refl;
      so_far = rw start (c.empty-infos.ensures ∙ sym (scan_begins c.args.segments.now c.args.segment));
      pending = rw start (expected_at-first c.args.segments.now c.args.segment);
    }

pub push_infos-requires : goal.push_infos-requires
push_infos-requires c =
    let m = c.args.segments.now in let l = c.loop-address in
    let start = c.log_start.ensures in
    scan_room m c.args.segment l.address (omega arith) c.loop-address-test.true l.infos l.entries l.next l.count
    c.if-next-count.true (omega arith) l.invariant.pending l.invariant.so_far

pub returns-in_default : goal.returns-in_default
returns-in_default c =
    let m = c.args.segments.now in let l = c.loop-address in
    let start = c.log_start.ensures in
    scan_ended m c.args.segment l.address (omega arith) c.loop-address-test.true l.infos l.entries l.next l.count
    c.block-block.result.now c.if-next-count.false c.block-block.ensures.block
    l.invariant.pending l.invariant.so_far
    (ap (λ (s : Bool). entries_in s c.block-block.result.now) (sym c.has_serials.ensures.serials)
    ∙ sym c.summary_in.ensures ∙ ap (option_map named_by) c.in_default.is)

pub loop-address-preserved : goal.loop-address-preserved
loop-address-preserved c =
    let m = c.args.segments.now in let l = c.loop-address in
    let start = c.log_start.ensures in
    let held = l.invariant.held in
    let from : first_of c.args.segment ≤ l.address = omega arith in
    elim c.if-next-count.branch [
      | then-next-count w ↦ record {
        at_most = omega arith;
        held = rw w.entries-is held;
        so_far = rw w.infos-is
            (scan_named m c.args.segment l.address from c.loop-address-test.true l.infos _ l.entries l.next l.count _
            w.if-next-count.true (omega arith) c.block-block.ensures.block
            w.push_infos.ensures l.invariant.pending l.invariant.so_far);
        pending = rw (w.entries-is, w.next-is, w.count-is)
            (scan_next m c.args.segment l.address from c.loop-address-test.true l.entries l.next l.count
            w.if-next-count.true (omega arith) l.invariant.pending);
      }
      | else-next-count+in-Some w ↦ record {
        at_most = let most = w.in-Some.summary.at_most in omega arith;
        held = rw w.entries-is w.in-Some.summary.whole;
        so_far = rw w.infos-is
            (scan_unnamed m c.args.segment l.address from c.loop-address-test.true l.infos l.entries l.next l.count _
            w.if-next-count.false c.block-block.ensures.block l.invariant.pending l.invariant.so_far);
        pending = rw (w.entries-is, w.next-is, w.count-is)
            (scan_summary m c.args.segment l.address from c.loop-address-test.true l.infos l.entries l.next l.count _
            w.if-next-count.false c.block-block.ensures.block l.invariant.pending l.invariant.so_far
            w.in-Some.summary (w.in-Some.ensures
            ∙ ap (λ (s : Bool). entries_in s c.block-block.result.now) w.has_serials.ensures.serials));
      }
    ]

pub returns : goal.returns
returns c =
    let l = c.loop-address in
    let start = c.log_start.ensures in
    let past = c.loop-address-test.false in
    let low = log_start-le c.args.segment in
    scan_done c.args.segments.now c.args.segment l.address l.infos (omega arith) l.invariant.so_far
