use Rattle.std.proofs.Common.{refl, ap, arith}
use Rattle.lfs_types.proofs.Somewhere.{there_of}
use Rattle.lfs_calls.specs.declared.directory.DirBlocks.{DirBlocks}
use Rattle.lfs_calls.proofs.DirBlockLemmas.{absent_behind, absent_to_end, blocks_still}
use Rattle.lfs_calls.proofs.DirBlockLemmas.{still_behind, still_first, still_moved}
use Rattle.lfs_calls.proofs.directory.take_listed.Goals as goal

pub next_of-requires : goal.next_of-requires
next_of-requires g c = blocks_still c.loop-stored.invariant.still c.requires.stored

pub loop-stored-init : goal.loop-stored-init
loop-stored-init g c =
    let first = ap (λ (b : DirBlocks). b.next) c.new-blocks.ensures in
    record {
      absent = λ j low. absurd (omega (arith, low, first));
      still = still_first c.new-blocks.ensures refl;
    }

pub loop-stored-preserved : goal.loop-stored-preserved
loop-stored-preserved g c =
    let still = c.loop-stored.invariant.still in
    let next = c.in-Some.ensures.next.1 in
    record {
      absent = absent_behind c.args.name.now still next c.in_default-removed.ensures.found c.loop-stored.invariant.absent;
      still = still_behind (still_moved c.in-Some.ensures.next.0 still) next.next c.next_of.ensures.state;
    }

pub unreachable-requires : goal.unreachable-requires
unreachable-requires g c =
    let none = absent_to_end c.args.name.now c.loop-stored.invariant.still c.in_default.ensures.next
    c.requires.stored.sized c.loop-stored.invariant.absent in
    let found = (there_of _ c.requires.listed).is in
    absurd (cc)
