use Rattle.std.proofs.Common.{refl, inl, inr, arith}
use Rattle.lfs_segwrite.proofs.GainLemmas.{fewer_blocks}
use Rattle.lfs_segwrite.proofs.gaining.mark_eight.Goals as goal

pub unreachable-requires : goal.unreachable-requires
unreachable-requires c =
    let bad = c.in-Err.ensures.exceeds refl in
    let fewer = fewer_blocks bad.named c.args.marks.now bad.are_named.marked in
    let none = bad.none in
    let short = bad.short in
    elim c.requires.room [ inl some ↦ omega arith | inr fits ↦ omega arith ]
