use Rattle.std.proofs.Common.{ℕ, arith}
use Rattle.std.proofs.lemmas.Bool.{cond-true, cond-false}
use Rattle.lfs_types.specs.declared.cleaner.BlockInfo.{BlockInfo}
use Rattle.lfs_segwrite.proofs.CountingLemmas.{records_more}
use Rattle.lfs_segwrite.proofs.counting.records_to_mark.Goals.{then-not-has_number, else-not-has_number}
use Rattle.lfs_segwrite.proofs.counting.records_to_mark.Goals as goal

pub loop-index-preserved : goal.loop-index-preserved
loop-index-preserved c =
    let i = c.loop-index.index in
    let d : BlockInfo = record { ino = 0; version = 0; lbn = 0; addr = 0 } in
    let more = records_more c.args.named.now i d c.has_number.result c.loop-index-test.true c.has_number.ensures in
    let before = c.loop-index.invariant.0 in
    let few = c.loop-index.invariant.1 in
    elim c.if-not-has_number.branch [
      | then-not-has_number w ↦
          let one = cond-false {A = ℕ} _ 0 1 w.if-not-has_number.true in
          (omega (arith, w.records-is, one, more, before), omega (arith, w.records-is))
      | else-not-has_number w ↦
          let none = cond-true {A = ℕ} _ 0 1 w.if-not-has_number.false in
          (omega (arith, w.records-is, none, more, before), omega (arith, w.records-is))
    ]
