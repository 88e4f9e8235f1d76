use Rattle.std.proofs.Common.{ℕ, List, sym, ap, ◌∙◌, arith}
use Rattle.std.proofs.lemmas.Bool.{false≢true}
use Rattle.lfs_ifile.specs.Layout.{number_at}
use Rattle.lfs_segments.specs.Memory.{label}
use Rattle.lfs_rescue.proofs.LabelLemmas.{label_told}
use Rattle.lfs_rescue.proofs.label.inodes_told.Goals as goal
use Rattle.lfs_rescue.proofs.label.inodes_told.Goals.{then-inodes-gt-MOST_INODES-via-then-inodes-gt-MOST_INODES}
use Rattle.lfs_rescue.proofs.label.inodes_told.Goals.{then-inodes-gt-MOST_INODES-via-else-inodes-gt-MOST_INODES+then-not-is_label}

pub returns-then-inodes-lt-LEAST_INODES-clause-fault : goal.returns-then-inodes-lt-LEAST_INODES-clause-fault
returns-then-inodes-lt-LEAST_INODES-clause-fault c = λ p d shown crash.
    let told = label_told p c.args.memory.now c.number_in-inodes.result d crash
    (c.number_in-inodes.ensures ∙ ap (λ (b : List ℕ). number_at b 8) c.block-block.ensures.block) in
    let least = told.least in
    let few = c.if-inodes-lt-LEAST_INODES.true in
    absurd (omega arith)

pub returns-then-inodes-gt-MOST_INODES-clause-fault : goal.returns-then-inodes-gt-MOST_INODES-clause-fault
returns-then-inodes-gt-MOST_INODES-clause-fault c = λ p d shown crash.
    let told = label_told p c.args.memory.now c.number_in-inodes.result d crash
    (c.number_in-inodes.ensures ∙ ap (λ (b : List ℕ). number_at b 8) c.block-block.ensures.block) in
    elim c.then-inodes-gt-MOST_INODES.branch [
      | then-inodes-gt-MOST_INODES-via-then-inodes-gt-MOST_INODES w ↦
          let most = told.most in
          let many = w.if-inodes-gt-MOST_INODES.true in
          absurd (omega arith)
      | then-inodes-gt-MOST_INODES-via-else-inodes-gt-MOST_INODES+then-not-is_label w ↦
          false≢true (sym w.if-not-is_label.true
          ∙ w.is_label.ensures.1 (c.block-block.ensures.block ∙ told.label
          ∙ ap (λ (s : ℕ). label s c.number_in-inodes.result) (sym c.segments-segments.ensures.segments)))
    ]
