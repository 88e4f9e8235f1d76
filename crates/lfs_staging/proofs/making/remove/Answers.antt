use Rattle.std.proofs.Common.{refl, ap, ◌∙◌, ◌≤◌, subst, inl, inr, length, sym, arith}
use Rattle.std.proofs.lemmas.Option.{same_Some}
use Rattle.std.specs.FinMap.{remove}
use Rattle.lfs_bmap.proofs.HolderLemmas.{codes_on-record}
use Rattle.lfs_cache.specs.Contents.{IsLocked}
use Rattle.lfs_inodes.specs.Reading.{Fields}
use Rattle.lfs_parts.specs.Files.{content_of}
use Rattle.lfs_parts.specs.View.{record_of}
use Rattle.lfs_parts.specs.Waiting.{waiting_in, without}
use Rattle.lfs_parts.specs.declared.parts.Parts.{Parts}
use Rattle.lfs_staging.proofs.TakingLemmas.{removed_content}
use Rattle.lfs_parts.proofs.WaitingLemmas.{length-without, waiting-without}
use Rattle.lfs_staging.proofs.making.remove.Goals.{then-record_in_use-gt0, else-record_in_use-gt0}
use Rattle.lfs_staging.proofs.making.remove.Goals as goal

pub returns-clause-content : goal.returns-clause-content
returns-clause-content c =
    let number = c.args.ino in
    let old = c.args.parts.now in
    let cut = c.if-record_in_use-gt0.parts in
    c.give_back.ensures.content
    ∙ elim c.if-record_in_use-gt0.branch [
      | then-record_in_use-gt0 w ↦
          removed_content number (content_of old) (content_of cut)
          (ap (λ (p : Parts). content_of p) w.parts-is ∙ w.set_length.ensures.content)
      | else-record_in_use-gt0 w ↦ ap (λ (p : Parts). remove (content_of p) number) w.parts-is
    ]

pub set_length-requires-clause-sized : goal.set_length-requires-clause-sized
set_length-requires-clause-sized c = λ f is. (omega arith, λ directory. refl)

pub give_back-requires-clause-empty : goal.give_back-requires-clause-empty
give_back-requires-clause-empty c = λ f is.
    let number = c.args.ino in
    elim c.if-record_in_use-gt0.branch [
      | then-record_in_use-gt0 w ↦
          w.set_length.ensures.size f (ap (λ (p : Parts). record_of p number) (sym w.parts-is) ∙ is)
      | else-record_in_use-gt0 w ↦
          let none = w.if-record_in_use-gt0.false in
          let same = same_Some _ f (sym c.record_in_use.ensures.here
          ∙ ap (λ (p : Parts). record_of p number) (sym w.parts-is) ∙ is) in
          let size = ap (λ (x : Fields). x.attributes.size) same in
          omega arith
    ]

pub returns-clause-waiting : goal.returns-clause-waiting
returns-clause-waiting c =
    let number = c.args.ino in
    let old = c.args.parts.now in
    let cut = c.if-record_in_use-gt0.parts in
    subst (λ vs. length vs ≤ length old.waiting) (sym c.give_back.ensures.waiting)
    (elim c.if-record_in_use-gt0.branch [
      | then-record_in_use-gt0 w ↦
          subst (λ (p : Parts). length (without number p.waiting) ≤ length old.waiting) (sym w.parts-is)
          w.set_length.ensures.others
      | else-record_in_use-gt0 w ↦
          subst (λ (p : Parts). length (without number p.waiting) ≤ length old.waiting) (sym w.parts-is)
          (length-without old.waiting number)
    ])

pub returns-clause-only : goal.returns-clause-only
returns-clause-only c = λ key locked.
    let before = subst (IsLocked key) c.give_back.ensures.cache locked in
    elim c.if-record_in_use-gt0.branch [
      | then-record_in_use-gt0 w ↦
          elim (w.set_length.ensures.only key (subst (λ (p : Parts). IsLocked key p.cache) w.parts-is before)) [
            | inl one ↦ absurd (codes_on-record one.0 one.1)
            | inr was ↦ was
          ]
      | else-record_in_use-gt0 w ↦ subst (λ (p : Parts). IsLocked key p.cache) w.parts-is before
    ]

pub returns-clause-others : goal.returns-clause-others
returns-clause-others c = λ n other.
    let old = c.args.parts.now in
    let cut = c.if-record_in_use-gt0.parts in
    ap (λ vs. waiting_in vs n) c.give_back.ensures.waiting
    ∙ waiting-without cut.waiting c.args.ino n other
    ∙ elim c.if-record_in_use-gt0.branch [
      | then-record_in_use-gt0 w ↦
          ap (λ (p : Parts). waiting_in p.waiting n) w.parts-is ∙ w.set_length.ensures.other_records n other
      | else-record_in_use-gt0 w ↦ ap (λ (p : Parts). waiting_in p.waiting n) w.parts-is
    ]
