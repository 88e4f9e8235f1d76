use Rattle.std.proofs.Common.{◌≡◌, ◌+◌, ℕ, List, [], None, Option, get_or, sym, ap, subst, ◌∙◌, arith}
use Rattle.std.proofs.lemmas.Grind.{common_steps}
use Rattle.lfs_recovery.specs.declared.places.RecordPlace.{RecordPlace}
use Rattle.lfs_recovery.specs.Course.{course, end_of, entered, step}
use Rattle.lfs_recovery.specs.Newest.{IsNewest}
use Rattle.lfs_recovery.specs.Noted.{IsTable, newest, records}
use Rattle.lfs_recovery.proofs.CourseLemmas.{course-next, course-start}
use Rattle.lfs_recovery.proofs.NewestLemmas.{IsTable-none, records-next}
use Rattle.lfs_recovery.proofs.RecordLemmas.{newest_is}
use Rattle.lfs_recovery.proofs.newest.newest_records.Goals as goal

pub loop-address-init : goal.loop-address-init
unfolding records
loop-address-init c = record {
  noted = subst (λ (xs : List (Option RecordPlace)). IsTable xs [])
      (sym (c.in_ok-table.ensures.items_if_clones_equal (λ y e. grind (arith, common_steps)))) IsTable-none;
  reached = ap (entered 0) c.idle-reader.ensures ∙ course-start c.args.memory.now;
}

pub loop-address-preserved : goal.loop-address-preserved
loop-address-preserved c =
    let l = c.loop-address in
    let m = c.args.memory.now in
    let here : c.enter.new.self ≡ course m l.address = c.enter.ensures ∙ l.invariant.reached in
    record {
      noted = subst (IsTable c.note_records.new.table.items) (records-next m l.address _ here)
          (c.note_records.ensures.noted (records m l.address) l.invariant.noted);
      reached = ap (entered (l.address + 1)) (c.step.ensures.passed ∙ ap (step m l.address) here)
          ∙ course-next m l.address;
    }

pub returns-clause-newest : goal.returns-clause-newest
returns-clause-newest c = λ n below.
    let l = c.loop-address in
    let m = c.args.memory.now in
    let all : l.address ≡ end_of m = omega arith in
    let each : get_or l.table.items n None ≡ newest n (records m (end_of m)) =
    l.invariant.noted.each n below ∙ ap (λ (a : ℕ). newest n (records m a)) all in
    subst (IsNewest m n) (sym each) (newest_is m n)
