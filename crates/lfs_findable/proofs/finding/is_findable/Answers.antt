use Rattle.std.proofs.Common.{◌≡◌, ◌<◌, ℕ, List, Option, is_some, true, sym, ap, subst, ◌∙◌}
use Rattle.std.specs.List.{All}
use Rattle.std.proofs.lemmas.Bool.{false≢true}
use Rattle.std.proofs.lemmas.Result.{IfOk-weaker}
use Rattle.lfs_segments.specs.Memory.{has_serials}
use Rattle.lfs_recovery.specs.declared.places.PartialSegment.{PartialSegment}
use Rattle.lfs_findable.specs.Judging.{AreListed, AreOrdered, IsProper}
use Rattle.lfs_findable.proofs.LogLemmas.{are_proper, findable, listed_all, ordered_all}
use Rattle.lfs_findable.proofs.finding.is_findable.Goals as goal

pub are_listed-requires : goal.are_listed-requires
are_listed-requires c =
    let m = c.args.memory.now in
    let ps = c.in_ok-partials.partials.items in
    subst (λ (xs : List PartialSegment). All (IsProper m) xs) (sym c.deref.ensures.value)
    (are_proper m ps (ap (λ (o : Option ℕ). is_some o) c.requires) c.in_ok-partials.ensures.logs
    c.in_ok-partials.ensures.whole)

pub are_ordered-requires : goal.are_ordered-requires
are_ordered-requires c =
    let m = c.args.memory.now in
    let ps = c.in_ok-partials.partials.items in
    let proper = are_proper m ps (ap (λ (o : Option ℕ). is_some o) c.requires) c.in_ok-partials.ensures.logs
    c.in_ok-partials.ensures.whole in
    subst (λ (xs : List PartialSegment). All (λ (p : PartialSegment). 0 < p.serial) xs) (sym c.deref-2.ensures.value)
    (λ k d below. (proper k d below).counted)

pub returns-then-not-branch : goal.returns-then-not-branch
returns-then-not-branch c =
    let m = c.args.memory.now in
    let ps = c.in_ok-partials.partials.items in (
      λ e. absurd (false≢true e),
      λ f. absurd (false≢true (sym c.if-not-branch.true ∙ c.in_ok-are_listed.ensures.1
          (subst (λ (xs : List PartialSegment). AreListed m xs) (sym c.deref.ensures.value)
          (listed_all m c.args.next ps c.in_ok-partials.ensures.logs f)))),
    )

pub returns : goal.returns
returns c =
    let m = c.args.memory.now in
    let next : ℕ = c.args.next in
    let ps = c.in_ok-partials.partials.items in
    let logs = c.in_ok-partials.ensures.logs in
    let kind : has_serials m ≡ true = ap (λ (o : Option ℕ). is_some o) c.requires in
    let listed : AreListed m ps = subst (λ (xs : List PartialSegment). AreListed m xs) c.deref.ensures.value
    (c.in_ok-are_listed.ensures.0 c.if-not-branch.false) in
    IfOk-weaker c.are_ordered.result _ _
    (λ is o. (
      λ yes. findable m ps kind logs c.in_ok-partials.ensures.whole listed c.active.ensures.laid_out next
          (subst (λ (xs : List PartialSegment). AreOrdered m.active next xs) c.deref-2.ensures.value
          (subst (λ (a : ℕ). AreOrdered a next c.deref-2.result.now) c.active.ensures.active (o.0 yes))),
      λ f. o.1 (subst (λ (a : ℕ). AreOrdered a next c.deref-2.result.now) (sym c.active.ensures.active)
          (subst (λ (xs : List PartialSegment). AreOrdered m.active next xs) (sym c.deref-2.ensures.value)
          (ordered_all m next ps logs f))),
    ))
    c.are_ordered.ensures
