use Rattle.std.proofs.Common.{◌≡◌, Some, get_or, refl, sym, ◌∙◌, arith}
use Rattle.std.proofs.lemmas.Bool.{false≢true}
use Rattle.std.proofs.lemmas.List.{get_or_default}
use Rattle.std.proofs.lemmas.List.Elements.{All-contains, Contains-get_or}
use Rattle.std.proofs.lemmas.Option.{none-some}
use Rattle.lfs_recovery.specs.declared.places.PartialSegment.{PartialSegment}
use Rattle.lfs_findable.proofs.OrderLemmas.{elsewhere_two, one_place, table_more}
use Rattle.lfs_findable.specs.Maps.{address_of}
use Rattle.lfs_findable.proofs.ordering.have_one_place.Goals as goal

-- what a read of the list has behind its end
abbrev none : PartialSegment
none = record { serial = 0; address = 0; count = 0 }

pub loop-index-init : goal.loop-index-init
loop-index-init c = record {
  sound = λ serial address is. absurd (none-some address (sym (c.new-places.ensures serial) ∙ is));
  kept = λ k d below. absurd (omega arith);
}

pub returns-then-is_elsewhere : goal.returns-then-is_elsewhere
returns-then-is_elsewhere c =
    let l = c.loop-index in
    let ps = c.args.partials.now in
    let there = Contains-get_or ps l.index none c.loop-index-test.true in (
      λ e. absurd (false≢true e),
      λ one. absurd (elsewhere_two ps l.places l.index (get_or ps l.index none) c.find.result l.invariant there
          c.find.ensures (c.is_elsewhere.ensures.0 c.if-is_elsewhere.true) one),
    )

pub loop-index-preserved : goal.loop-index-preserved
loop-index-preserved c =
    let l = c.loop-index in
    let ps = c.args.partials.now in
    let below = c.loop-index-test.true in
    table_more ps l.places c.put.new.self l.index none c.find.result l.invariant (Contains-get_or ps l.index none below)
    (λ d. get_or_default ps l.index d none below) c.find.ensures
    (λ other. false≢true (sym c.if-is_elsewhere.false ∙ c.is_elsewhere.ensures.1 other))
    c.in_ok-put.ensures.there c.in_ok-put.ensures.others

pub returns : goal.returns
returns c =
    let l = c.loop-index in
    let ps = c.args.partials.now in (
      λ _. one_place ps l.places l.index l.invariant
          (λ p there. All-contains (λ (q : PartialSegment). address_of l.places q.serial ≡ Some q.address) ps p
          (λ k d below. l.invariant.kept k d (omega arith)) there),
      λ _. refl,
    )
