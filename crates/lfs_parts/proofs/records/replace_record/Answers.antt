use Rattle.std.proofs.Common.{◌==◌, rules, tests, sym, ap, subst, IsSome}
use Rattle.std.specs.Prelude.{slice_set}
use Rattle.std.proofs.lemmas.Iterator.Consumers.{YieldsList-from_deque}
use Rattle.std.proofs.lemmas.Iterator.Search.{position_from_yields_List}
use Rattle.lfs_inodes.specs.declared.inode.Inode.{Inode}
use Rattle.lfs_parts.specs.Waiting.{Replaces}
use Rattle.lfs_parts.proofs.ReplacingLemmas.{found_place, no_place, replaces}
use Rattle.lfs_parts.proofs.records.replace_record.Goals as goal

pub unreachable-requires : goal.unreachable-requires
unreachable-requires c =
    let p = λ (v : Inode). v.number == c.args.changed.number in
    let xs = c.args.records.now.items in
    let found = position_from_yields_List p _ _ c.position-place.result c.position-place.ensures.ran
    (YieldsList-from_deque xs c.iter.ensures.rest) (λ x b q k. search (rules, tests)) in
    let none = no_place p xs c.position-place.result found c.in-None.is in
    let bad = subst IsSome none c.requires in absurd (cc)

pub returns-clause-items : goal.returns-clause-items
returns-clause-items c =
    let p = λ (v : Inode). v.number == c.args.changed.number in
    let xs = c.args.records.now.items in
    let found = position_from_yields_List p _ _ c.position-place.result c.position-place.ensures.ran
    (YieldsList-from_deque xs c.iter.ensures.rest) (λ x b q k. search (rules, tests)) in
    let place = found_place p xs c.position-place.result c.in-Some.place found c.in-Some.is in
    ap (λ i. slice_set xs i c.args.changed) place.0

pub returns-clause-record : goal.returns-clause-record
returns-clause-record c =
    let p = λ (v : Inode). v.number == c.args.changed.number in
    let xs = c.args.records.now.items in
    let found = position_from_yields_List p _ _ c.position-place.result c.position-place.ensures.ran
    (YieldsList-from_deque xs c.iter.ensures.rest) (λ x b q k. search (rules, tests)) in
    let place = found_place p xs c.position-place.result c.in-Some.place found c.in-Some.is in
    subst (λ ys. Replaces xs ys c.args.changed)
    (sym (ap (λ i. slice_set xs i c.args.changed) place.0))
    (replaces xs c.args.changed place.1)
