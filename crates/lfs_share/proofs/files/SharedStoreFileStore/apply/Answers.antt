use Rattle.std.proofs.Common.{◌+◌, ◌≤◌, All, Result, Ok, subst, sym, arith}
use Rattle.lfs_types.specs.declared.store.StoreRefusal.{StoreRefusal}
use Rattle.lfs_parts.specs.declared.parts.Parts.{Parts}
use Rattle.lfs_share.specs.Answering.{ComesTo}
use Rattle.lfs_share.specs.Growing.{IsEven}
use Rattle.lfs_logstore.specs.States.{state_of}
use Rattle.lfs_segwrite.proofs.BoundLemmas.{all_in_reach}
use Rattle.lfs_share.proofs.GrowthLemmas.{even_growth, grown_share, growth_most}
use Rattle.lfs_share.specs.Share.{share_of, taken}
use Rattle.lfs_share.proofs.files.SharedStoreFileStore.apply.Goals as goal

pub growth_of_all-growth-requires-clause-reach : goal.growth_of_all-growth-requires-clause-reach
growth_of_all-growth-requires-clause-reach c =
    all_in_reach _ c.args.changes.now _ c.requires.few_bytes c.requires.each

pub growth_of_all-growth-requires-clause-few : goal.growth_of_all-growth-requires-clause-few
growth_of_all-growth-requires-clause-few c =
    let few = growth_most (state_of c.self.inside.store).content c.args.changes.now
    (all_in_reach _ c.args.changes.now _ c.requires.few_bytes c.requires.each) in
    omega (arith, c.requires.few, few)

pub may_grow-requires-clause-few : goal.may_grow-requires-clause-few
may_grow-requires-clause-few c =
    let few = growth_most (state_of c.self.inside.store).content c.args.changes.now
    (all_in_reach _ c.args.changes.now _ c.requires.few_bytes c.requires.each) in
    omega (arith, c.requires.few, few, c.growth_of_all-growth.ensures)

pub overflow_add-self : goal.overflow_add-self
overflow_add-self c = omega (arith, c.may_grow.ensures.fits c.if-not-may_grow.false)

-- what the files take behind the changes
held : (c : goal.After-self-1) → let new = state_of c.apply_behind.new.store in
    let most = c.may_grow.new.most + c.growth_of_all-growth.result in
    (taken new.shape.numbers new.content ≤ most) × (most ≤ share_of new.shape.segments)
held c = grown_share c.self.inside.store c.make_way.new.store c.apply_behind.new.store c.args.changes.now
    c.may_grow.new.most c.growth_of_all-growth.result c.make_way.ensures.content c.make_way.ensures.shape
    c.apply_behind.ensures.applied c.apply_behind.ensures.shape c.growth_of_all-growth.ensures
    c.may_grow.ensures.least (c.may_grow.ensures.may c.if-not-may_grow.false)

pub invariant_of-self-2 : goal.invariant_of-self-2
invariant_of-self-2 c = (c.apply_behind.ensures.kept, (held c).0, (held c).1)

pub returns-clause-within : goal.returns-clause-within
returns-clause-within c = omega (arith, (held c).0, (held c).1)

pub returns-clause-made : goal.returns-clause-made
returns-clause-made c =
    let result : Result (Unit {0}) StoreRefusal = Ok tt in
    let few = c.may_grow.ensures.least in
    let may = c.may_grow.ensures.may c.if-not-may_grow.false in
    let growth = c.growth_of_all-growth.ensures in
    let both = held c in
    subst (λ (p : Parts). ComesTo p c.args.changes.now c.args.by result c.apply_behind.new.store) c.self.view_is (record {
      makes = record {
        between = c.make_way.new.store;
        room = c.make_way.ensures;
        makes = c.apply_behind.ensures.makes;
      };
      fits = λ passes. let past = passes.past in omega (arith, past, few, may, growth);
      refused = tt;
      past = tt;
      cause = tt;
      within = omega (arith, both.0, both.1);
    })

pub returns-then-not-may_grow-clause-even : goal.returns-then-not-may_grow-clause-even
returns-then-not-may_grow-clause-even c even =
    let old = c.self.inside.store in
    let changes = c.args.changes.now in
    let none = even_growth (state_of old).content changes
    (subst (λ (p : Parts). All (IsEven (state_of p).content) changes) (sym c.self.view_is) even) in
    omega (
      arith,
      none,
      c.may_grow.ensures.not c.if-not-may_grow.true,
      c.growth_of_all-growth.ensures,
      c.may_grow.ensures.least,
      c.may_grow.ensures.within,
    )
