use Rattle.std.proofs.Common.{refl, sym, subst}
use Rattle.lfs_segwrite.proofs.BoundLemmas.{all_in_reach}
use Rattle.lfs_durable_store.specs.Answering.{WritesFirst}
use Rattle.lfs_durable_store.specs.Keeping.{Durably}
use Rattle.lfs_durable_store.proofs.ApplyLemmas.{came_applies, came_from, came_kept, refused_from}
use Rattle.lfs_durable_store.proofs.store.DurableStore.make_changes.Goals as goal

-- the store before the changes, and behind them
abbrev before : goal.After-self-1 → Durably
before c = record { store = c.self.inside.store; base = c.self.inside.base.value; mark = c.self.inside.mark }

abbrev new : goal.After-self-1 → Durably
new c = record {
  store = c.settle_if_past-self-inside.new.store;
  base = c.settle_if_past-self-inside.new.base.value;
  mark = record { is_whole = c.settle_if_past-self-inside.result; turn = c.self.inside.mark.turn };
}

-- way was made from another one
way : (c : goal.After-self-1) (first : Durably) → WritesFirst c.args.changes.now first c.args.self.now
    → WritesFirst c.args.changes.now first (before c)
way c first was = subst (WritesFirst c.args.changes.now first) (sym c.self.view_is) was

pub invariant_of-self-2 : goal.invariant_of-self-2
invariant_of-self-2 c = came_kept c.args.changes.now c.args.by c.requires.way.0 (before c) c.apply.new.self (new c)
    (all_in_reach _ c.args.changes.now _ c.requires.can.few_bytes c.requires.can.each) c.self.invariant
    (way c c.requires.way.0 c.requires.way.1)
    c.in-Ok.ensures.made c.settle_if_past-self-inside.result c.settle_if_past-self-inside.ensures refl

pub returns-clause-applies : goal.returns-clause-applies
returns-clause-applies c first was = came_applies c.args.changes.now c.args.by first (before c) c.apply.new.self (new c)
    (all_in_reach _ c.args.changes.now _ c.requires.can.few_bytes c.requires.can.each) c.self.invariant (way c first was)
    c.in-Ok.ensures.made c.settle_if_past-self-inside.result c.settle_if_past-self-inside.ensures refl
    c.in-Ok.ensures.applies

pub returns-clause-made : goal.returns-clause-made
returns-clause-made c first was = came_from c.args.changes.now c.args.by first (before c) c.apply.new.self (new c)
    (all_in_reach _ c.args.changes.now _ c.requires.can.few_bytes c.requires.can.each) c.self.invariant (way c first was)
    c.in-Ok.ensures.made c.settle_if_past-self-inside.result c.settle_if_past-self-inside.ensures refl
    c.args.self.now c.self.view_is

pub returns-in-Err-clause-made : goal.returns-in-Err-clause-made
returns-in-Err-clause-made c first was =
    let stood : Durably = record { store = c.self.inside.store; base = c.self.inside.base.value; mark = c.self.inside.mark } in
    refused_from c.args.changes.now c.args.by first stood c.in-Err.refusal c.apply.new.self c.self.invariant
    (subst (WritesFirst c.args.changes.now first) (sym c.self.view_is) was) c.in-Err.ensures.made
    (record { store = c.apply.new.self; base = c.self.inside.base.value; mark = c.self.inside.mark })
    c.args.self.now refl c.self.view_is
