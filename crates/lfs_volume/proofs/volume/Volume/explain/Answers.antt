use Rattle.std.proofs.Common.{◌≡◌, sym, subst}
use Rattle.std.specs.Prelude.{IfOk}
use Rattle.lfs_model.specs.Rules.{rule_table}
use Rattle.lfs_model.specs.Steps.{world_after}
use Rattle.lfs_explain.specs.Asked.{asked}
use Rattle.lfs_explain.specs.Trails.{IsTrail, first_names, second_names}
use Rattle.lfs_volume.specs.Journals.{AtPresent, IsJournal}
use Rattle.std.proofs.lemmas.Result.{IfOk-weaker}
use Rattle.lfs_volume.proofs.volume.Volume.explain.Goals as goal

pub explain-requires : goal.explain-requires
explain-requires g c =
    let begun = c.self.invariant.0 in (
      world_after (g.F.FileStore.state c.self.inside.store).shape.numbers c.self.inside.journal.items begun.0,
      (c.self.invariant.1 begun.0 begun.1).shown,
    )

pub invariant_of-self : goal.invariant_of-self
invariant_of-self g c = (
  c.self.invariant.0,
  λ from begins. subst (λ s. IsJournal from s c.self.inside.level c.self.inside.journal.items c.self.inside.limit)
      (sym c.explain.ensures.state) (c.self.invariant.1 from begins),
  c.self.invariant.2,
  c.self.invariant.3,
)

pub returns-clause-checks : goal.returns-clause-checks
returns-clause-checks g c =
    subst (λ v. AtPresent g.F.FileStore.state v
    (λ w. IfOk c.explain.result (λ e. e.checks.items ≡ asked (rule_table w c.args.cred.now c.args.request.now))))
    c.self.view_is
    (λ from begins. let j = c.self.invariant.1 from begins in
    IfOk-weaker c.explain.result _ _ (λ e h. h
    (world_after (g.F.FileStore.state c.self.inside.store).shape.numbers c.self.inside.journal.items from) j.shown
    j.at_level) c.explain.ensures.checks)

pub returns-clause-first : goal.returns-clause-first
returns-clause-first g c =
    subst (λ v. AtPresent g.F.FileStore.state v
    (λ w. IfOk c.explain.result (λ e. IsTrail w.rows (first_names c.args.request.now) e.first))) c.self.view_is
    (λ from begins. let j = c.self.invariant.1 from begins in
    IfOk-weaker c.explain.result _ _ (λ e h. h
    (world_after (g.F.FileStore.state c.self.inside.store).shape.numbers c.self.inside.journal.items from) j.shown)
    c.explain.ensures.first)

pub returns-clause-second : goal.returns-clause-second
returns-clause-second g c =
    subst (λ v. AtPresent g.F.FileStore.state v
    (λ w. IfOk c.explain.result (λ e. IsTrail w.rows (second_names c.args.request.now) e.second))) c.self.view_is
    (λ from begins. let j = c.self.invariant.1 from begins in
    IfOk-weaker c.explain.result _ _ (λ e h. h
    (world_after (g.F.FileStore.state c.self.inside.store).shape.numbers c.self.inside.journal.items from) j.shown)
    c.explain.ensures.second)
