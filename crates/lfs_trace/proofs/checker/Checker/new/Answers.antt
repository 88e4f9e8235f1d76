use Rattle.std.proofs.Common.{◌≡◌, sym, ap, ◌∙◌}
use Rattle.lfs_flatfiles.specs.FlatFiles.{opening_state}
use Rattle.lfs_types.specs.StoreStates.{StoreState}
use Rattle.lfs_types.specs.Tree.{opening_world}
use Rattle.lfs_trace.specs.Checking.{plain_state}
use Rattle.lfs_trace.proofs.CheckLemmas.{opening_stands}
use Rattle.lfs_trace.proofs.checker.Checker.new.Goals as goal

pub invariant_of-result : goal.invariant_of-result
invariant_of-result c =
    let same : plain_state c.in_ok-store.store ≡ opening_state c.args.numbers = ap plain_state c.in_ok-store.ensures
    ∙ c.in_ok-files.ensures.opening in (
      sym (ap (λ (s : StoreState). s.shape.numbers) same),
      opening_world,
      opening_stands c.in_ok-store.store c.args.numbers c.args.segments same,
    )

pub returns-clause-opening : goal.returns-clause-opening
returns-clause-opening c =
    opening_stands c.in_ok-store.store c.args.numbers c.args.segments (ap plain_state c.in_ok-store.ensures
    ∙ c.in_ok-files.ensures.opening)
