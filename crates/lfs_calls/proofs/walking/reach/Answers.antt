use Rattle.std.proofs.Common.{Err, sym, ap, subst, ◌∙◌}
use Rattle.std.proofs.lemmas.Result.{err_from_is_err_and}
use Rattle.lfs_types.specs.Stored.{shown_attrs}
use Rattle.lfs_types.specs.Tree.{root}
use Rattle.lfs_calls.specs.Reaches.{Reaches}
use Rattle.lfs_calls.proofs.CallLemmas.{still}
use Rattle.lfs_calls.proofs.StateLemmas.{same_content}
use Rattle.lfs_calls.proofs.StepLemmas.{walked-stored, root_stored, not_shown}
use Rattle.lfs_calls.proofs.walking.reach.Goals as goal

pub returns-in_err-number-clause-reach : goal.returns-in_err-number-clause-reach
returns-in_err-number-clause-reach g c w v =
    let p = err_from_is_err_and c.from_residual.result c.from_residual.ensures.1 in
    subst (Reaches (g.F.FileStore.state c.args.store.now).content w.rows c.args.cred.now c.args.path c.args.names.now)
    (sym (p.1 ∙ ap Err p.2)) (sym (c.in_err-number.ensures.walk w v))

pub unreachable-requires : goal.unreachable-requires
unreachable-requires g c =
    let t = c.requires.world in
    let here = still c.walk.ensures.state t.1 in
    not_shown (g.F.FileStore.state c.walk.new.store).content c.in_ok-number.number
    (walked-stored (g.F.FileStore.state c.walk.new.store).content t.0 here.shows c.args.cred.now c.args.path 0 root
    c.args.names.now c.in_ok-number.number
    (root_stored (g.F.FileStore.state c.walk.new.store).content t.0 here.shows here.tree)
    (sym (c.in_ok-number.ensures.walk t.0 t.1)))
    c.in-None.ensures.attrs

pub returns-clause-reach : goal.returns-clause-reach
returns-clause-reach g c w v = (
  sym (c.in_ok-number.ensures.walk w v),
  c.in-Some.ensures.attrs
      ∙ ap (λ x. shown_attrs x c.in_ok-number.number) (same_content c.walk.ensures.state),
)
