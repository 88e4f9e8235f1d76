use Rattle.std.proofs.Common.{List, length, sym, ap, ◌∙◌}
use Rattle.std.specs.Prelude.{slice_get}
use Rattle.lfs_calls.proofs.CallLemmas.{still}
use Rattle.lfs_explain.specs.declared.trail.ShownRow.{ShownRow}
use Rattle.lfs_explain.proofs.LookLemmas.{trail_stored}
use Rattle.lfs_explain.proofs.looking.trail.Goals as goal

pub ends_childless-is_childless-requires-clause-world : goal.ends_childless-is_childless-requires-clause-world
ends_childless-is_childless-requires-clause-world g c = let t = c.requires.world in
    (t.0, still c.rows_along.ensures.state t.1)

pub ends_childless-is_childless-requires-clause-used : goal.ends_childless-is_childless-requires-clause-used
ends_childless-is_childless-requires-clause-used g c row is =
    let t = c.requires.world in
    let here = still c.rows_along.ensures.state t.1 in
    trail_stored (g.F.FileStore.state c.rows_along.new.store).content t.0 here.shows here.tree c.args.names.now
    (length c.args.names.now) row
    (ap (λ (rs : List ShownRow). slice_get rs (length c.args.names.now))
    (sym (c.deref.ensures.value ∙ c.in_ok-rows.ensures.rows_along t.0 t.1)) ∙ is)
