use Rattle.std.proofs.Common.{sym, subst}
use Rattle.std.proofs.lemmas.Result.{IfOk-weaker}
use Rattle.lfs_types.specs.Tree.{opening_world}
use Rattle.lfs_volume.specs.Journals.{Begins}
use Rattle.lfs_volume.proofs.JournalLemmas.{opening_begins}
use Rattle.lfs_volume.proofs.volume.Volume.new.Goals as goal

pub over-requires : goal.over-requires
over-requires g c = (opening_world, (opening_begins (g.F.FileStore.state c.args.store) c.requires).shown)

pub returns-clause-opening : goal.returns-clause-opening
returns-clause-opening g c =
    IfOk-weaker c.over.result _ _ (λ v is. subst (λ x. Begins (g.F.FileStore.state x.since) x.since_level opening_world)
    (sym is) (opening_begins (g.F.FileStore.state c.args.store) c.requires)) c.over.ensures
