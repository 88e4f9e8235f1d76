use Rattle.std.proofs.Common.{sym, ◌∙◌}
use Rattle.lfs_calls.proofs.Directories.{dir_stored, directory_at}
use Rattle.lfs_calls.proofs.RowLemmas.{file_childless}
use Rattle.lfs_calls.proofs.StepLemmas.{child_listed}
use Rattle.lfs_explain.proofs.looking.child_of.Goals as goal

pub returns-then-not-is_directory-clause-child : goal.returns-then-not-is_directory-clause-child
returns-then-not-is_directory-clause-child g c w v =
    file_childless (g.F.FileStore.state c.args.store.now).content w v.shows c.args.dir c.in-Some.attrs c.in-Some.ensures
    v.tree (sym c.if-not-is_directory.ensures) c.args.name.now

pub look_up-requires-clause-stored : goal.look_up-requires-clause-stored
look_up-requires-clause-stored g c =
    dir_stored c.requires.world.1.shows c.args.dir c.in-Some.attrs c.in-Some.ensures (sym c.if-not-is_directory.ensures)

pub look_up-requires-clause-directory : goal.look_up-requires-clause-directory
look_up-requires-clause-directory g c =
    directory_at c.requires.world.1.shows c.args.dir c.in-Some.attrs c.in-Some.ensures
    (sym c.if-not-is_directory.ensures)

pub returns-clause-child : goal.returns-clause-child
returns-clause-child g c w v =
    sym (c.look_up.ensures.found
    ∙ child_listed (g.F.FileStore.state c.args.store.now).content w v.shows c.args.dir c.in-Some.attrs c.in-Some.ensures
    (sym c.if-not-is_directory.ensures) c.args.name.now)
