use Rattle.std.proofs.Common.{false, sym, ◌∙◌}
use Rattle.lfs_model.proofs.Members.{children-none}
use Rattle.lfs_model.proofs.Trees.{no_parent}
use Rattle.lfs_calls.proofs.Directories.{dir_stored}
use Rattle.lfs_calls.proofs.RowLemmas.{directory_empty}
use Rattle.lfs_calls.proofs.StepLemmas.{directory_reads}
use Rattle.lfs_explain.proofs.looking.is_childless.Goals as goal

pub returns-then-not-is_directory-clause-childless : goal.returns-then-not-is_directory-clause-childless
returns-then-not-is_directory-clause-childless g c w v =
    sym (children-none w.rows c.args.number
    (no_parent w.rows v.tree c.args.number
    (directory_reads (g.F.FileStore.state c.args.store.now).content w v.shows c.args.number c.in-Some.attrs
    c.in-Some.ensures ∙ sym c.if-not-is_directory.ensures)))

pub is_empty_directory-requires : goal.is_empty_directory-requires
is_empty_directory-requires g c =
    dir_stored c.requires.world.1.shows c.args.number c.in-Some.attrs c.in-Some.ensures
    (sym c.if-not-is_directory.ensures)

pub returns-clause-childless : goal.returns-clause-childless
returns-clause-childless g c w v =
    directory_empty (g.F.FileStore.state c.args.store.now).content w v.shows c.args.number c.in-Some.attrs
    c.in-Some.ensures (sym c.if-not-is_directory.ensures)
    c.is_empty_directory.result c.is_empty_directory.ensures.empty
