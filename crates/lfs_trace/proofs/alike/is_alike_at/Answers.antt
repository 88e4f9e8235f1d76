use Rattle.std.proofs.Common.{sym, ◌∙◌}
use Rattle.lfs_calls.proofs.Directories.{dir_stored}
use Rattle.lfs_trace.proofs.alike.is_alike_at.Goals as goal

pub lists_all-requires-clause-stored : goal.lists_all-requires-clause-stored
lists_all-requires-clause-stored g c =
    dir_stored c.requires.plain.1.shows c.args.number c.in-Some-Some.attrs c.in-Some-Some.ensures
    (sym c.is_directory.ensures ∙ c.if-not-is_directory.false)
