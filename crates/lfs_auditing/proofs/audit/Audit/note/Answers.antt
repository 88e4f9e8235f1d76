use Rattle.std.proofs.Common.{[], ◌∷◌, ◌++◌, sym, subst}
use Rattle.lfs_auditing.specs.Users.{AreCounted}
use Rattle.lfs_auditing.proofs.audit.Audit.note.Goals as goal

pub returns-clause-users : goal.returns-clause-users
returns-clause-users c es counted =
    subst (λ u. AreCounted u.counts (es ++ c.args.entry.now ∷ [])) (sym c.note_event.ensures.users)
    (c.in_ok-add.ensures es counted)
