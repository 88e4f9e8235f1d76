use Rattle.std.proofs.Common.{◌<◌, length, sym, ap, subst, ◌∙◌}
use Rattle.lfs_logstore.specs.States.{state_of}
use Rattle.lfs_calls.specs.Volumes.{HasWorld}
use Rattle.lfs_checking.proofs.VolumeLemmas.{below_rows}
use Rattle.lfs_checking.proofs.volume.check_names.Goals as goal

pub check_tree-requires : goal.check_tree-requires
check_tree-requires c = λ n used.
    let rows = c.inodes-numbers.ensures.inodes ∙ ap (λ p. length p.log.tables.rows) c.parts.ensures.parts in
    subst (λ k. n < k) (sym rows) (below_rows c.args.store.now n used)

pub returns-in-Ok-clause-world : goal.returns-in-Ok-clause-world
returns-in-Ok-clause-world c =
    subst (λ p. HasWorld (state_of p)) c.requires.flushed (subst HasWorld c.in-Ok.ensures.state c.in-Ok.ensures.ok)
