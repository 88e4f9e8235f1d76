use Rattle.lfs_trees.proofs.FileLemmas.{has_whole}
use Rattle.lfs_trees.proofs.reading.blocks_of.Goals as goal

pub returns-then-is_directory : goal.returns-then-is_directory
returns-then-is_directory g c = let h = c.in_ok-attrs.was in let i = c.in_ok-attrs.is in let j =
    c.if-is_directory.true in
    has_whole (g.F.FileStore.state c.args.store.now).content c.args.number c.in_ok-attrs.attrs c.requires (cc) (cc)
