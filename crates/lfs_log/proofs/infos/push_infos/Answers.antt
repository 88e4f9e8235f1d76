use Rattle.std.proofs.Common.{◌++◌, ◌∷◌, [], List, ap, sym, ◌∙◌}
use Rattle.lfs_types.specs.declared.cleaner.BlockInfo.{BlockInfo}
use Rattle.lfs_log.specs.Infos.{block_infos}
use Rattle.lfs_log.proofs.ScanLemmas.{block_infos-file, file_kind}
use Rattle.lfs_log.proofs.infos.push_infos.Goals as goal

pub returns-in-Inodes : goal.returns-in-Inodes
unfolding block_infos
returns-in-Inodes c = rw c.in-Inodes.is c.push_inode_infos.ensures

pub returns-in-Data : goal.returns-in-Data
returns-in-Data c =
    c.push.ensures
    ∙ ap (λ (i : BlockInfo). c.args.infos.now ++ i ∷ []) c.info_of.ensures
    ∙ ap (λ (is : List BlockInfo). c.args.infos.now ++ is)
    (sym (block_infos-file c.args.address c.args.entry.now.number c.args.entry.now.version c.args.entry.now.block
    c.args.block.now (file_kind c.args.entry.now.block c.in-Data.is)))
