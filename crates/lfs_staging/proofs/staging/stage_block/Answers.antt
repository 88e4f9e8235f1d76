use Rattle.std.proofs.Common.{◌<◌, ◌⊎◌, length, refl, sym, subst}
use Rattle.lfs_cache.specs.Contents.{IsLocked}
use Rattle.lfs_parts.specs.View.{key_of}
use Rattle.lfs_staging.proofs.StagingLemmas.{staged_block}
use Rattle.lfs_staging.proofs.staging.stage_block.Goals as goal

pub returns : goal.returns
returns c =
    staged_block c.args.parts.now _ c.args.inode.now.number c.args.inode.now.version c.code.result c.args.block
    c.args.bytes.now c.requires.block c.requires.version c.code.ensures
    refl refl c.write.ensures.dirty c.write.ensures.others c.write.ensures.one_more
    c.write.ensures.none_more c.write.ensures.formed

pub write-requires : goal.write-requires
write-requires c =
    let v = c.args.inode.now in
    subst (λ k. IsLocked (key_of v.number v.version k) c.args.parts.now.cache
    ⊎ (length c.args.parts.now.cache.locked < 24)) (sym c.code.ensures) c.requires.room
