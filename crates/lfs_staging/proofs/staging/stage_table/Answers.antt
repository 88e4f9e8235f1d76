use Rattle.std.proofs.Common.{sym, ap, ◌∙◌, subst, inl, inr}
use Rattle.lfs_inodes.specs.Reading.{fields_of}
use Rattle.lfs_bmap.specs.Blocks.{code_of, way_to}
use Rattle.lfs_bmap.specs.Reading.{read}
use Rattle.lfs_staging.specs.Staging.{StagesBlock}
use Rattle.lfs_cache.specs.Contents.{IsLocked}
use Rattle.lfs_parts.specs.View.{LiesIn, blocks_of, key_of}
use Rattle.lfs_parts.proofs.FileLemmas.{tree_from-of}
use Rattle.lfs_staging.proofs.KeptLemmas.{table_staged}
use Rattle.lfs_staging.proofs.staging.stage_table.Goals as goal

pub block_of-requires-clause-inside : goal.block_of-requires-clause-inside
block_of-requires-clause-inside c =
    let p = c.args.parts.now in
    let v = c.args.inode.now in
    let same = tree_from-of p v.number v c.requires.here (c.requires.files.files v.number (fields_of v) c.requires.here)
    in
    subst (LiesIn (blocks_of p)) (sym same) c.requires.inside

pub returns-then-waits : goal.returns-then-waits
returns-then-waits c =
    let p = c.args.parts.now in
    let v = c.args.inode.now in
    let own = (c.requires.files.files v.number (fields_of v) c.requires.here).own_version in
    table_staged p v.number c.args.table c.requires.files.cache
    (subst (λ version. IsLocked (key_of v.number version (code_of c.args.table)) p.cache) own
    (c.waits.ensures.0 c.if-waits.true))

pub stage_block-requires-clause-version : goal.stage_block-requires-clause-version
stage_block-requires-clause-version c =
    (c.requires.files.files c.args.inode.now.number (fields_of c.args.inode.now) c.requires.here).own_version

pub returns : goal.returns
returns c =
    let p = c.args.parts.now in
    let v = c.args.inode.now in
    let same = tree_from-of p v.number v c.requires.here (c.requires.files.files v.number (fields_of v) c.requires.here)
    in
    subst (λ bytes. StagesBlock v.number c.args.table bytes p c.stage_block.new.parts) (c.block_of.ensures
    ∙ ap (λ t. read t (way_to c.args.table)) same) c.stage_block.ensures

pub stage_block-requires-clause-room : goal.stage_block-requires-clause-room
stage_block-requires-clause-room c =
    let p = c.args.parts.now in
    let v = c.args.inode.now in
    let own = (c.requires.files.files v.number (fields_of v) c.requires.here).own_version in
    elim c.requires.room [
      | inl locked ↦ inl (subst (λ version. IsLocked (key_of v.number version (code_of c.args.table)) p.cache)
          (sym own) locked)
      | inr few ↦ inr few
    ]
