use Rattle.std.proofs.Common.{◌≡◌, ◌<◌, ◌⊎◌, length, sym, ap, ◌∙◌, subst}
use Rattle.lfs_inodes.specs.Reading.{fields_of}
use Rattle.lfs_cache.specs.Contents.{IsLocked}
use Rattle.lfs_bmap.specs.Blocks.{code_of, way_to}
use Rattle.lfs_bmap.specs.Reading.{address, read}
use Rattle.lfs_staging.specs.Staging.{StagesBlock}
use Rattle.lfs_parts.specs.View.{blocks_of, key_of, tree_of}
use Rattle.lfs_parts.proofs.FileLemmas.{tree_from-of}
use Rattle.lfs_parts.proofs.SameLogLemmas.{block_known}
use Rattle.lfs_staging.proofs.KeptLemmas.{may_present, table_again}
use Rattle.lfs_parts.proofs.SameLogLemmas.{version-same}
use Rattle.lfs_staging.proofs.TakenLemmas.{block_room, frames_above}
use Rattle.lfs_parts.proofs.SameLogLemmas.{present_kept}
use Rattle.lfs_segwrite.proofs.marking.stage_moved.Goals as goal

pub bytes_to_move-bytes-requires-clause-inside : goal.bytes_to_move-bytes-requires-clause-inside
bytes_to_move-bytes-requires-clause-inside c =
    subst (λ a. a < blocks_of c.args.parts.now) c.requires.here
    (c.requires.may.inside.each c.args.block c.requires.block)

pub bytes_to_move-bytes-requires-clause-here : goal.bytes_to_move-bytes-requires-clause-here
bytes_to_move-bytes-requires-clause-here c =
    let p = c.args.parts.now in let v = c.args.inode.now in
    let same = tree_from-of p v.number v c.requires.may.here
    (c.requires.may.files.files v.number (fields_of v) c.requires.may.here) in
    ap (λ t. address t (way_to c.args.block)) same ∙ c.requires.here

pub stage_parents-requires-clause-room : goal.stage_parents-requires-clause-room
stage_parents-requires-clause-room c = frames_above c.args.parts.now c.args.inode.now.number c.args.block
    c.requires.block c.requires.other c.requires.room

pub stage_block-requires-clause-version : goal.stage_block-requires-clause-version
stage_block-requires-clause-version c =
    let v = c.args.inode.now in
    (present_kept c.args.parts.now c.stage_parents.new.parts v.number v.version c.stage_parents.ensures.same.log
    (may_present c.args.parts.now v c.requires.may)).at_version

pub stage_block-requires-clause-room : goal.stage_block-requires-clause-room
stage_block-requires-clause-room c =
    let p = c.args.parts.now in let q = c.stage_parents.new.parts in let v = c.args.inode.now in
    let parents = c.stage_parents.ensures in
    subst (λ n. IsLocked (key_of v.number n (code_of c.args.block)) q.cache ⊎ (length q.cache.locked < 24))
    (sym (stage_block-requires-clause-version c))
    (block_room p q v.number c.args.block c.requires.block c.requires.other
    (version-same p q v.number parents.same.log) parents.takes parents.files.cache c.requires.room)

-- the bytes are those that the block has, with its parents waiting too
pub returns : goal.returns
returns c =
    let p = c.args.parts.now in let q = c.stage_parents.new.parts in let v = c.args.inode.now in let block =
    c.args.block in
    let same = tree_from-of p v.number v c.requires.may.here
    (c.requires.may.files.files v.number (fields_of v) c.requires.may.here) in
    let parents = c.stage_parents.ensures in
    let bytes : c.bytes_to_move-bytes.result ≡ read (tree_of q v.number) (way_to block)
    = c.bytes_to_move-bytes.ensures ∙ ap (λ t. read t (way_to block)) same
    ∙ sym ((parents.same.readings v.number).bytes (way_to block) (block_known block c.requires.block)) in
    table_again p q c.stage_block.new.parts v block c.requires.may c.requires.block c.requires.other parents
    (subst (λ b. StagesBlock v.number block b q c.stage_block.new.parts) bytes c.stage_block.ensures)
