use Rattle.std.proofs.Common.{◌≡◌, ◌≢◌, ◌<◌, ◌⊎◌, length, sym, ap, ◌∙◌, subst, arith}
use Rattle.lfs_cache.specs.Contents.{IsLocked}
use Rattle.lfs_cache.specs.declared.cache.TheConstants.{LOCKED_LIMIT}
use Rattle.lfs_inodes.specs.Reading.{fields_of}
use Rattle.lfs_bmap.specs.declared.blocks.FileBlock.{FileBlock}
use Rattle.lfs_bmap.specs.declared.blocks.FileBlock.TheVariants.{Record}
use Rattle.lfs_bmap.specs.Blocks.{IsFileBlock, code_of, table_of, way_to}
use Rattle.lfs_bmap.specs.Reading.{read}
use Rattle.lfs_bmap.specs.Ways.{codes_on}
use Rattle.lfs_bmap.proofs.BlockLemmas.{same_block}
use Rattle.lfs_bmap.proofs.HolderLemmas.{table_of-is}
use Rattle.lfs_bmap.proofs.TableLemmas.{table_of-less}
use Rattle.lfs_staging.specs.Staging.{HasFrames, StagesBlock, StagesParents}
use Rattle.lfs_parts.specs.View.{key_of, tree_of, version_of}
use Rattle.lfs_parts.proofs.KeyLemmas.{code-other}
use Rattle.lfs_staging.proofs.KeptLemmas.{parents_own, parents_wait, table_again, table_parents}
use Rattle.lfs_staging.proofs.StagedLemmas.{parents_again}
use Rattle.lfs_parts.proofs.SameLogLemmas.{version-same}
use Rattle.lfs_staging.proofs.TakenLemmas.{block_room, frames_above}
use Rattle.lfs_staging.proofs.staging.+stage_parents.Goals as goal

pub returns-in-Record : goal.returns-in-Record
returns-in-Record t c =
    parents_own c.args.parts.now c.stage_own_record.new.parts c.args.inode.now.number c.args.block
    c.stage_own_record.ensures (sym c.table-table.ensures ∙ c.in-Record.is)

pub returns-then-waits : goal.returns-then-waits
returns-then-waits t c =
    let p = c.args.parts.now in let v = c.args.inode.now in
    let own = (c.requires.may.files.files v.number (fields_of v) c.requires.may.here).own_version in
    parents_wait p v.number c.args.block c.requires.may.files c.requires.may.parents
    (subst (λ n. IsLocked (key_of v.number n (code_of (table_of c.args.block))) p.cache) own
    (subst (λ b. IsLocked (key_of v.number v.version (code_of b)) p.cache) c.table-table.ensures
    (c.waits.ensures.0 c.if-waits.true)))

-- what holds a block's address has a lesser code, where it isn't the record
lesser : (block table : FileBlock) → IsFileBlock block → table ≡ table_of block → code_of table ≢ 0
    → code_of table < code_of block
lesser block table can is some =
    let other : code_of block ≢ 0 = λ none. some (ap code_of is
    ∙ ap (λ b. code_of (table_of b)) (same_block block Record can tt none)) in
    subst (λ x. code_of x < code_of block) (sym is) (table_of-less block other)

pub stage_parents-requires : goal.stage_parents-requires
stage_parents-requires t c =
    let p = c.args.parts.now in let v = c.args.inode.now in
    let some = code-other c.table-table.result c.in-Single.is in
    let other : code_of (table_of c.args.block) ≢ 0 = subst (λ x. code_of x ≢ 0) c.table-table.ensures some in
    let less = lesser c.args.block c.table-table.result c.requires.block c.table-table.ensures some in (
      omega (arith, c.decreases),
      (
        c.requires.may,
        (
          subst IsFileBlock (sym c.table-table.ensures) (table_of-is c.args.block c.requires.block),
          subst (λ x. HasFrames p v.number (codes_on (way_to (table_of x)))) (sym c.table-table.ensures)
              (frames_above p v.number (table_of c.args.block)
              (table_of-is c.args.block c.requires.block) other c.requires.room),
        ),
      ),
    )

pub stage_table-requires : goal.stage_table-requires
stage_table-requires t c =
    let p = c.args.parts.now in let q = c.stage_parents.new.parts in let v = c.args.inode.now in let x =
    table_of c.args.block in
    let some = code-other c.table-table.result c.in-Single.is in
    let other : code_of x ≢ 0 = subst (λ b. code_of b ≢ 0) c.table-table.ensures some in
    let parents = subst (λ b. StagesParents v.number b p q) c.table-table.ensures c.stage_parents.ensures in
    record {
      files = parents.files;
      inside = (parents_again p q v x c.requires.may parents).inside;
      here = parents.same.records v.number ∙ c.requires.may.here;
      block = subst IsFileBlock (sym c.table-table.ensures) (table_of-is c.args.block c.requires.block);
      other = some;
      room = subst (λ b. IsLocked (key_of v.number (version_of q v.number) (code_of b)) q.cache
          ⊎ (length q.cache.locked < LOCKED_LIMIT)) (sym c.table-table.ensures)
          (block_room p q v.number x (table_of-is c.args.block c.requires.block) other
          (version-same p q v.number parents.same.log) parents.takes parents.files.cache c.requires.room);
    }

pub returns-else-waits : goal.returns-else-waits
returns-else-waits t c =
    let p = c.args.parts.now in let q = c.stage_parents.new.parts in let r = c.stage_table.new.parts in let v =
    c.args.inode.now in let x = table_of c.args.block in
    let other : code_of x ≢ 0 = subst (λ b. code_of b ≢ 0) c.table-table.ensures
    (code-other c.table-table.result c.in-Single.is) in
    let parents = subst (λ b. StagesParents v.number b p q) c.table-table.ensures c.stage_parents.ensures in
    let staged = subst (λ b. StagesBlock v.number b (read (tree_of q v.number) (way_to b)) q r) c.table-table.ensures
    c.stage_table.ensures in
    table_parents p r v.number c.args.block (table_again p q r v x c.requires.may
    (table_of-is c.args.block c.requires.block) other parents staged)
