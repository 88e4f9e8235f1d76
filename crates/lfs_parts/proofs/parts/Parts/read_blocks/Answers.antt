use Rattle.std.proofs.Common.{ℕ, ◌+◌, ◌-◌, ◌*◌, ◌/◌, ◌<◌, length, refl, ap, subst, sym, ◌∙◌, arith}
use Rattle.lfs_types.specs.declared.block.TheConstants.{BLOCK_SIZE}
use Rattle.lfs_types.specs.Stored.{slice_of}
use Rattle.lfs_inodes.specs.Reading.{fields_of}
use Rattle.lfs_log.specs.Parts.{LogParts}
use Rattle.lfs_bmap.specs.Pieces.{Touches, file_bytes}
use Rattle.lfs_bmap.specs.Reading.{data_block}
use Rattle.lfs_bmap.proofs.PieceLemmas.{got_slice}
use Rattle.lfs_parts.specs.Filling.{IsCached}
use Rattle.lfs_parts.specs.View.{LiesIn, blocks_of, tree_of}
use Rattle.lfs_parts.proofs.FilledLemmas.{SameButClean-trans, same_files, same_records, same_trees}
use Rattle.lfs_parts.proofs.ReadLemmas.{filled_more, filled_all}
use Rattle.lfs_parts.proofs.SameLogLemmas.{present_kept}
use Rattle.lfs_parts.proofs.parts.Parts.read_blocks.Goals as goal

pub read_block-requires-clause-files : goal.read_block-requires-clause-files
read_block-requires-clause-files c = same_files c.args.self.now c.loop-index.self c.loop-index.invariant.kept
    c.requires.files

pub read_block-requires-clause-present : goal.read_block-requires-clause-present
read_block-requires-clause-present c =
    let v = c.args.inode.now in
    present_kept c.args.self.now c.loop-index.self v.number v.version c.loop-index.invariant.kept.log c.requires.present

pub read_block-requires-clause-here : goal.read_block-requires-clause-here
read_block-requires-clause-here c = same_records c.args.self.now c.loop-index.self c.loop-index.invariant.kept
    c.args.inode.now.number ∙ c.requires.here

pub read_block-requires-clause-inside : goal.read_block-requires-clause-inside
read_block-requires-clause-inside c =
    let p = c.args.self.now in
    let q = c.loop-index.self in
    let kept = c.loop-index.invariant.kept in
    let number = c.args.inode.now.number in
    subst (LiesIn (blocks_of q)) (sym (same_trees p q kept number))
    (subst (λ (l : LogParts). LiesIn (l.memory.segments * 64) (tree_of p number)) (sym kept.log) c.requires.inside)

pub loop-index-preserved : goal.loop-index-preserved
loop-index-preserved c =
    let p = c.args.self.now in
    let q = c.loop-index.self in
    let kept = c.loop-index.invariant.kept in
    let number = c.args.inode.now.number in
    let index = c.loop-index.index in
    record {
      whole = c.read_block.ensures.got.whole ∙ c.loop-index.invariant.whole;
      filled = filled_more (data_block (tree_of p number)) c.args.off index
          (data_block (tree_of q number) index) c.loop-index.into c.read_block.new.into
          c.loop-index.invariant.filled (ap (λ t. data_block t index) (same_trees p q kept number))
          c.read_block.ensures.got;
      kept = SameButClean-trans p q c.read_block.new.self kept c.read_block.ensures.kept;
      cached = λ n touched last. subst (λ k. IsCached number c.args.inode.now.version k c.read_block.new.self)
          (omega arith) c.read_block.ensures.cached;
    }

pub returns-clause-filled : goal.returns-clause-filled
returns-clause-filled c =
    let p = c.args.self.now in
    let v = c.args.inode.now in
    let t = tree_of p v.number in
    let size = v.size in
    let whole = c.loop-index.invariant.whole in
    let last : (n : ℕ) → Touches c.args.off (c.args.off + length c.loop-index.into) n → n < c.loop-index.index
    = λ n h.
    let to = c.blocks_touched-touched.ensures.touched n (subst (λ k. Touches c.args.off (c.args.off + k) n) whole h) in
    omega arith in
    got_slice (data_block t) size c.args.off c.loop-index.into
    (c.requires.files.files v.number (fields_of v) c.requires.here).padded (omega arith)
    (filled_all (data_block t) c.args.off c.loop-index.index c.loop-index.into c.loop-index.invariant.filled last)
    ∙ ap (slice_of (file_bytes (data_block t) size) c.args.off) whole

pub returns-clause-cached : goal.returns-clause-cached
returns-clause-cached c = λ some.
    let whole = c.loop-index.invariant.whole in
    let end = c.blocks_touched-touched.ensures.some (omega arith) in
    c.loop-index.invariant.cached ((c.args.off + length c.args.into.now - 1) / BLOCK_SIZE)
    (record { byte = c.args.off + length c.args.into.now - 1; from = omega arith; below = omega arith; there = refl })
    (omega arith)
