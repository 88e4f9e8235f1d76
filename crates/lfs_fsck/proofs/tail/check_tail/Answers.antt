use Rattle.std.proofs.Common.{◌<◌, ◌+◌, ◌*◌, ◌/◌, ℕ, sym, ap, subst, ◌∙◌, arith}
use Rattle.std.specs.Prelude.{slice_index}
use Rattle.std.proofs.lemmas.Bool.{false≢true}
use Rattle.lfs_inodes.specs.Reading.{fields_of}
use Rattle.lfs_bmap.specs.declared.blocks.FileBlock.TheVariants.{Data}
use Rattle.lfs_bmap.specs.Blocks.{way_to}
use Rattle.lfs_bmap.specs.Reading.{bytes_via, data_block}
use Rattle.lfs_parts.specs.View.{tree_of}
use Rattle.lfs_fsck.specs.Stored.{flushed}
use Rattle.lfs_fsck.proofs.KeyLemmas.{lie_below}
use Rattle.lfs_fsck.proofs.TailLemmas.{data_logged, is_padded, last_zeros}
use Rattle.lfs_fsck.proofs.tail.check_tail.Goals as goal

pub returns-then-start-eq0-clause-ok : goal.returns-then-start-eq0-clause-ok
returns-then-start-eq0-clause-ok c =
    is_padded c.args.log.now c.args.inode.now c.requires.parts c.requires.own c.requires.kept
    (λ k some from low. absurd (some c.if-start-eq0.true))

pub address_of-address-requires-clause-inside : goal.address_of-address-requires-clause-inside
address_of-address-requires-clause-inside c =
    let least = c.requires.parts.laid_out.at_least in
    let sized = c.args.inode.now.sized in
    let some = c.if-start-eq0.false in
    lie_below c.args.log.now c.args.inode.now.number (131 + c.args.inode.now.size / 512)
    (λ code low. c.requires.kept code (omega (arith, sized.0))) (omega arith)

pub bytes_at-requires : goal.bytes_at-requires
bytes_at-requires c =
    let least = c.requires.parts.laid_out.at_least in
    let sized = c.args.inode.now.sized in
    let some = c.if-start-eq0.false in
    let n : ℕ = c.args.inode.now.size / 512 in
    let lie = lie_below c.args.log.now c.args.inode.now.number (131 + n + 1)
    (λ code low. c.requires.kept code (omega (arith, sized.0))) (omega arith) in
    subst (λ a. a < c.args.log.now.memory.segments * 64) (sym c.address_of-address.ensures)
    (lie.each (Data n) (omega (arith, sized.0)) (omega arith))

pub returns-then-is_zero_from-clause-ok : goal.returns-then-is_zero_from-clause-ok
returns-then-is_zero_from-clause-ok c =
    let l = c.args.log.now in
    let v = c.args.inode.now in
    let t = tree_of (flushed l) v.number in
    let n : ℕ = v.size / 512 in
    let sized = v.sized in
    let some = c.if-start-eq0.false in
    is_padded l v c.requires.parts c.requires.own c.requires.kept (λ k other from low.
    ap (λ b. slice_index b k)
    (data_logged l v c.requires.parts c.requires.own c.requires.kept n (omega (arith, sized.0))
    ∙ ap (bytes_via t (way_to (Data n))) (sym c.address_of-address.ensures)
    ∙ sym (c.bytes_at.ensures v.number (way_to (Data n))))
    ∙ c.is_zero_from.ensures.0 c.if-is_zero_from.true k from low)

pub returns-else-is_zero_from-clause-fault : goal.returns-else-is_zero_from-clause-fault
returns-else-is_zero_from-clause-fault c =
    let l = c.args.log.now in
    let v = c.args.inode.now in
    let t = tree_of (flushed l) v.number in
    let n : ℕ = v.size / 512 in
    let sized = v.sized in
    let some = c.if-start-eq0.false in
    record {
      fields = fields_of v;
      is = c.requires.own.is;
      not_padded = λ padded. false≢true (sym c.if-is_zero_from.false ∙ c.is_zero_from.ensures.1 (λ k from low.
          ap (λ b. slice_index b k)
          (c.bytes_at.ensures v.number (way_to (Data n))
          ∙ ap (bytes_via t (way_to (Data n))) c.address_of-address.ensures
          ∙ sym (data_logged l v c.requires.parts c.requires.own c.requires.kept n (omega (arith, sized.0))))
          ∙ last_zeros (data_block t) v.size k padded from low));
    }
