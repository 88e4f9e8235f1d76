use Rattle.std.proofs.Common.{◌≡◌, ◌∷◌, [], refl, subst, sym, ap, ◌∙◌, arith}
use Rattle.lfs_segments.specs.Log.{Expects, Extends}
use Rattle.lfs_segments.specs.Memory.{SegmentMemory, appended, block_at, next_address}
use Rattle.lfs_segments.specs.Rising.{IsRising}
use Rattle.lfs_segments.proofs.RisingLemmas.{rising-put}
use Rattle.lfs_segments.proofs.WritingLemmas.{Expects-put, Extends-appended, block_at-put, entry_at-put}
use Rattle.lfs_segments.proofs.segments.Segments.put.Goals as goal

-- the block alone is written
put_is : (c : goal.After-append) → c.append.new.self ≡ appended c.args.self.now (c.args.block.now ∷ [])
put_is c = c.append.ensures.appended ∙ ap (appended c.args.self.now) c.from_ref.ensures.value

pub returns-clause-written : goal.returns-clause-written
returns-clause-written c = put_is c

pub returns-clause-block : goal.returns-clause-block
returns-clause-block c =
    ap (block_at c.append.new.self) c.append.ensures.address
    ∙ ap (λ (m : SegmentMemory). block_at m (next_address c.args.self.now)) (put_is c)
    ∙ block_at-put c.args.self.now c.args.block.now c.append.ensures.was_laid_out c.requires

pub returns-clause-expects : goal.returns-clause-expects
returns-clause-expects c = λ entry entries before.
    let fit = before.fit in
    subst (λ (m : SegmentMemory). Expects m entries) (sym (put_is c))
    (Expects-put c.args.self.now c.args.block.now c.append.ensures.was_laid_out c.requires (entry
    ∷ entries) entries before refl (omega arith))

pub returns-clause-names : goal.returns-clause-names
returns-clause-names c = λ entry entries before. rw (put_is c, c.append.ensures.address)
    (entry_at-put c.args.self.now c.args.block.now c.append.ensures.was_laid_out c.requires (entry ∷ entries) before)

pub returns-clause-extends : goal.returns-clause-extends
returns-clause-extends c = subst (λ (m : SegmentMemory). Extends c.args.self.now m) (sym (put_is c))
    (Extends-appended c.args.self.now (c.args.block.now ∷ []) c.append.ensures.was_laid_out c.requires)

pub returns-clause-serial : goal.returns-clause-serial
returns-clause-serial c = ap (λ (m : SegmentMemory). m.serial) (put_is c)

pub returns-clause-rising : goal.returns-clause-rising
returns-clause-rising c = λ entry entries before.
    let old = c.args.self.now in
    let block = c.args.block.now in
    let laid = c.append.ensures.was_laid_out in
    let fit = before.fit in
    subst (λ (m : SegmentMemory). IsRising old → IsRising m) (sym (put_is c))
    (rising-put old (appended old (block ∷ [])) entry entries laid (Extends-appended old (block ∷ []) laid c.requires) refl
    (omega arith) before
    (Expects-put old block laid c.requires (entry ∷ entries) entries before refl (omega arith)))
