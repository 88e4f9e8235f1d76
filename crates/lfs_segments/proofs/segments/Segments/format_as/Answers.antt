use Rattle.std.proofs.Common.{◌≡◌, ℕ, List, ◌*◌, ◌-◌, ◌∷◌, [], ap, replicate, subst, sym, ◌∙◌, arith}
use Rattle.lfs_types.specs.Blocks.{zero_block}
use Rattle.lfs_segments.specs.Log.{Expects}
use Rattle.lfs_segments.specs.Memory.{SegmentMemory, label, seen_with, written}
use Rattle.lfs_segments.specs.Rising.{IsRising}
use Rattle.lfs_segments.proofs.RisingLemmas.{rising-fresh}
use Rattle.lfs_segments.proofs.FilledLemmas.{written-first}
use Rattle.lfs_segments.proofs.MemoryLemmas.{fresh_laid_out}
use Rattle.lfs_segments.proofs.WritingLemmas.{Expects-fresh, fresh_is}
use Rattle.lfs_segments.proofs.segments.Segments.format_as.Goals as goal

pub invariant_of-result : goal.invariant_of-result
invariant_of-result c =
    let segments = c.args.segments in let inodes = c.args.inodes in
    let made : c.put.new.self ≡ label segments inodes ∷ replicate (segments * 64 - 1) zero_block =
    c.put.ensures
    ∙ ap (λ (blocks : List (List ℕ)). written blocks 0 (c.label.result ∷ [])) c.in_ok-blocks.ensures
    ∙ ap (λ (block : List ℕ). written (replicate (segments * 64) zero_block) 0 (block ∷ [])) c.label.ensures
    ∙ written-first (segments * 64) (label segments inodes) (omega arith) in
    rw made (fresh_laid_out c.args.serial segments inodes c.requires (omega arith) (omega arith))

pub returns-clause-laid_out : goal.returns-clause-laid_out
returns-clause-laid_out c = invariant_of-result c

pub returns-clause-ready : goal.returns-clause-ready
returns-clause-ready c =
    let segments = c.args.segments in let inodes = c.args.inodes in
    let made : c.put.new.self ≡ label segments inodes ∷ replicate (segments * 64 - 1) zero_block =
    c.put.ensures
    ∙ ap (λ (blocks : List (List ℕ)). written blocks 0 (c.label.result ∷ [])) c.in_ok-blocks.ensures
    ∙ ap (λ (block : List ℕ). written (replicate (segments * 64) zero_block) 0 (block ∷ [])) c.label.ensures
    ∙ written-first (segments * 64) (label segments inodes) (omega arith) in
    let ready : Expects (seen_with c.args.serial c.put.new.self 0 1) [] =
    rw made
    (subst (λ (m : SegmentMemory). Expects m []) (sym (fresh_is c.args.serial segments inodes (omega arith)))
    (Expects-fresh c.args.serial segments inodes (omega arith))) in
    ready

pub returns-clause-rising : goal.returns-clause-rising
returns-clause-rising c =
    let segments = c.args.segments in let inodes = c.args.inodes in
    let made : c.put.new.self ≡ label segments inodes ∷ replicate (segments * 64 - 1) zero_block =
    c.put.ensures
    ∙ ap (λ (blocks : List (List ℕ)). written blocks 0 (c.label.result ∷ [])) c.in_ok-blocks.ensures
    ∙ ap (λ (block : List ℕ). written (replicate (segments * 64) zero_block) 0 (block ∷ [])) c.label.ensures
    ∙ written-first (segments * 64) (label segments inodes) (omega arith) in
    let rising : IsRising (seen_with c.args.serial c.put.new.self 0 1) =
    rw made
    (subst (λ (m : SegmentMemory). IsRising m) (sym (fresh_is c.args.serial segments inodes (omega arith)))
    (rising-fresh c.args.serial segments inodes (omega arith))) in
    rising
