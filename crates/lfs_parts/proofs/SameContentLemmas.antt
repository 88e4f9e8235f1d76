-- Files that read alike make the same content: `content_of-same`, and for one file `file_at-kept` and `file_at-same`. A
-- file is made of its record's attributes and of its data blocks, joined and cut at its size, and of nothing else of
-- the store; where a block lies is no part of it. The content is the files of all numbers of the table one after
-- another, so with the same files below as many numbers it is the same.
use Rattle.std.proofs.Common.{◌≡◌, ℕ, zero, suc, ◌+◌, ◌/◌, ◌<◌, List, ◌++◌, length, take, Option, None, Some, refl, sym}
use Rattle.std.proofs.Common.{ap, ◌∙◌, arith}
use Rattle.lfs_types.specs.Tree.{File, file_of, content_with}
use Rattle.lfs_inodes.specs.Attributes.{Attributes, stat_of}
use Rattle.lfs_inodes.specs.Reading.{Fields}
use Rattle.lfs_bmap.specs.Pieces.{file_bytes, joined}
use Rattle.lfs_bmap.specs.Reading.{Tree, data_block}
use Rattle.lfs_parts.specs.declared.parts.Parts.{Parts}
use Rattle.lfs_parts.specs.Files.{content_below, content_of, file_at, file_with}
use Rattle.lfs_parts.specs.View.{record_of, tree_of}
use Rattle.lfs_parts.proofs.FileLemmas.{file_at-none, file_at-some}

joined_same : (old new : ℕ → List ℕ) (n : ℕ) → ((k : ℕ) → new k ≡ old k) → joined new n ≡ joined old n
unfolding joined
joined_same old new zero same = refl
joined_same old new (suc n) same = ap (λ xs. xs ++ new n) (joined_same old new n same)
    ∙ ap (λ b. joined old n ++ b) (same n)

file_with_same : (t u : Tree) (f g : Fields) → g.attributes ≡ f.attributes → ((n : ℕ) → data_block u n ≡ data_block t n)
    → file_with u g ≡ file_with t f
file_with_same t u f g same blocks =
    ap (λ (x : Attributes). file_of (stat_of x) (file_bytes (data_block u) x.size)) same
    ∙ ap (λ xs. file_of (stat_of f.attributes) (take f.attributes.size xs))
    (joined_same (data_block t) (data_block u) ((f.attributes.size + 511) / 512) blocks)

-- the same attributes and the same blocks are the same file
pub file_at-same : (p q : Parts) (number : ℕ) (f g : Fields) → record_of p number ≡ Some f → record_of q number ≡ Some g
    → g.attributes ≡ f.attributes
    → ((n : ℕ) → data_block (tree_of q number) n ≡ data_block (tree_of p number) n) → file_at q number
    ≡ file_at p number
file_at-same p q number f g was is same blocks =
    file_at-some q number g is ∙ ap Some (file_with_same (tree_of p number) (tree_of q number) f g same blocks)
    ∙ sym (file_at-some p number f was)

-- so are the same record and the same blocks
record_cases : (o : Option Fields) → (P : Type 0) → (o ≡ None → P) → ((f : Fields) → o ≡ Some f → P) → P
record_cases None P none some = none refl
record_cases (Some f) P none some = some f refl

pub file_at-kept : (p q : Parts) (number : ℕ) → record_of q number ≡ record_of p number
    → ((n : ℕ) → data_block (tree_of q number) n ≡ data_block (tree_of p number) n)
    → file_at q number ≡ file_at p number
file_at-kept p q number record_ blocks =
    record_cases (record_of p number) (file_at q number ≡ file_at p number)
    (λ none. file_at-none q number (record_ ∙ none) ∙ sym (file_at-none p number none))
    (λ f is. file_at-same p q number f f is (record_ ∙ is) refl blocks)

below_same : (old new : ℕ → Option File) (n : ℕ) → ((k : ℕ) → k < n → new k ≡ old k) → content_below new n
    ≡ content_below old n
unfolding content_below
below_same old new zero same = refl
below_same old new (suc n) same =
    ap (λ o. content_with n o (content_below new n)) (same n (omega arith))
    ∙ ap (content_with n (old n)) (below_same old new n (λ k low. same k (omega arith)))

-- and the same files the same content
pub content_of-same : (p q : Parts) → length q.log.tables.rows ≡ length p.log.tables.rows
    → ((number : ℕ) → number < length p.log.tables.rows → file_at q number ≡ file_at p number)
    → content_of q ≡ content_of p
unfolding content_of
content_of-same p q rows same = ap (content_below (file_at q)) rows
    ∙ below_same (file_at p) (file_at q) (length p.log.tables.rows) same
