-- An entry stands in the list of all entries of a directory's bytes exactly where it stands in one of its blocks: `in_all`
-- and `in_block`, for NameLemmas. The list is the blocks' lists, one behind the other. So it is gone through by their number.
use Rattle.std.proofs.Common.{◌≡◌, ℕ, zero, suc, ◌<◌, ◌≤◌, List, ⊎_elim, subst, arith}
use Rattle.std.specs.List.{Contains}
use Rattle.std.proofs.lemmas.Bool.{cases_lt}
use Rattle.std.proofs.lemmas.List.Elements.{Contains-append_cases, Contains-append_left, Contains-append_right}
use Rattle.lfs_dirs.specs.Directory.{Entry}
use Rattle.lfs_dirs.specs.Reading.{entries_of}
use Rattle.lfs_calls.specs.Content.{block_at, entries_below}

pub in_all : (bytes : List ℕ) (k n : ℕ) (e : Entry) → k < n → Contains (entries_of (block_at bytes k)) e
    → Contains (entries_below bytes n) e
unfolding entries_below
in_all bytes k zero e low there = absurd (omega arith)
in_all bytes k (suc n) e low there = ⊎_elim
    (λ (before : k < n). Contains-append_left (entries_below bytes n) (entries_of (block_at bytes n)) e
    (in_all bytes k n e before there))
    (λ (past : n ≤ k). let last : k ≡ n = omega arith in
    Contains-append_right (entries_below bytes n) (entries_of (block_at bytes n)) e
    (subst (λ (j : ℕ). Contains (entries_of (block_at bytes j)) e) last there))
    (cases_lt k n)

-- an entry stands in one of the first blocks
pub record StandsBelow (bytes : List ℕ) (n : ℕ) (e : Entry) : Type 0 where
  pub block : ℕ
  pub below : block < n
  pub here : Contains (entries_of (block_at bytes block)) e

pub in_block : (bytes : List ℕ) (n : ℕ) (e : Entry) → Contains (entries_below bytes n) e → StandsBelow bytes n e
unfolding entries_below
in_block bytes zero e there = let below = there.1 in absurd (omega arith)
in_block bytes (suc n) e there = ⊎_elim
    (λ (front : Contains (entries_below bytes n) e). let s = in_block bytes n e front in
    let below = s.below in
    record { block = s.block; below = omega arith; here = s.here })
    (λ (last : Contains (entries_of (block_at bytes n)) e). record { block = n; below = omega arith; here = last })
    (Contains-append_cases (entries_below bytes n) (entries_of (block_at bytes n)) e there)
