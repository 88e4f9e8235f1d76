-- A name that is looked for in the blocks of a directory, where some are passed over: `absent_below` and `absent_passed`
-- for the loops of `search` and `take_name`. A block is passed over only where the name isn't listed there. And the
-- names of all blocks, one block after the other, for `learn_names`: `entered_further` and `all_placed`.
use Rattle.std.proofs.Common.{◌≡◌, ℕ, zero, suc, ◌+◌, ◌*◌, ◌/◌, ◌<◌, ◌≤◌, List, length, None}
use Rattle.std.proofs.Common.{sym, ap, subst, ◌∙◌, ⊎_elim, arith, nat_lt, length-take, length-drop}
use Rattle.std.specs.Prelude.{IsSome}
use Rattle.std.proofs.lemmas.Bool.{cases_Bool, cases_eq, ltb-true, ltb-false}
use Rattle.lfs_dirs.specs.Directory.{number_in}
use Rattle.lfs_dirs.specs.Reading.{entries_of}
use Rattle.lfs_dirs.proofs.Changes.{number_in-nil}
use Rattle.lfs_dirs.proofs.Laws.{entries_of-short}
use Rattle.lfs_known.specs.Spots.{IsPlaced, MayStand, StandsAt}
use Rattle.lfs_known.specs.declared.spot.Spot.{Spot}
use Rattle.lfs_known.proofs.SpotLemmas.{Keeps}
use Rattle.lfs_calls.specs.Content.{all_entries, block_at, entries_below}
use Rattle.lfs_calls.proofs.Listings.{absent_at_first, absent_further}

-- ---- a name

-- a name is in none of the first blocks
abbrev pub IsAbsentBefore : List ℕ → List ℕ → ℕ → Type 0
IsAbsentBefore name bytes k = (j : ℕ) → j < k → number_in name (entries_of (block_at bytes j)) ≡ None

-- so none of their entries has it
pub absent_below : (name bytes : List ℕ) (k : ℕ) → IsAbsentBefore name bytes k
    → number_in name (entries_below bytes k) ≡ None
absent_below name bytes zero absent = absent_at_first name bytes
absent_below name bytes (suc k) absent =
    let next : k + 1 ≡ suc k = omega arith in
    subst (λ n. number_in name (entries_below bytes n) ≡ None) next
    (absent_further name bytes k (absent_below name bytes k (λ j low. absent j (omega (arith, low))))
    (absent k (omega arith)))

-- nor any entry of a directory of so many blocks or fewer
pub absent_in_all : (name bytes : List ℕ) (size k : ℕ) → size ≡ length bytes → size / 512 ≤ k
    → IsAbsentBefore name bytes k → number_in name (all_entries bytes) ≡ None
absent_in_all name bytes size k same past absent =
    let count : length bytes / 512 ≡ size / 512 = ap (λ n. n / 512) (sym same) in
    absent_below name bytes (length bytes / 512) (λ j low. absent j (omega (arith, low, count, past)))

-- nor is it in more of them, where it isn't in the next, and those behind that are passed over
pub absent_passed : (name bytes : List ℕ) (k next : ℕ) → IsAbsentBefore name bytes k
    → number_in name (entries_of (block_at bytes k)) ≡ None
    → ((j : ℕ) → k + 1 ≤ j → j < next → number_in name (entries_of (block_at bytes j)) ≡ None)
    → IsAbsentBefore name bytes next
absent_passed name bytes k next before here passed j low = ⊎_elim
    (λ h. before j (ltb-true j k h))
    (λ h.
    let behind : k ≤ j = ltb-false j k h in
    ⊎_elim
    (λ same. subst (λ i. number_in name (entries_of (block_at bytes i)) ≡ None) (sym same) here)
    (λ apart. passed j (omega (arith, behind, apart)) low)
    (cases_eq j k))
    (cases_Bool (nat_lt j k))

-- ---- all names

-- the names of the first blocks may stand where they do
abbrev pub AreEnteredBefore : List Spot → ℕ → List ℕ → ℕ → Type 0
AreEnteredBefore spots dir bytes k =
    (name : List ℕ) (j : ℕ) → j < k → StandsAt bytes name j → MayStand spots dir name j

-- and those of the next, where they were entered
pub entered_further : (old new : List Spot) (dir : ℕ) (bytes : List ℕ) (k : ℕ) (block : List ℕ)
    → block ≡ block_at bytes k → Keeps old new
    → ((name : List ℕ) → IsSome (number_in name (entries_of block)) → MayStand new dir name k)
    → AreEnteredBefore old dir bytes k → AreEnteredBefore new dir bytes (k + 1)
entered_further old new dir bytes k block is keeps names before name j low stands = ⊎_elim
    (λ same. subst (MayStand new dir name) (sym same) (names name
    (subst (λ b. IsSome (number_in name (entries_of b))) (ap (block_at bytes) same ∙ sym is) stands)))
    (λ apart. keeps dir name j (before name j (omega (arith, low, apart)) stands))
    (cases_eq j k)

-- behind the last block no name stands
nothing_behind : (bytes : List ℕ) (blocks : ℕ) (name : List ℕ) (j : ℕ) → length bytes ≡ 512 * blocks → blocks ≤ j
    → number_in name (entries_of (block_at bytes j)) ≡ None
nothing_behind bytes blocks name j long behind = ap (number_in name) (entries_of-short (block_at bytes j)
    (simp (length-take, length-drop) (omega (arith, long, behind)))) ∙ number_in-nil name

-- once those of all blocks were entered, all are placed
pub all_placed : (spots : List Spot) (dir : ℕ) (bytes : List ℕ) (blocks k : ℕ) → length bytes ≡ 512 * blocks
    → blocks ≤ k → AreEnteredBefore spots dir bytes k → IsPlaced spots dir bytes blocks
all_placed spots dir bytes blocks k long past before = record {
  long = long;
  stands = λ name j stands. ⊎_elim
      (λ h. before name j (ltb-true j k h) stands)
      (λ h.
      let behind : k ≤ j = ltb-false j k h in
      let none = nothing_behind bytes blocks name j long (omega (arith, behind, past)) in
      absurd (cc))
      (cases_Bool (nat_lt j k));
}
