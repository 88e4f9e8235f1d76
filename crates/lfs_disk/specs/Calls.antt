-- The calls of a disk, and what is seen and may be left behind them.
use Rattle.std.specs.Prelude.{◌≡◌, ◌⊎◌, ℕ, ◌≤◌, ◌==◌, if◌then◌else◌, List, [], ◌∷◌, length, slice_set, take}
use Rattle.std.proofs.Common.{subst, sym}
use Rattle.std.proofs.Math.Nat.{le_refl}
use Rattle.std.proofs.lemmas.List.{take_all}
use Rattle.lfs_disk.specs.declared.calls.Call.{Call}
use Rattle.lfs_disk.specs.declared.calls.Call.TheVariants.{Written, Synced}

-- the blocks that are seen behind calls, the first of them first
unfoldable pub seen_after : List (List ℕ) → List Call → List (List ℕ)
seen_after blocks [] = blocks
seen_after blocks (Written address block ∷ calls) = seen_after (slice_set blocks address block) calls
seen_after blocks (Synced ∷ calls) = seen_after blocks calls

-- the block that is seen at an address behind a call, by the one that was before
abbrev pub behind_call : Call → ℕ → List ℕ → List ℕ
behind_call (Written at block) address before = if at == address then block else before
behind_call Synced address before = before

-- What a crash may leave behind calls, where it might have left such blocks before them: behind a write what it might
-- have left before it, with the block or without it; behind a sync what is seen.
unfoldable pub left_after : (List (List ℕ) → Type 0) → List (List ℕ) → List Call → List (List ℕ) → Type 0
left_after may_leave seen [] = may_leave
left_after may_leave seen (Written address block ∷ calls) = left_after
    (λ c. may_leave c ⊎ ((d : List (List ℕ)) × may_leave d × (c ≡ slice_set d address block)))
    (slice_set seen address block) calls
left_after may_leave seen (Synced ∷ calls) = left_after (λ c. c ≡ seen) seen calls

-- from these blocks on
abbrev pub left_from : List (List ℕ) → List Call → List (List ℕ) → Type 0
left_from first calls = left_after (λ c. c ≡ first) first calls

-- at some moment behind so many calls
abbrev pub LeftSince : List (List ℕ) → List Call → ℕ → List (List ℕ) → Type 0
LeftSince first calls t c = (k : ℕ) × (t ≤ k) × (k ≤ length calls) × left_from first (take k calls) c

-- this moment is the last
pub counts_last : (first : List (List ℕ)) (calls : List Call) (t : ℕ) (c : List (List ℕ)) → t ≤ length calls
    → left_from first calls c → LeftSince first calls t c
counts_last first calls t c le left = (
  length calls,
  le,
  le_refl (length calls),
  subst (λ (l : List Call). left_from first l c) (sym (take_all (length calls) calls (le_refl (length calls)))) left,
)

pub only_last : (first : List (List ℕ)) (calls : List Call) (c : List (List ℕ)) → LeftSince first calls (length calls) c
    → left_from first calls c
only_last first calls c since =
    subst (λ (l : List Call). left_from first l c) (take_all since.0 calls since.1) since.3
