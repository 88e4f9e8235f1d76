-- The index of a cache: the key at each frame, and the places where a key's frame is found.
use Rattle.std.specs.Prelude.{◌≡◌, ℕ, suc, ◌+◌, ◌*◌, ◌<◌, ◌≤◌, List, [], ◌∷◌, length, Option, Some, None, IsSome}
use Rattle.std.specs.Prelude.{slice_index_or}
use Rattle.lfs_types.specs.Ranges.{most_frames}
use Rattle.lfs_cache.specs.declared.key.Key.{Key}
use Rattle.lfs_cache.specs.Keys.{start_of}

-- the key at a frame
abbrev pub key_at : List (Option Key) → ℕ → Option Key
key_at keys f = slice_index_or keys f None

-- the frame that a place names
abbrev pub frame_at : List (Option ℕ) → ℕ → Option ℕ
frame_at places p = slice_index_or places p None

-- the first free place from `start` on is d places further
abbrev pub IsFree : List (Option ℕ) → ℕ → ℕ → Type 0
IsFree places start d = (start + d < length places) × (frame_at places (start + d) ≡ None)
    × ((e : ℕ) → e < d → IsSome (frame_at places (start + e)))

-- f is found from `start` on, before any free place
abbrev pub IsReached : List (Option ℕ) → ℕ → ℕ → Type 0
IsReached places start f = (d : ℕ) × (start + d < length places)
    × (frame_at places (start + d) ≡ Some f)
    × ((e : ℕ) → e < d → IsSome (frame_at places (start + e)))

-- how many places are taken
abbrev pub count_taken : List (Option ℕ) → ℕ
count_taken [] = 0
count_taken (None ∷ ps) = count_taken ps
count_taken (Some f ∷ ps) = suc (count_taken ps)

-- the places lead to the frame of each key, and enough of them are free
pub record IsIndex (keys : List (Option Key)) (places : List (Option ℕ)) (taken : ℕ) : Type 0 where
  pub some : 0 < length keys
  pub bounded : length keys ≤ most_frames
  pub sized : length places ≡ 6 * length keys
  pub inside : (p f : ℕ) → frame_at places p ≡ Some f → f < length keys
  pub found : (f : ℕ) (k : Key) → key_at keys f ≡ Some k
      → IsReached places (start_of k (4 * length keys)) f
  pub counted : count_taken places ≡ taken
  pub room : taken ≤ 2 * length keys
