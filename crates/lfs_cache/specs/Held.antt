-- The blocks that the frames of a cache hold.
use Rattle.std.specs.Prelude.{◌≡◌, ◌≢◌, ℕ, ◌+◌, ◌<◌, ◌≤◌, List, [], length, map, Option, Some, None, IsSome}
use Rattle.std.specs.Prelude.{slice_index_or}
use Rattle.lfs_types.specs.declared.block.TheConstants.{BLOCK_SIZE}
use Rattle.lfs_types.specs.Ranges.{least_frames}
use Rattle.lfs_recency.specs.FrameLists.{FrameLists, frame_count, times, IsWhole}
use Rattle.lfs_cache.specs.declared.cache.TheConstants.{LOCKED_LIMIT}
use Rattle.lfs_cache.specs.declared.key.Key.{Key}
use Rattle.lfs_cache.specs.Index.{key_at}
use Rattle.lfs_cache.specs.Contents.{Contents}
use Rattle.lfs_cache.specs.Frames.{name_or}

-- the key at a frame that has one
abbrev pub name_at : List (Option Key) → ℕ → Key
name_at keys f = name_or (key_at keys f)

-- the key and the block at a frame
abbrev pub entry_at : List (Option Key) → List (List ℕ) → ℕ → Key × List ℕ
entry_at keys blocks f = (name_at keys f, slice_index_or blocks f [])

abbrev pub held_by : FrameLists → List (Option Key) → Contents
held_by l keys = record {
  locked = map (entry_at keys l.blocks) l.locked;
  lru = map (entry_at keys l.blocks) l.lru;
  age = length l.age;
  empty = length l.empty;
}

-- the keys at the frames are as the queues say, but for the frame of the number `but`, and `names` are those of the
-- locked frames
pub record AreHeld (l : FrameLists) (keys : List (Option Key)) (but : ℕ)
    (names : List Key) : Type 0 where
  pub whole : IsWhole l
  pub sized : length keys ≡ frame_count l
  pub many : least_frames ≤ frame_count l
  pub held : (f : ℕ) → f ≢ but → 0 < times f l.locked + times f l.lru → IsSome (key_at keys f)
  pub free : (f : ℕ) → f ≢ but → 0 < times f l.age + times f l.empty → key_at keys f ≡ None
  pub apart : (f g : ℕ) (k : Key) → key_at keys f ≡ Some k → key_at keys g ≡ Some k → f ≡ g
  pub named : names ≡ map (name_at keys) l.locked

-- each frame that has a key has a whole block
abbrev pub AreSized : List (Option Key) → List (List ℕ) → Type 0
AreSized keys blocks = (f : ℕ) (k : Key) → key_at keys f ≡ Some k
    → length (slice_index_or blocks f []) ≡ BLOCK_SIZE

pub record IsCache (l : FrameLists) (keys : List (Option Key)) (names : List Key)
    (capacity : ℕ) : Type 0 where
  pub are : AreHeld l keys (frame_count l) names
  pub limit : length l.locked ≤ LOCKED_LIMIT
  pub room : LOCKED_LIMIT ≤ capacity
  pub sized : AreSized keys l.blocks
