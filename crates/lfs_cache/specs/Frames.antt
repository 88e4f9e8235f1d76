-- The frame that is taken next, and the list of LOCKED keys.
use Rattle.std.specs.Prelude.{◌≡◌, ◌≢◌, ℕ, ◌<◌, cond, List, [], ◌∷◌, Option, Some, None}
use Rattle.lfs_recency.specs.declared.queue.Queue.{Queue}
use Rattle.lfs_recency.specs.declared.queue.Queue.TheVariants.{Locked, Lru, Age, Empty}
use Rattle.lfs_recency.specs.FrameLists.{FrameLists, listed, oldest_of, times}
use Rattle.lfs_cache.specs.declared.key.Key.{Key}
use Rattle.lfs_cache.specs.Keys.{same_key}

abbrev pub first_of : Option ℕ → Option ℕ → Option ℕ
first_of None o = o
first_of (Some f) o = Some f

-- the last of EMPTY, else of AGE, else of LRU
abbrev pub next_of : FrameLists → Option ℕ
next_of l = first_of (oldest_of l.empty) (first_of (oldest_of l.age) (oldest_of l.lru))

-- what is read of a frame without a key
abbrev pub name_or : Option Key → Key
name_or None = record { ino = 0; version = 0; lbn = record { 0 = 0 } }
name_or (Some k) = k

-- keys without the first that is the same
abbrev pub names_without : Key → List Key → List Key
names_without k [] = []
names_without k (n ∷ ns) = cond (same_key n k) ns (n ∷ names_without k ns)

-- the LOCKED keys after a key has come to a queue
abbrev pub names_after : Queue → Key → List Key → List Key
names_after Locked k ns = k ∷ names_without k ns
names_after Lru k ns = names_without k ns
names_after Age k ns = names_without k ns
names_after Empty k ns = names_without k ns

-- a list of LOCKED keys has not the key of a frame that is in another queue
abbrev pub HoldsNoOther : ℕ → Key → FrameLists → List Key → Type 0
HoldsNoOther frame key l names =
    (q : Queue) → 0 < times frame (listed q l) → q ≢ Locked → names_without key names ≡ names

-- the list of LOCKED keys has room for one that comes to a queue
abbrev pub HasRoom : Queue → ℕ → ℕ → Type 0
HasRoom Locked n capacity = n < capacity
HasRoom Lru n capacity = Unit {0}
HasRoom Age n capacity = Unit {0}
HasRoom Empty n capacity = Unit {0}
