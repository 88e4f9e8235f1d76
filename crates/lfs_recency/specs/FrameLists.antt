-- The queues as four lists of frame numbers, newest first, and the frames' bytes.
use Rattle.std.specs.Prelude.{◌≡◌, ℕ, zero, suc, ◌+◌, cond, ◌==◌, nat_lt, List, [], ◌∷◌, length, Option, Some, None}
use Rattle.lfs_recency.specs.declared.queue.Queue.{Queue}
use Rattle.lfs_recency.specs.declared.queue.Queue.TheVariants.{Locked, Lru, Age, Empty}

pub record FrameLists : Type 0 where
  pub locked : List ℕ
  pub lru : List ℕ
  pub age : List ℕ
  pub empty : List ℕ
  pub blocks : List (List ℕ)

-- how many frames there are
abbrev pub frame_count : FrameLists → ℕ
frame_count s = length s.blocks

-- the list of a queue
abbrev pub listed : Queue → FrameLists → List ℕ
listed Locked s = s.locked
listed Lru s = s.lru
listed Age s = s.age
listed Empty s = s.empty

-- the list without the number f
abbrev pub without : ℕ → List ℕ → List ℕ
without f [] = []
without f (x ∷ xs) = cond (x == f) (without f xs) (x ∷ without f xs)

-- f leaves its list
abbrev pub taken : ℕ → FrameLists → FrameLists
taken f s = record {
  locked = without f s.locked;
  lru = without f s.lru;
  age = without f s.age;
  empty = without f s.empty;
  blocks = s.blocks;
}

-- f stands first in the list of a queue
abbrev pub pushed : ℕ → Queue → FrameLists → FrameLists
pushed f Locked s = record s { locked = f ∷ s.locked }
pushed f Lru s = record s { lru = f ∷ s.lru }
pushed f Age s = record s { age = f ∷ s.age }
pushed f Empty s = record s { empty = f ∷ s.empty }

-- f leaves its list and stands first in the one of a queue
abbrev pub fronted : ℕ → Queue → FrameLists → FrameLists
fronted f q s = pushed f q (taken f s)

-- how often f stands in a list
abbrev pub times : ℕ → List ℕ → ℕ
times f [] = 0
times f (x ∷ xs) = cond (x == f) (suc (times f xs)) (times f xs)

-- how often f stands in the four lists
abbrev pub times_in_all : ℕ → FrameLists → ℕ
times_in_all f s = times f s.locked + times f s.lru + times f s.age + times f s.empty

-- the four lists together are a permutation of the frames' numbers: each stands in one list, once, and nothing else
-- does
abbrev pub IsWhole : FrameLists → Type 0
IsWhole s = (f : ℕ) → times_in_all f s ≡ cond (nat_lt f (frame_count s)) 1 0

-- the last number of x ∷ xs
abbrev pub last_from : ℕ → List ℕ → ℕ
last_from x [] = x
last_from x (y ∷ ys) = last_from y ys

-- the last number of a list
abbrev pub oldest_of : List ℕ → Option ℕ
oldest_of [] = None
oldest_of (x ∷ xs) = Some (last_from x xs)

-- the numbers below n, from the greatest on
abbrev pub descending : ℕ → List ℕ
descending zero = []
descending (suc n) = n ∷ descending n
