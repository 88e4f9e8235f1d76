-- What a cache holds: the dirty blocks and the clean ones by key, newest first, and how many frames hold none.
use Rattle.std.specs.Prelude.{◌≡◌, ℕ, zero, suc, ◌+◌, false, cond, List, [], ◌∷◌, ◌++◌, drop, length, map, take, Option, Some, None}
use Rattle.std.specs.Prelude.{IsSome}
use Rattle.lfs_cache.specs.declared.key.Key.{Key}
use Rattle.lfs_cache.specs.Keys.{same_key}

pub record Contents : Type 0 where
  pub locked : List (Key × List ℕ)
  pub lru : List (Key × List ℕ)
  pub age : ℕ
  pub empty : ℕ

-- the block of a key in a list
abbrev pub block_in : Key → List (Key × List ℕ) → Option (List ℕ)
block_in k [] = None
block_in k (e ∷ es) = cond (same_key e.0 k) (Some e.1) (block_in k es)

abbrev pub or_else : Option (List ℕ) → Option (List ℕ) → Option (List ℕ)
or_else None o = o
or_else (Some b) o = Some b

-- the block of a key
abbrev pub block_of : Key → Contents → Option (List ℕ)
block_of k s = or_else (block_in k s.locked) (block_in k s.lru)

-- a list without a key
abbrev pub without_key : Key → List (Key × List ℕ) → List (Key × List ℕ)
without_key k [] = []
without_key k (e ∷ es) = cond (same_key e.0 k) (without_key k es) (e ∷ without_key k es)

-- a list without its last
abbrev pub drop_last : {X : Type 0} → List X → List X
drop_last [] = []
drop_last (x ∷ []) = []
drop_last (x ∷ y ∷ ys) = x ∷ drop_last (y ∷ ys)

-- a key is held no longer
abbrev pub removed : Key → Contents → Contents
removed k s = record s { locked = without_key k s.locked; lru = without_key k s.lru }

-- a block comes first among the dirty ones, or among the clean ones
abbrev pub locked_first : Key → List ℕ → Contents → Contents
locked_first k b s = record s { locked = (k, b) ∷ s.locked }

abbrev pub lru_first : Key → List ℕ → Contents → Contents
lru_first k b s = record s { lru = (k, b) ∷ s.lru }

-- a frame is taken: the last of EMPTY, else of AGE, else of LRU. The two numbers are those of EMPTY and AGE
abbrev pub taken_by : ℕ → ℕ → Contents → Contents
taken_by (suc empty) age s = record s { empty = empty }
taken_by zero (suc age) s = record s { age = age }
taken_by zero zero s = record s { lru = drop_last s.lru }

abbrev pub with_frame : Contents → Contents
with_frame s = taken_by s.empty s.age s

-- after `get`: the key comes to the front of its queue
abbrev pub used_by : Option (List ℕ) → Option (List ℕ) → Key → Contents → Contents
used_by (Some b) o k s = locked_first k b (removed k s)
used_by None (Some b) k s = lru_first k b (removed k s)
used_by None None k s = s

abbrev pub used : Key → Contents → Contents
used k s = used_by (block_in k s.locked) (block_in k s.lru) k s

-- after `fill`
abbrev pub filled : Key → List ℕ → Contents → Contents
filled k b s = lru_first k b (with_frame s)

-- after `write`: a key that is held keeps its frame
abbrev pub written_by : Option (List ℕ) → Key → List ℕ → Contents → Contents
written_by (Some old) k b s = locked_first k b (removed k s)
written_by None k b s = locked_first k b (with_frame s)

abbrev pub written : Key → List ℕ → Contents → Contents
written k b s = written_by (block_of k s) k b s

-- after `settle`
abbrev pub settled_by : Option (List ℕ) → Key → Contents → Contents
settled_by (Some b) k s = lru_first k b (removed k s)
settled_by None k s = s

abbrev pub settled : Key → Contents → Contents
settled k s = settled_by (block_in k s.locked) k s

-- after `forget`
abbrev pub forgotten_by : Option (List ℕ) → Key → Contents → Contents
forgotten_by (Some b) k s = record (removed k s) { age = suc s.age }
forgotten_by None k s = s

abbrev pub forgotten : Key → Contents → Contents
forgotten k s = forgotten_by (block_of k s) k s

-- a block with bytes over its own, from a place on
abbrev pub overwritten : ℕ → List ℕ → List ℕ → List ℕ
overwritten start bytes block = take start block ++ (bytes ++ drop (start + length bytes) block)

-- the key is dirty
abbrev pub IsLocked : Key → Contents → Type 0
IsLocked k s = IsSome (block_in k s.locked)

abbrev pub keys_of : List (Key × List ℕ) → List Key
keys_of es = map (λ e. e.0) es

-- so many empty frames
abbrev pub nothing_in : ℕ → Contents
nothing_in n = record { locked = []; lru = []; age = 0; empty = n }

-- no key of a list is the one given
abbrev pub Lacks : Key → List Key → Type 0
Lacks k [] = Unit {0}
Lacks k (n ∷ ns) = (same_key n k ≡ false) × Lacks k ns

-- no key comes twice
abbrev pub AreApart : List Key → Type 0
AreApart [] = Unit {0}
AreApart (n ∷ ns) = Lacks n ns × AreApart ns
