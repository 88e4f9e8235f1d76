-- What contracts see of a store, and how its calls change it.
use Rattle.std.specs.Prelude.{◌≡◌, ◌⊎◌, ◌≤◌, ℕ, Bool, true, false, not, List, Option, None, Some, Result, IfErr, OnOk}
use Rattle.std.specs.Prelude.{OnErr}
use Rattle.lfs_types.specs.Tree.{Content}
use Rattle.lfs_types.specs.Changes.{applied}
use Rattle.lfs_types.specs.declared.store.Change.{Change}
use Rattle.lfs_types.specs.declared.store.StoreRefusal.{StoreRefusal}
use Rattle.lfs_types.specs.declared.store.StoreRefusal.TheVariants.{NoSpace, NoMemory}

-- what no call changes: how many inode numbers and segments there are, whether changes take memory and so can lack it,
-- and whether growth past a share of the segments is refused
pub record Shape : Type 0 where
  pub numbers : ℕ
  pub segments : ℕ
  pub can_lack_memory : Bool
  pub has_share : Bool

-- What a crash would leave of a store: what is found, that this is sure to be all that the store contains, and a turn, which
-- changes where changes make what they found be written first.
pub record Base : Type 0 where
  pub content : Content
  pub is_whole : Bool
  pub turn : Bool

-- a store: what it contains, how many of its segments are clean, its shape, and its base where it tells one
pub record StoreState : Type 0 where
  pub content : Content
  pub clean : ℕ
  pub shape : Shape
  pub base : Option Base

-- a change may lack space: with at most two clean segments, or where growth past a share is refused
abbrev pub MayLackSpace : StoreState → Type 0
MayLackSpace s = (s.clean ≤ 2) ⊎ (s.shape.has_share ≡ true)

-- why a store may refuse: where a change may lack space, or memory
abbrev pub MayRefuse : StoreState → StoreRefusal → Type 0
MayRefuse s NoSpace = MayLackSpace s
MayRefuse s NoMemory = s.shape.can_lack_memory ≡ true

-- a later state: no more segments are clean, but of a store with a share, which cleans when it wants room; and the shape
-- is the same
pub record Follows (old new : StoreState) : Type 0 where
  pub clean : old.shape.has_share ≡ false → new.clean ≤ old.clean
  pub shape : new.shape ≡ old.shape

-- A step left a base so, between what the store contained and what it contains: as it was; or as what the store contained
-- before, at another turn; or as what it contains now, all of it.
abbrev pub LeavesBase : Content → Content → Base → Base → Type 0
LeavesBase before after old new =
    ((new.content ≡ old.content) × (new.turn ≡ old.turn))
    ⊎ (((new.content ≡ before) × (new.turn ≡ not old.turn))
    ⊎ ((new.content ≡ after) × (new.is_whole ≡ true)))

-- so where a base is told; a store tells one always, or never
abbrev pub LeavesTold : Content → Content → Option Base → Option Base → Type 0
LeavesTold before after None None = Unit {0}
LeavesTold before after (Some old) (Some new) = LeavesBase before after old new
LeavesTold before after old new = ⊥

-- a step from one state to another left the base so
abbrev pub MovesBase : StoreState → StoreState → Type 0
MovesBase old new = LeavesTold old.content new.content old.base new.base

-- changes are made in order, all of them or none; a refusal has its cause
pub record Applies (old : StoreState) (changes : List Change) (result : Result (Unit {0}) StoreRefusal)
    (new : StoreState) : Type 0 where
  pub ok : OnOk result (new.content ≡ applied changes old.content)
  pub err : OnErr result (new.content ≡ old.content)
  pub refused : IfErr result (MayRefuse old)
  pub follows : Follows old new
  pub base : MovesBase old new
