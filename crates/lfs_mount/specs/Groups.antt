-- When the groups of a caller don't count.
use Rattle.std.specs.Prelude.{◌≡◌, ℕ, ◌≤◌, ⊤, List, [], ◌∷◌, length, Option, None, Some, IfSome}
use Rattle.std.specs.FinMap as map
use Rattle.lfs_types.specs.Caller.{Caller}
use Rattle.lfs_types.specs.StoreStates.{StoreState}
use Rattle.lfs_types.specs.Tree.{World, root}
use Rattle.lfs_types.specs.declared.attrs.Attrs.{Attrs}
use Rattle.lfs_types.specs.declared.attrs.Bit.{Bit}
use Rattle.lfs_types.specs.declared.request.Request.{Request}
use Rattle.lfs_types.specs.declared.request.Request.TheVariants.{Rename, Stat as Stats}
use Rattle.lfs_model.specs.Effects.{effect}
use Rattle.lfs_model.specs.Rules.{attrs_at, decide, reached, row_grants}
use Rattle.lfs_model.specs.World.{IsTree, Rows}
use Rattle.lfs_rules.specs.Grants.{grants_of}
use Rattle.lfs_calls.specs.Reaches.{EndsAlike}
use Rattle.lfs_volume.specs.Journals.{AtPresent}
use Rattle.lfs_volume.specs.Seen.{Seen}
use Rattle.lfs_nodes.specs.Nodes.{AreNodes, known}
use Rattle.lfs_nodes.specs.declared.parts.Parts.{Parts}
use Rattle.lfs_fuse_wire.specs.Said.{Said, lookup, getattr, read, write, unlink, rmdir, rename}
use Rattle.lfs_fuse_wire.specs.declared.header.Header.{Header}
use Rattle.lfs_fuse_calls.specs.Asked.{asked}
use Rattle.lfs_fuse_calls.specs.Paths.{IsPathOf}
use Rattle.lfs_fuse_calls.specs.Telling.{named_in}
use Rattle.lfs_mount.specs.Handled.{hangs_in}

-- A call comes to the same for every caller of a user, whatever his groups are: the rules decide it alike, and where it
-- is done it leaves the same tree. (What it shows no caller has a part in.)
abbrev pub IsAlike : ℕ → World → ℕ → Request → Type 0
IsAlike numbers w uid request = (c d : Caller) → c.uid ≡ uid → d.uid ≡ uid
    → (decide w c request ≡ decide w d request)
    × (effect numbers w c request ≡ effect numbers w d request)

-- calls do, each in the tree that those before it leave
abbrev pub AreAlike : ℕ → World → ℕ → List Request → Type 0
AreAlike numbers w uid [] = ⊤
AreAlike numbers w uid (request ∷ requests) = IsAlike numbers w uid request
    × ((c : Caller) → c.uid ≡ uid → AreAlike numbers (effect numbers w c request) uid requests)

-- calls do, in the tree that a volume shows, where its nodes are true of that
abbrev pub ComeAlike : {F : Type 0} → (F → StoreState) → Seen F → Parts → ℕ → List Request → Type 0
ComeAlike state volume nodes uid requests =
    AtPresent state volume (λ w. AreNodes w.rows (known nodes)
    → (numbers : ℕ) → AreAlike numbers w uid requests)

-- A message only looks along a path, that of its node or of the name in it, and in the tree that the volume shows the
-- walk along it ends alike for every caller of the header's user, whatever his groups are.
pub record LooksAlike {F : Type 0} (state : F → StoreState) (volume : Seen F) (nodes : Parts)
    (header : Header) (message : Said) : Type 0 where
  pub path : List (List ℕ)
  pub leads : IsPathOf (hangs_in nodes) header.node (named_in message) path
  pub alike : AtPresent state volume (λ w. EndsAlike w.rows header.uid path)

-- The calls that a message asks for, of a path that leads to its node or to the name in it, come to the same.
pub record ActsAlike {F : Type 0} (state : F → StoreState) (volume : Seen F) (nodes : Parts)
    (header : Header) (message : Said) : Type 0 where
  pub path : List (List ℕ)
  pub leads : IsPathOf (hangs_in nodes) header.node (named_in message) path
  pub alike : ComeAlike state volume nodes header.uid (asked message path)

-- A Rename of a name in the header's node to a name in a directory comes to the same, and so does the look at that which
-- may come before it.
pub record MovesAlike {F : Type 0} (state : F → StoreState) (volume : Seen F) (nodes : Parts)
    (header : Header) (name : List ℕ) (directory : ℕ) (new_name : List ℕ) : Type 0 where
  pub from : List (List ℕ)
  pub to : List (List ℕ)
  pub leads_from : IsPathOf (hangs_in nodes) header.node (Some name) from
  pub leads_to : IsPathOf (hangs_in nodes) directory (Some new_name) to
  pub alike : ComeAlike state volume nodes header.uid (Stats to ∷ Rename from to ∷ [])

-- ---- on the way to that

-- attributes grant this alike to every caller of a user, whatever his groups are
abbrev pub GrantsAlike : Attrs → ℕ → Bit → Type 0
GrantsAlike attrs uid bit =
    (c d : Caller) → c.uid ≡ uid → d.uid ≡ uid → grants_of c attrs bit ≡ grants_of d attrs bit

-- so does a row, where a walk leads through it and where it ends
abbrev pub RowGrantsAlike : Rows → ℕ → ℕ → Bit → Type 0
RowGrantsAlike rows n uid bit = (c d : Caller) → c.uid ≡ uid → d.uid ≡ uid
    → (row_grants c bit (map.get rows n) ≡ row_grants d bit (map.get rows n))
    × (grants_of c (attrs_at rows n) bit ≡ grants_of d (attrs_at rows n) bit)

-- the row of a number, if there is one, does in the tree that a volume shows
abbrev pub NodeGrantsAlike : {F : Type 0} → (F → StoreState) → Seen F → Option ℕ → ℕ → Bit → Type 0
NodeGrantsAlike state volume number uid bit =
    AtPresent state volume (λ w. IsTree w.rows
    × IfSome number (λ n. RowGrantsAlike w.rows n uid bit))

-- The walk to a node ends alike, and what it leads to grants these two alike.
pub record ReachesAlike {F : Type 0} (state : F → StoreState) (volume : Seen F) (nodes : Parts)
    (node uid : ℕ) (first second : Bit) : Type 0 where
  pub path : List (List ℕ)
  pub leads : IsPathOf (hangs_in nodes) node None path
  pub ends : AtPresent state volume (λ w. EndsAlike w.rows uid path)
  pub grants : AtPresent state volume (λ w. AreNodes w.rows (known nodes)
      → RowGrantsAlike w.rows (reached w.rows root path) uid first
      × RowGrantsAlike w.rows (reached w.rows root path) uid second)

-- ---- all of it

-- The groups of a message's caller don't count: whatever they are, its calls come to the same for every caller of the
-- header's user. What is told of the calls, and kept beside the volume, goes by the user then: so it is of a LOOKUP and a
-- GETATTR, of which a look at attributes is told to all alike, of a READ, a WRITE of at most one call, an UNLINK, a RMDIR
-- and a RENAME. An OPEN and a CREATE put down who opened the file, and his groups with him; an ACCESS is told by them.
abbrev pub NeedsNoGroups : {F : Type 0} → (F → StoreState) → Seen F → Parts → Header → Said
    → Type 0
NeedsNoGroups state volume nodes header (lookup name) =
    LooksAlike state volume nodes header (lookup name)
NeedsNoGroups state volume nodes header (getattr fields) =
    LooksAlike state volume nodes header (getattr fields)
NeedsNoGroups state volume nodes header (read fields) =
    ActsAlike state volume nodes header (read fields)
NeedsNoGroups state volume nodes header (write fields bytes) =
    (length bytes ≤ 4096) × ActsAlike state volume nodes header (write fields bytes)
NeedsNoGroups state volume nodes header (unlink name) =
    ActsAlike state volume nodes header (unlink name)
NeedsNoGroups state volume nodes header (rmdir name) =
    ActsAlike state volume nodes header (rmdir name)
NeedsNoGroups state volume nodes header (rename fields name new_name) =
    MovesAlike state volume nodes header name fields.directory new_name
NeedsNoGroups state volume nodes header message = ⊥
