-- A path stays: where none who calls owns a row on it, or may take one away, it leads through the same rows after any
-- calls.
use Rattle.std.specs.Prelude.{◌≡◌, ◌≢◌, ◌⊎◌, ℕ, true, false, List, [], ◌∷◌, Some, IsSomeAnd}
use Rattle.std.specs.FinMap as map
use Rattle.lfs_types.specs.Caller.{Caller}
use Rattle.lfs_types.specs.Tree.{Row, World, root}
use Rattle.lfs_types.specs.declared.attrs.Bit.TheVariants as bits
use Rattle.lfs_types.specs.declared.attrs.Kind.TheVariants.{File as Regular}
use Rattle.lfs_rules.specs.Bits.{has_bit}
use Rattle.lfs_rules.specs.Locks.{has_system_lock}
use Rattle.lfs_model.specs.declared.journal.Entry.{Entry}
use Rattle.lfs_model.specs.declared.journal.Event.{Event}
use Rattle.lfs_model.specs.declared.journal.Event.TheVariants.{User, Cleaner}
use Rattle.lfs_model.specs.World.{Rows, parent_of, IsTree}
use Rattle.lfs_laws.specs.LawDenied.{led}
use Rattle.lfs_laws.specs.LawOneThing.{DiffersInBytes}
use Rattle.lfs_laws.specs.Rights.{MayTakeAway, Owns, is_fixed}
use Rattle.lfs_model.specs.Rules.{attrs_at, row_grants, visited, walk}
use Rattle.lfs_model.specs.Steps.{IsLegal, world_after}
use Rattle.lfs_model.specs.Walks.{is_on_way}

-- A caller must leave a row as it is: he may neither set its mode, owner, group or flags, since he doesn't own it, or
-- since the system locks it and he isn't the superuser, nor take it away.
pub record LeavesAlone (rows : Rows) (caller : Caller) (n : ℕ) : Type 0 where
  pub owned : Owns rows caller n → (caller.uid ≢ 0) × (has_system_lock (attrs_at rows n).flags ≡ true)
  pub taken : MayTakeAway rows caller n (parent_of (map.get rows n)) → ⊥

-- what keeps a caller from taking a row away: its directory grants him no write or no search, or is immutable or
-- append-only, or is sticky and not his; or the row is immutable or append-only
abbrev pub IsGuarded : Rows → Caller → ℕ → ℕ → Type 0
IsGuarded rows caller n parent =
    (row_grants caller bits.Write (map.get rows parent) ≡ false)
    ⊎ (row_grants caller bits.Search (map.get rows parent) ≡ false)
    ⊎ (is_fixed (attrs_at rows parent) ≡ true)
    ⊎ ((has_bit (attrs_at rows parent).mode 0o1000 ≡ true) × (caller.uid ≢ (attrs_at rows parent).uid))
    ⊎ (is_fixed (attrs_at rows n) ≡ true)

-- a guarded row, and the root, is left as it is by whoever is neither the superuser nor its owner
abbrev pub GuardedIsLeft : Type 0
GuardedIsLeft =
    (rows : Rows) (caller : Caller) (n : ℕ)
    → caller.uid ≢ 0
    → caller.uid ≢ (attrs_at rows n).uid
    → (n ≢ root → IsGuarded rows caller n (parent_of (map.get rows n)))
    → LeavesAlone rows caller n

-- a user's call is made by one who must leave each row on a path as it is
abbrev pub IsHarmless : Rows → List (List ℕ) → Caller → Event → Type 0
IsHarmless rows path caller (User request answer) = (n : ℕ) → is_on_way rows path n ≡ true → LeavesAlone rows caller n
IsHarmless rows path caller (Cleaner act outcome) = Unit {0}

-- so is each
abbrev pub AreHarmless : Rows → List (List ℕ) → List Entry → Type 0
AreHarmless rows path [] = Unit {0}
AreHarmless rows path (entry ∷ entries) = IsHarmless rows path entry.cred entry.event × AreHarmless rows path entries

-- a row is what it was, but for the bytes of a file and the set-id bits that may go with them
abbrev pub StaysPut : Row → Row → Type 0
StaysPut old new = (new ≡ old) ⊎ ((old.file.kind ≡ Regular) × DiffersInBytes old new)

-- a path leads through the same rows, which are what they were, and a walk along it asks the same of whoever walks
pub record PathStill (w after : World) (path : List (List ℕ)) : Type 0 where
  pub leads : led after.rows (Some root) path ≡ led w.rows (Some root) path
  pub way : visited after.rows root path ≡ visited w.rows root path
  pub rows : (n : ℕ) (r : Row) → is_on_way w.rows path n ≡ true → map.get w.rows n ≡ Some r
      → IsSomeAnd (map.get after.rows n) (StaysPut r)
  pub walks : (caller : Caller) (index : ℕ) → walk after.rows caller index 0 root path
      ≡ walk w.rows caller index 0 root path

-- a path that leads to a row does so through any calls of those who must leave its rows as they are, as they are now
abbrev pub PathStays : Type 0
PathStays =
    (numbers segments : ℕ) (entries : List Entry) (w : World) (path : List (List ℕ)) (n : ℕ)
    → IsTree w.rows
    → IsLegal numbers segments entries w
    → led w.rows (Some root) path ≡ Some n
    → AreHarmless w.rows path entries
    → PathStill w (world_after numbers entries w) path
