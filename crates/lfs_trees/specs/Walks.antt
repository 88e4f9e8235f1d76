-- A walk from the root along names: the rows that it reached, as a tree.
use Rattle.std.specs.Prelude.{◌≡◌, ◌≢◌, ℕ, ◌+◌, ◌<◌, Bool, true, false, cond, ◌||◌, nat_eq, List, [], ◌∷◌, ◌++◌, length}
use Rattle.std.specs.Prelude.{take, slice_index, None, Some, IsSome, IsSomeAnd, is_some, bytes_eq}
use Rattle.std.specs.FinMap as map
use Rattle.std.specs.List.{list_any}
use Rattle.std.specs.Global.{Vec}
use Rattle.lfs_types.specs.declared.attrs.Kind.TheVariants.{Directory}
use Rattle.lfs_types.specs.Tree.{Content, File, Row, root}
use Rattle.lfs_dirs.specs.Directory.{Entry, AreEntries, number_in}
use Rattle.lfs_model.specs.World.{Rows, child, IsTree}
use Rattle.lfs_calls.specs.Content.{IsDirectoryAt, ListsRows, visible}
use Rattle.lfs_calls.specs.Names.{Lists}
use Rattle.lfs_trees.specs.Faults.{IsBelow}
use Rattle.lfs_trees.specs.Files.{AreFiles}
use Rattle.lfs_trees.specs.Marks.{is_among}
use Rattle.lfs_trees.specs.declared.fault.TreeFault.{TreeFault}
use Rattle.lfs_trees.specs.declared.fault.TreeFault.TheVariants.{Root, Reserved, Length, Block, NameTwice, RootListed}
use Rattle.lfs_trees.specs.declared.fault.TreeFault.TheVariants.{Unused, NumberTwice, Unreached, Memory}
use Rattle.lfs_trees.specs.declared.names.Names.{Names}
use Rattle.lfs_trees.specs.declared.walk.Walk.{Walk}

-- ---- names

-- whether a set has a name
abbrev pub has : Names → List ℕ → Bool
has names name = list_any (λ (k : Vec ℕ). bytes_eq k.items name) names.names.keys

-- a set has the names of entries
abbrev pub HasNames : Names → List Entry → Type 0
HasNames names es = (name : List ℕ) → has names name ≡ is_some (number_in name es)

-- ---- rows

-- what a directory lists so far, where it is the one that is read
abbrev pub so_far : ℕ → List Entry → ℕ → List Entry
so_far dir es d = cond (nat_eq d dir) es []

-- Rows that were reached in this order, of which the first were read, and of one directory these entries: they are a
-- tree; each is a file's, which a directory lists there; what was read lists what hangs in it; nothing else hangs
-- anywhere.
pub record IsReached (c : Content) (order before : List ℕ) (dir : ℕ) (es : List Entry) (rows : Rows) : Type 0 where
  pub tree : IsTree rows
  pub reached : (n : ℕ) → is_some (map.get rows n) ≡ is_among order n
  pub shown : (n : ℕ) (r : Row) → map.get rows n ≡ Some r → IsSomeAnd (map.get c n) (λ f. visible f ≡ r.file)
  pub listed : (n : ℕ) (r : Row) → map.get rows n ≡ Some r → n ≢ root → Lists c r.parent r.name n
  pub complete : (d : ℕ) → is_among before d ≡ true → (f : File) → map.get c d ≡ Some f → f.kind ≡ Directory
      → ListsRows rows d f.bytes
  pub later : (d : ℕ) → is_among before d ≡ false → (name : List ℕ) → child rows d name
      ≡ number_in name (so_far dir es d)

-- there are such rows
abbrev pub Reaches : Content → List ℕ → List ℕ → ℕ → List Entry → Type 0
Reaches c order before dir es = (rows : Rows) × IsReached c order before dir es rows

-- the numbers that a walk read
abbrev pub done_of : Walk → List ℕ
done_of w = take w.done w.order.items

-- a walk between two numbers, of which it read all
abbrev pub Stands : Content → Walk → Type 0
Stands c w = Reaches c w.order.items (done_of w) 0 []

-- a walk that read all numbers that it reached
abbrev pub HasRead : Content → Walk → Type 0
HasRead c w = Reaches c w.order.items w.order.items 0 []

-- a walk read a number more
pub record Steps (c : Content) (old new : Walk) : Type 0 where
  pub stands : Stands c new
  pub done : new.done ≡ old.done + 1
  pub numbers : length new.marks.items ≡ length old.marks.items

-- A walk reads a directory, of which it read these entries.
pub record IsReading (c : Content) (old new : Walk) (dir : ℕ) (es : List Entry) : Type 0 where
  pub bounded : IsBelow (length new.marks.items) c
  pub files : AreFiles c
  pub directory : IsDirectoryAt c dir
  pub within : new.done < length new.order.items
  pub next : slice_index new.order.items new.done ≡ dir
  pub apart : is_among (done_of new) dir ≡ false
  pub entries : AreEntries es
  pub reaches : Reaches c new.order.items (done_of new) dir es
  pub done : new.done ≡ old.done
  pub numbers : length new.marks.items ≡ length old.marks.items

-- ---- what a walk left out

-- a walk reached each number in use
abbrev pub HasAll : Content → Walk → Type 0
HasAll c w = (n : ℕ) → IsSome (map.get c n) → is_among w.order.items n ≡ true

-- a number is in use that a walk didn't reach, and the fault says so
abbrev pub IsLeftOut : Content → Walk → TreeFault → Type 0
IsLeftOut c w fault = (n : ℕ) × (fault ≡ Unreached n) × IsSome (map.get c n) × (is_among w.order.items n ≡ false)

-- ---- one entry

-- an entry was read whose name and number are new ones
pub record IsEntered (c : Content) (old : Walk) (before : Names) (e : Entry) (new : Walk) (after : Names) : Type 0 where
  pub new_name : has before e.1 ≡ false
  pub new_number : is_among old.order.items e.0 ≡ false
  pub below : e.0 ≢ root
  pub used : IsSome (map.get c e.0)
  pub order : new.order.items ≡ old.order.items ++ e.0 ∷ []
  pub done : new.done ≡ old.done
  pub numbers : length new.marks.items ≡ length old.marks.items
  pub names : (other : List ℕ) → has after other ≡ (bytes_eq e.1 other || has before other)

-- why an entry of a directory isn't read: its name was read before; or else it has the root's number, or one that was
-- reached before, or one that isn't in use
abbrev pub IsEntryFault : Content → Walk → Names → ℕ → Entry → TreeFault → Type 0
IsEntryFault c w names dir e Root = ⊥
IsEntryFault c w names dir e (Reserved n) = ⊥
IsEntryFault c w names dir e (Length n) = ⊥
IsEntryFault c w names dir e (Block d index) = ⊥
IsEntryFault c w names dir e (NameTwice d n) = (d ≡ dir) × (n ≡ e.0) × (has names e.1 ≡ true)
IsEntryFault c w names dir e (RootListed d) = (d ≡ dir) × (e.0 ≡ root) × (has names e.1 ≡ false)
IsEntryFault c w names dir e (Unused d n) = (d ≡ dir) × (n ≡ e.0) × (map.get c n ≡ None) × (has names e.1 ≡ false)
IsEntryFault c w names dir e (NumberTwice n) = (n ≡ e.0) × (is_among w.order.items n ≡ true) × (n ≢ root)
    × (has names e.1 ≡ false)
IsEntryFault c w names dir e (Unreached n) = ⊥
IsEntryFault c w names dir e Memory = Unit {0}
