-- The tree that users see: rows that hang by parent and name.
use Rattle.std.specs.Prelude.{◌≡◌, ◌≢◌, ◌≤◌, ℕ, zero, suc, ◌==◌, ◌&&◌, not, Bool, false, List, [], find, filter, Option}
use Rattle.std.specs.Prelude.{None, Some, bytes_eq, IsSomeAnd}
use Rattle.std.specs.Ordering.{nat_cmp}
use Rattle.std.specs.FinMap as map
use Rattle.std.specs.FinMap.{FinMap}
use Rattle.lfs_types.specs.Tree.{File, Row, root, fresh_root}
use Rattle.lfs_types.specs.declared.attrs.Kind.TheVariants.{Directory}
use Rattle.lfs_types.specs.declared.limits.TheConstants.{FIRST_INODE}

abbrev pub Rows : Type 0
Rows = FinMap nat_cmp Row

-- whether a row hangs in this directory; the root hangs nowhere
abbrev pub hangs_in : ℕ → ℕ → Option Row → Bool
hangs_in parent n None = false
hangs_in parent n (Some r) = not (n == root) && (r.parent == parent)

-- whether a row hangs in this directory under this name
abbrev pub hangs_as : ℕ → List ℕ → ℕ → Option Row → Bool
hangs_as parent name n None = false
hangs_as parent name n (Some r) = not (n == root) && (r.parent == parent) && bytes_eq r.name name

-- the row with this parent and this name, if there is one
unfoldable pub child : Rows → ℕ → List ℕ → Option ℕ
child rows parent name = find (λ n. hangs_as parent name n (map.get rows n)) (map.keys rows)

-- the rows that hang in a directory
unfoldable pub children : Rows → ℕ → List ℕ
children rows parent = filter (λ n. hangs_in parent n (map.get rows n)) (map.keys rows)

-- the parent of a row, and 0 where there is no row
abbrev pub parent_of : Option Row → ℕ
parent_of None = 0
parent_of (Some r) = r.parent

-- the row that so many steps lead up to from this one
unfoldable pub ancestor : Rows → ℕ → ℕ → ℕ
ancestor rows zero n = n
ancestor rows (suc k) n = ancestor rows k (parent_of (map.get rows n))

-- a row of this number hangs in this directory under this name
pub record IsChild (rows : Rows) (parent : ℕ) (name : List ℕ) (n : ℕ) : Type 0 where
  pub row : Row
  pub there : map.get rows n ≡ Some row
  pub below : n ≡ root → ⊥
  pub hangs : row.parent ≡ parent
  pub named : row.name ≡ name

-- The world is a tree: the root is a directory that is its own parent, no two other rows share parent and name, every
-- parent is a directory, each row's parents lead to the root, a directory has no bytes, and every other row's number is
-- one that a new row may get: so 0, which stands for a name that leads nowhere, has no row.
pub record IsTree (rows : Rows) : Type 0 where
  pub rooted : IsSomeAnd (map.get rows root) (λ r. (r.parent ≡ root) × (r.name ≡ []) × (r.file.kind ≡ Directory))
  pub unique : (parent : ℕ) (name : List ℕ) (m n : ℕ) → IsChild rows parent name m → IsChild rows parent name n → m ≡ n
  pub parents : (n : ℕ) (r : Row) → map.get rows n ≡ Some r
      → IsSomeAnd (map.get rows r.parent) (λ p. p.file.kind ≡ Directory)
  pub reached : (n : ℕ) (r : Row) → map.get rows n ≡ Some r → (k : ℕ) × (ancestor rows k n ≡ root)
  pub empty : (n : ℕ) (r : Row) → map.get rows n ≡ Some r → r.file.kind ≡ Directory → r.file.bytes ≡ []
  pub numbers : (n : ℕ) (r : Row) → map.get rows n ≡ Some r → n ≢ root → FIRST_INODE ≤ n

-- the name of a row, and none where there is no row
abbrev pub name_of : Option Row → List ℕ
name_of None = []
name_of (Some r) = r.name

-- the file of a row, and the root's where there is no row
abbrev pub file_at : Option Row → File
file_at None = fresh_root
file_at (Some r) = r.file
