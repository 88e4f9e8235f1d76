-- What holds of each tree of rows: `root_above`, `not_in_itself` and `no_parent`. Each row's ancestors come to the
-- root, and the root hangs in itself; a row that hangs in itself has no other ancestor, so there is none but the root
-- (`stuck`). A row's parent is a directory, so nothing hangs in what is none.
use Rattle.std.proofs.Common.{◌≡◌, ◌≢◌, ℕ, zero, suc, true, false, List, Option, Some, refl, sym, ap, ◌∙◌}
use Rattle.std.specs.FinMap as map
use Rattle.lfs_types.specs.Kinds.{is_directory_kind}
use Rattle.lfs_types.specs.Tree.{Row, root}
use Rattle.lfs_types.specs.declared.attrs.Kind.TheVariants.{Directory}
use Rattle.lfs_model.specs.World.{Rows, parent_of, ancestor, IsChild, IsTree}
use Rattle.lfs_model.specs.Rules.{is_directory_row}
use Rattle.lfs_types.proofs.Somewhere.{some_and}

-- ---- ways up

-- a row that hangs in itself leads up to itself alone
stuck : (rows : Rows) (n : ℕ) → parent_of (map.get rows n) ≡ n → (k : ℕ) → ancestor rows k n ≡ n
unfolding ancestor
stuck rows n h zero = refl
stuck rows n h (suc k) = ap (ancestor rows k) h ∙ stuck rows n h k

-- the root is its own ancestor
pub root_above : (rows : Rows) → IsTree rows → (k : ℕ) → ancestor rows k root ≡ root
root_above rows tree =
    let r = some_and (map.get rows root) _ tree.rooted in
    stuck rows root (ap parent_of r.is ∙ r.holds.0)

-- no row but the root hangs in itself
pub not_in_itself : (rows : Rows) → IsTree rows → (parent : ℕ) (name : List ℕ) (n : ℕ) → IsChild rows parent name n
    → parent ≢ n
not_in_itself rows tree parent name n c = λ same.
    let way = tree.reached n c.row c.there in
    c.below (sym (stuck rows n (ap parent_of c.there ∙ c.hangs ∙ same) way.0) ∙ way.1)

-- ---- what is no directory

-- a row that isn't a directory's has no file of that kind
pub no_directory : (o : Option Row) (r : Row) → is_directory_row o ≡ false → o ≡ Some r → r.file.kind ≡ Directory → ⊥
no_directory o r h e k =
    let is : is_directory_row o ≡ true = ap is_directory_row e ∙ ap is_directory_kind k in
    absurd (cc)

-- nothing hangs in what is no directory
pub no_parent : (rows : Rows) → IsTree rows → (n : ℕ) → is_directory_row (map.get rows n) ≡ false
    → (name : List ℕ) (m : ℕ) → IsChild rows n name m → ⊥
no_parent rows tree n h name m c =
    let up = some_and (map.get rows c.row.parent) _ (tree.parents m c.row c.there) in
    no_directory (map.get rows n) up.value h (ap (map.get rows) (sym c.hangs) ∙ up.is) up.holds
