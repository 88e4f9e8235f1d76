-- What a caller may reach, write, own, take away and place in a tree, and what is said of each call.
use Rattle.std.specs.Prelude.{◌≡◌, ◌≢◌, ◌⊎◌, ℕ, suc, ◌||◌, Bool, true, false, List, [], ◌∷◌, ◌++◌, IsSomeAnd}
use Rattle.std.specs.FinMap as map
use Rattle.lfs_types.specs.Caller.{Caller}
use Rattle.lfs_types.specs.Tree.{File, World, root}
use Rattle.lfs_types.specs.declared.answer.Answer.{Answer}
use Rattle.lfs_types.specs.declared.attrs.Attrs.{Attrs}
use Rattle.lfs_types.specs.declared.attrs.Bit.TheVariants as bits
use Rattle.lfs_types.specs.declared.attrs.Kind.{Kind}
use Rattle.lfs_types.specs.declared.request.Request.{Request}
use Rattle.lfs_types.specs.declared.request.Request.TheVariants.{Stat, Read, Write, List as Names, SetLength, Create}
use Rattle.lfs_types.specs.declared.request.Request.TheVariants.{Mkdir, Unlink, Rmdir, Rename, Chmod, Chown, Chflags}
use Rattle.lfs_types.specs.declared.request.Request.TheVariants.{SetLevel, Sync}
use Rattle.lfs_rules.specs.Bits.{has_bit}
use Rattle.lfs_rules.specs.Locks.{is_immutable, is_append_only}
use Rattle.lfs_rules.specs.Owners.{is_in_group, is_owner_or_superuser}
use Rattle.lfs_model.specs.World.{Rows, ancestor, IsChild, IsTree}
use Rattle.lfs_model.specs.Rules.{attrs_at, is_directory_row, reached, row_grants}
use Rattle.lfs_model.specs.Steps.{IsAnswer, after_answer}

-- A caller reaches a row: every directory above it grants him search. The row itself isn't asked.
abbrev pub Reaches : Rows → Caller → ℕ → Type 0
Reaches rows caller n =
    (k : ℕ) → ancestor rows k n ≢ root
    → row_grants caller bits.Search (map.get rows (ancestor rows (suc k) n)) ≡ true

-- A caller may write a row: he reaches it, it grants him write, and it isn't immutable.
pub record MayWrite (rows : Rows) (caller : Caller) (n : ℕ) : Type 0 where
  pub reaches : Reaches rows caller n
  pub granted : row_grants caller bits.Write (map.get rows n) ≡ true
  pub mutable : is_immutable (attrs_at rows n) ≡ false

-- A caller owns a row: he reaches it, and is its owner or the superuser.
pub record Owns (rows : Rows) (caller : Caller) (n : ℕ) : Type 0 where
  pub reaches : Reaches rows caller n
  pub owner : is_owner_or_superuser caller (attrs_at rows n) ≡ true

-- whether a row is fixed: immutable or append-only
abbrev pub is_fixed : Attrs → Bool
is_fixed attrs = is_immutable attrs || is_append_only attrs

-- A caller may change a row's mode, owner or group: he owns it, and it isn't fixed.
pub record MayRetitle (rows : Rows) (caller : Caller) (n : ℕ) : Type 0 where
  pub owns : Owns rows caller n
  pub loose : is_fixed (attrs_at rows n) ≡ false

-- whoever owns a file may give it this owner and this group: the superuser any; another the present owner, with the
-- present group or one of his own
abbrev pub IsGivable : Caller → File → ℕ → ℕ → Type 0
IsGivable caller file uid gid = (caller.uid ≡ 0)
    ⊎ ((uid ≡ file.uid) × ((gid ≡ file.gid) ⊎ (is_in_group caller gid ≡ true)))

-- A caller may take a row away from its parent: it isn't the root, which is its own; he reaches the row and may write
-- the parent, neither is fixed, and if the parent is sticky, he is the superuser or the owner of one of the two.
pub record MayTakeAway (rows : Rows) (caller : Caller) (n parent : ℕ) : Type 0 where
  pub below : n ≢ root
  pub reaches : Reaches rows caller n
  pub writes : MayWrite rows caller parent
  pub loose : is_fixed (attrs_at rows n) ≡ false
  pub parent_loose : is_fixed (attrs_at rows parent) ≡ false
  pub sticky : has_bit (attrs_at rows parent).mode 0o1000 ≡ true
      → (caller.uid ≡ 0) ⊎ (caller.uid ≡ (attrs_at rows n).uid) ⊎ (caller.uid ≡ (attrs_at rows parent).uid)

-- A caller may place a row under a parent and a name: the parent is a directory that he may write and that grants
-- him search, and no row has that parent and name.
pub record MayPlace (rows : Rows) (caller : Caller) (parent : ℕ) (name : List ℕ) : Type 0 where
  pub directory : is_directory_row (map.get rows parent) ≡ true
  pub writes : MayWrite rows caller parent
  pub searches : row_grants caller bits.Search (map.get rows parent) ≡ true
  pub free : (m : ℕ) → IsChild rows parent name m → ⊥

-- A row may be replaced by one of this kind: it is of that kind, nothing hangs in it, and the caller may take it away.
pub record MayReplace (rows : Rows) (caller : Caller) (kind : Kind) (m parent : ℕ) : Type 0 where
  pub taken : MayTakeAway rows caller m parent
  pub childless : (name : List ℕ) (k : ℕ) → IsChild rows m name k → ⊥
  pub alike : IsSomeAnd (map.get rows m) (λ r. r.file.kind ≡ kind)

-- A caller may put a row of this kind under a parent and a name: the parent is a directory that he may write and that
-- grants him search, and a row that has the place may be replaced.
pub record MayTakePlace (rows : Rows) (caller : Caller) (kind : Kind) (parent : ℕ) (name : List ℕ) : Type 0 where
  pub directory : is_directory_row (map.get rows parent) ≡ true
  pub writes : MayWrite rows caller parent
  pub searches : row_grants caller bits.Search (map.get rows parent) ≡ true
  pub there : (m : ℕ) → IsChild rows parent name m → MayReplace rows caller kind m parent

-- a path leads to a name in a directory: the names before the last lead to the directory, and the last is the name
pub record LeadsTo (rows : Rows) (path : List (List ℕ)) (parent : ℕ) (name : List ℕ) : Type 0 where
  pub front : List (List ℕ)
  pub split : front ++ name ∷ [] ≡ path
  pub leads : reached rows root front ≡ parent

-- the paths of a call, in order: of a Rename two, of a SetLevel and a Sync none
abbrev pub paths : Request → List (List (List ℕ))
paths (Stat path) = path ∷ []
paths (Read path off len) = path ∷ []
paths (Names path) = path ∷ []
paths (Write path place bytes) = path ∷ []
paths (SetLength path len) = path ∷ []
paths (Create path mode) = path ∷ []
paths (Mkdir path mode) = path ∷ []
paths (Unlink path) = path ∷ []
paths (Rmdir path) = path ∷ []
paths (Rename from to) = from ∷ to ∷ []
paths (Chmod path mode) = path ∷ []
paths (Chown path uid gid) = path ∷ []
paths (Chflags path flags) = path ∷ []
paths (SetLevel level) = []
paths Sync = []

-- what is said of a call: of how many inode numbers there are, the world before it, who called what, the answer, and
-- the world after it
abbrev pub Law : Type 1
Law = ℕ → World → Caller → Request → Answer → World → Type 0

-- it holds of each call in each tree
abbrev pub EachCall : Law → Type 0
EachCall law =
    (numbers : ℕ) (w : World) (caller : Caller) (request : Request) (answer : Answer)
    → IsTree w.rows
    → IsAnswer numbers w caller request answer
    → law numbers w caller request answer (after_answer numbers w caller request answer)
