-- Nothing else makes a difference: two trees in which a caller has the same view decide his call alike, and answer it
-- alike.
use Rattle.std.specs.Prelude.{◌≡◌, ◌⊎◌, ◌↔◌, ℕ, ◌==◌, ◌&&◌, Bool, true, false, List, [], ◌∷◌, length, Option, None}
use Rattle.std.specs.Prelude.{Some, option_map, if◌then◌else◌}
use Rattle.std.specs.Prelude as lists
use Rattle.std.specs.FinMap as map
use Rattle.lfs_types.specs.Caller.{Caller}
use Rattle.lfs_types.specs.Tree.{World, root, attrs_of}
use Rattle.lfs_types.specs.declared.attrs.Attrs.{Attrs}
use Rattle.lfs_types.specs.declared.attrs.Bit.TheVariants as bits
use Rattle.lfs_types.specs.declared.request.Request.{Request}
use Rattle.lfs_types.specs.declared.request.Request.TheVariants.{Read, List as Names, Rmdir, Rename}
use Rattle.lfs_types.specs.declared.rule.Denial.{Denial}
use Rattle.lfs_types.specs.declared.rule.Rule.TheVariants.{IsEmpty, IsNotBeneathItself, GrantsWrite}
use Rattle.lfs_rules.specs.Grants.{grants_of}
use Rattle.lfs_model.specs.World.{Rows, children, file_at, IsChild, IsTree}
use Rattle.lfs_model.specs.Rules.{decide, is_directory_row, reached, row_grants}
use Rattle.lfs_model.specs.Effects.{answer_of}
use Rattle.lfs_laws.specs.LawDenied.{child_of}
use Rattle.lfs_laws.specs.LawShown.{IsSeen}
use Rattle.lfs_laws.specs.Rights.{paths}

-- what a Stat shows of a row, its number and its attributes, the size among them; or that none is there
abbrev pub sight : Rows → Option ℕ → Option (ℕ × Attrs)
sight rows None = None
sight rows (Some n) = option_map (λ r. (n, attrs_of r.file)) (map.get rows n)

-- whether a row is a directory that grants a caller search
abbrev pub may_enter : Rows → Caller → Option ℕ → Bool
may_enter rows caller None = false
may_enter rows caller (Some n) = is_directory_row (map.get rows n) && row_grants caller bits.Search (map.get rows n)

-- what a caller sees along names from a row: each row, up to and including the first that is no directory which grants
-- him search
unfoldable pub sights : Rows → Caller → Option ℕ → List (List ℕ) → List (Option (ℕ × Attrs))
sights rows caller o [] = sight rows o ∷ []
sights rows caller o (name ∷ names) =
    sight rows o ∷ (if may_enter rows caller o then sights rows caller (child_of rows o name) names else [])

-- what he sees along each path of a call, from the root
abbrev pub views : World → Caller → Request → List (List (Option (ℕ × Attrs)))
views w caller request = lists.map (sights w.rows caller (Some root)) (paths request)

-- a caller reaches a row at a path, and it grants him read
abbrev pub MayRead : World → Caller → List (List ℕ) → Type 0
MayRead w caller path = IsSeen w caller path (λ n r. grants_of caller (attrs_of r.file) bits.Read ≡ true)

-- what a Read or a List may show is the same in another world: the bytes of its row, or the names of its children
abbrev pub ShowsAlike : World → World → Caller → Request → Type 0
ShowsAlike w v caller (Read path off len) =
    (may : MayRead w caller path) → may.row.file.bytes ≡ (file_at (map.get v.rows may.number)).bytes
ShowsAlike w v caller (Names path) =
    (may : MayRead w caller path) (name : List ℕ)
    → ((n : ℕ) × IsChild w.rows may.number name n) ↔ ((n : ℕ) × IsChild v.rows may.number name n)
ShowsAlike w v caller request = Unit {0}

-- a caller has the same view of a call in two worlds
pub record HasSameView (w v : World) (caller : Caller) (request : Request) : Type 0 where
  pub level : w.level ≡ v.level
  pub rows : views w caller request ≡ views v caller request
  pub contents : ShowsAlike w v caller request

-- whether nothing hangs in the row that a path leads to
abbrev pub is_empty_at : World → List (List ℕ) → Bool
is_empty_at w path = length (children w.rows (reached w.rows root path)) == 0

-- a Rename is denied since what hangs at its second path isn't empty
abbrev pub IsFull : List (List ℕ) → Option Denial → Type 0
IsFull to o = o ≡ Some (record { rule = IsEmpty; path = 1; at = length to })

-- what may come of a Rename whose second path leads to an empty directory: one of the rules behind, or none
abbrev pub MayFollow : Option Denial → Type 0
MayFollow None = Unit {0}
MayFollow (Some denial) =
    ((denial.rule ≡ IsNotBeneathItself) × (denial.path ≡ 1)) ⊎ ((denial.rule ≡ GrantsWrite) × (denial.path ≡ 0))

-- the directory at a path is empty in one world, and not in another
abbrev pub IsEmptyInOne : World → World → List (List ℕ) → Type 0
IsEmptyInOne w v path = (is_empty_at w path ≡ true) × (is_empty_at v path ≡ false)

-- the one exception: a Rmdir and a Rename tell whether the directory is empty that they would take away, by the denial
-- that says so and by no other; and only where it is empty in one of the worlds and not in the other
abbrev pub TellsEmpty : World → World → Request → Option Denial → Option Denial → Type 0
TellsEmpty w v (Rmdir path) None (Some denial) = (denial.rule ≡ IsEmpty) × IsEmptyInOne w v path
TellsEmpty w v (Rmdir path) (Some denial) None = (denial.rule ≡ IsEmpty) × IsEmptyInOne v w path
TellsEmpty w v (Rename from to) one other =
    (MayFollow one × IsFull to other × IsEmptyInOne w v to) ⊎ (MayFollow other × IsFull to one × IsEmptyInOne v w to)
TellsEmpty w v request one other = ⊥

-- such worlds decide the call alike; and where they allow it, they answer it alike
abbrev pub View : Type 0
View =
    (w v : World) (caller : Caller) (request : Request)
    → IsTree w.rows
    → IsTree v.rows
    → HasSameView w v caller request
    → ((decide w caller request ≡ decide v caller request)
    ⊎ TellsEmpty w v request (decide w caller request) (decide v caller request))
    × (decide w caller request ≡ None → answer_of w request ≡ answer_of v request)
