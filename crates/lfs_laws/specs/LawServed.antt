-- A call is allowed exactly where its caller may make it, in the words of Rights: he reaches, is granted, owns, may
-- write, may take away, may place.
use Rattle.std.specs.Prelude.{◌≡◌, ◌≢◌, ◌⊎◌, ◌↔◌, ◌≤◌, ◌||◌, ℕ, ◌+◌, true, false, List, [], length, None, Some}
use Rattle.std.specs.FinMap as map
use Rattle.lfs_types.specs.Caller.{Caller}
use Rattle.lfs_types.specs.Tree.{Row, World, root, attrs_of}
use Rattle.lfs_types.specs.declared.answer.Answer.{Answer}
use Rattle.lfs_types.specs.declared.answer.Answer.TheVariants.{Served, Denied, Refused}
use Rattle.lfs_types.specs.declared.attrs.Bit.TheVariants as bits
use Rattle.lfs_types.specs.declared.attrs.Kind.{Kind}
use Rattle.lfs_types.specs.declared.attrs.Kind.TheVariants.{File as Regular, Directory}
use Rattle.lfs_types.specs.declared.request.Request.{Request}
use Rattle.lfs_types.specs.declared.request.Request.TheVariants.{Stat, Read, Write, List as Names, SetLength, Create}
use Rattle.lfs_types.specs.declared.request.Request.TheVariants.{Mkdir, Unlink, Rmdir, Rename, Chmod, Chown, Chflags}
use Rattle.lfs_types.specs.declared.request.Request.TheVariants.{SetLevel, Sync}
use Rattle.lfs_rules.specs.Grants.{grants_of}
use Rattle.lfs_rules.specs.Locks.{is_append_only, changes_system_flags, clears_system_lock, has_system_lock}
use Rattle.lfs_rules.specs.Securelevel.{is_above_zero, is_lower}
use Rattle.lfs_model.specs.World.{Rows, ancestor, children, IsTree}
use Rattle.lfs_laws.specs.LawDenied.{led}
use Rattle.lfs_laws.specs.Rights.{IsGivable, MayPlace, MayRetitle, MayTakeAway, MayTakePlace, MayWrite, Owns, Reaches}
use Rattle.lfs_model.specs.Rules.{decide, file_max, front, is_end, last, start_in}

-- a path leads to a row, of which P holds
pub record HasRow (w : World) (path : List (List ℕ)) (P : ℕ → Row → Type 0) : Type 0 where
  pub number : ℕ
  pub row : Row
  pub leads : led w.rows (Some root) path ≡ Some number
  pub there : map.get w.rows number ≡ Some row
  pub holds : P number row

-- a path leads to a place where the caller may place a row, in a directory of which P holds
pub record HasPlace (w : World) (caller : Caller) (path : List (List ℕ)) (P : ℕ → Type 0) : Type 0 where
  pub parent : ℕ
  pub filled : path ≢ []
  pub leads : led w.rows (Some root) (front path) ≡ Some parent
  pub placed : MayPlace w.rows caller parent (last path)
  pub holds : P parent

-- a path leads to a place that the caller may give to a row of this kind, in a directory of which P holds
pub record HasPlaceFor (w : World) (caller : Caller) (path : List (List ℕ)) (kind : Kind) (P : ℕ
    → Type 0) : Type 0 where
  pub parent : ℕ
  pub filled : path ≢ []
  pub leads : led w.rows (Some root) (front path) ≡ Some parent
  pub placed : MayTakePlace w.rows caller kind parent (last path)
  pub holds : P parent

-- a row is neither this one nor beneath it
abbrev pub IsNotUnder : Rows → ℕ → ℕ → Type 0
IsNotUnder rows n m = (k : ℕ) → ancestor rows k m ≢ n

-- a caller may hang a row in a directory: it isn't the row nor beneath it, and a directory that gets another parent
-- grants him write
pub record MayHang (w : World) (caller : Caller) (n : ℕ) (r : Row) (parent : ℕ) : Type 0 where
  pub apart : IsNotUnder w.rows n parent
  pub granted : r.file.kind ≡ Directory → parent ≢ r.parent → grants_of caller (attrs_of r.file) bits.Write ≡ true

-- a caller may give a row the place to which a path leads: the row has it already; or the place is free, or what has it
-- is of the row's kind, childless, and he may take it away, and he may hang the row there
abbrev pub MayBring : World → Caller → List (List ℕ) → ℕ → Row → Type 0
MayBring w caller to n r =
    (led w.rows (Some root) to ≡ Some n) ⊎ HasPlaceFor w caller to r.file.kind (MayHang w caller n r)

-- a caller may make this call
abbrev pub May : World → Caller → Request → Type 0
May w caller (Stat path) = HasRow w path (λ n r. Reaches w.rows caller n)
May w caller (Read path off len) = HasRow w path (λ n r.
    Reaches w.rows caller n × (r.file.kind ≡ Regular) × (grants_of caller (attrs_of r.file) bits.Read ≡ true))
May w caller (Names path) = HasRow w path (λ n r.
    Reaches w.rows caller n × (r.file.kind ≡ Directory) × (grants_of caller (attrs_of r.file) bits.Read ≡ true))
May w caller (Write path place bytes) = HasRow w path (λ n r.
    (r.file.kind ≡ Regular) × MayWrite w.rows caller n
    × (is_append_only (attrs_of r.file) ≡ true → is_end place ≡ true)
    × (start_in place (length r.file.bytes) + length bytes ≤ file_max))
May w caller (SetLength path len) = HasRow w path (λ n r.
    (r.file.kind ≡ Regular) × MayWrite w.rows caller n × (is_append_only (attrs_of r.file) ≡ false) × (len ≤ file_max))
May w caller (Create path mode) = HasPlace w caller path (λ p. Unit {0})
May w caller (Mkdir path mode) = HasPlace w caller path (λ p. Unit {0})
May w caller (Unlink path) = HasRow w path (λ n r. MayTakeAway w.rows caller n r.parent × (r.file.kind ≡ Regular))
May w caller (Rmdir path) = HasRow w path (λ n r.
    MayTakeAway w.rows caller n r.parent × (r.file.kind ≡ Directory) × (children w.rows n ≡ []))
May w caller (Rename from to) = HasRow w from (λ n r.
    MayTakeAway w.rows caller n r.parent × MayBring w caller to n r)
May w caller (Chmod path mode) = HasRow w path (λ n r. MayRetitle w.rows caller n)
May w caller (Chown path uid gid) = HasRow w path (λ n r. MayRetitle w.rows caller n × IsGivable caller r.file uid gid)
May w caller (Chflags path flags) = HasRow w path (λ n r. Owns w.rows caller n
    × ((changes_system_flags r.file.flags flags || has_system_lock r.file.flags) ≡ true → caller.uid ≡ 0)
    × (is_above_zero w.level ≡ true → clears_system_lock r.file.flags flags ≡ false))
May w caller (SetLevel level) = (caller.uid ≡ 0) × (is_lower level w.level ≡ true → caller.init ≡ true)
May w caller Sync = Unit {0}

-- the rules deny a call to no caller who may make it, and to each who may not
abbrev pub ServedExactlyWhereMay : Type 0
ServedExactlyWhereMay =
    (w : World) (caller : Caller) (request : Request)
    → IsTree w.rows → (decide w caller request ≡ None) ↔ May w caller request

-- whose call was served, or refused for a resource, he might make it; whose was denied, he might not
abbrev pub IsAnsweredAsMay : World → Caller → Request → Answer → Type 0
IsAnsweredAsMay w caller request (Served shown) = May w caller request
IsAnsweredAsMay w caller request (Denied denial) = ¬ (May w caller request)
IsAnsweredAsMay w caller request (Refused resource) = May w caller request
