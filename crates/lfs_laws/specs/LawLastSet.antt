-- Who set an attribute of a row last: its kind, size, owner, group, mode, flags or place.
use Rattle.std.specs.Prelude.{◌≡◌, ◌≢◌, ◌⊎◌, ℕ, ◌+◌, ◌/◌, ◌%◌, ◌==◌, nat_le, List, [], ◌∷◌, ◌++◌, length, Option, None}
use Rattle.std.specs.Prelude.{Some, if◌then◌else◌}
use Rattle.std.specs.FinMap as map
use Rattle.lfs_types.specs.Caller.{Caller}
use Rattle.lfs_types.specs.Tree.{Row, World, root, opening_world}
use Rattle.lfs_types.specs.declared.attrs.Kind.{Kind}
use Rattle.lfs_types.specs.declared.attrs.Kind.TheVariants.{File as Regular, Directory}
use Rattle.lfs_types.specs.declared.request.Request.{Request}
use Rattle.lfs_types.specs.declared.request.Request.TheVariants.{Write, SetLength, Create, Mkdir, Rename, Chmod, Chown}
use Rattle.lfs_types.specs.declared.request.Request.TheVariants.{Chflags}
use Rattle.lfs_model.specs.declared.journal.Entry.{Entry}
use Rattle.lfs_model.specs.Rules.{attrs_at, front, last, reached, start_in}
use Rattle.lfs_model.specs.Steps.{IsLegal, after_event, world_after, world_of}
use Rattle.lfs_laws.specs.LawNew.{IsLeastUnused}
use Rattle.lfs_laws.specs.LawsRuns.{IsServed, NoneServed}

-- the call is about the row of this number: its path leads there, of a Rename the first; or it makes the row
abbrev pub IsAbout : ℕ → World → ℕ → Request → Type 0
IsAbout numbers w n (Create path mode) = IsLeastUnused numbers w.rows n
IsAbout numbers w n (Mkdir path mode) = IsLeastUnused numbers w.rows n
IsAbout numbers w n (Write path place bytes) = reached w.rows root path ≡ n
IsAbout numbers w n (SetLength path len) = reached w.rows root path ≡ n
IsAbout numbers w n (Rename from to) = reached w.rows root from ≡ n
IsAbout numbers w n (Chmod path mode) = reached w.rows root path ≡ n
IsAbout numbers w n (Chown path uid gid) = reached w.rows root path ≡ n
IsAbout numbers w n (Chflags path flags) = reached w.rows root path ≡ n
IsAbout numbers w n request = ⊥

-- what a served call gives an attribute of the row that it is about, if anything
abbrev pub Giving : Type 0 → Type 0
Giving A = World → Caller → Request → Option A

-- so the call sets the attribute of the row of this number to this value
abbrev pub SetsTo : (A : Type 0) → Giving A → ℕ → World → Caller → ℕ → A → Request → Type 0
SetsTo A gives numbers w caller n value request = IsAbout numbers w n request × (gives w caller request ≡ Some value)

-- to whatever value
abbrev pub SetsAny : (A : Type 0) → Giving A → ℕ → ℕ → World → Caller → Request → Type 0
SetsAny A gives numbers n w caller request = (value : A) × SetsTo A gives numbers w caller n value request

-- of the entries since a world, the last served call that sets the attribute sets it to this value
pub record IsSetLast (A : Type 0) (gives : Giving A) (numbers : ℕ) (entries : List Entry) (w : World) (n : ℕ)
    (value : A)
    : Type 0 where
  pub before : List Entry
  pub entry : Entry
  pub later : List Entry
  pub split : before ++ entry ∷ later ≡ entries
  pub sets : IsServed (SetsTo A gives numbers (world_after numbers before w) entry.cred n value) entry.event
  pub last : NoneServed (SetsAny A gives numbers n) numbers later
      (after_event numbers (world_after numbers before w) entry.cred entry.event)

-- none of them sets it, and it had this value in the world before them
pub record IsLeft (A : Type 0) (of : Row → A) (gives : Giving A) (numbers : ℕ) (entries : List Entry) (w : World)
    (n : ℕ) (value : A)
    : Type 0 where
  pub none : NoneServed (SetsAny A gives numbers n) numbers entries w
  pub row : Row
  pub there : map.get w.rows n ≡ Some row
  pub was : of row ≡ value

-- an attribute of a row that is there after a run is what the last call that set it made of it, or what it was in the
-- beginning
abbrev pub LastSet : (A : Type 0) → (Row → A) → Giving A → Type 0
LastSet A of gives =
    (numbers segments : ℕ) (entries : List Entry) (w : World) (n : ℕ) (r : Row)
    → IsLegal numbers segments entries w
    → map.get (world_after numbers entries w).rows n ≡ Some r
    → IsSetLast A gives numbers entries w n (of r) ⊎ IsLeft A of gives numbers entries w n (of r)

-- in a run from the opening world on, which has the root alone, it is the former for each row but the root
abbrev pub SetSinceOpening : (A : Type 0) → (Row → A) → Giving A → Type 0
SetSinceOpening A of gives =
    (numbers segments : ℕ) (entries : List Entry) (n : ℕ) (r : Row)
    → IsLegal numbers segments entries opening_world
    → map.get (world_of numbers entries).rows n ≡ Some r
    → n ≢ root
    → IsSetLast A gives numbers entries opening_world n (of r)

-- ---- kind and size

-- a kind: of what makes the row
abbrev pub kind_given : Giving Kind
kind_given w caller (Create path mode) = Some Regular
kind_given w caller (Mkdir path mode) = Some Directory
kind_given w caller request = None

abbrev pub KindLastSet : Type 0
KindLastSet = LastSet Kind (λ r. r.file.kind) kind_given

-- the end of bytes that are put into a file of this size, if they end past it
abbrev pub end_past : ℕ → ℕ → Option ℕ
end_past size end = if nat_le end size then None else Some end

-- a size: of a Write of a byte that ends past the file's end, where it ends; of a SetLength, its length; of what makes
-- the row, 0
abbrev pub size_given : Giving ℕ
size_given w caller (Write path place []) = None
size_given w caller (Write path place (b ∷ bs)) =
    let size = (attrs_at w.rows (reached w.rows root path)).size in
    end_past size (start_in place size + length (b ∷ bs))
size_given w caller (SetLength path len) = Some len
size_given w caller (Create path mode) = Some 0
size_given w caller (Mkdir path mode) = Some 0
size_given w caller request = None

abbrev pub SizeLastSet : Type 0
SizeLastSet = LastSet ℕ (λ r. length r.file.bytes) size_given

-- ---- owner and group

-- an owner: of a Chown, its own; of what makes the row, the caller
abbrev pub owner_given : Giving ℕ
owner_given w caller (Chown path uid gid) = Some uid
owner_given w caller (Create path mode) = Some caller.uid
owner_given w caller (Mkdir path mode) = Some caller.uid
owner_given w caller request = None

abbrev pub OwnerLastSet : Type 0
OwnerLastSet = LastSet ℕ (λ r. r.file.uid) owner_given

-- a group: of a Chown, its own; of what makes the row, the parent's
abbrev pub group_given : Giving ℕ
group_given w caller (Chown path uid gid) = Some gid
group_given w caller (Create path mode) = Some (attrs_at w.rows (reached w.rows root (front path))).gid
group_given w caller (Mkdir path mode) = Some (attrs_at w.rows (reached w.rows root (front path))).gid
group_given w caller request = None

abbrev pub GroupLastSet : Type 0
GroupLastSet = LastSet ℕ (λ r. r.file.gid) group_given

-- ---- the mode

-- its ten lower bits: of a Chmod and of what makes the row, those of its mode
abbrev pub permissions_given : Giving ℕ
permissions_given w caller (Chmod path mode) = Some (mode % 0o2000)
permissions_given w caller (Create path mode) = Some (mode % 0o2000)
permissions_given w caller (Mkdir path mode) = Some (mode % 0o2000)
permissions_given w caller request = None

abbrev pub PermissionsLastSet : Type 0
PermissionsLastSet = LastSet ℕ (λ r. r.file.mode % 0o2000) permissions_given

-- another than user 0 takes the set-id bits
abbrev pub bits_taken : Caller → Option ℕ
bits_taken caller = if caller.uid == 0 then None else Some 0

-- its set-id bits, which are 04000 and 02000 of a mode below 010000: the same; and of a Write of a byte, a SetLength
-- and a Chown of another than user 0, none
abbrev pub set_ids_given : Giving ℕ
set_ids_given w caller (Chmod path mode) = Some (mode / 0o2000)
set_ids_given w caller (Create path mode) = Some (mode / 0o2000)
set_ids_given w caller (Mkdir path mode) = Some (mode / 0o2000)
set_ids_given w caller (Write path place []) = None
set_ids_given w caller (Write path place (b ∷ bs)) = bits_taken caller
set_ids_given w caller (SetLength path len) = bits_taken caller
set_ids_given w caller (Chown path uid gid) = bits_taken caller
set_ids_given w caller request = None

abbrev pub SetIdsLastSet : Type 0
SetIdsLastSet = LastSet ℕ (λ r. r.file.mode / 0o2000) set_ids_given

-- ---- flags and place

-- flags: of a Chflags, its own; of what makes the row, none
abbrev pub flags_given : Giving ℕ
flags_given w caller (Chflags path flags) = Some flags
flags_given w caller (Create path mode) = Some 0
flags_given w caller (Mkdir path mode) = Some 0
flags_given w caller request = None

abbrev pub FlagsLastSet : Type 0
FlagsLastSet = LastSet ℕ (λ r. r.file.flags) flags_given

-- where a path leads to without its last name, and that name
abbrev pub place_at : World → List (List ℕ) → ℕ × List ℕ
place_at w path = (reached w.rows root (front path), last path)

-- parent and name: of a Rename those at its second path, of what makes the row those at its path
abbrev pub place_given : Giving (ℕ × List ℕ)
place_given w caller (Rename from to) = Some (place_at w to)
place_given w caller (Create path mode) = Some (place_at w path)
place_given w caller (Mkdir path mode) = Some (place_at w path)
place_given w caller request = None

abbrev pub PlaceLastSet : Type 0
PlaceLastSet = LastSet (ℕ × List ℕ) (λ r. (r.parent, r.name)) place_given

-- ---- a fresh volume

-- each of these attributes of each row but the root was set by a call
pub record AllSetSinceOpening : Type 0 where
  pub kind : SetSinceOpening Kind (λ r. r.file.kind) kind_given
  pub size : SetSinceOpening ℕ (λ r. length r.file.bytes) size_given
  pub owner : SetSinceOpening ℕ (λ r. r.file.uid) owner_given
  pub group : SetSinceOpening ℕ (λ r. r.file.gid) group_given
  pub permissions : SetSinceOpening ℕ (λ r. r.file.mode % 0o2000) permissions_given
  pub set_ids : SetSinceOpening ℕ (λ r. r.file.mode / 0o2000) set_ids_given
  pub flags : SetSinceOpening ℕ (λ r. r.file.flags) flags_given
  pub place : SetSinceOpening (ℕ × List ℕ) (λ r. (r.parent, r.name)) place_given
