-- A closed door hides: what stands beneath a directory that doesn't grant a caller search makes no difference to his
-- calls.
use Rattle.std.specs.Prelude.{◌≡◌, ◌≢◌, ◌⊎◌, ◌↔◌, ℕ, suc, is_some, true, false, List, [], ◌∷◌, None, Some}
use Rattle.std.specs.FinMap as map
use Rattle.lfs_types.specs.Caller.{Caller}
use Rattle.lfs_types.specs.Tree.{Row, World, root, attrs_of}
use Rattle.lfs_types.specs.declared.answer.Answer.{Answer}
use Rattle.lfs_types.specs.declared.answer.Answer.TheVariants.{Served, Denied, Refused}
use Rattle.lfs_types.specs.declared.attrs.Bit.TheVariants as bits
use Rattle.lfs_types.specs.declared.request.Request.{Request}
use Rattle.lfs_types.specs.declared.request.Request.TheVariants.{List as Names, Create, Mkdir, Rmdir, Rename}
use Rattle.lfs_types.specs.declared.rule.Denial.{Denial}
use Rattle.lfs_types.specs.declared.rule.Rule.TheVariants.{IsEmpty}
use Rattle.lfs_rules.specs.Grants.{grants_of}
use Rattle.lfs_model.specs.declared.journal.Entry.{Entry}
use Rattle.lfs_model.specs.declared.journal.Event.{Event}
use Rattle.lfs_model.specs.declared.journal.Event.TheVariants.{User, Cleaner}
use Rattle.lfs_model.specs.World.{Rows, ancestor, IsChild, IsTree}
use Rattle.lfs_model.specs.Rules.{decide, reached}
use Rattle.lfs_model.specs.Effects.{answer_of}
use Rattle.lfs_laws.specs.LawDoor.{AreOutside}
use Rattle.lfs_laws.specs.LawView.{IsFull, MayFollow, TellsEmpty}
use Rattle.lfs_model.specs.Steps.{IsLegal, after_event}

-- a row stands somewhere beneath a directory
abbrev pub IsBeneath : Rows → ℕ → ℕ → Type 0
IsBeneath rows d n = (k : ℕ) × (ancestor rows (suc k) n ≡ d)

-- what has a number is hidden by a directory: no row, or one that stands beneath it
abbrev pub IsHidden : Rows → ℕ → ℕ → Type 0
IsHidden rows d n = (map.get rows n ≡ None) ⊎ IsBeneath rows d n

-- Two worlds differ only beneath a directory: in how many rows stand there, under which numbers and names, with what
-- kinds, attributes and bytes. The level, the directory itself and all other rows are the same.
pub record DifferBeneath (d : ℕ) (dir : Row) (w v : World) : Type 0 where
  pub level : w.level ≡ v.level
  pub one : map.get w.rows d ≡ Some dir
  pub other : map.get v.rows d ≡ Some dir
  pub rows : (n : ℕ) → (map.get w.rows n ≡ map.get v.rows n) ⊎ (IsHidden w.rows d n × IsHidden v.rows d n)

-- the same names hang in a directory
abbrev pub HasSameNames : ℕ → World → World → Type 0
HasSameNames d w v = (name : List ℕ) → ((n : ℕ) × IsChild w.rows d name n) ↔ ((n : ℕ) × IsChild v.rows d name n)

-- the call lists the directory of this number
abbrev pub IsListing : World → ℕ → Request → Type 0
IsListing w d (Names path) = reached w.rows root path ≡ d
IsListing w d request = ⊥

-- the call would take the directory of this number away: a Rmdir of it, or a Rename onto it
abbrev pub IsOnto : World → ℕ → Request → Type 0
IsOnto w d (Rmdir path) = reached w.rows root path ≡ d
IsOnto w d (Rename from to) = reached w.rows root to ≡ d
IsOnto w d request = ⊥

-- Such worlds decide alike the call of one whom the directory doesn't grant search, but that a Rmdir of the directory
-- and a Rename onto it tell whether it is empty; and where they allow it, they answer it alike. If the call lists the
-- directory, which grants him read, the same names hang in it.
abbrev pub HidesFromCall : Type 0
HidesFromCall =
    (w v : World) (d : ℕ) (dir : Row) (caller : Caller) (request : Request)
    → IsTree w.rows
    → IsTree v.rows
    → d ≢ root
    → DifferBeneath d dir w v
    → grants_of caller (attrs_of dir.file) bits.Search ≡ false
    → (IsListing w d request → grants_of caller (attrs_of dir.file) bits.Read ≡ true → HasSameNames d w v)
    → ((decide w caller request ≡ decide v caller request)
    ⊎ (IsOnto w d request × TellsEmpty w v request (decide w caller request) (decide v caller request)))
    × (decide w caller request ≡ None → answer_of w request ≡ answer_of v request)

-- the same numbers are in use
abbrev pub UseSameNumbers : World → World → Type 0
UseSameNumbers w v = (n : ℕ) → is_some (map.get w.rows n) ≡ is_some (map.get v.rows n)

-- something hangs in a directory
abbrev pub IsFilled : Rows → ℕ → Type 0
IsFilled rows d = (name : List ℕ) × ((n : ℕ) × IsChild rows d name n)

-- a call is to make a row
abbrev pub IsMaking : Request → Type 0
IsMaking (Create path mode) = Unit {0}
IsMaking (Mkdir path mode) = Unit {0}
IsMaking request = ⊥

-- a call is to make a row, and isn't denied
abbrev pub MayMakeRow : Request → Answer → Type 0
MayMakeRow request (Served shown) = IsMaking request
MayMakeRow request (Denied denial) = ⊥
MayMakeRow request (Refused resource) = IsMaking request

-- a denial comes from asking whether the directory that the call would take away is empty, or from a rule behind
abbrev pub IsDeniedBehind : Request → Denial → Type 0
IsDeniedBehind (Rmdir path) denial = denial.rule ≡ IsEmpty
IsDeniedBehind (Rename from to) denial = MayFollow (Some denial) ⊎ IsFull to (Some denial)
IsDeniedBehind request denial = ⊥

-- the answer tells whether the directory of this number is empty: the call would take it away, and no rule before
-- denied it
abbrev pub IsToldEmpty : World → ℕ → Request → Answer → Type 0
IsToldEmpty w d request (Served shown) = IsOnto w d request
IsToldEmpty w d request (Denied denial) = IsOnto w d request × IsDeniedBehind request denial
IsToldEmpty w d request (Refused resource) = IsOnto w d request

-- Whoever makes a user's call in this world sees no more than is the same: he lists the directory, where he may read
-- it, only if the names in it are; he is allowed to make a row only if the numbers in use are; and he is told whether
-- the directory is empty only if it is so in both worlds or in neither.
abbrev pub SeesTheSame : World → ℕ → Row → Type 0 → Type 0 → Type 0 → Caller → Event → Type 0
SeesTheSame w d dir SameNames SameNumbers EmptyAlike caller (User request answer) =
    (IsListing w d request → grants_of caller (attrs_of dir.file) bits.Read ≡ true → SameNames)
    × (MayMakeRow request answer → SameNumbers)
    × (IsToldEmpty w d request answer → EmptyAlike)
SeesTheSame w d dir SameNames SameNumbers EmptyAlike caller (Cleaner act outcome) = Unit {0}

-- so each, in the world that those before leave
abbrev pub AllSeeTheSame : ℕ → ℕ → Row → Type 0 → Type 0 → Type 0 → List Entry → World → Type 0
AllSeeTheSame numbers d dir SameNames SameNumbers EmptyAlike [] w = Unit {0}
AllSeeTheSame numbers d dir SameNames SameNumbers EmptyAlike (entry ∷ entries) w =
    SeesTheSame w d dir SameNames SameNumbers EmptyAlike entry.cred entry.event
    × AllSeeTheSame numbers d dir SameNames SameNumbers EmptyAlike entries
    (after_event numbers w entry.cred entry.event)

-- the directory is empty in both worlds or in neither
abbrev pub IsEmptyAlike : ℕ → World → World → Type 0
IsEmptyAlike d w v = IsFilled w.rows d ↔ IsFilled v.rows d

-- A list of entries of users whom the directory doesn't grant search, and none of whom owns it, that is legal in one of
-- the worlds is legal in the other: each call may have the same answer all along, a refusal for a resource too. If one
-- of them lists the directory, which he may read, the same names hang in it; if one is allowed to make a row, the same
-- numbers are in use, since its number and NoInodes tell of them; if one is told whether the directory is empty, it is
-- so in both or in neither.
abbrev pub HidesFromRun : Type 0
HidesFromRun =
    (numbers segments : ℕ) (entries : List Entry) (w v : World) (d : ℕ) (dir : Row)
    → IsTree w.rows
    → IsTree v.rows
    → d ≢ root
    → DifferBeneath d dir w v
    → AreOutside dir entries
    → AllSeeTheSame numbers d dir (HasSameNames d w v) (UseSameNumbers w v) (IsEmptyAlike d w v) entries w
    → IsLegal numbers segments entries w
    → IsLegal numbers segments entries v
