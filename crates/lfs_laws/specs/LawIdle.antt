-- What decides nothing: how a level below 1 or above 0 is called, UF_NODUMP and SF_ARCHIVED, init, and the order of
-- groups.
use Rattle.std.specs.Prelude.{◌≡◌, ◌≢◌, ◌↔◌, ℕ, ◌/◌, ◌%◌, Contains, Option, None, Some}
use Rattle.std.specs.FinMap as map
use Rattle.lfs_types.specs.Caller.{Caller}
use Rattle.lfs_types.specs.Tree.{Row, World}
use Rattle.lfs_types.specs.declared.level.Level.TheVariants.{PermanentlyInsecure, Insecure, Secure, HighlySecure}
use Rattle.lfs_types.specs.declared.request.Request.{Request}
use Rattle.lfs_types.specs.declared.request.Request.TheVariants.{Chflags, SetLevel}
use Rattle.lfs_model.specs.World.{Rows}
use Rattle.lfs_model.specs.Rules.{decide}

-- the call sets flags
abbrev pub IsChflags : Request → Type 0
IsChflags (Chflags path flags) = Unit {0}
IsChflags request = ⊥

-- the call sets the level
abbrev pub IsSetLevel : Request → Type 0
IsSetLevel (SetLevel level) = Unit {0}
IsSetLevel request = ⊥

-- all other calls are decided at level -1 as at 0, and at level 2 as at 1
abbrev pub LevelsAlike : Type 0
LevelsAlike =
    (rows : Rows) (caller : Caller) (request : Request)
    → (IsSetLevel request → ⊥)
    → (decide (record { level = PermanentlyInsecure; rows = rows }) caller request
    ≡ decide (record { level = Insecure; rows = rows }) caller request)
    × (decide (record { level = HighlySecure; rows = rows }) caller request
    ≡ decide (record { level = Secure; rows = rows }) caller request)

-- callers of one user who have the same groups, in whatever order and however often
pub record HasSameGroups (caller other : Caller) : Type 0 where
  pub uid : caller.uid ≡ other.uid
  pub groups : (gid : ℕ) → Contains caller.groups gid ↔ Contains other.groups gid

-- all their calls are decided alike; a SetLevel where both are init or neither is
abbrev pub CallersAlike : Type 0
CallersAlike =
    (w : World) (caller other : Caller) (request : Request)
    → HasSameGroups caller other
    → (IsSetLevel request → caller.init ≡ other.init)
    → decide w caller request ≡ decide w other request

-- a row is another but for flags, of which the four that lock are the same
pub record HasSameLocks (r s : Row) : Type 0 where
  pub rest : s ≡ record r { file = record r.file { flags = s.file.flags } }
  pub user_immutable : r.file.flags / 0x2 % 2 ≡ s.file.flags / 0x2 % 2
  pub user_append : r.file.flags / 0x4 % 2 ≡ s.file.flags / 0x4 % 2
  pub system_immutable : r.file.flags / 0x2_0000 % 2 ≡ s.file.flags / 0x2_0000 % 2
  pub system_append : r.file.flags / 0x4_0000 % 2 ≡ s.file.flags / 0x4_0000 % 2

-- two worlds have no row under a number, or such rows
abbrev pub NumberHasSameLocks : Option Row → Option Row → Type 0
NumberHasSameLocks None None = Unit {0}
NumberHasSameLocks None (Some s) = ⊥
NumberHasSameLocks (Some r) None = ⊥
NumberHasSameLocks (Some r) (Some s) = HasSameLocks r s

-- two worlds differ at most in other flags, as UF_NODUMP and SF_ARCHIVED
pub record DifferInMarks (w v : World) : Type 0 where
  pub level : w.level ≡ v.level
  pub rows : (n : ℕ) → NumberHasSameLocks (map.get w.rows n) (map.get v.rows n)

-- the same system flags are set of each row: the bits from 0x10000 on, SF_ARCHIVED among them
abbrev pub HaveSameSystemFlags : World → World → Type 0
HaveSameSystemFlags w v =
    (n : ℕ) (r s : Row) → map.get w.rows n ≡ Some r → map.get v.rows n ≡ Some s
    → r.file.flags / 0x1_0000 ≡ s.file.flags / 0x1_0000

-- such worlds decide all calls alike; a Chflags of another than user 0 where the same system flags are set
abbrev pub MarksAlike : Type 0
MarksAlike =
    (w v : World) (caller : Caller) (request : Request)
    → DifferInMarks w v
    → (IsChflags request → caller.uid ≢ 0 → HaveSameSystemFlags w v)
    → decide w caller request ≡ decide v caller request
