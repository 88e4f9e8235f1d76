-- Through a run, those whom a file grants no read, and who don't own it, learn nothing of its bytes but how many they
-- are.
use Rattle.std.specs.Prelude.{◌≡◌, ◌≢◌, ℕ, false, List, [], ◌∷◌, length, Some}
use Rattle.std.specs.FinMap as map
use Rattle.lfs_types.specs.Caller.{Caller}
use Rattle.lfs_types.specs.Tree.{Row, World, attrs_of}
use Rattle.lfs_types.specs.declared.attrs.Bit.TheVariants as bits
use Rattle.lfs_rules.specs.Grants.{grants_of}
use Rattle.lfs_model.specs.declared.journal.Entry.{Entry}
use Rattle.lfs_model.specs.declared.journal.Event.{Event}
use Rattle.lfs_model.specs.declared.journal.Event.TheVariants.{User, Cleaner}
use Rattle.lfs_model.specs.World.{IsTree}
use Rattle.lfs_model.specs.Steps.{IsLegal}

-- a user's call is made by one whom the file grants no read, and who doesn't own it
abbrev pub IsUnread : Row → Caller → Event → Type 0
IsUnread r caller (User request answer) = (grants_of caller (attrs_of r.file) bits.Read ≡ false)
    × (caller.uid ≢ r.file.uid)
IsUnread r caller (Cleaner act outcome) = Unit {0}

-- so is each
abbrev pub AreUnread : Row → List Entry → Type 0
AreUnread r [] = Unit {0}
AreUnread r (entry ∷ entries) = IsUnread r entry.cred entry.event × AreUnread r entries

-- two worlds differ only in the bytes of one file, of which there are as many
pub record DifferInBytesOf (n : ℕ) (r s : Row) (w v : World) : Type 0 where
  pub level : w.level ≡ v.level
  pub one : map.get w.rows n ≡ Some r
  pub other : map.get v.rows n ≡ Some s
  pub rest : s ≡ record r { file = record r.file { bytes = s.file.bytes } }
  pub size : length r.file.bytes ≡ length s.file.bytes
  pub rows : (m : ℕ) → m ≢ n → map.get w.rows m ≡ map.get v.rows m

-- a run of such users that may be answered in one of them may be answered so in the other, refusals for a resource too
abbrev pub NobodyReadsInRun : Type 0
NobodyReadsInRun =
    (numbers segments : ℕ) (entries : List Entry) (w v : World) (n : ℕ) (r s : Row)
    → IsTree w.rows
    → IsTree v.rows
    → DifferInBytesOf n r s w v
    → AreUnread r entries
    → IsLegal numbers segments entries w
    → IsLegal numbers segments entries v
