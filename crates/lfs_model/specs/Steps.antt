-- The steps of a volume, and the lists of entries that are runs of it.
use Rattle.std.specs.Prelude.{◌≡◌, ℕ, ◌<◌, ◌≤◌, List, [], ◌∷◌, length, None, Some, IsSome}
use Rattle.std.specs.FinMap as map
use Rattle.lfs_types.specs.Caller.{Caller}
use Rattle.lfs_types.specs.Tree.{World, root, opening_world}
use Rattle.lfs_types.specs.declared.answer.Answer.{Answer}
use Rattle.lfs_types.specs.declared.answer.Answer.TheVariants.{Served, Denied, Refused}
use Rattle.lfs_types.specs.declared.answer.Resource.{Resource}
use Rattle.lfs_types.specs.declared.answer.Resource.TheVariants.{NoMemory, NoSpace, NoInodes, DirectoryFull}
use Rattle.lfs_types.specs.declared.answer.Resource.TheVariants.{JournalFull}
use Rattle.lfs_types.specs.declared.limits.TheConstants.{FILE_BLOCKS, FIRST_INODE}
use Rattle.lfs_types.specs.declared.request.Request.{Request}
use Rattle.lfs_types.specs.declared.request.Request.TheVariants.{Stat, Read, List as Names, Create, Mkdir, Rename}
use Rattle.lfs_types.specs.declared.request.Request.TheVariants.{SetLevel}
use Rattle.lfs_model.specs.declared.journal.Entry.{Entry}
use Rattle.lfs_model.specs.declared.journal.Event.{Event}
use Rattle.lfs_model.specs.declared.journal.Event.TheVariants.{User, Cleaner}
use Rattle.lfs_model.specs.Cleaning.{IsCleaning, kind_of}
use Rattle.lfs_model.specs.World.{Rows, child, children}
use Rattle.lfs_model.specs.Rules.{decide, front, last, reached}
use Rattle.lfs_model.specs.Effects.{effect, answer_of}

-- a row has each number that a new row may get
abbrev pub AllUsed : ℕ → Rows → Type 0
AllUsed numbers rows = (n : ℕ) → FIRST_INODE ≤ n → n < numbers → IsSome (map.get rows n)

-- the call wants a new number, and none is left
abbrev pub LacksInodes : ℕ → World → Request → Type 0
LacksInodes numbers w (Create path mode) = AllUsed numbers w.rows
LacksInodes numbers w (Mkdir path mode) = AllUsed numbers w.rows
LacksInodes numbers w request = ⊥

-- the call puts a new name in a directory that has at least 16,524, one for each block; a Rename, one that isn't there
abbrev pub IsCrowded : World → Request → Type 0
IsCrowded w (Create path mode) = FILE_BLOCKS ≤ length (children w.rows (reached w.rows root (front path)))
IsCrowded w (Mkdir path mode) = FILE_BLOCKS ≤ length (children w.rows (reached w.rows root (front path)))
IsCrowded w (Rename from to) =
    (child w.rows (reached w.rows root (front to)) (last to) ≡ None)
    × (FILE_BLOCKS ≤ length (children w.rows (reached w.rows root (front to))))
IsCrowded w request = ⊥

-- the call may change files, or writes what waits
abbrev pub IsChanging : Request → Type 0
IsChanging (Stat path) = ⊥
IsChanging (Read path off len) = ⊥
IsChanging (Names path) = ⊥
IsChanging (SetLevel level) = ⊥
IsChanging request = Unit {0}

-- a call may be refused for a resource, with an entry in the journal
abbrev pub MayLack : ℕ → World → Request → Resource → Type 0
MayLack numbers w request NoInodes = LacksInodes numbers w request
MayLack numbers w request DirectoryFull = ¬ (LacksInodes numbers w request) × IsCrowded w request
MayLack numbers w request NoSpace = ¬ (LacksInodes numbers w request) × IsChanging request
MayLack numbers w request NoMemory = ⊥
MayLack numbers w request JournalFull = ⊥

-- a user's call may be answered so in this world
abbrev pub IsAnswer : ℕ → World → Caller → Request → Answer → Type 0
IsAnswer numbers w caller request (Served shown) =
    (decide w caller request ≡ None) × ¬ (LacksInodes numbers w request) × (shown ≡ answer_of w request)
IsAnswer numbers w caller request (Denied denial) = decide w caller request ≡ Some denial
IsAnswer numbers w caller request (Refused resource) = (decide w caller request ≡ None)
    × MayLack numbers w request resource

-- the world after a user's call that was answered so
abbrev pub after_answer : ℕ → World → Caller → Request → Answer → World
after_answer numbers w caller request (Served shown) = effect numbers w caller request
after_answer numbers w caller request (Denied denial) = w
after_answer numbers w caller request (Refused resource) = w

-- an event may happen in this world, on a volume of so many inode numbers and segments
abbrev pub IsEvent : ℕ → ℕ → World → Caller → Event → Type 0
IsEvent numbers segments w caller (User request answer) = IsAnswer numbers w caller request answer
IsEvent numbers segments w caller (Cleaner act outcome) = IsCleaning numbers segments caller (kind_of act) outcome

-- the world after an event: a cleaner's call changes nothing
abbrev pub after_event : ℕ → World → Caller → Event → World
after_event numbers w caller (User request answer) = after_answer numbers w caller request answer
after_event numbers w caller (Cleaner act outcome) = w

-- the world after entries
abbrev pub world_after : ℕ → List Entry → World → World
world_after numbers [] w = w
world_after numbers (entry ∷ entries) w = world_after numbers entries (after_event numbers w entry.cred entry.event)

-- each entry may happen in the world that those before it leave
abbrev pub IsLegal : ℕ → ℕ → List Entry → World → Type 0
IsLegal numbers segments [] w = Unit {0}
IsLegal numbers segments (entry ∷ entries) w =
    IsEvent numbers segments w entry.cred entry.event
    × IsLegal numbers segments entries (after_event numbers w entry.cred entry.event)

-- the world that a journal leads to from that of a fresh volume
abbrev pub world_of : ℕ → List Entry → World
world_of numbers entries = world_after numbers entries opening_world
