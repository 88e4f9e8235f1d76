-- What judging and making a Rename come to, over a store.
use Rattle.std.specs.Prelude.{◌≡◌, Ok, ◌≢◌, ◌==◌, ◌*◌, ◌/◌, ◌<◌, ℕ, Bool, true, false, List, length, IfErr, IfSome}
use Rattle.std.specs.Prelude.{IsSome, OnErr, OnOk, Option, Result, ◌≤◌, None, Some, if◌then◌else◌}
use Rattle.std.specs.FinMap as map
use Rattle.lfs_types.specs.declared.block.TheConstants.{BLOCK_SIZE}
use Rattle.lfs_types.specs.Changes.{changed_at}
use Rattle.lfs_types.specs.Kinds.{is_directory_kind}
use Rattle.lfs_types.specs.Splicing.{splice}
use Rattle.lfs_types.specs.Stored.{shown_attrs, bytes_of}
use Rattle.lfs_types.specs.Caller.{Caller}
use Rattle.lfs_types.specs.Tree.{World, Content, root}
use Rattle.lfs_dirs.specs.Directory.{IsDirectoryBlock, number_in, renumbered}
use Rattle.lfs_dirs.specs.Reading.{entries_of}
use Rattle.lfs_calls.specs.Content.{AreBlocks, FitsNowhere, HasBlocks, all_entries, block_at}
use Rattle.lfs_calls.specs.declared.directory.DirBlock.{DirBlock}
use Rattle.lfs_calls.specs.declared.renaming.Move.{Move}
use Rattle.lfs_calls.specs.declared.renaming.Places.{Places}
use Rattle.lfs_calls.specs.declared.renaming.Target.{Target}
use Rattle.lfs_calls.specs.declared.renaming.Target.TheVariants as targets
use Rattle.lfs_model.specs.World.{Rows, child}
use Rattle.lfs_types.specs.declared.answer.Served.{Served}
use Rattle.lfs_types.specs.declared.answer.Served.TheVariants.{Done}
use Rattle.lfs_types.specs.declared.request.Request.TheVariants.{Rename}
use Rattle.lfs_model.specs.Rules.{decide, front, last, reached}
use Rattle.lfs_calls.specs.Arrivals.{IsArrival}
use Rattle.lfs_calls.specs.Makes.{IsRoom, StandsIn, with_block}
use Rattle.std.specs.Borrow.{Bor}
use Rattle.lfs_types.specs.StoreStates.{Follows, StoreState, MayRefuse}
use Rattle.lfs_types.specs.declared.answer.Resource.TheVariants as resources
use Rattle.lfs_types.specs.declared.limits.TheConstants.{FILE_BYTES}
use Rattle.lfs_types.specs.declared.store.StoreRefusal.TheVariants.{NoSpace, NoMemory}
use Rattle.lfs_calls.specs.declared.call_fault.CallFault.{CallFault}
use Rattle.lfs_calls.specs.declared.call_fault.CallFault.TheVariants as reasons
use Rattle.lfs_calls.specs.Removes.{IsChildless, IsRemoval, HangsAs, IsTaking}

-- the number of what has a name
abbrev pub target_number : ℕ → Target → Option ℕ
target_number moved targets.Itself = Some moved
target_number moved targets.Free = None
target_number moved (targets.Taken there) = Some there.number

-- the number that has the new name
abbrev pub number_there : Move → Option ℕ
number_there move = target_number move.removal.file.number move.target

-- what has the new name is as the store shows it, and isn't the moved row where it is another
abbrev pub IsTarget : Content → ℕ → Target → Type 0
IsTarget c moved targets.Itself = Unit {0}
IsTarget c moved targets.Free = Unit {0}
IsTarget c moved (targets.Taken there) = (there.number ≢ moved)
    × (Some there.attrs ≡ shown_attrs c there.number)

-- the row that a path leads to, and the directory that is to list it at another path, as the store shows them
pub record IsMove (c : Content) (rows : Rows) (from to : List (List ℕ)) (move : Move) : Type 0 where
  pub removal : IsRemoval c rows from move.removal
  pub arrival : IsArrival c rows to (record { dir = move.dir; there = number_there move })
  pub target : IsTarget c move.removal.file.number move.target

-- the content after a block of a directory was written
abbrev pub block_put : ℕ → DirBlock → Content → Content
block_put dir room c = changed_at (map.get c dir) dir
    (λ f. record f { bytes = splice f.bytes room.off room.block }) c

-- the content without a file, where one gives way
abbrev pub without_file : Option ℕ → Content → Content
without_file None c = c
without_file (Some gone) c = map.remove c gone

-- the content after blocks of two directories, or of one, were written, one after the other, and the file that gives
-- way, if there is one, was removed
abbrev pub WritesBlocks : Content → Content → ℕ → DirBlock → ℕ → DirBlock → Option ℕ → Type 0
WritesBlocks old new first taken second room gone = (q : ℕ) → map.get new q
    ≡ map.get (without_file gone (block_put second room (block_put first taken old))) q

-- a row hangs in a directory under a name, and may go to a directory, or stay in the same
pub record Leaves (c : Content) (rows : Rows) (move : Move) (old : List ℕ) : Type 0 where
  pub hangs : HangsAs c rows move.removal old
  pub shown : Some move.dir.attrs ≡ shown_attrs c move.dir.number
  pub directory : is_directory_kind move.dir.attrs.kind ≡ true

-- and its new name is free there, or that of another row, in which nothing hangs, and which is to give way
pub record GoesTo (c : Content) (rows : Rows) (move : Move) (old new : List ℕ)
    (gone : Option ℕ) : Type 0 where
  pub leaves : Leaves c rows move old
  pub there : child rows move.dir.number new ≡ gone
  pub gives_way : IfSome gone (λ m. (m ≢ move.removal.file.number) × IsChildless rows m)

-- the name that is taken away from the directory of the new one, if it is there
abbrev pub name_left : Move → List ℕ → Option (List ℕ)
name_left move old = if move.removal.dir.number == move.dir.number then Some old else None

-- the block of a directory's bytes that lists a name, with another number for it
pub record IsSwap (bytes : List ℕ) (name : List ℕ) (number : ℕ) (room : DirBlock) (k : ℕ) : Type 0 where
  pub off : room.off ≡ BLOCK_SIZE * k
  pub within : k < length bytes / BLOCK_SIZE
  pub listed : IsSome (number_in name (entries_of (block_at bytes k)))
  pub block : IsDirectoryBlock room.block (entries_of room.block)
  pub swaps : entries_of room.block ≡ renumbered name number (entries_of (block_at bytes k))

-- a block with another number for a name that it lists
pub record IsSwapIn (seen : DirBlock) (name : List ℕ) (number : ℕ) (room : DirBlock) : Type 0 where
  pub off : room.off ≡ seen.off
  pub listed : IsSome (number_in name (entries_of seen.block))
  pub block : IsDirectoryBlock room.block (entries_of room.block)
  pub swaps : entries_of room.block ≡ renumbered name number (entries_of seen.block)

-- a block, or one at the end, with the new name of a row; where another row gives way, the block that lists the name
abbrev pub IsNewPlace : List ℕ → ℕ → List ℕ → Option ℕ → DirBlock → ℕ → Type 0
IsNewPlace bytes number name None room k = IsRoom bytes number name room k
IsNewPlace bytes number name (Some gone) room k = IsSwap bytes name number room k

-- the block that lists the old name, without it, and after that was written the one with the new name; and what gives
-- way
pub record ArePlaces (c : Content) (move : Move) (old new : List ℕ) (gone : Option ℕ)
    (places : Places) : Type 0 where
  pub taking : (k : ℕ) × IsTaking (bytes_of c move.removal.dir.number) old places.taken k
  pub room : (k : ℕ) × IsNewPlace (bytes_of
      (block_put move.removal.dir.number places.taken c) move.dir.number) move.removal.file.number
      new gone places.room k
  pub gives_way : places.gone ≡ gone

-- A Rename's new name stands in the first block of its directory where it fits, once the old name was taken away from
-- its own, or else in a new one at the end; nothing but these two blocks was written.
pub record MovesFirst (old new : Content) (rows : Rows) (from to : List (List ℕ)) : Type 0 where
  pub taken : DirBlock
  pub takes : (k : ℕ) × IsTaking (bytes_of old (reached rows root (front from))) (last from) taken k
  pub room : DirBlock
  pub lists : (k : ℕ) × IsRoom (bytes_of (block_put (reached rows root (front from)) taken old)
      (reached rows root (front to)))
      (reached rows root from) (last to) room k
  pub written : WritesBlocks old new (reached rows root (front from)) taken
      (reached rows root (front to)) room None

-- A Rename over another row: its old name was taken away, and the new one has its number in the entry's place; nothing
-- but these two blocks was written, and nothing but the other row removed.
pub record SwapsInPlace (old new : Content) (rows : Rows) (from to : List (List ℕ))
    (gone : ℕ) : Type 0 where
  pub taken : DirBlock
  pub takes : (k : ℕ) × IsTaking (bytes_of old (reached rows root (front from))) (last from) taken k
  pub room : DirBlock
  pub swaps : (k : ℕ) × IsSwap (bytes_of (block_put (reached rows root (front from)) taken old)
      (reached rows root (front to)))
      (last to) (reached rows root from) room k
  pub written : WritesBlocks old new (reached rows root (front from)) taken
      (reached rows root (front to)) room (Some gone)

-- how a Rename onto a name that is there leaves them, by whether it is its own
abbrev pub PlacesOver : Bool → Content → Content → Rows → List (List ℕ) → List (List ℕ) → ℕ → Type 0
PlacesOver true old new rows from to there = new ≡ old
PlacesOver false old new rows from to there = SwapsInPlace old new rows from to there

-- how a Rename leaves the entries, by what has the new name
abbrev pub PlacesName : Content → Content → Rows → List (List ℕ) → List (List ℕ) → Option ℕ → Type 0
PlacesName old new rows from to None = MovesFirst old new rows from to
PlacesName old new rows from to (Some m) =
    PlacesOver (m == reached rows root from) old new rows from to m

-- a directory of this size, in one of whose blocks another may be read, lists a name, which may get this number
pub record CanSwap (c : Content) (dir size : ℕ) (taken : Option (Bor DirBlock)) (name : List ℕ)
    (number : ℕ) : Type 0 where
  pub stored : HasBlocks c dir size
  pub bounded : size ≤ FILE_BYTES
  pub stands : IfSome taken (λ room. StandsIn (bytes_of c dir) room.now)
  pub blocks : AreBlocks (with_block (bytes_of c dir) taken)
  pub above : 0 < number
  pub listed : IsSome (number_in name (all_entries (with_block (bytes_of c dir) taken)))

-- why a row isn't put in a place: there is no room for its name, or the store refuses the changes
abbrev pub IsCauseOf : StoreState → Type 0 → CallFault → Type 0
IsCauseOf old full (reasons.Denied denial) = ⊥
IsCauseOf old full (reasons.Refused resources.DirectoryFull) = full
IsCauseOf old full (reasons.Refused resources.NoSpace) = MayRefuse old NoSpace
    × (full → ⊥)
IsCauseOf old full (reasons.Refused resources.NoMemory) = MayRefuse old NoMemory
    × (full → ⊥)
IsCauseOf old full (reasons.Refused resource) = ⊥

-- the new name fits nowhere in the directory to which a row goes, once the old one is taken away; one that another row
-- has needs no room
abbrev pub HasNoRoom : Content → Move → List ℕ → List ℕ → Option ℕ → Type 0
HasNoRoom c move name new None = FitsNowhere (bytes_of c move.dir.number) (name_left move name) new
HasNoRoom c move name new (Some gone) = ⊥

-- the blocks were written that put a row in a place that is free, or in that of another row, which was removed
abbrev pub MovesTo : Content → Content → Move → List ℕ → List ℕ → Option ℕ → Type 0
MovesTo old after move name new gone =
    (places : Places) × (ArePlaces old move name new gone places
    × WritesBlocks old after move.removal.dir.number places.taken move.dir.number places.room gone)

-- a row was put in a place, or no content changed, which has its cause; where its name has no room the state is as it
-- was
pub record PutsRow (old : StoreState) (move : Move) (name new : List ℕ) (gone : Option ℕ)
    (result : Result (Unit {0}) CallFault) (after : StoreState) : Type 0 where
  pub ok : OnOk result (MovesTo old.content after.content move name new gone)
  pub err : OnErr result (after.content ≡ old.content)
  pub refused : IfErr result (IsCauseOf old (HasNoRoom old.content move name new gone))
  pub roomless : IfErr result (λ why. why ≡ reasons.Refused resources.DirectoryFull → after ≡ old)
  pub follows : Follows old after

-- a row goes to a place: that which it has, a free one, or that of another row
abbrev pub GoesWith : Content → Rows → Move → List ℕ → List ℕ → Target → Type 0
GoesWith c rows move old new targets.Itself = Unit {0}
GoesWith c rows move old new targets.Free = GoesTo c rows move old new None
GoesWith c rows move old new (targets.Taken there) = GoesTo c rows move old new (Some there.number)

-- the content after a row was put in its place: the same where it has it already
abbrev pub PlacedAt : Content → Move → List ℕ → List ℕ → Target → Content → Type 0
PlacedAt c move name new targets.Itself after = after ≡ c
PlacedAt c move name new targets.Free after = MovesTo c after move name new None
PlacedAt c move name new (targets.Taken there) after = MovesTo c after move name new (Some there.number)

-- a row was put in its place, or not: nothing changes where it has it already
abbrev pub PlacesRow : StoreState → Move → List ℕ → List ℕ → Target → Result (Unit {0}) CallFault
    → StoreState → Type 0
PlacesRow old move name new targets.Itself result after = (result ≡ Ok tt) × (after ≡ old)
PlacesRow old move name new targets.Free result after = PutsRow old move name new None result after
PlacesRow old move name new (targets.Taken there) result after =
    PutsRow old move name new (Some there.number) result after

-- a Rename to the name that the row has is served where the rules allow it, and leaves all as it was
abbrev pub StaysInPlace : StoreState → StoreState → World → Caller → List (List ℕ) → List (List ℕ)
    → Result Served CallFault → Type 0
StaysInPlace old new w caller from to result =
    child w.rows (reached w.rows root (front to)) (last to) ≡ Some (reached w.rows root from)
    → decide w caller (Rename from to) ≡ None
    → (result ≡ Ok Done) × (new ≡ old)
