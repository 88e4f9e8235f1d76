-- Through every list of calls: each entry, with the worlds before and after it, meets the laws of one call.
use Rattle.std.specs.Prelude.{◌≡◌, ◌≤◌, ℕ, List, ◌∷◌, ◌++◌, length, Some}
use Rattle.std.specs.FinMap as map
use Rattle.lfs_types.specs.Caller.{Caller}
use Rattle.lfs_types.specs.Tree.{Row, World, opening_world}
use Rattle.lfs_types.specs.declared.answer.Answer.{Answer}
use Rattle.lfs_types.specs.declared.request.Request.{Request}
use Rattle.lfs_model.specs.declared.asking.CleanerAct.{CleanerAct}
use Rattle.lfs_model.specs.declared.journal.CleanerOutcome.{CleanerOutcome}
use Rattle.lfs_model.specs.declared.journal.Entry.{Entry}
use Rattle.lfs_model.specs.declared.journal.Event.TheVariants.{User, Cleaner}
use Rattle.lfs_model.specs.World.{Rows, IsTree}
use Rattle.lfs_model.specs.Rules.{file_max}
use Rattle.lfs_laws.specs.LawDone.{Done}
use Rattle.lfs_laws.specs.LawFlagged.{Reflagged}
use Rattle.lfs_laws.specs.LawGone.{Gone}
use Rattle.lfs_laws.specs.LawLevel.{Relevelled}
use Rattle.lfs_laws.specs.LawMode.{Remoded}
use Rattle.lfs_laws.specs.LawMoved.{Moved}
use Rattle.lfs_laws.specs.LawNew.{New}
use Rattle.lfs_laws.specs.LawOneThing.{OneThing}
use Rattle.lfs_laws.specs.LawOwner.{Given}
use Rattle.lfs_laws.specs.LawRewritten.{Rewritten}
use Rattle.lfs_laws.specs.LawServed.{IsAnsweredAsMay}
use Rattle.lfs_laws.specs.LawShown.{Shown}
use Rattle.lfs_model.specs.Steps.{IsEvent, IsLegal, after_event, world_after}

-- a tree, in which no file is longer than a file may be
pub record IsSound (rows : Rows) : Type 0 where
  pub tree : IsTree rows
  pub fits : (n : ℕ) (r : Row) → map.get rows n ≡ Some r → length r.file.bytes ≤ file_max

-- the laws of who may make a call, and of what one call does, changes and shows
pub record MeetsLaws (numbers : ℕ) (w : World) (caller : Caller) (request : Request) (answer : Answer) (after : World)
    : Type 0 where
  pub may : IsAnsweredAsMay w caller request answer
  pub gone : Gone numbers w caller request answer after
  pub new : New numbers w caller request answer after
  pub moved : Moved numbers w caller request answer after
  pub rewritten : Rewritten numbers w caller request answer after
  pub remoded : Remoded numbers w caller request answer after
  pub given : Given numbers w caller request answer after
  pub reflagged : Reflagged numbers w caller request answer after
  pub relevelled : Relevelled numbers w caller request answer after
  pub one_thing : OneThing numbers w caller request answer after
  pub done : Done numbers w caller request answer after
  pub shown : Shown numbers w caller request answer after

-- An entry stands lawfully between two worlds: it may happen in the first, both are sound trees, a user's call meets
-- the laws, and a cleaner's call changes nothing. What is said of each tree, of decide and its denials, holds there
-- too.
pub record IsLawful (numbers segments : ℕ) (w : World) (entry : Entry) (after : World) : Type 0 where
  pub may : IsEvent numbers segments w entry.cred entry.event
  pub before : IsSound w.rows
  pub sound : IsSound after.rows
  pub user : (request : Request) (answer : Answer) → entry.event ≡ User request answer
      → MeetsLaws numbers w entry.cred request answer after
  pub cleaner : (act : CleanerAct) (outcome : CleanerOutcome) → entry.event ≡ Cleaner act outcome → after ≡ w

-- so does each entry of a legal list from any sound tree
abbrev pub EachEntry : Type 0
EachEntry =
    (numbers segments : ℕ) (before : List Entry) (entry : Entry) (later : List Entry) (w : World)
    → IsSound w.rows
    → IsLegal numbers segments (before ++ entry ∷ later) w
    → IsLawful numbers segments (world_after numbers before w) entry
    (after_event numbers (world_after numbers before w) entry.cred entry.event)

-- the opening world is one
abbrev pub OpensSound : Type 0
OpensSound = IsSound opening_world.rows
