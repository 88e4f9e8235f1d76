-- What it is that a talk's volume is not flushed.
use Rattle.std.specs.Prelude.{◌≢◌, Bool, true, false}
use Rattle.lfs_types.specs.StoreStates.{StoreState}
use Rattle.lfs_types.specs.declared.answer.Answer.{Answer}
use Rattle.lfs_types.specs.declared.answer.Answer.TheVariants.{Served, Denied, Refused}
use Rattle.lfs_types.specs.declared.answer.Served.TheVariants.{Done, Stat, Bytes, Names}
use Rattle.lfs_types.specs.declared.request.Request.TheVariants.{Sync}
use Rattle.lfs_calls.specs.Outcomes.{IsOutcome}
use Rattle.lfs_volume.specs.Journals.{AtPresent}
use Rattle.lfs_volume.specs.Seen.{Seen}
use Rattle.lfs_live.specs.Talking.{first_speaker}

-- whether an answer is that a call is done, and shows nothing
abbrev pub is_done : Answer → Bool
is_done (Served Done) = true
is_done (Served (Stat number attrs)) = false
is_done (Served (Bytes bytes)) = false
is_done (Served (Names names)) = false
is_done (Denied denial) = false
is_done (Refused resource) = false

-- A Sync of the superuser may be answered otherwise than that it is done, in the tree that a volume's journal led to: the
-- store may refuse it. That a journal is full is no such answer.
pub record IsSyncRefused {F : Type 0} (state : F → StoreState) (v : Seen F) : Type 0 where
  pub why : Answer
  pub undone : why ≢ Served Done
  pub caused : AtPresent state v (λ w. IsOutcome (state v.store) w first_speaker.cred Sync why)
