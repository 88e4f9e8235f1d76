-- A volume whose entries go to a sink, line by line.
use Rattle.std.specs.Prelude.{◌≡◌, ℕ, ◌+◌, ◌≤◌, ◌⊎◌, Bool, true, false, List, [], length, Option}
use Rattle.std.specs.Io.KnownBytes.{Appends}
use Rattle.lfs_types.specs.Caller.{Caller}
use Rattle.lfs_types.specs.StoreStates.{StoreState}
use Rattle.lfs_model.specs.Counts.{counts_of}
use Rattle.lfs_model.specs.Steps.{IsLegal, world_after}
use Rattle.lfs_model.specs.declared.counts.Counts.{Counts}
use Rattle.lfs_model.specs.declared.journal.Entry.{Entry}
use Rattle.lfs_script.specs.declared.plan.Act.{Act}
use Rattle.lfs_sinks.specs.Numbered.{numbered_text}
use Rattle.lfs_sinks.specs.Refusals.{AddsUp, refusals_of}
use Rattle.lfs_sinks.specs.Sums.{counts_sum}
use Rattle.lfs_sinks.specs.declared.refusals.Refusals.{Refusals}
use Rattle.lfs_volume.specs.Cleanings.{Cleaner}
use Rattle.lfs_volume.specs.Journals.{Begins, HasBegun, Since}
use Rattle.lfs_volume.specs.Seen.{Seen}
use Rattle.lfs_audit.specs.Runs.{TellsLine}

-- a volume, the sink of its journal, how the calls of the entries that were handed out were answered, how many calls were
-- refused of which no entry tells, and whether the sink takes more
pub record Filed (F J : Type 0) : Type 0 where
  pub volume : Seen F
  pub sink : J
  pub told : Counts
  pub refusals : Refusals
  pub is_open : Bool

-- the sink takes entries, none was handed out, no call was answered, and the journal, which began at a tree, is empty and
-- has room for what a line may ask for
pub record IsBegun {F J : Type 0} (state : F → StoreState) (filed : Filed F J) : Type 0 where
  pub opened : filed.is_open ≡ true
  pub untold : filed.told ≡ counts_of []
  pub unrefused : filed.refusals ≡ refusals_of []
  pub empty : filed.volume.journal ≡ []
  pub room : 105 ≤ filed.volume.limit
  pub tree : HasBegun (state filed.volume.since) filed.volume.since_level

-- a sink took these entries: their lines stand behind what it held, numbered on
pub record Takes {J : Type 0} (contents : J → Option (List ℕ)) (next : J → ℕ) (old new : J)
    (entries : List Entry) : Type 0 where
  pub lines : Appends (contents old) (contents new) (numbered_text (next old) entries)
  pub numbered : next new ≡ next old + length entries

-- a volume whose entries were handed out: its journal begins at its present tree
abbrev pub drained : {F : Type 0} → Seen F → Seen F
drained v = record v { since = v.store; since_level = v.level; journal = [] }

-- a volume whose journal takes no more entries: each call is refused JournalFull
abbrev pub closed : {F : Type 0} → Seen F → Seen F
closed v = record v { limit = length v.journal }

-- the entries of a volume's journal are a legal run from where it began to where the journal of another begins
abbrev pub LeadsOn : {F : Type 0} → (F → StoreState) → Seen F → Seen F → Type 0
LeadsOn state old new =
    Since (state old.since) old.since_level (λ from.
    let shape = (state old.store).shape in
    IsLegal shape.numbers shape.segments old.journal from
    × Begins (state new.since) new.since_level (world_after shape.numbers old.journal from))

-- the sink took the entries, and they were handed out and counted
pub record IsHandedOut {F J : Type 0} (state : F → StoreState) (contents : J → Option (List ℕ)) (next : J → ℕ)
    (old new : Filed F J) : Type 0 where
  pub is : new ≡ record {
    volume = drained old.volume;
    sink = new.sink;
    told = counts_sum old.told (counts_of old.volume.journal);
    refusals = old.refusals;
    is_open = old.is_open;
  }
  pub taken : Takes contents next old.sink new.sink old.volume.journal
  pub leads : LeadsOn state old.volume new.volume

-- the sink takes no more, and from then on no call is served
abbrev pub IsShut : {F J : Type 0} → Filed F J → Filed F J → Type 0
IsShut old new = new ≡ record old { volume = closed old.volume; sink = new.sink; is_open = false }

-- while the sink takes entries, they are handed out to it, or it takes no more from then on
pub record MovesOn {F J : Type 0} (state : F → StoreState) (contents : J → Option (List ℕ)) (next : J → ℕ)
    (old new : Filed F J) : Type 0 where
  pub opened : old.is_open ≡ true → IsHandedOut state contents next old new ⊎ IsShut old new
  pub stays : old.is_open ≡ false → new ≡ old

-- what a line of a plan asks for was done, its answers were counted, their lines were added to a text, and what it entered
-- moved on
pub record FilesLine {F J : Type 0} (r : Cleaner F) (contents : J → Option (List ℕ)) (next : J → ℕ)
    (old new : Filed F J) (session : ℕ) (caller : Caller) (act : Act) (before after : List ℕ) : Type 0 where
  pub middle : Seen F
  pub counts : Refusals
  pub tells : TellsLine r old.volume middle session caller act before after
  pub counted : AddsUp old.refusals counts tells.answers
  pub moves : MovesOn r.state contents next (record old { volume = middle; refusals = counts }) new
