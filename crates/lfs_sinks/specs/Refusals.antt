-- Calls that were refused of which no entry tells, and the report of a run.
use Rattle.std.specs.Prelude.{◌≡◌, ℕ, ◌+◌, ◌-◌, ◌^◌, ◌==◌, nat_lt, Bool, true, false, List, [], ◌∷◌, ◌++◌, codes, count_by}
use Rattle.std.specs.Prelude.{decimal, Option, None, Some, if◌then◌else◌}
use Rattle.lfs_types.specs.declared.answer.Answer.TheVariants.{Refused}
use Rattle.lfs_types.specs.declared.answer.Resource.{Resource}
use Rattle.lfs_types.specs.declared.answer.Resource.TheVariants.{NoMemory, JournalFull}
use Rattle.lfs_model.specs.Counts.{counts_of}
use Rattle.lfs_model.specs.declared.journal.CleanerAnswer.TheVariants as cleaner
use Rattle.lfs_model.specs.declared.journal.Entry.{Entry}
use Rattle.lfs_model.specs.declared.steps.StepAnswer.{StepAnswer}
use Rattle.lfs_model.specs.declared.steps.StepAnswer.TheVariants.{User, Cleaner}
use Rattle.lfs_print.specs.ReportText.{report_text}
use Rattle.lfs_sinks.specs.declared.refusals.Refusals.{Refusals}
use Rattle.lfs_sinks.specs.declared.totals.Tally.{Tally}

-- the resource for want of which a call was refused
abbrev pub refused_for : StepAnswer → Option Resource
refused_for (User (Refused resource)) = Some resource
refused_for (Cleaner (cleaner.Refused resource)) = Some resource
refused_for answer = None

-- whether that was room in the journal, and whether it was memory
abbrev pub wants_room : Option Resource → Bool
wants_room (Some JournalFull) = true
wants_room other = false

abbrev pub wants_memory : Option Resource → Bool
wants_memory (Some NoMemory) = true
wants_memory other = false

-- a number, up to the greatest that is told
abbrev pub capped : ℕ → ℕ
capped number = if nat_lt number (2 ^ 64) then number else 2 ^ 64 - 1

-- how many of these answers are refusals of which no entry tells
abbrev pub refusals_of : List StepAnswer → Refusals
refusals_of answers = record {
  journal_full = capped (count_by (λ answer. wants_room (refused_for answer)) answers);
  no_memory = capped (count_by (λ answer. wants_memory (refused_for answer)) answers);
}

-- what was counted of answers became this by these further ones
abbrev pub AddsUp : Refusals → Refusals → List StepAnswer → Type 0
AddsUp old new more = (answers : List StepAnswer) → old ≡ refusals_of answers → new ≡ refusals_of (answers ++ more)

-- the line of so many calls that were refused for want of a resource; none where there were none
unfoldable pub refused_line : List ℕ → ℕ → List ℕ
refused_line word number =
    if number == 0 then [] else
    codes "unentered" ++ 32 ∷ word ++ 32 ∷ decimal number ++ 10 ∷ []

abbrev pub refusals_text : Refusals → List ℕ
refusals_text r = refused_line (codes "JournalFull") r.journal_full ++ refused_line (codes "NoMemory") r.no_memory

-- the report of a run: over its entries, and of the answers of which there is no entry
abbrev pub run_report : List Entry → List StepAnswer → List ℕ
run_report entries answers = report_text entries ++ refusals_text (refusals_of answers)

-- what is counted of the entries that were handed out, and of the answers to all calls
abbrev pub tally_of : List Entry → List StepAnswer → Tally
tally_of handed answers = record { totals = counts_of handed; refusals = refusals_of answers }
