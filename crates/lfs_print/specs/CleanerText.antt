-- The lines of answers to cleaner calls.
use Rattle.std.specs.Prelude.{ℕ, List, [], ◌∷◌, codes, decimal, length}
use Rattle.lfs_model.specs.declared.journal.CleanerAnswer.{CleanerAnswer}
use Rattle.lfs_model.specs.declared.journal.CleanerAnswer.TheVariants.{Refused, Denied, Fault, Ifile, Infos, Bmapv}
use Rattle.lfs_model.specs.declared.journal.CleanerAnswer.TheVariants.{Marked, Cleaned, Gained}
use Rattle.lfs_model.specs.declared.journal.CleanerKind.{CleanerKind}
use Rattle.lfs_model.specs.declared.journal.CleanerOutcome.{CleanerOutcome}
use Rattle.lfs_model.specs.declared.journal.CleanerOutcome.TheVariants as outcome
use Rattle.lfs_types.specs.RuleCodes.{rule_code}
use Rattle.lfs_types.specs.declared.cleaner.CleanFault.{CleanFault}
use Rattle.lfs_types.specs.declared.cleaner.CleanFault.TheVariants.{NoSuchSegment, Active, NotDirty, Live, NoSpace, NotGainful}
use Rattle.lfs_print.specs.AnswerText.{line_text, resource_word}
use Rattle.lfs_print.specs.CleanerWords.{cleaner_word}

-- the words of a call that is done, and of the number that it gave
abbrev pub done_words : ℕ → List (List ℕ)
done_words number = codes "ok" ∷ decimal number ∷ []

-- the words of why a call did nothing
abbrev pub fault_words : CleanFault → List (List ℕ)
fault_words NoSuchSegment = codes "fault" ∷ codes "NoSuchSegment" ∷ []
fault_words Active = codes "fault" ∷ codes "Active" ∷ []
fault_words NotDirty = codes "fault" ∷ codes "NotDirty" ∷ []
fault_words (Live bytes) = codes "fault" ∷ codes "Live" ∷ decimal bytes ∷ []
fault_words NoSpace = codes "fault" ∷ codes "NoSpace" ∷ []
fault_words NotGainful = codes "fault" ∷ codes "NotGainful" ∷ []

-- the words of an answer: a call that is done gives the bytes of the ifile, the infos, the addresses or the blocks
-- written again, or 0
abbrev pub cleaner_words : CleanerAnswer → List (List ℕ)
cleaner_words (Refused resource) = codes "refused" ∷ resource_word resource ∷ []
cleaner_words (Denied denial) = codes "denied" ∷ rule_code denial.rule ∷ []
cleaner_words (Fault fault) = fault_words fault
cleaner_words (Ifile bytes) = done_words (length bytes)
cleaner_words (Infos infos) = done_words (length infos)
cleaner_words (Bmapv infos) = done_words (length infos)
cleaner_words (Marked count) = done_words count
cleaner_words Cleaned = done_words 0
cleaner_words Gained = done_words 0

-- the words of what came of a call, as the journal tells it
abbrev pub outcome_words : CleanerOutcome → List (List ℕ)
outcome_words outcome.Denied = codes "denied" ∷ []
outcome_words (outcome.Fault fault) = fault_words fault
outcome_words (outcome.Done number) = done_words number

-- the line of an answer to a cleaner's call
abbrev pub cleaner_line : ℕ → CleanerKind → CleanerAnswer → List ℕ
cleaner_line session kind answer = line_text session (codes "cleaner" ∷ cleaner_word kind ∷ cleaner_words answer)
