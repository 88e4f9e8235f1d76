-- What is told behind the last line feed, and of the words of the server's own.
use Rattle.std.specs.Prelude.{ℕ, List, [], ◌∷◌, ◌++◌, codes, decimal, length, Option, None, Some, if◌then◌else◌}
use Rattle.lfs_model.specs.declared.journal.Entry.{Entry}
use Rattle.lfs_model.specs.declared.steps.StepAnswer.{StepAnswer}
use Rattle.lfs_sinks.specs.Refusals.{run_report}
use Rattle.lfs_words.specs.declared.fault.FaultKind.TheVariants.{Cut}
use Rattle.lfs_volume.specs.Seen.{Seen}
use Rattle.lfs_hearing.specs.Hearing.{is_long}
use Rattle.lfs_live.specs.Talkers.{Texts}
use Rattle.lfs_live.specs.HelpText.{help_text}
use Rattle.lfs_live.specs.JournalText.{journal_text}
use Rattle.lfs_live.specs.Pieces.{ended_line}
use Rattle.lfs_hearing.specs.FaultLines.{fault_line}
use Rattle.lfs_hearing.specs.declared.fault.LineFault.TheVariants.{TooLong, Kind}
use Rattle.lfs_hearing.specs.declared.hearing.Dot.{Dot}
use Rattle.lfs_hearing.specs.declared.hearing.Dot.TheVariants.{Journal, Map, Segment, Space, Report, Help}
use Rattle.lfs_hearing.specs.declared.hearing.Dot.TheVariants.{Quit}

-- what is told of bytes behind the last line feed, which have this number
abbrev pub cut_line : ℕ → List ℕ → List ℕ
cut_line number bytes = fault_line number (if is_long bytes then TooLong else Kind Cut) []

-- the same, where there are some
abbrev pub cut_texts : ℕ → List ℕ → List (List ℕ)
cut_texts number [] = []
cut_texts number (c ∷ cs) = cut_line number (c ∷ cs) ∷ []

-- how many entries a journal keeps of how many, and how many were handed out of it
unfoldable pub entries_told : ℕ → ℕ → ℕ → List ℕ
entries_told kept limit handed =
    ended_line (codes "entries" ++ 32 ∷ decimal kept ++ 32 ∷ codes "kept" ++ 32 ∷ codes "of" ++ 32 ∷ decimal limit)
    ++ ended_line (codes "entries" ++ 32 ∷ decimal handed ++ 32 ∷ codes "handed out")

-- What a word of the server's own tells of a volume, of the entries that were handed out of its journal and of the answers
-- that were told, by the texts that its store shows; `.quit` tells nothing, but ends.
abbrev pub dot_text : {F : Type 0} → Texts F → Dot → List Entry → List StepAnswer → Seen F → Option (List ℕ)
dot_text t (Journal count) handed answers volume = Some (journal_text count volume.journal)
dot_text t Map handed answers volume = Some (t.map_text volume.store)
dot_text t (Segment number) handed answers volume = Some (t.segment_text volume.store number)
dot_text t Space handed answers volume =
    Some (t.space_text volume.store ++ entries_told (length volume.journal) volume.limit (length handed))
dot_text t Report handed answers volume = Some (run_report (handed ++ volume.journal) answers)
dot_text t Help handed answers volume = Some help_text
dot_text t Quit handed answers volume = None
