-- The forty entries of a summary: those that it has, and unused ones behind them.
use Rattle.std.proofs.Common.{◌≡◌, ℕ, ◌-◌, ◌<◌, ◌≤◌, List, ◌++◌, All, length, get_or, replicate, refl, sym, subst, ◌∙◌}
use Rattle.std.proofs.Common.{arith}
use Rattle.std.proofs.lemmas.List.{get_or-append_right, get_or_append_left, length-append, length-replicate}
use Rattle.std.proofs.lemmas.List.Elements.{All-get_or}
use Rattle.lfs_segments.specs.declared.entry.SummaryEntry.{SummaryEntry}
use Rattle.lfs_segments.specs.Entry.{IsEntry, unused}
use Rattle.lfs_segments.proofs.BytesLemmas.{get_or-replicate_same}

abbrev padded : List SummaryEntry → List SummaryEntry
padded entries = entries ++ replicate (40 - length entries) unused

pub length-padded : (entries : List SummaryEntry) → length entries ≤ 40 → length (padded entries) ≡ 40
length-padded entries fits = simp (length-append, length-replicate) (omega arith)

pub IsEntry-padded : (entries : List SummaryEntry) → All IsEntry entries → (k : ℕ) → k < length entries
    → IsEntry (get_or (padded entries) k unused)
IsEntry-padded entries each k below =
    subst IsEntry (sym (get_or_append_left entries (replicate (40 - length entries) unused) unused k below))
    (All-get_or IsEntry entries k unused below each)

pub unused-padded : (entries : List SummaryEntry) (k : ℕ) → length entries ≤ k → get_or (padded entries) k unused
    ≡ unused
unused-padded entries k past =
    get_or-append_right entries (replicate (40 - length entries) unused) (length entries) k unused refl past
    ∙ get_or-replicate_same (40 - length entries) unused (k - length entries)
