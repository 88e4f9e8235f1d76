-- How the calls of each user were answered.
use Rattle.std.specs.Prelude.{◌≡◌, ◌==◌, ℕ, List, [], ◌∷◌, ◌++◌, codes, decimal, filter, unwrap_or}
use Rattle.std.specs.BTreeMap.{BTreeMap, get}
use Rattle.std.specs.Ordering.{nat_cmp}
use Rattle.lfs_model.specs.Counts.{counts_of}
use Rattle.lfs_model.specs.declared.counts.Counts.{Counts}
use Rattle.lfs_model.specs.declared.journal.Entry.{Entry}
use Rattle.lfs_print.specs.ReportText.{counts_text}

-- the entries of a user's calls
abbrev pub of_user : ℕ → List Entry → List Entry
of_user uid entries = filter (λ entry. entry.cred.uid == uid) entries

-- the counts that a map has for a user, those over no entries where it has none
abbrev pub counts_in : BTreeMap ℕ Counts → ℕ → Counts
counts_in counts uid = unwrap_or (get nat_cmp counts uid) (counts_of [])

-- a map has for each user the counts over his entries
abbrev pub AreCounted : BTreeMap ℕ Counts → List Entry → Type 0
AreCounted counts entries = (uid : ℕ) → counts_in counts uid ≡ counts_of (of_user uid entries)

-- the line that names a user, and the report of his entries
abbrev pub user_text : (ℕ × Counts) → List ℕ
user_text (uid, counts) = (codes "user" ++ 32 ∷ decimal uid) ++ 10 ∷ counts_text counts
