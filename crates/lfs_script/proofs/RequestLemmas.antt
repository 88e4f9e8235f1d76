-- What words ask, once they are read: `place_there` for `place_of`, `end_there`, `at_there`, `end_missed` and
-- `at_missed` for `write_words`, `mkdir_there` for `mkdir`, `infos_there` for `cleaner_call`. The code counts the words
-- before it looks at one, so each lemma takes lists of other lengths apart and leaves the one that has this length;
-- there the definition looks at the same word.
use Rattle.std.proofs.Common.{◌≡◌, ℕ, ◌<◌, ◌≤◌, true, false, List, [], ◌∷◌, length, map, get_or, codes, None, Some, Ok}
use Rattle.std.proofs.Common.{Err, refl, arith}
use Rattle.std.specs.Str.{bytes_eq}
use Rattle.lfs_model.specs.declared.journal.CleanerKind.{CleanerKind}
use Rattle.lfs_model.specs.declared.journal.CleanerKind.TheVariants as cleaner
use Rattle.lfs_types.specs.declared.cleaner.CleanerCall.TheVariants as call
use Rattle.lfs_types.specs.declared.request.Place.TheVariants.{At}
use Rattle.lfs_types.specs.declared.request.Request.TheVariants.{Mkdir}
use Rattle.lfs_words.specs.Numbers.{long_of}
use Rattle.lfs_words.specs.declared.fault.FaultKind.TheVariants.{Words}
use Rattle.lfs_script.specs.CleanerCalls.{cleaner_said, segment_of}
use Rattle.lfs_script.specs.Requests.{path_and_mode, request_said, write_place, write_words}
use Rattle.lfs_script.specs.declared.verb.RequestKind.TheVariants as kind

-- a place at a byte
pub place_there : (word : List ℕ) (off : ℕ) → long_of word ≡ Ok off → Ok (At off) ≡ write_place (Some word)
place_there word off read = rw read refl

-- a new directory
pub mkdir_there : {A : Type 0} (f : A → List ℕ) (words : List A) (path : List (List ℕ)) (mode : ℕ)
    → path_and_mode (map f words) ≡ Ok (path, mode)
    → request_said kind.Mkdir (map f words) ≡ Ok (Mkdir path mode)
mkdir_there f words path mode read = rw read refl

-- the infos of a segment
pub infos_there : {A : Type 0} (f : A → List ℕ) (words : List A) (asked : CleanerKind) (segment : ℕ) → asked
    ≡ cleaner.Infos
    → segment_of (map f words) ≡ Ok segment → cleaner_said asked (map f words) ≡ Ok (call.Infos segment)
infos_there f words asked segment is read = rw (is, read) refl

-- a write at the end
pub end_there : {A : Type 0} (f : A → List ℕ) (words : List A) (d : A) → 3 ≤ length words → length words < 4
    → bytes_eq (f (get_or words 1 d)) (codes "end") ≡ true
    → write_words (map f words) ≡ Ok (f (get_or words 0 d), None, f (get_or words 2 d))
end_there f [] d least most mark = absurd (omega arith)
end_there f (a ∷ []) d least most mark = absurd (omega arith)
end_there f (a ∷ b ∷ []) d least most mark = absurd (omega arith)
end_there f (a ∷ b ∷ c ∷ []) d least most mark = rw mark refl
end_there f (a ∷ b ∷ c ∷ e ∷ more) d least most mark = absurd (omega arith)

-- three words with another mark
pub end_missed : {A : Type 0} (f : A → List ℕ) (words : List A) (d : A) → 3 ≤ length words → length words < 4
    → bytes_eq (f (get_or words 1 d)) (codes "end") ≡ false
    → write_words (map f words) ≡ Err Words
end_missed f [] d least most mark = absurd (omega arith)
end_missed f (a ∷ []) d least most mark = absurd (omega arith)
end_missed f (a ∷ b ∷ []) d least most mark = absurd (omega arith)
end_missed f (a ∷ b ∷ c ∷ []) d least most mark = rw mark refl
end_missed f (a ∷ b ∷ c ∷ e ∷ more) d least most mark = absurd (omega arith)

-- a write at a byte
pub at_there : {A : Type 0} (f : A → List ℕ) (words : List A) (d : A) → 4 ≤ length words → length words < 5
    → bytes_eq (f (get_or words 1 d)) (codes "at") ≡ true
    → write_words (map f words) ≡ Ok (f (get_or words 0 d), Some (f (get_or words 2 d)), f (get_or words 3 d))
at_there f [] d least most mark = absurd (omega arith)
at_there f (a ∷ []) d least most mark = absurd (omega arith)
at_there f (a ∷ b ∷ []) d least most mark = absurd (omega arith)
at_there f (a ∷ b ∷ c ∷ []) d least most mark = absurd (omega arith)
at_there f (a ∷ b ∷ c ∷ e ∷ []) d least most mark = rw mark refl
at_there f (a ∷ b ∷ c ∷ e ∷ g ∷ more) d least most mark = absurd (omega arith)

-- four words with another mark
pub at_missed : {A : Type 0} (f : A → List ℕ) (words : List A) (d : A) → 4 ≤ length words → length words < 5
    → bytes_eq (f (get_or words 1 d)) (codes "at") ≡ false
    → write_words (map f words) ≡ Err Words
at_missed f [] d least most mark = absurd (omega arith)
at_missed f (a ∷ []) d least most mark = absurd (omega arith)
at_missed f (a ∷ b ∷ []) d least most mark = absurd (omega arith)
at_missed f (a ∷ b ∷ c ∷ []) d least most mark = absurd (omega arith)
at_missed f (a ∷ b ∷ c ∷ e ∷ []) d least most mark = rw mark refl
at_missed f (a ∷ b ∷ c ∷ e ∷ g ∷ more) d least most mark = absurd (omega arith)
