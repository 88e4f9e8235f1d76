-- What `.ls` asks and tells of a directory: a List, and a Stat of each name.
use Rattle.std.specs.Prelude.{◌≡◌, ℕ, ◌-◌, ◌==◌, nat_le, Bool, List, [], ◌∷◌, ◌++◌, codes, decimal, filter, length, map}
use Rattle.std.specs.Prelude.{take, Option, None, Some, if◌then◌else◌}
use Rattle.lfs_types.specs.Paths.{slashed}
use Rattle.lfs_types.specs.declared.answer.Answer.{Answer}
use Rattle.lfs_types.specs.declared.answer.Answer.TheVariants.{Served}
use Rattle.lfs_types.specs.declared.answer.Served.TheVariants.{Stat as Shows, Names}
use Rattle.lfs_types.specs.declared.request.Request.{Request}
use Rattle.lfs_types.specs.declared.request.Request.TheVariants.{Stat, List as Lists}
use Rattle.lfs_print.specs.AnswerText.{answer_line, answer_words, attrs_words, kind_word}
use Rattle.lfs_words.specs.NameText.{name_text}
use Rattle.lfs_words.specs.Wording.{spaced}

-- the names that lead to an entry of a directory
abbrev pub entry_path : List (List ℕ) → List ℕ → List (List ℕ)
entry_path directory name = directory ++ name ∷ []

-- whether they are a path: its text has at most 1,024 bytes
abbrev pub has_path : List (List ℕ) → List ℕ → Bool
has_path directory name = nat_le (length (slashed (entry_path directory name))) 1024

-- a Stat of an entry
abbrev pub stat_of : List (List ℕ) → List ℕ → Request
stat_of directory name = Stat (entry_path directory name)

-- the names that a List served
abbrev pub names_served : Answer → Option (List (List ℕ))
names_served (Served (Names names)) = Some names
names_served answer = None

-- the names that are looked at, of those that a List served: of the first 106 those that have a path
abbrev pub looked_of : List (List ℕ) → Option (List (List ℕ)) → List (List ℕ)
looked_of directory None = []
looked_of directory (Some names) = filter (has_path directory) (take 106 names)

-- the same of a List that was answered so
abbrev pub looked_at : List (List ℕ) → Answer → List (List ℕ)
looked_at directory answer = looked_of directory (names_served answer)

-- what a Stat of a name was answered: kind, owner, group, mode, flags and length, or why there is nothing to tell
abbrev pub row_words : Answer → List (List ℕ)
row_words (Served (Shows number attrs)) = kind_word attrs.kind ∷ attrs_words attrs
row_words answer = answer_words answer

-- the row of a name: what its Stat was answered, and the name, each word behind a space
abbrev pub row_text : List ℕ → Answer → List ℕ
row_text name answer = spaced (row_words answer) ++ 32 ∷ (name_text name ++ 10 ∷ [])

-- a row for each name and its answer
abbrev pub rows_text : List (List ℕ) → List Answer → List ℕ
rows_text [] answers = []
rows_text (name ∷ names) [] = []
rows_text (name ∷ names) (answer ∷ answers) = row_text name answer ++ rows_text names answers

-- how many names have no row
abbrev pub more_text : ℕ → List ℕ
more_text count = if count == 0 then [] else 32 ∷ (decimal count ++ codes " more, which list tells\n")

-- what is told of the names that a List served and of the Stats: the rows, and how many names have none
abbrev pub names_text : List (List ℕ) → List (List ℕ) → List Answer → List ℕ
names_text directory names stats =
    rows_text (looked_of directory (Some names)) stats
    ++ more_text (length names - length (looked_of directory (Some names)))

-- what is told of a List and of the Stats: these, or why there are none
abbrev pub listed_of : ℕ → List (List ℕ) → Answer → Option (List (List ℕ)) → List Answer → List ℕ
listed_of session directory answer None stats = answer_line session answer
listed_of session directory answer (Some names) stats = names_text directory names stats

abbrev pub listed_text : ℕ → List (List ℕ) → Answer → List Answer → List ℕ
listed_text session directory answer stats = listed_of session directory answer (names_served answer) stats

-- these are the calls of `.ls`, and this is told of the answers
pub record IsListed (session : ℕ) (path : List (List ℕ)) (calls : List Request) (answers : List Answer)
    (told : List ℕ) : Type 0 where
  pub first : Answer
  pub stats : List Answer
  pub answered : answers ≡ first ∷ stats
  pub asked : calls ≡ Lists path ∷ map (stat_of path) (looked_at path first)
  pub printed : told ≡ listed_text session path first stats
