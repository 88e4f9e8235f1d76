-- What `.tree` asks and tells: a List of a directory, a Stat of each name, and the same of each directory below.
use Rattle.std.specs.Prelude.{◌≡◌, ◌⊎◌, ℕ, ◌-◌, ◌*◌, ◌==◌, Bool, true, false, List, [], ◌∷◌, ◌++◌, codes, decimal, length, map}
use Rattle.std.specs.Prelude.{replicate, Option, None, Some, if◌then◌else◌}
use Rattle.lfs_types.specs.declared.answer.Answer.{Answer}
use Rattle.lfs_types.specs.declared.answer.Answer.TheVariants.{Served}
use Rattle.lfs_types.specs.declared.answer.Served.TheVariants.{Stat as Shows}
use Rattle.lfs_types.specs.declared.attrs.Kind.{Kind}
use Rattle.lfs_types.specs.declared.attrs.Kind.TheVariants.{File, Directory}
use Rattle.lfs_types.specs.declared.request.Request.{Request}
use Rattle.lfs_types.specs.declared.request.Request.TheVariants.{Stat, List as Lists}
use Rattle.lfs_print.specs.AnswerText.{answer_words}
use Rattle.lfs_words.specs.Wording.{spaced}
use Rattle.lfs_browse.specs.Listing.{entry_path, looked_at, looked_of, names_served, row_text}
use Rattle.lfs_browse.specs.declared.visit.Visit.{Visit}
use Rattle.lfs_browse.specs.declared.visit.Visit.TheVariants.{Entry, Names}

-- the call of a visit: a Stat of a name, or a List of a directory
abbrev pub call_of : Visit → Request
call_of (Entry path name) = Stat path
call_of (Names path) = Lists path

abbrev pub is_directory : Kind → Bool
is_directory File = false
is_directory Directory = true

-- whether a Stat showed a directory
abbrev pub shows_directory : Answer → Bool
shows_directory (Served (Shows number attrs)) = is_directory attrs.kind
shows_directory answer = false

-- a Stat of an entry of a directory
abbrev pub entry_of : List (List ℕ) → List ℕ → Visit
entry_of directory name = Entry (entry_path directory name) name

-- the visits that an answer leads to: a List of a directory that a Stat showed; a Stat of each name that is looked at,
-- of those that a List served
abbrev pub leads_to : Visit → Answer → List Visit
leads_to (Entry path name) answer = if shows_directory answer then Names path ∷ [] else []
leads_to (Names path) answer = map (entry_of path) (looked_at path answer)

-- From some visits that are still to be made these were made, one after another, each the first of them, and behind it
-- come those that its answer leads to, before the others; these are left.
abbrev pub IsWalk : List Visit → List Visit → List Answer → List Visit → Type 0
IsWalk pending [] answers left = (answers ≡ []) × (left ≡ pending)
IsWalk pending (visit ∷ visits) answers left =
    (answer : Answer) × (more : List Answer) × (others : List Visit) × (answers ≡ answer ∷ more)
    × (pending ≡ visit ∷ others) × IsWalk (leads_to visit answer ++ others) visits more left

-- two spaces for each directory on the way
abbrev pub indent : ℕ → List ℕ
indent depth = replicate (2 * depth) 32

-- how many names are not looked at
abbrev pub count_text : ℕ → List ℕ
count_text count = 32 ∷ (decimal count ++ codes " not looked at, which list tells\n")

-- what is told of names that are not looked at, so deep below where the walk began
abbrev pub unlooked_text : ℕ → ℕ → List ℕ
unlooked_text depth count = if count == 0 then [] else indent depth ++ count_text count

-- what is told of a List that served no names
abbrev pub unserved_text : ℕ → Answer → List ℕ
unserved_text depth answer = indent depth ++ (spaced (answer_words answer) ++ 10 ∷ [])

-- what is told of a List: how many names that it served are not looked at, or why there are none
abbrev pub names_told : ℕ → List (List ℕ) → Answer → Option (List (List ℕ)) → List ℕ
names_told depth path answer None = unserved_text depth answer
names_told depth path answer (Some names) = unlooked_text depth (length names - length (looked_of path (Some names)))

-- what is told of a visit, where so many names lead to where the walk began: the row of a name, as `.ls` tells it, or
-- what is told of the names of a directory
abbrev pub visit_text : ℕ → Visit → Answer → List ℕ
visit_text root (Entry path name) answer = indent (length path - root - 1) ++ row_text name answer
visit_text root (Names path) answer = names_told (length path - root) path answer (names_served answer)

-- of visits, one after another
abbrev pub visits_text : ℕ → List Visit → List Answer → List ℕ
visits_text root [] answers = []
visits_text root (visit ∷ visits) [] = []
visits_text root (visit ∷ visits) (answer ∷ answers) = visit_text root visit answer ++ visits_text root visits answers

-- that there is more
abbrev pub rest_text : List Visit → List ℕ
rest_text [] = []
rest_text (visit ∷ visits) = codes " cut short behind 107 calls; .tree of a directory below tells more\n"

-- These are the calls of `.tree`, a walk from a directory to its end or up to 107 visits, and this is told of the
-- answers.
pub record IsTree (path : List (List ℕ)) (calls : List Request) (answers : List Answer) (told : List ℕ) : Type 0 where
  pub visits : List Visit
  pub left : List Visit
  pub walked : IsWalk (Names path ∷ []) visits answers left
  pub ends : (left ≡ []) ⊎ (length visits ≡ 107)
  pub asked : calls ≡ map call_of visits
  pub printed : told ≡ visits_text (length path) visits answers ++ rest_text left
