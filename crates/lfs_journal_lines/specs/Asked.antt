-- What was asked, read back.
use Rattle.std.specs.Prelude.{ℕ, ◌==◌, Bool, false, List, [], ◌∷◌, ◌++◌, codes, drop, map, Option, None, Some, Result}
use Rattle.std.specs.Prelude.{Ok, Err, if◌then◌else◌}
use Rattle.lfs_types.specs.declared.request.Request.{Request}
use Rattle.lfs_types.specs.declared.request.Request.TheVariants.{Stat, Read, Write, List as Names, SetLength, Create}
use Rattle.lfs_types.specs.declared.request.Request.TheVariants.{Mkdir, Unlink, Rmdir, Rename, Chmod, Chown, Chflags}
use Rattle.lfs_types.specs.declared.request.Request.TheVariants.{SetLevel, Sync}
use Rattle.lfs_model.specs.Runs.{act_of}
use Rattle.lfs_script.specs.Plans.{line_said}
use Rattle.lfs_script.specs.declared.plan.Act.TheVariants as acts
use Rattle.lfs_script.specs.declared.plan.Line.{Line}
use Rattle.lfs_script.specs.declared.plan.Line.TheVariants as says
use Rattle.lfs_words.specs.Faults.{◌>>=◌}
use Rattle.lfs_words.specs.Wording.{spaced}
use Rattle.lfs_words.specs.declared.fault.FaultKind.{FaultKind}
use Rattle.lfs_words.specs.declared.fault.FaultKind.TheVariants.{Words}
use Rattle.lfs_journal_lines.specs.Escapes.{escaped_path}
use Rattle.lfs_journal_lines.specs.declared.asked.Asked.{Asked}
use Rattle.lfs_journal_lines.specs.declared.asked.Asked.TheVariants.{User, Cleaner}

-- a value, or that words are wrong
abbrev pub or_words : {X : Type 0} → Option X → Result X FaultKind
or_words None = Err Words
or_words (Some x) = Ok x

-- whether a word is a path that no script can spell
abbrev pub is_escaped : List ℕ → Bool
is_escaped [] = false
is_escaped (c ∷ cs) = c == 37

-- a word as a script has it: for a path that no script can spell the root
abbrev pub plain_word : List ℕ → List ℕ
plain_word word = if is_escaped word then codes "/" else word

-- a call as a line of a script
abbrev pub plain_line : List ℕ → List (List ℕ) → List ℕ
plain_line verb operands = verb ++ spaced (map plain_word operands)

-- the path that a word tells and no script can spell
abbrev pub path_told : List ℕ → Result (Option (List (List ℕ))) FaultKind
path_told word = if is_escaped word then (escaped_path (drop 1 word) >>= (λ path. Ok (Some path))) else Ok None

-- a path, or the other one that is given
abbrev pub or_old : Option (List (List ℕ)) → List (List ℕ) → List (List ℕ)
or_old None old = old
or_old (Some path) old = path

-- a call whose first path is this one, where one is given
abbrev pub with_path : Option (List (List ℕ)) → Request → Request
with_path path (Stat old) = Stat (or_old path old)
with_path path (Read old off len) = Read (or_old path old) off len
with_path path (Write old place bytes) = Write (or_old path old) place bytes
with_path path (Names old) = Names (or_old path old)
with_path path (SetLength old len) = SetLength (or_old path old) len
with_path path (Create old mode) = Create (or_old path old) mode
with_path path (Mkdir old mode) = Mkdir (or_old path old) mode
with_path path (Unlink old) = Unlink (or_old path old)
with_path path (Rmdir old) = Rmdir (or_old path old)
with_path path (Rename old to) = Rename (or_old path old) to
with_path path (Chmod old mode) = Chmod (or_old path old) mode
with_path path (Chown old uid gid) = Chown (or_old path old) uid gid
with_path path (Chflags old flags) = Chflags (or_old path old) flags
with_path path (SetLevel level) = SetLevel level
with_path path Sync = Sync

-- a Rename whose second path is this one, where one is given
abbrev pub with_target : Option (List (List ℕ)) → Request → Request
with_target path (Rename from old) = Rename from (or_old path old)
with_target path request = request

-- a call with the paths that no script can spell put in their places
abbrev pub paths_put : List (List ℕ) → Request → Result Request FaultKind
paths_put [] request = Ok request
paths_put (word ∷ []) request = path_told word >>= (λ path. Ok (with_path path request))
paths_put (word ∷ other ∷ more) request =
    path_told word >>= (λ path. path_told other >>= (λ target. Ok (with_target target (with_path path request))))

-- what a line of a script asks, a user's call with the paths among its operands that no script can spell
abbrev pub asked_in : List (List ℕ) → Line → Result Asked FaultKind
asked_in operands (says.Act (acts.User request)) = paths_put operands request >>= (λ call. Ok (User call))
asked_in operands (says.Act (acts.Cleaner call)) = Ok (Cleaner (act_of call))
asked_in operands line = Err Words

-- what a verb and its operands ask, as a line of a script
abbrev pub asked_by : List ℕ → List (List ℕ) → Result Asked FaultKind
asked_by verb operands = line_said (plain_line verb operands) >>= asked_in operands

-- what words tell that was asked
abbrev pub asked_told : List (List ℕ) → Result Asked FaultKind
asked_told [] = Err Words
asked_told (verb ∷ operands) = asked_by verb operands
