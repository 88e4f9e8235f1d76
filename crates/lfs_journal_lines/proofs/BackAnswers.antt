-- An answer and what came of a cleaner's call are read back from their words: `tells_answer` and `tells_outcome`, for
-- BackLine. Each part is read back by ReadBack of `lfs_words` or BackNames, and rules, kinds and faults case by case
-- (`rule_back`), where a rule's code must be found in the list `rules` as its own. A journal has no entry of a want of
-- memory nor of more than 4,096 bytes of a Read (IsKept), so these aren't read; a rule that is added without its place
-- in `rules` fails in `rule_back`.
use Rattle.std.proofs.Common.{◌≡◌, ℕ, ◌^◌, ◌<◌, true, List, Some, Ok, refl, arith}
use Rattle.std.specs.Prelude.{decimal, nat_le}
use Rattle.std.specs.List.{list_all}
use Rattle.std.specs.Str.{bytes_eq}
use Rattle.std.proofs.lemmas.Bool.{le-leb}
use Rattle.std.proofs.lemmas.Slice.Eq.{bytes_eq-Decides}
use Rattle.lfs_types.specs.RuleCodes.{error_name, rule_code, rule_error}
use Rattle.lfs_types.specs.declared.answer.Answer.{Answer}
use Rattle.lfs_types.specs.declared.answer.Answer.TheVariants.{Served as Shows, Denied, Refused}
use Rattle.lfs_types.specs.declared.answer.Resource.TheVariants.{NoMemory, NoSpace, NoInodes, DirectoryFull}
use Rattle.lfs_types.specs.declared.answer.Resource.TheVariants.{JournalFull}
use Rattle.lfs_types.specs.declared.answer.Served.TheVariants.{Stat, Bytes, Names, Done}
use Rattle.lfs_types.specs.declared.attrs.Attrs.{Attrs}
use Rattle.lfs_types.specs.declared.attrs.Kind.{Kind}
use Rattle.lfs_types.specs.declared.attrs.Kind.TheVariants.{File, Directory}
use Rattle.lfs_types.specs.declared.cleaner.CleanFault.TheVariants as fault
use Rattle.lfs_types.specs.declared.rule.Denial.{Denial}
use Rattle.lfs_types.specs.declared.rule.Errno.{Errno}
use Rattle.lfs_types.specs.declared.rule.Errno.TheVariants.{EPERM, ENOENT, EACCES, EBUSY, EEXIST, ENOTDIR, EISDIR}
use Rattle.lfs_types.specs.declared.rule.Errno.TheVariants.{EINVAL, EFBIG, ENOTEMPTY}
use Rattle.lfs_types.specs.declared.rule.Rule.{Rule}
use Rattle.lfs_types.specs.declared.rule.Rule.TheVariants.{IsDirectory, GrantsSearch, NameThere, NameFree}
use Rattle.lfs_types.specs.declared.rule.Rule.TheVariants.{IsNoDirectory, IsEmpty, IsNotRoot, IsNotBeneathItself}
use Rattle.lfs_types.specs.declared.rule.Rule.TheVariants.{IsMutable, IsNotAppendOnly, GrantsRead, GrantsWrite}
use Rattle.lfs_types.specs.declared.rule.Rule.TheVariants.{PassesSticky, IsOwner, MaySetOwner, IsSuperuser, MaySetFlags}
use Rattle.lfs_types.specs.declared.rule.Rule.TheVariants.{KeepsSystemLocks, MaySetLevel, FitsFile}
use Rattle.lfs_model.specs.declared.journal.CleanerOutcome.{CleanerOutcome}
use Rattle.lfs_model.specs.declared.journal.CleanerOutcome.TheVariants as outcome
use Rattle.lfs_print.specs.AnswerText.{answer_words, kind_word}
use Rattle.lfs_print.specs.CleanerText.{outcome_words}
use Rattle.lfs_words.proofs.ReadBack.{bytes_read_back, flags_read_back, long_read, mode_read, short_read}
use Rattle.lfs_words.proofs.WordBytes.{bytes_word, decimal_word, flags_word, mode_word}
use Rattle.lfs_words.specs.Wording.{is_word}
use Rattle.lfs_journal_lines.proofs.BackNames.{names_back, names_words}
use Rattle.lfs_journal_lines.specs.Answers.{answer_told, kind_named, octet_told, rule_named}
use Rattle.lfs_journal_lines.specs.Outcomes.{outcome_told}
use Rattle.lfs_journal_lines.specs.Ranges.{AreAttrs, IsAnswer, IsKept, IsOutcome}

-- a number below 256
pub octet_back : (n : ℕ) → n < 256 → octet_told (decimal n) ≡ Ok n
octet_back n lt = let low : nat_le n 255 ≡ true = le-leb n 255 (omega arith) in rw (long_read n (omega arith), low) refl

short_word : (n : ℕ) → n < 2 ^ 32 → is_word (decimal n) ≡ true
short_word n lt = decimal_word n (omega arith)

-- the words of an answer may stand in a line, and are read as it
pub record TellsAnswer (answer : Answer) : Type 0 where
  pub words : list_all is_word (answer_words answer) ≡ true
  pub back : answer_told (answer_words answer) ≡ Ok answer

kind_back : (kind : Kind) → kind_named (kind_word kind) ≡ Some kind
kind_back File = refl
kind_back Directory = refl

kind_is_word : (kind : Kind) → is_word (kind_word kind) ≡ true
kind_is_word File = refl
kind_is_word Directory = refl

tells_stat : (number : ℕ) (attrs : Attrs) → number < 2 ^ 32 → AreAttrs attrs → TellsAnswer (Shows (Stat number attrs))
tells_stat number attrs low are = record {
  words =
      rw (
        short_word number low,
        kind_is_word attrs.kind,
        short_word attrs.uid are.uid,
        short_word attrs.gid are.gid,
        mode_word attrs.mode are.mode,
        flags_word attrs.flags,
        decimal_word attrs.size are.size,
      )
      refl;
  back =
      rw (
        short_read number low,
        kind_back attrs.kind,
        short_read attrs.uid are.uid,
        short_read attrs.gid are.gid,
        mode_read attrs.mode are.mode,
        flags_read_back attrs.flags are.flags.0 are.flags.1,
        long_read attrs.size are.size,
      )
      refl;
}

rule_back : (rule : Rule) → rule_named (rule_code rule) ≡ Some rule
unfolding rule_named
rule_back IsDirectory = refl
rule_back GrantsSearch = refl
rule_back NameThere = refl
rule_back NameFree = refl
rule_back IsNoDirectory = refl
rule_back IsEmpty = refl
rule_back IsNotRoot = refl
rule_back IsNotBeneathItself = refl
rule_back IsMutable = refl
rule_back IsNotAppendOnly = refl
rule_back GrantsRead = refl
rule_back GrantsWrite = refl
rule_back PassesSticky = refl
rule_back IsOwner = refl
rule_back MaySetOwner = refl
rule_back IsSuperuser = refl
rule_back MaySetFlags = refl
rule_back KeepsSystemLocks = refl
rule_back MaySetLevel = refl
rule_back FitsFile = refl

code_word : (rule : Rule) → is_word (rule_code rule) ≡ true
code_word IsDirectory = refl
code_word GrantsSearch = refl
code_word NameThere = refl
code_word NameFree = refl
code_word IsNoDirectory = refl
code_word IsEmpty = refl
code_word IsNotRoot = refl
code_word IsNotBeneathItself = refl
code_word IsMutable = refl
code_word IsNotAppendOnly = refl
code_word GrantsRead = refl
code_word GrantsWrite = refl
code_word PassesSticky = refl
code_word IsOwner = refl
code_word MaySetOwner = refl
code_word IsSuperuser = refl
code_word MaySetFlags = refl
code_word KeepsSystemLocks = refl
code_word MaySetLevel = refl
code_word FitsFile = refl

error_word : (error : Errno) → is_word (error_name error) ≡ true
error_word EPERM = refl
error_word ENOENT = refl
error_word EACCES = refl
error_word EBUSY = refl
error_word EEXIST = refl
error_word ENOTDIR = refl
error_word EISDIR = refl
error_word EINVAL = refl
error_word EFBIG = refl
error_word ENOTEMPTY = refl

same_bytes : (bs : List ℕ) → bytes_eq bs bs ≡ true
same_bytes bs = (bytes_eq-Decides bs bs).1 refl

tells_denial : (denial : Denial) → denial.path < 256 → denial.at < 2 ^ 32 → TellsAnswer (Denied denial)
tells_denial denial path at = record {
  words = rw (
    code_word denial.rule,
    error_word (rule_error denial.rule),
    decimal_word denial.path (omega arith),
    short_word denial.at at,
  ) refl;
  back = rw (
    rule_back denial.rule,
    same_bytes (error_name (rule_error denial.rule)),
    octet_back denial.path path,
    short_read denial.at at,
  ) refl;
}

-- each answer of which a journal has an entry is told
pub tells_answer : (answer : Answer) → IsAnswer answer → IsKept answer → TellsAnswer answer
tells_answer (Shows (Stat number attrs)) is kept = tells_stat number attrs is.0 is.1
tells_answer (Shows (Bytes bytes)) is kept =
    record { words = rw (bytes_word bytes is) refl; back = rw (bytes_read_back bytes is kept) refl }
tells_answer (Shows (Names names)) is kept =
    record { words = names_words names is; back = rw (names_back names is) refl }
tells_answer (Shows Done) is kept = record { words = refl; back = refl }
tells_answer (Denied denial) is kept = tells_denial denial is.0 is.1
tells_answer (Refused NoMemory) is kept = absurd kept
tells_answer (Refused NoSpace) is kept = record { words = refl; back = refl }
tells_answer (Refused NoInodes) is kept = record { words = refl; back = refl }
tells_answer (Refused DirectoryFull) is kept = record { words = refl; back = refl }
tells_answer (Refused JournalFull) is kept = absurd kept

-- ---- the cleaner

-- the words of what came of a call of the cleaner may stand in a line, and are read as it
pub record TellsOutcome (came : CleanerOutcome) : Type 0 where
  pub words : list_all is_word (outcome_words came) ≡ true
  pub back : outcome_told (outcome_words came) ≡ Ok came

pub tells_outcome : (came : CleanerOutcome) → IsOutcome came → TellsOutcome came
tells_outcome outcome.Denied is = record { words = refl; back = refl }
tells_outcome (outcome.Done number) is =
    record { words = rw (short_word number is) refl; back = rw (short_read number is) refl }
tells_outcome (outcome.Fault fault.NoSuchSegment) is = record { words = refl; back = refl }
tells_outcome (outcome.Fault fault.Active) is = record { words = refl; back = refl }
tells_outcome (outcome.Fault fault.NotDirty) is = record { words = refl; back = refl }
tells_outcome (outcome.Fault (fault.Live bytes)) is =
    record { words = rw (short_word bytes is) refl; back = rw (short_read bytes is) refl }
tells_outcome (outcome.Fault fault.NoSpace) is = record { words = refl; back = refl }
tells_outcome (outcome.Fault fault.NotGainful) is = record { words = refl; back = refl }
