-- An explanation as lines of text. A text is given with what was told before it.
use Rattle.std.specs.Prelude.{ℕ, ◌-◌, Bool, true, false, List, [], ◌∷◌, ◌++◌, codes, decimal, ◌==◌, Option, None, Some}
use Rattle.std.specs.Prelude.{slice_get, if◌then◌else◌}
use Rattle.lfs_types.specs.Caller.{Caller}
use Rattle.lfs_types.specs.Kinds.{is_directory_kind}
use Rattle.lfs_types.specs.RuleCodes.{error_name, rule_code, rule_error}
use Rattle.lfs_types.specs.Tree.{World, root}
use Rattle.lfs_types.specs.declared.attrs.Attrs.{Attrs}
use Rattle.lfs_types.specs.declared.attrs.Bit.TheVariants as bits
use Rattle.lfs_types.specs.declared.request.Request.{Request}
use Rattle.lfs_types.specs.declared.rule.Denial.{Denial}
use Rattle.lfs_types.specs.declared.rule.Rule.{Rule}
use Rattle.lfs_types.specs.declared.rule.Rule.TheVariants.{IsDirectory, GrantsSearch, NameThere, NameFree}
use Rattle.lfs_types.specs.declared.rule.Rule.TheVariants.{IsNoDirectory, IsEmpty, IsNotRoot, IsNotBeneathItself}
use Rattle.lfs_types.specs.declared.rule.Rule.TheVariants.{IsMutable, IsNotAppendOnly, GrantsRead, GrantsWrite}
use Rattle.lfs_types.specs.declared.rule.Rule.TheVariants.{PassesSticky, IsOwner, MaySetOwner, IsSuperuser, MaySetFlags}
use Rattle.lfs_types.specs.declared.rule.Rule.TheVariants.{KeepsSystemLocks, MaySetLevel, FitsFile}
use Rattle.lfs_rules.specs.Grants.{grants_of}
use Rattle.lfs_model.specs.Rules.{Check, first_failing, rule_table}
use Rattle.lfs_model.specs.World.{Rows}
use Rattle.lfs_words.specs.NameText.{flags_text, mode_text, name_text}
use Rattle.lfs_explain.specs.Asked.{asked}
use Rattle.lfs_explain.specs.Classes.{class_of}
use Rattle.lfs_explain.specs.Trails.{first_names, second_names, rows_along}
use Rattle.lfs_explain.specs.declared.class.Class.{Class}
use Rattle.lfs_explain.specs.declared.class.Class.TheVariants.{Superuser, Owner, Group, Others}
use Rattle.lfs_explain.specs.declared.explain.Explanation.{Explanation}
use Rattle.lfs_explain.specs.declared.trail.ShownRow.{ShownRow}

-- a word behind a space
abbrev pub with_word : List ℕ → List ℕ → List ℕ
with_word out word = out ++ 32 ∷ word

-- what a rule asks, in 15 signs
abbrev pub rule_words : Rule → List ℕ
rule_words IsDirectory = codes "directory      "
rule_words GrantsSearch = codes "search         "
rule_words NameThere = codes "name there     "
rule_words NameFree = codes "name free      "
rule_words IsNoDirectory = codes "no directory   "
rule_words IsEmpty = codes "empty          "
rule_words IsNotRoot = codes "not the root   "
rule_words IsNotBeneathItself = codes "not beneath    "
rule_words IsMutable = codes "not immutable  "
rule_words IsNotAppendOnly = codes "not append-only"
rule_words GrantsRead = codes "read           "
rule_words GrantsWrite = codes "write          "
rule_words PassesSticky = codes "sticky         "
rule_words IsOwner = codes "owner          "
rule_words MaySetOwner = codes "set owner      "
rule_words IsSuperuser = codes "superuser      "
rule_words MaySetFlags = codes "set flags      "
rule_words KeepsSystemLocks = codes "keeps locks    "
rule_words MaySetLevel = codes "set level      "
rule_words FitsFile = codes "fits           "

-- whether a rule asks for a name, for a bit of the mode, or who the caller is
abbrev pub asks_name : Rule → Bool
asks_name NameThere = true
asks_name NameFree = true
asks_name rule = false

abbrev pub asks_bit : Rule → Bool
asks_bit GrantsSearch = true
asks_bit GrantsRead = true
asks_bit GrantsWrite = true
asks_bit rule = false

abbrev pub asks_caller : Rule → Bool
asks_caller PassesSticky = true
asks_caller IsOwner = true
asks_caller MaySetOwner = true
asks_caller IsSuperuser = true
asks_caller MaySetFlags = true
asks_caller MaySetLevel = true
asks_caller rule = false

abbrev pub is_sticky : Rule → Bool
is_sticky PassesSticky = true
is_sticky rule = false

abbrev pub class_word : Class → List ℕ
class_word Superuser = codes "superuser"
class_word Owner = codes "owner"
class_word Group = codes "group"
class_word Others = codes "others"

-- a letter, or a dash
abbrev pub sign : Bool → ℕ → ℕ
sign granted letter = if granted then letter else 45

-- a row: number, kind, owner, group, mode and flags
abbrev pub with_row : List ℕ → ShownRow → List ℕ
with_row out row =
    with_word (with_word (with_word (with_word (with_word (with_word out
    (decimal row.number))
    (if is_directory_kind row.attrs.kind then codes "dir" else codes "file"))
    (decimal row.attrs.uid))
    (decimal row.attrs.gid))
    (mode_text row.attrs.mode))
    (flags_text row.attrs.flags)

-- by which class a caller is judged, and what the mode grants
abbrev pub with_class : List ℕ → Caller → Attrs → List ℕ
with_class out caller attrs =
    with_word (with_word out (class_word (class_of caller attrs)))
    (sign (grants_of caller attrs bits.Read) 114 ∷ sign (grants_of caller attrs bits.Write) 119
    ∷ sign (grants_of caller attrs bits.Search) 120 ∷ [])

-- a name, if there is one
abbrev pub with_name : List ℕ → Option (List ℕ) → List ℕ
with_name out None = out
with_name out (Some name) = with_word out (name_text name)

-- the row of which a rule is asked, if there is one
abbrev pub with_asked : List ℕ → Caller → Rule → Option ShownRow → List ℕ
with_asked out caller rule None = out
with_asked out caller rule (Some row) =
    if asks_bit rule then with_class (with_row out row) caller row.attrs else with_row out row

-- the directory that the sticky bit of which is asked
abbrev pub with_directory : List ℕ → Rule → Option ShownRow → List ℕ
with_directory out rule None = out
with_directory out rule (Some row) = if is_sticky rule then with_row (with_word out (codes "in")) row else out

-- the caller
abbrev pub with_caller : List ℕ → Caller → Rule → List ℕ
with_caller out caller rule =
    if asks_caller rule then with_word (with_word out (codes "user")) (decimal caller.uid) else out

-- the rule, the path's index, the component, and whether it is met
abbrev pub with_head : List ℕ → Check → List ℕ
with_head out check =
    with_word (with_word (with_word (with_word (with_word (with_word (out
    ++ rule_code check.denial.rule)
    (rule_words check.denial.rule))
    (codes "path"))
    (decimal check.denial.path))
    (codes "at"))
    (decimal check.denial.at))
    (if check.met then codes "yes" else codes "no ")

-- of what a rule is asked at a component of a path of these names, which lead through these rows
abbrev pub with_subject : List ℕ → Caller → Rule → ℕ → List (List ℕ) → List ShownRow → List ℕ
with_subject out caller rule at names rows =
    if asks_name rule then (if at == 0 then out else with_name out (slice_get names (at - 1))) else
    with_caller (with_directory (with_asked out caller rule (slice_get rows at)) rule (slice_get rows (at - 1))) caller
    rule

-- the paths of a call: the names of each, and the rows that they lead through
pub record Paths : Type 0 where
  pub names : List (List ℕ)
  pub rows : List ShownRow
  pub second_names : List (List ℕ)
  pub second_rows : List ShownRow

-- those of an explanation
abbrev pub paths_of : Request → Explanation → Paths
paths_of request e = record {
  names = first_names request;
  rows = e.first.rows.items;
  second_names = second_names request;
  second_rows = e.second.rows.items;
}

-- the line of a check
abbrev pub with_check : List ℕ → Caller → Paths → Check → List ℕ
with_check out caller paths check =
    (if check.denial.path == 0
    then with_subject (with_head out check) caller check.denial.rule check.denial.at paths.names paths.rows
    else with_subject (with_head out check) caller check.denial.rule check.denial.at paths.second_names
    paths.second_rows)
    ++ 10 ∷ []

abbrev pub with_checks : List ℕ → Caller → Paths → List Check → List ℕ
with_checks out caller paths [] = out
with_checks out caller paths (check ∷ checks) = with_checks (with_check out caller paths check) caller paths checks

-- what checks come to
abbrev pub with_verdict : List ℕ → Option Denial → List ℕ
with_verdict out None = out ++ codes "allowed" ++ 10 ∷ []
with_verdict out (Some denial) =
    with_word (with_word (with_word (with_word (out
    ++ codes "denied")
    (rule_code denial.rule))
    (error_name (rule_error denial.rule)))
    (decimal denial.path))
    (decimal denial.at)
    ++ 10 ∷ []

-- an explanation
abbrev pub told_text : Caller → Paths → List Check → List ℕ
told_text caller paths checks = with_verdict (with_checks [] caller paths checks) (first_failing checks)

-- those of a call in a tree
abbrev pub paths_in : Rows → Request → Paths
paths_in rows request = record {
  names = first_names request;
  rows = rows_along rows root (first_names request);
  second_names = second_names request;
  second_rows = rows_along rows root (second_names request);
}

-- why a call would be allowed or denied in a world
unfoldable pub why_text : World → Caller → Request → List ℕ
why_text w caller request =
    told_text caller
    (paths_in w.rows request)
    (asked (rule_table w caller request))
