-- The lines of answers.
use Rattle.std.specs.Prelude.{ℕ, List, [], ◌∷◌, ◌++◌, map, codes, decimal}
use Rattle.lfs_types.specs.RuleCodes.{rule_code, rule_error, error_name}
use Rattle.lfs_types.specs.declared.answer.Answer.{Answer}
use Rattle.lfs_types.specs.declared.answer.Answer.TheVariants.{Served as Shows, Denied, Refused}
use Rattle.lfs_types.specs.declared.answer.Resource.{Resource}
use Rattle.lfs_types.specs.declared.answer.Resource.TheVariants.{NoMemory, NoSpace, NoInodes, DirectoryFull}
use Rattle.lfs_types.specs.declared.answer.Resource.TheVariants.{JournalFull}
use Rattle.lfs_types.specs.declared.answer.Served.{Served}
use Rattle.lfs_types.specs.declared.answer.Served.TheVariants.{Stat, Bytes, Names, Done}
use Rattle.lfs_types.specs.declared.attrs.Attrs.{Attrs}
use Rattle.lfs_types.specs.declared.attrs.Kind.{Kind}
use Rattle.lfs_types.specs.declared.attrs.Kind.TheVariants.{File, Directory}
use Rattle.lfs_types.specs.declared.rule.Denial.{Denial}
use Rattle.lfs_words.specs.BytesText.{bytes_text}
use Rattle.lfs_words.specs.NameText.{flags_text, mode_text, name_text}
use Rattle.lfs_words.specs.Wording.{spaced}

abbrev pub kind_word : Kind → List ℕ
kind_word File = codes "file"
kind_word Directory = codes "dir"

abbrev pub resource_word : Resource → List ℕ
resource_word NoMemory = codes "NoMemory"
resource_word NoSpace = codes "NoSpace"
resource_word NoInodes = codes "NoInodes"
resource_word DirectoryFull = codes "DirectoryFull"
resource_word JournalFull = codes "JournalFull"

-- the words of the owner, the group, the mode, the flags and the size of a file
abbrev pub attrs_words : Attrs → List (List ℕ)
attrs_words attrs =
    decimal attrs.uid ∷ decimal attrs.gid ∷ mode_text attrs.mode ∷ flags_text attrs.flags ∷ decimal attrs.size ∷ []

-- the words of a file's number and attributes
abbrev pub stat_words : ℕ → Attrs → List (List ℕ)
stat_words number attrs = codes "stat" ∷ decimal number ∷ kind_word attrs.kind ∷ attrs_words attrs

-- the words of what a served call shows
abbrev pub served_words : Served → List (List ℕ)
served_words (Stat number attrs) = stat_words number attrs
served_words (Bytes bytes) = codes "bytes" ∷ bytes_text bytes ∷ []
served_words (Names names) = codes "names" ∷ map name_text names
served_words Done = codes "ok" ∷ []

-- the words of a denial: the rule's code and error, the path and the component
abbrev pub denial_words : Denial → List (List ℕ)
denial_words denial =
    codes "denied" ∷ rule_code denial.rule ∷ error_name (rule_error denial.rule) ∷ decimal denial.path
    ∷ decimal denial.at ∷ []

-- the words of an answer
abbrev pub answer_words : Answer → List (List ℕ)
answer_words (Shows served) = served_words served
answer_words (Denied denial) = denial_words denial
answer_words (Refused resource) = codes "refused" ∷ resource_word resource ∷ []

-- the line of a call of this session: the session, words and a line feed
abbrev pub line_text : ℕ → List (List ℕ) → List ℕ
line_text session words = decimal session ++ (spaced words ++ 10 ∷ [])

-- the line of an answer to a user's call
abbrev pub answer_line : ℕ → Answer → List ℕ
answer_line session answer = line_text session (answer_words answer)
