-- Answers to users' calls, read back.
use Rattle.std.specs.Prelude.{ℕ, nat_le, List, [], ◌∷◌, codes, find, Option, None, Some, Result, Ok, Err, if◌then◌else◌}
use Rattle.std.specs.Str.{bytes_eq}
use Rattle.lfs_types.specs.RuleCodes.{error_name, rule_code, rule_error, rules}
use Rattle.lfs_types.specs.declared.answer.Answer.{Answer}
use Rattle.lfs_types.specs.declared.answer.Answer.TheVariants.{Served as Shows, Denied, Refused}
use Rattle.lfs_types.specs.declared.answer.Resource.{Resource}
use Rattle.lfs_types.specs.declared.answer.Resource.TheVariants.{NoSpace, NoInodes, DirectoryFull}
use Rattle.lfs_types.specs.declared.answer.Served.{Served}
use Rattle.lfs_types.specs.declared.answer.Served.TheVariants.{Stat, Bytes, Names, Done}
use Rattle.lfs_types.specs.declared.attrs.Attrs.{Attrs}
use Rattle.lfs_types.specs.declared.attrs.Kind.{Kind}
use Rattle.lfs_types.specs.declared.attrs.Kind.TheVariants.{File, Directory}
use Rattle.lfs_types.specs.declared.rule.Denial.{Denial}
use Rattle.lfs_types.specs.declared.rule.Rule.{Rule}
use Rattle.lfs_words.specs.BytesText.{bytes_of}
use Rattle.lfs_words.specs.Faults.{◌>>=◌}
use Rattle.lfs_words.specs.FlagText.{flags_of}
use Rattle.lfs_words.specs.Numbers.{long_of, mode_of, short_of}
use Rattle.lfs_words.specs.Wording.{no_word, one_word}
use Rattle.lfs_words.specs.declared.fault.FaultKind.{FaultKind}
use Rattle.lfs_words.specs.declared.fault.FaultKind.TheVariants.{Words, Range}
use Rattle.lfs_journal_lines.specs.Asked.{or_words}
use Rattle.lfs_journal_lines.specs.Escapes.{names_told}

-- a number below 256
abbrev pub octet_told : List ℕ → Result ℕ FaultKind
octet_told word = do
  number ← long_of word
  if nat_le number 255 then Ok number else Err Range

-- the kind of file that a word names
abbrev pub kind_named : List ℕ → Option Kind
kind_named word =
    if bytes_eq word (codes "file") then Some File else
    if bytes_eq word (codes "dir") then Some Directory else None

-- the attributes of a file
abbrev pub attrs_told : List ℕ → List ℕ → List ℕ → List ℕ → List ℕ → List ℕ → Result Attrs FaultKind
attrs_told kind uid gid bits locks size =
    or_words (kind_named kind) >>= (λ k. short_of uid >>= (λ u. short_of gid >>= (λ g. mode_of bits >>= (λ m.
    flags_of locks >>= (λ f. long_of size >>= (λ s.
    Ok (record { kind = k; uid = u; gid = g; mode = m; flags = f; size = s })))))))

-- a file's number and attributes, each as a word
abbrev pub stat_of : List ℕ → List ℕ → List ℕ → List ℕ → List ℕ → List ℕ → List ℕ → Result Served FaultKind
stat_of number kind uid gid bits locks size =
    short_of number >>= (λ n. attrs_told kind uid gid bits locks size >>= (λ attrs. Ok (Stat n attrs)))

-- a file's number and attributes
abbrev pub stat_told : List (List ℕ) → Result Served FaultKind
stat_told (number ∷ kind ∷ uid ∷ gid ∷ bits ∷ locks ∷ size ∷ []) = stat_of number kind uid gid bits locks size
stat_told words = Err Words

-- the bytes that a lone word tells
abbrev pub bytes_told : List (List ℕ) → Result Served FaultKind
bytes_told words = do
  word ← one_word words
  bytes ← bytes_of word
  Ok (Bytes bytes)

-- what a served call shows, as a first word and those behind it tell
abbrev pub served_told : List ℕ → List (List ℕ) → Result Served FaultKind
served_told first words =
    if bytes_eq first (codes "ok") then (no_word words >>= (λ none. Ok Done)) else
    if bytes_eq first (codes "stat") then stat_told words else
    if bytes_eq first (codes "bytes") then bytes_told words else
    if bytes_eq first (codes "names") then (names_told words >>= (λ names. Ok (Names names))) else Err Words

-- the rule that a code names
unfoldable pub rule_named : List ℕ → Option Rule
rule_named code = find (λ rule. bytes_eq (rule_code rule) code) rules

-- a denial by this rule, whose error is to be this one
abbrev pub denial_by : Rule → List ℕ → List ℕ → List ℕ → Result Denial FaultKind
denial_by rule error path at =
    if bytes_eq (error_name (rule_error rule)) error then
    (octet_told path >>= (λ p. short_of at >>= (λ a. Ok (record { rule = rule; path = p; at = a }))))
    else Err Words

-- a denial, each part of it as a word: the rule's code and error, the path and the component
abbrev pub denial_of : List ℕ → List ℕ → List ℕ → List ℕ → Result Denial FaultKind
denial_of code error path at = or_words (rule_named code) >>= (λ rule. denial_by rule error path at)

abbrev pub denial_told : List (List ℕ) → Result Denial FaultKind
denial_told (code ∷ error ∷ path ∷ at ∷ []) = denial_of code error path at
denial_told words = Err Words

-- the resource that a word names: neither memory nor the journal's room
abbrev pub resource_named : List ℕ → Option Resource
resource_named word =
    if bytes_eq word (codes "NoSpace") then Some NoSpace else
    if bytes_eq word (codes "NoInodes") then Some NoInodes else
    if bytes_eq word (codes "DirectoryFull") then Some DirectoryFull else None

abbrev pub refusal_told : List (List ℕ) → Result Resource FaultKind
refusal_told words = do
  word ← one_word words
  or_words (resource_named word)

-- the answer that words tell
abbrev pub answer_told : List (List ℕ) → Result Answer FaultKind
answer_told [] = Err Words
answer_told (first ∷ words) =
    if bytes_eq first (codes "denied") then (denial_told words >>= (λ denial. Ok (Denied denial))) else
    if bytes_eq first (codes "refused") then (refusal_told words >>= (λ resource. Ok (Refused resource)))
    else (served_told first words >>= (λ shown. Ok (Shows shown)))
