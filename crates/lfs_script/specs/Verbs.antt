-- The first words of lines.
use Rattle.std.specs.Prelude.{ℕ, List, [], ◌∷◌, codes, find, Option}
use Rattle.std.specs.Str.{bytes_eq}
use Rattle.lfs_print.specs.CleanerWords.{cleaner_word}
use Rattle.lfs_model.specs.declared.journal.CleanerKind.TheVariants.{Ifile, Infos, Bmapv, Markv, Segclean, Gain}
use Rattle.lfs_script.specs.declared.verb.RequestKind.{RequestKind}
use Rattle.lfs_script.specs.declared.verb.RequestKind.TheVariants.{Stat, Read, Write, List as Names, SetLength, Create}
use Rattle.lfs_script.specs.declared.verb.RequestKind.TheVariants.{Mkdir, Unlink, Rmdir, Rename, Chmod, Chown, Chflags}
use Rattle.lfs_script.specs.declared.verb.RequestKind.TheVariants.{SetLevel, Sync}
use Rattle.lfs_script.specs.declared.verb.Verb.{Verb}
use Rattle.lfs_script.specs.declared.verb.Verb.TheVariants.{Session, As, User, Cleaner, Pass}

-- the word of a user's call
abbrev pub request_word : RequestKind → List ℕ
request_word Stat = codes "stat"
request_word Read = codes "read"
request_word Write = codes "write"
request_word Names = codes "list"
request_word SetLength = codes "length"
request_word Create = codes "create"
request_word Mkdir = codes "mkdir"
request_word Unlink = codes "unlink"
request_word Rmdir = codes "rmdir"
request_word Rename = codes "rename"
request_word Chmod = codes "chmod"
request_word Chown = codes "chown"
request_word Chflags = codes "chflags"
request_word SetLevel = codes "level"
request_word Sync = codes "sync"

-- the word of a verb
abbrev pub verb_word : Verb → List ℕ
verb_word Session = codes "session"
verb_word As = codes "as"
verb_word (User kind) = request_word kind
verb_word (Cleaner kind) = cleaner_word kind
verb_word Pass = codes "pass"

-- every verb, those of most lines first
abbrev pub verbs : List Verb
verbs =
    User Write ∷ User Read ∷ User Stat ∷ User Create ∷ User Unlink ∷ User Rename ∷ As ∷ User Names ∷ User SetLength
    ∷ User Mkdir ∷ User Rmdir ∷ User Chmod ∷ User Chown ∷ User Chflags ∷ User SetLevel ∷ User Sync ∷ Session
    ∷ Cleaner Ifile ∷ Cleaner Infos ∷ Cleaner Bmapv ∷ Cleaner Markv ∷ Cleaner Segclean ∷ Cleaner Gain
    ∷ Pass ∷ []

-- the verb that a word names
abbrev pub verb_of : List ℕ → Option Verb
verb_of word = find (λ verb. bytes_eq (verb_word verb) word) verbs
