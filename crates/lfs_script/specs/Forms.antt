-- How a line is formed that begins with a verb: how many words stand behind it, and which of them are fixed.
use Rattle.std.specs.Prelude.{ℕ, ◌==◌, nat_le, Bool, true, false, List, [], ◌∷◌, codes, length}
use Rattle.std.specs.Result.{is_ok}
use Rattle.std.specs.Str.{bytes_eq}
use Rattle.lfs_model.specs.declared.journal.CleanerKind.{CleanerKind}
use Rattle.lfs_model.specs.declared.journal.CleanerKind.TheVariants as clean
use Rattle.lfs_script.specs.Requests.{write_words}
use Rattle.lfs_script.specs.declared.verb.RequestKind.{RequestKind}
use Rattle.lfs_script.specs.declared.verb.RequestKind.TheVariants as kind
use Rattle.lfs_script.specs.declared.verb.Verb.{Verb}
use Rattle.lfs_script.specs.declared.verb.Verb.TheVariants as verb

-- how many words stand behind the word of a user's call that is no Write
abbrev pub words_of_call : RequestKind → ℕ
words_of_call kind.Stat = 1
words_of_call kind.Read = 3
words_of_call kind.Write = 4
words_of_call kind.List = 1
words_of_call kind.SetLength = 2
words_of_call kind.Create = 2
words_of_call kind.Mkdir = 2
words_of_call kind.Unlink = 1
words_of_call kind.Rmdir = 1
words_of_call kind.Rename = 2
words_of_call kind.Chmod = 2
words_of_call kind.Chown = 3
words_of_call kind.Chflags = 2
words_of_call kind.SetLevel = 1
words_of_call kind.Sync = 0

-- whether these words stand behind the word of a user's call, as far as their count and the fixed words of a Write go
abbrev pub is_call : RequestKind → List (List ℕ) → Bool
is_call kind.Stat words = length words == 1
is_call kind.Read words = length words == 3
is_call kind.Write words = is_ok (write_words words)
is_call kind.List words = length words == 1
is_call kind.SetLength words = length words == 2
is_call kind.Create words = length words == 2
is_call kind.Mkdir words = length words == 2
is_call kind.Unlink words = length words == 1
is_call kind.Rmdir words = length words == 1
is_call kind.Rename words = length words == 2
is_call kind.Chmod words = length words == 2
is_call kind.Chown words = length words == 3
is_call kind.Chflags words = length words == 2
is_call kind.SetLevel words = length words == 1
is_call kind.Sync words = length words == 0

-- the same of a call of the cleaner, of which there are so many words
abbrev pub is_cleaning : CleanerKind → ℕ → Bool
is_cleaning clean.Ifile count = count == 0
is_cleaning clean.Infos count = count == 1
is_cleaning clean.Bmapv count = nat_le count 248
is_cleaning clean.Markv count = nat_le count 8
is_cleaning clean.Segclean count = count == 1
is_cleaning clean.Gain count = count == 0

-- the same of a credential
abbrev pub is_caller : List (List ℕ) → Bool
is_caller [] = false
is_caller (user ∷ []) = false
is_caller (user ∷ groups ∷ []) = true
is_caller (user ∷ groups ∷ mark ∷ []) = bytes_eq mark (codes "init")
is_caller (user ∷ groups ∷ mark ∷ fourth ∷ more) = false

-- the same of any verb
abbrev pub is_formed : Verb → List (List ℕ) → Bool
is_formed verb.Session words = length words == 1
is_formed verb.As words = is_caller words
is_formed (verb.User kind) words = is_call kind words
is_formed (verb.Cleaner kind) words = is_cleaning kind (length words)
is_formed verb.Pass words = length words == 0

-- how a line is formed that begins with the word of a user's call
abbrev pub form_of_call : RequestKind → List ℕ
form_of_call kind.Stat = codes "its form is stat PATH"
form_of_call kind.Read = codes "its form is read PATH OFFSET LENGTH"
form_of_call kind.Write = codes "its form is write PATH at OFFSET BYTES, or write PATH end BYTES"
form_of_call kind.List = codes "its form is list PATH"
form_of_call kind.SetLength = codes "its form is length PATH LENGTH"
form_of_call kind.Create = codes "its form is create PATH MODE"
form_of_call kind.Mkdir = codes "its form is mkdir PATH MODE"
form_of_call kind.Unlink = codes "its form is unlink PATH"
form_of_call kind.Rmdir = codes "its form is rmdir PATH"
form_of_call kind.Rename = codes "its form is rename PATH PATH"
form_of_call kind.Chmod = codes "its form is chmod PATH MODE"
form_of_call kind.Chown = codes "its form is chown PATH USER GROUP"
form_of_call kind.Chflags = codes "its form is chflags PATH FLAGS"
form_of_call kind.SetLevel = codes "its form is level LEVEL"
form_of_call kind.Sync = codes "its form is sync"

-- the same of a call of the cleaner
abbrev pub form_of_cleaning : CleanerKind → List ℕ
form_of_cleaning clean.Ifile = codes "its form is ifile"
form_of_cleaning clean.Infos = codes "its form is infos SEGMENT"
form_of_cleaning clean.Bmapv = codes "its form is bmapv and up to 248 infos"
form_of_cleaning clean.Markv = codes "its form is markv and up to 8 infos"
form_of_cleaning clean.Segclean = codes "its form is segclean SEGMENT"
form_of_cleaning clean.Gain = codes "its form is gain"

-- the same of any verb
abbrev pub form_text : Verb → List ℕ
form_text verb.Session = codes "its form is session SESSION"
form_text verb.As = codes "its form is as USER GROUPS, or as USER GROUPS init"
form_text (verb.User kind) = form_of_call kind
form_text (verb.Cleaner kind) = form_of_cleaning kind
form_text verb.Pass = codes "its form is pass"
