-- What the words of users' calls ask.
use Rattle.std.specs.Prelude.{ℕ, List, [], ◌∷◌, codes, Option, None, Some, Result, Ok, Err, if◌then◌else◌}
use Rattle.std.specs.Str.{bytes_eq}
use Rattle.lfs_types.specs.declared.request.Place.{Place}
use Rattle.lfs_types.specs.declared.request.Place.TheVariants.{At, End}
use Rattle.lfs_types.specs.declared.request.Request.{Request}
use Rattle.lfs_types.specs.declared.request.Request.TheVariants.{Stat, Read, Write, List as Names, SetLength, Create}
use Rattle.lfs_types.specs.declared.request.Request.TheVariants.{Mkdir, Unlink, Rmdir, Rename, Chmod, Chown, Chflags}
use Rattle.lfs_types.specs.declared.request.Request.TheVariants.{SetLevel, Sync}
use Rattle.lfs_words.specs.BytesText.{bytes_of}
use Rattle.lfs_words.specs.Faults.{◌>>=◌}
use Rattle.lfs_words.specs.FlagText.{flags_of}
use Rattle.lfs_words.specs.LevelText.{level_word}
use Rattle.lfs_words.specs.Numbers.{long_of, mode_of, short_of}
use Rattle.lfs_words.specs.PathText.{path_of}
use Rattle.lfs_words.specs.Wording.{no_word, one_word, two_words, three_words}
use Rattle.lfs_words.specs.declared.fault.FaultKind.{FaultKind}
use Rattle.lfs_words.specs.declared.fault.FaultKind.TheVariants.{Words}
use Rattle.lfs_script.specs.declared.verb.RequestKind.{RequestKind}
use Rattle.lfs_script.specs.declared.verb.RequestKind.TheVariants as kind

-- a path alone
abbrev pub lone_path : List (List ℕ) → Result (List (List ℕ)) FaultKind
lone_path words = do
  word ← one_word words
  path_of word

-- a path and a mode
abbrev pub path_and_mode : List (List ℕ) → Result (List (List ℕ) × ℕ) FaultKind
path_and_mode words = do
  both ← two_words words
  path ← path_of both.0
  mode ← mode_of both.1
  Ok (path, mode)

-- the path, the place and the bytes of a Write, each as a word
abbrev pub write_words : List (List ℕ) → Result (List ℕ × Option (List ℕ) × List ℕ) FaultKind
write_words [] = Err Words
write_words (path ∷ []) = Err Words
write_words (path ∷ mark ∷ []) = Err Words
write_words (path ∷ mark ∷ bytes ∷ []) = if bytes_eq mark (codes "end") then Ok (path, None, bytes) else Err Words
write_words (path ∷ mark ∷ off ∷ bytes ∷ []) = if bytes_eq mark (codes "at") then Ok (path, Some off, bytes)
    else Err Words
write_words (path ∷ mark ∷ off ∷ bytes ∷ fifth ∷ more) = Err Words

-- a place: at a byte, or at the end where no word says at which
abbrev pub write_place : Option (List ℕ) → Result Place FaultKind
write_place None = Ok End
write_place (Some word) = do
  off ← long_of word
  Ok (At off)

-- what the words behind the name of a user's call ask, or their first fault
abbrev pub request_said : RequestKind → List (List ℕ) → Result Request FaultKind
request_said kind.Stat words = do
  path ← lone_path words
  Ok (Stat path)
request_said kind.Read words = do
  three ← three_words words
  path ← path_of three.0
  off ← long_of three.1
  len ← short_of three.2
  Ok (Read path off len)
request_said kind.Write words = do
  three ← write_words words
  path ← path_of three.0
  place ← write_place three.1
  bytes ← bytes_of three.2
  Ok (Write path place bytes)
request_said kind.List words = do
  path ← lone_path words
  Ok (Names path)
request_said kind.SetLength words = do
  both ← two_words words
  path ← path_of both.0
  len ← long_of both.1
  Ok (SetLength path len)
request_said kind.Create words = do
  both ← path_and_mode words
  Ok (Create both.0 both.1)
request_said kind.Mkdir words = do
  both ← path_and_mode words
  Ok (Mkdir both.0 both.1)
request_said kind.Unlink words = do
  path ← lone_path words
  Ok (Unlink path)
request_said kind.Rmdir words = do
  path ← lone_path words
  Ok (Rmdir path)
request_said kind.Rename words = do
  both ← two_words words
  from ← path_of both.0
  to ← path_of both.1
  Ok (Rename from to)
request_said kind.Chmod words = do
  both ← path_and_mode words
  Ok (Chmod both.0 both.1)
request_said kind.Chown words = do
  three ← three_words words
  path ← path_of three.0
  uid ← short_of three.1
  gid ← short_of three.2
  Ok (Chown path uid gid)
request_said kind.Chflags words = do
  both ← two_words words
  path ← path_of both.0
  flags ← flags_of both.1
  Ok (Chflags path flags)
request_said kind.SetLevel words = do
  word ← one_word words
  level ← level_word word
  Ok (SetLevel level)
request_said kind.Sync words = do
  none ← no_word words
  Ok Sync
