-- Users' calls as lines of a script.
use Rattle.std.specs.Prelude.{◌≡◌, ℕ, ◌&&◌, Bool, true, List, [], ◌∷◌, ◌++◌, codes, decimal, Ok}
use Rattle.std.specs.List.{list_all}
use Rattle.lfs_types.specs.declared.request.Place.{Place}
use Rattle.lfs_types.specs.declared.request.Place.TheVariants.{At, End}
use Rattle.lfs_types.specs.declared.request.Request.{Request}
use Rattle.lfs_types.specs.declared.request.Request.TheVariants.{Stat, Read, Write, List as Names, SetLength, Create}
use Rattle.lfs_types.specs.declared.request.Request.TheVariants.{Mkdir, Unlink, Rmdir, Rename, Chmod, Chown, Chflags}
use Rattle.lfs_types.specs.declared.request.Request.TheVariants.{SetLevel, Sync}
use Rattle.lfs_words.specs.BytesText.{bytes_text}
use Rattle.lfs_words.specs.LevelText.{level_text}
use Rattle.lfs_words.specs.NameText.{flags_text, mode_text}
use Rattle.lfs_words.specs.PathText.{can_spell, path_word}
use Rattle.lfs_words.specs.Wording.{is_word, spaced}
use Rattle.lfs_script.specs.Requests.{request_said}
use Rattle.lfs_script.specs.Verbs.{request_word}
use Rattle.lfs_script.specs.declared.verb.RequestKind.{RequestKind}
use Rattle.lfs_script.specs.declared.verb.RequestKind.TheVariants as kind

-- which call it is
abbrev pub kind_of : Request → RequestKind
kind_of (Stat path) = kind.Stat
kind_of (Read path off len) = kind.Read
kind_of (Write path place bytes) = kind.Write
kind_of (Names path) = kind.List
kind_of (SetLength path len) = kind.SetLength
kind_of (Create path mode) = kind.Create
kind_of (Mkdir path mode) = kind.Mkdir
kind_of (Unlink path) = kind.Unlink
kind_of (Rmdir path) = kind.Rmdir
kind_of (Rename from to) = kind.Rename
kind_of (Chmod path mode) = kind.Chmod
kind_of (Chown path uid gid) = kind.Chown
kind_of (Chflags path flags) = kind.Chflags
kind_of (SetLevel level) = kind.SetLevel
kind_of Sync = kind.Sync

-- the words of the place and the bytes of a Write
abbrev pub place_words : Place → List ℕ → List (List ℕ)
place_words (At off) bytes = codes "at" ∷ decimal off ∷ bytes_text bytes ∷ []
place_words End bytes = codes "end" ∷ bytes_text bytes ∷ []

-- the words behind the name of a call
abbrev pub operands : Request → List (List ℕ)
operands (Stat path) = path_word path ∷ []
operands (Read path off len) = path_word path ∷ decimal off ∷ decimal len ∷ []
operands (Write path place bytes) = path_word path ∷ place_words place bytes
operands (Names path) = path_word path ∷ []
operands (SetLength path len) = path_word path ∷ decimal len ∷ []
operands (Create path mode) = path_word path ∷ mode_text mode ∷ []
operands (Mkdir path mode) = path_word path ∷ mode_text mode ∷ []
operands (Unlink path) = path_word path ∷ []
operands (Rmdir path) = path_word path ∷ []
operands (Rename from to) = path_word from ∷ path_word to ∷ []
operands (Chmod path mode) = path_word path ∷ mode_text mode ∷ []
operands (Chown path uid gid) = path_word path ∷ decimal uid ∷ decimal gid ∷ []
operands (Chflags path flags) = path_word path ∷ flags_text flags ∷ []
operands (SetLevel level) = level_text level ∷ []
operands Sync = []

-- the line of a call, without a line feed
abbrev pub request_line : Request → List ℕ
request_line request = request_word (kind_of request) ++ spaced (operands request)

-- whether a script can say a call: it can spell each of its paths
abbrev pub can_say : Request → Bool
can_say (Stat path) = can_spell path
can_say (Read path off len) = can_spell path
can_say (Write path place bytes) = can_spell path
can_say (Names path) = can_spell path
can_say (SetLength path len) = can_spell path
can_say (Create path mode) = can_spell path
can_say (Mkdir path mode) = can_spell path
can_say (Unlink path) = can_spell path
can_say (Rmdir path) = can_spell path
can_say (Rename from to) = can_spell from && can_spell to
can_say (Chmod path mode) = can_spell path
can_say (Chown path uid gid) = can_spell path
can_say (Chflags path flags) = can_spell path
can_say (SetLevel level) = true
can_say Sync = true

-- the words behind the name of a call may stand in a line, and ask it
pub record IsSaid (request : Request) : Type 0 where
  pub words : list_all is_word (operands request) ≡ true
  pub said : request_said (kind_of request) (operands request) ≡ Ok request
