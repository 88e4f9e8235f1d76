-- What `.cat` asks and tells of a file: Reads of 4,096 bytes, one behind the other, and their bytes as text.
use Rattle.std.specs.Prelude.{◌≡◌, ℕ, zero, suc, ◌*◌, ◌<◌, ◌==◌, Bool, true, false, List, [], ◌∷◌, ◌++◌, codes, length}
use Rattle.std.specs.Prelude.{Option, None, Some}
use Rattle.std.specs.List.{All, flat_map}
use Rattle.lfs_types.specs.declared.answer.Answer.{Answer}
use Rattle.lfs_types.specs.declared.answer.Answer.TheVariants.{Served}
use Rattle.lfs_types.specs.declared.answer.Served.TheVariants.{Bytes}
use Rattle.lfs_types.specs.declared.request.Request.{Request}
use Rattle.lfs_types.specs.declared.request.Request.TheVariants.{Read}
use Rattle.lfs_print.specs.AnswerText.{answer_line}
use Rattle.lfs_browse.specs.Spelled.{spelled}

-- Reads of so many pieces of a file, from its first byte on
abbrev pub pieces : List (List ℕ) → ℕ → List Request
pieces path zero = []
pieces path (suc n) = pieces path n ++ Read path (4096 * n) 4096 ∷ []

-- the bytes that a Read served
abbrev pub bytes_of : Answer → List ℕ
bytes_of (Served (Bytes bytes)) = bytes
bytes_of answer = []

-- whether a Read served all that it asked for, behind which there may be more
abbrev pub is_whole : Answer → Bool
is_whole answer = length (bytes_of answer) == 4096

-- answers, and the one behind them, if there is one
abbrev pub followed : List Answer → Option Answer → List Answer
followed whole None = whole
followed whole (Some last) = whole ++ last ∷ []

-- the answer behind so many whole ones: the first that isn't, or none behind 107
abbrev pub IsLast : ℕ → Option Answer → Type 0
IsLast count None = count ≡ 107
IsLast count (Some last) = (is_whole last ≡ false) × (count < 107)

-- why there are no more bytes: nothing where the last Read was served
abbrev pub end_text : ℕ → Option Answer → List ℕ
end_text session None = codes " cut short behind 438272 bytes, of which read tells more\n"
end_text session (Some (Served shown)) = []
end_text session (Some answer) = answer_line session answer

-- these are the calls of `.cat`, and this is told of the answers: their bytes as text, and why there are no more
pub record IsContent (session : ℕ) (path : List (List ℕ)) (calls : List Request) (answers : List Answer)
    (told : List ℕ) : Type 0 where
  pub whole : List Answer
  pub last : Option Answer
  pub answered : answers ≡ followed whole last
  pub all : All (λ answer. is_whole answer ≡ true) whole
  pub ends : IsLast (length whole) last
  pub asked : calls ≡ pieces path (length answers)
  pub printed : told ≡ spelled (flat_map bytes_of answers) ++ end_text session last
