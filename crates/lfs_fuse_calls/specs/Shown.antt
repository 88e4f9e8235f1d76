-- What answers show.
use Rattle.std.specs.Prelude.{ℕ, ◌==◌, Bool, true, false, List, [], length, Option, None, Some}
use Rattle.std.specs.List.{flat_map}
use Rattle.lfs_types.specs.declared.answer.Answer.{Answer}
use Rattle.lfs_types.specs.declared.answer.Answer.TheVariants as answers
use Rattle.lfs_types.specs.declared.answer.Served.TheVariants.{Bytes}
use Rattle.lfs_types.specs.declared.request.Request.{Request}
use Rattle.lfs_types.specs.declared.request.Request.TheVariants.{Read}

-- the bytes that an answer shows
abbrev pub bytes_shown : Answer → List ℕ
bytes_shown (answers.Served (Bytes bytes)) = bytes
bytes_shown answer = []

-- those of answers, one behind the other
abbrev pub all_bytes : List Answer → List ℕ
all_bytes given = flat_map bytes_shown given

abbrev pub is_served : Answer → Bool
is_served (answers.Served shown) = true
is_served (answers.Denied denial) = false
is_served (answers.Refused resource) = false

-- how many bytes a call wants to be shown
abbrev pub wanted_by : Request → Option ℕ
wanted_by (Read path off len) = Some len
wanted_by request = None

-- the bytes that were wanted, if any were, are all there
abbrev pub has_all : Option ℕ → List ℕ → Bool
has_all None bytes = true
has_all (Some count) bytes = length bytes == count

-- Whether the next call is made behind an answer: it is served, and in full.
abbrev pub is_full : Option ℕ → Answer → Bool
is_full wanted (answers.Served shown) = has_all wanted (bytes_shown (answers.Served shown))
is_full wanted (answers.Denied denial) = false
is_full wanted (answers.Refused resource) = false
