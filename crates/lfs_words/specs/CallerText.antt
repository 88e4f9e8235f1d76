-- Credentials as words.
use Rattle.std.specs.Prelude.{ℕ, ◌^◌, ◌<◌, slice_index, Bool, true, false, List, [], ◌∷◌, map, codes, decimal}
use Rattle.std.specs.List.{join_with_byte}
use Rattle.lfs_types.specs.Caller.{Caller}

-- numbers below 2^32
abbrev pub AreShort : List ℕ → Type 0
AreShort numbers = (k : ℕ) → slice_index numbers k < 2 ^ 32

-- groups, with a comma between
abbrev pub groups_text : List ℕ → List ℕ
groups_text groups = join_with_byte 44 (map decimal groups)

-- the user, the groups and the mark of init, as they stand behind `as`
abbrev pub marked_words : List ℕ → List ℕ → Bool → List (List ℕ)
marked_words user groups true = user ∷ groups ∷ codes "init" ∷ []
marked_words user groups false = user ∷ groups ∷ []

abbrev pub caller_words : Caller → List (List ℕ)
caller_words cred = marked_words (decimal cred.uid) (groups_text cred.groups) cred.init
