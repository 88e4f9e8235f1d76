-- The entries that any bytes begin with.
use Rattle.std.specs.Prelude.{◌≡◌, ℕ, zero, suc, ◌^◌, ◌<◌, Bool, ◌&&◌, nat_lt, nat_le, List, [], ◌∷◌, ◌++◌, length}
use Rattle.std.specs.Prelude.{take, flat_map, None, if◌then◌else◌}
use Rattle.std.specs.Int.{w32, from_be_bytes}
use Rattle.lfs_dirs.specs.Directory.{Entry, entry_bytes, number_in}

-- whether a number, the length of a name and as many bytes as are left begin with an entry
abbrev pub is_entry : ℕ → ℕ → ℕ → Bool
is_entry number name_length left = nat_lt 0 number && nat_lt 0 name_length
    && nat_le name_length left

-- the entries behind the first `skip` bytes, up to the first place that is no entry: fewer than five
-- bytes are left, the number is 0, the name's length is 0, or the name runs over the end
unfoldable pub entries_at : ℕ → List ℕ → List Entry
entries_at (suc skip) [] = []
entries_at (suc skip) (a ∷ bytes) = entries_at skip bytes
entries_at zero [] = []
entries_at zero (a ∷ []) = []
entries_at zero (a ∷ b ∷ []) = []
entries_at zero (a ∷ b ∷ c ∷ []) = []
entries_at zero (a ∷ b ∷ c ∷ d ∷ []) = []
entries_at zero (a ∷ b ∷ c ∷ d ∷ name_length ∷ bytes) =
    if is_entry (from_be_bytes w32 (a ∷ b ∷ c ∷ d ∷ [])) name_length (length bytes)
    then (from_be_bytes w32 (a ∷ b ∷ c ∷ d ∷ []), take name_length bytes)
    ∷ entries_at name_length bytes
    else []

-- the entries of a block, up to the first place that is no entry
unfoldable pub entries_of : List ℕ → List Entry
entries_of bytes = entries_at 0 bytes

-- the bytes are those of this entry, which is read there, and the rest
pub record StandsFirst (bytes : List ℕ) (e : Entry) (rest : List ℕ) : Type 0 where
  pub read : entries_of bytes ≡ e ∷ entries_of rest
  pub spelled : bytes ≡ entry_bytes e ++ rest
  pub above : 0 < e.0
  pub fits : e.0 < 2 ^ 32

-- the bytes behind the first entry of a name, with those before it
pub record StandsBehind (bytes name rest : List ℕ) : Type 0 where
  pub before : List Entry
  pub entry : Entry
  pub absent : number_in name before ≡ None
  pub named : entry.1 ≡ name
  pub read : entries_of bytes ≡ before ++ entry ∷ entries_of rest
  pub spelled : bytes ≡ flat_map entry_bytes before ++ (entry_bytes entry ++ rest)
