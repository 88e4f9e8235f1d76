-- Reads and writes in pieces of at most 4,096 bytes, one behind the other, and at most 32 of them.
use Rattle.std.specs.Prelude.{ℕ, zero, suc, ◌+◌, ◌-◌, ◌/◌, min, Bool, true, false, List, [], ◌∷◌, take, drop}
use Rattle.lfs_types.specs.declared.request.Place.{Place}
use Rattle.lfs_types.specs.declared.request.Place.TheVariants.{At, End}
use Rattle.lfs_types.specs.declared.request.Request.{Request}
use Rattle.lfs_types.specs.declared.request.Request.TheVariants.{Read, Write}

-- how many pieces so many bytes have
abbrev pub piece_count : ℕ → ℕ
piece_count size = min ((size + 4095) / 4096) 32

-- where the next piece begins; places end at the largest number
abbrev pub next_place : ℕ → ℕ
next_place off = min (off + 4096) 0xFFFF_FFFF_FFFF_FFFF

-- so many pieces of the bytes that are asked for
abbrev pub read_pieces : List (List ℕ) → ℕ → ℕ → ℕ → List Request
read_pieces path off size zero = []
read_pieces path off size (suc n) = Read path off (min size 4096) ∷ read_pieces path (next_place off) (size - 4096) n

-- where a piece goes: to the end of a file that is open for that, else to its place
abbrev pub put_at : Bool → ℕ → Place
put_at true off = End
put_at false off = At off

-- so many pieces of the bytes that are to be written
abbrev pub write_pieces : List (List ℕ) → Bool → ℕ → List ℕ → ℕ → List Request
write_pieces path append off bytes zero = []
write_pieces path append off bytes (suc n) =
    Write path (put_at append off) (take 4096 bytes) ∷ write_pieces path append (next_place off) (drop 4096 bytes) n
