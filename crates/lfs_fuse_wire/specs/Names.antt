-- Parts of a message: names, each ended by a zero byte, and data of a length that is told.
use Rattle.std.specs.Prelude.{ℕ, ◌+◌, ◌==◌, List, take, drop, length, position, nat_lt, if◌then◌else◌, Option, Some}
use Rattle.std.specs.Prelude.{None}
use Rattle.std.specs.Option.{option_map, option_and_then}

-- the bytes before the first zero byte, and those behind it
abbrev pub name_in : List ℕ → Option (List ℕ × List ℕ)
name_in bytes = option_map (λ n. (take n bytes, drop (n + 1) bytes)) (position (λ b. b == 0) bytes)

-- two names, one behind the other
abbrev pub two_names_in : List ℕ → Option (List ℕ × List ℕ)
two_names_in bytes = option_and_then (λ p. option_map (λ q. (p.0, q.0)) (name_in p.1)) (name_in bytes)

-- so many bytes from the front
abbrev pub first_in : ℕ → List ℕ → Option (List ℕ)
first_in count bytes = if nat_lt (length bytes) count then None else Some (take count bytes)
