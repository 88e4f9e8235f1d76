-- Names in a directory.
use Rattle.std.specs.Prelude.{◌≡◌, ℕ, ◌==◌, nat_lt, Bool, false, true, List, [], ◌∷◌, length, Option, None, Some, Result, Ok}
use Rattle.std.specs.Prelude.{Err, if◌then◌else◌}
use Rattle.std.specs.List.{list_any}
use Rattle.lfs_types.specs.declared.name.BadName.{BadName}
use Rattle.lfs_types.specs.declared.name.BadName.TheVariants.{Empty, Long, Slash, Nul, Dot, Memory}

-- whether the bytes are "." or ".."
abbrev pub is_dots : List ℕ → Bool
is_dots [] = false
is_dots (a ∷ []) = a == 46
is_dots (a ∷ b ∷ []) = if a == 46 then b == 46 else false
is_dots (a ∷ b ∷ c ∷ bs) = false

-- whether a byte is a slash or zero
abbrev pub stops : ℕ → Bool
stops b = if b == 47 then true else b == 0

-- the first fault of bytes that are to be a name
abbrev pub name_fault : List ℕ → Option BadName
name_fault bs =
    if length bs == 0 then Some Empty else
    if nat_lt 255 (length bs) then Some Long else
    if list_any (λ b. b == 47) bs then Some Slash else
    if list_any (λ b. b == 0) bs then Some Nul else
    if is_dots bs then Some Dot else None

-- what parsing bytes as a name may answer: the bytes where they have no fault, else the first fault
abbrev pub ParsesName : List ℕ → Result (List ℕ) BadName → Type 0
ParsesName bs (Ok name) = (name_fault bs ≡ None) × (name ≡ bs)
ParsesName bs (Err Memory) = name_fault bs ≡ None
ParsesName bs (Err Empty) = name_fault bs ≡ Some Empty
ParsesName bs (Err Long) = name_fault bs ≡ Some Long
ParsesName bs (Err Slash) = name_fault bs ≡ Some Slash
ParsesName bs (Err Nul) = name_fault bs ≡ Some Nul
ParsesName bs (Err Dot) = name_fault bs ≡ Some Dot
