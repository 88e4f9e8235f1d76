-- Absolute paths.
use Rattle.std.specs.Prelude.{◌≡◌, ℕ, ◌+◌, ◌≤◌, ◌==◌, nat_lt, Bool, true, false, List, [], ◌∷◌, ◌++◌, length, drop}
use Rattle.std.specs.Prelude.{Option, None, Some, Result, Ok, Err, if◌then◌else◌}
use Rattle.std.specs.Global.{Vec}
use Rattle.std.specs.List.{slice_split}
use Rattle.lfs_types.specs.Naming.{name_fault}
use Rattle.lfs_types.specs.declared.name.BadName.{BadName}
use Rattle.lfs_types.specs.declared.path.BadPath.{BadPath}
use Rattle.lfs_types.specs.declared.path.BadPath.TheVariants.{NotAbsolute, Long, Name, Memory}

-- the parts of a text between its slashes, empty ones too
abbrev pub parts : List ℕ → List (List ℕ)
parts text = slice_split (λ b. b == 47) text

-- the names that an absolute text spells: none for "/", else the parts behind the first slash
abbrev pub names_of_text : List ℕ → List (List ℕ)
names_of_text text = if length text == 1 then [] else parts (drop 1 text)

-- names, each with a slash before it
abbrev pub slashed : List (List ℕ) → List ℕ
slashed [] = []
slashed (name ∷ names) = 47 ∷ (name ++ slashed names)

-- the text of a path
abbrev pub path_text : List (List ℕ) → List ℕ
path_text [] = 47 ∷ []
path_text (name ∷ names) = slashed (name ∷ names)

-- the fault of component k, if there is one, else those of later components
abbrev pub or_later : ℕ → Option BadName → Option BadPath → Option BadPath
or_later k None later = later
or_later k (Some fault) later = Some (Name k fault)

-- the first fault of names, of which the first is component k
abbrev pub names_fault : ℕ → List (List ℕ) → Option BadPath
names_fault k [] = None
names_fault k (name ∷ names) = or_later k (name_fault name) (names_fault (k + 1) names)

abbrev pub is_absolute : List ℕ → Bool
is_absolute [] = false
is_absolute (b ∷ bs) = b == 47

-- the first fault of a text that is to be a path
abbrev pub path_fault : List ℕ → Option BadPath
path_fault text =
    if is_absolute text then
    (if nat_lt 1024 (length text) then Some Long else names_fault 1 (names_of_text text))
    else Some NotAbsolute

-- the first name is there and has no fault, and so was to be kept
abbrev pub StartsWell : List (List ℕ) → Type 0
StartsWell [] = ⊥
StartsWell (name ∷ names) = name_fault name ≡ None

-- What parsing names, the first of them component k, may answer. Memory may run out at a name without a fault, before
-- a later fault is met.
abbrev pub ParsesNames : ℕ → List (List ℕ) → Result (List (List ℕ)) BadPath → Type 0
ParsesNames k names (Ok parsed) = (names_fault k names ≡ None) × (parsed ≡ names)
ParsesNames k names (Err Memory) = StartsWell names
ParsesNames k names (Err NotAbsolute) = names_fault k names ≡ Some NotAbsolute
ParsesNames k names (Err Long) = names_fault k names ≡ Some Long
ParsesNames k names (Err (Name component fault)) = names_fault k names ≡ Some (Name component fault)

-- What parsing a text as a path may answer. Memory is asked for only where the text is absolute and not too long, and
-- its first name has no fault.
abbrev pub ParsesPath : List ℕ → Result (List (List ℕ)) BadPath → Type 0
ParsesPath text (Ok names) = (path_fault text ≡ None) × (names ≡ names_of_text text)
ParsesPath text (Err Memory) = (is_absolute text ≡ true) × (length text ≤ 1024) × StartsWell (names_of_text text)
ParsesPath text (Err NotAbsolute) = path_fault text ≡ Some NotAbsolute
ParsesPath text (Err Long) = path_fault text ≡ Some Long
ParsesPath text (Err (Name component fault)) = path_fault text ≡ Some (Name component fault)

-- a text is cut at its first slash into a part and the rest, or has none
abbrev pub IsCut : List ℕ → List ℕ → Option (List ℕ) → Type 0
IsCut text part None = parts text ≡ part ∷ []
IsCut text part (Some rest) = (parts text ≡ part ∷ parts rest) × (length part + 1 + length rest ≡ length text)

-- what is behind the slash that stands behind so many bytes of a text; none where it ends there
abbrev pub rest_of : List ℕ → ℕ → Option (List ℕ)
rest_of text count = if count == length text then None else Some (drop (count + 1) text)

-- the name at the front of a text, up to its first slash, was put behind others, and this is the rest
abbrev pub TakesName : List ℕ → List (List ℕ) → List (List ℕ) → Option (List ℕ) → Type 0
TakesName text old new rest =
    (part : List ℕ) × IsCut text part rest × (name_fault part ≡ None) × (new ≡ old ++ part ∷ [])

-- it was not, for this fault of component k, or as memory ran out
abbrev pub RefusesName : ℕ → List ℕ → BadPath → Type 0
RefusesName k text NotAbsolute = ⊥
RefusesName k text Long = ⊥
RefusesName k text Memory = (part : List ℕ) × (rest : Option (List ℕ)) × IsCut text part rest × (name_fault part ≡ None)
RefusesName k text (Name component fault) =
    (part : List ℕ) × (rest : Option (List ℕ)) × IsCut text part rest × (name_fault part ≡ Some fault) × (component ≡ k)

-- a result with a list in place of a vector
abbrev pub items_of : {X E : Type 0} → Result (Vec X) E → Result (List X) E
items_of (Ok v) = Ok v.items
items_of (Err e) = Err e
