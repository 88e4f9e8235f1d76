-- How what is told looks on a terminal.
use Rattle.std.specs.Prelude.{ℕ, ◌==◌, ◌||◌, Bool, nat_eq, List, [], ◌∷◌, ◌++◌, codes, Option, None, Some, if◌then◌else◌}
use Rattle.std.specs.List.{starts_with}
use Rattle.lfs_terminal.specs.declared.painted.Colour.{Colour}
use Rattle.lfs_terminal.specs.declared.painted.Colour.TheVariants.{Green, Red, Yellow}

-- whether a text begins as the answer to a served call does
abbrev pub is_served : List ℕ → Bool
is_served text =
    starts_with nat_eq text (codes "ok") || (starts_with nat_eq text (codes "stat ")
    || (starts_with nat_eq text (codes "bytes ") || starts_with nat_eq text (codes "names ")))

-- the colour of a decision, where a text begins with one
abbrev pub decision_colour : List ℕ → Option Colour
decision_colour text =
    if starts_with nat_eq text (codes "denied ") then Some Red else
    if starts_with nat_eq text (codes "refused ") || starts_with nat_eq text (codes "fault ") then Some Yellow else
    if is_served text then Some Green else None

-- the colour of an answer: that of its decision, which stands behind a session's digit and a space or begins it
abbrev pub colour_of : List ℕ → Option Colour
colour_of [] = None
colour_of (c ∷ []) = None
colour_of (c ∷ d ∷ rest) = if d == 32 then decision_colour rest else decision_colour (c ∷ d ∷ rest)

-- the sequence that begins a colour, and the one that ends it
abbrev pub escape : Colour → List ℕ
escape Green = 27 ∷ codes "[32m"
escape Red = 27 ∷ codes "[31m"
escape Yellow = 27 ∷ codes "[33m"

abbrev pub reset : List ℕ
reset = 27 ∷ codes "[0m"

-- a text in a colour, where it has one
abbrev pub painted : Option Colour → List ℕ → List ℕ
painted None text = text
painted (Some colour) text = escape colour ++ (text ++ reset)
