-- Which lines have a fault.
use Rattle.std.specs.Prelude.{ℕ, ◌||◌, Bool, true, false, nat_eq, List, [], ◌∷◌, codes}
use Rattle.std.specs.List.{starts_with}
use Rattle.lfs_hearing.specs.Hearing.{heard_of}
use Rattle.lfs_hearing.specs.declared.hearing.Dot.TheVariants.{Segment}
use Rattle.lfs_hearing.specs.declared.hearing.Heard.{Heard}
use Rattle.lfs_hearing.specs.declared.hearing.Heard.TheVariants as heard

-- What a line says is a fault; or it asks for a segment, and a fault is told, as the volume has none of that number; or
-- that the volume be saved, and a fault is told, as it isn't.
abbrev pub is_faulty : Heard → List ℕ → Bool
is_faulty (heard.Fault fault place) told = true
is_faulty (heard.Dot (Segment number)) told = starts_with nat_eq told (codes "fault ")
is_faulty heard.Save told = starts_with nat_eq told (codes "fault ")
is_faulty said told = false

-- one of some lines has a fault, of which these texts are told
abbrev pub have_fault : List (List ℕ) → List (List ℕ) → Bool
have_fault [] texts = false
have_fault (line ∷ lines) [] = false
have_fault (line ∷ lines) (told ∷ texts) = is_faulty (heard_of line) told || have_fault lines texts

-- something is told: of what stands behind the last line feed that is a fault
abbrev pub is_told : List (List ℕ) → Bool
is_told [] = false
is_told (told ∷ texts) = true
