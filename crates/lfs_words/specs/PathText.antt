-- Paths in scripts.
use Rattle.std.specs.Prelude.{ℕ, Bool, List, ◌∷◌, map, Option, None, Some, Result, Ok, Err, if◌then◌else◌}
use Rattle.std.specs.List.{list_all}
use Rattle.lfs_types.specs.Paths.{names_of_text, path_fault, path_text, slashed}
use Rattle.lfs_types.specs.declared.path.BadPath.{BadPath}
use Rattle.lfs_words.specs.NameText.{name_text}
use Rattle.lfs_words.specs.Wording.{is_word_byte}
use Rattle.lfs_words.specs.declared.fault.FaultKind.{FaultKind}
use Rattle.lfs_words.specs.declared.fault.FaultKind.TheVariants.{Path}

-- a value, unless there is a fault
abbrev pub unless : {X : Type 0} → Option FaultKind → X → Result X FaultKind
unless None x = Ok x
unless (Some kind) x = Err kind

abbrev pub or_path : Option BadPath → Option FaultKind
or_path None = None
or_path (Some fault) = Some (Path fault)

-- the names of the path that a word spells, or its first fault
abbrev pub path_of : List ℕ → Result (List (List ℕ)) FaultKind
path_of word = unless (or_path (path_fault word)) (names_of_text word)

-- whether a script can spell a path: no name has a byte that may not stand in a word
abbrev pub can_spell : List (List ℕ) → Bool
can_spell names = list_all (λ name. list_all is_word_byte name) names

-- a path as a word: as a script spells it where it can; else a percent sign, which begins no path of a script, and each
-- name behind a slash as a List's answer has it
abbrev pub path_word : List (List ℕ) → List ℕ
path_word names = if can_spell names then path_text names else 37 ∷ slashed (map name_text names)
