-- The rows of a map, each by itself.
use Rattle.std.specs.Prelude.{ℕ, zero, suc, List, [], ◌∷◌, ◌++◌}
use Rattle.lfs_parts.specs.declared.parts.Parts.{Parts}
use Rattle.lfs_view.specs.MapText.{row_text}

-- the lines of the first n segments
unfoldable pub first_rows : Parts → ℕ → List (List ℕ)
first_rows p zero = []
first_rows p (suc n) = first_rows p n ++ row_text p n ∷ []

-- the line of each segment
abbrev pub rows_of : Parts → List (List ℕ)
rows_of p = first_rows p p.log.memory.segments
