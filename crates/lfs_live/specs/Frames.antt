-- Answers, as they are written.
use Rattle.std.specs.Prelude.{ℕ, ◌==◌, List, [], ◌∷◌, ◌++◌, count_by, decimal}
use Rattle.std.specs.List.{flat_map}
use Rattle.lfs_live.specs.declared.framing.Framing.{Framing}
use Rattle.lfs_live.specs.declared.framing.Framing.TheVariants.{Plain, Counted}

-- how many lines an answer has: its line feeds
abbrev pub line_count : List ℕ → ℕ
line_count text = count_by (λ c. c == 10) text

-- what stands before an answer: nothing, or a line with the count of its lines
abbrev pub frame_head : Framing → List ℕ → List ℕ
frame_head Plain text = []
frame_head Counted text = decimal (line_count text) ++ 10 ∷ []

-- an answer in its frame
abbrev pub framed : Framing → List ℕ → List ℕ
framed framing text = frame_head framing text ++ text

-- answers, one after another
abbrev pub frames : Framing → List (List ℕ) → List ℕ
frames framing texts = flat_map (framed framing) texts
