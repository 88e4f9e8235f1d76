use Rattle.std.proofs.Common.{◌≡◌, ◌==◌, ◌++◌, length, map}
use denote.Text.{Utf8}
use denote.Shadow.{shadow}
use Rattle.std.specs.List.{slice_split}
use Rattle.lfs_words.proofs.words.pieces.Given as goal

abbrev pub invariant-loop-piece : goal.invariant-loop-piece
invariant-loop-piece l = shadow (Utf8 l.rest)
    × (slice_split (λ b. b == l.fn.separator) l.fn.text ≡ map (λ x. x.now) l.pieces.items
    ++ slice_split (λ b. b == l.fn.separator) l.rest)

abbrev pub decreases-loop-piece : goal.decreases-loop-piece
decreases-loop-piece l = length l.rest
