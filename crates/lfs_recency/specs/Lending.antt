-- What a `&mut` to a frame's bytes leaves.
use Rattle.std.specs.Prelude.{ℕ, List, slice_set}
use Rattle.std.specs.Borrow.{Lends, MutBor, Fml, Array, u8}
use Rattle.lfs_recency.specs.FrameLists.{FrameLists}
use Rattle.lfs_recency.specs.contracts.frames.Frames.{the_row}

-- the bytes of frame f replaced
abbrev pub with_block : FrameLists → ℕ → List ℕ → FrameLists
with_block s f bytes = record s { blocks = slice_set s.blocks f bytes }

-- s ends with the last bytes behind r as those of frame f
abbrev pub LendsBlock : MutBor FrameLists → ℕ → MutBor (List ℕ) → Fml
LendsBlock s f r = Lends the_row (Array u8 512) s r (with_block s.now f)
