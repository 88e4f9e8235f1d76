-- What a `&mut` to the bytes of a frame leaves.
use Rattle.std.specs.Prelude.{ℕ, List}
use Rattle.std.specs.Borrow.{Lends, MutBor, Fml, Array, u8}
use Rattle.lfs_recency.specs.declared.frame.Frame.{Frame}
use Rattle.lfs_recency.specs.contracts.frame.Frame.{the_row}

abbrev pub with_bytes : Frame → List ℕ → Frame
with_bytes f bytes = record f { bytes = bytes }

abbrev pub LendsBytes : MutBor Frame → MutBor (List ℕ) → Fml
LendsBytes f r = Lends the_row (Array u8 512) f r (with_bytes f.now)
