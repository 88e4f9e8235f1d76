-- What changing a file's bytes comes to, over a store.
use Rattle.std.specs.Prelude.{◌≡◌, ◌≢◌, ℕ, List, Some}
use Rattle.std.specs.FinMap as map
use Rattle.lfs_types.specs.Caller.{Caller}
use Rattle.lfs_types.specs.Tree.{File, Content}
use Rattle.lfs_model.specs.Effects.{mode_after}

-- the content after the bytes of a file were changed: its set-id bits are cleared where the caller clears them, and
-- all other files stay
pub record ChangesBytes (old new : Content) (n : ℕ) (caller : Caller)
    (change : List ℕ → List ℕ) : Type 0 where
  pub changed : (f : File) → map.get old n ≡ Some f → map.get new n
      ≡ Some (record f { mode = mode_after caller f.mode; bytes = change f.bytes })
  pub others : (q : ℕ) → q ≢ n → map.get new q ≡ map.get old q
