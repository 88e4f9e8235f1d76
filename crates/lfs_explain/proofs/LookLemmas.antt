-- What a store has of the rows that names lead through: `trail_stored`, for `looking::trail`. Each row along some names
-- from the root is a row of the tree (`each_used`), and a store that shows the tree has a file at each of its numbers.
use Rattle.std.proofs.Common.{◌≡◌, ℕ, List, Some}
use Rattle.std.specs.Prelude.{IsSome, slice_get}
use Rattle.std.specs.FinMap as fin
use Rattle.lfs_types.specs.Tree.{World, Content, root}
use Rattle.lfs_types.proofs.Somewhere.{There, present}
use Rattle.lfs_model.specs.World.{IsTree}
use Rattle.lfs_calls.specs.Content.{Shows}
use Rattle.lfs_calls.proofs.Visible.{stored_of}
use Rattle.lfs_explain.specs.Trails.{rows_along}
use Rattle.lfs_explain.specs.declared.trail.ShownRow.{ShownRow}
use Rattle.lfs_explain.proofs.ExplainLemmas.{root_there}
use Rattle.lfs_explain.proofs.TrailLemmas.{each_used}

-- a row that is there is stored
pub there_stored : (c : Content) (w : World) → Shows c w → (n : ℕ) → There (fin.get w.rows n) → IsSome (fin.get c n)
there_stored c w shows n there = present (stored_of c w shows n there.value there.is).stored

-- each row of a trail is
pub trail_stored : (c : Content) (w : World) → Shows c w → IsTree w.rows
    → (names : List (List ℕ)) (k : ℕ) (row : ShownRow) → slice_get (rows_along w.rows root names) k ≡ Some row
    → IsSome (fin.get c row.number)
trail_stored c w shows tree names k row is =
    there_stored c w shows row.number (each_used w.rows names root k row (root_there w.rows tree) is)
