use Rattle.std.proofs.Common.{◌≡◌, ◌<◌, ℕ, length, Some}
use Rattle.std.specs.FinMap as map
use Rattle.lfs_types.specs.Tree.{File}
use Rattle.lfs_trees.specs.Files.{MayStand}
use Rattle.lfs_trees.proofs.files.check_files.Given as goal

-- each file below the number may stand where it does
abbrev pub invariant-loop-number : goal.invariant-loop-number
invariant-loop-number g l =
    (n : ℕ) (f : File) → map.get (g.F.FileStore.state l.store).content n ≡ Some f → n < l.number
    → MayStand n f.kind (length f.bytes)
