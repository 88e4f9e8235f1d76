-- What is told of a list of tests: those that were asked.
use Rattle.std.specs.Prelude.{List, [], ◌∷◌, if◌then◌else◌}
use Rattle.lfs_model.specs.Rules.{Check}

-- the tests up to the first that isn't met, and that one
abbrev pub asked : List Check → List Check
asked [] = []
asked (check ∷ checks) = check ∷ (if check.met then asked checks else [])
