-- Checks that were put behind others.
use Rattle.std.proofs.Common.{◌≡◌, List, ◌++◌, Result, Ok, Err, OnOk}
use Rattle.std.specs.Bool.{if◌then◌else◌}
use Rattle.std.specs.Result.{is_ok}
use Rattle.lfs_model.specs.Rules.{Check}

pub pushed : {T E : Type 0} (result : Result T E) (new old more : List Check) → new
    ≡ (if is_ok result then old ++ more else old) → OnOk result (new ≡ old ++ more)
pushed (Ok x) new old more e = e
pushed (Err y) new old more e = tt
