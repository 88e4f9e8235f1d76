-- A borrowed value of a result.
use Rattle.std.specs.Prelude.{Option, Result, Ok, Err}
use Rattle.std.specs.Borrow.{Bor}
use Rattle.std.specs.Option.{option_copied}

-- a result with a value in place of a reference to it
abbrev pub result_copied : {X E : Type 0} → Result (Option (Bor X)) E → Result (Option X) E
result_copied (Ok o) = Ok (option_copied o)
result_copied (Err e) = Err e
