-- Who makes a call.
use Rattle.std.specs.Prelude.{ℕ, Bool, List}

-- a user, the groups, and whether it is init
pub record Caller : Type 0 where
  pub uid : ℕ
  pub groups : List ℕ
  pub init : Bool
