-- The numbers that arguments may ask for.
use Rattle.std.specs.Prelude.{ℕ, ◌≤◌}

-- a number stands between these two, or is one of them
pub record IsBetween (least most number : ℕ) : Type 0 where
  pub not_less : least ≤ number
  pub not_more : number ≤ most
