-- What a reader has left, where it is known.
use Rattle.std.proofs.Common.{Option, None, Some, IfSome}

-- what holds of each value holds of the one that is known
pub where_known : {A : Type 0} (known : Option A) {P : A → Type 0} → ((a : A) → P a) → IfSome known P
where_known None each = tt
where_known (Some a) each = each a
