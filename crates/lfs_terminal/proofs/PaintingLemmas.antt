-- Texts written one behind another.
use Rattle.std.proofs.Common.{◌≡◌, ℕ, List, ◌++◌, subst, Option, OnOk, Result, Ok, Err}
use Rattle.std.specs.Io.KnownBytes.{Appends}
use Rattle.std.proofs.KnownBytes.{Appends-trans}

pub three_written : {A E : Type 0} (a b c d : Option (List ℕ)) (x y z first last : List ℕ) (result : Result A E)
    → first ≡ x → last ≡ z → Appends a b first → Appends b c y → OnOk result (Appends c d last)
    → OnOk result (Appends a d (x ++ (y ++ z)))
three_written a b c d x y z first last (Ok done) begins ends p q r =
    Appends-trans a b d x (y ++ z) (subst (Appends a b) begins p)
    (Appends-trans b c d y z q (subst (Appends c d) ends r))
three_written a b c d x y z first last (Err fault) begins ends p q r = tt
