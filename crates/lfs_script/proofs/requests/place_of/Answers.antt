use Rattle.std.proofs.Common.{sym, ◌∙◌}
use Rattle.lfs_script.proofs.RequestLemmas.{place_there}
use Rattle.lfs_script.proofs.requests.place_of.Goals as goal

pub returns-in_ok-decimal-in-Some : goal.returns-in_ok-decimal-in-Some
returns-in_ok-decimal-in-Some c =
    rw c.in-Some.is (place_there c.in-Some.off.now c.in_ok-decimal-in-Some.field-0 (sym c.decimal.ensures
    ∙ c.in_ok-decimal-in-Some.was))
