-- Entries that were handed out, and those that the journal has by then: a legal run behind another, from the tree that the
-- first leads to, is one with it. So whoever hands a journal out need only know that each part is legal from where it began.
use Rattle.std.proofs.Common.{ℕ, List, [], ◌∷◌, ◌++◌}
use Rattle.lfs_types.specs.Tree.{World}
use Rattle.lfs_model.specs.declared.journal.Entry.{Entry}
use Rattle.lfs_model.specs.Steps.{IsLegal, after_event, world_after}

pub legal_joined : (numbers segments : ℕ) (es fs : List Entry) (w : World) → IsLegal numbers segments es w
    → IsLegal numbers segments fs (world_after numbers es w)
    → IsLegal numbers segments (es ++ fs) w
legal_joined numbers segments [] fs w first then = then
legal_joined numbers segments (e ∷ es) fs w first then =
    (first.0, legal_joined numbers segments es fs (after_event numbers w e.cred e.event) first.1 then)
