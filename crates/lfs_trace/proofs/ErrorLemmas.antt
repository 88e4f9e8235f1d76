-- What is compared of denials, and a legal list with one entry more: `legal_as-append`, for AuditLemmas of
-- lfs_auditing. An entry is legal in the world to which those before it lead, whether denials are compared whole or by
-- their errors.
use Rattle.std.proofs.Common.{ℕ, List, [], ◌∷◌, ◌++◌}
use Rattle.lfs_types.specs.Tree.{World}
use Rattle.lfs_model.specs.declared.journal.Entry.{Entry}
use Rattle.lfs_model.specs.Steps.{after_event, world_after}
use Rattle.lfs_model.proofs.RunLemmas.{IsLegal-append}
use Rattle.lfs_trace.specs.Errors.{IsEventAs, IsEventByError, IsLegalAs, IsLegalByError}
use Rattle.lfs_trace.specs.declared.errors.Denials.{Denials}
use Rattle.lfs_trace.specs.declared.errors.Denials.TheVariants.{Whole, ByError}

by_error-append : (numbers segments : ℕ) (es : List Entry) (e : Entry) (w : World)
    → IsLegalByError numbers segments es w
    → IsEventByError numbers segments (world_after numbers es w) e.cred e.event
    → IsLegalByError numbers segments (es ++ e ∷ []) w
by_error-append numbers segments [] e w legal is = (is, tt)
by_error-append numbers segments (x ∷ es) e w legal is =
    (legal.0, by_error-append numbers segments es e (after_event numbers w x.cred x.event) legal.1 is)

-- entries that are legal, and one more
pub legal_as-append : (denials : Denials) (numbers segments : ℕ) (es : List Entry) (e : Entry) (w : World)
    → IsLegalAs denials numbers segments es w
    → IsEventAs denials numbers segments (world_after numbers es w) e.cred e.event
    → IsLegalAs denials numbers segments (es ++ e ∷ []) w
legal_as-append Whole numbers segments es e w legal is = IsLegal-append numbers segments es e w legal is
legal_as-append ByError numbers segments es e w legal is = by_error-append numbers segments es e w legal is
