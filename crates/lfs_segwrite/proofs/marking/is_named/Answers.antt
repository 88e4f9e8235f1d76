use Rattle.std.proofs.Common.{sym, ◌∙◌}
use Rattle.std.proofs.lemmas.Bool.{eq-eqb, eqb-true}
use Rattle.lfs_parts.specs.Keys.{log_state}
use Rattle.lfs_segwrite.proofs.NamedLemmas.{named_address}
use Rattle.lfs_segwrite.proofs.marking.is_named.Goals as goal

pub returns-then-info-ne0 : goal.returns-then-info-ne0
returns-then-info-ne0 c =
    let info = c.args.info.now in
    let at = named_address (log_state c.args.parts.now) info c.present_address.result c.present_address.ensures.known
    c.present_address.ensures.unknown in (
      λ t. record { somewhere = c.if-info-ne0.true; present = sym at ∙ eqb-true c.present_address.result info.addr t },
      λ h. eq-eqb c.present_address.result info.addr (at ∙ h.present),
    )
