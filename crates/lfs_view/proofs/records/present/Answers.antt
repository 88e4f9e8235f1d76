use Rattle.std.proofs.Common.{ap, ◌∙◌}
use Rattle.lfs_types.specs.declared.cleaner.BlockInfo.{BlockInfo}
use Rattle.lfs_parts.specs.Keys.{log_state}
use Rattle.lfs_segwrite.specs.Marking.{code_named}
use Rattle.lfs_segwrite.proofs.NamedLemmas.{named_address}
use Rattle.lfs_logstore.specs.Cleaning.{address_of}
use Rattle.lfs_view.proofs.records.present.Goals as goal

pub returns : goal.returns
returns c =
    let p = c.args.parts.now in
    let info : BlockInfo = record { ino = c.args.number; version = c.args.version; lbn = c.number.result; addr = 0 } in
    named_address (log_state p) info c.present_address.result c.present_address.ensures.known
    c.present_address.ensures.unknown
    ∙ ap (λ n. address_of p c.args.number c.args.version (code_named n)) c.number.ensures
