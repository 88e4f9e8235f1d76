use Rattle.lfs_types.specs.declared.fault.FormatFault.TheVariants.{TooFew, TooMany}
use Rattle.lfs_logstore.proofs.OpeningLemmas.{error_told, opened_state, value_told}
use Rattle.lfs_logstore.proofs.store.LogStore.format_as.Goals as goal

pub returns-in_err-parts-clause-too_few : goal.returns-in_err-parts-clause-too_few
returns-in_err-parts-clause-too_few c = error_told c.from_residual.result c.in_err-parts.field-0.0 TooFew _
    c.from_residual.ensures.1 c.in_err-parts.ensures.too_few

pub returns-in_err-parts-clause-too_many : goal.returns-in_err-parts-clause-too_many
returns-in_err-parts-clause-too_many c =
    error_told c.from_residual.result c.in_err-parts.field-0.0 TooMany _ c.from_residual.ensures.1
    c.in_err-parts.ensures.too_many

pub returns-clause-too_few : goal.returns-clause-too_few
returns-clause-too_few c = value_told c.in_ok-parts.parts c.in_ok-parts.parts TooFew _ c.in_ok-parts.ensures.too_few

pub returns-clause-too_many : goal.returns-clause-too_many
returns-clause-too_many c = value_told c.in_ok-parts.parts c.in_ok-parts.parts TooMany _ c.in_ok-parts.ensures.too_many

pub returns-clause-opening : goal.returns-clause-opening
returns-clause-opening c = opened_state c.args.serial c.in_ok-parts.parts c.args.params.segments c.args.params.inodes
    c.args.params.frames c.in_ok-parts.ensures.opening c.in_ok-parts.ensures.content
