use Rattle.std.proofs.Common.{sym, ◌∙◌}
use Rattle.lfs_script.proofs.RequestLemmas.{infos_there}
use Rattle.lfs_script.proofs.cleaner_calls.cleaner_call.Goals as goal

pub returns-in_ok-segment-in-Infos : goal.returns-in_ok-segment-in-Infos
returns-in_ok-segment-in-Infos c =
    infos_there (λ x. x.now) c.args.words.now c.args.kind c.in_ok-segment-in-Infos.field-0 c.in-Infos.is
    (sym c.segment.ensures ∙ c.in_ok-segment-in-Infos.was)
