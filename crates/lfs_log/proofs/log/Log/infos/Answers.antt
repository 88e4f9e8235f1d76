use Rattle.std.proofs.Common.{◌/◌, List, ap, sym, subst, ◌∙◌}
use Rattle.std.specs.List.{Contains}
use Rattle.lfs_types.specs.declared.cleaner.BlockInfo.{BlockInfo}
use Rattle.lfs_log.specs.Infos.{HasInfo, infos_of}
use Rattle.lfs_log.specs.Parts.{LogParts}
use Rattle.lfs_log.proofs.FoundLemmas.{infos_of-named, infos_of-only}
use Rattle.lfs_log.proofs.log.Log.infos.Goals as goal

pub returns-clause-named : goal.returns-clause-named
returns-clause-named c = λ place owner here named.
    subst (λ (infos : List BlockInfo). HasInfo infos (place / 4) owner)
    (sym (c.scan.ensures ∙ ap (λ (p : LogParts). infos_of p.memory c.args.segment) c.self.view_is))
    (infos_of-named c.args.self.now.memory c.args.segment place owner here named)

pub returns-clause-only : goal.returns-clause-only
returns-clause-only c = λ info stands.
    infos_of-only c.args.self.now.memory c.args.segment info
    (subst (λ (infos : List BlockInfo). Contains infos info) (c.scan.ensures
    ∙ ap (λ (p : LogParts). infos_of p.memory c.args.segment) c.self.view_is) stands)
