use Rattle.std.proofs.Common.{ap, refl, rules, subst, tests, ◌∙◌}
use Rattle.lfs_types.specs.declared.level.Level.{Level}
use Rattle.lfs_parts.specs.declared.parts.Parts.{Parts}
use Rattle.lfs_checking.specs.Files.{HasImage}
use Rattle.lfs_programs.specs.Volumes.{HasSaved}
use Rattle.lfs_programs.proofs.StandLemmas.{if_some, saved_below}
use Rattle.lfs_programs.proofs.volume.save.Goals as goal

pub returns-in-Ok-clause-saved : goal.returns-in-Ok-clause-saved
returns-in-Ok-clause-saved g c =
    let stand = g.S.OnLog.stand in
    let left = c.flush.new.self.volume in
    let at = c.log_store.ensures ∙ ap stand.parts c.store.ensures in
    let image = subst (λ (l : Level). HasImage g.F.File.Write.contents (stand.parts left.store).log l)
    c.level-level.ensures
    (subst (λ (p : Parts). HasImage g.F.File.Write.contents p.log c.level-level.result) at c.in-Ok.ensures) in
    if_some (HasSaved g.F.File.Write.contents g.S.FileStore.state c.args.tended.now.volume) c.args.options.now.image
    (saved_below g.F.File.Write.contents g.S.FileStore.state stand c.args.tended.now.volume left.store
    (stand.parts left.store) left.level refl (g.met.S.OnLog.contains left.store)
    (g.met.S.OnLog.rests left.store (c.in-Ok-true.ensures.flushed (search (rules, tests))))
    c.in-Ok-true.ensures.shown image)
