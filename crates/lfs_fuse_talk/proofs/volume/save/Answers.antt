use Rattle.std.proofs.Common.{ap, subst, sym, rules, tests, ◌∙◌}
use Rattle.std.specs.Prelude.{OnOk}
use Rattle.lfs_types.specs.declared.level.Level.{Level}
use Rattle.lfs_parts.specs.Store.{IsFlushed}
use Rattle.lfs_parts.specs.declared.parts.Parts.{Parts}
use Rattle.lfs_checking.specs.Files.{HasImage}
use Rattle.lfs_fuse_talk.proofs.StandLemmas.{kept_below}
use Rattle.lfs_fuse_talk.proofs.VolumeLemmas.{ok_map}
use Rattle.lfs_fuse_talk.proofs.volume.save.Goals as goal

pub save_file-requires : goal.save_file-requires
save_file-requires g c =
    let stand = g.F.OnLog.stand in
    subst (λ (p : Parts). IsFlushed p) (sym (c.log_store.ensures ∙ ap stand.parts c.store.ensures))
    (g.met.F.OnLog.rests c.flush.new.self.tree.volume.store (c.in_ok-flush.ensures.flushed (search (rules, tests))))

pub returns : goal.returns
returns g c =
    let stand = g.F.OnLog.stand in
    let left = c.flush.new.self.tree.volume in
    let outcome = c.save_file.result in
    let at = c.log_store.ensures ∙ ap stand.parts c.store.ensures in
    let image = subst (λ (l : Level). OnOk outcome (HasImage g.S.File.Write.contents (stand.parts left.store).log l))
    c.level.ensures
    (subst (λ (p : Parts). OnOk outcome (HasImage g.S.File.Write.contents p.log c.level.result)) at
    c.save_file.ensures) in
    ok_map outcome
    (λ i. kept_below g.S.File.Write.contents g.F.FileStore.state stand c.args.mount.now.tree.volume left.store
    left.level (g.met.F.OnLog.contains left.store)
    (g.met.F.OnLog.rests left.store (c.in_ok-flush.ensures.flushed (search (rules, tests))))
    c.flush.ensures.shown i) image
