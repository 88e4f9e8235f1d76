use Rattle.std.proofs.Common.{◌≡◌, ◌≤◌, [], sym, subst, ap, ◌∙◌}
use Rattle.std.specs.Vec.{vec_capacity}
use Rattle.lfs_model.specs.Counts.{counts_of}
use Rattle.lfs_model.specs.Steps.{world_after}
use Rattle.lfs_volume.specs.Journals.{HasBegun, IsJournal, Since}
use Rattle.lfs_volume.proofs.JournalLemmas.{beginning_journal, journal_begins}
use Rattle.lfs_volume.proofs.volume.Volume.drain.Goals as goal

pub invariant_of-self : goal.invariant_of-self
invariant_of-self g c =
    let v = c.self.inside in
    let begun = c.self.invariant.0 in
    let state = g.F.FileStore.state in
    let same : c.of.result.value ≡ v.store = c.of.ensures ∙ c.store.ensures in
    let empty : c.replace.new.dest.items ≡ [] = ap (λ r. r.items) c.replace.ensures.after ∙ c.requires.empty in (
      subst (λ x. HasBegun (state x) v.level) (sym same) (
        world_after (state v.store).shape.numbers v.journal.items begun.0,
        journal_begins begun.0 (state v.store) v.level v.journal.items v.limit
            (c.self.invariant.1 begun.0 begun.1),
      ),
      subst (λ x. Since (state x) v.level (λ from. IsJournal from
          (state v.store) v.level c.replace.new.dest.items v.limit)) (sym same)
          (λ from begins. subst (λ es. IsJournal from (state v.store) v.level es v.limit) (sym empty)
          (beginning_journal from (state v.store) v.level v.limit begins)),
      subst (λ r. v.limit ≤ vec_capacity r) (sym c.replace.ensures.after)
          (subst (λ x. x.limit ≤ vec_capacity c.args.room) (sym c.self.view_is) c.requires.room),
      c.none-self-inside.ensures ∙ ap counts_of (sym empty),
    )
