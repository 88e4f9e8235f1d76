use Rattle.std.proofs.Common.{rules, ap, sym, subst, ◌∙◌, arith}
use Rattle.lfs_model.specs.Counts.{counts_of}
use Rattle.lfs_volume.specs.Journals.{Begins, HasBegun, IsJournal}
use Rattle.lfs_volume.proofs.JournalLemmas.{beginning_journal, begun}
use Rattle.lfs_volume.proofs.volume.Volume.over.Goals as goal

pub invariant_of-result : goal.invariant_of-result
invariant_of-result g c =
    let store = c.args.store in
    let level = c.args.level in
    let limit = c.args.journal_limit in (
      subst (λ x. HasBegun (g.F.FileStore.state x) level) (sym c.of-since.ensures)
          (begun (g.F.FileStore.state store) level c.requires),
      λ from begins.
          subst (λ x. IsJournal from (g.F.FileStore.state x) level c.in_ok-journal.journal.items limit)
          (sym c.in_ok-store.ensures)
          (subst (λ es. IsJournal from (g.F.FileStore.state store) level es limit) (sym c.in_ok-journal.ensures.items)
          (beginning_journal from (g.F.FileStore.state store) level limit
          (subst (λ x. Begins (g.F.FileStore.state x) level from) c.of-since.ensures begins))),
      omega (arith, c.in_ok-journal.ensures.exact),
      c.none.ensures ∙ ap counts_of (sym c.in_ok-journal.ensures.items),
    )

pub returns : goal.returns
returns g c = search rules
