use Rattle.std.proofs.Common.{ap, sym, subst, ◌∙◌}
use Rattle.lfs_model.specs.declared.journal.Entry.{Entry}
use Rattle.lfs_model.specs.Counts.{AreFew, counts_after, counts_of}
use Rattle.lfs_model.proofs.CountLemmas.{counts_few, counts_push}
use Rattle.lfs_volume.specs.Journals.{IsJournal}
use Rattle.lfs_volume.proofs.JournalLemmas.{IsJournal-entered}
use Rattle.lfs_volume.proofs.volume.enter.Goals as goal

pub returns-clause-legal : goal.returns-clause-legal
returns-clause-legal c = λ from old new level level_after limit j room step.
    subst (λ es. IsJournal from new level_after es limit) (sym c.push_within.ensures.pushed)
    (IsJournal-entered from old new level level_after c.args.journal.now.items limit c.args.session c.args.cred.now
    c.args.event j room step)

pub returns-clause-counted : goal.returns-clause-counted
returns-clause-counted c =
    let e : Entry = record { session = c.args.session; cred = c.args.cred.now; event = c.args.event } in
    c.add.ensures ∙ ap (counts_after c.args.event) c.requires.counted ∙ sym (counts_push c.args.journal.now.items e)
    ∙ ap counts_of (sym c.push_within.ensures.pushed)

pub add-requires : goal.add-requires
add-requires c = record {
  few = subst AreFew (sym c.requires.counted)
      (counts_few c.args.journal.now.items c.requires.few);
}
