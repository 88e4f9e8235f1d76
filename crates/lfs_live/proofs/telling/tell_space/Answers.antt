use Rattle.std.proofs.Common.{ap, length, refl}
use Rattle.lfs_live.proofs.telling.tell_space.Goals as goal

pub returns : goal.returns
returns g c = λ handed is.
    rw (
      c.in_ok-push_entries_told.ensures,
      c.in_ok-push_space.ensures,
      c.new-text.ensures.items,
      c.store.ensures,
      ap length c.journal.ensures.entries,
      c.from-limit.ensures,
      c.journal_limit.ensures,
      c.entries.ensures handed is,
    ) refl
