use Rattle.lfs_journal_lines.proofs.TellingLemmas.{entries_all, entry_more}
use Rattle.lfs_journal_lines.proofs.telling.push_entries.Goals as goal

pub loop-entry-preserved : goal.loop-entry-preserved
loop-entry-preserved c =
    entry_more c.args.out.now.items c.loop-entry.out.items c.push_entry.new.out.items c.args.entries.now
    c.loop-entry.entry-index c.entry-item.result
    c.loop-entry-test.true c.entry-item.is c.loop-entry.invariant c.in_ok-push_entry.ensures

pub returns : goal.returns
returns c =
    entries_all c.args.out.now.items c.loop-entry.out.items c.args.entries.now c.loop-entry.entry-index
    c.loop-entry-test.false c.loop-entry.invariant
