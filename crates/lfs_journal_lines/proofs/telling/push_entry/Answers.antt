use Rattle.lfs_journal_lines.proofs.TellingLemmas.{entry_added}
use Rattle.lfs_journal_lines.proofs.telling.push_entry.Goals as goal

pub returns : goal.returns
returns c =
    entry_added c.args.out.now.items c.push_who.new.out.items c.push_word.new.out.items c.push.new.self.items
    c.push_asked.new.out.items c.push_word-2.new.out.items
    c.push_came.new.out.items c.push-2.new.self.items c.args.entry.now c.in_ok-push_who.ensures
    c.in_ok-push_word.ensures c.in_ok-push.ensures.items
    c.in_ok-push_asked.ensures c.in_ok-push_word-2.ensures c.in_ok-push_came.ensures c.in_ok-push-2.ensures.items
