use Rattle.std.proofs.lemmas.Result.{on_ok_weaker}
use Rattle.lfs_journal_lines.proofs.TellingLemmas.{who_added}
use Rattle.lfs_journal_lines.proofs.telling.push_who.Goals as goal

pub returns : goal.returns
returns c =
    on_ok_weaker c.spell_caller.result
    (who_added c.args.out.now.items c.push_decimal.new.out.items c.push_word.new.out.items c.spell_caller.new.out.items
    c.from.result c.args.entry.now.session _
    c.from.ensures c.in_ok-push_decimal.ensures c.in_ok-push_word.ensures) c.spell_caller.ensures.spelled
