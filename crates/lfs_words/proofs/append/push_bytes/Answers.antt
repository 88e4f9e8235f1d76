use Rattle.std.proofs.Common.{sym, ◌∙◌}
use Rattle.std.proofs.lemmas.Result.{on_ok_weaker}
use Rattle.lfs_words.proofs.Appended.{none_added}
use Rattle.lfs_words.proofs.append.push_bytes.Goals as goal

pub returns-then-is_empty : goal.returns-then-is_empty
returns-then-is_empty c =
    on_ok_weaker c.push_word.result (none_added c.push_word.new.out.items c.args.out.now.items c.args.bytes.now
    (sym c.is_empty.ensures ∙ c.if-is_empty.true)) c.push_word.ensures
