use Rattle.std.proofs.lemmas.Result.{on_ok_weaker}
use Rattle.lfs_words.proofs.CallerBack.{first_and_rest, groups_added}
use Rattle.lfs_words.proofs.caller.push_groups.Goals as goal

pub returns-in_ok-push_decimal-in-len1-up-clause-spelled : goal.returns-in_ok-push_decimal-in-len1-up-clause-spelled
returns-in_ok-push_decimal-in-len1-up-clause-spelled c =
    on_ok_weaker c.push_more_groups.result
    (groups_added c.args.out.now.items c.push_decimal.new.out.items c.push_more_groups.new.out.items c.args.groups.now _
    _ c.from.result
    (first_and_rest c.args.groups.now c.in-len1-up.len_at_least) c.from.ensures c.in_ok-push_decimal-in-len1-up.ensures)
    c.push_more_groups.ensures
