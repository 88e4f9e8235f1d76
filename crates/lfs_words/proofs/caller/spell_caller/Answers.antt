use Rattle.std.proofs.Common.{arith}
use Rattle.lfs_words.proofs.CallerBack.{caller_back}
use Rattle.lfs_words.proofs.caller.spell_caller.Goals as goal

pub returns-in_ok-push_word-clause-back : goal.returns-in_ok-push_word-clause-back
returns-in_ok-push_word-clause-back c =
    caller_back c.args.cred.now c.uid.result c.groups.result.now c.uid.ensures
    (omega arith) c.groups.ensures.value c.push_groups.ensures.short
    c.groups.ensures.some c.groups.ensures.few c.groups.ensures.init

pub returns-else-is_init-clause-back : goal.returns-else-is_init-clause-back
returns-else-is_init-clause-back c =
    caller_back c.args.cred.now c.uid.result c.groups.result.now c.uid.ensures
    (omega arith) c.groups.ensures.value c.push_groups.ensures.short
    c.groups.ensures.some c.groups.ensures.few c.groups.ensures.init
