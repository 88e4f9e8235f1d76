use Rattle.std.proofs.Common.{rules}
use Rattle.std.proofs.lemmas.Result.{on_ok_weaker}
use Rattle.lfs_words.proofs.Appended.{flags_added}
use Rattle.lfs_words.proofs.append.push_flags.Goals as goal

pub returns-clause-spelled : goal.returns-clause-spelled
returns-clause-spelled c =
    on_ok_weaker c.push_hex.result
    (flags_added c.push_hex.new.out.items c.args.out.now.items c.push.new.self.items _ c.bits-bits.result c.args.flags
    c.in_ok-push.ensures.items c.bits-bits.ensures.value (search rules)) c.push_hex.ensures
