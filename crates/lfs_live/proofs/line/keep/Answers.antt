use Rattle.std.proofs.Common.{arith}
use Rattle.lfs_live.proofs.LineLemmas.{kept_full, kept_more}
use Rattle.lfs_live.proofs.line.keep.Goals as goal

pub returns-in_ok-push : goal.returns-in_ok-push
returns-in_ok-push c = kept_more c.args.bytes.now.items c.push.new.self.items c.args.byte
    (omega (arith, c.len.ensures, c.if-len-le-LINE_MAX.true)) c.in_ok-push.ensures.items

pub returns-else-len-le-LINE_MAX : goal.returns-else-len-le-LINE_MAX
returns-else-len-le-LINE_MAX c = kept_full c.args.bytes.now.items c.args.byte
    (omega (arith, c.len.ensures, c.if-len-le-LINE_MAX.false)) c.requires
