use Rattle.std.proofs.Common.{sym}
use Rattle.std.proofs.lemmas.List.{take_rest}
use Rattle.lfs_fuse_talk.proofs.FrontLemmas.{first_of}
use Rattle.lfs_fuse_talk.proofs.inbox.front.Goals as goal

pub returns-in-Whole : goal.returns-in-Whole
returns-in-Whole c = first_of c.args.bytes.now c.in-Whole.size _
    (sym c.in-Whole.ensures.frame) (take_rest c.args.bytes.now c.in-Whole.size)
