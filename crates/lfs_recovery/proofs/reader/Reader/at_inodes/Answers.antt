use Rattle.std.proofs.Common.{sym, ap, ◌∙◌}
use Rattle.lfs_recovery.specs.Course.{at_inodes}
use Rattle.lfs_recovery.proofs.CourseLemmas.{at_inodes-ended, at_inodes-here, at_inodes-past, held}
use Rattle.lfs_recovery.proofs.reader.Reader.at_inodes.Goals as goal

pub returns-then-self : goal.returns-then-self
returns-then-self c =
    let i = c.self.inside in
    sym (at_inodes-ended (held i.serial i.entries i.count i.passed i.ended) c.if-self.true)
    ∙ ap at_inodes c.self.view_is

pub returns-then-self-2 : goal.returns-then-self-2
returns-then-self-2 c =
    let i = c.self.inside in
    sym (at_inodes-past i.serial i.entries i.count i.passed i.ended c.self.invariant.0 c.self.invariant.1.0
    c.if-self-2.true)
    ∙ ap at_inodes c.self.view_is

pub returns : goal.returns
returns c =
    let i = c.self.inside in
    c.is_inodes.ensures
    ∙ sym (at_inodes-here i.serial i.entries i.count i.passed i.ended c.if-self.false c.self.invariant.0
    c.self.invariant.1.0 c.if-self-2.false)
    ∙ ap at_inodes c.self.view_is
