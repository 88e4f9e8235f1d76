use Rattle.lfs_words.proofs.Appended.{added, mode_added}
use Rattle.lfs_words.proofs.append.push_mode.Goals as goal

pub returns-clause-spelled : goal.returns-clause-spelled
returns-clause-spelled c =
    added c.extend_from_slice.result c.extend_from_slice.new.self.items c.push.new.self.items _ _ _
    c.extend_from_slice.ensures.items
    (mode_added c.args.out.now.items c.push.new.self.items c.bits-bits.result c.args.mode c.digit.result
    c.digit-2.result c.digit-3.result c.digit-4.result
    c.in_ok-push.ensures.items c.bits-bits.ensures.value c.digit.ensures c.digit-2.ensures c.digit-3.ensures
    c.digit-4.ensures)
