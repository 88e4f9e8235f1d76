use Rattle.lfs_words.proofs.Appended.{added, word_added}
use Rattle.lfs_words.proofs.append.push_word.Goals as goal

pub returns : goal.returns
returns c =
    added c.extend_from_slice.result c.extend_from_slice.new.self.items c.push.new.self.items c.as_bytes.result.now _ _
    c.extend_from_slice.ensures.items
    (word_added c.args.out.now.items c.push.new.self.items c.as_bytes.result.now c.args.word.now
    c.in_ok-push.ensures.items c.as_bytes.ensures.value)
