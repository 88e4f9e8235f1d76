use Rattle.lfs_words.proofs.FirstByte.{first_place}
use Rattle.lfs_words.proofs.line.line_feed_at.Goals as goal

pub returns : goal.returns
returns c = first_place 10 c.args.text.now c.memchr.result c.memchr.ensures
