use Rattle.lfs_words.proofs.LineCuts.{skipped}
use Rattle.lfs_words.proofs.line.is_skipped.Goals as goal

pub returns-in-len1-up : goal.returns-in-len1-up
returns-in-len1-up c = skipped c.args.line.now c.as_bytes.result.now c.as_bytes.ensures.value c.in-len1-up.len_at_least
