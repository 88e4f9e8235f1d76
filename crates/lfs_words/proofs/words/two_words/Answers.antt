use Rattle.lfs_words.proofs.Parts.{two_there}
use Rattle.lfs_words.proofs.words.two_words.Goals as goal

pub returns-in-len2 : goal.returns-in-len2
returns-in-len2 c = two_there (λ x. x.now) c.args.words.now _ c.in-len2.len_at_least c.in-len2.len_below
