use Rattle.lfs_words.proofs.Parts.{three_there}
use Rattle.lfs_words.proofs.words.three_words.Goals as goal

pub returns-in-len3 : goal.returns-in-len3
returns-in-len3 c = three_there (λ x. x.now) c.args.words.now _ c.in-len3.len_at_least c.in-len3.len_below
