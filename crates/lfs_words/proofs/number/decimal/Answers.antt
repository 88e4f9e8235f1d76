use Rattle.lfs_words.proofs.number.decimal.Goals as goal

pub returns : goal.returns
returns c = c.number.ensures
