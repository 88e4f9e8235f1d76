use Rattle.lfs_words.proofs.Parts.{info_there}
use Rattle.lfs_words.proofs.info.info_of_parts.Goals as goal

pub returns-in-len4 : goal.returns-in-len4
returns-in-len4 c = info_there (λ x. x.now) c.args.parts.now _ c.info_from.result c.in-len4.len_at_least
    c.in-len4.len_below c.info_from.ensures
