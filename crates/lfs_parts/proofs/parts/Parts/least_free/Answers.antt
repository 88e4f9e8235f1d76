use Rattle.lfs_parts.proofs.FileLemmas.{least_shown}
use Rattle.lfs_parts.proofs.parts.Parts.least_free.Goals as goal

pub returns : goal.returns
returns c = least_shown c.args.self.now c.least_free.result c.requires.whole c.least_free.ensures.some
    c.least_free.ensures.none
