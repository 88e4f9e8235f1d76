use Rattle.lfs_words.proofs.Parts.{path_there}
use Rattle.lfs_words.proofs.path.path_of.Goals as goal

pub returns-in-Ok : goal.returns-in-Ok
returns-in-Ok c = path_there c.args.word.now c.in-Ok.path c.in-Ok.ensures.parses.0 c.in-Ok.ensures.parses.1
