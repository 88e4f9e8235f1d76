use Rattle.lfs_programs.proofs.OptionLemmas.{whatever}
use Rattle.lfs_programs.proofs.options.options_of.Goals as goal

pub returns-then-params-lt-LEAST_WINDOW-clause-unread : goal.returns-then-params-lt-LEAST_WINDOW-clause-unread
returns-then-params-lt-LEAST_WINDOW-clause-unread g c = whatever c.args.words c.wrong_value.ensures
