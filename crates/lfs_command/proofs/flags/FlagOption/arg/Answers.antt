use Rattle.clap.specs.declared.builder.action.ArgAction.TheVariants.{SetTrue}
use Rattle.lfs_command.proofs.OptionLemmas.{flagged}
use Rattle.lfs_command.proofs.flags.FlagOption.arg.Goals as goal

pub returns-clause-rule : goal.returns-clause-rule
returns-clause-rule c =
    flagged c.new.result c.long.result c.action.result c.help.result c.args.self.name _ SetTrue c.new.ensures.rule
    c.long.ensures c.action.ensures c.help.ensures
