use Rattle.clap.specs.declared.builder.action.ArgAction.TheVariants.{Set}
use Rattle.lfs_command.proofs.OptionLemmas.{valued}
use Rattle.lfs_command.proofs.texts.TextOption.arg.Goals as goal

pub returns-clause-rule : goal.returns-clause-rule
returns-clause-rule c =
    valued c.new.result c.long.result c.value_name.result c.action.result c.help.result c.args.self.name _ _ Set
    c.new.ensures.rule c.long.ensures c.value_name.ensures c.action.ensures c.help.ensures
