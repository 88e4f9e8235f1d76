use Rattle.clap.specs.declared.builder.action.ArgAction.TheVariants.{Set}
use Rattle.lfs_command.proofs.OptionLemmas.{placed}
use Rattle.lfs_command.proofs.operands.Operand.arg.Goals as goal

pub returns-clause-rule : goal.returns-clause-rule
returns-clause-rule c =
    placed c.new.result c.value_name.result c.action.result c.help.result c.args.self.name _ _ Set c.new.ensures.rule
    c.value_name.ensures c.action.ensures c.help.ensures
