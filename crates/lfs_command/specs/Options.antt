-- What the parser is told of an option.
use Rattle.std.specs.Prelude.{Some}
use Rattle.clap.specs.Simple.{new_rule}
use Rattle.clap.specs.Walk.{Rule}
use Rattle.clap.specs.declared.builder.action.ArgAction.TheVariants.{Set, SetTrue}
use Rattle.clap.specs.declared.builder.value_parser.ValueParser.TheVariants.{Unsigned}
use Rattle.lfs_command.specs.declared.flags.FlagOption.{FlagOption}
use Rattle.lfs_command.specs.declared.numbers.NumberOption.{NumberOption}
use Rattle.lfs_command.specs.declared.operands.Operand.{Operand}
use Rattle.lfs_command.specs.declared.texts.TextOption.{TextOption}

-- What a parse reads of an option that takes a number: a word of its name behind two hyphens, with
-- a value beside it, a number from the least to the greatest, which is read back by that name. It
-- may be left out, has no value then, and rules out no other.
abbrev pub number_rule : NumberOption → Rule
number_rule option = record (new_rule option.name.now) {
  long = Some option.name.now;
  value_names = 1;
  parser = Some (Unsigned option.least option.most);
}

-- What a parse reads of an option that takes no value: a word of its name behind two hyphens, by
-- which the name is set. It may be left out, and rules out no other.
abbrev pub flag_rule : FlagOption → Rule
flag_rule option = record (new_rule option.name.now) {
  long = Some option.name.now;
  action = Some SetTrue;
}

-- What a parse reads of an option that takes a text: a word of its name behind two hyphens, with a
-- value beside it, any text, which is read back by that name. It may be left out, has no value
-- then, and rules out no other.
abbrev pub text_rule : TextOption → Rule
text_rule option = record (new_rule option.name.now) {
  long = Some option.name.now;
  value_names = 1;
  action = Some Set;
}

-- What a parse reads of a word that stands without the name of an option: any text, which is read
-- back by its name. It may be left out, has no value then, and rules out no other.
abbrev pub operand_rule : Operand → Rule
operand_rule operand = record (new_rule operand.name.now) {
  value_names = 1;
  action = Some Set;
}
