use Rattle.std.proofs.Common.{◌≡◌, ◌∙◌, ap}
use Rattle.clap.specs.declared.builder.value_parser.ValueParser.TheVariants.{Unsigned}
use Rattle.lfs_command.proofs.OptionLemmas.{ruled}
use Rattle.lfs_command.proofs.numbers.NumberOption.arg.Goals as goal

pub returns-clause-rule : goal.returns-clause-rule
returns-clause-rule c =
    let low : c.from.result ≡ c.args.self.least = cc (c.from.ensures) in
    let high : c.from-2.result ≡ c.args.self.most = cc (c.from-2.ensures) in
    ruled c.new.result c.long.result c.value_name.result c.value_parser.result c.help.result c.args.self.name _ _ _ _
    c.new.ensures.rule c.long.ensures c.value_name.ensures c.value_parser.ensures.others c.value_parser.ensures.given.1
    (c.value_parser.ensures.given.2 ∙ ap (λ n. Unsigned n c.from-2.result) low
    ∙ ap (λ n. Unsigned c.args.self.least n) high) c.help.ensures
