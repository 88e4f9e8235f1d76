use Rattle.std.proofs.Common.{rules, ap, ◌++◌, ◌∙◌}
use Rattle.std.proofs.lemmas.Fmt.{decimal_digit}
use Rattle.lfs_words.proofs.Appended.{added}
use Rattle.lfs_words.proofs.append.push_decimal.Goals as goal

pub returns-then-number-lt10 : goal.returns-then-number-lt10
returns-then-number-lt10 c = search (rules, decimal_digit c.args.number c.if-number-lt10.true)

pub returns : goal.returns
returns c =
    added c.extend_from_slice.result c.extend_from_slice.new.self.items c.args.out.now.items c.as_bytes.result.now _ _
    c.extend_from_slice.ensures.items
    (ap (λ text. c.args.out.now.items ++ text) (c.as_bytes.ensures.value ∙ c.format.ensures.text))
