use Rattle.std.proofs.Common.{◌≡◌, ◌<◌, true, sym, arith}
use Rattle.std.specs.Str.Parse.{digits_value}
use Rattle.lfs_words.specs.Numbers.{is_numeral}
use Rattle.lfs_words.proofs.Numerals.{reads_err, numeral_parts, number_past}
use Rattle.lfs_words.proofs.number.number.Goals as goal

pub returns-in-Err : goal.returns-in-Err
returns-in-Err c =
    let numeral : is_numeral c.args.radix c.args.most c.args.word.now ≡ true = cc in
    let parts = numeral_parts c.args.radix c.args.most c.args.word.now numeral in
    let large = reads_err _ c.args.radix c.args.word.now c.in-Err.field-0 c.requires.high parts.0 parts.1
    c.in-Err.ensures.value in
    let past : c.args.limit < digits_value c.args.radix c.args.word.now = omega (arith, large) in
    sym (number_past c.args.radix c.args.most c.args.limit c.args.word.now numeral past)
