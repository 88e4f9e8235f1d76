use Rattle.std.proofs.Common.{◌≡◌, ◌^◌, ◌<◌, true, sym, ◌∙◌, ap, subst}
use Rattle.std.specs.Str.Parse.{IsNumeral, digits_value}
use Rattle.lfs_words.specs.FlagText.{is_flags}
use Rattle.lfs_words.proofs.FlagDigits.{flag_digits}
use Rattle.lfs_words.proofs.Parts.{flags_there}
use Rattle.lfs_words.proofs.hex.flags.Goals as goal

pub unreachable-requires : goal.unreachable-requires
unreachable-requires c =
    let word = c.args.word.now in
    let flags : is_flags word ≡ true = sym c.is_flags.ensures ∙ c.if-not-is_flags.false in
    let read = flag_digits word flags in
    c.in-Err.ensures.value (subst (λ ds. IsNumeral 16 ds × (digits_value 16 ds < 2 ^ 32)) (sym read.same) (
      read.numeral,
      read.short,
    ))

pub returns : goal.returns
returns c =
    let word = c.args.word.now in
    let flags : is_flags word ≡ true = sym c.is_flags.ensures ∙ c.if-not-is_flags.false in
    let value : c.in-Ok.bits ≡ digits_value 16 word = c.in-Ok.ensures.value.1
    ∙ ap (λ ds. digits_value 16 ds) (flag_digits word flags).same in
    c.ok_or.ensures.value ∙ flags_there word c.in-Ok.bits c.new.result flags value c.new.ensures
