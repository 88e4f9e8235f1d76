use Rattle.std.proofs.Common.{◌≡◌, ℕ, List, ◌∷◌, ◌∙◌, sym, ap, subst, lit<, neg_ℤ}
use Rattle.std.specs.Prelude.{MatchOption, ◌≢◌}
use Rattle.std.proofs.lemmas.Result.{err_from_is_err_and}
use Rattle.std.proofs.lemmas.Str.Pattern.{strip_prefix_char}
use Rattle.lfs_types.specs.Levels.{level_of}
use Rattle.lfs_words.specs.LevelText.{or_range}
use Rattle.lfs_words.proofs.LevelWords.{level_refused, minus_refused, level_read, level_minus, level_plain, negated}
use Rattle.lfs_words.proofs.LevelWords.{kept, ok_or_range}
use Rattle.lfs_words.proofs.number.level.Goals as goal
use Rattle.lfs_words.proofs.number.level.Goals.{in-Some+in_ok-level_number-in-Some, in-None+in_ok-number-in-None}

pub returns-in_err-number-in-None : goal.returns-in_err-number-in-None
returns-in_err-number-in-None c =
    let word = c.args.word.now in
    let cases = strip_prefix_char 45 word c.strip_prefix.result c.strip_prefix.ensures.cases (lit< tt) in
    let without = subst (λ r. MatchOption r ((rest : List ℕ) → word ≢ 45 ∷ rest) (λ x. word ≡ 45 ∷ x.now)) c.in-None.is
    cases in
    let exit = err_from_is_err_and c.from_residual-in_err-number-in-None.result
    c.from_residual-in_err-number-in-None.ensures.1 in
    let fault = level_refused word _ (sym c.level_number-in-None.ensures ∙ c.in_err-number-in-None.was) in
    rw (exit.1, exit.2) (sym (level_plain word without ∙ fault))

pub returns : goal.returns
returns c =
    let word = c.args.word.now in
    let cases = strip_prefix_char 45 word c.strip_prefix.result c.strip_prefix.ensures.cases (lit< tt) in
    let gives : c.ok_or.result ≡ or_range c.new.result = c.ok_or.ensures.value ∙ ok_or_range c.new.result in
    elim c.match-strip_prefix.branch [
      | in-Some+in_ok-level_number-in-Some w ↦
          let signed : word ≡ 45 ∷ w.in-Some.digits.now =
          subst (λ r. MatchOption r ((rest : List ℕ) → word ≢ 45 ∷ rest) (λ x. word ≡ 45 ∷ x.now)) w.in-Some.is
          cases in
          let read = level_read neg_ℤ w.in-Some.digits.now _ (sym w.level_number.ensures
          ∙ w.in_ok-level_number-in-Some.was) in
          let number = w.number-is ∙ negated _ _ read.1 read.0 in
          gives ∙ ap or_range (c.new.ensures ∙ ap level_of number)
          ∙ sym (level_minus word w.in-Some.digits.now signed ∙ read.2)
      | in-None+in_ok-number-in-None w ↦
          let without = subst (λ r. MatchOption r ((rest : List ℕ) → word ≢ 45 ∷ rest) (λ x. word ≡ 45 ∷ x.now))
          w.in-None.is cases in
          let read = level_read (λ n. n) word _ (sym w.level_number-in-None.ensures ∙ w.in_ok-number-in-None.was) in
          let number = w.number-is ∙ kept _ _ read.1 read.0 in
          gives ∙ ap or_range (c.new.ensures ∙ ap level_of number) ∙ sym (level_plain word without ∙ read.2)
    ]

pub returns-in_err-level_number-in-Some : goal.returns-in_err-level_number-in-Some
returns-in_err-level_number-in-Some c =
    let word = c.args.word.now in
    let cases = strip_prefix_char 45 word c.strip_prefix.result c.strip_prefix.ensures.cases (lit< tt) in
    let signed : word ≡ 45 ∷ c.in-Some.digits.now =
    subst (λ r. MatchOption r ((rest : List ℕ) → word ≢ 45 ∷ rest) (λ x. word ≡ 45 ∷ x.now)) c.in-Some.is cases in
    let exit = err_from_is_err_and c.from_residual.result c.from_residual.ensures.1 in
    let fault = minus_refused c.in-Some.digits.now _ (sym c.level_number.ensures ∙ c.in_err-level_number-in-Some.was) in
    rw (exit.1, exit.2) (sym (level_minus word c.in-Some.digits.now signed ∙ fault))
