use Rattle.std.proofs.Common.{◌≡◌, ◌++◌, ◌∷◌, [], true, length, map, take, subst, ap, sym, ◌∙◌, lit<, arith}
use Rattle.std.specs.List.{list_all}
use Rattle.std.proofs.lemmas.List.{length_push, take_all}
use Rattle.std.proofs.lemmas.Result.{err_from_is_err_and}
use Rattle.std.proofs.lemmas.Iterator.Consumers.{YieldsList-turn, YieldsList-end}
use Rattle.std.proofs.lemmas.Iterator.Splits.{YieldsList-from_str_split}
use Rattle.lfs_words.specs.Callers.{groups_of, is_decimal, is_short, decimal_value}
use Rattle.lfs_words.proofs.WordLists.{passing_more}
use Rattle.lfs_words.proofs.GroupLists.{short_read, long_refused, decimals_pass, group_more}
use Rattle.lfs_words.proofs.caller.Groups.of.Goals as goal

pub returns-in_err-short_decimal : goal.returns-in_err-short_decimal
returns-in_err-short_decimal c =
    let turn = YieldsList-turn (YieldsList-from_str_split 44 c.args.word.now (lit< tt) (cc) (cc) (cc))
    c.loop-group.yielded _ c.loop-group.yielded_by _ _ c.in-Some.group c.in-Some.is c.next.ensures.steps in
    let decimals : list_all is_decimal (groups_of c.args.word.now) ≡ true = sym c.are_decimals.ensures
    ∙ c.if-not-are_decimals.false in
    let exit = err_from_is_err_and c.from_residual.result c.from_residual.ensures.1 in
    rw (exit.1, exit.2) (long_refused (groups_of c.args.word.now)
    (length c.loop-group.yielded) c.in-Some.group.now _ decimals turn.0 turn.1 (sym c.short_decimal.ensures
    ∙ c.in_err-short_decimal.was))

pub loop-group-preserved : goal.loop-group-preserved
loop-group-preserved c =
    let turn = YieldsList-turn (YieldsList-from_str_split 44 c.args.word.now (lit< tt) (cc) (cc) (cc))
    c.loop-group.yielded _ c.loop-group.yielded_by _ _ c.in-Some.group c.in-Some.is c.next.ensures.steps in
    let all = groups_of c.args.word.now in
    let word = c.in-Some.group.now in
    let count = length c.loop-group.yielded in
    let value = c.in_ok-short_decimal.field-0 in
    let read = short_read word value (sym c.short_decimal.ensures ∙ c.in_ok-short_decimal.was) in
    let short = passing_more is_short all count word turn.0 c.loop-group.invariant.short
    (subst (λ w. is_short w ≡ true) turn.1 read.1) in
    record {
      kept = c.push.ensures ∙ ap (λ xs. take 17 (xs ++ value ∷ [])) c.loop-group.invariant.kept
          ∙ group_more all count value word turn.0 read.2 turn.1
          ∙ ap (λ k. take 17 (map decimal_value (take k all))) (sym (length_push c.loop-group.yielded c.in-Some.group));
      short = rw (length_push c.loop-group.yielded c.in-Some.group) short;
    }

pub returns : goal.returns
returns c =
    let end = YieldsList-end (YieldsList-from_str_split 44 c.args.word.now (lit< tt) (cc) (cc) (cc))
    c.loop-group.yielded _ c.loop-group.yielded_by _ _ c.in-None.is c.next.ensures.steps in
    let all = groups_of c.args.word.now in
    let decimals : list_all is_decimal all ≡ true = sym c.are_decimals.ensures ∙ c.if-not-are_decimals.false in
    let whole : take (length c.loop-group.yielded) all
    ≡ all = take_all (length c.loop-group.yielded) all (omega arith) in
    (decimals_pass all decimals (rw whole at c.loop-group.invariant.short), rw whole at c.loop-group.invariant.kept)
