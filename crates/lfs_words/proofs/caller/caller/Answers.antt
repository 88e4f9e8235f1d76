use Rattle.std.proofs.Common.{sym, ◌∙◌}
use Rattle.lfs_words.proofs.Parts.{caller_there, marked_there, unmarked_there}
use Rattle.lfs_words.proofs.caller.caller.Goals as goal

pub returns-in-len2 : goal.returns-in-len2
returns-in-len2 c = caller_there (λ x. x.now) c.args.words.now _ c.caller_of.result c.in-len2.len_at_least
    c.in-len2.len_below c.caller_of.ensures

pub returns-then-eq : goal.returns-then-eq
returns-then-eq c =
    marked_there (λ x. x.now) c.args.words.now _ c.caller_of-then-eq.result c.in-len3.len_at_least c.in-len3.len_below
    (sym c.eq.ensures ∙ c.if-eq.true) c.caller_of-then-eq.ensures

pub returns-else-eq : goal.returns-else-eq
returns-else-eq c =
    unmarked_there (λ x. x.now) c.args.words.now _ c.in-len3.len_at_least c.in-len3.len_below (sym c.eq.ensures
    ∙ c.if-eq.false)
