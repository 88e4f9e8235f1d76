use Rattle.std.proofs.Common.{sym, ◌∙◌}
use Rattle.lfs_script.proofs.RequestLemmas.{at_missed, at_there, end_missed, end_there}
use Rattle.lfs_script.proofs.requests.write_words.Goals as goal

pub returns-then-eq : goal.returns-then-eq
returns-then-eq c = end_there (λ x. x.now) c.args.words.now _ c.in-len3.len_at_least c.in-len3.len_below
    (sym c.eq.ensures ∙ c.if-eq.true)

pub returns-else-eq : goal.returns-else-eq
returns-else-eq c = end_missed (λ x. x.now) c.args.words.now _ c.in-len3.len_at_least c.in-len3.len_below
    (sym c.eq.ensures ∙ c.if-eq.false)

pub returns-then-eq-2 : goal.returns-then-eq-2
returns-then-eq-2 c = at_there (λ x. x.now) c.args.words.now _ c.in-len4.len_at_least c.in-len4.len_below
    (sym c.eq-in-len4.ensures ∙ c.if-eq-2.true)

pub returns-else-eq-2 : goal.returns-else-eq-2
returns-else-eq-2 c = at_missed (λ x. x.now) c.args.words.now _ c.in-len4.len_at_least c.in-len4.len_below
    (sym c.eq-in-len4.ensures ∙ c.if-eq-2.false)
