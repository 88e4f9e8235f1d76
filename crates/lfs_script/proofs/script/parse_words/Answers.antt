use Rattle.std.proofs.Common.{sym, ◌∙◌}
use Rattle.lfs_script.proofs.PlanLemmas.{no_words, verb_first, verb_missed}
use Rattle.lfs_script.proofs.script.parse_words.Goals as goal

pub returns-in_default : goal.returns-in_default
returns-in_default c = λ other. no_words (λ x. x.now) c.args.words.now c.in_default.len_below

pub returns-in-Some : goal.returns-in-Some
returns-in-Some c =
    verb_first (λ x. x.now) c.args.words.now _ c.in-Some.verb c.parse_verb.result c.in-len1-up.len_at_least
    (sym c.of.ensures ∙ c.in-Some.is) c.parse_verb.ensures

pub returns-in-None : goal.returns-in-None
returns-in-None c = λ other. verb_missed (λ x. x.now) c.args.words.now _ c.in-len1-up.len_at_least (sym c.of.ensures
    ∙ c.in-None.is)
