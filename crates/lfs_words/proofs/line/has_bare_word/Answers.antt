use Rattle.std.proofs.Common.{◌∙◌, rules, tests}
use Rattle.std.proofs.lemmas.Iterator.{YieldsList-from_slice}
use Rattle.std.proofs.lemmas.Iterator.Search.{any_from_yields_List}
use Rattle.lfs_words.specs.Wording.{is_bare}
use Rattle.lfs_words.proofs.WordLists.{list_any-map}
use Rattle.lfs_words.proofs.line.has_bare_word.Goals as goal

pub returns : goal.returns
returns c =
    any_from_yields_List (λ word. is_bare word.now) _ _ c.any.result c.any.ensures.ran
    (YieldsList-from_slice c.args.words.now cc)
    (λ x b q k. search (rules, tests))
    ∙ list_any-map is_bare (λ word. word.now) c.args.words.now
