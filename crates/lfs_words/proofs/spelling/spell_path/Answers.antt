use Rattle.std.proofs.Common.{◌≡◌, ℕ, List, None, subst}
use Rattle.lfs_types.specs.Paths.{names_fault}
use Rattle.lfs_words.proofs.PathBack.{path_back}
use Rattle.lfs_words.proofs.spelling.spell_path.Goals as goal

pub returns-then-can_spell-clause-back : goal.returns-then-can_spell-clause-back
returns-then-can_spell-clause-back c =
    let P : List (List ℕ) → Type 0 = λ names. names_fault 1 names ≡ None in
    λ spells. path_back c.args.path.now (subst P c.names-names.ensures.value
    (c.can_spell.ensures.valid c.if-can_spell.true)) c.names-names.ensures.bounded spells
