use Rattle.std.proofs.Common.{◌≡◌, None, refl, sym, ◌∙◌}
use Rattle.lfs_dirs.specs.Directory.{number_in}
use Rattle.lfs_dirs.specs.Reading.{entries_of}
use Rattle.lfs_dirs.proofs.Laws.{entries_of-block, one_spelling}
use Rattle.lfs_dirs.proofs.Testing.{lists_behind, lists_before, lists_end, zeros_at_end, none_from_is_some}
use Rattle.lfs_dirs.proofs.reading.is_directory_block.Goals as goal

pub loop-name-preserved : goal.loop-name-preserved
loop-name-preserved c =
    let kept = c.loop-name.invariant in
    let named = c.if-not-is_name.ensures.0 refl in
    let absent : number_in c.in-Some.name.now (entries_of c.in-Some.others.now) ≡ None =
    sym c.number_among.ensures ∙ none_from_is_some c.number_among.result c.if-is_some.ensures in
    record {
      behind = λ h. (lists_behind _ _ _ c.in-Some.ensures (kept.behind h)).2;
      whole = λ lists. kept.whole (lists_before _ _ _ c.in-Some.ensures named absent lists);
    }

pub returns-then-not-is_name-clause-one_list : goal.returns-then-not-is_name-clause-one_list
returns-then-not-is_name-clause-one_list c = λ es h. entries_of-block _ _ h

pub returns-clause-test : goal.returns-clause-test
returns-clause-test c =
    let kept = c.loop-name.invariant in
    let none = c.in_default.ensures in (
      λ t. kept.whole (lists_end _ none (c.are_zeros.ensures.0 t)),
      λ h. c.are_zeros.ensures.1 (zeros_at_end _ none (kept.behind h)),
    )

pub returns-clause-one_list : goal.returns-clause-one_list
returns-clause-one_list c = λ es h. entries_of-block _ _ h

pub returns-clause-one_block : goal.returns-clause-one_block
returns-clause-one_block c = λ t other h. one_spelling _ _ _ h ((returns-clause-test c).0 t)
