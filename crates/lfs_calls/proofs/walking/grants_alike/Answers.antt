use Rattle.std.proofs.Common.{sym, ◌∙◌}
use Rattle.lfs_types.specs.declared.attrs.Bit.TheVariants.{Search}
use Rattle.lfs_rules.proofs.BitTests.{group_test, other_test}
use Rattle.lfs_calls.proofs.AlikeLemmas.{moded_alike, same_of}
use Rattle.lfs_calls.proofs.walking.grants_alike.Goals as goal

pub returns-clause-alike : goal.returns-clause-alike
returns-clause-alike c same =
    let mode = c.args.dir.now.mode in
    moded_alike c.args.dir.now c.args.uid (group_test mode Search ∙ sym c.contains.ensures
    ∙ same_of c.contains.result c.contains-2.result same ∙ c.contains-2.ensures ∙ sym (other_test mode Search))
