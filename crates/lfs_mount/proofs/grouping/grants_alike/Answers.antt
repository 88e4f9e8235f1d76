use Rattle.std.proofs.Common.{sym, subst, ◌∙◌}
use Rattle.lfs_types.specs.declared.attrs.Bit.TheVariants.{Read, Write, Search}
use Rattle.lfs_rules.proofs.BitTests.{group_test, other_test}
use Rattle.lfs_mount.specs.Groups.{GrantsAlike}
use Rattle.lfs_mount.proofs.AlikeLemmas.{moded, same_of}
use Rattle.lfs_mount.proofs.grouping.grants_alike.Goals as goal

pub returns-in-Read : goal.returns-in-Read
returns-in-Read c same =
    let attrs = c.args.attrs.now in
    subst (GrantsAlike attrs c.args.uid) (sym c.in-Read.is) (moded attrs c.args.uid Read (group_test attrs.mode Read
    ∙ sym c.contains.ensures ∙ same_of c.contains.result c.contains-in-Read.result same ∙ c.contains-in-Read.ensures
    ∙ sym (other_test attrs.mode Read)))

pub returns-in-Write : goal.returns-in-Write
returns-in-Write c same =
    let attrs = c.args.attrs.now in
    subst (GrantsAlike attrs c.args.uid) (sym c.in-Write.is) (moded attrs c.args.uid Write (group_test attrs.mode Write
    ∙ sym c.contains-in-Write.ensures ∙ same_of c.contains-in-Write.result c.contains-in-Write-2.result same
    ∙ c.contains-in-Write-2.ensures ∙ sym (other_test attrs.mode Write)))

pub returns-in-Search : goal.returns-in-Search
returns-in-Search c same =
    let attrs = c.args.attrs.now in
    subst (GrantsAlike attrs c.args.uid) (sym c.in-Search.is) (moded attrs c.args.uid Search
    (group_test attrs.mode Search ∙ sym c.contains-in-Search.ensures
    ∙ same_of c.contains-in-Search.result c.contains-in-Search-2.result same ∙ c.contains-in-Search-2.ensures
    ∙ sym (other_test attrs.mode Search)))
