use Rattle.std.proofs.Common.{sym, ap, ◌∙◌}
use Rattle.std.proofs.lemmas.Option.{none-some}
use Rattle.lfs_bmap.specs.Blocks.{code_of}
use Rattle.lfs_segwrite.specs.Marking.{code_named}
use Rattle.lfs_segwrite.proofs.NamedLemmas.{code_named-block, code_named-none}
use Rattle.lfs_segwrite.proofs.counting.code_named.Goals as goal

pub returns-in-Some : goal.returns-in-Some
returns-in-Some c =
    let found = c.in-Some.ensures.found in
    c.code.ensures ∙ ap code_of c.from_logical.ensures ∙ sym (code_named-block c.in-Some.block found.0)
    ∙ ap code_named found.1

pub returns-in-None : goal.returns-in-None
returns-in-None c =
    sym (code_named-none c.args.lbn (λ block is e. none-some block (sym c.in-None.is
    ∙ c.from_number.ensures.only block is e)))
