use Rattle.std.proofs.Common.{sym, ap, ◌∙◌}
use Rattle.std.proofs.lemmas.Option.{none-some, same_Some}
use Rattle.lfs_bmap.specs.Blocks.{code_of, file_block_of}
use Rattle.lfs_bmap.specs.Moves.{present_address}
use Rattle.lfs_parts.specs.Keys.{log_state}
use Rattle.lfs_parts.proofs.parts.Parts.present_address.Goals as goal

pub returns-in-Some-clause-known : goal.returns-in-Some-clause-known
returns-in-Some-clause-known c = λ block is e.
    let info = c.args.info.now in
    c.address_at.ensures
    ∙ ap (λ b. present_address (log_state c.args.self.now) info.ino info.version (code_of b))
    (c.from_logical.ensures ∙ ap file_block_of
    (same_Some _ _ (sym c.in-Some.is ∙ c.from_number.ensures.only block is e)))

pub returns-in-Some-clause-unknown : goal.returns-in-Some-clause-unknown
returns-in-Some-clause-unknown c = λ none. absurd
    (none c.in-Some.block c.in-Some.ensures.found.0 c.in-Some.ensures.found.1)

pub returns-in-None-clause-known : goal.returns-in-None-clause-known
returns-in-None-clause-known c = λ block is e. absurd
    (none-some block (sym c.in-None.is ∙ c.from_number.ensures.only block is e))
