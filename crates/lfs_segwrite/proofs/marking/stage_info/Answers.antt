use Rattle.std.proofs.Common.{sym, ◌∙◌, subst}
use Rattle.std.proofs.lemmas.Option.{none-some}
use Rattle.lfs_inodes.specs.Reading.{fields_of}
use Rattle.lfs_bmap.specs.Blocks.{code_of}
use Rattle.lfs_parts.specs.Keys.{log_state}
use Rattle.lfs_segwrite.specs.Marking.{StagesAgain, code_named}
use Rattle.lfs_segwrite.proofs.AgainLemmas.{place_address, place_may, place_used, place_within}
use Rattle.lfs_segwrite.proofs.NamedLemmas.{named_block, named_place, named_there}
use Rattle.lfs_segwrite.proofs.marking.stage_info.Goals as goal

pub record_in_use-inode-requires-clause-in_use : goal.record_in_use-inode-requires-clause-in_use
record_in_use-inode-requires-clause-in_use c =
    let info = c.args.info.now in
    place_used c.args.parts.now info.ino (code_named info.lbn) c.requires.staged
    (named_there (log_state c.args.parts.now) info c.requires.named).0

pub stage_again-requires-clause-may : goal.stage_again-requires-clause-may
stage_again-requires-clause-may c =
    let p = c.args.parts.now in
    let info = c.args.info.now in
    let there = (named_there (log_state p) info c.requires.named).0 in
    place_may p info.ino (code_named info.lbn) c.requires.staged there c.record_in_use-inode.result
    c.record_in_use-inode.ensures.here c.requires.records

pub stage_again-requires-clause-within : goal.stage_again-requires-clause-within
stage_again-requires-clause-within c = λ other.
    let p = c.args.parts.now in
    let info = c.args.info.now in
    let there = (named_there (log_state p) info c.requires.named).0 in
    let found = c.in-Some.ensures.found in
    place_within p info.ino (code_named info.lbn) c.requires.staged there c.record_in_use-inode.result
    c.record_in_use-inode.ensures.here c.in-Some.block found.0 (found.1 ∙ c.code_named.ensures) other

pub stage_again-requires-clause-here : goal.stage_again-requires-clause-here
stage_again-requires-clause-here c = λ other.
    let p = c.args.parts.now in
    let info = c.args.info.now in
    let code = code_named info.lbn in
    let there = (named_there (log_state p) info c.requires.named).0 in
    let found = c.in-Some.ensures.found in
    let is = found.1 ∙ c.code_named.ensures in
    place_address p info.ino code c.requires.staged there c.record_in_use-inode.result
    c.record_in_use-inode.ensures.here c.in-Some.block found.0 is (λ none. other (is ∙ none)) info.addr
    (named_place (log_state p) info c.requires.named)

pub unreachable-requires : goal.unreachable-requires
unreachable-requires c =
    let info = c.args.info.now in
    let block = named_block info.lbn (named_there (log_state c.args.parts.now) info c.requires.named).0.code_below in
    none-some block.0 (sym c.in-None.is ∙ c.from_code.ensures.only block.0 block.1 (block.2 ∙ sym c.code_named.ensures))

pub returns-clause-again : goal.returns-clause-again
returns-clause-again c =
    let p = c.args.parts.now in
    let info = c.args.info.now in
    let v = c.record_in_use-inode.result in
    let found = c.in-Some.ensures.found in
    let is = c.record_in_use-inode.ensures.here in
    let own = (c.requires.staged.whole.files info.ino (fields_of v) is).own_number in
    subst (λ code. StagesAgain info.ino code p c.stage_again.new.parts) (found.1 ∙ c.code_named.ensures)
    (subst (λ n. StagesAgain n (code_of c.in-Some.block) p c.stage_again.new.parts) own c.stage_again.ensures.again)
