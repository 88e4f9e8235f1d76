use Rattle.std.specs.Prelude.{option_copied}
use Rattle.std.proofs.Common.{Some, ap, sym, ◌∙◌}
use Rattle.lfs_segments.specs.Memory.{block_at}
use Rattle.lfs_parts.proofs.FilledLemmas.{held_filled, held_used, taken_filled, taken_used}
use Rattle.lfs_parts.proofs.parts.Parts.read_logged.Goals as goal

pub returns-in-Some-clause-held : goal.returns-in-Some-clause-held
returns-in-Some-clause-held c =
    let p = c.args.self.now in
    held_used p c.args.key (block_at p.log.memory c.args.address) c.get.follows.lender-at-none
    c.get.follows.holds-at-none
    c.requires.free c.get.ensures.kept c.get.ensures.formed

pub returns-in-None-clause-held : goal.returns-in-None-clause-held
returns-in-None-clause-held c =
    let p = c.args.self.now in
    held_filled p c.args.key (block_at p.log.memory c.args.address) c.get.follows.lender-at-none c.fill.new.self
    c.get.follows.holds-at-none
    c.requires.free c.get.ensures.kept c.get.ensures.formed
    c.fill.ensures.none_unlocked c.fill.ensures.others c.fill.ensures.formed (c.fill.ensures.there
    ∙ ap Some c.block-logged.ensures.block)

pub returns-in-Some-clause-taken : goal.returns-in-Some-clause-taken
returns-in-Some-clause-taken c =
    let p = c.args.self.now in
    taken_used p c.args.key (block_at p.log.memory c.args.address) c.in-Some.held.now c.get.follows.lender-at-none
    c.get.follows.holds-at-none c.requires.free c.get.ensures.kept c.requires.mirrors
    (sym c.get.ensures.value ∙ ap option_copied c.in-Some.is)

pub returns-in-None-clause-taken : goal.returns-in-None-clause-taken
returns-in-None-clause-taken c =
    let p = c.args.self.now in
    taken_filled p c.args.key (block_at p.log.memory c.args.address) c.get.follows.lender-at-none c.fill.new.self
    c.get.follows.holds-at-none c.requires.free c.fill.ensures.none_unlocked
    (c.fill.ensures.there ∙ ap Some c.block-logged.ensures.block)
