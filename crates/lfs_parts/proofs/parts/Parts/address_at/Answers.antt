use Rattle.std.proofs.Common.{ap, sym, ◌∙◌, arith}
use Rattle.lfs_bmap.specs.Blocks.{code_of}
use Rattle.lfs_bmap.specs.Moves.{present_address}
use Rattle.lfs_parts.specs.Keys.{log_state}
use Rattle.lfs_parts.proofs.KeyLemmas.{present-past, present-record, present-block, present-stale, present-unused}
use Rattle.lfs_parts.proofs.KeyLemmas.{code-other}
use Rattle.lfs_parts.proofs.parts.Parts.address_at.Goals as goal

pub returns-then-ino-inodes : goal.returns-then-ino-inodes
returns-then-ino-inodes c = sym (present-past (log_state c.args.self.now) c.args.ino c.args.version
    (code_of c.args.block) (omega arith))

pub returns-in-Record : goal.returns-in-Record
returns-in-Record c =
    let place = sym c.place.ensures.place ∙ c.in-Some.is in
    sym (ap (λ b. present_address (log_state c.args.self.now) c.args.ino c.args.version (code_of b)) c.in-Record.is
    ∙ present-record c.args.self.now c.args.ino c.args.version c.in-Some.place place c.if-place-version.true
    (omega arith) c.in-Some.ensures.bounds.slot)

pub returns-in-Single : goal.returns-in-Single
returns-in-Single c =
    let place = sym c.place.ensures.place ∙ c.in-Some.is in
    c.address_in.ensures
    ∙ sym (present-block c.args.self.now c.args.ino c.args.version c.in-Some.place c.args.block place
    c.if-place-version.true (omega arith) (code-other c.args.block c.in-Single.is) c.requires.block)

pub returns-in_default : goal.returns-in_default
returns-in_default c =
    let place = sym c.place.ensures.place ∙ c.in-Some.is in
    sym (present-stale c.args.self.now c.args.ino c.args.version
    (code_of c.args.block) c.in-Some.place place c.if-place-version.false)

pub returns-in_default-2 : goal.returns-in_default-2
returns-in_default-2 c =
    let unused = sym c.place.ensures.place ∙ c.in_default.is in
    sym (present-unused c.args.self.now c.args.ino c.args.version (code_of c.args.block) unused
    (omega arith) c.requires.store.whole)
