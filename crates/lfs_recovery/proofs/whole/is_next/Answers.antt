use Rattle.std.proofs.Common.{◌+◌, ◌&&◌, ℕ, Bool, length, sym, ap, ◌∙◌}
use Rattle.lfs_segments.specs.Reading.{named_by}
use Rattle.lfs_segments.specs.Serial.{told_by}
use Rattle.lfs_recovery.specs.Whole.{has_record}
use Rattle.lfs_recovery.proofs.WholeLemmas.{is_next-apart, is_next-here, is_next-offset, is_next-old, length-named}
use Rattle.lfs_recovery.proofs.whole.is_next.Goals as goal

pub returns-then-told-address : goal.returns-then-told-address
returns-then-told-address c =
    sym (is_next-apart c.args.memory.now c.args.address c.args.above (told_by c.args.told.now) c.if-told-address.true)

pub returns-then-told-address-2 : goal.returns-then-told-address-2
returns-then-told-address-2 c =
    sym (is_next-offset c.args.memory.now c.args.address c.args.above (told_by c.args.told.now)
    c.if-told-address.false c.if-told-address-2.true)

pub returns-then-told-above : goal.returns-then-told-above
returns-then-told-above c =
    sym (is_next-old c.args.memory.now c.args.address c.args.above (told_by c.args.told.now)
    c.if-told-address.false c.if-told-address-2.false c.if-told-above.true)

pub returns-then-not-ends_in_inodes : goal.returns-then-not-ends_in_inodes
returns-then-not-ends_in_inodes c =
    let told = c.args.told.now in
    ap (λ (b : Bool). b && has_record c.args.memory.now (c.args.address + length (named_by told.summary)))
    c.if-not-ends_in_inodes.ensures
    ∙ sym (is_next-here c.args.memory.now c.args.address c.args.above (told_by told) c.if-told-address.false
    c.if-told-address-2.false c.if-told-above.false)

pub returns : goal.returns
returns c =
    let told = c.args.told.now in
    c.has_record.ensures
    ∙ ap (λ (n : ℕ). has_record c.args.memory.now (c.args.address + n)) (sym (length-named told.summary))
    ∙ ap (λ (b : Bool). b && has_record c.args.memory.now (c.args.address + length (named_by told.summary)))
    c.if-not-ends_in_inodes.ensures
    ∙ sym (is_next-here c.args.memory.now c.args.address c.args.above (told_by told) c.if-told-address.false
    c.if-told-address-2.false c.if-told-above.false)
