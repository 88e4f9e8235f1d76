use Rattle.std.proofs.Common.{◌≡◌, length, ap, ◌∙◌, subst, arith}
use Rattle.lfs_cache.specs.Contents.{Contents}
use Rattle.lfs_bmap.specs.Reading.{address}
use Rattle.lfs_inodes.specs.Reading.{fields_of}
use Rattle.lfs_staging.specs.Putting.{TakesPut}
use Rattle.lfs_parts.specs.View.{version_of}
use Rattle.lfs_parts.specs.Waiting.{without}
use Rattle.lfs_staging.proofs.GrowthLemmas.{may_from, one_record, put_shown}
use Rattle.lfs_parts.proofs.SameLogLemmas.{version-same}
use Rattle.lfs_parts.proofs.WaitingLemmas.{others_kept}
use Rattle.lfs_staging.proofs.changing.put.Goals as goal

pub grow-inode-requires-clause-may : goal.grow-inode-requires-clause-may
grow-inode-requires-clause-may c =
    may_from c.args.parts.now c.record_in_use-inode.result c.args.ino c.requires.may c.record_in_use-inode.ensures.here

pub grow-inode-requires-clause-sized : goal.grow-inode-requires-clause-sized
grow-inode-requires-clause-sized c =
    c.requires.fits.sized (fields_of c.record_in_use-inode.result) c.record_in_use-inode.ensures.here

pub returns-clause-content : goal.returns-clause-content
returns-clause-content c =
    let p = c.args.parts.now in
    put_shown p c.grow-inode.new.parts c.put_blocks.new.parts c.record_in_use-inode.result c.grow-inode.result c.args.ino
    c.args.off c.args.bytes.now c.requires.may c.requires.fits.some
    c.record_in_use-inode.ensures.here c.grow-inode.ensures c.put_blocks.ensures

pub returns-clause-kept : goal.returns-clause-kept
returns-clause-kept c = λ spare staged. c.put_blocks.ensures.kept spare (c.grow-inode.ensures.kept spare staged)

pub returns-clause-addresses : goal.returns-clause-addresses
returns-clause-addresses c = λ n way known. c.put_blocks.ensures.addresses n way known
    ∙ ap (λ t. address t way) (c.grow-inode.ensures.blocks n)

pub returns-clause-frames : goal.returns-clause-frames
returns-clause-frames c =
    let same : length c.grow-inode.new.parts.cache.locked
    ≡ length c.args.parts.now.cache.locked = ap (λ (s : Contents). length s.locked) c.grow-inode.ensures.cache in
    omega (arith, c.put_blocks.ensures.frames)

pub returns-clause-waiting : goal.returns-clause-waiting
returns-clause-waiting c =
    let v = c.record_in_use-inode.result in
    one_record c.args.parts.now c.put_blocks.new.parts v.number
    (subst (λ n. without n c.put_blocks.new.parts.waiting
    ≡ without n c.grow-inode.new.parts.waiting) c.grow-inode.ensures.number c.put_blocks.ensures.waiting
    ∙ c.grow-inode.ensures.room)

pub put_blocks-requires-clause-room : goal.put_blocks-requires-clause-room
put_blocks-requires-clause-room c =
    let same : length c.grow-inode.new.parts.cache.locked
    ≡ length c.args.parts.now.cache.locked = ap (λ (s : Contents). length s.locked) c.grow-inode.ensures.cache in
    omega (arith, c.requires.room)

pub returns-clause-only : goal.returns-clause-only
returns-clause-only c =
    let p = c.args.parts.now in
    let between = c.grow-inode.new.parts in
    let new = c.put_blocks.new.parts in
    let v = c.record_in_use-inode.result in
    let w = c.grow-inode.result in
    let count = length c.args.bytes.now in
    let number = c.grow-inode.ensures.number
    ∙ (c.requires.may.files.files c.args.ino (fields_of v) c.record_in_use-inode.ensures.here).own_number in
    subst (λ s. TakesPut c.args.ino (version_of p c.args.ino) c.args.off count s new.cache) c.grow-inode.ensures.cache
    (subst (λ version. TakesPut c.args.ino version c.args.off count between.cache new.cache)
    (version-same p between c.args.ino c.grow-inode.ensures.log)
    (subst (λ n. TakesPut n (version_of between n) c.args.off count between.cache new.cache) number
    c.put_blocks.ensures.only))

pub returns-clause-others : goal.returns-clause-others
returns-clause-others c =
    let p = c.args.parts.now in
    let new = c.put_blocks.new.parts in
    let v = c.record_in_use-inode.result in
    let own = (c.requires.may.files.files c.args.ino (fields_of v) c.record_in_use-inode.ensures.here).own_number in
    others_kept c.args.ino p.waiting new.waiting
    (subst (λ n. without n new.waiting ≡ without n p.waiting) own
    (subst (λ n. without n new.waiting
    ≡ without n c.grow-inode.new.parts.waiting) c.grow-inode.ensures.number c.put_blocks.ensures.waiting
    ∙ c.grow-inode.ensures.room))
