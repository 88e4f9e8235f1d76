use Rattle.std.proofs.Common.{◌/◌, arith}
use Rattle.lfs_fsck.specs.Checks.{IsKey}
use Rattle.lfs_fsck.proofs.KeyLemmas.{count_none, count_one, counts_small, record_at, record_none, record_placed}
use Rattle.lfs_fsck.proofs.KeyLemmas.{slot_low}
use Rattle.lfs_fsck.proofs.counting.count_record.Goals as goal

pub returns-then-place-eq0-clause-ok : goal.returns-then-place-eq0-clause-ok
returns-then-place-eq0-clause-ok c =
    let l = c.args.log.now in
    let number = c.args.inode.now.number in
    count_none l number 0 c.args.counts.now.items c.requires.so_far
    (record_none l number c.args.place c.requires.here c.if-place-eq0.true)

pub check_place-requires-clause-key : goal.check_place-requires-clause-key
check_place-requires-clause-key c = record_placed c.args.log.now c.args.inode.now.number c.args.place
    c.requires.own.below c.requires.here c.if-place-eq0.false

pub check_place-requires-clause-here : goal.check_place-requires-clause-here
check_place-requires-clause-here c =
    let l = c.args.log.now in
    let number = c.args.inode.now.number in
    let at = record_at l number c.args.place c.requires.here c.if-place-eq0.false in
    let low = slot_low l number c.args.place c.requires.parts c.requires.own.below c.requires.here in
    omega (arith, at, low.0)

pub check_record_name-requires-clause-inside : goal.check_record_name-requires-clause-inside
check_record_name-requires-clause-inside c =
    (slot_low c.args.log.now c.args.inode.now.number c.args.place c.requires.parts c.requires.own.below
    c.requires.here).1

pub count-requires-clause-inside : goal.count-requires-clause-inside
count-requires-clause-inside c =
    let low = slot_low c.args.log.now c.args.inode.now.number c.args.place c.requires.parts c.requires.own.below
    c.requires.here in
    let long = c.requires.so_far.long in
    omega (arith, low.1)

pub count-requires-clause-fits : goal.count-requires-clause-fits
count-requires-clause-fits c =
    let below = c.requires.own.below in
    let most = c.requires.parts.formed.inodes_most in
    let small = counts_small c.args.log.now c.args.inode.now.number 0 c.args.counts.now.items
    (c.args.place.addr / 64) c.requires.so_far (omega arith) (omega arith) in
    omega arith

pub returns-clause-ok : goal.returns-clause-ok
returns-clause-ok c =
    let l = c.args.log.now in
    let number = c.args.inode.now.number in
    let some = c.if-place-eq0.false in
    let at = record_at l number c.args.place c.requires.here some in
    let low = slot_low l number c.args.place c.requires.parts c.requires.own.below c.requires.here in
    let laid = c.in_ok-check_place.ensures.ok in
    let key : IsKey l number 0 = record {
      place = record {
        in_volume = laid.in_volume;
        owned = c.in_ok-check_record_name.ensures.ok;
        not_clean = laid.not_clean;
        written = laid.written;
      };
      within = λ f is other. absurd (omega arith);
    } in
    count_one l number 0 c.args.counts.now.items c.count.new.counts.items (c.args.place.addr / 64) 128 c.requires.so_far
    (record_placed l number c.args.place c.requires.own.below c.requires.here some).somewhere key
    (omega (arith, at, low.0)) (omega arith) c.count.ensures
