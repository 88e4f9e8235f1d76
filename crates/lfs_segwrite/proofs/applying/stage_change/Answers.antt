use Rattle.std.proofs.Common.{◌≡◌, List, length, sym, ap, subst, inl, inr, arith}
use Rattle.std.specs.List.{Contains}
use Rattle.lfs_cache.specs.Contents.{Contents, IsLocked}
use Rattle.lfs_cache.specs.declared.key.Key.{Key}
use Rattle.lfs_types.specs.declared.store.Change.{Change}
use Rattle.lfs_types.proofs.Somewhere.{some_from}
use Rattle.lfs_bmap.specs.Reading.{address}
use Rattle.lfs_staging.specs.Changing.{length_codes}
use Rattle.lfs_segwrite.specs.Applying.{StagesChange}
use Rattle.lfs_segwrite.proofs.AskedLemmas.{kind_same, length_sized, may_change, none_free, shown_used}
use Rattle.lfs_ifile.specs.declared.inode.InodeRow.{InodeRow}
use Rattle.lfs_ifile.specs.Tables.{row_at}
use Rattle.lfs_parts.proofs.SameLogLemmas.{version-same}
use Rattle.lfs_staging.proofs.StagedLemmas.{stays_same}
use Rattle.lfs_parts.proofs.SameLogLemmas.{used_low}
use Rattle.lfs_segwrite.proofs.applying.stage_change.Goals as goal

pub make-requires-clause-free : goal.make-requires-clause-free
make-requires-clause-free c =
    let can = rw c.in-Make.is at c.requires.can in
    none_free c.args.parts.now c.in-Make.ino c.requires.staged.whole can.2

pub remove-requires-clause-in_range : goal.remove-requires-clause-in_range
remove-requires-clause-in_range c =
    let can = rw c.in-Remove.is at c.requires.can in
    let p = c.args.parts.now in
    used_low p c.in-Remove.ino (shown_used p c.in-Remove.ino can)

pub remove-requires-clause-in_use : goal.remove-requires-clause-in_use
remove-requires-clause-in_use c =
    let can = rw c.in-Remove.is at c.requires.can in shown_used c.args.parts.now c.in-Remove.ino can

pub set_attrs-requires-clause-may : goal.set_attrs-requires-clause-may
set_attrs-requires-clause-may c =
    let can = rw c.in-SetAttrs.is at c.requires.can in
    let p = c.args.parts.now in
    may_change p c.in-SetAttrs.ino c.requires.staged (shown_used p c.in-SetAttrs.ino (some_from _ _ can))
    (omega (arith, c.requires.records))

pub set_attrs-requires-clause-kind : goal.set_attrs-requires-clause-kind
set_attrs-requires-clause-kind c =
    let can = rw c.in-SetAttrs.is at c.requires.can in
    kind_same c.args.parts.now c.in-SetAttrs.ino c.in-SetAttrs.attrs.kind can

pub set_length-requires-clause-in_range : goal.set_length-requires-clause-in_range
set_length-requires-clause-in_range c =
    let can = rw c.in-SetLength.is at c.requires.can in
    let p = c.args.parts.now in
    used_low p c.in-SetLength.ino (shown_used p c.in-SetLength.ino (some_from _ _ can))

pub set_length-requires-clause-in_use : goal.set_length-requires-clause-in_use
set_length-requires-clause-in_use c =
    let can = rw c.in-SetLength.is at c.requires.can in
    shown_used c.args.parts.now c.in-SetLength.ino (some_from _ _ can)

pub set_length-requires-clause-sized : goal.set_length-requires-clause-sized
set_length-requires-clause-sized c =
    let can = rw c.in-SetLength.is at c.requires.can in
    length_sized c.args.parts.now c.in-SetLength.ino c.in-SetLength.len can

pub returns-in-Make : goal.returns-in-Make
returns-in-Make c =
    let old = c.args.parts.now in
    let new = c.make.new.parts in
    let frames : length new.cache.locked ≡ length old.cache.locked =
    ap (λ (s : Contents). length s.locked) c.make.ensures.cache in
    subst (λ (change : Change). StagesChange change old new) (sym c.in-Make.is) (record {
      staged = c.make.ensures.staged;
      content_is = c.make.ensures.content;
      versions_are = c.make.ensures.versions;
      log = c.make.ensures.log;
      frames_more = omega arith;
      records_more = omega (arith, c.make.ensures.waiting);
      frames_only = λ key locked. inr (subst (IsLocked key) c.make.ensures.cache locked);
      records_only = c.make.ensures.others;
    })

pub returns-in-Remove : goal.returns-in-Remove
returns-in-Remove c =
    let old = c.args.parts.now in
    let new = c.remove.new.parts in
    subst (λ (change : Change). StagesChange change old new) (sym c.in-Remove.is) (record {
      staged = c.remove.ensures.staged;
      content_is = c.remove.ensures.content;
      versions_are = c.remove.ensures.versions;
      log = c.remove.ensures.log;
      frames_more = omega (arith, c.remove.ensures.frames);
      records_more = omega (arith, c.remove.ensures.waiting);
      frames_only = λ key locked. inr (c.remove.ensures.only key locked);
      records_only = c.remove.ensures.others;
    })

pub returns-in-SetLength : goal.returns-in-SetLength
returns-in-SetLength c =
    let old = c.args.parts.now in
    let new = c.set_length.new.parts in
    subst (λ (change : Change). StagesChange change old new) (sym c.in-SetLength.is) (record {
      staged = c.set_length.ensures.staged;
      content_is = c.set_length.ensures.content;
      versions_are = λ n. ap (λ (rs : List InodeRow). (row_at rs n).version) c.set_length.ensures.rows;
      log = c.set_length.ensures.log;
      frames_more = omega (arith, c.set_length.ensures.frames);
      records_more = omega (arith, c.set_length.ensures.waiting);
      frames_only = λ key locked. elim (c.set_length.ensures.only key locked) [
        | inl one ↦ inl (
          ap (λ (k : Key). k.ino) one.2,
          subst (Contains (length_codes c.in-SetLength.len)) (sym (ap (λ (k : Key). k.lbn.0) one.2)) one.1,
        )
        | inr was ↦ inr was
      ];
      records_only = c.set_length.ensures.other_records;
    })

pub returns-in-SetAttrs : goal.returns-in-SetAttrs
returns-in-SetAttrs c =
    let old = c.args.parts.now in
    let new = c.set_attrs.new.parts in
    let frames : length new.cache.locked ≡ length old.cache.locked =
    ap (λ (s : Contents). length s.locked) c.set_attrs.ensures.cache in
    subst (λ (change : Change). StagesChange change old new) (sym c.in-SetAttrs.is) (record {
      staged = c.set_attrs.ensures.kept 0 c.requires.staged;
      content_is = c.set_attrs.ensures.content;
      versions_are = λ n. version-same old new n c.set_attrs.ensures.log;
      log = stays_same old new c.set_attrs.ensures.log
          (λ n way known. ap (λ t. address t way) (c.set_attrs.ensures.addresses n));
      frames_more = omega arith;
      records_more = omega (arith, c.set_attrs.ensures.waiting);
      frames_only = λ key locked. inr (subst (IsLocked key) c.set_attrs.ensures.cache locked);
      records_only = c.set_attrs.ensures.others;
    })
