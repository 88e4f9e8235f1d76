use Rattle.std.proofs.Common.{◌≡◌, ◌<◌, length, sym, ap, ◌∙◌, subst}
use Rattle.lfs_ifile.specs.Tables.{row_of}
use Rattle.lfs_inodes.specs.Attributes.{Attributes}
use Rattle.lfs_inodes.specs.Reading.{fields_of}
use Rattle.lfs_parts.specs.Waiting.{without}
use Rattle.lfs_staging.proofs.GrowthLemmas.{attrs_changed, attrs_shown, one_record}
use Rattle.lfs_staging.proofs.KeptLemmas.{record_room}
use Rattle.lfs_parts.proofs.WaitingLemmas.{others_kept}
use Rattle.lfs_staging.proofs.changing.set_attrs.Goals as goal

pub with_attrs-changed-requires : goal.with_attrs-changed-requires
with_attrs-changed-requires c =
    c.requires.kind (fields_of c.record_in_use-inode.result) c.record_in_use-inode.ensures.here

pub stage_record-requires-clause-in_use : goal.stage_record-requires-clause-in_use
stage_record-requires-clause-in_use c =
    let p = c.args.parts.now in
    let v = c.record_in_use-inode.result in
    let has = c.record_in_use-inode.ensures.here in
    let own : c.with_attrs-changed.result.number ≡ c.args.ino
    = ap (λ (a : Attributes). a.number) c.with_attrs-changed.ensures.attributes
    ∙ (c.requires.may.files.files c.args.ino (fields_of v) has).own_number in
    ap (λ n. (row_of p.log.tables n).used) own ∙ c.requires.may.in_use

pub stage_record-requires-clause-room : goal.stage_record-requires-clause-room
stage_record-requires-clause-room c =
    let p = c.args.parts.now in
    let v = c.record_in_use-inode.result in
    let has = c.record_in_use-inode.ensures.here in
    let own : c.with_attrs-changed.result.number ≡ c.args.ino
    = ap (λ (a : Attributes). a.number) c.with_attrs-changed.ensures.attributes
    ∙ (c.requires.may.files.files c.args.ino (fields_of v) has).own_number in
    subst (λ n. length (without n p.waiting) < 64) (sym own) c.requires.may.records

pub returns-clause-content : goal.returns-clause-content
returns-clause-content c =
    attrs_shown c.args.parts.now c.stage_record.new.parts c.record_in_use-inode.result c.with_attrs-changed.result
    c.args.ino c.args.attrs.now c.requires.may
    c.record_in_use-inode.ensures.here c.stage_record.ensures
    c.with_attrs-changed.ensures.attributes c.with_attrs-changed.ensures.addresses

pub returns-clause-addresses : goal.returns-clause-addresses
returns-clause-addresses c =
    (attrs_changed c.args.parts.now c.stage_record.new.parts c.record_in_use-inode.result c.with_attrs-changed.result
    c.args.ino c.args.attrs.now c.requires.may
    c.record_in_use-inode.ensures.here c.stage_record.ensures
    c.with_attrs-changed.ensures.attributes c.with_attrs-changed.ensures.addresses).blocks

pub returns-clause-kept : goal.returns-clause-kept
returns-clause-kept c =
    (attrs_changed c.args.parts.now c.stage_record.new.parts c.record_in_use-inode.result c.with_attrs-changed.result
    c.args.ino c.args.attrs.now c.requires.may
    c.record_in_use-inode.ensures.here c.stage_record.ensures
    c.with_attrs-changed.ensures.attributes c.with_attrs-changed.ensures.addresses).kept

pub returns-clause-waiting : goal.returns-clause-waiting
returns-clause-waiting c =
    one_record c.args.parts.now c.stage_record.new.parts c.with_attrs-changed.result.number
    (record_room c.args.parts.now c.stage_record.new.parts c.with_attrs-changed.result c.stage_record.ensures)

pub returns-clause-others : goal.returns-clause-others
returns-clause-others c =
    let p = c.args.parts.now in
    let new = c.stage_record.new.parts in
    let v = c.record_in_use-inode.result in
    let own : c.with_attrs-changed.result.number ≡ c.args.ino
    = ap (λ (a : Attributes). a.number) c.with_attrs-changed.ensures.attributes
    ∙ (c.requires.may.files.files c.args.ino (fields_of v) c.record_in_use-inode.ensures.here).own_number in
    others_kept c.args.ino p.waiting new.waiting
    (subst (λ n. without n new.waiting ≡ without n p.waiting) own
    (record_room p new c.with_attrs-changed.result c.stage_record.ensures))
