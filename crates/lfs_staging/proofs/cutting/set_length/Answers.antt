use Rattle.std.proofs.Common.{◌≡◌, ◌<◌, List, length, IsSome, sym, ap, ◌∙◌, subst, arith}
use Rattle.lfs_ifile.specs.Tables.{row_of}
use Rattle.lfs_inodes.specs.declared.inode.Inode.{Inode}
use Rattle.lfs_inodes.specs.Attributes.{Attributes}
use Rattle.lfs_inodes.specs.Reading.{fields_of}
use Rattle.lfs_staging.specs.Changing.{length_codes}
use Rattle.lfs_staging.specs.Cutting.{with_length}
use Rattle.lfs_parts.specs.Files.{content_of}
use Rattle.lfs_staging.specs.Staging.{TakesOnly}
use Rattle.lfs_parts.specs.View.{record_of, version_of, waiting_in}
use Rattle.lfs_parts.specs.Waiting.{KeepsOtherRecords, without}
use Rattle.lfs_staging.proofs.GrowthLemmas.{may_from, one_record}
use Rattle.lfs_staging.proofs.LengthLemmas.{cut_content, grown_attributes, grown_content, grown_length, length_size}
use Rattle.lfs_staging.proofs.TakenLemmas.{takes_none}
use Rattle.lfs_parts.proofs.WaitingLemmas.{length-less, length-without, others_kept}
use Rattle.lfs_staging.proofs.StagedLemmas.{staged_change, stays_files}
use Rattle.lfs_staging.proofs.cutting.set_length.Goals as goal

pub cut-requires-clause-may : goal.cut-requires-clause-may
cut-requires-clause-may c =
    let p = c.args.parts.now in
    may_from p c.record_in_use-inode.result c.args.ino
    (staged_change p c.args.ino 0 c.requires.staged c.requires.in_range c.requires.in_use c.requires.records)
    c.record_in_use-inode.ensures.here

pub stage_record-requires-clause-in_use : goal.stage_record-requires-clause-in_use
stage_record-requires-clause-in_use c =
    let p = c.args.parts.now in let v = c.record_in_use-inode.result in
    let may = may_from p v c.args.ino (staged_change p c.args.ino 0 c.requires.staged c.requires.in_range
    c.requires.in_use c.requires.records)
    c.record_in_use-inode.ensures.here in
    ap (λ (a : Attributes). (row_of p.log.tables a.number).used) c.grown.ensures.attributes ∙ may.in_use

pub stage_record-requires-clause-room : goal.stage_record-requires-clause-room
stage_record-requires-clause-room c =
    let p = c.args.parts.now in let v = c.record_in_use-inode.result in
    let may = may_from p v c.args.ino (staged_change p c.args.ino 0 c.requires.staged c.requires.in_range
    c.requires.in_use c.requires.records)
    c.record_in_use-inode.ensures.here in
    subst (λ (a : Attributes). length (without a.number p.waiting) < 64) (sym c.grown.ensures.attributes) may.records

pub returns-then-len-inode-clause-content : goal.returns-then-len-inode-clause-content
returns-then-len-inode-clause-content c =
    let p = c.args.parts.now in let v = c.record_in_use-inode.result in
    let has = c.record_in_use-inode.ensures.here in
    let own = (c.requires.staged.whole.files c.args.ino (fields_of v) has).own_number in
    let may = may_from p v c.args.ino (staged_change p c.args.ino 0 c.requires.staged c.requires.in_range
    c.requires.in_use c.requires.records) has in
    cut_content p c.cut.new.parts v c.args.len may c.cut.ensures ∙ ap (λ n. with_length n c.args.len (content_of p)) own

pub returns-then-len-inode-clause-size : goal.returns-then-len-inode-clause-size
returns-then-len-inode-clause-size c = λ g is.
    let p = c.args.parts.now in let v = c.record_in_use-inode.result in
    let has = c.record_in_use-inode.ensures.here in
    let own = (c.requires.staged.whole.files c.args.ino (fields_of v) has).own_number in
    length_size c.cut.new.parts v.number c.args.len (fields_of v) g
    (c.cut.ensures.here (fields_of v) (ap (record_of p) own ∙ has)) (ap (record_of c.cut.new.parts) own ∙ is)

pub returns-else-len-inode-clause-staged : goal.returns-else-len-inode-clause-staged
returns-else-len-inode-clause-staged c =
    let p = c.args.parts.now in let v = c.record_in_use-inode.result in
    let has = c.record_in_use-inode.ensures.here in
    let may = may_from p v c.args.ino (staged_change p c.args.ino 0 c.requires.staged c.requires.in_range
    c.requires.in_use c.requires.records) has in
    (grown_length p c.stage_record.new.parts v c.grown.result c.args.len may c.stage_record.ensures
    c.grown.ensures.attributes c.grown.ensures.addresses (omega arith)).kept 0 c.requires.staged

pub returns-else-len-inode-clause-content : goal.returns-else-len-inode-clause-content
returns-else-len-inode-clause-content c =
    let p = c.args.parts.now in let v = c.record_in_use-inode.result in
    let has = c.record_in_use-inode.ensures.here in
    let own = (c.requires.staged.whole.files c.args.ino (fields_of v) has).own_number in
    let may = may_from p v c.args.ino (staged_change p c.args.ino 0 c.requires.staged c.requires.in_range
    c.requires.in_use c.requires.records) has in
    let h = grown_length p c.stage_record.new.parts v c.grown.result c.args.len may c.stage_record.ensures
    c.grown.ensures.attributes c.grown.ensures.addresses (omega arith) in
    grown_content p c.stage_record.new.parts v c.grown.result c.args.len may (omega arith) h
    ∙ ap (λ n. with_length n c.args.len (content_of p)) own

pub returns-else-len-inode-clause-size : goal.returns-else-len-inode-clause-size
returns-else-len-inode-clause-size c = λ g is.
    let p = c.args.parts.now in let v = c.record_in_use-inode.result in
    let has = c.record_in_use-inode.ensures.here in
    let own = (c.requires.staged.whole.files c.args.ino (fields_of v) has).own_number in
    let may = may_from p v c.args.ino (staged_change p c.args.ino 0 c.requires.staged c.requires.in_range
    c.requires.in_use c.requires.records) has in
    let h = grown_length p c.stage_record.new.parts v c.grown.result c.args.len may c.stage_record.ensures
    c.grown.ensures.attributes c.grown.ensures.addresses (omega arith) in
    length_size c.stage_record.new.parts v.number c.args.len (fields_of v) g
    (grown_attributes p c.stage_record.new.parts v c.grown.result c.args.len (omega arith) h)
    (ap (record_of c.stage_record.new.parts) own ∙ is)

pub returns-else-len-inode-clause-log : goal.returns-else-len-inode-clause-log
returns-else-len-inode-clause-log c =
    let p = c.args.parts.now in let v = c.record_in_use-inode.result in
    let has = c.record_in_use-inode.ensures.here in
    let may = may_from p v c.args.ino (staged_change p c.args.ino 0 c.requires.staged c.requires.in_range
    c.requires.in_use c.requires.records) has in
    let h = grown_length p c.stage_record.new.parts v c.grown.result c.args.len may c.stage_record.ensures
    c.grown.ensures.attributes c.grown.ensures.addresses (omega arith) in
    stays_files p c.stage_record.new.parts h.log h.blocks

pub returns-else-len-inode-clause-waiting : goal.returns-else-len-inode-clause-waiting
returns-else-len-inode-clause-waiting c =
    let p = c.args.parts.now in let v = c.record_in_use-inode.result in
    let has = c.record_in_use-inode.ensures.here in
    let may = may_from p v c.args.ino (staged_change p c.args.ino 0 c.requires.staged c.requires.in_range
    c.requires.in_use c.requires.records) has in
    let h = grown_length p c.stage_record.new.parts v c.grown.result c.args.len may c.stage_record.ensures
    c.grown.ensures.attributes c.grown.ensures.addresses (omega arith) in
    one_record p c.stage_record.new.parts v.number h.room

pub returns-then-len-inode-clause-others : goal.returns-then-len-inode-clause-others
returns-then-len-inode-clause-others c =
    let p = c.args.parts.now in let v = c.record_in_use-inode.result in
    let has = c.record_in_use-inode.ensures.here in
    let own = (c.requires.staged.whole.files c.args.ino (fields_of v) has).own_number in
    let less = length-less c.cut.new.parts.waiting c.args.ino
    (subst (λ n. IsSome (waiting_in c.cut.new.parts.waiting n)) own c.cut.ensures.waits) in
    let more = c.cut.ensures.waiting in
    omega arith

pub returns-else-len-inode-clause-others : goal.returns-else-len-inode-clause-others
returns-else-len-inode-clause-others c =
    let p = c.args.parts.now in let v = c.record_in_use-inode.result in
    let has = c.record_in_use-inode.ensures.here in
    let own = (c.requires.staged.whole.files c.args.ino (fields_of v) has).own_number in
    let may = may_from p v c.args.ino (staged_change p c.args.ino 0 c.requires.staged c.requires.in_range
    c.requires.in_use c.requires.records) has in
    let h = grown_length p c.stage_record.new.parts v c.grown.result c.args.len may c.stage_record.ensures
    c.grown.ensures.attributes c.grown.ensures.addresses (omega arith) in
    let same = ap (λ (vs : List Inode). length vs)
    (subst (λ n. without n c.stage_record.new.parts.waiting ≡ without n p.waiting) own h.room) in
    let fewer = length-without p.waiting c.args.ino in
    omega arith

pub returns-then-len-inode-clause-only : goal.returns-then-len-inode-clause-only
returns-then-len-inode-clause-only c =
    let p = c.args.parts.now in
    let v = c.record_in_use-inode.result in
    let own = (c.requires.staged.whole.files c.args.ino (fields_of v) c.record_in_use-inode.ensures.here).own_number in
    subst (λ n. TakesOnly n (version_of p n) (length_codes c.args.len) p.cache c.cut.new.parts.cache) own
    c.cut.ensures.takes

pub returns-then-len-inode-clause-other_records : goal.returns-then-len-inode-clause-other_records
returns-then-len-inode-clause-other_records c =
    let p = c.args.parts.now in
    let v = c.record_in_use-inode.result in
    let own = (c.requires.staged.whole.files c.args.ino (fields_of v) c.record_in_use-inode.ensures.here).own_number in
    subst (λ n. KeepsOtherRecords n p.waiting c.cut.new.parts.waiting) own c.cut.ensures.other_records

pub returns-else-len-inode-clause-only : goal.returns-else-len-inode-clause-only
returns-else-len-inode-clause-only c =
    let p = c.args.parts.now in
    takes_none c.args.ino (version_of p c.args.ino) (length_codes c.args.len) p.cache c.stage_record.new.parts.cache
    c.stage_record.ensures.cache

pub returns-else-len-inode-clause-other_records : goal.returns-else-len-inode-clause-other_records
returns-else-len-inode-clause-other_records c =
    let p = c.args.parts.now in
    let new = c.stage_record.new.parts in
    let v = c.record_in_use-inode.result in
    let has = c.record_in_use-inode.ensures.here in
    let own = (c.requires.staged.whole.files c.args.ino (fields_of v) has).own_number in
    let may = may_from p v c.args.ino (staged_change p c.args.ino 0 c.requires.staged c.requires.in_range
    c.requires.in_use c.requires.records) has in
    let h = grown_length p new v c.grown.result c.args.len may c.stage_record.ensures
    c.grown.ensures.attributes c.grown.ensures.addresses (omega arith) in
    others_kept c.args.ino p.waiting new.waiting (subst (λ n. without n new.waiting ≡ without n p.waiting) own h.room)
