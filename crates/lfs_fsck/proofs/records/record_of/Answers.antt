use Rattle.std.proofs.Common.{◌≡◌, ◌<◌, sym, ap, subst, ◌∙◌, true, length}
use Rattle.std.proofs.lemmas.Bool.{false≢true}
use Rattle.lfs_inodes.specs.Reading.{fields_in, fields_of}
use Rattle.lfs_inodes.specs.Slots.{slot_of}
use Rattle.lfs_ifile.specs.Tables.{row_of}
use Rattle.lfs_parts.specs.View.{record_of, version_of}
use Rattle.lfs_fsck.specs.Stored.{flushed}
use Rattle.lfs_fsck.proofs.KeyLemmas.{slot_low}
use Rattle.lfs_fsck.proofs.FlushedLemmas.{flushed_record, used_row}
use Rattle.lfs_fsck.proofs.records.record_of.Goals as goal

pub block-requires : goal.block-requires
block-requires c = (slot_low c.args.log.now c.args.number c.args.place c.requires.parts c.requires.below
    c.requires.here).1

pub inode_in-requires : goal.inode_in-requires
inode_in-requires c = (slot_low c.args.log.now c.args.number c.args.place c.requires.parts c.requires.below
    c.requires.here).0

pub returns-in_default-clause-fault : goal.returns-in_default-clause-fault
returns-in_default-clause-fault c =
    let l = c.args.log.now in
    let row = used_row (row_of l.tables c.args.number) c.args.place c.requires.here in (
      row.0,
      flushed_record l c.args.number c.args.place c.requires.here
          ∙ ap (λ b. fields_in (slot_of b c.args.place.slot)) (sym c.block.ensures.block)
          ∙ sym c.in_default.ensures.reading,
    )

pub returns-else-is_of-clause-fault : goal.returns-else-is_of-clause-fault
returns-else-is_of-clause-fault c =
    let l = c.args.log.now in
    let row = used_row (row_of l.tables c.args.number) c.args.place c.requires.here in
    record {
      fields = fields_of c.in-Some.inode;
      is = flushed_record l c.args.number c.args.place c.requires.here
          ∙ ap (λ b. fields_in (slot_of b c.args.place.slot)) (sym c.block.ensures.block)
          ∙ sym c.in-Some.ensures.reading;
      other = λ n v. false≢true (sym c.if-is_of.false ∙ c.is_of.ensures.1 (n, v ∙ sym row.3));
    }

pub returns-then-is_of-clause-record : goal.returns-then-is_of-clause-record
returns-then-is_of-clause-record c =
    let l = c.args.log.now in
    let row = used_row (row_of l.tables c.args.number) c.args.place c.requires.here in
    let own = c.is_of.ensures.0 c.if-is_of.true in
    record {
      below = subst (λ n. n < length l.tables.rows) (sym own.0) c.requires.below;
      in_use = subst (λ n. (row_of l.tables n).used ≡ true) (sym own.0) row.0;
      at_version = own.1 ∙ row.3 ∙ ap (version_of (flushed l)) (sym own.0);
      is = ap (record_of (flushed l)) own.0 ∙ flushed_record l c.args.number c.args.place c.requires.here
          ∙ ap (λ b. fields_in (slot_of b c.args.place.slot)) (sym c.block.ensures.block)
          ∙ sym c.in-Some.ensures.reading;
      formed = c.in-Some.ensures.bounds (fields_of c.in-Some.inode) (sym c.in-Some.ensures.reading);
    }
