use Rattle.std.proofs.Common.{append-nil, sym, subst, ◌++◌, List}
use Rattle.lfs_recovery.specs.declared.places.RecordPlace.{RecordPlace}
use Rattle.lfs_recovery.specs.Noted.{IsTable}
use Rattle.lfs_recovery.proofs.NewestLemmas.{records_at-none, records_at-some}
use Rattle.lfs_recovery.proofs.newest.note_records.Goals as goal

pub returns-then-at_inodes-clause-noted : goal.returns-then-at_inodes-clause-noted
returns-then-at_inodes-clause-noted c = λ places is.
    subst (λ (more : List RecordPlace). IsTable c.note_block.new.table.items (places ++ more))
    (records_at-some c.args.memory.now c.args.address c.args.reader.now _ _ c.serial.ensures c.block.ensures.block
    (sym c.if-at_inodes.ensures))
    (c.note_block.ensures.noted places is)

pub returns-else-at_inodes-clause-noted : goal.returns-else-at_inodes-clause-noted
returns-else-at_inodes-clause-noted c = λ places is.
    subst (λ (more : List RecordPlace). IsTable c.args.table.now.items (places ++ more))
    (sym (records_at-none c.args.memory.now c.args.address c.args.reader.now (sym c.if-at_inodes.ensures)))
    (subst (IsTable c.args.table.now.items) (sym (append-nil places)) is)
