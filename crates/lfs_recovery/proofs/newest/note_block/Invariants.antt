use Rattle.std.proofs.Common.{◌≡◌, ◌++◌, List, vec_len}
use Rattle.lfs_recovery.specs.declared.places.RecordPlace.{RecordPlace}
use Rattle.lfs_recovery.specs.Noted.{IsTable, places_in}
use Rattle.lfs_recovery.proofs.newest.note_block.Given as goal

-- the records of the slots so far are noted
abbrev pub invariant-loop-index : goal.invariant-loop-index
invariant-loop-index l = record {
  long : vec_len l.table ≡ 4096;
  noted : (places : List RecordPlace) → IsTable l.initial.table.items places
      → IsTable l.table.items (places ++ places_in l.serial l.address l.block l.index);
}
