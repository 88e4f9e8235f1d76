use Rattle.lfs_rescue.specs.Building.{HaveRecords}
use Rattle.lfs_rescue.proofs.rows.check_records.Given as goal

-- those so far have records
abbrev pub invariant-loop-number : goal.invariant-loop-number
invariant-loop-number l = HaveRecords l.found.places.now l.found.marks.now l.number
