use Rattle.lfs_laws.proofs.LockWords.{append_by_flags, make_by_flags, mode_by_flags, write_by_flags}
use Rattle.lfs_laws.proofs.laws.locks_by_bits.Goals as goal

pub returns : goal.returns
returns c = record { append = append_by_flags; write = write_by_flags; make = make_by_flags; mode = mode_by_flags }
