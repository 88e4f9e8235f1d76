use Rattle.std.proofs.Common.{rules}
use Rattle.lfs_checks.proofs.bytes.fits_file.Goals as goal

pub returns-then-start-le-FILE_BYTES : goal.returns-then-start-le-FILE_BYTES
returns-then-start-le-FILE_BYTES c = search rules
