use Rattle.lfs_laws.proofs.PlaceWords.{append_by_number, first_number, length_by_number, write_by_number}
use Rattle.lfs_laws.proofs.laws.limits_by_number.Goals as goal

pub returns : goal.returns
returns c = record {
  length = length_by_number;
  write = write_by_number;
  append = append_by_number;
  first = first_number;
}
