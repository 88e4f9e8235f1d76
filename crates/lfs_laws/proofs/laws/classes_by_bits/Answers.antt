use Rattle.lfs_laws.proofs.WordLemmas.{list_by_bits, make_by_bits, read_by_bits, search_by_bits, write_by_bits}
use Rattle.lfs_laws.proofs.laws.classes_by_bits.Goals as goal

pub returns : goal.returns
returns c = record {
  read = read_by_bits;
  list = list_by_bits;
  write = write_by_bits;
  search = search_by_bits;
  make = make_by_bits;
}
