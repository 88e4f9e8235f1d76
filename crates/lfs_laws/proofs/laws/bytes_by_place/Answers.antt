use Rattle.lfs_laws.proofs.PlaceWords.{reads_from, writes_at, writes_at_end}
use Rattle.lfs_laws.proofs.laws.bytes_by_place.Goals as goal

pub returns : goal.returns
returns c = record { at = writes_at; end = writes_at_end; read = reads_from }
