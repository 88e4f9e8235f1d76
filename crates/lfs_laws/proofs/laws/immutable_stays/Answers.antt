-- Answers for the proof of immutable_stays.
use Rattle.lfs_laws.proofs.LawFlags.{immutable_stays}
use Rattle.lfs_laws.proofs.laws.immutable_stays.Goals as goal

pub returns : goal.returns
returns c = immutable_stays
