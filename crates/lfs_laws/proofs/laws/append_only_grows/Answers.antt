-- Answers for the proof of append_only_grows.
use Rattle.lfs_laws.proofs.LawFlags.{append_only_grows}
use Rattle.lfs_laws.proofs.laws.append_only_grows.Goals as goal

pub returns : goal.returns
returns c = append_only_grows
