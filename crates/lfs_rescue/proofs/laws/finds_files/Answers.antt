use Rattle.lfs_rescue.proofs.DraftLemmas.{finds_files}
use Rattle.lfs_rescue.proofs.laws.finds_files.Goals as goal

pub returns : goal.returns
returns c = finds_files
