use Rattle.lfs_durable.proofs.ContentLemmas.{finds_content}
use Rattle.lfs_durable.proofs.laws.finds_content.Goals as goal

pub returns : goal.returns
returns c = finds_content
