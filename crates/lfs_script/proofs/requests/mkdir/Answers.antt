use Rattle.lfs_script.proofs.RequestLemmas.{mkdir_there}
use Rattle.lfs_script.proofs.requests.mkdir.Goals as goal

pub returns : goal.returns
returns c = mkdir_there (λ x. x.now) c.args.words.now c.in_ok-path.path c.in_ok-path.mode c.in_ok-path.ensures
