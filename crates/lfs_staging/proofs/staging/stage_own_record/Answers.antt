use Rattle.lfs_staging.proofs.KeptLemmas.{own_staged}
use Rattle.lfs_staging.proofs.staging.stage_own_record.Goals as goal

pub returns : goal.returns
returns c = own_staged c.args.parts.now c.stage_record.new.parts c.args.inode.now c.requires.may c.stage_record.ensures
