use Rattle.lfs_sinks.proofs.RefusalLemmas.{adds_one}
use Rattle.lfs_sinks.proofs.refusals.Refusals.add_cleaning.Goals as goal

pub returns-in-Refused : goal.returns-in-Refused
returns-in-Refused c =
    rw c.in-Refused.is (adds_one c.args.self.now c.add.new.self _ c.add.ensures.room c.add.ensures.memory)
