use Rattle.lfs_cleaner.proofs.choosing.dirty_live.Goals as goal

pub returns-in_default-2 : goal.returns-in_default-2
returns-in_default-2 c = λ live is. let none = rw c.in_default.is at c.usage_in.ensures.none in none _ is
