use Rattle.std.proofs.Common.{ap}
use Rattle.lfs_file_disk.proofs.ToldLemmas.{only-nothing, seen-nothing}
use Rattle.lfs_file_disk.proofs.opening.disk_of.Goals as goal

pub returns-clause-seen : goal.returns-clause-seen
returns-clause-seen g c =
    seen-nothing c.of.result.value.items c.args.blocks.now.items c.new.result.told.calls c.new.ensures.told
    (ap (λ blocks. blocks.items) c.of.ensures)

pub returns-clause-synced : goal.returns-clause-synced
returns-clause-synced g c = only-nothing c.of.result.value.items c.new.result.told.calls c.new.ensures.told
