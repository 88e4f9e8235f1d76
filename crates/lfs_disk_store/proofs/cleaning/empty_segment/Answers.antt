use Rattle.lfs_disk_store.proofs.GainLemmas.{gainful_listed}
use Rattle.lfs_disk_store.proofs.cleaning.empty_segment.Goals as goal

pub unreachable-unreachable : goal.unreachable-unreachable
unreachable-unreachable g c = gainful_listed c.args.store.now.store.store c.args.segment c.infos.result c.infos.new.infos
    c.in-Err.field-0 c.requires.gainful c.infos.ensures.given c.in-Err.is
