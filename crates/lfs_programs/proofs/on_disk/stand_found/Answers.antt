use Rattle.std.proofs.Common.{refl}
use Rattle.lfs_types.specs.declared.level.Level.TheVariants.{HighlySecure}
use Rattle.lfs_disk_store.specs.Keeping.{disk_state}
use Rattle.lfs_stands.specs.Stands.{disk_stand}
use Rattle.lfs_stands.proofs.OverLemmas.{world_over}
use Rattle.lfs_programs.proofs.StandLemmas.{all_found, all_stores}
use Rattle.lfs_programs.proofs.on_disk.stand_found.Goals as goal

pub over-requires : goal.over-requires
over-requires g c =
    world_over disk_state disk_stand c.args.store c.args.store.store.store refl refl c.requires.found.world

pub returns-clause-store : goal.returns-clause-store
returns-clause-store g c = all_stores c.args.store HighlySecure _ c.over.result c.over.ensures

pub returns-clause-found : goal.returns-clause-found
returns-clause-found g c =
    all_found disk_stand c.args.options.now _ c.args.store.store.store c.args.store c.over.result refl c.requires.found
    c.over.ensures
