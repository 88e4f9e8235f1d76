use Rattle.std.proofs.Common.{refl}
use Rattle.lfs_types.specs.declared.level.Level.TheVariants.{Insecure}
use Rattle.lfs_disk_store.specs.Keeping.{disk_state}
use Rattle.lfs_volume.proofs.OpeningLemmas.{shows_opening_state}
use Rattle.lfs_stands.specs.Stands.{disk_stand}
use Rattle.lfs_stands.proofs.OverLemmas.{opening_over}
use Rattle.lfs_programs.proofs.StandLemmas.{all_fresh, all_stores}
use Rattle.lfs_programs.proofs.on_disk.stand_fresh.Goals as goal

pub new-requires : goal.new-requires
new-requires g c =
    opening_over disk_state disk_stand c.args.store c.args.store.store.store refl refl
    (shows_opening_state _ _ c.requires.opening refl)

pub returns-clause-store : goal.returns-clause-store
returns-clause-store g c = all_stores c.args.store Insecure _ c.new.result c.new.ensures.fresh

pub returns-clause-fresh : goal.returns-clause-fresh
returns-clause-fresh g c =
    all_fresh disk_state disk_stand _ c.args.options.now c.args.store.store.store c.args.store c.new.result refl
    c.requires.opening c.requires.laid_out c.new.ensures.fresh c.new.ensures.opening
