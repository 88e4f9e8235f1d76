use Rattle.std.proofs.Common.{◌≡◌, false, ap, subst, sym}
use Rattle.std.proofs.lemmas.Bool.{false≢true}
use Rattle.lfs_disk_store.specs.Keeping.{OnDisk}
use Rattle.lfs_durable_store.specs.Keeping.{Durably, settled}
use Rattle.lfs_file_disk.specs.declared.disk.FileDisk.{FileDisk}
use Rattle.lfs_disk_start.specs.Starting.{IsLaidOutBy}
use Rattle.lfs_disk_start.proofs.starting.make.Goals as goal

pub returns-clause-started : goal.returns-clause-started
returns-clause-started g c =
    let is = c.over.ensures.over in
    let made = c.in_ok-store.ensures in
    let same = ap (λ (s : OnDisk (FileDisk g.row.F.Denot)). s.store) is in
    record {
      sound = ap (λ (s : OnDisk (FileDisk g.row.F.Denot)). s.fault) is;
      own = subst (λ (s : Durably). s ≡ settled false s.store) (sym same) made.base;
      made = λ no. subst (IsLaidOutBy c.args.params) (sym same) (record { laid_out = made.laid_out; opening = made.opening });
      found = λ yes. absurd (false≢true yes);
    }
