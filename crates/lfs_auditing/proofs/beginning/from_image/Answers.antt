use Rattle.lfs_auditing.proofs.BeginLemmas.{begun_by}
use Rattle.lfs_auditing.proofs.beginning.from_image.Goals as goal

pub returns-clause-begun : goal.returns-clause-begun
returns-clause-begun g c =
    let made = c.in_ok-audit.ensures in
    begun_by (g.R.Read.remaining c.args.reader.now) c.in_ok-store.store c.in_ok-store.level c.in_ok-audit.audit
    c.in_ok-store.ensures made.begun made.numbers made.segments
