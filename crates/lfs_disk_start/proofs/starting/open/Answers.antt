use Rattle.std.proofs.Common.{sym}
use Rattle.std.proofs.lemmas.Bool.{false≢true}
use Rattle.lfs_disk_start.proofs.starting.open.Goals as goal

pub returns-clause-started : goal.returns-clause-started
returns-clause-started g c = record {
  sound = c.in_ok-store.ensures.sound;
  own = c.in_ok-store.ensures.own;
  made = λ no. absurd (false≢true (sym no));
  found = λ yes. c.in_ok-store.ensures.found;
}
