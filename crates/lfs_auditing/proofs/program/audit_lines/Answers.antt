use Rattle.std.proofs.Common.{[]}
use Rattle.lfs_auditing.proofs.program.audit_lines.Goals as goal

pub returns : goal.returns
returns g c = λ from none. record {
  audit = c.read_journal.new.self;
  stop = c.in_ok-stop.stop;
  left = g.R.Read.remaining c.read_journal.new.reader;
  read = c.in_ok-stop.ensures.read from [] none;
  numbers_are = c.in_ok-stop.ensures.same.numbers;
  segments_are = c.in_ok-stop.ensures.same.segments;
  denials_are = c.in_ok-stop.ensures.same.denials;
  status_is = c.status_of-status.ensures;
}
