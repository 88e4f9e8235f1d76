use Rattle.std.proofs.Common.{◌++◌, refl, ◌∙◌}
use Rattle.lfs_auditing.proofs.AuditLemmas.{none_so_far, one_more, stopped}
use Rattle.lfs_auditing.proofs.audit.Audit.read_journal.Goals as goal

pub loop-init : goal.loop-init
loop-init g c = record {
  so_far = λ from es read. none_so_far (g.R.Read.remaining c.args.reader.now) from es c.args.self.now read;
  same = record { numbers = refl; segments = refl; denials = refl };
}

pub loop-preserved : goal.loop-preserved
loop-preserved g c = record {
  so_far = λ from es read.
      let so = c.loop.invariant.so_far from es read in
      let line = rw c.in-None.is at c.in_ok-next.ensures.read from (es ++ so.more) so.read in
      one_more (g.R.Read.remaining c.args.reader.now) (g.R.Read.remaining c.loop.reader)
      (g.R.Read.remaining c.next.new.reader)
      from es c.loop.self c.next.new.self line.line line.entry so line.whole line.taken line.told line.read;
  same = record {
    numbers = c.next.ensures.same.numbers ∙ c.loop.invariant.same.numbers;
    segments = c.next.ensures.same.segments ∙ c.loop.invariant.same.segments;
    denials = c.next.ensures.same.denials ∙ c.loop.invariant.same.denials;
  };
}

pub returns-in-Some-clause-read : goal.returns-in-Some-clause-read
returns-in-Some-clause-read g c from es read =
    let so = c.loop.invariant.so_far from es read in
    let at = rw c.in-Some.is at c.in_ok-next.ensures.read from (es ++ so.more) so.read in
    stopped (g.R.Read.remaining c.args.reader.now) (g.R.Read.remaining c.loop.reader)
    (g.R.Read.remaining c.next.new.reader)
    from es c.loop.self c.next.new.self c.in-Some.stop so at.0 at.1

pub next-requires : goal.next-requires
next-requires g c =
    let from = c.requires.0 in
    let es = c.requires.1 in
    let so = c.loop.invariant.so_far from es c.requires.2 in
    (from, es ++ so.more, so.read)
