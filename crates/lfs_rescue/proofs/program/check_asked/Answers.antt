use Rattle.std.proofs.Common.{IsSome, inl, refl, subst}
use Rattle.std.proofs.lemmas.Bool.{false≢true}
use Rattle.lfs_rescue.proofs.program.check_asked.Goals as goal

pub returns-in-None : goal.returns-in-None
returns-in-None g c = record {
  bytes = g.R.Read.remaining c.args.streams.now.stdin;
  own = λ _. refl;
  unread = λ some. absurd (false≢true (subst IsSome c.in-None.is some));
  ends = inl c.end-in-None.ensures;
}
