use Rattle.std.proofs.Common.{ap, Some, sym, refl, arith}
use Rattle.lfs_segments.proofs.BytesLemmas.{zero_to_end}
use Rattle.lfs_segments.proofs.SummaryLemmas.{same_summary}
use Rattle.lfs_segments.proofs.summary.Summary.parse.Goals as goal

pub returns-clause-found : goal.returns-clause-found
returns-clause-found c = record {
  mark = omega arith;
  segment = sym c.word-segment.ensures;
  offset = sym c.half-offset.ensures;
  count = sym c.half-count.ensures;
  gap = omega arith;
  entries = c.in_ok-entries.ensures.found.spelled;
  rest = λ i past. zero_to_end c.args.block.now c.entry_place.result 512 (omega arith)
      (c.if-not-is_zero.ensures.0 refl) i (omega arith);
}

pub returns-clause-only : goal.returns-clause-only
returns-clause-only c = λ summary spelled.
    ap Some (same_summary c.args.block.now _ summary (returns-clause-found c) spelled)
