use Rattle.std.proofs.Common.{◌≡◌, refl, ap, Some, subst, ℕ, arith}
use Rattle.lfs_segments.specs.Entry.{AreEntriesAt, unused}
use Rattle.lfs_segments.proofs.BytesLemmas.{get_or-replicate_same}
use Rattle.lfs_segments.proofs.EntryLemmas.{same_entries}
use Rattle.lfs_segments.proofs.summary.read_entries.Goals as goal

pub loop-k-init : goal.loop-k-init
loop-k-init c = record {
  whole = refl;
  named = λ k below. absurd (omega arith);
  spelled = λ k below. absurd (omega arith);
  rest = λ k _. get_or-replicate_same 40 unused k;
}

pub returns-clause-only : goal.returns-clause-only
returns-clause-only c = λ entries are.
    let all : c.loop-k.k ≡ c.args.count = omega arith in
    let so_far = subst (λ (n : ℕ). AreEntriesAt c.args.block.now n c.loop-k.entries) all c.loop-k.invariant in
    ap Some (same_entries c.args.block.now c.args.count c.loop-k.entries entries so_far are)
