use Rattle.std.proofs.Common.{◌-◌, length, replicate, ◌∙◌, ap, take, refl, arith}
use Rattle.std.proofs.lemmas.List.{take_at}
use Rattle.lfs_segments.specs.Entry.{unused}
use Rattle.lfs_segments.proofs.PaddedLemmas.{IsEntry-padded, length-padded, unused-padded}
use Rattle.lfs_segments.proofs.summary.Summary.new.Goals as goal

pub invariant_of-result : goal.invariant_of-result
invariant_of-result c =
    let entries = c.args.entries.now in
    record {
      in_volume = omega arith;
      some = omega arith;
      at_most = omega arith;
      in_segment = omega arith;
      whole = rw c.padded.ensures (length-padded entries c.requires.at_most);
      named = rw c.padded.ensures (IsEntry-padded entries c.requires.named);
      rest = rw c.padded.ensures (unused-padded entries);
    }

pub returns-clause-entries : goal.returns-clause-entries
returns-clause-entries c =
    let entries = c.args.entries.now in
    ap (take (length entries)) c.padded.ensures
    ∙ take_at entries (replicate (40 - length entries) unused) (length entries) refl
