use Rattle.std.proofs.Common.{replicate, ◌∙◌, arith}
use Rattle.lfs_segments.proofs.BytesLemmas.{word_kept, half_kept, get_or-replicate_same}
use Rattle.lfs_segments.proofs.ReadingLemmas.{summary_entries-spelled}
use Rattle.lfs_segments.proofs.SummaryLemmas.{same_spelling}
use Rattle.lfs_segments.proofs.summary.Summary.encode.Goals as goal

pub returns-clause-spelled : goal.returns-clause-spelled
returns-clause-spelled c =
    let first = c.put_word.ensures in
    let segment = c.put_word-2.ensures in
    let offset = c.put_half.ensures in
    let count = c.put_half-2.ensures in
    let entries = c.write_entries.ensures in
    record {
      mark = word_kept c.put_word.new.block c.write_entries.new.block 0 (λ i _ below. entries.before i (omega arith)
          ∙ count.before i (omega arith) ∙ offset.before i (omega arith) ∙ segment.before i (omega arith))
          ∙ first.written;
      segment = word_kept c.put_word-2.new.block c.write_entries.new.block 4
          (λ i _ below. entries.before i (omega arith) ∙ count.before i (omega arith) ∙ offset.before i (omega arith))
          ∙ segment.written;
      offset = half_kept c.put_half.new.block c.write_entries.new.block 8 (λ i _ below. entries.before i (omega arith)
          ∙ count.before i (omega arith)) ∙ offset.written;
      count = half_kept c.put_half-2.new.block c.write_entries.new.block 10
          (λ i _ below. entries.before i (omega arith)) ∙ count.written;
      gap = word_kept (replicate 512 0) c.write_entries.new.block 12 (λ i above below. entries.before i (omega arith)
          ∙ count.after i (omega arith) ∙ offset.after i (omega arith) ∙ segment.after i (omega arith)
          ∙ first.after i (omega arith));
      entries = entries.written;
      rest = λ i past. entries.after i past ∙ count.after i (omega arith) ∙ offset.after i (omega arith)
          ∙ segment.after i (omega arith) ∙ first.after i (omega arith) ∙ get_or-replicate_same 512 0 i;
    }

pub returns-clause-only : goal.returns-clause-only
returns-clause-only c = λ bytes block spelled.
    same_spelling bytes c.write_entries.new.block c.args.self.now block c.write_entries.ensures.bytes spelled
    (returns-clause-spelled c)

pub returns-clause-entries : goal.returns-clause-entries
returns-clause-entries c = summary_entries-spelled c.write_entries.new.block c.args.self.now (returns-clause-spelled c)
