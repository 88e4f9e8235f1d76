use Rattle.std.proofs.Common.{◌++◌, List, length, drop, replicate, ap, ◌∙◌}
use Rattle.std.proofs.lemmas.List.{drop-replicate}
use Rattle.lfs_segments.specs.declared.entry.SummaryEntry.{SummaryEntry}
use Rattle.lfs_segments.specs.Entry.{unused}
use Rattle.lfs_segments.proofs.summary.padded.Goals as goal

pub returns : goal.returns
returns c =
    let entries = c.args.entries.now in
    ap (λ (front : List SummaryEntry). front
    ++ drop (length entries) (replicate 40 unused)) c.copy_from_slice.ensures.after
    ∙ ap (λ (rest : List SummaryEntry). entries ++ rest) (drop-replicate (length entries) 40 unused)
