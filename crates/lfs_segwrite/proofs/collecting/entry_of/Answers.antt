use Rattle.std.proofs.Common.{◌≡◌, sym, ap, ◌∙◌}
use Rattle.lfs_segments.specs.declared.entry.LogicalBlock.{LogicalBlock}
use Rattle.lfs_segments.specs.declared.entry.SummaryEntry.{SummaryEntry}
use Rattle.lfs_bmap.specs.Blocks.{block_with, logical_of}
use Rattle.lfs_bmap.proofs.BlockLemmas.{block_with-code_of}
use Rattle.lfs_segwrite.proofs.collecting.entry_of.Goals as goal

pub returns : goal.returns
returns c =
    let key = c.args.key.now in
    let found = c.in-Some.ensures.found in
    let with_block : LogicalBlock → SummaryEntry = λ b. record { number = key.ino; version = key.version; block = b } in
    let same : block_with key.lbn.0 ≡ c.in-Some.block = ap block_with (sym found.1)
    ∙ block_with-code_of c.in-Some.block found.0 in
    ap with_block (c.logical.ensures ∙ ap logical_of (sym same))
