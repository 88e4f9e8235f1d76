use Rattle.std.proofs.Common.{ap, sym, ◌∙◌}
use Rattle.lfs_segments.specs.declared.entry.SummaryEntry.{SummaryEntry}
use Rattle.lfs_recovery.specs.Whole.{is_inodes}
use Rattle.lfs_recovery.proofs.WholeLemmas.{last-named}
use Rattle.lfs_recovery.proofs.whole.ends_in_inodes.Goals as goal

pub returns : goal.returns
returns c = c.is_inodes.ensures ∙ ap (λ (e : SummaryEntry). is_inodes e.block) (sym (last-named c.args.summary.now))
