use Rattle.std.proofs.Common.{◌≡◌, length, sym, ap, ◌∙◌}
use Rattle.lfs_ifile.specs.declared.segment.SegUse.{SegUse}
use Rattle.lfs_log.specs.Parts.{live_of}
use Rattle.lfs_fsck.proofs.KeyLemmas.{live_all}
use Rattle.lfs_fsck.proofs.checking.check_segment.Goals as goal

pub returns-then-live-counts-clause-ok : goal.returns-then-live-counts-clause-ok
returns-then-live-counts-clause-ok c =
    let l = c.args.log.now in
    let live : c.usage.result.live ≡ live_of l.tables c.args.segment =
    ap (λ (u : SegUse). u.live) c.usage.ensures.usage in
    let sum = live_all l (length l.tables.rows) c.args.counts.now c.args.segment c.requires.counted c.requires.inside in
    sym live ∙ sym c.from-live.ensures ∙ c.if-live-counts.true ∙ sum

pub returns-else-live-counts-clause-fault : goal.returns-else-live-counts-clause-fault
returns-else-live-counts-clause-fault c =
    let l = c.args.log.now in
    let live : c.usage.result.live ≡ live_of l.tables c.args.segment =
    ap (λ (u : SegUse). u.live) c.usage.ensures.usage in
    let sum = live_all l (length l.tables.rows) c.args.counts.now c.args.segment c.requires.counted c.requires.inside in
    (c.requires.inside, λ e. c.if-live-counts.false (c.from-live.ensures ∙ live ∙ e ∙ sym sum))
