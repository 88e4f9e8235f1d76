use Rattle.std.proofs.Common.{List, ℕ, ap, subst, ◌∙◌}
use Rattle.std.proofs.lemmas.Result.{on_ok_weaker}
use Rattle.std.specs.Io.KnownBytes.{Appends}
use Rattle.lfs_model.specs.Counts.{counts_of}
use Rattle.lfs_live.specs.Frames.{framed}
use Rattle.lfs_live.proofs.talk.report.Goals as goal

pub returns-clause-reported : goal.returns-clause-reported
returns-clause-reported g c =
    let first = c.tended.view_is in
    let journal = c.args.tended.now.volume.journal in
    on_ok_weaker c.say.result
    (λ appends handed answers told. subst (λ (t : List ℕ). Appends (g.W.Write.contents c.args.writer.now)
    (g.W.Write.contents c.say.new.writer) (framed c.args.setting.framing t))
    (c.as_slice.ensures.value ∙ c.in_ok-text.ensures handed journal answers (ap (λ h. h.tally) first ∙ told)
    (c.counts.ensures.counted ∙ ap (λ h. counts_of h.volume.journal) first)) appends)
    c.say.ensures.written
