use Rattle.std.proofs.Common.{ap, map, ◌∙◌}
use Rattle.lfs_hearing.proofs.HearingLemmas.{dot_there}
use Rattle.lfs_hearing.proofs.hearing.dot_in.Goals as goal

pub returns : goal.returns
returns c =
    dot_there c.args.line.now c.in_ok-text.text.now _ c.dot_of.result c.in_ok-text.ensures.0 c.in_ok-text.ensures.1
    (ap (map (λ x. x.now)) c.as_slice.ensures ∙ c.in_ok-words.ensures) c.dot_of.ensures
