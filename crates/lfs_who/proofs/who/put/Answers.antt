use Rattle.std.proofs.Common.{List, ap, ◌∙◌}
use Rattle.lfs_who.specs.Who.{lines_for}
use Rattle.lfs_who.specs.declared.who.Named.{Named}
use Rattle.lfs_who.proofs.UserLemmas.{lines_append, named_more}
use Rattle.lfs_who.proofs.who.put.Goals as goal

pub returns : goal.returns
returns c questions users own so =
    named_more questions c.args.named.now.items c.args.others.now users c.args.uid c.args.lines.items own so
    c.push.new.self.items
    (λ u some. ap (λ (ns : List Named). lines_for ns some u) c.in_ok-push.ensures.items
    ∙ lines_append c.args.named.now.items (record { uid = c.args.uid; lines = c.args.lines }) some u)
