use Rattle.std.proofs.Common.{ap, sym, ◌∙◌, ◌==◌}
use Rattle.std.specs.List.{list_any}
use Rattle.lfs_who.proofs.GroupLemmas.{in_inside, not_in_outside}
use Rattle.lfs_who.proofs.lines.Groups.is_known.Goals as goal

pub returns-then-contains : goal.returns-then-contains
returns-then-contains c who fit =
    in_inside who c.args.self.now.inside.items c.args.self.now.outside.items c.args.gid
    (sym (ap (λ gs. list_any (λ x. x == c.args.gid) gs) c.deref.ensures.value) ∙ sym c.contains.ensures.value
    ∙ c.if-contains.true) fit

pub returns-then-contains-2 : goal.returns-then-contains-2
returns-then-contains-2 c who fit =
    not_in_outside who c.args.self.now.inside.items c.args.self.now.outside.items c.args.gid
    (sym (ap (λ gs. list_any (λ x. x == c.args.gid) gs) c.deref-2.ensures.value) ∙ sym c.contains-2.ensures.value
    ∙ c.if-contains-2.true) fit
