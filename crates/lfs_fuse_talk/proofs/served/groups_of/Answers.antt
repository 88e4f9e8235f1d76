use Rattle.std.proofs.Common.{true, false, refl, rules, subst}
use Rattle.std.proofs.lemmas.Result.{IfOk-weaker}
use Rattle.lfs_fuse_talk.specs.Serving.{DoCount}
use Rattle.lfs_fuse_talk.proofs.served.groups_of.Goals as goal

pub returns-then-do_count : goal.returns-then-do_count
returns-then-do_count g c = IfOk-weaker c.others.result _ _
    (λ found told. record {
      count = true;
      why = subst (DoCount g.F.FileStore.state c.args.mount.now.tree.volume c.args.mount.now.tree.nodes
          c.args.header.now c.args.message.now) c.if-do_count.true c.do_count.ensures;
      told = told;
    }) c.others.ensures

pub returns-else-do_count : goal.returns-else-do_count
returns-else-do_count g c = record {
  count = false;
  why = subst (DoCount g.F.FileStore.state c.args.mount.now.tree.volume c.args.mount.now.tree.nodes
      c.args.header.now c.args.message.now) c.if-do_count.false c.do_count.ensures;
  told = (search rules, refl);
}
