use Rattle.std.proofs.Common.{◌≡◌, IfErr, IfOk, refl, sym, subst, ◌∙◌}
use Rattle.lfs_mount.proofs.node_tree.NodeTree.entry.Goals as goal

pub returns-in-Ok-clause-named : goal.returns-in-Ok-clause-named
returns-in-Ok-clause-named g c = record {
  looked_up = c.in-Ok.ensures.found;
  same = λ id is. subst (λ r. IfOk r (λ node. node.0 ≡ id)) (sym (c.look_up.ensures.again id is).0 ∙ c.in-Ok.is) refl;
}

pub returns-in-Err-clause-fault : goal.returns-in-Err-clause-fault
returns-in-Err-clause-fault g c =
    c.error_of.ensures c.args.self.now.nodes c.args.directory c.in-Err.ensures.fault

pub returns-in-Err-clause-lacks : goal.returns-in-Err-clause-lacks
returns-in-Err-clause-lacks g c = record {
  none = λ id is. subst (λ r. IfErr r (λ fault. ⊥)) (sym (c.look_up.ensures.again id is).0 ∙ c.in-Err.is) tt;
  fault = c.error_of.ensures c.args.self.now.nodes c.args.directory c.in-Err.ensures.fault;
  same = c.in-Err.ensures.failed;
}
