use Rattle.std.proofs.Common.{◌≡◌, ℕ, List, IfOk, None, inl, subst}
use Rattle.lfs_fuse_calls.specs.Paths.{IsPathOf}
use Rattle.lfs_fuse_calls.specs.Telling.{SaysOr, attr_told, refusal_in, seen_in}
use Rattle.lfs_mount.specs.Handled.{hangs_in}
use Rattle.lfs_mount.specs.Making.{AreMade}
use Rattle.lfs_mount.proofs.node_tree.NodeTree.set.Goals as goal

pub returns-in-Some-clause-told : goal.returns-in-Some-clause-told
returns-in-Some-clause-told g c =
    let hangs = hangs_in c.args.self.now.nodes in
    let answers = c.in-Some.answers.items in
    let told = c.set_told.result in
    inl (record {
      path = c.in-Ok.path;
      leads = subst (λ r. IfOk r (λ (path : List (List ℕ)). IsPathOf hangs c.args.head.now.node None path)) c.in-Ok.is
          c.path_of.ensures.path;
      answers = answers;
      made = subst (λ l. AreMade g.F.FileStore.state g.F.FileStore.is_flushed c.args.head.now.cred l answers
          c.args.self.now.volume c.make.new.volume) c.in-Ok-asked_to_set.ensures c.in-Some.ensures.made;
      says = subst (λ l. SaysOr (refusal_in l) (told ≡ attr_told (seen_in l)) told) c.as_slice.ensures.value
          c.set_told.ensures;
    })
