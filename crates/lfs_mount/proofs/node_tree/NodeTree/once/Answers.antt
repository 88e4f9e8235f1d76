use Rattle.std.proofs.Common.{◌≡◌, None, Some, inl, refl, sym, ap, subst, ◌∙◌}
use Rattle.std.specs.Prelude.{option_copied}
use Rattle.lfs_nodes.specs.declared.parts.Parts.{Parts}
use Rattle.lfs_fuse_wire.specs.Views.{view}
use Rattle.lfs_fuse_calls.specs.Telling.{SaysOr, SaysServed, named_in, refusal_told, seen_in}
use Rattle.lfs_fuse_calls.specs.declared.told.Told.TheVariants.{Error}
use Rattle.lfs_mount.specs.Entries.{NodesFollow}
use Rattle.lfs_mount.specs.Handled.{AreAskedAndMade, hangs_in}
use Rattle.lfs_mount.specs.Trees.{LeavesNodes, StayTrue, UnlessRefused}
use Rattle.lfs_mount.proofs.StayLemmas.{handled_stay}
use Rattle.lfs_mount.proofs.node_tree.NodeTree.once.Goals.{in-Some+in-Ok, in-None}
use Rattle.lfs_mount.proofs.node_tree.NodeTree.once.Goals as goal

pub returns-in-Some-refusal_told-clause-stay : goal.returns-in-Some-refusal_told-clause-stay
returns-in-Some-refusal_told-clause-stay g c =
    let message = view c.args.message.now in
    let answers = c.in-Ok-calls.answers.items in
    let refusal : refusal_told message answers ≡ Some c.in-Some-refusal_told.errno =
    sym (ap (refusal_told message) c.as_slice.ensures.value) ∙ sym c.refusal_told.ensures
    ∙ c.in-Some-refusal_told.is in
    handled_stay g.F.FileStore.state g.F.FileStore.is_flushed c.args.head.now.cred c.args.head.now.node message answers
    c.args.self.now.volume c.calls.new.self.volume c.args.self.now.nodes c.calls.new.self.nodes _
    c.in-Ok-calls.ensures.led refusal c.in-Ok-calls.ensures.nodes

pub returns-in-None-refusal_told-clause-stay : goal.returns-in-None-refusal_told-clause-stay
returns-in-None-refusal_told-clause-stay g c =
    let state = g.F.FileStore.state in
    let message = view c.args.message.now in
    let answers = c.in-Ok-calls.answers.items in
    let before = c.args.self.now.nodes in
    let after = c.served_told.new.self.nodes in
    let served : refusal_told message answers ≡ None =
    sym (ap (refusal_told message) c.as_slice.ensures.value) ∙ sym c.refusal_told.ensures
    ∙ c.in-None-refusal_told.is in
    let named : c.match-named_in.name ≡ named_in message = elim c.match-named_in.branch [
      | in-Some+in-Ok w ↦ w.name-is ∙ ap Some w.in-Ok.ensures.name ∙ sym (ap option_copied w.in-Some.is)
          ∙ c.named_in.ensures
      | in-None w ↦ w.name-is ∙ sym (ap option_copied w.in-None.is) ∙ c.named_in.ensures
    ] in
    let leaves : LeavesNodes message c.args.head.now.node (seen_in answers) before after =
    subst (λ (n : Parts). LeavesNodes message c.args.head.now.node (seen_in answers) n after) c.in-Ok-calls.ensures.nodes
    (c.served_told.ensures.nodes named) in
    subst (λ v. StayTrue state c.args.self.now.volume before v after) (sym c.served_told.ensures.volume)
    (handled_stay state g.F.FileStore.is_flushed c.args.head.now.cred c.args.head.now.node message answers
    c.args.self.now.volume c.calls.new.self.volume before after None c.in-Ok-calls.ensures.led served leaves)

pub returns-in-Some-refusal_told-clause-told : goal.returns-in-Some-refusal_told-clause-told
returns-in-Some-refusal_told-clause-told g c =
    let message = view c.args.message.now in
    let answers = c.in-Ok-calls.answers.items in
    let errno = c.in-Some-refusal_told.errno in
    let before = c.args.self.now.nodes in
    let after = c.calls.new.self.nodes in
    let refusal : refusal_told message answers ≡ Some errno =
    sym (ap (refusal_told message) c.as_slice.ensures.value) ∙ sym c.refusal_told.ensures
    ∙ c.in-Some-refusal_told.is in
    inl (record {
      answers = answers;
      made = c.in-Ok-calls.ensures.made;
      says = subst (λ o. SaysOr o (SaysServed c.args.head.now.cred message answers (Error errno)) (Error errno)) (sym refusal) refl;
      follows = subst (λ o. UnlessRefused o
          (NodesFollow message c.args.head.now.node (seen_in answers) (Error errno) before after) before after) (sym refusal)
          c.in-Ok-calls.ensures.nodes;
    })

pub returns-in-None-refusal_told-clause-told : goal.returns-in-None-refusal_told-clause-told
returns-in-None-refusal_told-clause-told g c =
    let state = g.F.FileStore.state in
    let message = view c.args.message.now in
    let answers = c.in-Ok-calls.answers.items in
    let who = c.args.head.now.cred in
    let reply = c.served_told.result in
    let before = c.args.self.now.nodes in
    let after = c.served_told.new.self.nodes in
    let served : refusal_told message answers ≡ None =
    sym (ap (refusal_told message) c.as_slice.ensures.value) ∙ sym c.refusal_told.ensures
    ∙ c.in-None-refusal_told.is in
    let named : c.match-named_in.name ≡ named_in message = elim c.match-named_in.branch [
      | in-Some+in-Ok w ↦ w.name-is ∙ ap Some w.in-Ok.ensures.name ∙ sym (ap option_copied w.in-Some.is)
          ∙ c.named_in.ensures
      | in-None w ↦ w.name-is ∙ sym (ap option_copied w.in-None.is) ∙ c.named_in.ensures
    ] in
    inl (record {
      answers = answers;
      made = subst (λ v. AreAskedAndMade state g.F.FileStore.is_flushed who (hangs_in before) c.args.head.now.node message answers
          c.args.self.now.volume v) (sym c.served_told.ensures.volume) c.in-Ok-calls.ensures.made;
      says = subst (λ o. SaysOr o (SaysServed who message answers reply) reply) (sym served) c.served_told.ensures.says;
      follows = subst (λ o. UnlessRefused o (NodesFollow message c.args.head.now.node (seen_in answers) reply before after)
          before after) (sym served)
          (subst (λ (n : Parts). NodesFollow message c.args.head.now.node (seen_in answers) reply n after)
          c.in-Ok-calls.ensures.nodes (c.served_told.ensures.follows named));
    })
