use Rattle.std.proofs.Common.{◌≡◌, inl, None, Some, refl, sym, ap, subst, ◌∙◌, arith}
use Rattle.std.proofs.lemmas.Grind.{common_steps}
use Rattle.lfs_types.specs.declared.attrs.Attrs.{Attrs}
use Rattle.lfs_fuse_wire.specs.Said.{setattr}
use Rattle.lfs_fuse_reply.specs.declared.errno.Errno.TheVariants.{EIO}
use Rattle.lfs_fuse_calls.specs.Telling.{refusal_in, seen_in}
use Rattle.lfs_fuse_calls.specs.declared.told.Told.TheVariants.{Error}
use Rattle.lfs_mount.specs.Handled.{IsSetJudged, hangs_in}
use Rattle.lfs_mount.proofs.HandledLemmas.{looked_on, looked_refused, looked_unseen}
use Rattle.lfs_mount.proofs.node_tree.NodeTree.set_attr.Goals as goal

pub returns-in-Some-clause-told : goal.returns-in-Some-clause-told
returns-in-Some-clause-told g c =
    let state = g.F.FileStore.state in
    let flushed = g.F.FileStore.is_flushed in
    let hangs = hangs_in c.args.self.now.nodes in
    let reply = Error c.in-Some.errno in
    let new = c.calls.new.self.volume in
    let refused : refusal_in c.in-Ok.answers.items ≡ Some c.in-Some.errno =
    sym (ap refusal_in c.as_slice.ensures.value) ∙ sym c.refusal_in.ensures ∙ c.in-Some.is in
    inl (looked_refused state flushed c.args.head.now.cred hangs c.args.head.now.node
    (setattr c.args.fields.now) reply c.args.self.now.volume new
    (λ between (present : Attrs). IsSetJudged state flushed c.args.head.now.cred hangs c.args.head.now.node c.args.fields.now reply
    between new present)
    c.in-Ok.answers.items c.in-Some.errno c.in-Ok.ensures.made refused refl)

pub returns-in-Some-seen_in-clause-told : goal.returns-in-Some-seen_in-clause-told
returns-in-Some-seen_in-clause-told g c =
    let state = g.F.FileStore.state in
    let flushed = g.F.FileStore.is_flushed in
    let hangs = hangs_in c.args.self.now.nodes in
    let reply = c.set_judged.result in
    let between = c.calls.new.self.volume in
    let new = c.set_judged.new.self.volume in
    let seen = c.in-Some-seen_in.seen in
    let served : refusal_in c.in-Ok.answers.items ≡ None = grind (arith, common_steps) in
    let was : seen_in c.in-Ok.answers.items ≡ Some seen =
    sym (ap seen_in c.as_slice-2.ensures.value) ∙ sym c.seen_in.ensures ∙ c.in-Some-seen_in.is in
    inl (looked_on state flushed c.args.head.now.cred hangs c.args.head.now.node
    (setattr c.args.fields.now) reply c.args.self.now.volume between new
    (λ between (present : Attrs). IsSetJudged state flushed c.args.head.now.cred hangs c.args.head.now.node c.args.fields.now reply
    between new present)
    c.in-Ok.answers.items seen c.in-Ok.ensures.made served was
    (subst (λ n. IsSetJudged state flushed c.args.head.now.cred
    (hangs_in n) c.args.head.now.node c.args.fields.now reply between new seen.attrs) c.calls.ensures.nodes
    c.set_judged.ensures.told))

pub returns-clause-told : goal.returns-clause-told
returns-clause-told g c =
    let state = g.F.FileStore.state in
    let flushed = g.F.FileStore.is_flushed in
    let hangs = hangs_in c.args.self.now.nodes in
    let reply = Error EIO in
    let new = c.calls.new.self.volume in
    let served : refusal_in c.in-Ok.answers.items ≡ None = grind (arith, common_steps) in
    let unseen : seen_in c.in-Ok.answers.items ≡ None =
    sym (ap seen_in c.as_slice-2.ensures.value) ∙ sym c.seen_in.ensures ∙ c.in-None.is in
    inl (looked_unseen state flushed c.args.head.now.cred hangs c.args.head.now.node
    (setattr c.args.fields.now) reply c.args.self.now.volume new
    (λ between (present : Attrs). IsSetJudged state flushed c.args.head.now.cred hangs c.args.head.now.node c.args.fields.now reply
    between new present)
    c.in-Ok.answers.items c.in-Ok.ensures.made served unseen refl)
