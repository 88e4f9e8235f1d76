use Rattle.std.proofs.Common.{◌≡◌, inl, None, Some, refl, sym, ap, subst, ◌∙◌, arith}
use Rattle.std.proofs.lemmas.Grind.{common_steps}
use Rattle.lfs_types.specs.declared.attrs.Attrs.{Attrs}
use Rattle.lfs_fuse_wire.specs.Said.{ioctl}
use Rattle.lfs_fuse_reply.specs.declared.errno.Errno.TheVariants.{EIO}
use Rattle.lfs_fuse_calls.specs.Telling.{refusal_in, seen_in}
use Rattle.lfs_fuse_calls.specs.declared.told.Told.TheVariants.{Error}
use Rattle.lfs_mount.specs.Handled.{GoesOnFlags, hangs_in}
use Rattle.lfs_mount.proofs.HandledLemmas.{looked_on, looked_refused, looked_unseen}
use Rattle.lfs_mount.proofs.node_tree.NodeTree.flagged.Goals as goal

pub returns-in-Some-clause-told : goal.returns-in-Some-clause-told
returns-in-Some-clause-told g c =
    let state = g.F.FileStore.state in
    let flushed = g.F.FileStore.is_flushed in
    let hangs = hangs_in c.args.self.now.nodes in
    let reply = Error c.in-Some.errno in
    let new = c.calls.new.self.volume in
    let refused : refusal_in c.in-Ok.answers.items ≡ Some c.in-Some.errno =
    sym (ap refusal_in c.as_slice.ensures.value) ∙ sym c.refusal_in.ensures ∙ c.in-Some.is in
    inl (looked_refused state flushed c.args.head.now.cred hangs c.args.head.now.node
    (ioctl c.args.fields.now) reply c.args.self.now.volume new
    (λ between (present : Attrs). GoesOnFlags state flushed c.args.head.now.cred hangs c.args.head.now.node c.args.fields.now.command
    reply between new present.flags)
    c.in-Ok.answers.items c.in-Some.errno c.in-Ok.ensures.made refused refl)

pub returns-in-Some-seen_in-clause-told : goal.returns-in-Some-seen_in-clause-told
returns-in-Some-seen_in-clause-told g c =
    let state = g.F.FileStore.state in
    let flushed = g.F.FileStore.is_flushed in
    let hangs = hangs_in c.args.self.now.nodes in
    let reply = c.flags_told.result in
    let between = c.calls.new.self.volume in
    let new = c.flags_told.new.self.volume in
    let seen = c.in-Some-seen_in.seen in
    let served : refusal_in c.in-Ok.answers.items ≡ None = grind (arith, common_steps) in
    let was : seen_in c.in-Ok.answers.items ≡ Some seen =
    sym (ap seen_in c.as_slice-2.ensures.value) ∙ sym c.seen_in.ensures ∙ c.in-Some-seen_in.is in
    inl (looked_on state flushed c.args.head.now.cred hangs c.args.head.now.node
    (ioctl c.args.fields.now) reply c.args.self.now.volume between new
    (λ between (present : Attrs). GoesOnFlags state flushed c.args.head.now.cred hangs c.args.head.now.node c.args.fields.now.command
    reply between new present.flags)
    c.in-Ok.answers.items seen c.in-Ok.ensures.made served was
    (subst (λ n. GoesOnFlags state flushed c.args.head.now.cred
    (hangs_in n) c.args.head.now.node c.args.fields.now.command reply between new seen.attrs.flags) c.calls.ensures.nodes
    c.flags_told.ensures.told))

pub returns-clause-told : goal.returns-clause-told
returns-clause-told g c =
    let state = g.F.FileStore.state in
    let flushed = g.F.FileStore.is_flushed in
    let hangs = hangs_in c.args.self.now.nodes in
    let reply = Error EIO in
    let new = c.calls.new.self.volume in
    let served : refusal_in c.in-Ok.answers.items ≡ None = grind (arith, common_steps) in
    let unseen : seen_in c.in-Ok.answers.items ≡ None =
    sym (ap seen_in c.as_slice-2.ensures.value) ∙ sym c.seen_in.ensures ∙ c.in-None.is in
    inl (looked_unseen state flushed c.args.head.now.cred hangs c.args.head.now.node
    (ioctl c.args.fields.now) reply c.args.self.now.volume new
    (λ between (present : Attrs). GoesOnFlags state flushed c.args.head.now.cred hangs c.args.head.now.node c.args.fields.now.command
    reply between new present.flags)
    c.in-Ok.answers.items c.in-Ok.ensures.made served unseen refl)
