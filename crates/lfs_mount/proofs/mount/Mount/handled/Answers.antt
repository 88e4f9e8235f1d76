use Rattle.std.proofs.Common.{◌≡◌, Option, sym, ap, subst, ⊎_elim}
use Rattle.lfs_nodes.specs.declared.parts.Parts.{Parts}
use Rattle.lfs_fuse_wire.specs.Said.{Said}
use Rattle.lfs_fuse_wire.specs.Views.{view}
use Rattle.lfs_fuse_calls.specs.declared.telling.Seen.{Seen as Stat}
use Rattle.lfs_mount.specs.Entries.{NodesFollow}
use Rattle.lfs_mount.specs.Handled.{IsHandled, hangs_in}
use Rattle.lfs_mount.specs.Moving.{NodesBehind}
use Rattle.lfs_mount.specs.Trees.{StayTrue}
use Rattle.lfs_mount.proofs.MovingLemmas.{handled_left}
use Rattle.lfs_mount.proofs.StayLemmas.{flagged_stay, listed_stay, released_stay, set_attr_stay, synced_stay}
use Rattle.lfs_mount.proofs.mount.Mount.handled.Goals as goal

pub returns-in-SetAttr-clause-stay : goal.returns-in-SetAttr-clause-stay
returns-in-SetAttr-clause-stay g c =
    let state = g.F.FileStore.state in
    let volume = c.args.self.now.tree.volume in
    let nodes = c.args.self.now.tree.nodes in
    let new = c.set_attr.new.self.volume in
    subst (λ (n : Parts). StayTrue state volume nodes new n) (sym c.set_attr.ensures.nodes)
    (set_attr_stay state g.F.FileStore.is_flushed nodes c.args.head.now.cred (hangs_in nodes) c.args.head.now.node c.in-SetAttr.fields
    c.set_attr.result volume new c.set_attr.ensures.told)

pub returns-in-Ioctl-clause-stay : goal.returns-in-Ioctl-clause-stay
returns-in-Ioctl-clause-stay g c =
    let state = g.F.FileStore.state in
    let volume = c.args.self.now.tree.volume in
    let nodes = c.args.self.now.tree.nodes in
    let new = c.flagged.new.self.volume in
    subst (λ (n : Parts). StayTrue state volume nodes new n) (sym c.flagged.ensures.nodes)
    (flagged_stay state g.F.FileStore.is_flushed nodes c.args.head.now.cred (hangs_in nodes) c.args.head.now.node c.in-Ioctl.fields
    c.flagged.result volume new c.flagged.ensures.told)

pub returns-in-Release-clause-stay : goal.returns-in-Release-clause-stay
returns-in-Release-clause-stay g c =
    let state = g.F.FileStore.state in
    let volume = c.args.self.now.tree.volume in
    let nodes = c.args.self.now.tree.nodes in
    let new = c.released.new.self.volume in
    subst (λ (n : Parts). StayTrue state volume nodes new n) (sym c.released.ensures.nodes)
    (released_stay state g.F.FileStore.is_flushed nodes c.args.head.now.cred (hangs_in nodes) c.args.head.now.node c.args.due
    c.released.result volume new c.released.ensures.told)

pub returns-in-Fsync-clause-stay : goal.returns-in-Fsync-clause-stay
returns-in-Fsync-clause-stay g c =
    let state = g.F.FileStore.state in
    let volume = c.args.self.now.tree.volume in
    let nodes = c.args.self.now.tree.nodes in
    let new = c.synced.new.self.volume in
    subst (λ (n : Parts). StayTrue state volume nodes new n) (sym c.synced.ensures.nodes)
    (synced_stay state g.F.FileStore.is_flushed nodes c.args.head.now.cred c.synced.result volume new c.synced.ensures.told)

pub returns-in-Opendir-clause-stay : goal.returns-in-Opendir-clause-stay
returns-in-Opendir-clause-stay g c =
    let state = g.F.FileStore.state in
    let volume = c.args.self.now.tree.volume in
    let nodes = c.args.self.now.tree.nodes in
    let new = c.directory_opened.new.self.volume in
    subst (λ (n : Parts). StayTrue state volume nodes new n) (sym c.directory_opened.ensures.nodes)
    (listed_stay state g.F.FileStore.is_flushed nodes c.args.head.now.cred (hangs_in nodes) c.args.head.now.node c.in-Opendir.fields
    c.args.self.now.beside.listings c.directory_opened.new.listings c.directory_opened.result volume new
    c.directory_opened.ensures.told)

-- of the messages whose calls are known when they come: those that tell an entry or remove one say themselves what
-- becomes of nodes, the others leave all
pub returns-in-Lookup-clause-behind : goal.returns-in-Lookup-clause-behind
returns-in-Lookup-clause-behind g c =
    let state = g.F.FileStore.state in
    let flushed = g.F.FileStore.is_flushed in
    let who = c.args.head.now.cred in
    let node = c.args.head.now.node in
    let reply = c.once.result in
    let volume = c.args.self.now.tree.volume in
    let new = c.once.new.self.volume in
    let before = c.args.self.now.tree.nodes in
    let after = c.once.new.self.nodes in
    let said = view c.args.message.now in
    let Behind : Said → Type 0 = λ m. NodesBehind m node reply before after in
    let left : (m : Said) → said ≡ m → ((seen : Option Stat) → NodesFollow m node seen reply before after
    → after ≡ before) → after ≡ before =
    λ m is plain. handled_left state flushed who before after node m reply volume new plain
    (subst (λ (it : Said). IsHandled state flushed who before after node it reply volume new) is c.once.ensures.told) in
    let over = λ (m : Said) (is : said ≡ m) (holds : Behind m). subst Behind (sym is) holds in
    ⊎_elim (λ h. over _ (ap view h.1) tt)
    (⊎_elim (λ h. over _ (ap view h.1) (left _ (ap view h.1) (λ seen same. same)))
    (⊎_elim (λ h. over _ (ap view h.1) (left _ (ap view h.1) (λ seen same. same)))
    (⊎_elim (λ h. over _ (ap view h.2) tt)
    (⊎_elim (λ h. over _ (ap view h.2) tt)
    (⊎_elim (λ h. over _ (ap view h.1) tt)
    (⊎_elim (λ h. over _ (ap view h.1) tt)
    (⊎_elim (λ h. over _ (ap view h.1) (left _ (ap view h.1) (λ seen same. same)))
    (⊎_elim (λ h. over _ (ap view h.1) (left _ (ap view h.1) (λ seen same. same)))
    (λ h. over _ (ap view h.2) (left _ (ap view h.2) (λ seen same. same)))))))))))
    c.in-Lookup.is
