use Rattle.std.proofs.Common.{◌≡◌, ℕ, List, Option, IfSome, sym, ap, subst, ◌∙◌, ⊎_elim}
use Rattle.lfs_fuse_wire.specs.Said.{Said, create}
use Rattle.lfs_fuse_wire.specs.Views.{view}
use Rattle.lfs_fuse_calls.specs.Telling.{named_in, seen_in}
use Rattle.lfs_fuse_calls.specs.declared.telling.Seen.{Seen as Sight}
use Rattle.lfs_mount.specs.Entries.{LosesNode, NamesSeen, NodesFollow}
use Rattle.lfs_mount.specs.Trees.{FindsRow, LeavesNodes, LosesRow}
use Rattle.lfs_mount.proofs.node_tree.NodeTree.served_told.Goals as goal

pub returns-in-Create-clause-nodes : goal.returns-in-Create-clause-nodes
returns-in-Create-clause-nodes g c =
    let node = c.args.head.now.node in
    let seen = seen_in c.args.served.answers.items in
    let before = c.args.self.now.nodes in
    let after = c.created_told.new.self.nodes in
    let said : view c.args.message.now ≡ create c.in-Create.field-0 c.in-Create.field-1.now = ap view c.in-Create.is in
    let shown : c.seen_in-seen.result ≡ seen = c.seen_in-seen.ensures ∙ ap seen_in c.as_slice.ensures.value in
    subst (λ m. c.args.served.name ≡ named_in m → LeavesNodes m node seen before after) (sym said)
    (λ named. subst (λ (n : Option (List ℕ)). FindsRow n seen node before after) named
    (subst (λ (s : Option Sight). FindsRow c.args.served.name s node before after) shown c.created_told.ensures.nodes))

pub returns-in-Unlink-clause-nodes : goal.returns-in-Unlink-clause-nodes
returns-in-Unlink-clause-nodes g c =
    let node = c.args.head.now.node in
    let seen = seen_in c.args.served.answers.items in
    let before = c.args.self.now.nodes in
    let after = c.removed_told.new.self.nodes in
    let leaves : Said → Type 0 = λ m. c.args.served.name ≡ named_in m → LeavesNodes m node seen before after in
    ⊎_elim
    (λ h. subst leaves (sym (ap view h.1))
    (λ named. subst (λ (n : Option (List ℕ)). LosesRow n node before after) named c.removed_told.ensures.nodes))
    (λ h. subst leaves (sym (ap view h.1))
    (λ named. subst (λ (n : Option (List ℕ)). LosesRow n node before after) named c.removed_told.ensures.nodes))
    c.in-Unlink.is

pub returns-in-Lookup-clause-nodes : goal.returns-in-Lookup-clause-nodes
returns-in-Lookup-clause-nodes g c =
    let node = c.args.head.now.node in
    let seen = seen_in c.args.served.answers.items in
    let before = c.args.self.now.nodes in
    let after = c.entry_told.new.self.nodes in
    let leaves : Said → Type 0 = λ m. c.args.served.name ≡ named_in m → LeavesNodes m node seen before after in
    let shown : c.seen_in-seen-in-Lookup.result ≡ seen =
    c.seen_in-seen-in-Lookup.ensures ∙ ap seen_in c.as_slice-in-Lookup.ensures.value in
    let finds = subst (λ (s : Option Sight). FindsRow c.args.served.name s node before after) shown
    c.entry_told.ensures.nodes in
    ⊎_elim
    (λ h. subst leaves (sym (ap view h.1))
    (λ named. subst (λ (n : Option (List ℕ)). FindsRow n seen node before after) named finds))
    (⊎_elim
    (λ h. subst leaves (sym (ap view h.2))
    (λ named. subst (λ (n : Option (List ℕ)). FindsRow n seen node before after) named finds))
    (λ h. subst leaves (sym (ap view h.2))
    (λ named. subst (λ (n : Option (List ℕ)). FindsRow n seen node before after) named finds)))
    c.in-Lookup.is

pub returns-in-Create-clause-follows : goal.returns-in-Create-clause-follows
returns-in-Create-clause-follows g c =
    let node = c.args.head.now.node in
    let seen = seen_in c.args.served.answers.items in
    let reply = c.created_told.result in
    let before = c.args.self.now.nodes in
    let after = c.created_told.new.self.nodes in
    let said : view c.args.message.now ≡ create c.in-Create.field-0 c.in-Create.field-1.now = ap view c.in-Create.is in
    let shown : c.seen_in-seen.result ≡ seen = c.seen_in-seen.ensures ∙ ap seen_in c.as_slice.ensures.value in
    subst (λ m. c.args.served.name ≡ named_in m → NodesFollow m node seen reply before after) (sym said)
    (λ named. subst (λ (n : Option (List ℕ)). IfSome n (λ it. NamesSeen node it seen reply before after)) named
    (subst (λ (s : Option Sight). IfSome c.args.served.name (λ it. NamesSeen node it s reply before after)) shown
    c.created_told.ensures.named))

pub returns-in-Unlink-clause-follows : goal.returns-in-Unlink-clause-follows
returns-in-Unlink-clause-follows g c =
    let node = c.args.head.now.node in
    let seen = seen_in c.args.served.answers.items in
    let reply = c.removed_told.result in
    let before = c.args.self.now.nodes in
    let after = c.removed_told.new.self.nodes in
    let follow : Said → Type 0 = λ m. c.args.served.name ≡ named_in m → NodesFollow m node seen reply before after in
    ⊎_elim
    (λ h. subst follow (sym (ap view h.1))
    (λ named. subst (λ (n : Option (List ℕ)). IfSome n (λ it. LosesNode node it before after)) named
    c.removed_told.ensures.gone))
    (λ h. subst follow (sym (ap view h.1))
    (λ named. subst (λ (n : Option (List ℕ)). IfSome n (λ it. LosesNode node it before after)) named
    c.removed_told.ensures.gone))
    c.in-Unlink.is

pub returns-in-Lookup-clause-follows : goal.returns-in-Lookup-clause-follows
returns-in-Lookup-clause-follows g c =
    let node = c.args.head.now.node in
    let seen = seen_in c.args.served.answers.items in
    let reply = c.entry_told.result in
    let before = c.args.self.now.nodes in
    let after = c.entry_told.new.self.nodes in
    let follow : Said → Type 0 = λ m. c.args.served.name ≡ named_in m → NodesFollow m node seen reply before after in
    let Named : Option (List ℕ) → Type 0 = λ n. IfSome n (λ it. NamesSeen node it seen reply before after) in
    let shown : c.seen_in-seen-in-Lookup.result ≡ seen =
    c.seen_in-seen-in-Lookup.ensures ∙ ap seen_in c.as_slice-in-Lookup.ensures.value in
    let is : Named c.args.served.name =
    subst (λ (s : Option Sight). IfSome c.args.served.name (λ it. NamesSeen node it s reply before after)) shown
    c.entry_told.ensures.named in
    ⊎_elim
    (λ h. subst follow (sym (ap view h.1)) (λ named. subst Named named is))
    (⊎_elim
    (λ h. subst follow (sym (ap view h.2)) (λ named. subst Named named is))
    (λ h. subst follow (sym (ap view h.2)) (λ named. subst Named named is)))
    c.in-Lookup.is
