use Rattle.std.proofs.Common.{◌≡◌, inl, IfOk, List, ℕ, true, false, None, Some, refl, sym, ap, subst, ◌∙◌}
use Rattle.lfs_nodes.specs.declared.parts.Parts.{Parts}
use Rattle.lfs_nodes.specs.Nodes.{place_at}
use Rattle.lfs_fuse_reply.specs.declared.errno.Errno.TheVariants.{EEXIST}
use Rattle.lfs_fuse_calls.specs.Paths.{IsPathOf}
use Rattle.lfs_fuse_calls.specs.Telling.{refusal_in}
use Rattle.lfs_fuse_calls.specs.declared.told.Told.TheVariants.{Error}
use Rattle.lfs_mount.specs.Handled.{IsRenamed, hangs_in, is_missing}
use Rattle.lfs_mount.specs.Moving.{MovesIfDone}
use Rattle.lfs_mount.proofs.HandledLemmas.{sought_free, sought_refused, sought_there}
use Rattle.lfs_mount.proofs.MovingLemmas.{stands_same}
use Rattle.lfs_mount.proofs.StayLemmas.{stat_stay}
use Rattle.lfs_mount.proofs.node_tree.NodeTree.renamed_to_free.Goals as goal

pub returns-in-None-clause-told : goal.returns-in-None-clause-told
returns-in-None-clause-told g c =
    let state = g.F.FileStore.state in
    let flushed = g.F.FileStore.is_flushed in
    let hangs = hangs_in c.args.self.now.nodes in
    let from = c.args.spots.now.from in
    let to = c.args.spots.now.to in
    let leads : IsPathOf hangs to.node (Some to.name.now) c.in-Ok.path =
    subst (λ r. IfOk r (λ (path : List (List ℕ)). IsPathOf hangs to.node (Some to.name.now) path)) c.in-Ok.is
    c.path_of.ensures.path in
    let served : refusal_in c.in-Ok-one.answers.items ≡ None =
    sym (ap refusal_in c.as_slice.ensures.value) ∙ sym c.refusal_in.ensures ∙ c.in-None.is in
    inl (sought_there state flushed c.args.cred.now hangs from.node from.name.now to.node to.name.now
    (Error EEXIST) c.args.self.now.volume c.one.new.self.volume
    c.in-Ok.path c.in-Ok-one.answers.items leads c.in-Ok-one.ensures.made served refl)

pub returns-then-is_missing-clause-told : goal.returns-then-is_missing-clause-told
returns-then-is_missing-clause-told g c =
    let state = g.F.FileStore.state in
    let flushed = g.F.FileStore.is_flushed in
    let hangs = hangs_in c.args.self.now.nodes in
    let from = c.args.spots.now.from in
    let to = c.args.spots.now.to in
    let between = c.one.new.self.volume in
    let new = c.renamed.new.self.volume in
    let leads : IsPathOf hangs to.node (Some to.name.now) c.in-Ok.path =
    subst (λ r. IfOk r (λ (path : List (List ℕ)). IsPathOf hangs to.node (Some to.name.now) path)) c.in-Ok.is
    c.path_of.ensures.path in
    let refused : refusal_in c.in-Ok-one.answers.items ≡ Some c.in-Some.errno =
    sym (ap refusal_in c.as_slice.ensures.value) ∙ sym c.refusal_in.ensures ∙ c.in-Some.is in
    let missing : is_missing c.in-Some.errno ≡ true = sym c.is_missing.ensures ∙ c.if-is_missing.true in
    inl (sought_free state flushed c.args.cred.now hangs from.node from.name.now to.node to.name.now c.renamed.result
    c.args.self.now.volume between new
    c.in-Ok.path c.in-Ok-one.answers.items c.in-Some.errno leads c.in-Ok-one.ensures.made refused missing
    (subst (λ n. IsRenamed state flushed c.args.cred.now
    (hangs_in n) from.node from.name.now to.node to.name.now c.renamed.result between new) c.one.ensures.nodes
    c.renamed.ensures.told))

pub returns-clause-told : goal.returns-clause-told
returns-clause-told g c =
    let state = g.F.FileStore.state in
    let flushed = g.F.FileStore.is_flushed in
    let hangs = hangs_in c.args.self.now.nodes in
    let from = c.args.spots.now.from in
    let to = c.args.spots.now.to in
    let leads : IsPathOf hangs to.node (Some to.name.now) c.in-Ok.path =
    subst (λ r. IfOk r (λ (path : List (List ℕ)). IsPathOf hangs to.node (Some to.name.now) path)) c.in-Ok.is
    c.path_of.ensures.path in
    let refused : refusal_in c.in-Ok-one.answers.items ≡ Some c.in-Some.errno =
    sym (ap refusal_in c.as_slice.ensures.value) ∙ sym c.refusal_in.ensures ∙ c.in-Some.is in
    let other : is_missing c.in-Some.errno ≡ false = sym c.is_missing.ensures ∙ c.if-is_missing.false in
    inl (sought_refused state flushed c.args.cred.now hangs from.node from.name.now to.node to.name.now
    (Error c.in-Some.errno) c.args.self.now.volume c.one.new.self.volume
    c.in-Ok.path c.in-Ok-one.answers.items c.in-Some.errno leads c.in-Ok-one.ensures.made refused other refl)

pub returns-in-None-clause-stay : goal.returns-in-None-clause-stay
returns-in-None-clause-stay g c =
    stat_stay g.F.FileStore.state g.F.FileStore.is_flushed c.args.cred.now c.in-Ok.path c.in-Ok-one.answers.items
    c.args.self.now.volume c.one.new.self.volume c.args.self.now.nodes c.one.new.self.nodes c.in-Ok-one.ensures.made
    c.one.ensures.nodes

pub returns-then-is_missing-clause-stay : goal.returns-then-is_missing-clause-stay
returns-then-is_missing-clause-stay g c = λ are.
    c.renamed.ensures.stay
    (stat_stay g.F.FileStore.state g.F.FileStore.is_flushed c.args.cred.now c.in-Ok.path c.in-Ok-one.answers.items
    c.args.self.now.volume c.one.new.self.volume c.args.self.now.nodes c.one.new.self.nodes c.in-Ok-one.ensures.made
    c.one.ensures.nodes are)

pub returns-clause-stay : goal.returns-clause-stay
returns-clause-stay g c =
    stat_stay g.F.FileStore.state g.F.FileStore.is_flushed c.args.cred.now c.in-Ok.path c.in-Ok-one.answers.items
    c.args.self.now.volume c.one.new.self.volume c.args.self.now.nodes c.one.new.self.nodes c.in-Ok-one.ensures.made
    c.one.ensures.nodes

pub returns-then-is_missing-clause-moves : goal.returns-then-is_missing-clause-moves
returns-then-is_missing-clause-moves g c =
    let from = c.args.spots.now.from in
    let to = c.args.spots.now.to in
    subst (λ (n : Parts). MovesIfDone c.renamed.result (place_at from.node from.name.now)
    (place_at to.node to.name.now) n c.renamed.new.self.nodes) c.one.ensures.nodes c.renamed.ensures.moves

pub returns-in-None-clause-moves : goal.returns-in-None-clause-moves
returns-in-None-clause-moves g c = stands_same c.args.self.now.nodes c.one.new.self.nodes c.one.ensures.nodes

pub returns-clause-moves : goal.returns-clause-moves
returns-clause-moves g c = stands_same c.args.self.now.nodes c.one.new.self.nodes c.one.ensures.nodes
