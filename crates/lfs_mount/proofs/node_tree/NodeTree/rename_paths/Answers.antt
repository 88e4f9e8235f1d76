use Rattle.std.proofs.Common.{◌≡◌, ℕ, sym, ap, subst, ◌∙◌}
use Rattle.std.specs.Prelude.{IsSome}
use Rattle.lfs_nodes.specs.declared.parts.Parts.{Parts}
use Rattle.lfs_nodes.specs.Maps.{node_at}
use Rattle.lfs_nodes.specs.Nodes.{known, place_at}
use Rattle.lfs_fuse_calls.specs.Telling.{refusal_in}
use Rattle.lfs_mount.specs.Moving.{MovesIfDone, StandStill}
use Rattle.lfs_mount.specs.Trees.{MovesRow, StayTrue, UnlessRefused}
use Rattle.lfs_mount.proofs.MovingLemmas.{moves_from, there_still}
use Rattle.lfs_mount.proofs.StayLemmas.{known_stay, renamed_stay}
use Rattle.lfs_mount.proofs.node_tree.NodeTree.rename_paths.Goals as goal

pub returns-then-is_err-clause-stay : goal.returns-then-is_err-clause-stay
returns-then-is_err-clause-stay g c leads leads_to =
    known_stay g.F.FileStore.state g.F.FileStore.is_flushed c.args.self.now.volume c.args.self.now.nodes
    c.make_room.new.self c.make_room.ensures.same

pub returns-in-Ok-clause-stay : goal.returns-in-Ok-clause-stay
returns-in-Ok-clause-stay g c leads leads_to =
    let state = g.F.FileStore.state in
    let before = c.args.self.now.nodes in
    let between = c.one.new.self.nodes in
    let after = c.moved.new.self.nodes in
    let it = c.args.renaming in
    let answers = c.in-Ok.answers.items in
    let same : (q : ℕ) → known between q ≡ known before q =
    λ q. ap (λ (n : Parts). known n q) c.one.ensures.nodes ∙ c.make_room.ensures.same q in
    let moves = subst (λ l. UnlessRefused (refusal_in l)
    (MovesRow it.from.0 it.name it.to.0 it.new_name between after) between after) c.as_slice.ensures.value
    c.moved.ensures.nodes in
    subst (λ v. StayTrue state c.args.self.now.volume before v after) (sym c.moved.ensures.volume)
    (renamed_stay state g.F.FileStore.is_flushed c.args.cred.now c.args.paths.from c.args.paths.to it.from.0 it.name
    it.to.0 it.new_name answers c.args.self.now.volume c.one.new.self.volume before between after same
    c.in-Ok.ensures.made moves leads leads_to)

pub returns-in-Err-clause-stay : goal.returns-in-Err-clause-stay
returns-in-Err-clause-stay g c leads leads_to =
    let state = g.F.FileStore.state in
    let volume = c.args.self.now.volume in
    let before = c.args.self.now.nodes in
    let between = c.one.new.self.nodes in
    let same : (q : ℕ) → known between q ≡ known before q =
    λ q. ap (λ (n : Parts). known n q) c.one.ensures.nodes ∙ c.make_room.ensures.same q in
    subst (λ v. StayTrue state volume before v between) (sym c.in-Err.ensures.none)
    (known_stay state g.F.FileStore.is_flushed volume before between same)

pub returns-then-is_err-clause-moves : goal.returns-then-is_err-clause-moves
returns-then-is_err-clause-moves g c there =
    record { nodes = c.make_room.ensures.same; next = c.make_room.ensures.next }

pub returns-in-Ok-clause-moves : goal.returns-in-Ok-clause-moves
returns-in-Ok-clause-moves g c there =
    let before = c.args.self.now.nodes in
    let room = c.make_room.new.self in
    let it = c.args.renaming in
    let from = place_at it.from.0 it.name in
    let to = place_at it.to.0 it.new_name in
    let after = c.moved.new.self.nodes in
    moves_from before room c.make_room.ensures.same c.make_room.ensures.index c.make_room.ensures.next
    c.moved.result from to after
    (subst (λ (n : Parts). IsSome (node_at n.table it.to.0) → MovesIfDone c.moved.result from to n after)
    c.one.ensures.nodes c.moved.ensures.moves
    (there_still before room it.to.0 (c.make_room.ensures.same it.to.0) there))

pub returns-in-Err-clause-moves : goal.returns-in-Err-clause-moves
returns-in-Err-clause-moves g c there =
    subst (λ (n : Parts). StandStill c.args.self.now.nodes n) (sym c.one.ensures.nodes)
    (record { nodes = c.make_room.ensures.same; next = c.make_room.ensures.next })
