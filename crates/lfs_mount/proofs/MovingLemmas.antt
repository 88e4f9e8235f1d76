-- Nodes behind a message: `moves_node`, `moves_from` and `path_known` for those of a Rename, `handled_left` for a message
-- whose calls leave all, and `shown_behind` for what is told of any.
use Rattle.std.proofs.Common.{◌≡◌, ◌≢◌, ℕ, List, [], ◌∷◌, Bool, true, false, Option, None, Some, refl, sym, ap, subst, ◌∙◌}
use Rattle.std.proofs.Common.{inl, inr}
use Rattle.std.specs.Prelude.{◌==◌, IsSome, is_some, if◌then◌else◌}
use Rattle.std.specs.Option.{option_map}
use Rattle.lfs_types.specs.Caller.{Caller}
use Rattle.lfs_types.specs.StoreStates.{StoreState}
use Rattle.lfs_volume.specs.Seen.{Seen}
use Rattle.lfs_nodes.specs.Changes.{hung}
use Rattle.lfs_nodes.specs.Maps.{id_at, node_at, same_place}
use Rattle.lfs_nodes.specs.Moves.{gone_at, hung_at, moved_at}
use Rattle.lfs_nodes.specs.Nodes.{known, place_at, shown}
use Rattle.lfs_nodes.specs.Places.{place_of}
use Rattle.lfs_nodes.specs.Reads.{hang_in}
use Rattle.lfs_nodes.specs.Ways.{LeadsUp}
use Rattle.lfs_nodes.specs.declared.node.Hang.{Hang}
use Rattle.lfs_nodes.specs.declared.node.Hang.TheVariants.{At, Gone, Root}
use Rattle.lfs_nodes.specs.declared.node.Node.{Node}
use Rattle.lfs_nodes.specs.declared.parts.Parts.{Parts}
use Rattle.lfs_nodes.specs.declared.place.Place.{Place}
use Rattle.lfs_nodes.proofs.PlaceLemmas.{same_place-self, same_place-true}
use Rattle.lfs_nodes.proofs.TableLemmas.{changed_else, changed_here}
use Rattle.lfs_fuse_wire.specs.Said.{Said, init, destroy, lookup, forget, batch_forget, interrupt, getattr}
use Rattle.lfs_fuse_wire.specs.Said.{setattr, access, mknod, mkdir, create, unlink, rmdir, rename, opening, read}
use Rattle.lfs_fuse_wire.specs.Said.{write, flush, release, fsync, opendir, readdir, readdirplus, releasedir}
use Rattle.lfs_fuse_wire.specs.Said.{fsyncdir, statfs, ioctl, unserved, unknown}
use Rattle.lfs_fuse_reply.specs.declared.errno.Errno.{Errno}
use Rattle.lfs_fuse_calls.specs.Paths.{IsPathOf}
use Rattle.lfs_fuse_calls.specs.Telling.{refusal_told, seen_in}
use Rattle.lfs_fuse_calls.specs.declared.telling.Seen.{Seen as Stat}
use Rattle.lfs_fuse_calls.specs.declared.told.Told.{Told}
use Rattle.lfs_fuse_calls.specs.declared.told.Told.TheVariants as told
use Rattle.lfs_stamps.specs.Times.{dated}
use Rattle.lfs_stamps.specs.declared.stamps.Stamps.{Stamps}
use Rattle.lfs_opens.specs.Loans.{with_handle}
use Rattle.lfs_mount.specs.Entries.{NodesFollow}
use Rattle.lfs_mount.specs.Handled.{IsHandled, hangs_in}
use Rattle.lfs_mount.specs.Moving.{MovesIfDone, MovesNode, MovesUnless, NodesBehind, StandStill}
use Rattle.lfs_mount.specs.Trees.{UnlessRefused}

-- ---- the node of a path is known

hang_known : (o : Option Node) (h : Hang) → hang_in o ≡ Some h → IsSome o
hang_known None h e = absurd (cc)
hang_known (Some n) h e = refl

place_known : (o : Option Node) (place : Place) → place_of (hang_in o) ≡ Some place → IsSome o
place_known None place e = absurd (cc)
place_known (Some n) place e = refl

up_known : (nodes : Parts) (id : ℕ) (names : List (List ℕ)) (top : ℕ) → LeadsUp (hangs_in nodes) id names top
    → hangs_in nodes top ≡ Some Root → IsSome (node_at nodes.table id)
up_known nodes id [] top up root =
    hang_known (node_at nodes.table id) Root (subst (λ q. hangs_in nodes q ≡ Some Root) (sym up) root)
up_known nodes id (name ∷ names) top up root =
    place_known (node_at nodes.table id) (record { parent = up.0; name = name }) up.1

pub path_known : (nodes : Parts) (node : ℕ) (name : Option (List ℕ)) (path : List (List ℕ))
    → IsPathOf (hangs_in nodes) node name path → IsSome (node_at nodes.table node)
path_known nodes node name path leads =
    let way = leads.down.0 in up_known nodes node way.names way.top way.up way.holding.1

known_is : (o : Option Node) → is_some (option_map shown o) ≡ is_some o
known_is None = refl
known_is (Some n) = refl

pub there_still : (before after : Parts) (q : ℕ) → known after q ≡ known before q → IsSome (node_at before.table q)
    → IsSome (node_at after.table q)
there_still before after q same there =
    sym (known_is (node_at after.table q)) ∙ ap is_some same ∙ known_is (node_at before.table q) ∙ there

-- ---- a node that moves

over_if : (b : Bool) (o : Option Node) (h : Hang)
    → option_map (hung h) (if b then option_map (hung Gone) o else o) ≡ option_map (hung h) o
over_if true None h = refl
over_if true (Some n) h = refl
over_if false o h = refl

hung_over : (o : Option ℕ) (nodes : ℕ → Option Node) (q : ℕ) (h : Hang)
    → option_map (hung h) (gone_at o nodes q) ≡ option_map (hung h) (nodes q)
hung_over None nodes q h = refl
hung_over (Some k) nodes q h = over_if (q == k) (nodes q) h

gone_else : (o : Option ℕ) (nodes : ℕ → Option Node) (q : ℕ) → o ≢ Some q → gone_at o nodes q ≡ nodes q
gone_else None nodes q apart = refl
gone_else (Some k) nodes q apart = changed_else nodes k (hung Gone) q (λ f. apart (ap Some (sym f)))

hung_else : (o : Option ℕ) (place : Place) (nodes : ℕ → Option Node) (q : ℕ) → o ≢ Some q
    → hung_at o place nodes q ≡ nodes q
hung_else None place nodes q apart = refl
hung_else (Some k) place nodes q apart = changed_else nodes k (hung (At place)) q (λ f. apart (ap Some (sym f)))

module _ (from to : Place) (before after : Parts) (next : after.next ≡ before.next) where
  node_moves : ((q : ℕ) → known after q
      ≡ moved_at (id_at before.index from) (id_at before.index to) to (known before) q) → MovesNode from to before after
  node_moves is =
      let nodes = known before in
      let old = id_at before.index from in
      let new = id_at before.index to in
      record {
        moved = λ id e. is id ∙ ap (λ (o : Option ℕ). moved_at o new to nodes id) e
            ∙ changed_here (gone_at new (gone_at (Some id) nodes)) id (hung (At to))
            ∙ hung_over new (gone_at (Some id) nodes) id (At to) ∙ hung_over (Some id) nodes id (At to);
        replaced = λ id e apart. is id ∙ hung_else old to (gone_at new (gone_at old nodes)) id apart
            ∙ ap (λ (o : Option ℕ). gone_at o (gone_at old nodes) id) e
            ∙ changed_here (gone_at old nodes) id (hung Gone) ∙ hung_over old nodes id Gone;
        others = λ q apart free. is q ∙ hung_else old to (gone_at new (gone_at old nodes)) q apart
            ∙ gone_else new (gone_at old nodes) q free ∙ gone_else old nodes q apart;
        next = next;
      }

  pub moves_node : (from.parent ≡ to.parent → from.name ≡ to.name → (q : ℕ) → known after q ≡ known before q)
      → (from ≢ to → (q : ℕ) → known after q
      ≡ moved_at (id_at before.index from) (id_at before.index to) to (known before) q)
      → MovesUnless (same_place from to) from to before after
  moves_node stays moves = by_place (same_place from to) refl
    where
      by_place : (b : Bool) → same_place from to ≡ b → MovesUnless b from to before after
      by_place true e =
          let one = same_place-true from to e in
          record {
            nodes = stays (ap (λ (p : Place). p.parent) one) (ap (λ (p : Place). p.name) one);
            next = next;
          }
      by_place false e = node_moves (moves (λ f.
          let self : same_place from to ≡ true = subst (λ (p : Place). same_place from p ≡ true) f (same_place-self from) in
          absurd (cc)))

-- ---- nodes that stay

pub stands_same : (before after : Parts) → after ≡ before → StandStill before after
stands_same before after same =
    record { nodes = λ q. ap (λ (n : Parts). known n q) same; next = ap (λ (n : Parts). n.next) same }

-- ---- room was made before

module _ (before between : Parts) (same : (q : ℕ) → known between q ≡ known before q)
    (index : (p : Place) → id_at between.index p ≡ id_at before.index p) (next : between.next ≡ before.next) where
  still : (after : Parts) → StandStill between after → StandStill before after
  still after stand = record { nodes = λ q. stand.nodes q ∙ same q; next = stand.next ∙ next }

  unless : (b : Bool) (from to : Place) (after : Parts) → MovesUnless b from to between after
      → MovesUnless b from to before after
  unless true from to after stand = still after stand
  unless false from to after moves = record {
    moved = λ id e. moves.moved id (index from ∙ e) ∙ ap (option_map (hung (At to))) (same id);
    replaced = λ id e apart. moves.replaced id (index to ∙ e) (λ f. apart (sym (index from) ∙ f))
        ∙ ap (option_map (hung Gone)) (same id);
    others = λ q apart free. moves.others q (λ f. apart (sym (index from) ∙ f)) (λ f. free (sym (index to) ∙ f))
        ∙ same q;
    next = moves.next ∙ next;
  }

  pub moves_from : (reply : Told) (from to : Place) (after : Parts) → MovesIfDone reply from to between after
      → MovesIfDone reply from to before after
  moves_from told.Done from to after moves = unless (same_place from to) from to after moves
  moves_from (told.Error error) from to after stand = still after stand
  moves_from (told.Entry entry) from to after stand = still after stand
  moves_from (told.Attr attr) from to after stand = still after stand
  moves_from (told.Open opened) from to after stand = still after stand
  moves_from (told.Create entry opened) from to after stand = still after stand
  moves_from (told.Written count) from to after stand = still after stand
  moves_from (told.Bytes bytes) from to after stand = still after stand
  moves_from (told.Statfs room) from to after stand = still after stand
  moves_from (told.Init reply) from to after stand = still after stand
  moves_from told.Ioctl from to after stand = still after stand
  moves_from (told.Flags bits) from to after stand = still after stand
  moves_from (told.Extended bits) from to after stand = still after stand

-- ---- a message whose calls leave all nodes

left_unless : (refusal : Option Errno) (Goes : Type 0) (before after : Parts) → (Goes → after ≡ before)
    → UnlessRefused refusal Goes before after → after ≡ before
left_unless None Goes before after left goes = left goes
left_unless (Some error) Goes before after left same = same

pub handled_left : {F : Type 0} (state : F → StoreState) (is_flushed : F → Type 0) (caller : Caller)
    (nodes nodes_after : Parts) (node : ℕ) (message : Said) (reply : Told) (old new : Seen F)
    → ((seen : Option Stat) → NodesFollow message node seen reply nodes nodes_after → nodes_after ≡ nodes)
    → IsHandled state is_flushed caller nodes nodes_after node message reply old new → nodes_after ≡ nodes
handled_left state is_flushed caller nodes nodes_after node message reply old new left (inl called) =
    left_unless (refusal_told message called.answers)
    (NodesFollow message node (seen_in called.answers) reply nodes nodes_after) nodes nodes_after
    (left (seen_in called.answers)) called.follows
handled_left state is_flushed caller nodes nodes_after node message reply old new left (inr refused) = refused.1

-- ---- what is told has times and a handle

dated_moves : (times : List Stamps) (reply : Told) (from to : Place) (before after : Parts)
    → MovesIfDone reply from to before after → MovesIfDone (dated times reply) from to before after
dated_moves times told.Done from to before after is = is
dated_moves times (told.Error error) from to before after is = is
dated_moves times (told.Entry entry) from to before after is = is
dated_moves times (told.Attr attr) from to before after is = is
dated_moves times (told.Open opened) from to before after is = is
dated_moves times (told.Create entry opened) from to before after is = is
dated_moves times (told.Written count) from to before after is = is
dated_moves times (told.Bytes bytes) from to before after is = is
dated_moves times (told.Statfs room) from to before after is = is
dated_moves times (told.Init reply) from to before after is = is
dated_moves times told.Ioctl from to before after is = is
dated_moves times (told.Flags bits) from to before after is = is
dated_moves times (told.Extended bits) from to before after is = is

module _ (times : List Stamps) (slot : Option ℕ) (node : ℕ) (reply : Told) (before after : Parts) where
  abbrev Shows : Said → Type 0
  Shows message = NodesBehind message node reply before after
      → NodesBehind message node (dated times (with_handle slot message reply)) before after

  pub shown_behind : (message : Said) → Shows message
  shown_behind (init fields) is = is
  shown_behind destroy is = is
  shown_behind (lookup name) is = is
  shown_behind (forget fields) is = is
  shown_behind (batch_forget bytes) is = is
  shown_behind (interrupt number) is = is
  shown_behind (getattr fields) is = is
  shown_behind (setattr fields) is = is
  shown_behind (access fields) is = is
  shown_behind (mknod fields name) is = is
  shown_behind (mkdir fields name) is = is
  shown_behind (create fields name) is = is
  shown_behind (unlink name) is = is
  shown_behind (rmdir name) is = is
  shown_behind (rename fields name new_name) is =
      dated_moves times reply (place_at node name) (place_at fields.directory new_name) before after is
  shown_behind (opening fields) is = is
  shown_behind (read fields) is = is
  shown_behind (write fields bytes) is = is
  shown_behind (flush fields) is = is
  shown_behind (release fields) is = is
  shown_behind (fsync fields) is = is
  shown_behind (opendir fields) is = is
  shown_behind (readdir fields) is = is
  shown_behind (readdirplus fields) is = is
  shown_behind (releasedir fields) is = is
  shown_behind (fsyncdir fields) is = is
  shown_behind statfs is = is
  shown_behind (ioctl fields) is = is
  shown_behind (unserved kind) is = is
  shown_behind (unknown number) is = is
