use Rattle.std.proofs.Common.{◌≡◌, ℕ, Option, ◌∙◌, ap, subst, sym}
use Rattle.std.specs.Prelude.{IfSome, IsSome}
use Rattle.lfs_fuse_wire.specs.Views.{view}
use Rattle.lfs_stamps.specs.Change.{change_of, other_node}
use Rattle.lfs_stamps.specs.Times.{dated, stamped}
use Rattle.lfs_stamps.specs.declared.change.Change.{Change}
use Rattle.lfs_stamps.specs.declared.times.Times.{Times}
use Rattle.lfs_nodes.specs.declared.parts.Parts.{Parts}
use Rattle.lfs_fuse_calls.specs.declared.told.Told.{Told}
use Rattle.lfs_mount.specs.Answered.{live_in, rows_in}
use Rattle.lfs_mount.specs.Forgetting.{IsForgetting}
use Rattle.lfs_mount.specs.Handled.{IsTold}
use Rattle.lfs_opens.specs.Listing.{AreListed}
use Rattle.lfs_opens.specs.declared.listing.Listings.{Listings}
use Rattle.lfs_mount.specs.Moving.{NodesBehind}
use Rattle.lfs_opens.specs.Loans.{due, noted}
use Rattle.lfs_mount.specs.Trees.{StayTrue}
use Rattle.lfs_opens.specs.Opens.{AreLeft, IsFree, opened_on}
use Rattle.lfs_opens.specs.declared.loans.Loans.{Loans}
use Rattle.lfs_opens.specs.declared.opens.Opens.{Opens}
use Rattle.lfs_mount.specs.declared.mount.Sizes.{Sizes}
use Rattle.lfs_mount.proofs.LookedLemmas.{look_then_stays}
use Rattle.lfs_mount.proofs.MovingLemmas.{shown_behind}
use Rattle.lfs_mount.proofs.mount.Mount.called.Goals as goal

pub returns-clause-told : goal.returns-clause-told
returns-clause-told g c =
    let state = g.F.FileStore.state in
    let flushed = g.F.FileStore.is_flushed in
    let before = c.args.self.now.beside in
    let nodes = c.args.self.now.tree.nodes in
    let nodes_after = c.handled-told.new.self.tree.nodes in
    let sizes = c.args.self.now.sizes in
    let node = c.args.head.now.node in
    let who = c.args.head.now.cred in
    let said = view c.args.message.now in
    let now = c.args.head.now.time in
    let left = c.prepare-left.new.self in
    let told = c.handled-told.result in
    let new = c.handled-told.new.self.tree.volume in
    let given : c.due-due.result ≡ due said before.loans.modes.items (live_in nodes node) =
    c.due-due.ensures ∙ ap (λ (row : Option ℕ). due said before.loans.modes.items row) c.live_row-live.ensures in
    let last = c.handled-told.new.self.beside in
    let kept_times : last.times ≡ before.times = c.handled-told.ensures.times ∙ c.prepare-left.ensures.times in
    let kept_loans : last.loans ≡ before.loans = c.handled-told.ensures.loans ∙ c.prepare-left.ensures.loans in
    let times = last.times.stamps.items in
    let row = c.row-row.result in
    let other = c.row-other.result in
    let change = c.change_of-change.result in
    let elsewhere : other ≡ rows_in nodes (other_node said) =
    c.row-other.ensures ∙ ap (λ (n : ℕ). rows_in nodes n) c.other_node.ensures in
    record {
      told = told;
      between = left.tree.volume;
      left = c.prepare-left.result;
      leaves = c.prepare-left.ensures.leaves;
      none = c.prepare-left.ensures.none;
      looked = c.prepare-left.ensures.looked;
      prepared = left.beside.opens.files.items;
      kept = c.prepare-left.ensures.kept;
      is =
          subst (λ (l : Listings). IsTold state flushed sizes (due said before.loans.modes.items (live_in nodes node)) who
          nodes nodes_after l last.listings node said told left.tree.volume new) c.prepare-left.ensures.listings
          (subst (λ (d : Option ℕ). IsTold state flushed sizes d who nodes nodes_after left.beside.listings last.listings node said
          told left.tree.volume new) given
          (subst (λ (n : Parts). IsTold state flushed sizes c.due-due.result who n nodes_after left.beside.listings last.listings
          node said told left.tree.volume new) c.prepare-left.ensures.nodes
          (subst (λ (s : Sizes). IsTold state flushed s c.due-due.result who left.tree.nodes nodes_after
          left.beside.listings last.listings node said told left.tree.volume new) c.prepare-left.ensures.sizes
          c.handled-told.ensures.told)));
      listed = subst (λ (l : Listings). AreListed said l last.listings) c.prepare-left.ensures.listings
          c.handled-told.ensures.listed;
      times = c.stamp.ensures
          ∙ ap (λ (r : Option ℕ). stamped now r other change times) c.row-row.ensures
          ∙ ap (λ (r : Option ℕ). stamped now (rows_in nodes node) r change times) elsewhere
          ∙ ap (λ (it : Change). stamped now (rows_in nodes node) (rows_in nodes (other_node said)) it times)
          c.change_of-change.ensures
          ∙ ap (λ (t : Times). stamped now (rows_in nodes node) (rows_in nodes (other_node said))
          (change_of said told) t.stamps.items) kept_times;
      loans = c.note.ensures ∙ ap (λ (l : Loans). noted said told l.modes.items) kept_loans;
      slot = c.note-slot.result;
      free = subst (λ (o : Opens). IfSome c.note-slot.result
          (λ s. IsFree o.files.items s × IsSome (opened_on said node told))) c.handled-told.ensures.opens
          c.note-slot.ensures.free;
      opens = subst (λ (o : Opens). AreLeft said node who told c.prepare-left.result c.note-slot.result o.files.items
          c.note-slot.new.self.files.items) c.handled-told.ensures.opens c.note-slot.ensures.files;
      shown = c.dated.ensures ∙ ap (λ (t : Told). dated c.stamp.new.self.stamps.items t) c.with_handle.ensures;
    }

pub returns-clause-stay : goal.returns-clause-stay
returns-clause-stay g c =
    let state = g.F.FileStore.state in
    let left = c.prepare-left.new.self in
    let new = c.handled-told.new.self.tree in
    look_then_stays state c.args.self.now.tree.nodes new.nodes c.args.self.now.tree.volume left.tree.volume new.volume
    c.prepare-left.ensures.looked
    (subst (λ (n : Parts). StayTrue state left.tree.volume n new.volume new.nodes) c.prepare-left.ensures.nodes
    c.handled-told.ensures.stay)

pub returns-clause-forgets : goal.returns-clause-forgets
returns-clause-forgets g c =
    subst (λ (n : Parts). IsForgetting (view c.args.message.now) c.args.head.now.node n c.handled-told.new.self.tree.nodes)
    c.prepare-left.ensures.nodes c.handled-told.ensures.forgets

pub returns-clause-behind : goal.returns-clause-behind
returns-clause-behind g c =
    let said = view c.args.message.now in
    let node = c.args.head.now.node in
    let told = c.handled-told.result in
    let before = c.args.self.now.tree.nodes in
    let after = c.handled-told.new.self.tree.nodes in
    let times = c.stamp.new.self.stamps.items in
    let slot = c.note-slot.result in
    subst (λ (t : Told). NodesBehind said node t before after)
    (sym (c.dated.ensures ∙ ap (λ (t : Told). dated times t) c.with_handle.ensures))
    (shown_behind times slot node told before after said
    (subst (λ (n : Parts). NodesBehind said node told n after) c.prepare-left.ensures.nodes c.handled-told.ensures.behind))
