-- Nodes stay true of the tree that a volume shows: `handled_stay` for `NodeTree::once`, `renamed_stay` and `known_stay`
-- for `rename_paths`, `set_attr_stay`, `flagged_stay`, `listed_stay` and others for `told`. TreeLemmas has this for the
-- worlds of a message's calls; the calls lead from what the old journal leads to, to what the new one does, wherever it
-- began (`stay_true`). So by the message it is said what its calls do to nodes (`handled_nodes`): most take no name
-- away and leave the nodes as they are. A message that looks first is its look, which takes no name away, and then what
-- follows or nothing (`looked_stay`).
use Rattle.std.proofs.Common.{◌≡◌, ℕ, List, [], ◌∷◌, Option, None, Some, refl, sym, subst, inl, inr}
use Rattle.lfs_types.specs.Caller.{Caller}
use Rattle.lfs_types.specs.StoreStates.{StoreState}
use Rattle.lfs_types.specs.Tree.{World}
use Rattle.lfs_types.specs.declared.answer.Answer.{Answer}
use Rattle.lfs_types.specs.declared.attrs.Attrs.{Attrs}
use Rattle.lfs_types.specs.declared.level.Level.{Level}
use Rattle.lfs_types.specs.declared.request.Request.{Request}
use Rattle.lfs_types.specs.declared.request.Request.TheVariants.{Chflags, Chmod, Create, Mkdir, Rename, Stat, Sync}
use Rattle.lfs_model.specs.Steps.{world_after}
use Rattle.lfs_volume.specs.Journals.{Begins}
use Rattle.lfs_volume.specs.Seen.{Seen}
use Rattle.lfs_nodes.specs.declared.node.Hang.{Hang}
use Rattle.lfs_nodes.specs.declared.node.Node.{Node}
use Rattle.lfs_nodes.specs.declared.parts.Parts.{Parts}
use Rattle.lfs_nodes.specs.Nodes.{AreNodes, known}
use Rattle.lfs_stamps.specs.Leave.{dating_refusal}
use Rattle.lfs_fuse_reply.specs.declared.errno.Errno.{Errno}
use Rattle.lfs_fuse_calls.specs.Asked.{asked, asked_to_set, lent_mode, mode_of}
use Rattle.lfs_fuse_calls.specs.Paths.{LeadsToRow}
use Rattle.lfs_fuse_calls.specs.Telling.{named_in, refusal_in, refusal_told, seen_in}
use Rattle.lfs_fuse_calls.specs.declared.telling.Seen.{Seen as Sight}
use Rattle.lfs_fuse_calls.specs.declared.told.Told.{Told}
use Rattle.lfs_fuse_wire.specs.declared.attributes.SetAttr.{SetAttr}
use Rattle.lfs_fuse_wire.specs.declared.handles.Open.{Open}
use Rattle.lfs_fuse_wire.specs.declared.ioctl.Command.{Command}
use Rattle.lfs_fuse_wire.specs.declared.ioctl.Command.TheVariants as command
use Rattle.lfs_fuse_wire.specs.declared.ioctl.Ioctl.{Ioctl}
use Rattle.lfs_fuse_wire.specs.Said.{Said, init, destroy, lookup, forget, batch_forget, interrupt, getattr}
use Rattle.lfs_fuse_wire.specs.Said.{setattr, access, mknod, mkdir, create, unlink, rmdir, rename, opening, read}
use Rattle.lfs_fuse_wire.specs.Said.{write, flush, release, fsync, opendir, readdir, readdirplus, releasedir}
use Rattle.lfs_fuse_wire.specs.Said.{fsyncdir, statfs, ioctl, unserved, unknown}
use Rattle.lfs_mount.specs.Flags.{flags_wanted}
use Rattle.lfs_mount.specs.Handled.{Behind, GoesOnFlags, IsDirectoryOpened, IsFlagged, IsLookedAt, IsReleased, IsSet, IsSetAttr}
use Rattle.lfs_mount.specs.Handled.{IsSetJudged, IsSynced, Unless}
use Rattle.lfs_mount.specs.Making.{AreMade, GoUpTo}
use Rattle.lfs_opens.specs.declared.listing.Listings.{Listings}
use Rattle.lfs_mount.specs.Trees.{AreLedAndMade, LeavesNodes, MovesRow, StayTrue, UnlessRefused}
use Rattle.lfs_mount.proofs.JudgedLemmas.{AreJudged, judged_made}
use Rattle.lfs_mount.proofs.TreeLemmas.{KeepNames, emptied_nodes, found_nodes, judged_kept, keep_open, keep_read, keep_set}
use Rattle.lfs_mount.proofs.TreeLemmas.{keep_write, made_nodes, plain_nodes, renamed_nodes, unlinked_nodes}

-- the calls of a message, by the message
handled_nodes : (numbers : ℕ) (caller : Caller) (w v : World) (node : ℕ) (message : Said) (path : List (List ℕ))
    (answers : List Answer) (nodes after : Parts) (o : Option Errno)
    → LeadsToRow (known nodes) node (named_in message) path → refusal_told message answers ≡ o
    → AreJudged numbers caller w (asked message path) answers v → GoUpTo (asked message path) answers
    → UnlessRefused o (LeavesNodes message node (seen_in answers) nodes after) nodes after
    → AreNodes w.rows (known nodes) → AreNodes v.rows (known after)
handled_nodes numbers caller w v node (init fields) path answers nodes after o leads refusal judged up_to leaves are =
    plain_nodes numbers caller w v nodes after (asked (init fields) path) answers o tt judged leaves are
handled_nodes numbers caller w v node destroy path answers nodes after o leads refusal judged up_to leaves are =
    plain_nodes numbers caller w v nodes after (asked destroy path) answers o tt judged leaves are
handled_nodes numbers caller w v node (lookup name) path answers nodes after o leads refusal judged up_to leaves are =
    found_nodes numbers caller w v nodes after node path name answers o leads refusal judged up_to leaves are
handled_nodes numbers caller w v node (forget fields) path answers nodes after o leads refusal judged up_to leaves are =
    plain_nodes numbers caller w v nodes after (asked (forget fields) path) answers o tt judged leaves are
handled_nodes numbers caller w v node (batch_forget bytes) path answers nodes after o leads refusal judged up_to leaves are =
    plain_nodes numbers caller w v nodes after (asked (batch_forget bytes) path) answers o tt judged leaves are
handled_nodes numbers caller w v node (interrupt number) path answers nodes after o leads refusal judged up_to leaves are =
    plain_nodes numbers caller w v nodes after (asked (interrupt number) path) answers o tt judged leaves are
handled_nodes numbers caller w v node (getattr fields) path answers nodes after o leads refusal judged up_to leaves are =
    plain_nodes numbers caller w v nodes after (asked (getattr fields) path) answers o (tt, tt) judged leaves are
handled_nodes numbers caller w v node (setattr fields) path answers nodes after o leads refusal judged up_to leaves are =
    plain_nodes numbers caller w v nodes after (asked (setattr fields) path) answers o (tt, tt) judged leaves are
handled_nodes numbers caller w v node (access fields) path answers nodes after o leads refusal judged up_to leaves are =
    plain_nodes numbers caller w v nodes after (asked (access fields) path) answers o (tt, tt) judged leaves are
handled_nodes numbers caller w v node (mknod fields name) path answers nodes after o leads refusal judged up_to leaves are =
    made_nodes numbers caller w v nodes after (Create path (mode_of fields.permissions)) node path name answers o tt refl (λ u. refl)
    leads refusal judged up_to leaves are
handled_nodes numbers caller w v node (mkdir fields name) path answers nodes after o leads refusal judged up_to leaves are =
    made_nodes numbers caller w v nodes after (Mkdir path (mode_of fields.permissions)) node path name answers o tt refl (λ u. refl)
    leads refusal judged up_to leaves are
handled_nodes numbers caller w v node (create fields name) path answers nodes after o leads refusal judged up_to leaves are =
    made_nodes numbers caller w v nodes after (Create path (lent_mode fields.permissions)) node path name answers o tt refl (λ u. refl)
    leads refusal judged up_to leaves are
handled_nodes numbers caller w v node (unlink name) path answers nodes after o leads refusal judged up_to leaves are =
    unlinked_nodes numbers caller w v nodes after node path name answers o leads refusal judged up_to leaves are
handled_nodes numbers caller w v node (rmdir name) path answers nodes after o leads refusal judged up_to leaves are =
    emptied_nodes numbers caller w v nodes after node path name answers o leads refusal judged up_to leaves are
handled_nodes numbers caller w v node (rename fields name new_name) path answers nodes after o leads refusal judged up_to leaves are =
    plain_nodes numbers caller w v nodes after (asked (rename fields name new_name) path) answers o tt judged leaves are
handled_nodes numbers caller w v node (opening fields) path answers nodes after o leads refusal judged up_to leaves are =
    plain_nodes numbers caller w v nodes after (asked (opening fields) path) answers o (keep_open fields.flags path) judged leaves are
handled_nodes numbers caller w v node (read fields) path answers nodes after o leads refusal judged up_to leaves are =
    plain_nodes numbers caller w v nodes after (asked (read fields) path) answers o (keep_read path _ _ _) judged leaves are
handled_nodes numbers caller w v node (write fields bytes) path answers nodes after o leads refusal judged up_to leaves are =
    plain_nodes numbers caller w v nodes after (asked (write fields bytes) path) answers o (keep_write path _ _ bytes _) judged leaves are
handled_nodes numbers caller w v node (flush fields) path answers nodes after o leads refusal judged up_to leaves are =
    plain_nodes numbers caller w v nodes after (asked (flush fields) path) answers o tt judged leaves are
handled_nodes numbers caller w v node (release fields) path answers nodes after o leads refusal judged up_to leaves are =
    plain_nodes numbers caller w v nodes after (asked (release fields) path) answers o tt judged leaves are
handled_nodes numbers caller w v node (fsync fields) path answers nodes after o leads refusal judged up_to leaves are =
    plain_nodes numbers caller w v nodes after (asked (fsync fields) path) answers o tt judged leaves are
handled_nodes numbers caller w v node (opendir fields) path answers nodes after o leads refusal judged up_to leaves are =
    plain_nodes numbers caller w v nodes after (asked (opendir fields) path) answers o (tt, tt) judged leaves are
handled_nodes numbers caller w v node (readdir fields) path answers nodes after o leads refusal judged up_to leaves are =
    plain_nodes numbers caller w v nodes after (asked (readdir fields) path) answers o tt judged leaves are
handled_nodes numbers caller w v node (readdirplus fields) path answers nodes after o leads refusal judged up_to leaves are =
    plain_nodes numbers caller w v nodes after (asked (readdirplus fields) path) answers o tt judged leaves are
handled_nodes numbers caller w v node (releasedir fields) path answers nodes after o leads refusal judged up_to leaves are =
    plain_nodes numbers caller w v nodes after (asked (releasedir fields) path) answers o tt judged leaves are
handled_nodes numbers caller w v node (fsyncdir fields) path answers nodes after o leads refusal judged up_to leaves are =
    plain_nodes numbers caller w v nodes after (asked (fsyncdir fields) path) answers o tt judged leaves are
handled_nodes numbers caller w v node statfs path answers nodes after o leads refusal judged up_to leaves are =
    plain_nodes numbers caller w v nodes after (asked statfs path) answers o tt judged leaves are
handled_nodes numbers caller w v node (ioctl fields) path answers nodes after o leads refusal judged up_to leaves are =
    plain_nodes numbers caller w v nodes after (asked (ioctl fields) path) answers o (tt, tt) judged leaves are
handled_nodes numbers caller w v node (unserved kind) path answers nodes after o leads refusal judged up_to leaves are =
    plain_nodes numbers caller w v nodes after (asked (unserved kind) path) answers o tt judged leaves are
handled_nodes numbers caller w v node (unknown number) path answers nodes after o leads refusal judged up_to leaves are =
    plain_nodes numbers caller w v nodes after (asked (unknown number) path) answers o tt judged leaves are

-- ---- a volume

module _ {F : Type 0} (state : F → StoreState) (is_flushed : F → Type 0) where
  -- where the trees of a message's calls keep nodes true, the volume does
  stay_true : (caller : Caller) (requests : List Request) (answers : List Answer) (old new : Seen F)
      (nodes after : Parts) → AreMade state is_flushed caller requests answers old new
      → ((numbers : ℕ) (w v : World) → AreJudged numbers caller w requests answers v → AreNodes w.rows (known nodes)
      → AreNodes v.rows (known after))
      → StayTrue state old nodes new after
  stay_true caller requests answers old new nodes after made step = λ are from begins.
      let here : Begins (state old.since) old.since_level from =
      subst (λ (s : F). Begins (state s) old.since_level from) made.since
      (subst (λ (l : Level). Begins (state new.since) l from) made.since_level begins) in
      step _ _ _ (judged_made state is_flushed caller requests answers old new made from here) (are from here)

  -- nothing changed
  pub unchanged : (old new : Seen F) (nodes : Parts) → new ≡ old → StayTrue state old nodes new nodes
  unchanged old new nodes same = subst (λ (v : Seen F). StayTrue state old nodes v nodes) (sym same) (λ are. are)

  -- a message was handled
  pub handled_stay : (caller : Caller) (node : ℕ) (message : Said) (answers : List Answer) (old new : Seen F)
      (nodes after : Parts) (o : Option Errno)
      → AreLedAndMade state is_flushed caller nodes node message answers old new → refusal_told message answers ≡ o
      → UnlessRefused o (LeavesNodes message node (seen_in answers) nodes after) nodes after
      → StayTrue state old nodes new after
  handled_stay caller node message answers old new nodes after o led refusal leaves =
      stay_true caller (asked message led.path) answers old new nodes after led.made
      (λ numbers w v judged are. handled_nodes numbers caller w v node message led.path answers nodes after o led.leads
      refusal judged led.made.up_to leaves are)

  -- nodes that are known as before
  pub known_stay : (volume : Seen F) (nodes after : Parts) → ((q : ℕ) → known after q ≡ known nodes q)
      → StayTrue state volume nodes volume after
  known_stay volume nodes after same = λ are from begins.
      subst (λ (K : ℕ → Option Node). AreNodes
      (world_after (state volume.store).shape.numbers volume.journal from).rows K) (λ i q. sym (same q) i)
      (are from begins)

  -- a Rename was made, where nodes were known as before
  pub renamed_stay : (caller : Caller) (from to : List (List ℕ)) (node : ℕ) (name : List ℕ) (directory : ℕ)
      (new_name : List ℕ) (answers : List Answer) (old new : Seen F) (nodes between after : Parts)
      → ((q : ℕ) → known between q ≡ known nodes q)
      → AreMade state is_flushed caller (Rename from to ∷ []) answers old new
      → UnlessRefused (refusal_in answers) (MovesRow node name directory new_name between after) between after
      → LeadsToRow (known nodes) node (Some name) from → LeadsToRow (known nodes) directory (Some new_name) to
      → StayTrue state old nodes new after
  renamed_stay caller from to node name directory new_name answers old new nodes between after same made moves leads
      leads_to =
      let leads2 = subst (λ (K : ℕ → Option Node). LeadsToRow K node (Some name) from) (λ i q. sym (same q) i) leads in
      let leads3 = subst (λ (K : ℕ → Option Node). LeadsToRow K directory (Some new_name) to)
      (λ i q. sym (same q) i) leads_to in
      let goes : StayTrue state old between new after =
      stay_true caller (Rename from to ∷ []) answers old new between after made
      (λ numbers w v judged are. renamed_nodes numbers caller w v between after from to node name directory new_name
      answers _ leads2 leads3 refl judged made.up_to moves are) in
      λ are. goes (known_stay old nodes between same are)

  module _ (nodes : Parts) where
    -- calls were made that take no name away
    pub kept_stay : (caller : Caller) (requests : List Request) (answers : List Answer) (old new : Seen F)
        → KeepNames requests → AreMade state is_flushed caller requests answers old new
        → StayTrue state old nodes new nodes
    kept_stay caller requests answers old new keep made =
        stay_true caller requests answers old new nodes nodes made
        (λ numbers w v judged are. judged_kept numbers caller (known nodes) w v requests answers keep judged are)

    behind_stay : (between new : Seen F) (reply : Told) (Goes : Attrs → Type 0)
        → ((present : Attrs) → Goes present → StayTrue state between nodes new nodes)
        → (o : Option Errno) (seen : Option Sight) → Behind o seen reply (new ≡ between) Goes
        → StayTrue state between nodes new nodes
    behind_stay between new reply Goes goes (Some error) seen h = unchanged between new nodes h.1
    behind_stay between new reply Goes goes None None h = unchanged between new nodes h.1
    behind_stay between new reply Goes goes None (Some seen) h = goes seen.attrs h

    looked_stay : (caller : Caller) (hangs : ℕ → Option Hang) (node : ℕ) (message : Said) (reply : Told)
        (old new : Seen F) (Goes : Seen F → Attrs → Type 0)
        → ((path : List (List ℕ)) → KeepNames (asked message path))
        → ((between : Seen F) (present : Attrs) → Goes between present → StayTrue state between nodes new nodes)
        → IsLookedAt state is_flushed caller hangs node message reply old new Goes
        → StayTrue state old nodes new nodes
    looked_stay caller hangs node message reply old new Goes keep goes h = λ are.
        behind_stay h.between new reply (Goes h.between) (goes h.between) (refusal_in h.answers) (seen_in h.answers)
        h.behind
        (kept_stay caller (asked message h.looked.path) h.answers old h.between (keep h.looked.path) h.looked.made are)

    set_stay : (caller : Caller) (hangs : ℕ → Option Hang) (node : ℕ) (fields : SetAttr) (reply : Told)
        (old new : Seen F) (present : Attrs)
        → IsSet state is_flushed caller hangs node fields reply old new present → StayTrue state old nodes new nodes
    set_stay caller hangs node fields reply old new present (inl set) =
        kept_stay caller (asked_to_set fields present set.path) set.answers old new (keep_set fields present set.path)
        set.made
    set_stay caller hangs node fields reply old new present (inr refused) = unchanged old new nodes refused.none

    unless_stay : (old new : Seen F) (reply : Told) (Goes : Type 0) → (Goes → StayTrue state old nodes new nodes)
        → (o : Option Errno) → Unless o reply (new ≡ old) Goes → StayTrue state old nodes new nodes
    unless_stay old new reply Goes goes (Some error) h = unchanged old new nodes h.1
    unless_stay old new reply Goes goes None h = goes h

    -- attributes were set
    pub set_attr_stay : (caller : Caller) (hangs : ℕ → Option Hang) (node : ℕ) (fields : SetAttr) (reply : Told)
        (old new : Seen F)
        → IsSetAttr state is_flushed caller hangs node fields reply old new → StayTrue state old nodes new nodes
    set_attr_stay caller hangs node fields reply old new (inl looked) =
        looked_stay caller hangs node (setattr fields) reply old new
        (λ between present. IsSetJudged state is_flushed caller hangs node fields reply between new present)
        (λ path. (tt, tt))
        (λ between present h. unless_stay between new reply _
        (set_stay caller hangs node fields reply between new present) (dating_refusal caller fields present) h)
        looked
    set_attr_stay caller hangs node fields reply old new (inr refused) = unchanged old new nodes refused.none

    flags_stay : (caller : Caller) (hangs : ℕ → Option Hang) (node : ℕ) (asks : Command) (reply : Told)
        (old new : Seen F) (present : ℕ)
        → GoesOnFlags state is_flushed caller hangs node asks reply old new present
        → StayTrue state old nodes new nodes
    flags_stay caller hangs node command.GetFlags reply old new present h = unchanged old new nodes h.1
    flags_stay caller hangs node command.GetExtended reply old new present h = unchanged old new nodes h.1
    flags_stay caller hangs node (command.SetFlags bits) reply old new present (inl set) =
        kept_stay caller (Chflags set.path (flags_wanted present bits) ∷ []) set.made.answers old new (tt, tt)
        set.made.made
    flags_stay caller hangs node (command.SetFlags bits) reply old new present (inr refused) =
        unchanged old new nodes refused.none
    flags_stay caller hangs node (command.Other number) reply old new present h = unchanged old new nodes h.1

    -- a control call
    pub flagged_stay : (caller : Caller) (hangs : ℕ → Option Hang) (node : ℕ) (fields : Ioctl) (reply : Told)
        (old new : Seen F)
        → IsFlagged state is_flushed caller hangs node fields reply old new → StayTrue state old nodes new nodes
    flagged_stay caller hangs node fields reply old new (inl looked) =
        looked_stay caller hangs node (ioctl fields) reply old new
        (λ between (present : Attrs). GoesOnFlags state is_flushed caller hangs node fields.command reply between new
        present.flags)
        (λ path. (tt, tt))
        (λ between present h. flags_stay caller hangs node fields.command reply between new present.flags h) looked
    flagged_stay caller hangs node fields reply old new (inr refused) = unchanged old new nodes refused.none

    -- what waited was written
    pub synced_stay : (caller : Caller) (reply : Told) (old new : Seen F)
        → IsSynced state is_flushed caller reply old new → StayTrue state old nodes new nodes
    synced_stay caller reply old new (inl done) = kept_stay caller (Sync ∷ []) done.answers old new (tt, tt) done.made
    synced_stay caller reply old new (inr refused) = unchanged old new nodes refused.none

    -- a directory was opened
    pub listed_stay : (caller : Caller) (hangs : ℕ → Option Hang) (node : ℕ) (fields : Open) (lists listed : Listings)
        (reply : Told) (old new : Seen F)
        → IsDirectoryOpened state is_flushed caller hangs node fields lists listed reply old new
        → StayTrue state old nodes new nodes
    listed_stay caller hangs node fields lists listed reply old new (inl opened) =
        kept_stay caller (asked (opendir fields) opened.made.path) opened.answers old new (tt, tt) opened.made.made
    listed_stay caller hangs node fields lists listed reply old new (inr unlisted) =
        unchanged old new nodes unlisted.refused.none

    -- a file was closed
    pub released_stay : (caller : Caller) (hangs : ℕ → Option Hang) (node : ℕ) (due : Option ℕ) (reply : Told)
        (old new : Seen F)
        → IsReleased state is_flushed caller hangs node due reply old new → StayTrue state old nodes new nodes
    released_stay caller hangs node None reply old new h = unchanged old new nodes h.1
    released_stay caller hangs node (Some mode) reply old new (done, inl given) =
        kept_stay caller (Chmod given.path mode ∷ []) given.answers old new (tt, tt) given.made
    released_stay caller hangs node (Some mode) reply old new (done, inr same) = unchanged old new nodes same

  -- a Stat was made
  pub stat_stay : (caller : Caller) (path : List (List ℕ)) (answers : List Answer) (old new : Seen F)
      (nodes after : Parts) → AreMade state is_flushed caller (Stat path ∷ []) answers old new → after ≡ nodes
      → StayTrue state old nodes new after
  stat_stay caller path answers old new nodes after made same =
      subst (λ (n : Parts). StayTrue state old nodes new n) (sym same)
      (kept_stay nodes caller (Stat path ∷ []) answers old new (tt, tt) made)
