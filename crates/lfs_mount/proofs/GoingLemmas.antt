-- The journal goes on behind a message, whatever comes of it. Each call that is made has it go on, as `make` says, and
-- where none is made the volume is what it was; so it is a matter of taking apart what a message may come to: a list of
-- calls, none, or a look at the node and then one of these.
use Rattle.std.proofs.Common.{◌≡◌, ℕ, List, [], ◌∷◌, length, take, Bool, true, false, Option, None, Some, inl, inr}
use Rattle.lfs_types.specs.Caller.{Caller}
use Rattle.lfs_types.specs.StoreStates.{StoreState}
use Rattle.lfs_types.specs.declared.answer.Answer.{Answer}
use Rattle.lfs_types.specs.declared.attrs.Attrs.{Attrs}
use Rattle.lfs_types.specs.declared.request.Request.{Request}
use Rattle.lfs_model.specs.Runs.{kept}
use Rattle.lfs_volume.specs.Seen.{Seen}
use Rattle.lfs_nodes.specs.declared.parts.Parts.{Parts}
use Rattle.lfs_stamps.specs.Leave.{dating_refusal}
use Rattle.lfs_fuse_reply.specs.declared.errno.Errno.{Errno}
use Rattle.lfs_fuse_calls.specs.Asked.{asked, asked_to_set}
use Rattle.lfs_fuse_calls.specs.Telling.{refusal_in, seen_in}
use Rattle.lfs_fuse_calls.specs.declared.telling.Seen.{Seen as Sight}
use Rattle.lfs_fuse_calls.specs.declared.told.Told.{Told}
use Rattle.lfs_fuse_wire.specs.declared.attributes.SetAttr.{SetAttr}
use Rattle.lfs_fuse_wire.specs.declared.attributes.Time.{Time}
use Rattle.lfs_fuse_wire.specs.declared.handles.Open.{Open}
use Rattle.lfs_fuse_wire.specs.declared.ioctl.Command.{Command}
use Rattle.lfs_fuse_wire.specs.declared.ioctl.Command.TheVariants as command
use Rattle.lfs_fuse_wire.specs.declared.ioctl.Ioctl.{Ioctl}
use Rattle.lfs_fuse_wire.specs.declared.kind.FileKind.{FileKind}
use Rattle.lfs_fuse_wire.specs.declared.kind.FileKind.TheVariants.{Regular, Directory}
use Rattle.lfs_fuse_wire.specs.declared.naming.RenameMode.{RenameMode}
use Rattle.lfs_fuse_wire.specs.declared.naming.RenameMode.TheVariants as mode
use Rattle.lfs_fuse_wire.specs.Said.{Said, init, destroy, lookup, forget, batch_forget, interrupt, getattr}
use Rattle.lfs_fuse_wire.specs.Said.{setattr, access, mknod, mkdir, create, unlink, rmdir, rename, opening, read}
use Rattle.lfs_fuse_wire.specs.Said.{write, flush, release, fsync, opendir, readdir, readdirplus, releasedir}
use Rattle.lfs_fuse_wire.specs.Said.{fsyncdir, statfs, ioctl, unserved, unknown}
use Rattle.lfs_mount.specs.Answered.{IsHeard, IsToldDated, IsToldKept}
use Rattle.lfs_mount.specs.Handled.{Behind, BehindFree, BehindMissing, GoesOnFlags, IsCalledOnce, IsDone, IsFlagged}
use Rattle.lfs_mount.specs.Handled.{IsHandled, IsIdle, IsLookedAt, IsMade, IsReleased, IsRename, IsRenamed, hangs_in}
use Rattle.lfs_mount.specs.Handled.{IsDirectoryOpened, IsRenamedToFree, IsSet, IsSetAttr, IsSetJudged, IsTold, Unless, is_missing}
use Rattle.lfs_mount.specs.Making.{AreMade, calls_as}
use Rattle.lfs_mount.specs.Leaving.{OnKept, kept_for}
use Rattle.lfs_mount.specs.Runs.{GoesOn}
use Rattle.lfs_opens.specs.declared.listing.Listings.{Listings}
use Rattle.lfs_mount.specs.declared.mount.Beside.{Beside}
use Rattle.lfs_mount.specs.declared.mount.Sizes.{Sizes}
use Rattle.lfs_opens.specs.declared.kept.Kept.{Kept}
use Rattle.lfs_mount.proofs.LookedLemmas.{look_goes}
use Rattle.lfs_mount.proofs.TendingLemmas.{goes_on_again, goes_on_none}

module _ {F : Type 0} (state : F → StoreState) (is_flushed : F → Type 0) (caller : Caller) where
  made_goes : (requests : List Request) (answers : List Answer) (old new : Seen F)
      → AreMade state is_flushed caller requests answers old new → GoesOn state old new
  made_goes requests answers old new made = record {
    more = kept (calls_as caller (take (length answers) requests)) answers;
    entered = made.entered;
    since = made.since;
    since_level = made.since_level;
    limit = made.limit;
    shape = made.shape;
    legal = made.legal;
  }

  once_goes : (request : Request) (Tells : List Answer → Type 0) (old new : Seen F)
      → IsCalledOnce state is_flushed caller request Tells old new → GoesOn state old new
  once_goes request Tells old new once = made_goes (request ∷ []) once.answers old new once.made

  done_goes : (request : Request) (reply : Told) (old new : Seen F)
      → IsDone state is_flushed caller request reply old new → GoesOn state old new
  done_goes request reply old new (inl done) = once_goes request _ old new done
  done_goes request reply old new (inr refused) = goes_on_none state old new refused.none

  idle_goes : (Tells : Told → Type 0) (reply : Told) (old new : Seen F) → IsIdle Tells reply old new
      → GoesOn state old new
  idle_goes Tells reply old new idle = goes_on_none state old new idle.none

  module _ (nodes nodes_after : Parts) (node : ℕ) (reply : Told) where
    handled_goes : (message : Said) (old new : Seen F)
        → IsHandled state is_flushed caller nodes nodes_after node message reply old new → GoesOn state old new
    handled_goes message old new (inl called) =
        made_goes (asked message called.made.path) called.answers old new called.made.made
    handled_goes message old new (inr refused) = goes_on_none state old new refused.0.none

    -- ---- behind a look at the node

    behind_goes : (between new : Seen F) (Goes : Attrs → Type 0)
        → ((present : Attrs) → Goes present → GoesOn state between new) → (o : Option Errno) (seen : Option Sight)
        → Behind o seen reply (new ≡ between) Goes → GoesOn state between new
    behind_goes between new Goes goes (Some error) seen h = goes_on_none state between new h.1
    behind_goes between new Goes goes None None h = goes_on_none state between new h.1
    behind_goes between new Goes goes None (Some seen) h = goes seen.attrs h

    looked_goes : (message : Said) (old new : Seen F) (Goes : Seen F → Attrs → Type 0)
        → ((between : Seen F) (present : Attrs) → Goes between present → GoesOn state between new)
        → IsLookedAt state is_flushed caller (hangs_in nodes) node message reply old new Goes → GoesOn state old new
    looked_goes message old new Goes goes h =
        goes_on_again state old h.between new
        (made_goes (asked message h.looked.path) h.answers old h.between h.looked.made)
        (behind_goes h.between new (Goes h.between) (goes h.between) (refusal_in h.answers) (seen_in h.answers) h.behind)

    set_goes : (fields : SetAttr) (old new : Seen F) (present : Attrs)
        → IsSet state is_flushed caller (hangs_in nodes) node fields reply old new present → GoesOn state old new
    set_goes fields old new present (inl set) =
        made_goes (asked_to_set fields present set.path) set.answers old new set.made
    set_goes fields old new present (inr refused) = goes_on_none state old new refused.none

    unless_goes : (old new : Seen F) (Goes : Type 0) → (Goes → GoesOn state old new) → (o : Option Errno)
        → Unless o reply (new ≡ old) Goes → GoesOn state old new
    unless_goes old new Goes goes (Some error) h = goes_on_none state old new h.1
    unless_goes old new Goes goes None h = goes h

    set_attr_goes : (fields : SetAttr) (old new : Seen F)
        → IsSetAttr state is_flushed caller (hangs_in nodes) node fields reply old new → GoesOn state old new
    set_attr_goes fields old new (inl looked) =
        looked_goes (setattr fields) old new
        (λ between present. IsSetJudged state is_flushed caller (hangs_in nodes) node fields reply between new present)
        (λ between present h. unless_goes between new _ (set_goes fields between new present)
        (dating_refusal caller fields present) h)
        looked
    set_attr_goes fields old new (inr refused) = goes_on_none state old new refused.none

    flags_goes : (asks : Command) (old new : Seen F) (present : ℕ)
        → GoesOnFlags state is_flushed caller (hangs_in nodes) node asks reply old new present → GoesOn state old new
    flags_goes command.GetFlags old new present h = goes_on_none state old new h.1
    flags_goes command.GetExtended old new present h = goes_on_none state old new h.1
    flags_goes (command.SetFlags bits) old new present (inl set) = once_goes _ _ old new set.made
    flags_goes (command.SetFlags bits) old new present (inr refused) = goes_on_none state old new refused.none
    flags_goes (command.Other number) old new present h = goes_on_none state old new h.1

    flagged_goes : (fields : Ioctl) (old new : Seen F)
        → IsFlagged state is_flushed caller (hangs_in nodes) node fields reply old new → GoesOn state old new
    flagged_goes fields old new (inl looked) =
        looked_goes (ioctl fields) old new
        (λ between (present : Attrs). GoesOnFlags state is_flushed caller (hangs_in nodes) node fields.command reply between new
        present.flags)
        (λ between present h. flags_goes fields.command between new present.flags h) looked
    flagged_goes fields old new (inr refused) = goes_on_none state old new refused.none

    released_goes : (due : Option ℕ) (old new : Seen F)
        → IsReleased state is_flushed caller (hangs_in nodes) node due reply old new → GoesOn state old new
    released_goes None old new h = goes_on_none state old new h.1
    released_goes (Some mode) old new (done, inl given) = made_goes _ given.answers old new given.made
    released_goes (Some mode) old new (done, inr same) = goes_on_none state old new same

    -- ---- a Rename

    module _ (name : List ℕ) (directory : ℕ) (new_name : List ℕ) where
      renamed_goes : (old new : Seen F)
          → IsRenamed state is_flushed caller (hangs_in nodes) node name directory new_name reply old new → GoesOn state old new
      renamed_goes old new (inl moved) = done_goes _ reply old new moved.made
      renamed_goes old new (inr refused) = goes_on_none state old new refused.none

      missing_goes : (between new : Seen F) (error : Errno) (b : Bool)
          → BehindMissing b error reply (new ≡ between)
          (IsRenamed state is_flushed caller (hangs_in nodes) node name directory new_name reply between new)
          → GoesOn state between new
      missing_goes between new error true h = renamed_goes between new h
      missing_goes between new error false h = goes_on_none state between new h.1

      free_goes : (between new : Seen F) (o : Option Errno)
          → BehindFree o reply (new ≡ between)
          (IsRenamed state is_flushed caller (hangs_in nodes) node name directory new_name reply between new)
          → GoesOn state between new
      free_goes between new None h = goes_on_none state between new h.1
      free_goes between new (Some error) h = missing_goes between new error (is_missing error) h

      to_free_goes : (old new : Seen F)
          → IsRenamedToFree state is_flushed caller (hangs_in nodes) node name directory new_name reply old new
          → GoesOn state old new
      to_free_goes old new (inl sought) =
          goes_on_again state old sought.between new (made_goes _ sought.answers old sought.between sought.made)
          (free_goes sought.between new (refusal_in sought.answers) sought.behind)
      to_free_goes old new (inr refused) = goes_on_none state old new refused.none

      rename_goes : (how : RenameMode) (old new : Seen F)
          → IsRename how (IsRenamed state is_flushed caller (hangs_in nodes) node name directory new_name reply old new)
          (IsRenamedToFree state is_flushed caller (hangs_in nodes) node name directory new_name reply old new) reply old new
          → GoesOn state old new
      rename_goes mode.Replace old new h = renamed_goes old new h
      rename_goes mode.NoReplace old new h = to_free_goes old new h
      rename_goes mode.Exchange old new h = idle_goes _ reply old new h
      rename_goes mode.Other old new h = idle_goes _ reply old new h

    -- ---- any message

    node_goes : (kind : Option FileKind) (message : Said) (old new : Seen F)
        → IsMade kind (IsHandled state is_flushed caller nodes nodes_after node message reply old new) reply old new
        → GoesOn state old new
    node_goes (Some Regular) message old new h = handled_goes message old new h
    node_goes (Some Directory) message old new h = idle_goes _ reply old new h
    node_goes None message old new h = idle_goes _ reply old new h

    listed_goes : (fields : Open) (lists listed : Listings) (old new : Seen F)
        → IsDirectoryOpened state is_flushed caller (hangs_in nodes) node fields lists listed reply old new
        → GoesOn state old new
    listed_goes fields lists listed old new (inl opened) =
        made_goes (asked (opendir fields) opened.made.path) opened.answers old new opened.made.made
    listed_goes fields lists listed old new (inr unlisted) = goes_on_none state old new unlisted.refused.none

    told_goes : (sizes : Sizes) (due : Option ℕ) (lists listed : Listings) (message : Said) (old new : Seen F)
        → IsTold state is_flushed sizes due caller nodes nodes_after lists listed node message reply old new
        → GoesOn state old new
    told_goes sizes due lists listed (init fields) old new h = idle_goes _ reply old new h
    told_goes sizes due lists listed destroy old new h = idle_goes _ reply old new h
    told_goes sizes due lists listed (lookup name) old new h = handled_goes (lookup name) old new h
    told_goes sizes due lists listed (forget fields) old new h = idle_goes _ reply old new h
    told_goes sizes due lists listed (batch_forget bytes) old new h = idle_goes _ reply old new h
    told_goes sizes due lists listed (interrupt number) old new h = idle_goes _ reply old new h
    told_goes sizes due lists listed (getattr fields) old new h = handled_goes (getattr fields) old new h
    told_goes sizes due lists listed (setattr fields) old new h = set_attr_goes fields old new h
    told_goes sizes due lists listed (access fields) old new h = handled_goes (access fields) old new h
    told_goes sizes due lists listed (mknod fields name) old new h = node_goes fields.kind (mknod fields name) old new h
    told_goes sizes due lists listed (mkdir fields name) old new h = handled_goes (mkdir fields name) old new h
    told_goes sizes due lists listed (create fields name) old new h = handled_goes (create fields name) old new h
    told_goes sizes due lists listed (unlink name) old new h = handled_goes (unlink name) old new h
    told_goes sizes due lists listed (rmdir name) old new h = handled_goes (rmdir name) old new h
    told_goes sizes due lists listed (rename fields name new_name) old new h =
        rename_goes name fields.directory new_name fields.mode old new h
    told_goes sizes due lists listed (opening fields) old new h = handled_goes (opening fields) old new h
    told_goes sizes due lists listed (read fields) old new h = handled_goes (read fields) old new h
    told_goes sizes due lists listed (write fields bytes) old new h = handled_goes (write fields bytes) old new h
    told_goes sizes due lists listed (flush fields) old new h = idle_goes _ reply old new h
    told_goes sizes due lists listed (release fields) old new h = released_goes due old new h
    told_goes sizes due lists listed (fsync fields) old new h = done_goes _ reply old new h
    told_goes sizes due lists listed (opendir fields) old new h = listed_goes fields lists listed old new h
    told_goes sizes due lists listed (readdir fields) old new h = idle_goes _ reply old new h
    told_goes sizes due lists listed (readdirplus fields) old new h = idle_goes _ reply old new h
    told_goes sizes due lists listed (releasedir fields) old new h = idle_goes _ reply old new h
    told_goes sizes due lists listed (fsyncdir fields) old new h = done_goes _ reply old new h
    told_goes sizes due lists listed statfs old new h = idle_goes _ reply old new h
    told_goes sizes due lists listed (ioctl fields) old new h = flagged_goes fields old new h
    told_goes sizes due lists listed (unserved kind) old new h = idle_goes _ reply old new h
    told_goes sizes due lists listed (unknown number) old new h = idle_goes _ reply old new h

  dated_goes : (sizes : Sizes) (now : Time) (nodes nodes_after : Parts) (node : ℕ) (message : Said) (reply : Told)
      (old new : Seen F) (before after : Beside)
      → IsToldDated state is_flushed sizes now caller nodes nodes_after node message reply old new before after
      → GoesOn state old new
  dated_goes sizes now nodes nodes_after node message reply old new before after h =
      goes_on_again state old h.between new (look_goes state old h.between h.looked)
      (told_goes nodes nodes_after node h.told sizes _ before.listings after.listings message h.between new h.is)

  -- what is kept is told without a call
  kept_goes : (sizes : Sizes) (now : Time) (nodes nodes_after : Parts) (node : ℕ) (message : Said) (reply : Told)
      (old new : Seen F) (before after : Beside) (o : Option Kept)
      → OnKept o (IsToldKept now caller node message reply old new before after)
      (IsToldDated state is_flushed sizes now caller nodes nodes_after node message reply old new before after)
      → GoesOn state old new
  kept_goes sizes now nodes nodes_after node message reply old new before after (Some kept) h =
      goes_on_none state old new h.none
  kept_goes sizes now nodes nodes_after node message reply old new before after None h =
      dated_goes sizes now nodes nodes_after node message reply old new before after h

-- what comes of bytes, by whether they are a message
pub heard_goes : {F : Type 0} (state : F → StoreState) (is_flushed : F → Type 0) (sizes : Sizes) (now : Time)
    (caller : Caller) (nodes nodes_after : Parts) (node : ℕ) (message : Option Said) (reply : Told) (wanted : Bool)
    (old new : Seen F) (before after : Beside)
    → IsHeard state is_flushed sizes now caller nodes nodes_after node message reply wanted old new before after
    → GoesOn state old new
heard_goes state is_flushed sizes now caller nodes nodes_after node None reply wanted old new before after h =
    goes_on_none state old new h.2
heard_goes state is_flushed sizes now caller nodes nodes_after node (Some message) reply wanted old new before after h =
    kept_goes state is_flushed caller sizes now nodes nodes_after node message reply old new before after
    (kept_for nodes message before.opens.files.items node caller) h.0
