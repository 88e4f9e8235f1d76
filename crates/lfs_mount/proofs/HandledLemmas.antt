-- What comes of messages that look first: `looked_refused`, `looked_unseen` and `looked_on` for `NodeTree::set_attr`
-- and `flagged`, `sought_there`, `sought_refused` and `sought_free` for `renamed_to_free`. The promise splits by the
-- answers to the look: it was refused, it saw nothing, or the message goes on with the attributes that it saw; each
-- lemma is the case that the code found, put in for the answers. Before a Rename that may replace nothing the look must
-- be refused, and for want of the name (`is_missing`): served it says that the name is taken, and any other refusal is
-- the reply.
use Rattle.std.proofs.Common.{◌≡◌, ℕ, true, false, List, [], ◌∷◌, Option, None, Some, refl, sym, subst}
use Rattle.lfs_types.specs.Caller.{Caller}
use Rattle.lfs_types.specs.StoreStates.{StoreState}
use Rattle.lfs_types.specs.declared.answer.Answer.{Answer}
use Rattle.lfs_types.specs.declared.attrs.Attrs.{Attrs}
use Rattle.lfs_types.specs.declared.request.Request.TheVariants.{Stat as Stats}
use Rattle.lfs_volume.specs.Seen.{Seen}
use Rattle.lfs_nodes.specs.declared.node.Hang.{Hang}
use Rattle.lfs_fuse_wire.specs.Said.{Said}
use Rattle.lfs_fuse_reply.specs.declared.errno.Errno.{Errno}
use Rattle.lfs_fuse_reply.specs.declared.errno.Errno.TheVariants.{EEXIST, EIO}
use Rattle.lfs_fuse_calls.specs.Paths.{IsPathOf}
use Rattle.lfs_fuse_calls.specs.Telling.{refusal_in, seen_in}
use Rattle.lfs_fuse_calls.specs.declared.telling.Seen.{Seen as Stat}
use Rattle.lfs_fuse_calls.specs.declared.told.Told.{Told}
use Rattle.lfs_fuse_calls.specs.declared.told.Told.TheVariants.{Error}
use Rattle.lfs_mount.specs.Handled.{AreAskedAndMade, Behind, BehindFree, BehindMissing, IsLookedAt, IsRenamed, IsSought}
use Rattle.lfs_mount.specs.Handled.{is_missing}
use Rattle.lfs_mount.specs.Making.{AreMade}

pub looked_refused : {F : Type 0} (state : F → StoreState) (is_flushed : F → Type 0) (caller : Caller) (hangs : ℕ
    → Option Hang) (node : ℕ) (message : Said) (reply : Told) (old new : Seen F) (Goes : Seen F → Attrs → Type 0)
    (answers : List Answer) (error : Errno)
    → AreAskedAndMade state is_flushed caller hangs node message answers old new → refusal_in answers ≡ Some error
    → reply ≡ Error error
    → IsLookedAt state is_flushed caller hangs node message reply old new Goes
looked_refused state is_flushed caller hangs node message reply old new Goes answers error made refused told = record {
  answers = answers;
  between = new;
  looked = made;
  behind = subst (λ o. Behind o (seen_in answers) reply (new ≡ new) (Goes new)) (sym refused) (told, refl);
}

pub looked_unseen : {F : Type 0} (state : F → StoreState) (is_flushed : F → Type 0) (caller : Caller) (hangs : ℕ
    → Option Hang) (node : ℕ) (message : Said) (reply : Told) (old new : Seen F) (Goes : Seen F → Attrs → Type 0)
    (answers : List Answer)
    → AreAskedAndMade state is_flushed caller hangs node message answers old new → refusal_in answers ≡ None
    → seen_in answers ≡ None → reply ≡ Error EIO
    → IsLookedAt state is_flushed caller hangs node message reply old new Goes
looked_unseen state is_flushed caller hangs node message reply old new Goes answers made served unseen told = record {
  answers = answers;
  between = new;
  looked = made;
  behind = subst (λ o. Behind o (seen_in answers) reply (new ≡ new) (Goes new)) (sym served)
      (subst (λ (s : Option Stat). Behind None s reply (new ≡ new) (Goes new)) (sym unseen) (told, refl));
}

pub looked_on : {F : Type 0} (state : F → StoreState) (is_flushed : F → Type 0) (caller : Caller) (hangs : ℕ
    → Option Hang) (node : ℕ) (message : Said) (reply : Told) (old between new : Seen F) (Goes : Seen F → Attrs
    → Type 0) (answers : List Answer) (seen : Stat)
    → AreAskedAndMade state is_flushed caller hangs node message answers old between → refusal_in answers ≡ None
    → seen_in answers ≡ Some seen → Goes between seen.attrs
    → IsLookedAt state is_flushed caller hangs node message reply old new Goes
looked_on state is_flushed caller hangs node message reply old between new Goes answers seen made served was goes =
    record {
      answers = answers;
      between = between;
      looked = made;
      behind = subst (λ o. Behind o (seen_in answers) reply (new ≡ between) (Goes between)) (sym served)
          (subst (λ (s : Option Stat). Behind None s reply (new ≡ between) (Goes between)) (sym was) goes);
    }

pub sought_there : {F : Type 0} (state : F → StoreState) (is_flushed : F → Type 0) (caller : Caller) (hangs : ℕ
    → Option Hang) (node : ℕ) (name : List ℕ) (directory : ℕ) (new_name : List ℕ) (reply : Told) (old new : Seen F)
    (to : List (List ℕ)) (answers : List Answer)
    → IsPathOf hangs directory (Some new_name) to → AreMade state is_flushed caller (Stats to ∷ []) answers old new
    → refusal_in answers ≡ None → reply ≡ Error EEXIST
    → IsSought state is_flushed caller hangs node name directory new_name reply old new
sought_there state is_flushed caller hangs node name directory new_name reply old new to answers leads made served
    told = record {
      to = to;
      leads_to = leads;
      answers = answers;
      between = new;
      made = made;
      behind = subst (λ o. BehindFree o reply (new ≡ new)
          (IsRenamed state is_flushed caller hangs node name directory new_name reply new new)) (sym served) (
            told,
            refl,
          );
    }

pub sought_refused : {F : Type 0} (state : F → StoreState) (is_flushed : F → Type 0) (caller : Caller) (hangs : ℕ
    → Option Hang) (node : ℕ) (name : List ℕ) (directory : ℕ) (new_name : List ℕ) (reply : Told) (old new : Seen F)
    (to : List (List ℕ)) (answers : List Answer) (error : Errno)
    → IsPathOf hangs directory (Some new_name) to → AreMade state is_flushed caller (Stats to ∷ []) answers old new
    → refusal_in answers ≡ Some error → is_missing error ≡ false → reply ≡ Error error
    → IsSought state is_flushed caller hangs node name directory new_name reply old new
sought_refused state is_flushed caller hangs node name directory new_name reply old new to answers error leads made
    refused other told = record {
      to = to;
      leads_to = leads;
      answers = answers;
      between = new;
      made = made;
      behind =
          let Goes = IsRenamed state is_flushed caller hangs node name directory new_name reply new new in
          subst (λ o. BehindFree o reply (new ≡ new) Goes) (sym refused)
          (subst (λ b. BehindMissing b error reply (new ≡ new) Goes) (sym other) (told, refl));
    }

pub sought_free : {F : Type 0} (state : F → StoreState) (is_flushed : F → Type 0) (caller : Caller) (hangs : ℕ
    → Option Hang) (node : ℕ) (name : List ℕ) (directory : ℕ) (new_name : List ℕ) (reply : Told)
    (old between new : Seen F) (to : List (List ℕ)) (answers : List Answer) (error : Errno)
    → IsPathOf hangs directory (Some new_name) to → AreMade state is_flushed caller (Stats to ∷ []) answers old between
    → refusal_in answers ≡ Some error → is_missing error ≡ true
    → IsRenamed state is_flushed caller hangs node name directory new_name reply between new
    → IsSought state is_flushed caller hangs node name directory new_name reply old new
sought_free state is_flushed caller hangs node name directory new_name reply old between new to answers error leads made
    refused missing renamed = record {
      to = to;
      leads_to = leads;
      answers = answers;
      between = between;
      made = made;
      behind =
          let Goes = IsRenamed state is_flushed caller hangs node name directory new_name reply between new in
          subst (λ o. BehindFree o reply (new ≡ between) Goes) (sym refused)
          (subst (λ b. BehindMissing b error reply (new ≡ between) Goes) (sym missing) renamed);
    }
