-- What comes of a message that may be answered by what is kept of a removed file: `write_kept`, for `Mount::kept_told`,
-- and `told_kept` and `told_dated`. Something is kept for a message where its node is gone and its handle's slot has a
-- file of this node; the promise has a case for each, so the facts that the code found are put in for them (`subst`).
-- Then either the answer is the one that was told by what is kept, or nothing is kept and the message goes its usual
-- way.
use Rattle.std.proofs.Common.{◌≡◌, ℕ, List, length, Option, None, Some, refl, sym, subst}
use Rattle.std.specs.Prelude.{IsSomeAnd}
use Rattle.lfs_types.specs.Caller.{Caller}
use Rattle.lfs_volume.specs.Seen.{Seen}
use Rattle.lfs_nodes.specs.declared.parts.Parts.{Parts}
use Rattle.lfs_nodes.specs.declared.node.Hang.TheVariants.{Gone}
use Rattle.lfs_nodes.specs.Nodes.{known}
use Rattle.lfs_nodes.specs.Reads.{hang_in}
use Rattle.lfs_fuse_calls.specs.Asked.{writes}
use Rattle.lfs_fuse_wire.specs.Said.{Said, write}
use Rattle.lfs_fuse_wire.specs.declared.handles.Write.{Write}
use Rattle.lfs_fuse_wire.specs.declared.attributes.Time.{Time}
use Rattle.lfs_fuse_calls.specs.declared.told.Told.{Told}
use Rattle.lfs_mount.specs.Answered.{IsToldKept}
use Rattle.lfs_opens.specs.Opens.{file_at_slot, kept_to, slot_of}
use Rattle.lfs_mount.specs.Leaving.{OnKept, kept_for, where_gone}
use Rattle.lfs_opens.specs.Rewritten.{AreRewritten, LacksRoom, TellsWritten, end_of, part_of}
use Rattle.lfs_opens.specs.declared.kept.Kept.{Kept}
use Rattle.lfs_mount.specs.declared.mount.Beside.{Beside}

module _ {F : Type 0} (now : Time) (caller : Caller) (node : ℕ) (message : Said) (old new : Seen F)
    (before after : Beside) (Dated : Type 0) where
  pub told_kept : (o : Option Kept) (found : Option Told) (told : Told)
      → OnKept o (λ kept. IsSomeAnd found (λ t. IsToldKept now caller node message t old new before after kept))
      (found ≡ None) → found ≡ Some told
      → OnKept o (IsToldKept now caller node message told old new before after) Dated
  told_kept (Some kept) found told h is =
      subst (λ r. IsSomeAnd r (λ t. IsToldKept now caller node message t old new before after kept)) is h
  told_kept None found told h is = absurd (cc)

  pub told_dated : (o : Option Kept) (found : Option Told) (reply : Told) (last : Seen F) (left : Beside)
      → OnKept o (λ kept. IsSomeAnd found (λ t. IsToldKept now caller node message t old new before after kept))
      (found ≡ None) → found ≡ None → Dated
      → OnKept o (IsToldKept now caller node message reply old last before left) Dated
  told_dated (Some kept) found reply last left h none dated =
      absurd (subst (λ r. IsSomeAnd r (λ t. IsToldKept now caller node message t old new before after kept)) none h)
  told_dated None found reply last left h none dated = dated

-- a write to a file of which something is kept
pub write_kept : {F : Type 0} (now : Time) (caller : Caller) (nodes : Parts) (node : ℕ) (fields : Write)
    (bytes : List ℕ) (kept : Kept) (reply : Told) (old : Seen F) (before after : Beside)
    → hang_in (known nodes node) ≡ Some Gone
    → kept_to writes (file_at_slot before.opens.files.items (slot_of fields.handle)) node caller ≡ Some kept
    → TellsWritten (LacksRoom (write fields bytes) node (length kept.bytes.items) before.opens.files.items)
    (length (part_of bytes)) (end_of (write fields bytes) (length kept.bytes.items)) reply
    → AreRewritten now caller node (write fields bytes) reply before.opens.files.items after.opens.files.items
    → after.times ≡ before.times → after.loans ≡ before.loans → after.listings ≡ before.listings
    → OnKept (kept_for nodes (write fields bytes) before.opens.files.items node caller)
    (λ k. IsSomeAnd (Some reply) (λ t. IsToldKept now caller node (write fields bytes) t old old before after k))
    (Some reply ≡ None)
write_kept now caller nodes node fields bytes kept reply old before after gone is tells files times loans listings =
    let Answers = λ (o : Option Kept). OnKept o
    (λ k. IsSomeAnd (Some reply) (λ t. IsToldKept now caller node (write fields bytes) t old old before after k))
    (Some reply ≡ None) in
    subst (λ h. Answers (where_gone h (kept_to writes (file_at_slot before.opens.files.items (slot_of fields.handle))
    node caller))) (sym gone)
    (subst (λ o. Answers o) (sym is)
    (record { tells = tells; none = refl; times = times; loans = loans; listings = listings; opens = files }))
