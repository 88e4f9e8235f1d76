-- What is kept of files that were removed stays through a message: a node that is gone isn't looked at again, a file
-- that is opened gets a slot in which none is, and one that is closed goes from its own.
use Rattle.std.proofs.Common.{◌≡◌, ◌≢◌, ℕ, zero, suc, ◌==◌, Bool, true, false, List, [], ◌∷◌, refl, sym, ap, subst, ◌∙◌, arith}
use Rattle.std.proofs.Common.{Option, None, Some, IfSome}
use Rattle.std.specs.Prelude.{◌-◌, slice_index_or, slice_set, if◌then◌else◌}
use Rattle.lfs_types.specs.Caller.{Caller}
use Rattle.lfs_types.specs.StoreStates.{StoreState}
use Rattle.lfs_volume.specs.Seen.{Seen}
use Rattle.lfs_nodes.specs.declared.node.Hang.TheVariants.{Gone}
use Rattle.lfs_nodes.specs.declared.place.Place.{Place}
use Rattle.lfs_nodes.specs.declared.parts.Parts.{Parts}
use Rattle.lfs_nodes.specs.Nodes.{known}
use Rattle.lfs_nodes.specs.Reads.{hang_in}
use Rattle.lfs_fuse_wire.specs.Said.{Said, access, batch_forget, create, destroy, flush, forget, fsync, fsyncdir, getattr, init}
use Rattle.lfs_fuse_wire.specs.Said.{interrupt, ioctl, lookup, mkdir, mknod, opendir, opening, read, readdir, readdirplus, release}
use Rattle.lfs_fuse_wire.specs.Said.{releasedir, rename, rmdir, setattr, statfs, unknown, unlink, unserved, write}
use Rattle.lfs_fuse_wire.specs.declared.attributes.Time.{Time}
use Rattle.lfs_fuse_wire.specs.declared.flags.AccessMode.{AccessMode}
use Rattle.lfs_fuse_calls.specs.declared.told.Told.{Told}
use Rattle.lfs_fuse_calls.specs.declared.told.Told.TheVariants as told
use Rattle.lfs_mount.specs.Answered.{IsHeard, IsToldDated, IsToldKept}
use Rattle.lfs_mount.specs.Keeping.{AreStillKept, IsStillKept, StaysUnless, ChangesIf, is_closed, is_slot}
use Rattle.lfs_opens.specs.Opens.{AreLeft, AreKeptWhereDone, AreUnkept, IsFree}
use Rattle.lfs_mount.specs.Leaving.{ArePreparedFor, IsLeaving, IsPrepared, OnKept, is_taken, taken_at}
use Rattle.lfs_opens.specs.Opens.{closed_at, opened_in, slot_of, unkept}
use Rattle.lfs_mount.specs.Leaving.{kept_for, OnOpener, IsKept}
use Rattle.lfs_opens.specs.Rewritten.{AreChangedIf, Shown, bytes_kept, file_behind, is_rewrite, kept_behind, shown_slot}
use Rattle.lfs_opens.specs.declared.kept.Kept.{Kept}
use Rattle.lfs_opens.specs.declared.kept.KeepingFault.{KeepingFault}
use Rattle.lfs_opens.specs.declared.kept.OpenFile.{OpenFile}
use Rattle.lfs_mount.specs.declared.mount.Beside.{Beside}
use Rattle.lfs_mount.specs.declared.mount.Sizes.{Sizes}

-- ---- slots

set_none : (files : List (Option OpenFile)) (slot : ℕ) → slice_index_or (slice_set files slot None) slot None ≡ None
set_none [] slot = refl
set_none (file ∷ files) zero = refl
set_none (file ∷ files) (suc slot) = set_none files slot

set_elsewhere : (files : List (Option OpenFile)) (at slot : ℕ) (file : Option OpenFile) → slot ≢ at
    → slice_index_or (slice_set files at file) slot None ≡ slice_index_or files slot None
set_elsewhere [] at slot file other = refl
set_elsewhere (f ∷ files) zero zero file other = absurd (other refl)
set_elsewhere (f ∷ files) zero (suc slot) file other = refl
set_elsewhere (f ∷ files) (suc at) zero file other = refl
set_elsewhere (f ∷ files) (suc at) (suc slot) file other = set_elsewhere files at slot file (λ e. other (ap suc e))

-- ---- a node that is taken from its place isn't gone

gone_stays : (place : Option Place) → is_taken place (Some Gone) ≡ true → ⊥
gone_stays None h = absurd (cc)
gone_stays (Some place) h = absurd (cc)

leaving_other : (nodes : Parts) (node : ℕ) (message : Said) (id own : ℕ) → IsLeaving nodes node message id
    → hang_in (known nodes own) ≡ Some Gone → own ≢ id
leaving_other nodes node message id own leaves gone same =
    gone_stays (taken_at node message) (subst (λ h. is_taken (taken_at node message) h ≡ true)
    (subst (λ n. hang_in (known nodes n) ≡ Some Gone) same gone) leaves)

-- ---- the last look

prepared_other : (Looks : Caller → Kept → Type 0) (Lacks : Caller → KeepingFault → Type 0) (b : Bool) (file : OpenFile)
    (after : Option OpenFile) → b ≡ false
    → OnOpener (if b then Some file.cred else None) (λ caller. IsKept (Looks caller) (Lacks caller) (Some file) after)
    (after ≡ Some file)
    → after ≡ Some file
prepared_other Looks Lacks true file after other h = absurd (cc)
prepared_other Looks Lacks false file after other h = h

not_node : (own id : ℕ) → own ≢ id → (own == id) ≡ false
not_node own id other = grind arith

prepared_stays : (Looks : ℕ → ℕ → Caller → Kept → Type 0) (Lacks : ℕ → ℕ → Caller → KeepingFault → Type 0)
    (nodes : Parts) (node : ℕ) (message : Said) (left : Option ℕ)
    (before prepared : List (Option OpenFile)) (slot : ℕ) (file : OpenFile)
    → IfSome left (IsLeaving nodes node message) → ArePreparedFor Looks Lacks left before prepared
    → slice_index_or before slot None ≡ Some file → hang_in (known nodes file.node) ≡ Some Gone
    → slice_index_or prepared slot None ≡ Some file
prepared_stays Looks Lacks nodes node message None before prepared slot file leaves h is gone =
    subst (λ files. slice_index_or files slot None ≡ Some file) (sym h) is
prepared_stays Looks Lacks nodes node message (Some id) before prepared slot file leaves h is gone =
    let other = leaving_other nodes node message id file.node leaves gone in
    let at = h slot in
    let room = 33554432 - bytes_kept at.between in
    prepared_other (Looks id room) (Lacks id room) (file.node == id) file (slice_index_or prepared slot None)
    (not_node file.node id other)
    (subst (λ o. IsPrepared (Looks id) (Lacks id) id room o (slice_index_or prepared slot None)) is at.prepared)

-- ---- what a message makes of the slots

module _ (nodes : Parts) (node : ℕ) (before after : List (Option OpenFile)) (slot : ℕ) (file : OpenFile)
    (is : slice_index_or before slot None ≡ Some file) where
  same_slot : after ≡ before → slice_index_or after slot None ≡ Some file
  same_slot same = subst (λ files. slice_index_or files slot None ≡ Some file) (sym same) is

  closed_by : (at : ℕ) (b : Bool) → (at == slot) ≡ b → after ≡ slice_set before at None
      → StaysUnless b file (slice_index_or after slot None)
  closed_by at true here same =
      let e : at ≡ slot = grind arith in
      subst (λ files. slice_index_or files slot None ≡ None) (sym same)
      (subst (λ a. slice_index_or (slice_set before a None) slot None ≡ None) (sym e) (set_none before slot))
  closed_by at false here same =
      let other : slot ≢ at = grind arith in
      subst (λ files. slice_index_or files slot None ≡ Some file) (sym same)
      (set_elsewhere before at slot None other ∙ is)

  closed_stays : (o : Option ℕ) → after ≡ closed_at o before
      → StaysUnless (is_slot o slot) file (slice_index_or after slot None)
  closed_stays None same = same_slot same
  closed_stays (Some at) same = closed_by at (at == slot) refl same

  opened_stays : (found opened : Option ℕ) (mode : AccessMode) (caller : Caller) → IfSome found (λ s. IsFree before s)
      → after ≡ opened_in found opened mode caller before → slice_index_or after slot None ≡ Some file
  opened_stays None opened mode caller free same = same_slot same
  opened_stays (Some at) None mode caller free same = same_slot same
  opened_stays (Some at) (Some id) mode caller free same =
      let other : slot ≢ at = λ e. (let none : slice_index_or before slot None ≡ None =
      subst (λ s. slice_index_or before s None ≡ None) (sym e) free.1 in absurd (cc)) in
      subst (λ files. slice_index_or files slot None ≡ Some file) (sym same)
      (set_elsewhere before at slot _ other ∙ is)

  unkept_other : (id : ℕ) (b : Bool) → b ≡ false
      → (if b then Some (record file { kept = None; lack = None }) else Some file) ≡ Some file
  unkept_other id true h = absurd (cc)
  unkept_other id false h = refl

  unkept_stays : (id : ℕ) → file.node ≢ id → AreUnkept id before after → slice_index_or after slot None ≡ Some file
  unkept_stays id other are =
      are slot ∙ ap (λ o. unkept id o) is ∙ unkept_other id (file.node == id) (not_node file.node id other)

  flushed_stays : (left : Option ℕ) (reply : Told) → IfSome left (λ id. file.node ≢ id)
      → AreKeptWhereDone left reply before after → slice_index_or after slot None ≡ Some file
  flushed_stays None reply other same = same_slot same
  flushed_stays (Some id) (told.Error error) other are = unkept_stays id other are
  flushed_stays (Some id) told.Done other same = same_slot same
  flushed_stays (Some id) (told.Entry entry) other are = unkept_stays id other are
  flushed_stays (Some id) (told.Attr attr) other are = unkept_stays id other are
  flushed_stays (Some id) (told.Open opened) other are = unkept_stays id other are
  flushed_stays (Some id) (told.Create entry opened) other are = unkept_stays id other are
  flushed_stays (Some id) (told.Written count) other are = unkept_stays id other are
  flushed_stays (Some id) (told.Bytes bytes) other are = unkept_stays id other are
  flushed_stays (Some id) (told.Statfs room) other are = unkept_stays id other are
  flushed_stays (Some id) (told.Init reply) other are = unkept_stays id other are
  flushed_stays (Some id) told.Ioctl other are = unkept_stays id other are
  flushed_stays (Some id) (told.Flags flags) other are = unkept_stays id other are
  flushed_stays (Some id) (told.Extended flags) other are = unkept_stays id other are

  module _ (caller : Caller) (reply : Told) (left found : Option ℕ) (other : IfSome left (λ id. file.node ≢ id))
      (free : IfSome found (λ s. IsFree before s)) where
    left_stays : (message : Said) → AreLeft message node caller reply left found before after
        → StaysUnless (is_closed message slot) file (slice_index_or after slot None)
    left_stays (release fields) same = closed_stays (slot_of fields.handle) same
    left_stays (create fields name) same = opened_stays found _ fields.flags.access caller free same
    left_stays (opening fields) same = opened_stays found _ fields.flags.access caller free same
    left_stays (init fields) are = flushed_stays left reply other are
    left_stays destroy are = flushed_stays left reply other are
    left_stays (lookup name) are = flushed_stays left reply other are
    left_stays (forget fields) are = flushed_stays left reply other are
    left_stays (batch_forget bytes) are = flushed_stays left reply other are
    left_stays (interrupt number) are = flushed_stays left reply other are
    left_stays (getattr fields) are = flushed_stays left reply other are
    left_stays (setattr fields) are = flushed_stays left reply other are
    left_stays (access fields) are = flushed_stays left reply other are
    left_stays (mknod fields name) are = flushed_stays left reply other are
    left_stays (mkdir fields name) are = flushed_stays left reply other are
    left_stays (unlink name) are = flushed_stays left reply other are
    left_stays (rmdir name) are = flushed_stays left reply other are
    left_stays (rename fields name new_name) are = flushed_stays left reply other are
    left_stays (read fields) are = flushed_stays left reply other are
    left_stays (write fields bytes) are = flushed_stays left reply other are
    left_stays (flush fields) are = flushed_stays left reply other are
    left_stays (fsync fields) are = flushed_stays left reply other are
    left_stays (opendir fields) are = flushed_stays left reply other are
    left_stays (readdir fields) are = flushed_stays left reply other are
    left_stays (readdirplus fields) are = flushed_stays left reply other are
    left_stays (releasedir fields) are = flushed_stays left reply other are
    left_stays (fsyncdir fields) are = flushed_stays left reply other are
    left_stays statfs are = flushed_stays left reply other are
    left_stays (ioctl fields) are = flushed_stays left reply other are
    left_stays (unserved kind) are = flushed_stays left reply other are
    left_stays (unknown number) are = flushed_stays left reply other are

-- ---- any message

others : (nodes : Parts) (node : ℕ) (message : Said) (own : ℕ) (left : Option ℕ)
    → IfSome left (IsLeaving nodes node message) → hang_in (known nodes own) ≡ Some Gone
    → IfSome left (λ id. own ≢ id)
others nodes node message own None leaves gone = tt
others nodes node message own (Some id) leaves gone = leaving_other nodes node message id own leaves gone

free_slot : (Also : Type 0) (files : List (Option OpenFile)) (found : Option ℕ)
    → IfSome found (λ s. IsFree files s × Also) → IfSome found (λ s. IsFree files s)
free_slot Also files None h = tt
free_slot Also files (Some s) h = h.0

changed_if : (b : Bool) (change : Shown → Shown) (node : ℕ) (before after : List (Option OpenFile)) (slot : ℕ)
    (file : OpenFile) → slice_index_or before slot None ≡ Some file → AreChangedIf b change node before after
    → ChangesIf b change node file (slice_index_or after slot None)
changed_if true change node before after slot file is are =
    are slot ∙ ap (λ o. file_behind change node (shown_slot o)) is
changed_if false change node before after slot file is are = are slot ∙ ap (λ o. shown_slot o) is

module _ {F : Type 0} (state : F → StoreState) (is_flushed : F → Type 0) (sizes : Sizes) (now : Time) (caller : Caller)
    (nodes nodes_after : Parts) (node : ℕ) (reply : Told) (old new : Seen F) (before after : Beside) where
  still_kept : (message : Said) (o : Option Kept) (slot : ℕ) (file : OpenFile)
      → slice_index_or before.opens.files.items slot None ≡ Some file → hang_in (known nodes file.node) ≡ Some Gone
      → OnKept o (IsToldKept now caller node message reply old new before after)
      (IsToldDated state is_flushed sizes now caller nodes nodes_after node message reply old new before after)
      → IsStillKept now caller node message reply o slot file (slice_index_or after.opens.files.items slot None)
  still_kept message (Some kept) slot file is gone h =
      changed_if (is_rewrite message reply) (kept_behind now caller message) node before.opens.files.items
      after.opens.files.items slot file is h.opens
  still_kept message None slot file is gone h =
      left_stays nodes node h.prepared after.opens.files.items slot file
      (prepared_stays _ _ nodes node message h.left before.opens.files.items h.prepared slot file h.leaves h.kept is gone)
      caller h.told h.left h.slot (others nodes node message file.node h.left h.leaves gone)
      (free_slot _ h.prepared h.slot h.free) message h.opens

  pub heard_keeps : (message : Option Said) (wanted : Bool)
      → IsHeard state is_flushed sizes now caller nodes nodes_after node message reply wanted old new before after
      → IfSome message (λ m. AreStillKept now caller nodes node m reply before.opens.files.items
      after.opens.files.items)
  heard_keeps None wanted h = tt
  heard_keeps (Some message) wanted h = λ slot file is gone.
      still_kept message (kept_for nodes message before.opens.files.items node caller) slot file is gone h.0
