-- How `lfs_fuse` ends, by how its talk did: `ends_served` for `mount`, `broken_talk` and `broken_save` for `serve`. A
-- talk that was done and kept has status 0, and each fault has status 1 or 2 (`status_between`), so status 0 tells that
-- all was served. The fault of a talk, of its file or of its image comes with what was served until then. The faults
-- that come before the first read say besides that nothing was read; a talk that began has none of them
-- (`broken_read`).
use Rattle.std.proofs.Common.{◌≡◌, ℕ, ◌≤◌, ◌⊎◌, inl, inr, Bool, true, false, List, Option, Result, Ok, Err, IfOk, IfErr}
use Rattle.std.proofs.Common.{IsSome, arith, sym, subst, ◌∙◌}
use Rattle.std.specs.Prelude.{MatchResult, OnOk}
use Rattle.lfs_parts.specs.declared.parts.Parts.{Parts as Log}
use Rattle.lfs_stands.specs.declared.unfit.Unfit.{Unfit}
use Rattle.lfs_fuse_wire.specs.declared.framing.Frame.{Frame}
use Rattle.lfs_fuse_wire.specs.declared.framing.Frame.TheVariants.{Partial, Bad}
use Rattle.lfs_fuse_talk.specs.Ends.{EndsServing, IsBroken, status_of}
use Rattle.lfs_fuse_talk.specs.Serving.{HasServed, Kind}
use Rattle.lfs_fuse_talk.specs.Steps.{IsTalkFault}
use Rattle.lfs_fuse_talk.specs.declared.fault.TalkFault.{TalkFault}
use Rattle.lfs_fuse_talk.specs.declared.fault.TalkFault.TheVariants.{Format, Read, Image, Open, Journal, Save, Message}
use Rattle.lfs_fuse_talk.specs.declared.fault.TalkFault.TheVariants.{Reply, Memory}
use Rattle.lfs_fuse_talk.specs.declared.fault.TalkFault.TheVariants.{Unfit as NoStand}
use Rattle.lfs_fuse_talk.specs.declared.options.Options.{Options}
use Rattle.lfs_fuse_talk.specs.declared.talk.Talked.{Talked}

status_between : (fault : TalkFault) → (1 ≤ status_of fault) × (status_of fault ≤ 2)
status_between (Format fault) = (omega arith, omega arith)
status_between (Read fault) = (omega arith, omega arith)
status_between (Image fault) = (omega arith, omega arith)
status_between (NoStand why) = (omega arith, omega arith)
status_between (Open fault) = (omega arith, omega arith)
status_between Journal = (omega arith, omega arith)
status_between Save = (omega arith, omega arith)
status_between Message = (omega arith, omega arith)
status_between Reply = (omega arith, omega arith)
status_between Memory = (omega arith, omega arith)

-- a fault of a talk is one also where nothing may have been read
broken_read : (refuses : Unfit → Log → Type 0) (options : Options) (IsUnread : Type 0)
    (Serves : Frame → Bool → Bool → Bool → Type 0) (fault : TalkFault)
    → IsBroken refuses options ⊥ Serves fault → IsBroken refuses options IsUnread Serves fault
broken_read refuses options IsUnread Serves (Format fault) broken = absurd broken.1
broken_read refuses options IsUnread Serves (Read fault) broken = absurd broken.1
broken_read refuses options IsUnread Serves (Image fault) broken = absurd broken.1
broken_read refuses options IsUnread Serves (NoStand why) broken = absurd broken.1
broken_read refuses options IsUnread Serves (Open fault) broken = absurd broken.1
broken_read refuses options IsUnread Serves Journal broken = broken
broken_read refuses options IsUnread Serves Save broken = broken
broken_read refuses options IsUnread Serves Message broken = broken
broken_read refuses options IsUnread Serves Reply broken = broken
broken_read refuses options IsUnread Serves Memory broken = tt

-- the fault of a talk itself
pub broken_talk : (refuses : Unfit → Log → Type 0) (options : Options) (Serves : Frame → Bool → Bool → Bool → Type 0)
    (fault : TalkFault) (is_kept : Bool) → IsTalkFault fault → (fault ≡ Message → Serves Bad false is_kept false)
    → IsBroken refuses options ⊥ Serves fault
broken_talk refuses options Serves fault is_kept (inl is) serves =
    subst (λ (f : TalkFault). IsBroken refuses options ⊥ Serves f) (sym is) (is_kept, serves is)
broken_talk refuses options Serves fault is_kept (inr is) serves =
    subst (λ (f : TalkFault). IsBroken refuses options ⊥ Serves f) (sym is) tt

-- a volume that is not kept
pub broken_save : (refuses : Unfit → Log → Type 0) (options : Options) (Serves : Frame → Bool → Bool → Bool → Type 0)
    (fault : TalkFault) (is_whole is_kept : Bool) → (fault ≡ Memory) ⊎ ((fault ≡ Save) × IsSome options.image)
    → Serves Partial is_whole is_kept false → IsBroken refuses options ⊥ Serves fault
broken_save refuses options Serves fault is_whole is_kept (inl is) serves =
    subst (λ (f : TalkFault). IsBroken refuses options ⊥ Serves f) (sym is) tt
broken_save refuses options Serves fault is_whole is_kept (inr is) serves =
    subst (λ (f : TalkFault). IsBroken refuses options ⊥ Serves f) (sym is.0) (is.1, is_whole, is_kept, serves)

-- a mount that began
pub ends_served : {L P F R W D : Type 0} (contents : F → Option (List ℕ)) (kind : Kind L P) (options : Options)
    (known left start out : Option (List ℕ)) (status : ℕ) (in_before in_after : R) (out_before out_after : W)
    (err_before err_between err_after : D) (outcome : Result Talked TalkFault)
    → IfOk outcome (λ talked. HasServed contents kind options known left start out Partial talked.is_whole true true)
    → OnOk outcome (err_between ≡ err_before)
    → IfErr outcome (IsBroken kind.stand.refuses options ⊥ (HasServed contents kind options known left start out))
    → MatchResult outcome (λ talked. (status ≡ 0) × (talked.is_whole ≡ true → err_after ≡ err_between))
    (λ fault. status ≡ status_of fault)
    → EndsServing contents kind options known left start out status in_before in_after out_before out_after err_before
    err_after
ends_served contents kind options known left start out status in_before in_after out_before out_after err_before
    err_between err_after (Ok talked) served silent broken told = record {
      either = let is = told.0 in omega (arith, is);
      done = λ _. (talked.is_whole, served, λ whole. told.1 whole ∙ silent);
      failed = λ some. absurd (some told.0);
    }
ends_served contents kind options known left start out status in_before in_after out_before out_after err_before
    err_between err_after (Err fault) served silent broken told =
    let between = status_between fault in
    record {
      either = omega (arith, told, between.1);
      done = λ none. absurd (omega (arith, told, none, between.0));
      failed = λ _. (
        fault,
        told,
        broken_read kind.stand.refuses options ((in_after ≡ in_before) × (out_after ≡ out_before))
            (HasServed contents kind options known left start out) fault broken,
      );
    }
