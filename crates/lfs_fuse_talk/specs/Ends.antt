-- How `lfs_fuse` ends.
use Rattle.std.specs.Prelude.{◌≡◌, ◌≢◌, ◌≤◌, ◌⊎◌, ⊤, ℕ, Bool, false, true, List, Option, Result}
use Rattle.std.specs.Prelude.{IfErr, IfOk, IsSome}
use Rattle.clap.specs.Values.{kind_of}
use Rattle.clap.specs.declared.error.Error.{Error}
use Rattle.lfs_types.specs.declared.fault.FormatFault.{FormatFault}
use Rattle.lfs_types.specs.declared.fault.FormatFault.TheVariants as format
use Rattle.lfs_types.specs.declared.store.Params.{Params}
use Rattle.lfs_parts.specs.Opening.{IsTooFew, IsTooMany}
use Rattle.lfs_parts.specs.declared.parts.Parts.{Parts as Log}
use Rattle.lfs_fuse_wire.specs.declared.attributes.Time.{Time}
use Rattle.lfs_fuse_wire.specs.declared.framing.Frame.{Frame}
use Rattle.lfs_fuse_wire.specs.declared.framing.Frame.TheVariants.{Partial, Bad}
use Rattle.lfs_fuse_wire.specs.declared.header.Header.{Header}
use Rattle.lfs_stands.specs.declared.unfit.Unfit.{Unfit}
use Rattle.lfs_command.specs.Ends.{EndsUnasked}
use Rattle.lfs_fuse_talk.specs.Images.{IsUnfit}
use Rattle.lfs_fuse_talk.specs.Ranges.{IsInRange}
use Rattle.lfs_fuse_talk.specs.Serving.{HasServed, Kind, durable_kind, log_kind}
use Rattle.lfs_fuse_talk.specs.Worlds.{any_groups, any_time, no_groups, recorded_time}
use Rattle.lfs_fuse_talk.specs.declared.fault.TalkFault.{TalkFault}
use Rattle.lfs_fuse_talk.specs.declared.fault.TalkFault.TheVariants.{Format, Read, Image, Open}
use Rattle.lfs_fuse_talk.specs.declared.fault.TalkFault.TheVariants.{Journal, Save, Message, Reply}
use Rattle.lfs_fuse_talk.specs.declared.fault.TalkFault.TheVariants.{Memory}
use Rattle.lfs_fuse_talk.specs.declared.fault.TalkFault.TheVariants.{Unfit as NoStand}
use Rattle.lfs_fuse_talk.specs.declared.options.Options.{Options}
use Rattle.lfs_fuse_talk.specs.declared.outside.System.{System}

-- a log of these numbers can't be laid out for this fault
abbrev pub IsFormatFault : Params → FormatFault → Type 0
IsFormatFault params format.TooFew = IsTooFew params.segments params.inodes params.frames
IsFormatFault params format.TooMany = IsTooMany params.segments params.inodes params.frames
IsFormatFault params format.Memory = ⊤

-- no volume is loaded from the file of an image, for this fault
abbrev pub IsUnloaded : TalkFault → Type 0
IsUnloaded (Format fault) = ⊤
IsUnloaded (Read fault) = ⊤
IsUnloaded (Image fault) = ⊤
IsUnloaded Memory = ⊤
IsUnloaded (NoStand why) = ⊥
IsUnloaded (Open fault) = ⊥
IsUnloaded Journal = ⊥
IsUnloaded Save = ⊥
IsUnloaded Message = ⊥
IsUnloaded Reply = ⊥

-- there is no volume to begin with, for this fault: one of a fresh one, or, where an image is asked for, of its file,
-- or of its log, on which the store may not stand
abbrev pub IsUnbegun : (Unfit → Log → Type 0) → Options → TalkFault → Type 0
IsUnbegun refuses options (Format fault) = IsFormatFault options.params fault ⊎ IsSome options.image
IsUnbegun refuses options (Read fault) = IsSome options.image
IsUnbegun refuses options (Image fault) = IsSome options.image
IsUnbegun refuses options (NoStand why) = IsUnfit refuses options why
IsUnbegun refuses options Memory = ⊤
IsUnbegun refuses options (Open fault) = ⊥
IsUnbegun refuses options Journal = ⊥
IsUnbegun refuses options Save = ⊥
IsUnbegun refuses options Message = ⊥
IsUnbegun refuses options Reply = ⊥

-- the same, or the file of the journal is not made
abbrev pub IsUnserved : (Unfit → Log → Type 0) → Options → TalkFault → Type 0
IsUnserved refuses options (Format fault) = IsUnbegun refuses options (Format fault)
IsUnserved refuses options (Read fault) = IsUnbegun refuses options (Read fault)
IsUnserved refuses options (Image fault) = IsUnbegun refuses options (Image fault)
IsUnserved refuses options (NoStand why) = IsUnbegun refuses options (NoStand why)
IsUnserved refuses options (Open fault) = IsSome options.journal_out
IsUnserved refuses options Memory = ⊤
IsUnserved refuses options Journal = ⊥
IsUnserved refuses options Save = ⊥
IsUnserved refuses options Message = ⊥
IsUnserved refuses options Reply = ⊥

-- A mount ended in this fault, which has its cause. Where there is no volume to begin with, or the file of the journal
-- is not made, nothing is read or written. At bytes that are no message each one before them is answered. Where the
-- image is not saved, or the file of the journal took no more, all that was read is; and behind a file that took no
-- more the image is saved all the same.
abbrev pub IsBroken : (Unfit → Log → Type 0) → Options → Type 0
    → (Frame → Bool → Bool → Bool → Type 0) → TalkFault → Type 0
IsBroken refuses options IsUnread Serves (Format fault) = IsUnserved refuses options (Format fault) × IsUnread
IsBroken refuses options IsUnread Serves (Read fault) = IsUnserved refuses options (Read fault) × IsUnread
IsBroken refuses options IsUnread Serves (Image fault) = IsUnserved refuses options (Image fault) × IsUnread
IsBroken refuses options IsUnread Serves (NoStand why) = IsUnserved refuses options (NoStand why) × IsUnread
IsBroken refuses options IsUnread Serves (Open fault) = IsUnserved refuses options (Open fault) × IsUnread
IsBroken refuses options IsUnread Serves Message = (is_kept : Bool) × Serves Bad false is_kept false
IsBroken refuses options IsUnread Serves Save =
    IsSome options.image × (is_whole : Bool) × (is_kept : Bool)
    × Serves Partial is_whole is_kept false
IsBroken refuses options IsUnread Serves Journal =
    IsSome options.journal_out × (is_whole : Bool) × Serves Partial is_whole false true
IsBroken refuses options IsUnread Serves Memory = ⊤
IsBroken refuses options IsUnread Serves Reply = ⊥

-- the status of a mount that ended in a fault
abbrev pub status_of : TalkFault → ℕ
status_of (Open fault) = 2
status_of fault = 1

-- A program that was asked for a mount ends with this status: 0 where all messages that were read, up to the end or to a
-- read that failed, are served, a file of the journal that is asked for has the line of each entry, and the volume is
-- kept in a file where an image is asked for; nothing is told then, but where a reply was not written whole; else that
-- of the fault in which it ended.
pub record EndsServing {L P F R W D : Type 0} (contents : F → Option (List ℕ)) (kind : Kind L P)
    (options : Options) (known left start out : Option (List ℕ)) (status : ℕ)
    (in_before in_after : R)
    (out_before out_after : W) (err_before err_after : D) : Type 0 where
  pub either : status ≤ 2
  pub done : status ≡ 0 → (is_whole : Bool)
      × HasServed contents kind options known left start out Partial is_whole true true
      × (is_whole ≡ true → err_after ≡ err_before)
  pub failed : status ≢ 0 → (fault : TalkFault) × (status ≡ status_of fault)
      × IsBroken kind.stand.refuses options ((in_after ≡ in_before) × (out_after ≡ out_before))
      (HasServed contents kind options known left start out) fault

-- the same in a world outside, over the kind of store that is asked for: a durable one, where serials are asked for,
-- and else the log store
pub record EndsOver {P F R W D : Type 0} (contents : F → Option (List ℕ))
    (time : P → Time → P → Type 0) (groups : P → Header → Option (List ℕ) → P → Type 0)
    (options : Options) (known left start out : Option (List ℕ)) (status : ℕ)
    (in_before in_after : R) (out_before out_after : W) (err_before err_after : D) : Type 0 where
  pub durable : options.serials ≡ true → EndsServing contents (durable_kind time groups) options
      known left start out status in_before in_after out_before out_after err_before err_after
  pub plain : options.serials ≡ false → EndsServing contents (log_kind time groups) options
      known left start out status in_before in_after out_before out_after err_before err_after

-- the same of the messages of a recording, or of a kernel, by the system's clock and processes, as was asked
pub record EndsMount {F R W D : Type 0} (S Dir : Type 0) (contents : F → Option (List ℕ))
    (options : Options) (known left start out : Option (List ℕ)) (status : ℕ)
    (in_before in_after : R) (out_before out_after : W) (err_before err_after : D) : Type 0 where
  pub recorded : options.recorded ≡ true → EndsOver contents recorded_time no_groups options
      known left start out status in_before in_after out_before out_after err_before err_after
  pub live : options.recorded ≡ false
      → EndsOver {P = System S F Dir} contents any_time any_groups options
      known left start out status in_before in_after out_before out_after err_before err_after

-- `lfs_fuse` ends with this status by what it was asked for: options whose numbers are in their ranges, as a mount ends,
-- or else nothing is read
pub record IsFuseEnd {F R W D : Type 0} (S Dir : Type 0) (contents : F → Option (List ℕ))
    (known left start out : Option (List ℕ)) (status : ℕ) (in_before in_after : R)
    (out_before out_after : W) (err_before err_after : D) : Type 0 where
  pub asked : Result Options Error
  pub ranges : IfOk asked (λ options. IsInRange options.params)
  pub mount : IfOk asked (λ options. EndsMount S Dir contents options known left start out status
      in_before in_after out_before out_after err_before err_after)
  pub not_run : IfErr asked (λ error. (in_after ≡ in_before)
      × EndsUnasked (kind_of error) status out_before out_after err_before err_after)
