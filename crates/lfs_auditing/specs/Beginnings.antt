-- Where the journal begins that is audited.
use Rattle.std.specs.Prelude.{◌≡◌, ℕ, List, Option, None, Some, IfSome, IsSome, length}
use Rattle.lfs_types.specs.Ranges.{least_frames}
use Rattle.lfs_types.specs.Tree.{World, opening_world}
use Rattle.lfs_types.specs.declared.level.Level.{Level}
use Rattle.lfs_log.specs.Parts.{LogParts}
use Rattle.lfs_parts.specs.declared.parts.Parts.{Parts}
use Rattle.lfs_logstore.specs.States.{state_of}
use Rattle.lfs_calls.specs.Volumes as stores
use Rattle.lfs_fsck.specs.Stored.{flushed}
use Rattle.lfs_checking.specs.Files.{IsLoaded}
use Rattle.lfs_checking.specs.Volumes.{IsVolume}
use Rattle.lfs_trace.specs.Checking.{numbers_of}
use Rattle.lfs_auditing.specs.Audits.{HasReadNone, IsAudited}
use Rattle.lfs_auditing.specs.declared.audit.Audit.{Audit}
use Rattle.lfs_auditing.specs.declared.options.Options.{Options}

-- a store and a securelevel are those of the volume whose image a reader had, of these bytes, where
-- they are known
pub record IsReadFrom (known : Option (List ℕ)) (store : Parts) (level : Level) : Type 0 where
  pub loaded : IsLoaded least_frames store level
  pub whole : IfSome known (λ all. loaded.bytes ≡ all)

-- these bytes are the image of a volume with these numbers, whose store and securelevel show this
-- world
pub record IsOfImage (bytes : List ℕ) (w : World) (inodes segments : ℕ) : Type 0 where
  pub log : LogParts
  pub level : Level
  pub volume : IsVolume bytes log level
  pub shown : stores.IsVolume (state_of (flushed log)) w
  pub at_level : w.level ≡ level
  pub inodes_are : inodes ≡ length log.tables.rows
  pub segments_are : segments ≡ log.memory.segments

-- a reader had the image of such a volume: these bytes, where they are known
pub record HasImageOf (known : Option (List ℕ)) (w : World) (inodes segments : ℕ) : Type 0 where
  pub bytes : List ℕ
  pub whole : IfSome known (λ all. bytes ≡ all)
  pub image : IsOfImage bytes w inodes segments

-- Without an image a journal begins at the tree of a fresh volume with the numbers that are asked
-- for; with one at the tree of the volume whose image a file has, which has its own.
abbrev pub BeginsBy : {T F : Type 0} → Option T → (F → Option (List ℕ)) → Options → World → ℕ
    → ℕ → Type 0
BeginsBy None remaining options w inodes segments =
    (w ≡ opening_world) × (inodes ≡ options.inodes) × (segments ≡ options.segments)
BeginsBy {T} {F} (Some image) remaining options w inodes segments =
    (file : F) × HasImageOf (remaining file) w inodes segments

abbrev pub Begins : {F : Type 0} → (F → Option (List ℕ)) → Options → World → ℕ → ℕ → Type 0
Begins remaining options w inodes segments =
    BeginsBy options.from remaining options w inodes segments

-- an audit has read nothing yet, of a journal that begins at the tree of the volume whose image a
-- reader had, of these bytes, where they are known
pub record IsBegunBy (known : Option (List ℕ)) (a : Audit) : Type 0 where
  pub from : World
  pub image : HasImageOf known from (numbers_of a.checker) a.checker.segments
  pub read : HasReadNone from a

-- an audit has read nothing yet, of the journal that is asked of
pub record IsBegun {F : Type 0} (remaining : F → Option (List ℕ)) (options : Options) (a : Audit)
    : Type 0 where
  pub from : World
  pub begins : Begins remaining options from (numbers_of a.checker) a.checker.segments
  pub read : HasReadNone from a
  pub denials : a.denials ≡ options.denials

-- a journal of these bytes, where they are known, was audited from where it begins, and the audit
-- ended with this status
pub record IsAuditedBy {F : Type 0} (remaining : F → Option (List ℕ)) (options : Options)
    (known : Option (List ℕ)) (status : ℕ) : Type 0 where
  pub from : World
  pub inodes : ℕ
  pub segments : ℕ
  pub begins : Begins remaining options from inodes segments
  pub audited : IsAudited known options.denials from inodes segments status

-- the same of the journal that is asked of: that of a file, where one is named, else the reader's
pub record IsAuditedAsAsked {F : Type 0} (remaining : F → Option (List ℕ)) (options : Options)
    (known : Option (List ℕ)) (status : ℕ) : Type 0 where
  pub own : options.journal ≡ None → IsAuditedBy remaining options known status
  pub filed : IsSome options.journal
      → (file : F) × IsAuditedBy remaining options (remaining file) status
