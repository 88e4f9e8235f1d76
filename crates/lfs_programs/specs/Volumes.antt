-- The volume that a talk begins with, and the file in which it is kept.
use Rattle.std.specs.Prelude.{◌≡◌, ◌⊎◌, ℕ, Bool, true, List, [], length, Option, IsSome}
use Rattle.lfs_types.specs.StoreStates.{StoreState}
use Rattle.lfs_types.specs.Tree.{opening_world}
use Rattle.lfs_types.specs.declared.level.Level.{Level}
use Rattle.lfs_types.specs.declared.level.Level.TheVariants.{HighlySecure}
use Rattle.lfs_parts.specs.Store.{IsFlushed}
use Rattle.lfs_parts.specs.declared.parts.Parts.{Parts}
use Rattle.lfs_logstore.specs.States.{opening_state, state_of}
use Rattle.lfs_volume.specs.Cleanings.{Cleaner, cleaner_of}
use Rattle.lfs_volume.specs.Journals.{AtPresent, Begins}
use Rattle.lfs_volume.specs.Seen.{Seen}
use Rattle.lfs_view.specs.MapText.{map_text}
use Rattle.lfs_view.specs.SegmentText.{segment_text}
use Rattle.lfs_view.specs.SpaceText.{space_text}
use Rattle.lfs_server.specs.Fresh.{IsFormatFault}
use Rattle.lfs_checking.specs.Files.{HasImage, IsFreshStore, IsLoaded, IsSaved}
use Rattle.lfs_checking.specs.Standing.{IsCheckTold}
use Rattle.lfs_audit.specs.Scripts.{log_cleaner}
use Rattle.lfs_audit.specs.declared.fault.RunFault.TheVariants as run
use Rattle.lfs_live.specs.Talkers.{Talker, Texts, texts_of}
use Rattle.lfs_share.specs.Answering.{ComesTo, shared_state}
use Rattle.lfs_share.specs.CleanerCalls.{shared_calls}
use Rattle.lfs_durable_store.specs.Answering as durable
use Rattle.lfs_durable_store.specs.CleanerCalls.{durable_calls}
use Rattle.lfs_durable_store.specs.Keeping.{Durably, IsSettled, durable_state}
use Rattle.lfs_disk.specs.Calls.{LeftSince}
use Rattle.lfs_disk_store.specs.Answering as disk
use Rattle.lfs_disk_store.specs.CleanerCalls.{disk_calls}
use Rattle.lfs_disk_store.specs.Keeping.{IsOnDisk, OnDisk, disk_state}
use Rattle.lfs_file_disk.specs.declared.disk.FileDisk.{FileDisk}
use Rattle.lfs_file_disk.specs.File.{calls_of, first_blocks}
use Rattle.lfs_disk_start.specs.Finding.{IsFoundOf, memory_of}
use Rattle.lfs_stands.specs.Stands.{Stand, disk_stand, durable_stand, log_stand, share_stand}
use Rattle.lfs_programs.specs.declared.fault.ShellFault.{ShellFault}
use Rattle.lfs_programs.specs.declared.fault.ShellFault.TheVariants.{Talk, Disk, Image}
use Rattle.lfs_programs.specs.declared.fault.ShellFault.TheVariants.{Unfit as NoStand}
use Rattle.lfs_stands.specs.declared.unfit.Unfit.{Unfit}
use Rattle.lfs_programs.specs.declared.options.ShellOptions.{ShellOptions}

-- a volume is that of an image, with the frames and the journal's limit that are asked for, and its journal begins
-- there
pub record IsOfImage {S : Type 0} (stand : Stand S) (options : ShellOptions) (v : Seen S) : Type 0 where
  pub loaded : IsLoaded options.params.frames (stand.parts v.store) v.level
  pub empty : v.journal ≡ []
  pub room : v.limit ≡ options.params.journal
  pub since : v.since ≡ v.store
  pub since_level : v.since_level ≡ v.level

-- a volume is fresh, with the numbers that are asked for: its log was just laid out, with serials or without, and its
-- journal begins in the opening world
pub record IsFresh {S : Type 0} (state : S → StoreState) (stand : Stand S) (serials : Bool) (options : ShellOptions)
    (v : Seen S) : Type 0 where
  pub opening : state_of (stand.parts v.store) ≡ opening_state options.params.segments options.params.inodes
  pub laid_out : IsFreshStore serials options.params (stand.parts v.store)
  pub empty : v.journal ≡ []
  pub begins : Begins (state v.since) v.since_level opening_world
  pub room : v.limit ≡ options.params.journal

-- A volume is what is found in the blocks of a disk, with the frames and the journal's limit that are asked for. Blocks have
-- no securelevel: it is the highest. The journal begins there.
pub record IsOfDisk {S : Type 0} (stand : Stand S) (options : ShellOptions) (v : Seen S) : Type 0 where
  pub blocks : List (List ℕ)
  pub found : IsFoundOf (memory_of blocks) options.params.frames (stand.parts v.store)
  pub level : v.level ≡ HighlySecure
  pub empty : v.journal ≡ []
  pub room : v.limit ≡ options.params.journal
  pub since : v.since ≡ v.store
  pub since_level : v.since_level ≡ v.level

-- a volume is as it is asked for: fresh, with serials where they are asked for; or that of an image; or on a disk, laid out
-- there with serials, or found
abbrev pub IsAsAsked : {S : Type 0} → (S → StoreState) → Stand S → ShellOptions → Seen S → Type 0
IsAsAsked state stand options v =
    IsFresh state stand options.serials options v
    ⊎ ((IsSome options.image × IsOfImage stand options v)
    ⊎ (IsSome options.disk × (IsFresh state stand true options v ⊎ IsOfDisk stand options v)))

-- so it is; and its store is as it stands
abbrev pub IsBegun : {S : Type 0} → (S → StoreState) → Stand S → ShellOptions → Seen S → Type 0
IsBegun state stand options v = stand.within v.store × IsAsAsked state stand options v

-- an image is asked for, and what is loaded of it is a log store on which the store may not stand, for this reason
pub record IsUnfit (refuses : Unfit → Parts → Type 0) (options : ShellOptions) (why : Unfit) : Type 0 where
  pub image : IsSome options.image
  pub store : Parts
  pub level : Level
  pub loaded : IsLoaded options.params.frames store level
  pub refused : refuses why store

-- a talk has no volume to begin with, for this fault
abbrev pub IsUnbegun : (Unfit → Parts → Type 0) → ShellOptions → ShellFault → Type 0
IsUnbegun refuses options (Talk (run.Format fault)) =
    IsFormatFault options.params.segments options.params.inodes options.params.frames fault
IsUnbegun refuses options (Talk run.Memory) = Unit {0}
IsUnbegun refuses options (Image fault) = IsSome options.image
IsUnbegun refuses options (Disk fault) = IsSome options.disk
IsUnbegun refuses options (NoStand why) = IsUnfit refuses options why
IsUnbegun refuses options fault = ⊥

-- a kind of store as `lfs_shell` is talked to it, and how it stands on a log store
pub record Kind (S : Type 0) : Type 1 where
  pub talker : Talker S
  pub stand : Stand S

-- such a kind of store: it is kept where a file got the image of its log
abbrev pub kind_of : {F S : Type 0} → (F → Option (List ℕ)) → Cleaner S → Texts S → (S → List ℕ → Type 0) → Stand S
    → Kind S
kind_of contents cleaner texts checked stand = record {
  talker = record {
    cleaner = cleaner;
    texts = texts;
    checked = checked;
    kept = λ store level. HasImage contents (stand.parts store).log level;
  };
  stand = stand;
}

-- the texts that a log store shows
abbrev pub log_texts : Texts Parts
log_texts = texts_of map_text segment_text space_text

-- the log store, and the store with a share, each over the log that it shows
abbrev pub log_kind : {F : Type 0} → (F → Option (List ℕ)) → Kind Parts
log_kind contents = kind_of contents log_cleaner log_texts IsCheckTold log_stand

abbrev pub share_kind : {F : Type 0} → (F → Option (List ℕ)) → Kind Parts
share_kind contents =
    kind_of contents (cleaner_of shared_state IsFlushed ComesTo shared_calls) log_texts IsCheckTold share_stand

-- the texts of the log that a durable store shows, and what is told where that is checked
abbrev pub durable_texts : Texts Durably
durable_texts = texts_of (λ s. map_text s.store) (λ s. segment_text s.store) (λ s. space_text s.store)

-- the durable store, over its log
abbrev pub durable_kind : {F : Type 0} → (F → Option (List ℕ)) → Kind Durably
durable_kind contents = kind_of contents (cleaner_of durable_state IsSettled durable.ComesTo durable_calls) durable_texts
    (λ s. IsCheckTold s.store) durable_stand

-- the durable store on the disk that a file is, over its log
abbrev pub disk_kind : {F : Type 0} → (F → Option (List ℕ)) → Kind (OnDisk (FileDisk F))
disk_kind {F} contents =
    let time : FileDisk F → ℕ = λ d. length (calls_of d) in
    let left_since : FileDisk F → ℕ → List (List ℕ) → Type 0 = λ d. LeftSince (first_blocks d) (calls_of d) in
    kind_of contents
    (cleaner_of disk_state IsOnDisk (disk.ComesTo time left_since) (disk_calls time left_since))
    (texts_of (λ s. map_text s.store.store) (λ s. segment_text s.store.store) (λ s. space_text s.store.store))
    (λ s. IsCheckTold s.store.store) disk_stand

-- a file got the image of what a talk left of a volume: a store of which nothing waits, and a level, that show the tree
-- that the journal led to
abbrev pub HasSaved : {F S : Type 0} → (F → Option (List ℕ)) → (S → StoreState) → Seen S → Type 0
HasSaved contents state left = IsSaved contents (λ s level. AtPresent state left (Begins s level))

-- What a talk left of a volume is written in the end: nothing waits in its store, which on a disk has all there, and whose
-- disk has not failed; and it shows the tree that the journal led to.
pub record IsWritten {S : Type 0} (cleaner : Cleaner S) (left end : Seen S) : Type 0 where
  pub flushed : cleaner.is_flushed end.store
  pub shown : AtPresent cleaner.state left (Begins (cleaner.state end.store) end.level)
