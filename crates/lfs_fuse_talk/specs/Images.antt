-- The volume that a mount begins with, and the file in which it is kept.
use Rattle.std.specs.Prelude.{◌≡◌, ◌⊎◌, ℕ, List, [], Option, IsSome}
use Rattle.lfs_types.specs.StoreStates.{StoreState}
use Rattle.lfs_types.specs.Tree.{opening_world}
use Rattle.lfs_types.specs.declared.level.Level.{Level}
use Rattle.lfs_types.specs.declared.level.Level.TheVariants.{Insecure}
use Rattle.lfs_parts.specs.declared.parts.Parts.{Parts}
use Rattle.lfs_volume.specs.Journals.{AtPresent, Begins}
use Rattle.lfs_volume.specs.Seen.{Seen}
use Rattle.lfs_checking.specs.Files.{IsFreshStore, IsLoaded, IsSaved}
use Rattle.lfs_stands.specs.Stands.{Stand}
use Rattle.lfs_stands.specs.declared.unfit.Unfit.{Unfit}
use Rattle.lfs_fuse_talk.specs.declared.options.Options.{Options}

-- what a mount begins with: a store over a fresh log of the segments, inode numbers and frames that are asked for, as
-- it is laid out, with serials where they are asked for, at securelevel 0, which shows the opening world; or, where an
-- image is asked for, it may be over the log of one, at its securelevel
abbrev pub BeginsWith : {F : Type 0} → (F → StoreState) → Stand F → Options → F → Level → Type 0
BeginsWith state stand options store level =
    let p = options.params in
    (IsFreshStore options.serials p (stand.parts store) × (level ≡ Insecure)
    × Begins (state store) level opening_world)
    ⊎ (IsSome options.image × IsLoaded p.frames (stand.parts store) level)

-- a volume that begins so, without entries, over a store of which what it is to keep holds
pub record HasBegun {F : Type 0} (state : F → StoreState) (stand : Stand F) (options : Options)
    (volume : Seen F) : Type 0 where
  pub within : stand.within volume.store
  pub store : BeginsWith state stand options volume.store volume.level
  pub empty : volume.journal ≡ []
  pub since : volume.since ≡ volume.store
  pub since_level : volume.since_level ≡ volume.level

-- an image is asked for, and what is loaded of it is a log store on which the store may not stand, for this reason
pub record IsUnfit (refuses : Unfit → Parts → Type 0) (options : Options) (why : Unfit) : Type 0 where
  pub image : IsSome options.image
  pub store : Parts
  pub level : Level
  pub loaded : IsLoaded options.params.frames store level
  pub refused : refuses why store

-- a file got the image of what a talk left of a volume: a log store of which nothing waits, and a level, that show the
-- tree that the journal led to
abbrev pub IsKept : {F W : Type 0} → (W → Option (List ℕ)) → (F → StoreState) → Seen F → Type 0
IsKept contents state left = IsSaved contents (λ s level. AtPresent state left (Begins s level))
