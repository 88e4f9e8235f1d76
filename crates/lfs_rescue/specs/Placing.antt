-- At which place of its journal a volume that is found stands.
use Rattle.std.specs.Prelude.{◌≡◌, ◌⊎◌, ◌==◌, ◌++◌, ℕ, zero, suc, List, Option, None, Some, codes, decimal, if◌then◌else◌}
use Rattle.lfs_types.specs.Ranges.{least_frames}
use Rattle.lfs_types.specs.StoreStates.{StoreState}
use Rattle.lfs_parts.specs.declared.parts.Parts.{Parts}
use Rattle.lfs_logstore.specs.States.{state_of}
use Rattle.lfs_calls.specs.Volumes.{HasWorld}
use Rattle.lfs_fsck.specs.Stored.{IsStored, flushed, stored}
use Rattle.lfs_image.specs.Image.{IsLabelled}
use Rattle.lfs_auditing.specs.Places.{IsPlaced}
use Rattle.lfs_auditing.specs.declared.placing.Place.{Place}
use Rattle.lfs_auditing.specs.declared.placing.Place.TheVariants.{Behind, Nowhere, Stopped}
use Rattle.lfs_rescue.specs.declared.fault.RescueFault.{RescueFault}
use Rattle.lfs_rescue.specs.declared.fault.RescueFault.TheVariants.{Check, Keep, Journal}
use Rattle.lfs_rescue.specs.declared.options.Options.{Options}
use Rattle.lfs_rescue.specs.Blocks.{FindsAllIn, IsFindableIn, IsFound, IsFoundIn, IsLost, IsRescueVerdict}

-- the status behind a place: 0 where entries lead there
abbrev pub place_status : Place → ℕ
place_status (Behind entries of) = 0
place_status (Nowhere of) = 1
place_status (Stopped text) = 1

-- the line of a tree that stands behind so many of so many entries
abbrev pub behind_text : ℕ → ℕ → List ℕ
behind_text entries of =
    if entries == 0
    then codes "journal: the tree is the fresh one, behind none of " ++ (decimal of ++ codes " entries\n")
    else codes "journal: the tree is that behind entry "
    ++ (decimal entries ++ (codes " of " ++ (decimal of ++ codes "\n")))

-- of one to which none of so many leads
abbrev pub nowhere_text : ℕ → List ℕ
nowhere_text of = codes "fault: none of the journal's " ++ (decimal of ++ codes " entries leads to this tree\n")

-- what is told of a place
abbrev pub place_text : Place → List ℕ
place_text (Behind entries of) = behind_text entries of
place_text (Nowhere of) = nowhere_text of
place_text (Stopped text) = codes "fault: " ++ text.items

-- the bytes of a file, where they are known, are the lines of a journal of which this is told
abbrev pub IsPlacedByFile : {F : Type 0} → (F → Option (List ℕ)) → StoreState → Place → Type 0
IsPlacedByFile {F} remaining s place = (file : F) × IsPlaced (remaining file) s place

-- A volume is found in bytes, of which this is told, as without a journal, and behind it at which place of the journal of
-- a file its tree stands.
pub record IsFoundAt {F S : Type 0} (contents remaining : F → Option (List ℕ)) (save : Option S) (bytes : List ℕ)
    (status : ℕ) (text : List ℕ) : Type 0 where
  pub head : List ℕ
  pub found : IsFound contents save bytes head
  pub place : Place
  pub placed : IsPlacedByFile remaining (state_of (flushed found.log)) place
  pub status_is : status ≡ place_status place
  pub told : text ≡ head ++ place_text place

-- the status of a search in these bytes, and what it tells: where a journal is named, a volume is found, at its place of
-- that, or the status is 1 and none is
abbrev pub IsRecoverBy : {F S J : Type 0} → (F → Option (List ℕ)) → (F → Option (List ℕ)) → Option S → Option J → List ℕ
    → ℕ → List ℕ → Type 0
IsRecoverBy contents remaining save None bytes status text = IsRescueVerdict contents save bytes status text
IsRecoverBy contents remaining save (Some path) bytes status text =
    IsFoundAt contents remaining save bytes status text ⊎ ((status ≡ 1) × IsLost bytes text)

abbrev pub IsRecoverVerdict : {F : Type 0} → (F → Option (List ℕ)) → (F → Option (List ℕ)) → Options → List ℕ → ℕ
    → List ℕ → Type 0
IsRecoverVerdict contents remaining options bytes status text =
    IsRecoverBy contents remaining options.save options.journal bytes status text

-- ---- for the functions within

-- a store is found in bytes, over which nothing waits
pub record IsFoundStore (bytes : List ℕ) (store : Parts) : Type 0 where
  pub found : IsFoundIn bytes store.log
  pub is_stored : IsStored store.log
  pub labelled : IsLabelled store.log
  pub flushed : store ≡ stored least_frames store.log
  pub world : HasWorld (state_of store)
  pub content : FindsAllIn bytes store
  pub findable : IsFindableIn bytes store

-- why no place is told
abbrev pub IsJournalFault : RescueFault → Type 0
IsJournalFault (Check fault) = ⊥
IsJournalFault (Keep fault) = ⊥
IsJournalFault (Journal fault) = Unit {0}

-- the same where a volume is found
abbrev pub IsFoundBy : {F S J : Type 0} → (F → Option (List ℕ)) → (F → Option (List ℕ)) → Option S → Option J → List ℕ
    → ℕ → List ℕ → Type 0
IsFoundBy contents remaining save None bytes status text = (status ≡ 0) × IsFound contents save bytes text
IsFoundBy contents remaining save (Some path) bytes status text = IsFoundAt contents remaining save bytes status text

abbrev pub IsFoundVerdict : {F : Type 0} → (F → Option (List ℕ)) → (F → Option (List ℕ)) → Options → List ℕ → ℕ → List ℕ
    → Type 0
IsFoundVerdict contents remaining options bytes status text =
    IsFoundBy contents remaining options.save options.journal bytes status text
