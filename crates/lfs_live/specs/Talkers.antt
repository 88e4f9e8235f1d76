-- A kind of store that is talked to.
use Rattle.std.specs.Prelude.{ℕ, List}
use Rattle.lfs_types.specs.declared.level.Level.{Level}
use Rattle.lfs_volume.specs.Cleanings.{Cleaner}

-- the texts that such a store shows of its log, and what it tells of its room
pub record Texts (F : Type 0) : Type 0 where
  pub map_text : F → List ℕ
  pub segment_text : F → ℕ → List ℕ
  pub space_text : F → List ℕ

-- what each call of its cleaner may answer, its texts, what a check of it may tell, and what it is that it is kept at a
-- level
pub record Talker (F : Type 0) : Type 1 where
  pub cleaner : Cleaner F
  pub texts : Texts F
  pub checked : F → List ℕ → Type 0
  pub kept : F → Level → Type 0

abbrev pub texts_of : {F : Type 0} → (F → List ℕ) → (F → ℕ → List ℕ) → (F → List ℕ) → Texts F
texts_of map_text segment_text space_text =
    record { map_text = map_text; segment_text = segment_text; space_text = space_text }

-- such a kind of store, of its parts
abbrev pub talker_of : {F : Type 0} → Cleaner F → (F → List ℕ) → (F → ℕ → List ℕ) → (F → List ℕ)
    → (F → List ℕ → Type 0) → (F → Level → Type 0) → Talker F
talker_of cleaner map_text segment_text space_text checked kept = record {
  cleaner = cleaner;
  texts = texts_of map_text segment_text space_text;
  checked = checked;
  kept = kept;
}
