-- What stays of the other numbers where one is given out or taken back: `KeepsOthers` for `make`, `Forgets` for
-- `remove`, whose clauses say the rest. Both are of rows and waiting records, by number, as the lemmas of trees ask
-- for them; the contracts speak of the content and the versions alone.
use Rattle.std.specs.Prelude.{◌≡◌, ◌≢◌, ℕ, length, false}
use Rattle.lfs_ifile.specs.Tables.{row_of}
use Rattle.lfs_log.specs.Parts.{IsParts}
use Rattle.lfs_parts.specs.declared.parts.Parts.{Parts}
use Rattle.lfs_parts.specs.View.{waiting_in}
use Rattle.lfs_parts.specs.Waiting.{without}

-- Nothing changed but live bytes and what is of one number: no block, no frame, no other row and no other record.
pub record KeepsOthers (number : ℕ) (old new : Parts) : Type 0 where
  pub memory : new.log.memory ≡ old.log.memory
  pub states : new.log.tables.states ≡ old.log.tables.states
  pub clean : new.log.clean ≡ old.log.clean
  pub numbers : length new.log.tables.rows ≡ length old.log.tables.rows
  pub rows : (n : ℕ) → n ≢ number → row_of new.log.tables n ≡ row_of old.log.tables n
  pub cache : new.cache ≡ old.cache
  pub waiting : (n : ℕ) → n ≢ number → waiting_in new.waiting n ≡ waiting_in old.waiting n

-- A number was taken back: its row is unused and has no address, its record doesn't wait, and nothing else changed but
-- live bytes.
pub record Forgets (number : ℕ) (old new : Parts) : Type 0 where
  pub memory : new.log.memory ≡ old.log.memory
  pub states : new.log.tables.states ≡ old.log.tables.states
  pub clean : new.log.clean ≡ old.log.clean
  pub parts : IsParts new.log
  pub numbers : length new.log.tables.rows ≡ length old.log.tables.rows
  pub rows : (n : ℕ) → n ≢ number → row_of new.log.tables n ≡ row_of old.log.tables n
  pub unused : (row_of new.log.tables number).used ≡ false
  pub unplaced : (row_of new.log.tables number).address ≡ 0
  pub cache : new.cache ≡ old.cache
  pub waiting : new.waiting ≡ without number old.waiting
