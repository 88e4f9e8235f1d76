-- one row of the inode map
use Rattle.std.specs.Prelude.{◌≡◌, ℕ, ◌+◌, ◌^◌, ◌<◌, ◌≤◌, ◌==◌, true, false, Option, None, Some, if◌then◌else◌}
use Rattle.lfs_ifile.specs.declared.inode.InodeRow.{InodeRow}
use Rattle.lfs_ifile.specs.declared.inode.InodePlace.{InodePlace}

-- the row of a number that was never given out
abbrev pub fresh_row : InodeRow
fresh_row = record { used = false; address = 0; slot = 0; version = 0 }

-- where the record of a used number stands
abbrev pub place_in : InodeRow → Option InodePlace
place_in row = if row.used
    then Some (record { addr = row.address; slot = row.slot; version = row.version }) else None

-- the version after this one: 1 follows the last
abbrev pub raised_version : ℕ → ℕ
raised_version version = if version == 4294967295 then 1 else version + 1

-- the row of a number that was just given out
abbrev pub given_row : ℕ → InodeRow
given_row version = record { used = true; address = 0; slot = 0; version = version }

-- the row of a used number whose record was written at an address and a slot
abbrev pub placed_row : ℕ → ℕ → InodeRow → InodeRow
placed_row address slot row = record row { address = address; slot = slot }

-- the row of a number that is used no more
abbrev pub released_row : InodeRow → InodeRow
released_row row = record { used = false; address = 0; slot = 0; version = row.version }

-- what holds of every row of a volume of so many blocks
pub record IsRow (blocks : ℕ) (row : InodeRow) : Type 0 where
  pub address : row.address < blocks
  pub slot : row.slot < 4
  pub version : row.version < 2 ^ 32
  pub unused_address : row.used ≡ false → row.address ≡ 0
  pub unused_slot : row.used ≡ false → row.slot ≡ 0
  pub given_out : row.used ≡ true → 1 ≤ row.version

-- what holds of every place in a volume of so many blocks
pub record IsPlace (blocks : ℕ) (place : InodePlace) : Type 0 where
  pub addr : place.addr < blocks
  pub slot : place.slot < 4
  pub given_out : 1 ≤ place.version
  pub version : place.version < 2 ^ 32
