-- A record's place is the one in the inode map, another block's is four times its address, and all lie in the volume
-- (`place-record`, `place-block`, `lies_in`); of these `present-record`, `present-block`, `present-stale` and
-- `present-unused` make the answers of `Parts::address_at`. `IsLog` bounds the place of each key that has one; a number
-- that isn't in use has no record and no frame, so none of its keys has one. The version is compared: without that the
-- cleaner would take an older file's block for a live one.
use Rattle.std.proofs.Common.{◌≡◌, ◌≢◌, ℕ, ◌+◌, ◌*◌, ◌/◌, ◌<◌, ◌≤◌, ◌⊎◌, List, [], ◌∷◌, length, None, Some, refl, sym}
use Rattle.std.proofs.Common.{ap, ◌∙◌, subst, inl, inr, arith}
use Rattle.std.specs.Prelude.{slice_index, ◌==◌, ◌&&◌, nat_lt, Bool, true, false, cond}
use Rattle.std.proofs.lemmas.Bool.{cases_Bool, cases_eq, cases_lt, cond-true, cond-false, eq-eqb, ne_eqb, lt-ltb}
use Rattle.std.proofs.lemmas.Bool.{le-ltb, false≢true}
use Rattle.lfs_segments.specs.Memory.{IsLaidOut}
use Rattle.std.proofs.lemmas.Option.{none-some, same_Some}
use Rattle.lfs_ifile.specs.declared.inode.InodePlace.{InodePlace}
use Rattle.lfs_ifile.specs.declared.inode.InodeRow.{InodeRow}
use Rattle.lfs_ifile.specs.Inode.{fresh_row, place_in}
use Rattle.lfs_ifile.specs.Tables.{Tables, place_of, row_of}
use Rattle.lfs_bmap.specs.declared.blocks.TheConstants.{BLOCK_CODES}
use Rattle.lfs_bmap.specs.declared.blocks.FileBlock.{FileBlock}
use Rattle.lfs_bmap.specs.declared.blocks.FileBlock.TheVariants.{Record, Single, Double, Child, Data}
use Rattle.lfs_bmap.specs.Blocks.{IsFileBlock, IsTable, code_of, way_to}
use Rattle.lfs_inodes.specs.Addresses.{first_at}
use Rattle.lfs_inodes.specs.Facts.{block_count}
use Rattle.lfs_bmap.specs.Log.{LogState, IsLog}
use Rattle.lfs_bmap.specs.Moves.{present_address}
use Rattle.lfs_bmap.specs.Reading.{address}
use Rattle.lfs_bmap.specs.Ways.{code_at, way_of}
use Rattle.lfs_bmap.proofs.BlockLemmas.{code_of-below}
use Rattle.lfs_bmap.proofs.ReadingLemmas.{address-root}
use Rattle.lfs_bmap.proofs.HolderLemmas.{first_at-under}
use Rattle.lfs_bmap.proofs.WayLemmas.{way_of-code_of}
use Rattle.lfs_parts.specs.declared.parts.Parts.{Parts}
use Rattle.lfs_log.specs.Parts.{record_place}
use Rattle.lfs_parts.specs.Keys.{log_state}
use Rattle.lfs_parts.specs.Store.{AreFiles, IsWithin}
use Rattle.lfs_parts.specs.View.{LiesIn, blocks_of, key_of, root_in, tree_of, version_of}
use Rattle.lfs_parts.proofs.ViewLemmas.{not_locked, nowhere, record_of-unused}

-- the place of a record, and of another block
pub place-record : (p : Parts) (number : ℕ) → (log_state p).at number 0 ≡ record_place p.log.tables number
place-record p number = refl

pub place-block : (p : Parts) (number code : ℕ) → code ≢ 0 → (log_state p).at number code
    ≡ 4 * address (tree_of p number) (way_of code)
place-block p number code some = cond-false _ _ _ (ne_eqb code 0 some)

-- the blocks of each file lie in the volume
lies_at : (p : Parts) (number spare code : ℕ) → number < length p.log.tables.rows → 0 < blocks_of p
    → IsLog (log_state p) spare → code ≢ 0 → code < BLOCK_CODES
    → address (tree_of p number) (way_of code) < blocks_of p
lies_at p number spare code low many log some below =
    elim (cases_eq (address (tree_of p number) (way_of code)) 0) [
      | inl none ↦ subst (λ a. a < blocks_of p) (sym none) many
      | inr there ↦
          let at = place-block p number code some in
          let key = log.keys number code (record {
            number_below = low;
            code_below = below;
            somewhere = λ e. there (omega (arith, at, e));
          }) in
          omega (arith, at, key.in_volume)
    ]

pub lies_in : (p : Parts) (number spare : ℕ) → number < length p.log.tables.rows → IsLaidOut p.log.memory
    → IsLog (log_state p) spare → LiesIn (blocks_of p) (tree_of p number)
lies_in p number spare low laid_out log =
    let many : 0 < blocks_of p = omega (arith, laid_out.at_least) in
    let at : (block : FileBlock) → code_of block ≢ 0 → IsFileBlock block
    → address (tree_of p number) (way_to block) < blocks_of p
    = λ block some is. subst (λ w. address (tree_of p number) w < blocks_of p) (way_of-code_of block is)
    (lies_at p number spare (code_of block) low many log some (code_of-below block is)) in
    record {
      each = λ block is. elim block as (λ b. IsFileBlock b → address (tree_of p number) (way_to b) < blocks_of p) [
        | Record ↦ λ h. subst (λ a. a < blocks_of p) (sym (address-root (tree_of p number))) many
        | Single ↦ λ h. at Single (λ e. omega arith) h
        | Double ↦ λ h. at Double (λ e. omega arith) h
        | Child index ↦ λ h. at (Child index) (λ e. omega arith) h
        | Data index ↦ λ h. at (Data index) (λ e. omega arith) h
      ] is;
    }

-- ---- present addresses
either : (b : Bool) (n : ℕ) → n ≡ 0 → cond b n 0 ≡ 0
either true n h = h
either false n h = refl

-- that of a number's key at the number's version
pub present-key : (l : LogState) (number version code : ℕ) → number < l.numbers → l.version number ≡ version
    → code < BLOCK_CODES
    → present_address l number version code ≡ l.at number code / 4
unfolding present_address
present-key l number version code low same below =
    rw (lt-ltb number l.numbers low, eq-eqb (l.version number) version same, lt-ltb code BLOCK_CODES below) refl

-- another one has none
pub present-past : (l : LogState) (number version code : ℕ) → l.numbers ≤ number → present_address l number version code
    ≡ 0
unfolding present_address
present-past l number version code past = rw (le-ltb number l.numbers past) refl

pub present-other : (l : LogState) (number version code : ℕ) → l.version number ≢ version
    → present_address l number version code ≡ 0
unfolding present_address
present-other l number version code other =
    let no : (l.version number == version) ≡ false = ne_eqb (l.version number) version other in
    elim (cases_lt number l.numbers) [
      | inl low ↦ rw (lt-ltb number l.numbers low, no) refl
      | inr past ↦ rw (le-ltb number l.numbers past) refl
    ]

-- and a key without place has none
pub present-nowhere : (l : LogState) (number version code : ℕ) → l.at number code ≡ 0
    → present_address l number version code ≡ 0
unfolding present_address
present-nowhere l number version code none =
    let zero_ : l.at number code / 4 ≡ 0 = ap (λ n. n / 4) none in
    either (nat_lt number l.numbers && (l.version number == version && nat_lt code BLOCK_CODES))
    (l.at number code / 4) zero_

quarter : (n : ℕ) → 4 * n / 4 ≡ n
quarter n = omega arith

-- what a place in the inode map says of the row
place_row : (row : InodeRow) (place : InodePlace) → place_in row ≡ Some place → (place.addr ≡ row.address)
    × (place.slot ≡ row.slot) × (place.version ≡ row.version)
place_row row place h =
    elim (cases_Bool row.used) [
      | inl used ↦
          let same : record { addr = row.address; slot = row.slot; version = row.version }
          ≡ place = same_Some _ place (sym (cond-true _ _ _ used) ∙ h) in (
            sym (ap (λ (q : InodePlace). q.addr) same),
            sym (ap (λ (q : InodePlace). q.slot) same),
            sym (ap (λ (q : InodePlace). q.version) same),
          )
      | inr free ↦ absurd (none-some place (sym (cond-false _ _ _ free) ∙ h))
    ]

-- the place of a record that has an address
pub placed_at : (tables : Tables) (number : ℕ) → (row_of tables number).address ≢ 0 → record_place tables number
    ≡ 4 * (row_of tables number).address + (row_of tables number).slot
unfolding record_place
placed_at tables number some = cond-false _ _ _ (ne_eqb (row_of tables number).address 0 some)

-- and where it has one or none, the place is in the block of the address
pub row_place : (tables : Tables) (number : ℕ) → (row_of tables number).slot < 4 → record_place tables number / 4
    ≡ (row_of tables number).address
unfolding record_place
row_place tables number low =
    let row = row_of tables number in
    elim (cases_eq row.address 0) [
      | inl none ↦ ap (λ n. n / 4) (cond-true _ _ _ (eq-eqb row.address 0 none)) ∙ sym none
      | inr some ↦ ap (λ n. n / 4) (cond-false _ _ _ (ne_eqb row.address 0 some)) ∙ omega arith
    ]

-- the present address of a record is the one in the inode map
pub present-record : (p : Parts) (number version : ℕ) (place : InodePlace) → place_of p.log.tables number ≡ Some place
    → place.version ≡ version
    → number < length p.log.tables.rows → place.slot < 4 → present_address (log_state p) number version 0 ≡ place.addr
present-record p number version place is same low slot =
    let row = place_row (row_of p.log.tables number) place is in
    let at : version_of p number ≡ version = sym row.2 ∙ same in
    present-key (log_state p) number version 0 low at (omega arith) ∙ ap (λ n. n / 4) (place-record p number)
    ∙ row_place p.log.tables number (omega arith) ∙ sym row.0

-- that of another block is its address
pub present-block : (p : Parts) (number version : ℕ) (place : InodePlace) (block : FileBlock)
    → place_of p.log.tables number ≡ Some place → place.version ≡ version
    → number < length p.log.tables.rows → code_of block ≢ 0 → IsFileBlock block
    → present_address (log_state p) number version (code_of block) ≡ address (tree_of p number) (way_to block)
present-block p number version place block is same low some can =
    let row = place_row (row_of p.log.tables number) place is in
    let at : version_of p number ≡ version = sym row.2 ∙ same in
    present-key (log_state p) number version (code_of block) low at (code_of-below block can)
    ∙ ap (λ n. n / 4) (place-block p number (code_of block) some)
    ∙ quarter (address (tree_of p number) (way_of (code_of block)))
    ∙ ap (address (tree_of p number)) (way_of-code_of block can)

-- a key of another version has none
pub present-stale : (p : Parts) (number version code : ℕ) (place : InodePlace) → place_of p.log.tables number
    ≡ Some place → place.version ≢ version
    → present_address (log_state p) number version code ≡ 0
present-stale p number version code place is other =
    let row = place_row (row_of p.log.tables number) place is in
    present-other (log_state p) number version code (λ e. other (row.2 ∙ e))

-- the code of a block that isn't a record
pub code-other : (block : FileBlock) → (block ≡ Single)
    ⊎ ((block ≡ Double) ⊎ (((n : ℕ) × (block ≡ Child n)) ⊎ ((n : ℕ) × (block ≡ Data n)))) → code_of block ≢ 0
code-other block (inl single) e = let one : code_of block ≡ 1 = ap code_of single in absurd (omega arith)
code-other block (inr (inl double)) e = let two : code_of block ≡ 2 = ap code_of double in absurd (omega arith)
code-other block (inr (inr (inl found))) e = let some : code_of block ≡ 3
    + found.0 = ap code_of found.1 in absurd (omega arith)
code-other block (inr (inr (inr found))) e = let some : code_of block ≡ 131
    + found.0 = ap code_of found.1 in absurd (omega arith)

-- a place of a record leads to blocks below the size where its block lies within it
pub within_root : (block : FileBlock) (size i : ℕ) → IsFileBlock block → way_to block ≡ i ∷ [] → IsWithin block size
    → first_at i < block_count size
within_root block size i is way within = let least = first_at-under block is i way in omega arith

pub cell_inside : (t : FileBlock) (i : ℕ) → IsTable t i → i < 128
cell_inside Record i is = omega arith
cell_inside Single i is = is
cell_inside Double i is = is
cell_inside (Child index) i is = is
cell_inside (Data index) i is = absurd is

-- ---- a number that isn't in use
unused_row : (row : InodeRow) → place_in row ≡ None → row.used ≡ false
unused_row row h =
    elim (cases_Bool row.used) [
      | inl used ↦ absurd (none-some _ (sym h ∙ cond-true _ _ _ used))
      | inr free ↦ free
    ]

-- nothing of it waits
pub unused_waits : (p : Parts) (number : ℕ) → (row_of p.log.tables number).used ≡ false → AreFiles p → (way : List ℕ)
    → (tree_of p number).waits way ≡ None
unused_waits p number free files way =
    not_locked (key_of number (version_of p number) (code_at way)) p.cache
    (λ locked. let there = (files.frames (key_of number (version_of p number) (code_at way)) locked).in_use in
    false≢true (sym free ∙ there))

-- a record without address has no place
pub unplaced : (tables : Tables) (number : ℕ) → (row_of tables number).address ≡ 0 → record_place tables number ≡ 0
unfolding record_place
unplaced tables number none = cond-true _ _ _ (eq-eqb (row_of tables number).address 0 none)

-- and its keys have no place
pub unused_nowhere : (p : Parts) (number code : ℕ) → place_of p.log.tables number ≡ None
    → number < length p.log.tables.rows → AreFiles p → (log_state p).at number code ≡ 0
unused_nowhere p number code unused low files =
    let free = unused_row (row_of p.log.tables number) unused in
    elim (cases_eq code 0) [
      | inl record_ ↦
          let row = files.parts.formed.each_row number fresh_row low in
          ap ((log_state p).at number) record_ ∙ place-record p number
          ∙ unplaced p.log.tables number (row.unused_address free)
      | inr block ↦
          let root : (tree_of p number).root ≡ [] = ap root_in (record_of-unused p number unused) in
          let none = nowhere (tree_of p number) (λ i. ap (λ ys. slice_index ys i) root)
          (unused_waits p number free files) (way_of code) in
          place-block p number code block ∙ ap (λ a. 4 * a) none
    ]

pub present-unused : (p : Parts) (number version code : ℕ) → place_of p.log.tables number ≡ None
    → number < length p.log.tables.rows → AreFiles p
    → present_address (log_state p) number version code ≡ 0
present-unused p number version code unused low files =
    present-nowhere (log_state p) number version code (unused_nowhere p number code unused low files)
