-- Of a file's tree a change touches the readings that it names and no others: `same_readings`, and the cases of
-- `Stages`, `Lands` and `Clears` (`staged_others`, `landed_addresses`, `cleared_addresses`), for KeptLemmas and
-- ClearedLemmas of `lfs_staging` and LandedLemmas of `lfs_segwrite`. By induction on the way: an address is a cell of
-- the block above, whose bytes stay if its own address does. The hard case is the block that holds the changed address,
-- where one cell is another; a landing needs besides that no known block had the new address (`IsUnread`).
use Rattle.std.proofs.Common.{◌≡◌, ◌≢◌, ℕ, ◌<◌, ◌≤◌, inl, inr, List, [], ◌∷◌, Some, None, refl, sym, ap, ◌∙◌, subst}
use Rattle.std.specs.Prelude.{unwrap_or, if◌then◌else◌, ◌==◌, slice_index, length, slice_set}
use Rattle.std.proofs.lemmas.Bool.{cases_eq, cond-true, cond-false, eq-eqb, ne_eqb}
use Rattle.std.proofs.lemmas.List.{get_or-set_same, get_or-set_other}
use Rattle.lfs_types.specs.Blocks.{zero_block}
use Rattle.lfs_inodes.specs.Addresses.{cells}
use Rattle.lfs_bmap.specs.declared.blocks.TheConstants.{BLOCK_CODES}
use Rattle.lfs_bmap.specs.Ways.{way_of, IsWay, IsBlockWay}
use Rattle.lfs_bmap.specs.Reading.{Tree, bytes_via, table, address, read, IsUnread, SameReadings, Stages, Lands}
use Rattle.lfs_bmap.proofs.WayLemmas.{up_known, cases_way, way_of-known, no_way_through}

-- The block at the way i ∷ up was given back: it has no address and waits no more. No block had its address in it.
pub record Clears (old new : Tree) (i : ℕ) (up : List ℕ) : Type 0 where
  pub room : i < length (table old up)
  pub parent : table new up ≡ slice_set (table old up) i 0
  pub root : up ≢ [] → new.root ≡ old.root
  pub flushed : new.waits (i ∷ up) ≡ None
  pub waits : (other : List ℕ) → IsBlockWay other → other ≢ i ∷ up → other ≢ up → new.waits other ≡ old.waits other
  pub blocks : (b : ℕ) → new.block b ≡ old.block b
  pub beneath : (j : ℕ) → IsBlockWay (j ∷ i ∷ up) → address old (j ∷ i ∷ up) ≡ 0

-- A block was written at an address of the log, and nothing else changed.
pub record StoresBlock (old new : Tree) (a : ℕ) : Type 0 where
  pub root : new.root ≡ old.root
  pub waits : (way : List ℕ) → IsBlockWay way → new.waits way ≡ old.waits way
  pub blocks : (b : ℕ) → b ≢ a → new.block b ≡ old.block b

-- The definitions, by equations.
pub table-root : (t : Tree) → table t [] ≡ t.root
unfolding table
table-root t = refl

pub table-read : (t : Tree) (i : ℕ) (up : List ℕ) → table t (i ∷ up) ≡ cells (read t (i ∷ up))
unfolding table read address
table-read t i up = refl

pub address-cell : (t : Tree) (i : ℕ) (up : List ℕ) → address t (i ∷ up) ≡ slice_index (table t up) i
unfolding address
address-cell t i up = refl

pub address-root : (t : Tree) → address t [] ≡ 0
unfolding address
address-root t = refl

pub read-via : (t : Tree) (way : List ℕ) → read t way ≡ bytes_via t way (address t way)
unfolding read
read-via t way = refl

-- the addresses that a block holds, but for the record, are its cells
pub table-cells : (t : Tree) (way : List ℕ) → way ≢ [] → table t way ≡ cells (read t way)
table-cells t [] some = absurd (some refl)
table-cells t (i ∷ up) some = table-read t i up

-- The bytes of a block that waits, of one in the log, and of one without address.
pub via-waits : (t : Tree) (way : List ℕ) (a : ℕ) (bytes : List ℕ) → t.waits way ≡ Some bytes → bytes_via t way a
    ≡ bytes
unfolding bytes_via
via-waits t way a bytes h = ap (λ o. unwrap_or o (if a == 0 then zero_block else t.block a)) h

pub via-log : (t : Tree) (way : List ℕ) (a : ℕ) → t.waits way ≡ None → a ≢ 0 → bytes_via t way a ≡ t.block a
unfolding bytes_via
via-log t way a h some =
    ap (λ o. unwrap_or o (if a == 0 then zero_block else t.block a)) h ∙ cond-false _ _ _ (ne_eqb a 0 some)

pub via-none : (t : Tree) (way : List ℕ) → t.waits way ≡ None → bytes_via t way 0 ≡ zero_block
unfolding bytes_via
via-none t way h = ap (λ o. unwrap_or o zero_block) h

pub read-waits : (t : Tree) (way bytes : List ℕ) → t.waits way ≡ Some bytes → read t way ≡ bytes
read-waits t way bytes h = read-via t way ∙ via-waits t way (address t way) bytes h

-- the bytes at an address are the same where the same waits and the log has the same there
pub via-same : (old new : Tree) (way : List ℕ) (a : ℕ) → new.waits way ≡ old.waits way
    → (a ≢ 0 → new.block a ≡ old.block a)
    → bytes_via new way a ≡ bytes_via old way a
unfolding bytes_via
via-same old new way a waits block =
    ap (λ o. unwrap_or o (if a == 0 then zero_block else new.block a)) waits
    ∙ ap (λ b. unwrap_or (old.waits way) b) (elim (cases_eq a 0) as (λ _. (if a == 0 then zero_block else new.block a)
    ≡ (if a == 0 then zero_block else old.block a)) [
      | inl none ↦ cond-true _ _ _ (eq-eqb a 0 none) ∙ sym (cond-true _ _ _ (eq-eqb a 0 none))
      | inr some ↦ cond-false _ _ _ (ne_eqb a 0 some) ∙ block some ∙ sym (cond-false _ _ _ (ne_eqb a 0 some))
    ])

-- Where the record is the same, and each known block has at its old address the bytes that it had, all readings are the
-- same. Staging the bytes that a block has, settling one that the log has, and writing where nothing is read are such.
module _ (old new : Tree) (root : new.root ≡ old.root) (same : (way : List ℕ) → IsBlockWay way
    → bytes_via new way (address old way) ≡ read old way) where
  read_kept : (way : List ℕ) → IsBlockWay way → address new way ≡ address old way → read new way ≡ read old way
  read_kept way known e = read-via new way ∙ ap (bytes_via new way) e ∙ same way known

  cell_kept : (i : ℕ) (up : List ℕ) → table new up ≡ table old up → address new (i ∷ up) ≡ address old (i ∷ up)
  cell_kept i up above = address-cell new i up ∙ ap (λ ys. slice_index ys i) above ∙ sym (address-cell old i up)

  table_kept : (way : List ℕ) → IsBlockWay way → table new way ≡ table old way
  table_kept [] known = table-root new ∙ root ∙ sym (table-root old)
  table_kept (i ∷ up) known =
      table-read new i up ∙ ap cells (read_kept (i ∷ up) known (cell_kept i up (table_kept up (up_known i up known))))
      ∙ sym (table-read old i up)

  address_kept : (way : List ℕ) → IsBlockWay way → address new way ≡ address old way
  address_kept [] known = address-root new ∙ sym (address-root old)
  address_kept (i ∷ up) known = cell_kept i up (table_kept up (up_known i up known))

  pub same_readings : SameReadings old new
  same_readings = record { addresses = address_kept; bytes = λ way known. read_kept way known (address_kept way known) }

-- readings that stay the same twice stay the same
pub SameReadings-refl : (t : Tree) → SameReadings t t
SameReadings-refl t = record { addresses = λ way known. refl; bytes = λ way known. refl }

pub SameReadings-trans : (a b c : Tree) → SameReadings a b → SameReadings b c → SameReadings a c
SameReadings-trans a b c p q = record {
  addresses = λ way known. q.addresses way known ∙ p.addresses way known;
  bytes = λ way known. q.bytes way known ∙ p.bytes way known;
}

-- no reading changes where the log keeps the blocks at the known blocks' addresses
pub kept_blocks : (old new : Tree) → new.root ≡ old.root
    → ((way : List ℕ) → IsBlockWay way → new.waits way ≡ old.waits way)
    → ((way : List ℕ) → IsBlockWay way → address old way ≢ 0 → new.block (address old way)
    ≡ old.block (address old way)) → SameReadings old new
kept_blocks old new root waits blocks =
    same_readings old new root (λ way known. via-same old new way (address old way) (waits way known) (blocks way known)
    ∙ sym (read-via old way))

-- or where the bytes wait that a block has
pub staged_same : (old new : Tree) (way : List ℕ) → IsBlockWay way → Stages old new way (read old way)
    → SameReadings old new
staged_same old new way known h =
    same_readings old new h.root (λ other there. elim (cases_way other way there known) [
      | inl e ↦ via-waits new other (address old other) (read old way) (ap (λ w. new.waits w) e ∙ h.waiting)
          ∙ ap (read old) (sym e)
      | inr ne ↦ via-same old new other (address old other) (h.waits other there ne)
          (λ some. h.blocks (address old other)) ∙ sym (read-via old other)
    ])

-- Other bytes wait for a block through which no way leads: its reading alone changes.
module _ (old new : Tree) (way bytes : List ℕ) (known : IsBlockWay way) (leaf : (i : ℕ) → IsBlockWay (i ∷ way) → ⊥)
    (h : Stages old new way bytes) where
  staged_read : (other : List ℕ) → IsBlockWay other → other ≢ way → address new other ≡ address old other
      → read new other ≡ read old other
  staged_read other there ne e =
      read-via new other ∙ ap (bytes_via new other) e
      ∙ via-same old new other (address old other) (h.waits other there ne) (λ some. h.blocks (address old other))
      ∙ sym (read-via old other)

  staged_cell : (i : ℕ) (up : List ℕ) → table new up ≡ table old up → address new (i ∷ up) ≡ address old (i ∷ up)
  staged_cell i up above = address-cell new i up ∙ ap (λ ys. slice_index ys i) above ∙ sym (address-cell old i up)

  -- what a way leads through is another block
  through : (i : ℕ) (up : List ℕ) → IsBlockWay (i ∷ up) → up ≢ way
  through i up there e = leaf i (subst (λ w. IsBlockWay (i ∷ w)) e there)

  staged_table : (other : List ℕ) → IsBlockWay other → other ≢ way → table new other ≡ table old other
  staged_table [] there ne = table-root new ∙ h.root ∙ sym (table-root old)
  staged_table (i ∷ up) there ne =
      table-read new i up
      ∙ ap cells (staged_read (i ∷ up) there ne
      (staged_cell i up (staged_table up (up_known i up there) (through i up there))))
      ∙ sym (table-read old i up)

  pub staged_addresses : (other : List ℕ) → IsBlockWay other → address new other ≡ address old other
  staged_addresses [] there = address-root new ∙ sym (address-root old)
  staged_addresses (i ∷ up) there = staged_cell i up (staged_table up (up_known i up there) (through i up there))

  pub staged_others : (other : List ℕ) → IsBlockWay other → other ≢ way → read new other ≡ read old other
  staged_others other there ne = staged_read other there ne (staged_addresses other there)

  pub staged_bytes : read new way ≡ bytes
  staged_bytes = read-waits new way bytes h.waiting

-- A block lands at an address that no known block had.
module _ (old new : Tree) (i : ℕ) (up : List ℕ) (a : ℕ) (known : IsBlockWay (i ∷ up)) (h : Lands old new i up a)
    (unread : IsUnread old a) where
  -- its address is the new one
  pub landed_address : address new (i ∷ up) ≡ a
  landed_address =
      address-cell new i up ∙ ap (λ ys. slice_index ys i) h.parent ∙ get_or-set_same (table old up) i a 0 h.room

  landed_cell : (j : ℕ) (above : List ℕ) → IsBlockWay above → (above ≢ up → table new above ≡ table old above) → j
      ∷ above ≢ i ∷ up
      → address new (j ∷ above) ≡ address old (j ∷ above)
  landed_cell j above there kept ne =
      elim (cases_way above up there (up_known i up known)) [
        | inl e ↦
            let other : j ≢ i = λ same. ne (ap (λ k. k ∷ above) same ∙ ap (λ w. i ∷ w) e) in
            address-cell new j above ∙ ap (λ w. slice_index (table new w) j) e ∙ ap (λ ys. slice_index ys j) h.parent
            ∙ get_or-set_other (table old up) i j a 0 other ∙ ap (λ w. slice_index (table old w) j) (sym e)
            ∙ sym (address-cell old j above)
        | inr apart ↦ address-cell new j above ∙ ap (λ ys. slice_index ys j) (kept apart)
            ∙ sym (address-cell old j above)
      ]

  landed_read : (way : List ℕ) → IsBlockWay way → way ≢ up → (way ≢ i ∷ up → address new way ≡ address old way)
      → read new way ≡ read old way
  landed_read way there ne kept =
      elim (cases_way way (i ∷ up) there known) [
        | inl e ↦
            ap (read new) e ∙ read-via new (i ∷ up) ∙ ap (bytes_via new (i ∷ up)) landed_address
            ∙ via-log new (i ∷ up) a h.flushed h.somewhere ∙ h.written ∙ ap (read old) (sym e)
        | inr apart ↦
            read-via new way ∙ ap (bytes_via new way) (kept apart)
            ∙ via-same old new way (address old way) (h.waits way there apart ne)
            (λ some. h.blocks (address old way) (unread way there))
            ∙ sym (read-via old way)
      ]

  landed_table : (way : List ℕ) → IsBlockWay way → way ≢ up → table new way ≡ table old way
  landed_table [] there ne = table-root new ∙ h.root (λ e. ne (sym e)) ∙ sym (table-root old)
  landed_table (j ∷ above) there ne =
      let beyond = up_known j above there in
      table-read new j above
      ∙ ap cells (landed_read (j ∷ above) there ne (landed_cell j above beyond (landed_table above beyond)))
      ∙ sym (table-read old j above)

  -- all other addresses stay
  pub landed_addresses : (way : List ℕ) → IsBlockWay way → way ≢ i ∷ up → address new way ≡ address old way
  landed_addresses [] there ne = address-root new ∙ sym (address-root old)
  landed_addresses (j ∷ above) there ne =
      landed_cell j above (up_known j above there) (landed_table above (up_known j above there)) ne

  -- no block reads otherwise, but for the one that holds the address
  pub landed_bytes : (way : List ℕ) → IsBlockWay way → way ≢ up → read new way ≡ read old way
  landed_bytes way there ne = landed_read way there ne (landed_addresses way there)

  -- so no data block does
  pub landed_data : (code : ℕ) → 131 ≤ code → code < BLOCK_CODES → read new (way_of code) ≡ read old (way_of code)
  landed_data code data_ below =
      landed_bytes (way_of code) (way_of-known code below)
      (λ e. no_way_through code i data_ (subst (λ w. IsWay (i ∷ w)) (sym e) known.leads))

-- no way leads through a data block
pub data_leaf : (code : ℕ) → 131 ≤ code → (i : ℕ) → IsBlockWay (i ∷ way_of code) → ⊥
data_leaf code data_ i known = no_way_through code i data_ known.leads

-- A block is given back.
module _ (old new : Tree) (i : ℕ) (up : List ℕ) (known : IsBlockWay (i ∷ up)) (empty : (j : ℕ)
    → slice_index (cells zero_block) j ≡ 0) (h : Clears old new i up) where
  -- it has no address
  pub cleared_address : address new (i ∷ up) ≡ 0
  cleared_address =
      address-cell new i up ∙ ap (λ ys. slice_index ys i) h.parent ∙ get_or-set_same (table old up) i 0 0 h.room

  -- and reads as zeros
  pub cleared_bytes : read new (i ∷ up) ≡ zero_block
  cleared_bytes = read-via new (i ∷ up) ∙ ap (bytes_via new (i ∷ up)) cleared_address ∙ via-none new (i ∷ up) h.flushed

  -- the cell of another block keeps its address, where it stands in the same block or in one whose cells were kept
  cleared_cell : (j : ℕ) (above : List ℕ) → IsBlockWay (j ∷ above)
      → (above ≢ up → above ≢ i ∷ up → table new above ≡ table old above)
      → j ∷ above ≢ i ∷ up → address new (j ∷ above) ≡ address old (j ∷ above)
  cleared_cell j above there kept ne =
      let beyond = up_known j above there in
      elim (cases_way above up beyond (up_known i up known)) [
        | inl e ↦
            let other : j ≢ i = λ same. ne (ap (λ k. k ∷ above) same ∙ ap (λ w. i ∷ w) e) in
            address-cell new j above ∙ ap (λ w. slice_index (table new w) j) e ∙ ap (λ ys. slice_index ys j) h.parent
            ∙ get_or-set_other (table old up) i j 0 0 other ∙ ap (λ w. slice_index (table old w) j) (sym e)
            ∙ sym (address-cell old j above)
        | inr apart ↦ elim (cases_way above (i ∷ up) beyond known) [
          | inl e ↦
              let under : IsBlockWay (j ∷ i ∷ up) = subst (λ w. IsBlockWay (j ∷ w)) e there in
              ap (λ w. address new (j ∷ w)) e ∙ address-cell new j (i ∷ up)
              ∙ ap (λ ys. slice_index ys j) (table-read new i up)
              ∙ ap (λ b. slice_index (cells b) j) cleared_bytes ∙ empty j ∙ sym (h.beneath j under)
              ∙ ap (λ w. address old (j ∷ w)) (sym e)
          | inr far ↦ address-cell new j above ∙ ap (λ ys. slice_index ys j) (kept apart far)
              ∙ sym (address-cell old j above)
        ]
      ]

  cleared_read : (way : List ℕ) → IsBlockWay way → way ≢ up → way ≢ i ∷ up → address new way ≡ address old way
      → read new way ≡ read old way
  cleared_read way there ne far e =
      read-via new way ∙ ap (bytes_via new way) e
      ∙ via-same old new way (address old way) (h.waits way there far ne) (λ some. h.blocks (address old way))
      ∙ sym (read-via old way)

  cleared_table : (way : List ℕ) → IsBlockWay way → way ≢ up → way ≢ i ∷ up → table new way ≡ table old way
  cleared_table [] there ne far = table-root new ∙ h.root (λ e. ne (sym e)) ∙ sym (table-root old)
  cleared_table (j ∷ above) there ne far =
      table-read new j above
      ∙ ap cells (cleared_read (j ∷ above) there ne far
      (cleared_cell j above there (cleared_table above (up_known j above there)) far))
      ∙ sym (table-read old j above)

  -- all other addresses stay
  pub cleared_addresses : (way : List ℕ) → IsBlockWay way → way ≢ i ∷ up → address new way ≡ address old way
  cleared_addresses [] there ne = address-root new ∙ sym (address-root old)
  cleared_addresses (j ∷ above) there ne = cleared_cell j above there (cleared_table above (up_known j above there)) ne

  -- and no other block reads otherwise, but for the one that held the address
  pub cleared_others : (way : List ℕ) → IsBlockWay way → way ≢ up → way ≢ i ∷ up → read new way ≡ read old way
  cleared_others way there ne far = cleared_read way there ne far (cleared_addresses way there far)
