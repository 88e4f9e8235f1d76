-- What a landing (LandedLemmas of `lfs_segwrite`) and a giving back (ClearedLemmas) share: an address is set in the
-- holder and the block waits no more (`waits_none`, `waits_rest`, `parent_set`), so its key alone has another place
-- (`place_after`). Codes tell the ways apart (`code_apart`), so one frame goes, the holder's has the new cell, and
-- every other key has what it had. Were two keys alike, of two codes or of an older version, the frame of another block
-- would go.
use Rattle.std.proofs.Common.{◌≡◌, ◌≢◌, ℕ, ◌*◌, ◌<◌, ◌⊎◌, List, [], ◌∷◌, None, IsSome, false, refl, sym, ap, ◌∙◌, subst}
use Rattle.std.proofs.Common.{inl, inr}
use Rattle.std.specs.Prelude.{slice_set}
use Rattle.std.proofs.lemmas.Bool.{cases_eq}
use Rattle.lfs_ifile.specs.declared.inode.InodeRow.{InodeRow}
use Rattle.lfs_ifile.specs.Tables.{row_at, row_of}
use Rattle.lfs_inodes.specs.declared.inode.Inode.{Inode}
use Rattle.lfs_cache.specs.declared.key.Key.{Key}
use Rattle.lfs_cache.specs.Contents.{block_in}
use Rattle.lfs_cache.specs.Keys.{same_key}
use Rattle.lfs_log.specs.Parts.{LogParts}
use Rattle.lfs_bmap.specs.declared.blocks.TheConstants.{BLOCK_CODES}
use Rattle.lfs_bmap.specs.declared.blocks.FileBlock.{FileBlock}
use Rattle.lfs_bmap.specs.Blocks.{IsFileBlock, code_of, way_to}
use Rattle.lfs_bmap.specs.Counting.{placed}
use Rattle.lfs_bmap.specs.Reading.{SameReadings, address, table}
use Rattle.lfs_bmap.specs.Ways.{IsBlockWay, code_at, way_of}
use Rattle.lfs_bmap.proofs.BlockLemmas.{code_of-below}
use Rattle.lfs_bmap.proofs.CountingLemmas.{placed-cases}
use Rattle.lfs_bmap.proofs.WayLemmas.{known_way_of, same_code, up_known, way_of-code_of, way_of-known}
use Rattle.lfs_parts.specs.declared.parts.Parts.{Parts}
use Rattle.lfs_parts.specs.Keys.{log_state}
use Rattle.lfs_staging.specs.Addressing.{Sets}
use Rattle.lfs_parts.specs.Store.{HolderWaits}
use Rattle.lfs_parts.specs.View.{key_of, record_of, root_in, tree_of, version_of, waiting_in}
use Rattle.lfs_parts.proofs.KeyLemmas.{place-block, place-record}
use Rattle.lfs_staging.proofs.TableLemmas.{apart_code, apart_number, longer, same_place, table_same}
use Rattle.lfs_parts.proofs.ViewLemmas.{code_at-way_to, record_like}

-- ---- the way to a block, and the codes of the block and of what holds its address
module _ (block : FileBlock) (i : ℕ) (up : List ℕ) (can : IsFileBlock block) (way : way_to block ≡ i ∷ up) where
  pub code_here : code_at (i ∷ up) ≡ code_of block
  code_here = ap code_at (sym way) ∙ code_at-way_to block

  pub way_here : way_of (code_of block) ≡ i ∷ up
  way_here = way_of-code_of block can ∙ way

  pub known : IsBlockWay (i ∷ up)
  known = subst IsBlockWay way_here (way_of-known (code_of block) (code_of-below block can))

  pub above_known : IsBlockWay up
  above_known = up_known i up known

  -- another way leads to another code
  pub code_apart : (other : List ℕ) → IsBlockWay other → other ≢ i ∷ up → code_at other ≢ code_of block
  code_apart other there ne e = ne (sym (known_way_of other there) ∙ ap way_of e ∙ way_here)

  pub code_above : (other : List ℕ) → IsBlockWay other → other ≢ up → code_at other ≢ code_at up
  code_above other there ne e = ne (sym (known_way_of other there) ∙ ap way_of e ∙ known_way_of up above_known)

-- ---- the steps
pub record Unstages (p s q : Parts) (v : Inode) (block : FileBlock) (a i : ℕ) (up : List ℕ) : Type 0 where
  pub can : IsFileBlock block
  pub way : way_to block ≡ i ∷ up
  pub at_version : v.version ≡ version_of p v.number
  pub set : Sets p s v i up a
  pub memory : q.log.memory ≡ p.log.memory
  pub rows : q.log.tables.rows ≡ p.log.tables.rows
  pub waiting : q.waiting ≡ s.waiting
  pub gone : block_in (key_of v.number v.version (code_of block)) q.cache.locked ≡ None
  pub kept : (key : Key) → same_key (key_of v.number v.version (code_of block)) key ≡ false
      → block_in key q.cache.locked ≡ block_in key s.cache.locked

module _ (p s q : Parts) (v : Inode) (block : FileBlock) (a i : ℕ) (up : List ℕ)
    (h : Unstages p s q v block a i up) where
  pub version_same : (m : ℕ) → version_of q m ≡ version_of p m
  version_same m = ap (λ (rs : List InodeRow). (row_at rs m).version) h.rows

  -- records
  record_after : (m : ℕ) → record_of q m ≡ record_of s m
  record_after m =
      record_like s q m (h.memory ∙ ap (λ (l : LogParts). l.memory) (sym h.set.log)) (h.rows
      ∙ ap (λ (l : LogParts). l.tables.rows) (sym h.set.log)) (ap (λ items. waiting_in items m) h.waiting)

  pub record_other : (m : ℕ) → m ≢ v.number → record_of q m ≡ record_of p m
  record_other m other = record_after m ∙ h.set.records m other

  pub record_here : up ≢ [] → record_of q v.number ≡ record_of p v.number
  record_here some = record_after v.number ∙ h.set.root some

  -- what waits
  pub waits_key : (key : Key) → same_key (key_of v.number v.version (code_of block)) key ≡ false
      → same_key (key_of v.number v.version (code_at up)) key ≡ false
      → block_in key q.cache.locked ≡ block_in key p.cache.locked
  waits_key key apart above = h.kept key apart ∙ h.set.waits key above

  waits_version : (m : ℕ) (way : List ℕ) → (tree_of q m).waits way
      ≡ block_in (key_of m (version_of p m) (code_at way)) q.cache.locked
  waits_version m way = ap (λ n. block_in (key_of m n (code_at way)) q.cache.locked) (version_same m)

  -- nothing waits for the block; for another, of this file or of another one, what waited
  pub waits_none : (tree_of q v.number).waits (i ∷ up) ≡ None
  waits_none = waits_version v.number (i ∷ up)
      ∙ ap (λ c. block_in (key_of v.number (version_of p v.number) c) q.cache.locked) (code_here block i up h.can h.way)
      ∙ ap (λ n. block_in (key_of v.number n (code_of block)) q.cache.locked) (sym h.at_version) ∙ h.gone

  pub waits_rest : (way : List ℕ) → IsBlockWay way → way ≢ i ∷ up → way ≢ up → (tree_of q v.number).waits way
      ≡ (tree_of p v.number).waits way
  waits_rest way there ne far =
      waits_version v.number way ∙ waits_key (key_of v.number (version_of p v.number) (code_at way))
      (apart_code v.number v.number v.version (version_of p v.number) (code_of block) (code_at way)
      (code_apart block i up h.can h.way way there ne))
      (apart_code v.number v.number v.version (version_of p v.number) (code_at up) (code_at way)
      (code_above block i up h.can h.way way there far))

  pub waits_other : (m : ℕ) (way : List ℕ) → m ≢ v.number → (tree_of q m).waits way ≡ (tree_of p m).waits way
  waits_other m way other =
      waits_version m way ∙ waits_key (key_of m (version_of p m) (code_at way))
      (apart_number v.number m v.version (version_of p m) (code_of block) (code_at way) other)
      (apart_number v.number m v.version (version_of p m) (code_at up) (code_at way) other)

  -- what holds the address waits before and after
  parent_waits : up ≢ [] → IsSome ((tree_of s v.number).waits up)
  parent_waits some = still up some h.set.still
    where
      still : (up : List ℕ) → up ≢ [] → HolderWaits s.cache v.number v.version up
          → IsSome ((tree_of s v.number).waits up)
      still [] some waits = absurd (some refl)
      still (j ∷ above) some waits = subst (λ n. IsSome
          (block_in (key_of v.number n (code_at (j ∷ above))) s.cache.locked)) at_version waits
        where
          at_version : v.version ≡ version_of s v.number
          at_version = h.at_version ∙ sym (ap (λ (l : LogParts). (row_of l.tables v.number).version) h.set.log)

  table_after : table (tree_of q v.number) up ≡ table (tree_of s v.number) up
  table_after =
      table_same (tree_of s v.number) (tree_of q v.number) up (ap root_in (record_after v.number))
      (λ some. (waits_after, parent_waits some))
    where
      version_after : version_of q v.number ≡ version_of s v.number
      version_after = ap (λ (rs : List InodeRow). (row_at rs v.number).version) (h.rows
          ∙ ap (λ (l : LogParts). l.tables.rows) (sym h.set.log))

      waits_after : (tree_of q v.number).waits up ≡ (tree_of s v.number).waits up
      waits_after = ap (λ n. block_in (key_of v.number n (code_at up)) q.cache.locked) version_after
          ∙ h.kept (key_of v.number (version_of s v.number) (code_at up))
          (apart_code v.number v.number v.version (version_of s v.number) (code_of block) (code_at up)
          (code_apart block i up h.can h.way up (above_known block i up h.can h.way) (longer i up)))

  -- and has it
  pub parent_set : table (tree_of q v.number) up ≡ slice_set (table (tree_of p v.number) up) i a
  parent_set = table_after ∙ h.set.parent

-- ---- the places of the keys
-- A block of a file has this address; each other block of the file, and each of such other files, has the one that it
-- had.
pub record Readdresses (Is : ℕ → Type 0) (p q : Parts) (v : Inode) (block : FileBlock) (a : ℕ) : Type 0 where
  pub other : code_of block ≢ 0
  pub rows : q.log.tables.rows ≡ p.log.tables.rows
  pub here : address (tree_of q v.number) (way_of (code_of block)) ≡ a
  pub rest : (way : List ℕ) → IsBlockWay way → way ≢ way_of (code_of block) → address (tree_of q v.number) way
      ≡ address (tree_of p v.number) way
  pub others : (m : ℕ) → Is m → m ≢ v.number → SameReadings (tree_of p m) (tree_of q m)

module _ (Is : ℕ → Type 0) (p q : Parts) (v : Inode) (block : FileBlock) (a : ℕ)
    (h : Readdresses Is p q v block a) where
  pub address_same : (m d : ℕ) → Is m → d < BLOCK_CODES → (m ≢ v.number) ⊎ (d ≢ code_of block)
      → address (tree_of q m) (way_of d) ≡ address (tree_of p m) (way_of d)
  address_same m d is below apart =
      elim (cases_eq m v.number) [
        | inl e ↦
            let other : d ≢ code_of block = elim apart [ inl ne ↦ absurd (ne e) | inr ne ↦ ne ] in
            ap (λ n. address (tree_of q n) (way_of d)) e
            ∙ h.rest (way_of d) (way_of-known d below) (λ same. other (same_code d (code_of block) same))
            ∙ ap (λ n. address (tree_of p n) (way_of d)) (sym e)
        | inr ne ↦ (h.others m is ne).addresses (way_of d) (way_of-known d below)
      ]

  pub place_kept : (m d : ℕ) → Is m → d < BLOCK_CODES → (m ≢ v.number) ⊎ (d ≢ code_of block) → (log_state q).at m d
      ≡ (log_state p).at m d
  place_kept m d is below apart =
      elim (cases_eq d 0) [
        | inl none ↦ ap ((log_state q).at m) none ∙ place-record q m ∙ same_place p.log.tables q.log.tables m h.rows
            ∙ sym (place-record p m) ∙ ap ((log_state p).at m) (sym none)
        | inr some ↦ place-block q m d some ∙ ap (λ n. 4 * n) (address_same m d is below apart)
            ∙ sym (place-block p m d some)
      ]

  pub place_after : (m d : ℕ) → Is m → d < BLOCK_CODES → (log_state q).at m d
      ≡ placed (log_state p).at v.number (code_of block) (4 * a) m d
  place_after m d is below =
      elim (placed-cases (log_state p).at v.number (code_of block) (4 * a) m d) [
        | inl e ↦ ap (λ n. (log_state q).at n d) e.0 ∙ ap ((log_state q).at v.number) e.1
            ∙ place-block q v.number (code_of block) h.other ∙ ap (λ n. 4 * n) h.here ∙ sym e.2
        | inr e ↦ place_kept m d is below e.0 ∙ sym e.1
      ]
