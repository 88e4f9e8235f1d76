-- What recovery reads in a memory that spares a store is what the store has: the newest records of the numbers in use
-- (`read_in`), and each whole block of a file (`shown_in`), since each block that the store holds is there (`block_in`,
-- `record_block`). So its own log spares a store (`own_spared`).
use Rattle.std.proofs.Common.{◌≡◌, ◌≢◌, ℕ, ◌+◌, ◌*◌, ◌<◌, ◌≤◌, inl, inr, true, List, [], length, Option, Some}
use Rattle.std.proofs.Common.{refl, sym, ap, ◌∙◌, arith}
use Rattle.std.proofs.lemmas.Bool.{cases_eq}
use Rattle.lfs_types.specs.Stored.{bytes_of}
use Rattle.lfs_ifile.specs.Tables.{row_of}
use Rattle.lfs_inodes.specs.Reading.{Fields}
use Rattle.lfs_segments.specs.Memory.{SegmentMemory}
use Rattle.lfs_segments.specs.Memory as memory
use Rattle.lfs_bmap.specs.Reading.{SameReadings, Tree, address}
use Rattle.lfs_bmap.specs.Blocks.{way_to}
use Rattle.lfs_bmap.specs.Ways.{IsBlockWay, code_at, way_of}
use Rattle.lfs_bmap.proofs.PlaceLemmas.{data_block-same}
use Rattle.lfs_bmap.proofs.ReadingLemmas.{address-root, kept_blocks}
use Rattle.lfs_bmap.proofs.WayLemmas.{known_way_of, way_of-zero}
use Rattle.lfs_recovery.specs.declared.places.RecordPlace.{RecordPlace}
use Rattle.lfs_recovery.specs.Newest.{IsNewest}
use Rattle.lfs_parts.specs.declared.parts.Parts.{Parts}
use Rattle.lfs_parts.specs.Files.{content_of}
use Rattle.lfs_parts.specs.Keys.{log_state}
use Rattle.lfs_parts.specs.View as view
use Rattle.lfs_parts.specs.View.{tree_of}
use Rattle.lfs_parts.proofs.KeyLemmas.{place-block}
use Rattle.lfs_parts.proofs.SameLogLemmas.{block_known, used_low}
use Rattle.lfs_calls.specs.Content.{block_at}
use Rattle.lfs_reach.specs.Reach.{bytes_at, file_address, record_of}
use Rattle.lfs_durable.specs.Names.{IsDurable}
use Rattle.lfs_durable.specs.Spared.{IsHeld, Spares}
use Rattle.lfs_durable.proofs.BlockLemmas.{LiesOn, block_alike, block_shown, lies_here}
use Rattle.lfs_durable.proofs.PlaceLemmas.{low_slot, place_is, placed, read_there}

-- ---- what a store holds
-- a block of a file
pub block_held : (p : Parts) (number : ℕ) (way : List ℕ) → number < length p.log.tables.rows → IsBlockWay way
    → address (tree_of p number) way ≢ 0 → IsHeld p (address (tree_of p number) way)
block_held p number way low known some =
    let t : Tree = tree_of p number in
    let code : ℕ = code_at way in
    let back : way_of code ≡ way = known_way_of way known in
    let below = known.coded in
    elim (cases_eq code 0) [
      | inl record_way ↦
          let empty : way ≡ [] = sym back ∙ ap way_of record_way ∙ way_of-zero in
          absurd (some (ap (address t) empty ∙ address-root t))
      | inr other ↦
          let at : (log_state p).at number code ≡ 4 * address t way =
          place-block p number code other ∙ ap (λ (v : List ℕ). 4 * address t v) back in
          record {
            number = number;
            code = code;
            placed = record { number_below = low; code_below = below; somewhere = λ none. some (omega arith) };
            here = omega arith;
          }
    ]

-- the block of a record
pub record_held : (p : Parts) (d : IsDurable p) (number : ℕ) → (row_of p.log.tables number).used ≡ true
    → IsHeld p (row_of p.log.tables number).address
record_held p d number used =
    let place = place_is p d number used in
    let slot = low_slot p d number used in
    record {
      number = number;
      code = 0;
      placed = record {
        number_below = used_low p number used;
        code_below = omega arith;
        somewhere = placed p d number used;
      };
      here = omega arith;
    }

-- ---- what is read
module _ (p : Parts) (n : SegmentMemory) (d : IsDurable p) (spares : Spares p n) where
  abbrev m : SegmentMemory
  m = p.log.memory

  pub read_in : (number : ℕ) → (row_of p.log.tables number).used ≡ true → (o : Option RecordPlace) → IsNewest n number o
      → record_of n o ≡ view.record_of p number
  read_in number used o newest =
      read_there p d number used n spares.segments (spares.held _ (record_held p d number used)) o
      (spares.newest number o used newest)

  module _ (number : ℕ) (f : Fields) (low : number < length p.log.tables.rows) (is : view.record_of p number ≡ Some f) where
    abbrev t : Tree
    t = tree_of p number

    -- the file, as it lies in this memory
    abbrev u : Tree
    u = record { root = t.root; waits = t.waits; block = λ a. memory.block_at n a }

    same : SameReadings t u
    same = kept_blocks t u refl (λ way known. refl)
        (λ way known some. spares.held (address t way) (block_held p number way low known some))

    lies : LiesOn n u f
    lies =
        let on = lies_here p number f d.store d.flushed is in
        let segments = spares.segments in
        record {
          root = on.root;
          none_waits = on.none_waits;
          blocks = λ a. refl;
          lies = record {
            each = λ block known.
                let inside = on.lies.each block known in
                let moved = same.addresses (way_to block) (block_known block known) in
                omega arith;
          };
        }

    pub shown_in : (index : ℕ) → index < 16524 → 512 * index + 512 ≤ f.attributes.size
        → bytes_at n (file_address n f index) ≡ block_at (bytes_of (content_of p) number) index
    shown_in index few whole =
        block_alike n u f lies index few ∙ data_block-same t u same index
        ∙ block_shown p number f d.store d.flushed is index whole
