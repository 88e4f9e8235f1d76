-- A store may stand on a log whose live bytes are those that were counted of a draft of it (`stored_on`): a log of the same
-- blocks and rows, whose files and end have no fault. Its keys are the draft's (`same_at`). They fit where they lie: the
-- counts of the segments (`counts_most`), and that of the active one before the log's end (`room`).
use Rattle.std.proofs.Common.{◌≡◌, ℕ, ◌+◌, ◌-◌, ◌*◌, ◌/◌, ◌<◌, ◌≤◌, List, [], inl, inr, length, refl, sym, ap, subst, ◌∙◌, arith}
use Rattle.std.specs.Prelude.{slice_index}
use Rattle.std.proofs.lemmas.Bool.{cases_lt}
use Rattle.std.proofs.lemmas.List.{get_or_past}
use Rattle.lfs_types.specs.declared.limits.TheConstants.{SEGMENT_BLOCKS}
use Rattle.lfs_ifile.specs.declared.segment.SegState.{SegState}
use Rattle.lfs_inodes.specs.Reading.{Fields}
use Rattle.lfs_segments.specs.Log.{Expects}
use Rattle.lfs_segments.specs.Memory.{next_address}
use Rattle.lfs_bmap.specs.declared.blocks.TheConstants.{BLOCK_CODES}
use Rattle.lfs_bmap.specs.Blocks.{way_to}
use Rattle.lfs_bmap.specs.Counting.{live_bytes, weight_of}
use Rattle.lfs_bmap.specs.Log.{IsPlace}
use Rattle.lfs_bmap.specs.Pieces.{IsPadded}
use Rattle.lfs_bmap.specs.Reading.{Tree, address, data_block, places}
use Rattle.lfs_log.specs.Parts.{IsParts, LogParts, live_of, record_place}
use Rattle.lfs_parts.specs.Store.{IsFile}
use Rattle.lfs_parts.specs.View.{record_of, root_in, tree_of, tree_with, version_of}
use Rattle.lfs_parts.proofs.ViewLemmas.{record_like}
use Rattle.lfs_fsck.specs.Checks.{AreChecked, IsChecked, IsCounted, IsFine, IsKept, IsLive}
use Rattle.lfs_fsck.specs.Stored.{IsStored, flushed, keys_of}
use Rattle.lfs_fsck.proofs.KeyLemmas.{live_all}
use Rattle.lfs_fsck.proofs.StoreLemmas.{is_stored}
use Rattle.lfs_fsck.proofs.SumLemmas.{total-first}
use Rattle.lfs_rescue.specs.Recovering.{AreGivenBack}
use Rattle.lfs_rescue.proofs.FitLemmas.{AreBelow, has_room, live_fits}
use Rattle.lfs_rescue.proofs.KeyLemmas.{HasNoneInClean}
use Rattle.lfs_rescue.proofs.RebuiltLemmas.{none_in_clean}

-- ---- what is counted fits
module _ (l : LogParts) (counts : List ℕ) (counted : IsCounted l (length l.tables.rows) 0 counts) where
  below_end : (s : ℕ) → AreBelow (keys_of l) s (4 * (s * 64 + 64)) (keys_of l).at
  below_end s = record {
    each = λ n c low below some here.
        let key = counted.earlier n c low below some in
        (omega arith, key.place.owned);
  }

  counts_few : (s : ℕ) → s < l.memory.segments → slice_index counts s ≤ 32768
  counts_few s low =
      let few = live_fits (keys_of l) s 64 (4 * (s * 64 + 64)) (keys_of l).at refl (has_room l.memory) (below_end s) in
      let is = live_all l (length l.tables.rows) counts s counted low in
      omega arith

  pub counts_most : (s : ℕ) → slice_index counts s ≤ 32768
  counts_most s = elim (cases_lt s l.memory.segments) [
    | inl inside ↦ counts_few s inside
    | inr past ↦
        let long = counted.long in
        let none = get_or_past counts s 0 (omega arith) in
        omega arith
  ]

  below_fill : AreBelow (keys_of l) l.memory.active (4 * (l.memory.active * 64 + l.memory.fill)) (keys_of l).at
  below_fill = record {
    each = λ n c low below some here.
        let key = counted.earlier n c low below some in
        (key.place.written here, key.place.owned);
  }

  active_few : l.memory.active < l.memory.segments → slice_index counts l.memory.active ≤ 512 * l.memory.fill
  active_few low =
      let few = live_fits (keys_of l) l.memory.active l.memory.fill (4 * (l.memory.active * 64 + l.memory.fill))
      (keys_of l).at refl (has_room l.memory) below_fill in
      let is = live_all l (length l.tables.rows) counts l.memory.active counted low in
      omega arith

-- ---- the log with these counts
module _ (l : LogParts) (counts : List ℕ) (states : List SegState) (clean : ℕ) where
  abbrev pub with_counts : LogParts
  with_counts = record {
    memory = l.memory;
    tables = record { live = counts; states = states; rows = l.tables.rows };
    clean = clean;
  }

  abbrev k : LogParts
  k = with_counts

  same_record : (n : ℕ) → record_of (flushed k) n ≡ record_of (flushed l) n
  same_record n = record_like (flushed l) (flushed k) n refl refl refl

  same_tree : (n : ℕ) → tree_of (flushed k) n ≡ tree_of (flushed l) n
  same_tree n = ap (λ r. tree_with (flushed l) n (version_of (flushed l) n) (root_in r)) (same_record n)

  same_place : (n : ℕ) → record_place k.tables n ≡ record_place l.tables n
  unfolding record_place
  same_place n = refl

  same_at : (keys_of k).at ≡ (keys_of l).at
  same_at = λ i. places (λ n. same_place n i) (λ n. same_tree n i)

  same_key : (n c : ℕ) → (keys_of k).at n c ≡ (keys_of l).at n c
  same_key n c = ap (λ (at : ℕ → ℕ → ℕ). at n c) same_at

  same_file : (n : ℕ) (f : Fields) → IsFile (flushed l) n f → IsFile (flushed k) n f
  same_file n f h = record {
    formed = h.formed;
    own_number = h.own_number;
    own_version = h.own_version;
    none_past = λ block can past. ap (λ (t : Tree). address t (way_to block)) (same_tree n)
        ∙ h.none_past block can past;
    padded = subst (λ (t : Tree). IsPadded (data_block t) f.attributes.size) (sym (same_tree n)) h.padded;
  }

  module _ (parts : IsParts k) (given_back : AreGivenBack k) (counted : IsCounted l (length l.tables.rows) 0 counts)
      (files : AreChecked l (length l.tables.rows)) (ready : Expects l.memory []) where
    live : (s : ℕ) → s < k.memory.segments → IsLive k s
    live s low =
        live_all l (length l.tables.rows) counts s counted low
        ∙ ap (λ (at : ℕ → ℕ → ℕ). live_bytes (length l.tables.rows) BLOCK_CODES at s) (sym same_at)

    dirty : HasNoneInClean k
    dirty = none_in_clean k parts given_back live

    kept : (n c : ℕ) → n < length l.tables.rows → c < BLOCK_CODES → IsKept k n c
    kept n c low below = λ some.
        let same = same_key n c in
        let key = counted.earlier n c low below (λ e. some (same ∙ e)) in
        let in_volume = key.place.in_volume in
        let place : IsPlace (keys_of k) n c ((keys_of l).at n c) = record {
          in_volume = key.place.in_volume;
          owned = key.place.owned;
          not_clean = dirty n c _ low below (omega arith) some (ap (λ (a : ℕ). a / 256) same);
          written = key.place.written;
        } in
        record {
          place = subst (IsPlace (keys_of k) n c) (sym same) place;
          within = λ f is other. key.within f (sym (same_record n) ∙ is) other;
        }

    counted_too : IsCounted k (length k.tables.rows) 0 counts
    counted_too = record {
      earlier = kept;
      here = λ c low. absurd (omega arith);
      long = counted.long;
      sums = λ s low.
          let is = live s low in
          let none = total-first (λ c. weight_of ((keys_of k).at (length k.tables.rows) c) s c) in
          omega arith;
    }

    fine : (n : ℕ) → IsFine l n → IsFine k n
    fine n is = λ used.
        let u = is used in
        let checked : IsChecked k n = record {
          fields = u.checked.fields;
          is = same_record n ∙ u.checked.is;
          file = same_file n u.checked.fields u.checked.file;
        } in
        record { allowed = u.allowed; checked = checked }

    room : live_of k.tables k.memory.active ≤ 512 * (next_address k.memory - SEGMENT_BLOCKS * k.memory.active)
    room = let few = active_few l counts counted parts.laid_out.active in omega arith

    pub stored_on : IsStored k
    stored_on =
        let files_too : AreChecked k (length k.tables.rows) = record { each = λ n low. fine n (files.each n low) } in
        is_stored k counts parts ready counted_too files_too live room
