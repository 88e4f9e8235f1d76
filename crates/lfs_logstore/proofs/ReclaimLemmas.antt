-- A dirty segment in which no key has a place is made clean and all else stays: `cleaned` for `LogStore::reclaim`,
-- `reclaimed_state` for `segclean`. Nothing but one state and the count of clean segments changes, and no record, block
-- or place is read off these, so files, keys and content are the same by computing alone. `IsLog` holds still by
-- `cleaned_log` of `lfs_bmap`: live bytes are counted over all keys, so none left means no key there; a definition of a
-- file that read the states would end the `refl`s.
use Rattle.std.proofs.Common.{◌≡◌, ℕ, ◌+◌, ◌≤◌, Some, refl, sym, ◌∙◌, subst, inl, inr, arith}
use Rattle.lfs_ifile.specs.declared.segment.SegState.TheVariants.{Clean}
use Rattle.lfs_ifile.specs.Tables.{with_state}
use Rattle.lfs_bmap.specs.Log.{Cleans, SameKeys}
use Rattle.lfs_bmap.proofs.MoveLemmas.{present_address-same}
use Rattle.lfs_bmap.proofs.SegmentLemmas.{cleaned_log, empty_has_none}
use Rattle.lfs_log.specs.Parts.{IsParts, LogParts, record_place}
use Rattle.lfs_log.specs.Parts as log
use Rattle.lfs_inodes.specs.Reading.{Fields}
use Rattle.lfs_parts.specs.declared.parts.Parts.{Parts}
use Rattle.lfs_parts.specs.Files.{content_of, file_at}
use Rattle.lfs_parts.specs.Keys.{log_state}
use Rattle.lfs_parts.specs.Store.{AreFiles, IsFile, IsStore}
use Rattle.lfs_parts.specs.View.{record_of}
use Rattle.lfs_segments.specs.Memory.{room_of}
use Rattle.lfs_segwrite.proofs.OrderedLemmas.{same_ordered}
use Rattle.lfs_segwrite.specs.Applying.{HasRoom, waiting_blocks}
use Rattle.lfs_segwrite.specs.Collecting.{entries_of}
use Rattle.lfs_logstore.specs.Cleaning.{HasLive, IsReclaimed}
use Rattle.lfs_logstore.proofs.AccountLemmas.{has_key, segment_is}
use Rattle.lfs_types.specs.Cleaned.{with_clean_segment}
use Rattle.lfs_logstore.specs.States.{state_of}
use Rattle.lfs_segwrite.proofs.RoomLemmas.{with_log}

-- the log with a segment made clean
abbrev pub cleaned_parts : LogParts → ℕ → LogParts
cleaned_parts l segment = record { memory = l.memory; tables = with_state l.tables segment Clean; clean = l.clean + 1 }

module _ (p : Parts) (s : ℕ) (store : IsStore p) (room : HasRoom p) (has : HasLive p s 0) where
  -- the parts with the segment clean
  abbrev q : Parts
  q = with_log p (cleaned_parts p.log s)

  record_same : (n : ℕ) → record_of q n ≡ record_of p n
  unfolding record_of
  record_same n = refl

  content_same : content_of q ≡ content_of p
  unfolding content_of file_at record_of
  content_same = refl

  place_same : (n c : ℕ) → (log_state q).at n c ≡ (log_state p).at n c
  unfolding record_of record_place
  place_same n c = refl

  keys_same : SameKeys (log_state p) (log_state q)
  keys_same = record {
    numbers = refl;
    segments = refl;
    places = λ n c low below. place_same n c;
    versions = λ n low. refl;
  }

  file_same : (n : ℕ) (f : Fields) → record_of q n ≡ Some f → IsFile q n f
  unfolding record_of
  file_same n f is =
      let file = store.whole.files n f is in
      record {
        formed = file.formed;
        own_number = file.own_number;
        own_version = file.own_version;
        none_past = file.none_past;
        padded = file.padded;
      }

  files_same : IsParts (cleaned_parts p.log s) → AreFiles q
  unfolding record_of
  files_same parts = record {
    parts = parts;
    cache = store.whole.cache;
    reserved = store.whole.reserved;
    recorded = store.whole.recorded;
    files = file_same;
    records = λ k d low. let there = store.whole.records k d low in
        record { in_use = there.in_use; at_version = there.at_version };
    frames = λ key locked. let there = store.whole.frames key locked in
        record { in_use = there.in_use; at_version = there.at_version };
    coded = store.whole.coded;
    mirrors = record {
      each = λ key bytes there.
          let was = store.whole.mirrors.each key bytes there in
          record {
            present = record { in_use = was.present.in_use; at_version = was.present.at_version };
            coded = was.coded;
            somewhere = was.somewhere;
            same = was.same;
          };
    };
  }

  cleans : ((at : ℕ → ℕ → ℕ) → Cleans (log.log_state p.log at) (log.log_state (cleaned_parts p.log s) at) s)
      → Cleans (log_state p) (log_state q) s
  cleans step =
      let c = step (log_state p).at in
      record {
        keys = keys_same;
        end = record { active = refl; next = refl };
        inside = c.inside;
        was_dirty = c.was_dirty;
        empty = c.empty;
        is_clean = c.is_clean;
        states = c.states;
        clean = c.clean;
        live = c.live;
        owners = c.owners;
      }

  empty : (log_state p).live s ≡ 0
  empty = store.log.counted s has.inside ∙ sym has.bytes

  is_reclaimed : IsReclaimed p s q
  is_reclaimed = record {
    inside = has.inside;
    was_dirty = has.dirty;
    empty = sym has.bytes;
    none_there = λ number version code some here.
        let key = has_key (log_state p) number version code some in
        empty_has_none (log_state p) 0 s store.log has.inside empty number code key.there
        (sym (segment_is (log_state p) number version code key) ∙ here);
    tables = refl;
    clean = refl;
    memory = refl;
    ordered = same_ordered p.log q.log refl refl;
    cache = refl;
    waiting = refl;
    content = content_same;
    addresses = present_address-same (log_state p) (log_state q) keys_same;
  }

  is_store : IsParts (cleaned_parts p.log s)
      → ((at : ℕ → ℕ → ℕ) → Cleans (log.log_state p.log at) (log.log_state (cleaned_parts p.log s) at) s) → IsStore q
  is_store parts step = record {
    whole = files_same parts;
    log = cleaned_log (log_state p) (log_state q) 0 s store.log (cleans step);
    ready = store.ready;
    parents = record { records = store.parents.records; holders = store.parents.holders };
    once = store.once;
    few = store.few;
    within = λ n block f is can locked. store.within n block f (sym (record_same n) ∙ is) can locked;
  }

  waiting_same : waiting_blocks q ≡ waiting_blocks p
  unfolding entries_of
  waiting_same = refl

  has_room : HasRoom q
  has_room = record {
    room = elim room.room [
      | inl enough ↦
          inl (subst (λ n. n ≤ room_of p.log.memory) (sym waiting_same) enough)
      | inr free ↦ inr (omega arith)
    ];
  }

-- a log with these fields
log_is : (l k : LogParts) → l.memory ≡ k.memory → l.tables ≡ k.tables → l.clean ≡ k.clean → l ≡ k
log_is l k memory tables clean = λ i. record { memory = memory i; tables = tables i; clean = clean i }

-- What making a segment clean left: the store, with room for what waits, and what was reclaimed.
pub record Cleaned (p : Parts) (s : ℕ) (q : Parts) : Type 0 where
  pub store : IsStore q
  pub room : HasRoom q
  pub reclaimed : IsReclaimed p s q

pub cleaned : (p : Parts) (l : LogParts) (s : ℕ) → IsStore p → HasRoom p → HasLive p s 0 → l.tables
    ≡ with_state p.log.tables s Clean → l.memory ≡ p.log.memory
    → l.clean ≡ p.log.clean + 1 → ((at : ℕ → ℕ → ℕ) → Cleans (log.log_state p.log at) (log.log_state l at) s)
    → IsParts l → Cleaned p s (with_log p l)
cleaned p l s store room has tables memory clean step parts =
    let is : l ≡ cleaned_parts p.log s = log_is l (cleaned_parts p.log s) memory tables clean in
    subst (λ m. Cleaned p s (with_log p m)) (sym is) (record {
      store = is_store p s store room has (subst IsParts is parts)
          (λ at. subst (λ m. Cleans (log.log_state p.log at) (log.log_state m at) s) is (step at));
      room = has_room p s store room has;
      reclaimed = is_reclaimed p s store room has;
    })

-- the store shows one clean segment more, and all else as before
pub reclaimed_state : (old new : Parts) (segment : ℕ) → IsReclaimed old segment new → state_of new
    ≡ with_clean_segment (state_of old)
reclaimed_state old new segment h = rw (h.content, h.clean, h.tables, h.memory) refl
