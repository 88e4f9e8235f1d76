-- After a crash of a store that showed a tree each number that names lead to has a record (`recorded`), so a log that is
-- built is a draft of the store's (`draft`): its files and its end have no fault (`no_files_fault`), and its names show a
-- tree (`shows_tree`). For whatever crash, where its files were counted, a store may stand on it (`stands`), and contains
-- what a store contained that the memory spares (`finds_all`).
use Rattle.std.proofs.Common.{◌≡◌, ◌≢◌, ◌↔◌, ℕ, ◌*◌, ◌/◌, ◌<◌, ◌≤◌, inl, inr, Bool, List, []}
use Rattle.std.proofs.Common.{Option, None, get_or, length, replicate, refl, sym, ap}
use Rattle.std.proofs.Common.{subst, ◌∙◌, arith}
use Rattle.std.proofs.lemmas.Bool.{cases_lt}
use Rattle.std.proofs.lemmas.List.{get_or-replicate, get_or_past}
use Rattle.lfs_types.specs.Ranges.{least_frames}
use Rattle.lfs_types.specs.StoreStates.{StoreState}
use Rattle.lfs_types.specs.Tree.{Content}
use Rattle.lfs_types.proofs.Somewhere.{present}
use Rattle.lfs_segments.specs.Log.{Expects}
use Rattle.lfs_ifile.specs.declared.segment.SegState.TheVariants.{Clean}
use Rattle.lfs_ifile.specs.Tables.{IsIfile, Tables}
use Rattle.lfs_segments.specs.Memory.{SegmentMemory, block_at}
use Rattle.lfs_calls.specs.Content.{Shows}
use Rattle.lfs_calls.specs.Volumes.{HasWorld}
use Rattle.lfs_log.specs.Parts.{IsParts, LogParts, clean_count, live_of}
use Rattle.lfs_log.specs.Parts as log
use Rattle.lfs_logstore.specs.States.{state_of}
use Rattle.lfs_parts.specs.declared.parts.Parts.{Parts}
use Rattle.lfs_parts.specs.Files.{content_of}
use Rattle.lfs_recovery.specs.declared.places.PartialSegment.{PartialSegment}
use Rattle.lfs_recovery.specs.declared.places.RecordPlace.{RecordPlace}
use Rattle.lfs_fsck.specs.Checks.{AreChecked, IsCounted}
use Rattle.lfs_fsck.specs.Stored.{IsStored, flushed}
use Rattle.lfs_trees.proofs.Refuting.{no_world}
use Rattle.lfs_durable.specs.Crashes.{IsCrashOf}
use Rattle.lfs_durable.specs.Contents.{IsMadeOf}
use Rattle.lfs_durable.specs.Names.{IsDurable}
use Rattle.lfs_durable.specs.Spared.{Spares}
use Rattle.lfs_durable.proofs.ContentLemmas.{finds_spared}
use Rattle.lfs_durable.proofs.CrashLemmas.{crash_spares}
use Rattle.lfs_durable.proofs.NameLemmas.{IsUsed, finds_spared_names}
use Rattle.lfs_durable.proofs.PlaceLemmas.{newest_one, there}
use Rattle.lfs_checking.specs.declared.fault.VolumeFault.{VolumeFault}
use Rattle.lfs_rescue.specs.declared.fault.RecoverFault.{RecoverFault}
use Rattle.lfs_rescue.specs.declared.fault.RecoverFault.TheVariants.{Empty, Volume, Number, LastSerial, Length, Memory}
use Rattle.lfs_rescue.specs.Building.{HaveRecords, IsBuildFault, IsBuilt, IsFilesFault, IsFoundOf, IsNamesFault}
use Rattle.lfs_rescue.specs.Contents.{FindsAllOf}
use Rattle.lfs_rescue.specs.Rebuilt.{IsDraft}
use Rattle.lfs_rescue.specs.Recovering.{AreGivenBack, IsLeftOver}
use Rattle.lfs_rescue.proofs.BuildLemmas.{given_back, labelled, none_clean, recovered_of, same_active, same_fill}
use Rattle.lfs_rescue.proofs.BuildLemmas.{same_kept, same_rows, same_segments, same_serial}
use Rattle.lfs_rescue.proofs.ContentLemmas.{makes_it}
use Rattle.lfs_rescue.proofs.DraftLemmas.{finds_files}
use Rattle.lfs_rescue.proofs.StoredLemmas.{stored_on, with_counts}
use Rattle.lfs_rescue.proofs.WipedLemmas.{IsWiped, wiped_content, wiped_store, with_memory}

-- segments that all count as full
full_some : (n : ℕ) → n ≡ 32768 → n ≡ 0 → ⊥
full_some n full none = absurd (omega arith)

pub all_full : (live : List ℕ) (n : ℕ) → live ≡ replicate n 32768 → (s : ℕ) → s < n → get_or live s 0 ≢ 0
all_full live n is s low none =
    full_some (get_or live s 0)
    (ap (λ (xs : List ℕ). get_or xs s 0) is ∙ get_or-replicate {A = ℕ} n s 32768 0 low) none

volume_memory : (fault : VolumeFault) → Volume fault ≡ Memory → ⊥
volume_memory fault e = cc

module _ (m : SegmentMemory) (last : PartialSegment) (places : List (Option RecordPlace)) (marks : List Bool)
    (inodes : ℕ) (f : IsFoundOf m last places marks inodes) where
  -- ---- of a store that the memory spares
  module _ (p : Parts) (d : IsDurable p) (shown : HasWorld (state_of p)) (spares : Spares p m) where
    pub recorded : HaveRecords places marks inodes
    recorded n low marked =
        let w = shown.1 in
        let most = f.most in
        let used : IsUsed p n =
        (finds_spared_names p m shown.0 places n d spares w.shows w.tree (record { each = f.newest })).0
        ((f.reached n).0 marked) in
        let s = there p d n used in
        present (newest_one p.log.memory d.next n (get_or places n None) s.newest
        (d.recoverable.to d.next d.serial d.bound)
        (spares.newest n (get_or places n None) used (f.newest n (omega arith))) s.found)

  -- ---- after a crash
  module _ (p : Parts) (d : IsDurable p) (shown : HasWorld (state_of p)) (crash : IsCrashOf p m) where
    module _ (live : List ℕ) (l : LogParts) (b : IsBuilt m last places marks inodes live l) where
      draft : IsDraft m l
      draft = record {
        recovered = recovered_of m last places marks inodes f live l b
            (recorded p d shown (crash_spares p m d crash));
        parts = b.parts;
        labelled = labelled m last places marks inodes f live l b;
      }

      pub no_files_fault : ((s : ℕ) → s < m.segments → get_or live s 0 ≢ 0) → (fault : RecoverFault)
          → IsFilesFault l fault → fault ≡ Memory
      no_files_fault full Memory h = refl
      no_files_fault full (Volume fault) h =
          absurd (h.1.1 (finds_files p m l h.0 d shown crash draft
          (none_clean m last places marks inodes f live l b full) h.1.0))
      no_files_fault full Empty h = absurd h
      no_files_fault full (Number number) h = absurd h
      no_files_fault full LastSerial h = absurd h
      no_files_fault full Length h = absurd h

      pub shows_tree : FindsAllOf m (flushed l) → HasWorld (state_of (flushed l))
      shows_tree finds =
          let same : content_of (flushed l) ≡ content_of p = finds p d shown (crash_spares p m d crash) in
          let w = shown.1 in (
            shown.0,
            record { shows = subst (λ (c : Content). Shows c shown.0) (sym same) w.shows; tree = w.tree },
          )

  -- a fault of the files of a draft that counts all segments as full
  pub files_fault : (live : List ℕ) (l : LogParts) → IsBuilt m last places marks inodes live l
      → ((s : ℕ) → s < m.segments → get_or live s 0 ≢ 0) → (fault : RecoverFault) → IsFilesFault l fault
      → IsBuildFault m fault
  files_fault live l b full Memory h = tt
  files_fault live l b full (Volume fault) h = λ p d shown crash.
      volume_memory fault (no_files_fault p d shown crash live l b full (Volume fault) h)
  files_fault live l b full Empty h = absurd h
  files_fault live l b full (Number number) h = absurd h
  files_fault live l b full LastSerial h = absurd h
  files_fault live l b full Length h = absurd h

  -- a fault of the names of a store that shows a tree after each crash
  pub names_fault : (s : StoreState) → ((p : Parts) → IsDurable p → HasWorld (state_of p) → IsCrashOf p m → HasWorld s)
      → (fault : RecoverFault) → IsNamesFault s fault → IsBuildFault m fault
  names_fault s shows Memory h = tt
  names_fault s shows (Volume fault) h = λ p d shown crash. no_world s h.0 h.1.0 h.1.1 (shows p d shown crash)
  names_fault s shows Empty h = absurd h
  names_fault s shows (Number number) h = absurd h
  names_fault s shows LastSerial h = absurd h
  names_fault s shows Length h = absurd h

  -- ---- a store may stand on it
  module _ (full counts : List ℕ) (draft l : LogParts) (all : (s : ℕ) → s < m.segments → get_or full s 0 ≢ 0)
      (a : IsBuilt m last places marks inodes full draft) (b : IsBuilt m last places marks inodes counts l) where
    -- nothing is left over where no segment is clean
    none_over : (x : ℕ) → x < m.segments * 64 → IsLeftOver m draft x → ⊥
    none_over x low over =
        let segments = a.segments in
        none_clean m last places marks inodes f full draft a all (x / 64) (omega arith) over.clean

    -- the draft's blocks with what was counted
    abbrev k : LogParts
    k = with_counts draft counts l.tables.states l.clean

    tables : k.tables ≡ l.tables
    tables =
        let live : counts ≡ l.tables.live = sym b.counts in
        let rows = same_rows m last places marks inodes f full counts draft l a b in
        λ i. record { live = live i; states = l.tables.states; rows = rows i }

    segments : draft.memory.segments ≡ l.memory.segments
    segments = same_segments m last places marks inodes f full counts draft l a b

    active : draft.memory.active ≡ l.memory.active
    active = same_active m last places marks inodes f full counts draft l a b

    parts : IsParts k
    parts = record {
      laid_out = a.parts.laid_out;
      formed = subst IsIfile (sym tables) b.parts.formed;
      agree = ap (λ (t : Tables). length t.live) tables ∙ b.parts.agree ∙ sym segments;
      is_active = ap (λ (t : Tables). log.state_of t draft.memory.active) tables ∙ ap (log.state_of l.tables) active
          ∙ b.parts.is_active;
      no_other = λ s low here. let size = segments in
          b.parts.no_other s (omega arith) (ap (λ (t : Tables). log.state_of t s) (sym tables) ∙ here) ∙ sym active;
      counted = b.parts.counted ∙ ap (clean_count l.tables) (sym segments)
          ∙ ap (λ (t : Tables). clean_count t draft.memory.segments) (sym tables);
    }

    given_back_too : AreGivenBack k
    given_back_too s low other =
        let size = segments in
        subst (λ (t : Tables). (log.state_of t s ≡ Clean) ↔ (live_of t s ≡ 0)) (sym tables)
        (given_back m last places marks inodes f counts l b s (omega arith) (λ e. other (e ∙ sym active)))

    module _ (ready : Expects draft.memory []) (counted : IsCounted draft (length draft.tables.rows) 0 counts)
        (files : AreChecked draft (length draft.tables.rows)) where
      counted_stored : IsStored k
      counted_stored = stored_on draft counts l.tables.states l.clean parts given_back_too counted files ready

      past_end : (x : ℕ) → m.segments * 64 ≤ x → block_at l.memory x ≡ block_at draft.memory x
      past_end x past =
          let long = a.parts.laid_out.whole in
          let long_too = b.parts.laid_out.whole in
          let size = a.segments in
          let size_too = b.segments in
          get_or_past l.memory.blocks x [] (omega arith) ∙ sym (get_or_past draft.memory.blocks x [] (omega arith))

      wiped : IsWiped k l.memory
      wiped =
          let least = a.parts.laid_out.at_least in
          let size = a.segments in
          record {
            laid_out = b.parts.laid_out;
            segments = sym segments;
            active = sym active;
            fill = sym (same_fill m last places marks inodes f full counts draft l a b);
            serial = sym (same_serial m last places marks inodes f full counts draft l a b);
            first = sym (same_kept m last places marks inodes f full counts draft l a b 0 (omega arith)
                (none_over 0 (omega arith)) (λ over. let from = over.past.from in absurd (omega arith)));
            kept = λ x used. elim (cases_lt x (m.segments * 64)) [
              | inl low ↦ sym (same_kept m last places marks inodes f full counts draft l a b x low (none_over x low)
                  (λ over. used (ap (λ (t : Tables). log.state_of t (x / 64)) tables ∙ over.clean)))
              | inr past ↦ past_end x past
            ];
          }

      same : with_memory k l.memory ≡ l
      same = λ i. record { memory = l.memory; tables = tables i; clean = l.clean }

      pub stands : IsStored l
      stands = subst IsStored same (λ frames. wiped_store k l.memory frames (counted_stored frames) wiped)

      content_same : content_of (flushed l) ≡ content_of (flushed k)
      content_same = ap (λ (j : LogParts). content_of (flushed j)) (sym same)
          ∙ wiped_content k l.memory least_frames (counted_stored least_frames) wiped

      made_of : HaveRecords places marks inodes → IsMadeOf m k
      made_of records =
          let made = makes_it m draft (recovered_of m last places marks inodes f full draft a records)
          (labelled m last places marks inodes f full draft a) none_over in
          record {
            places = made.places;
            newest = made.newest;
            named = made.named;
            placed = made.placed;
            last = made.last;
            logged = made.logged;
            latest = made.latest;
            kept = made.kept;
            labelled = made.labelled;
          }

      pub finds_all : FindsAllOf m (flushed l)
      finds_all p d shown spares =
          content_same
          ∙ finds_spared p (flushed k) shown.0 m d shown.1.shows shown.1.tree spares
          (made_of (recorded p d shown spares)) (counted_stored least_frames)
          (record { no_record = refl; no_frame = refl })
