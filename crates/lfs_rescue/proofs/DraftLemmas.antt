-- A log that is built again from what a crash left has no fault in its files or at its end (`no_fault`), where no key lies
-- in a clean segment: its keys are good; its files are the store's (`fine`); and it ends with a whole partial segment,
-- behind which zeros stand (`goes_on_there`).
use Rattle.std.proofs.Common.{◌≡◌, ℕ, ◌+◌, ◌/◌, ◌<◌, inl, inr, true, List, [], Some}
use Rattle.std.proofs.Common.{length, refl, sym, ap, subst, ◌∙◌, arith}
use Rattle.std.proofs.lemmas.Bool.{cases_eq, cond-true, false≢true}
use Rattle.std.proofs.lemmas.Option.{none-some, same_Some}
use Rattle.lfs_types.specs.declared.limits.TheConstants.{FIRST_INODE, ROOT_INODE}
use Rattle.lfs_types.proofs.Somewhere.{there_of}
use Rattle.lfs_ifile.specs.Tables.{row_of}
use Rattle.lfs_inodes.specs.Reading.{Fields}
use Rattle.lfs_segments.specs.Log.{Expects, expected_at}
use Rattle.lfs_segments.specs.Memory.{SegmentMemory, next_address}
use Rattle.lfs_bmap.specs.Blocks.{way_to}
use Rattle.lfs_bmap.specs.Log.{IsPlaced}
use Rattle.lfs_bmap.specs.Pieces.{IsPadded}
use Rattle.lfs_bmap.proofs.PlaceLemmas.{data_block-same}
use Rattle.lfs_recovery.specs.Course.{end_of, partials}
use Rattle.lfs_recovery.specs.Logs.{IsLogged}
use Rattle.lfs_recovery.proofs.LogLemmas.{partials-logs}
use Rattle.lfs_found.proofs.ChainLemmas.{expected-next, expects_in, finds_begun}
use Rattle.lfs_log.specs.Parts.{LogParts}
use Rattle.lfs_parts.specs.declared.parts.Parts.{Parts}
use Rattle.lfs_parts.specs.Store.{IsFile}
use Rattle.lfs_parts.specs.View.{record_of, tree_of}
use Rattle.lfs_parts.proofs.FileLemmas.{record_used}
use Rattle.lfs_parts.proofs.SameLogLemmas.{block_known}
use Rattle.lfs_fsck.specs.declared.fault.LogFault.{LogFault}
use Rattle.lfs_fsck.specs.declared.fault.LogFault.TheVariants.{Unfinished, NotZeros, Reserved, NoRecord, OtherRecord}
use Rattle.lfs_fsck.specs.declared.fault.LogFault.TheVariants.{Outside, Misnamed, InClean, Unwritten, PastSize, Tail}
use Rattle.lfs_fsck.specs.declared.fault.LogFault.TheVariants.{Live, Crowded, Memory}
use Rattle.lfs_fsck.specs.Checks.{AreChecked, IsChecked, IsFine, IsKey}
use Rattle.lfs_fsck.specs.Faults.{IsFileFaultOf}
use Rattle.lfs_fsck.specs.Stored.{flushed, keys_of}
use Rattle.lfs_fsck.proofs.StoreLemmas.{used_low}
use Rattle.lfs_durable.specs.Names.{IsDurable}
use Rattle.lfs_durable.proofs.NameLemmas.{IsUsed}
use Rattle.lfs_rescue.specs.Rebuilt.{FindsFiles}
use Rattle.lfs_rescue.proofs.AgainLemmas.{recovered_same}
use Rattle.lfs_rescue.proofs.KeyLemmas.{HasNoneInClean, good_key, serials}
use Rattle.lfs_rescue.proofs.SameLemmas.{IsAgain, same_numbers, same_readings, same_record, same_row, was_used}

module _ (p : Parts) (m : SegmentMemory) (l : LogParts) (g : IsAgain p m l) (dirty : HasNoneInClean l) where
  abbrev d : IsDurable p
  d = g.durable

  -- ---- files
  used_before : (number : ℕ) → number < length p.log.tables.rows → (row_of l.tables number).used ≡ true
      → IsUsed p number
  used_before number low used = was_used p m l g number low _ (cond-true _ _ _ used)

  checked : (number : ℕ) → number < length p.log.tables.rows → IsUsed p number → IsChecked l number
  checked number low used =
      let f = there_of (record_of p number) (d.store.whole.recorded number used) in
      let file = d.store.whole.files number f.value f.is in
      let readings = same_readings p m l g number low in
      record {
        fields = f.value;
        is = same_record p m l g number low ∙ f.is;
        file = record {
          formed = file.formed;
          own_number = file.own_number;
          own_version = file.own_version ∙ sym (same_row p m l g number low used).version;
          none_past = λ block can past. readings.addresses (way_to block) (block_known block can)
              ∙ file.none_past block can past;
          padded = subst (λ (blocks : ℕ → List ℕ). IsPadded blocks f.value.attributes.size)
              (λ i n. sym (data_block-same (tree_of p number) (tree_of (flushed l) number) readings n) i) file.padded;
        };
      }

  allowed : (number : ℕ) → IsUsed p number → number < FIRST_INODE → number ≡ ROOT_INODE
  allowed number used low = elim (cases_eq number ROOT_INODE) [
    | inl root ↦ root
    | inr other ↦ absurd (false≢true (sym (d.store.whole.reserved number low other) ∙ used))
  ]

  fine : (number : ℕ) → number < length p.log.tables.rows → IsFine l number
  fine number low = λ used.
      let was = used_before number low used in
      record { allowed = allowed number was; checked = checked number low was }

  pub files : AreChecked l (length l.tables.rows)
  files = record { each = λ n low. let numbers = same_numbers p m l g in fine n (omega arith) }

  -- ---- the end
  ends_whole : IsLogged l.memory g.draft.recovered.last
  ends_whole =
      let r = g.draft.recovered in
      let logs = partials-logs m (partials m (end_of m)) refl in
      ((recovered_same m l (partials m (end_of m)) logs r).logged r.last).1 r.logged

  pending : expected_at l.memory l.memory.active (next_address l.memory) ≡ Some []
  pending =
      let r = g.draft.recovered in
      let kind = serials p m l g dirty in
      let begun = finds_begun l.memory r.last kind ends_whole in
      let here : r.last.address / 64 ≡ l.memory.active = sym r.ends.active in
      let e = expects_in l.memory l.memory.active r.last.address begun.told begun.summary here in
      let count = begun.count in
      let end = r.ends.end in
      let at : next_address l.memory ≡ r.last.address + 1 + length begun.told.entries = omega arith in
      ap (expected_at l.memory l.memory.active) at
      ∙ expected-next l.memory l.memory.active r.last.address begun.told kind e.0 e.1 begun.summary.told

  pub goes_on_there : Expects l.memory []
  goes_on_there = record {
    pending = pending;
    fit = omega arith;
    zeros = λ a from below.
        let r = g.draft.recovered in
        let active = g.draft.parts.laid_out.active in
        let segments = r.segments in
        (r.kept a (omega arith)).zeros (omega arith, from);
  }

  -- ---- no fault
  key : (number code : ℕ) → IsPlaced (keys_of l) number code → IsKey l number code
  key number code placed =
      let numbers = same_numbers p m l g in
      let low = placed.number_below in
      good_key p m l g dirty number code (omega arith) placed.code_below placed.somewhere

  in_use : (number : ℕ) → (row_of l.tables number).used ≡ true → IsFine l number
  in_use number used = files.each number (used_low l number used)

  its_file : (number : ℕ) (f : Fields) → record_of (flushed l) number ≡ Some f → IsFile (flushed l) number f
  its_file number f is =
      let used = record_used (flushed l) number f is in
      let file = (in_use number used used).checked in
      subst (IsFile (flushed l) number) (same_Some file.fields f (sym file.is ∙ is)) file.file

  pub no_fault : (fault : LogFault) → IsFileFaultOf l fault → fault ≡ Memory
  no_fault (Unfinished segment) h = absurd (h.1 pending)
  no_fault (NotZeros address) h = absurd (h.2 (goes_on_there.zeros address h.0 (let below = h.1 in omega arith)))
  no_fault (Reserved number) h = absurd (h.2 ((in_use number h.0 h.0).allowed h.1))
  no_fault (NoRecord number) h =
      let file = (in_use number h.0 h.0).checked in absurd (none-some file.fields (sym h.1 ∙ file.is))
  no_fault (OtherRecord number) h =
      let file = its_file number h.fields h.is in absurd (h.other file.own_number file.own_version)
  no_fault (Outside number code) h =
      let in_volume = (key number code h.0).place.in_volume in let past = h.1 in absurd (omega arith)
  no_fault (Misnamed number code) h = absurd (h.1 (key number code h.0).place.owned)
  no_fault (InClean number code) h = absurd ((key number code h.0).place.not_clean h.1)
  no_fault (Unwritten number code) h =
      let before = (key number code h.0).place.written h.1 in let past = h.2 in absurd (omega arith)
  no_fault (PastSize number code) h =
      absurd (h.somewhere ((its_file number h.fields h.is).none_past h.block h.can h.past))
  no_fault (Tail number) h = absurd (h.not_padded (its_file number h.fields h.is).padded)
  no_fault (Live segment) h = absurd h
  no_fault (Crowded segment) h = absurd h
  no_fault Memory h = refl

pub finds_files : FindsFiles
finds_files p m l fault durable shown crash draft none is =
    let g : IsAgain p m l = record { durable = durable; shown = shown; crash = crash; draft = draft } in
    no_fault p m l g (λ number code segment low below inside some here. none segment inside) fault is
