-- A free number is given out to an empty file, and nothing else of the content changes: `made_staged`, `made_content`,
-- `made_versions`, for `make`. Frames are of numbers in use, so a free one has none, and its new record has no
-- address: each block reads as zeros, and the file is well formed at any size; MakingLemmas has the rest. The version
-- is raised each time, which is what tells the new file's keys from those of an older one in the log.
use Rattle.std.proofs.Common.{◌≡◌, ◌≢◌, ℕ, ◌+◌, ◌/◌, ◌%◌, ◌<◌, ◌≤◌, List, [], ◌∷◌, All, length, Some, is_some, false}
use Rattle.std.proofs.Common.{refl, sym, ap, ◌∙◌, subst, inl, inr, arith}
use Rattle.std.specs.Prelude.{slice_index, if◌then◌else◌, ◌==◌, replicate}
use Rattle.std.specs.Cmp.{nat_cmp_total}
use Rattle.std.specs.FinMap as map
use Rattle.std.specs.FinMap.{same_map, nat_cmp-IsAntisymmetric}
use Rattle.std.proofs.lemmas.Bool.{cases_eq, cases_lt, cond-false, cond-true, eq-eqb, false≢true, ne_eqb}
use Rattle.std.proofs.lemmas.List.{get_or-set_other, get_or-set_same, length-set}
use Rattle.std.proofs.lemmas.List.Elements.{All-cons, All-weaker}
use Rattle.std.proofs.lemmas.Option.{same_Some}
use Rattle.lfs_types.specs.Blocks.{zero_block}
use Rattle.lfs_types.specs.Tree.{file_of}
use Rattle.lfs_types.specs.declared.attrs.Attrs.{Attrs}
use Rattle.lfs_types.specs.declared.limits.TheConstants.{FILE_BLOCKS, FIRST_INODE}
use Rattle.lfs_types.proofs.Maps.{get-insert_same, get-insert_other}
use Rattle.lfs_ifile.specs.declared.inode.InodeRow.{InodeRow}
use Rattle.lfs_ifile.specs.Inode.{fresh_row, given_row, raised_version}
use Rattle.lfs_ifile.specs.Tables.{Tables, row_of, with_row}
use Rattle.lfs_inodes.specs.declared.inode.Inode.{Inode}
use Rattle.lfs_inodes.specs.Attributes.{Attributes, attributes_from, stat_of, attributes}
use Rattle.lfs_inodes.specs.Reading.{fields_of}
use Rattle.lfs_inodes.proofs.FieldLemmas.{AreFields-fields_of}
use Rattle.lfs_inodes.proofs.ZeroedLemmas.{slice_index-zeros}
use Rattle.lfs_inodes.specs.Addresses.{addresses}
use Rattle.lfs_inodes.specs.declared.inode.TheConstants.{ROOT_COUNT}
use Rattle.lfs_cache.specs.declared.key.Key.{Key}
use Rattle.lfs_cache.specs.Contents.{IsLocked}
use Rattle.lfs_log.specs.Parts as log
use Rattle.lfs_log.specs.Parts.{IsParts}
use Rattle.lfs_bmap.specs.Log.{Renews}
use Rattle.lfs_bmap.specs.Pieces.{IsPadded, file_bytes}
use Rattle.lfs_bmap.specs.Reading.{data_block}
use Rattle.lfs_bmap.specs.Ways.{data_way}
use Rattle.lfs_bmap.proofs.LogLemmas.{renewed_log}
use Rattle.lfs_bmap.proofs.PieceLemmas.{zero_block-at}
use Rattle.lfs_bmap.proofs.PlaceLemmas.{data_block-past}
use Rattle.lfs_parts.specs.declared.parts.Parts.{Parts}
use Rattle.lfs_parts.specs.declared.records.TheConstants.{WAITING_LIMIT}
use Rattle.lfs_staging.specs.Changing.{StaysInLog}
use Rattle.lfs_parts.specs.Files.{content_of, file_at}
use Rattle.lfs_parts.specs.Keys.{log_state}
use Rattle.lfs_staging.proofs.OtherNumbers.{KeepsOthers}
use Rattle.lfs_staging.specs.Staging.{IsStaged}
use Rattle.lfs_parts.specs.Store.{AreFiles, IsFile, IsPresent}
use Rattle.lfs_parts.specs.View.{record_of, root_in, tree_of, version_of, waiting_in}
use Rattle.lfs_parts.specs.Waiting.{AreOnce, without}
use Rattle.lfs_parts.proofs.FileLemmas.{file_at-some, free_place, get-content_of}
use Rattle.lfs_parts.proofs.KeyLemmas.{unused_nowhere}
use Rattle.lfs_staging.proofs.MakingLemmas.{all_nowhere, files_still, log_still, none_addressed, none_waits, other_file}
use Rattle.lfs_staging.proofs.MakingLemmas.{other_present, other_version, staged_still, stays_in_log, HasNoBlock}
use Rattle.lfs_parts.proofs.ReadLemmas.{data_block-read, no_bytes}
use Rattle.lfs_parts.proofs.ViewLemmas.{all_zeros}
use Rattle.lfs_parts.proofs.WaitingLemmas.{all_without, length-without, once_staged, waiting-staged}
use Rattle.lfs_bmap.specs.Blocks.{way_to}
use Rattle.lfs_segments.proofs.MemoryLemmas.{length-zero_block}

-- A number that was free is given out at a version: an empty file's record waits for it, with these attributes.
pub record GivesOutFile (number version : ℕ) (attrs : Attrs) (v : Inode) (old new : Parts) : Type 0 where
  pub memory : new.log.memory ≡ old.log.memory
  pub tables : new.log.tables ≡ with_row old.log.tables number (given_row version)
  pub clean : new.log.clean ≡ old.log.clean
  pub parts : IsParts new.log
  pub cache : new.cache ≡ old.cache
  pub waiting : new.waiting ≡ v ∷ without v.number old.waiting
  pub here : record_of new v.number ≡ Some (fields_of v)
  pub attributes : attributes v ≡ attributes_from number version attrs 0
  pub addresses : addresses v ≡ replicate ROOT_COUNT 0

module _ (number version : ℕ) (attrs : Attrs) (v : Inode) (old new : Parts)
    (h : GivesOutFile number version attrs v old new)
    (least : FIRST_INODE ≤ number) (low : number < length old.log.tables.rows)
    (free : (row_of old.log.tables number).used ≡ false) (files : AreFiles old) where
  own : v.number ≡ number
  own = ap (λ (a : Attributes). a.number) h.attributes

  given : row_of new.log.tables number ≡ given_row version
  given = ap (λ (t : Tables). row_of t number) h.tables
      ∙ get_or-set_same old.log.tables.rows number (given_row version) fresh_row low

  new_version : version_of new number ≡ version
  new_version = ap (λ (r : InodeRow). r.version) given

  record_here : record_of new number ≡ Some (fields_of v)
  record_here = ap (record_of new) (sym own) ∙ h.here

  keeps_others : KeepsOthers number old new
  keeps_others = record {
    memory = h.memory;
    states = ap (λ (t : Tables). t.states) h.tables;
    clean = h.clean;
    numbers = ap (λ (t : Tables). length t.rows) h.tables ∙ length-set old.log.tables.rows number (given_row version);
    rows = λ n other. ap (λ (t : Tables). row_of t n) h.tables
        ∙ get_or-set_other old.log.tables.rows number n (given_row version) fresh_row other;
    cache = h.cache;
    waiting = λ n other. ap (λ vs. waiting_in vs n) h.waiting ∙ waiting-staged v old.waiting n (λ e. other (e ∙ own));
  }

  -- ---- the number has no block
  no_frame : (key : Key) → IsLocked key old.cache → key.ino ≢ number
  no_frame key locked is = false≢true (sym free ∙ ap (λ n. (row_of old.log.tables n).used) (sym is)
      ∙ (files.frames key locked).in_use)

  no_block : HasNoBlock new number
  no_block = record {
    no_frame = λ key locked. no_frame key (subst (IsLocked key) h.cache locked);
    no_address = λ i. ap (λ r. slice_index (root_in r) i) record_here ∙ ap (λ xs. slice_index xs i) h.addresses
        ∙ slice_index-zeros 14 i;
  }

  zeros_at : (n : ℕ) → data_block (tree_of new number) n ≡ zero_block
  zeros_at n = elim (cases_lt n FILE_BLOCKS) [
    | inl inside ↦ data_block-read (tree_of new number) n inside
        ∙ all_zeros (tree_of new number) no_block.no_address (none_waits new number no_block) (data_way n)
    | inr past ↦ data_block-past (tree_of new number) n past
  ]

  padded : (size : ℕ) → IsPadded (data_block (tree_of new number)) size
  padded size = record {
    whole = λ n. ap length (zeros_at n) ∙ length-zero_block;
    zeros = λ i past. ap (λ b. slice_index b (i % 512)) (zeros_at (i / 512)) ∙ zero_block-at (i % 512);
  }

  file_here : IsFile new number (fields_of v)
  file_here = record {
    formed = AreFields-fields_of v;
    own_number = own;
    own_version = ap (λ (a : Attributes). a.version) h.attributes ∙ sym new_version;
    none_past = λ block is past. none_addressed new number no_block (way_to block);
    padded = padded v.size;
  }

  present_here : IsPresent new v.number v.version
  present_here = subst (λ n. IsPresent new n v.version) (sym own) (record {
    in_use = ap (λ (r : InodeRow). r.used) given;
    at_version = ap (λ (a : Attributes). a.version) h.attributes ∙ sym new_version;
  })

  -- ---- what waits
  present_before : (w : Inode) → IsPresent old w.number w.version → IsPresent new w.number w.version
  present_before w was =
      other_present number old new keeps_others w.number w.version
      (λ is. false≢true (sym free ∙ ap (λ n. (row_of old.log.tables n).used) (sym is) ∙ was.in_use)) was

  present : All (λ (w : Inode). IsPresent new w.number w.version) new.waiting
  present =
      subst (λ ws. All (λ (w : Inode). IsPresent new w.number w.version) ws) (sym h.waiting)
      (All-cons (λ (w : Inode). IsPresent new w.number w.version) v (without v.number old.waiting) present_here
      (all_without (λ (w : Inode). IsPresent new w.number w.version) old.waiting v.number
      (All-weaker (λ (w : Inode). IsPresent old w.number w.version)
      (λ (w : Inode). IsPresent new w.number w.version) present_before old.waiting files.records)))

  pub waiting_more : length new.waiting ≤ length old.waiting + 1
  waiting_more =
      let e : length new.waiting ≡ length (v ∷ without v.number old.waiting) =
      ap (λ (ws : List Inode). length ws) h.waiting in
      let fewer = length-without old.waiting v.number in
      omega arith

  files_new : AreFiles new
  files_new =
      files_still number old new keeps_others no_frame files h.parts
      (λ under other. absurd (omega (arith, least, under)))
      (λ used. ap is_some record_here)
      (λ f is. subst (IsFile new number) (same_Some (fields_of v) f (sym record_here ∙ is)) file_here)
      present
      (λ key bytes was is. false≢true (sym free ∙ ap (λ n. (row_of old.log.tables n).used) (sym is)
      ∙ was.present.in_use))

  -- ---- its version, and those of the others
  pub made_versions : version ≡ raised_version (version_of old number) → (n : ℕ)
      → version_of new n ≡ (if n == number then raised_version (version_of old n) else version_of old n)
  made_versions is n = elim (cases_eq n number) [
    | inl e ↦
        ap (version_of new) e ∙ new_version ∙ is ∙ ap (λ m. raised_version (version_of old m)) (sym e)
        ∙ sym (cond-true _ _ _ (eq-eqb n number e))
    | inr ne ↦ other_version number old new keeps_others n ne ∙ sym (cond-false _ _ _ (ne_eqb n number ne))
  ]

  -- ---- the log
  pub nothing_before : (code : ℕ) → (log_state old).at number code ≡ 0
  nothing_before code = unused_nowhere old number code (free_place old number free) low files

  nothing_after : (code : ℕ) → (log_state new).at number code ≡ 0
  nothing_after = all_nowhere new number no_block (ap (λ (r : InodeRow). r.address) given)

  pub made_log : StaysInLog old new
  made_log = stays_in_log number old new keeps_others nothing_after

  pub made_staged : IsStaged old 0 → Renews (log.log_state old.log (log_state old).at)
      (log.log_state new.log (log_state old).at) number
      → length old.waiting < WAITING_LIMIT → IsStaged new 0
  made_staged staged step few =
      let kept = renewed_log (log_state old) (log.log_state new.log (log_state old).at) 0 number staged.log step in
      staged_still number old new keeps_others no_frame staged files_new
      (log_still number old new keeps_others nothing_after (log_state old).at nothing_before (λ n c other. refl) kept)
      (subst AreOnce (sym h.waiting) (once_staged v old.waiting staged.once))
      (let more = waiting_more in omega arith)

  -- ---- the content
  no_data : (t : ℕ → List ℕ) → file_bytes t 0 ≡ []
  no_data t = no_bytes (file_bytes t 0) refl

  file_new : file_at new number ≡ Some (file_of attrs [])
  file_new =
      file_at-some new number (fields_of v) record_here
      ∙ ap (λ (a : Attributes). Some (file_of (stat_of a) (file_bytes (data_block (tree_of new number)) a.size)))
      h.attributes
      ∙ ap (λ bytes. Some (file_of (stat_of (attributes_from number version attrs 0)) bytes))
      (no_data (data_block (tree_of new number)))

  pub made_content : content_of new ≡ map.insert (content_of old) number (file_of attrs [])
  made_content = same_map nat_cmp_total nat_cmp-IsAntisymmetric (content_of new)
      (map.insert (content_of old) number (file_of attrs [])) (λ q. elim (cases_eq q number) [
        | inl is ↦ rw is (get-content_of new number ∙ file_new
            ∙ sym (get-insert_same (content_of old) number (file_of attrs [])))
        | inr other ↦
            get-content_of new q ∙ other_file number old new keeps_others q other ∙ sym (get-content_of old q)
            ∙ sym (get-insert_other (content_of old) number (file_of attrs []) q other)
      ])
