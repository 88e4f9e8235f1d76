-- A number is taken back and its file leaves the content: `taken_staged`, `taken_content` and `removed_content`, for
-- `give_back` and `remove`. A file of size 0 has no block (`empty_no_block`), so its record's place is all that
-- goes; the key loses it and the number is renewed (`last_log`), and the other numbers stay by MakingLemmas. That is
-- why `remove` cuts the file first: live bytes of a block that is left would be counted for no key.
use Rattle.std.proofs.Common.{◌≡◌, ◌≢◌, ℕ, ◌+◌, ◌*◌, ◌/◌, ◌<◌, ◌≤◌, List, [], ◌∷◌, All, length, Option, None, Some}
use Rattle.std.proofs.Common.{true, refl, sym, ap, ◌∙◌, subst, inl, inr, arith}
use Rattle.std.specs.Prelude.{slice_index}
use Rattle.std.specs.Cmp.{nat_cmp_total}
use Rattle.std.specs.FinMap as map
use Rattle.std.specs.FinMap.{same_map, nat_cmp-IsAntisymmetric}
use Rattle.std.proofs.lemmas.Bool.{cases_eq, cases_lt, cond-false, cond-true, eq-eqb, ne_eqb, false≢true}
use Rattle.std.proofs.lemmas.List.{get_or-set_other, get_or-set_same, get_or_past}
use Rattle.std.proofs.lemmas.List.Elements.{All-cons}
use Rattle.std.proofs.lemmas.Option.{none-some}
use Rattle.lfs_types.specs.Splicing.{resized}
use Rattle.lfs_types.specs.Tree.{Content, File}
use Rattle.lfs_types.proofs.Maps.{get-remove_same, get-remove_other, get-insert_other}
use Rattle.lfs_types.specs.Changes.{changed_at}
use Rattle.lfs_ifile.specs.Inode.{fresh_row, released_row}
use Rattle.lfs_ifile.specs.Tables.{Tables, row_of, with_row}
use Rattle.lfs_inodes.specs.declared.inode.Inode.{Inode}
use Rattle.lfs_inodes.specs.Reading.{Fields}
use Rattle.lfs_cache.specs.declared.key.Key.{Key}
use Rattle.lfs_cache.specs.Contents.{IsLocked}
use Rattle.lfs_log.specs.Parts as log
use Rattle.lfs_log.specs.Parts.{LogParts, MayMoveLive, record_place}
use Rattle.lfs_bmap.specs.Counting.{placed}
use Rattle.lfs_bmap.specs.Log.{Assigns, IsLog, Renews}
use Rattle.lfs_bmap.proofs.CountingLemmas.{placed-code, placed-here, placed-number}
use Rattle.lfs_bmap.proofs.LogLemmas.{left_log, renewed_log}
use Rattle.lfs_bmap.proofs.SegmentLemmas.{left_fits}
use Rattle.lfs_bmap.specs.Reading.{address}
use Rattle.lfs_bmap.specs.Ways.{way_of}
use Rattle.lfs_parts.specs.declared.parts.Parts.{Parts}
use Rattle.lfs_staging.specs.Changing.{StaysInLog}
use Rattle.lfs_staging.specs.Cutting.{with_length}
use Rattle.lfs_parts.specs.Files.{content_of}
use Rattle.lfs_parts.specs.Keys.{log_state}
use Rattle.lfs_staging.proofs.OtherNumbers.{Forgets, KeepsOthers}
use Rattle.lfs_staging.specs.Staging.{IsStaged}
use Rattle.lfs_parts.specs.Store.{AreFiles, IsPresent}
use Rattle.lfs_parts.specs.View.{key_of, record_of, root_in, tree_of, version_of, waiting_in}
use Rattle.lfs_parts.specs.Waiting.{AreOnce, without}
use Rattle.lfs_parts.proofs.FileLemmas.{file_at-none, free_place, get-content_of}
use Rattle.lfs_parts.proofs.KeyLemmas.{place-record, placed_at}
use Rattle.lfs_staging.proofs.MakingLemmas.{all_nowhere, block_nowhere, files_still, log_still, none_addressed}
use Rattle.lfs_staging.proofs.MakingLemmas.{other_file, other_present, staged_still, stays_in_log, HasNoBlock}
use Rattle.lfs_parts.proofs.ViewLemmas.{record_of-unused}
use Rattle.lfs_parts.proofs.WaitingLemmas.{all_without, length-without, once_without, waiting-tail, waiting-head}
use Rattle.lfs_parts.proofs.WaitingLemmas.{waiting-without}
use Rattle.lfs_bmap.specs.Blocks.{code_of}
use Rattle.lfs_staging.proofs.ClearingLemmas.{some_fields}

-- ---- what waits of the other numbers
apart_none : (vs : List Inode) (number : ℕ) → waiting_in vs number ≡ None → All (λ (w : Inode). w.number ≢ number) vs
apart_none [] number none = λ k d low. absurd (omega arith)
apart_none (v ∷ vs) number none = elim (cases_eq v.number number) [
  | inl is ↦ absurd (none-some v (sym none ∙ waiting-head v vs number is))
  | inr ne ↦ All-cons (λ (w : Inode). w.number ≢ number) v vs ne
      (apart_none vs number (sym (waiting-tail v vs number ne) ∙ none))
]

pub apart_without : (vs : List Inode) (number : ℕ) → AreOnce vs
    → All (λ (w : Inode). w.number ≢ number) (without number vs)
unfolding without AreOnce
apart_without [] number once = λ k d low. absurd (omega arith)
apart_without (v ∷ vs) number once = elim (cases_eq v.number number) [
  | inl is ↦ subst (All (λ (w : Inode). w.number ≢ number)) (sym (cond-true _ _ _ (eq-eqb v.number number is)))
      (apart_none vs number (ap (waiting_in vs) (sym is) ∙ once.0))
  | inr ne ↦ subst (All (λ (w : Inode). w.number ≢ number)) (sym (cond-false _ _ _ (ne_eqb v.number number ne)))
      (All-cons (λ (w : Inode). w.number ≢ number) v (without number vs) ne (apart_without vs number once.1))
]

-- ---- an empty file has no block
module _ (p : Parts) (number : ℕ) (staged : IsStaged p 0) (low : number < length p.log.tables.rows)
    (used : (row_of p.log.tables number).used ≡ true)
    (empty : (f : Fields) → record_of p number ≡ Some f → f.attributes.size ≡ 0) where
  has_record : (f : Fields) × (record_of p number ≡ Some f)
  has_record = some_fields (record_of p number) (staged.whole.recorded number used)

  no_frame : (key : Key) → IsLocked key p.cache → key.ino ≢ number
  no_frame key locked is =
      let f = has_record.0 in
      let none = empty f has_record.1 in
      let version : key.version ≡ version_of p number = (staged.whole.frames key locked).at_version
      ∙ ap (version_of p) is in
      let at : (code : ℕ) → key.lbn.0 ≡ code → IsLocked (key_of number (version_of p number) code) p.cache
      = λ code same. subst (λ k. IsLocked k p.cache) (λ i. key_of (is i) (version i) (same i)) locked in
      let code = staged.whole.coded key locked in
      let inside = staged.within number code.block f has_record.1 code.is (at (code_of code.block) (sym code.coded)) in
      omega arith

  no_address : (i : ℕ) → slice_index (root_in (record_of p number)) i ≡ 0
  no_address i =
      let f = has_record.0 in
      let none = empty f has_record.1 in
      let formed = (staged.whole.files number f has_record.1).formed in
      ap (λ r. slice_index (root_in r) i) has_record.1 ∙ (elim (cases_lt i 14) [
        | inl inside ↦ formed.within i inside (omega arith)
        | inr past ↦ get_or_past f.addresses i 0 (omega (arith, formed.whole))
      ])

  pub empty_no_block : HasNoBlock p number
  empty_no_block = record { no_frame = no_frame; no_address = no_address }

  -- the live bytes of its record may be given back
  pub may_give : MayMoveLive p.log 0 (row_of p.log.tables number).address 0
  may_give =
      let parts = staged.whole.parts in
      let row = parts.formed.each_row number fresh_row low in
      let least = parts.formed.segments_least in
      let agree = parts.agree in
      let below = row.address in
      record {
        from_inside = omega arith;
        to_inside = omega arith;
        had = λ some.
            let at : (log_state p).at number 0 ≡ 4 * (row_of p.log.tables number).address
            + (row_of p.log.tables number).slot
            = place-record p number ∙ placed_at p.log.tables number some in
            let slot = row.slot in
            let fits = left_fits (log_state p) 0 number 0 staged.log
            (record { number_below = low; code_below = omega arith; somewhere = λ none. some (omega arith) }) in
            let seg : (log_state p).at number 0 / 256 ≡ (row_of p.log.tables number).address / 64 = omega arith in
            subst (λ s. 128 ≤ slice_index p.log.tables.live s) seg fits;
        fits = λ some. absurd (some refl);
      }

-- ---- it is taken back
module _ (number : ℕ) (old new : Parts) (h : Forgets number old new) (low : number < length old.log.tables.rows)
    (block : HasNoBlock old number) (staged : IsStaged old 0) where
  keeps_others : KeepsOthers number old new
  keeps_others = record {
    memory = h.memory;
    states = h.states;
    clean = h.clean;
    numbers = h.numbers;
    rows = h.rows;
    cache = h.cache;
    waiting = λ n other. ap (λ vs. waiting_in vs n) h.waiting ∙ waiting-without old.waiting number n other;
  }

  no_record : record_of new number ≡ None
  no_record = record_of-unused new number (free_place new number h.unused)

  no_block : HasNoBlock new number
  no_block = record {
    no_frame = λ key locked. block.no_frame key (subst (IsLocked key) h.cache locked);
    no_address = λ i. ap (λ r. slice_index (root_in r) i) no_record;
  }

  nothing_after : (code : ℕ) → (log_state new).at number code ≡ 0
  nothing_after = all_nowhere new number no_block h.unplaced

  pub taken_log : StaysInLog old new
  taken_log = stays_in_log number old new keeps_others nothing_after

  present : All (λ (w : Inode). IsPresent new w.number w.version) new.waiting
  present =
      subst (λ ws. All (λ (w : Inode). IsPresent new w.number w.version) ws) (sym h.waiting)
      (λ k d inside.
      other_present number old new keeps_others _ _ (apart_without old.waiting number staged.once k d inside)
      (all_without (λ (w : Inode). IsPresent old w.number w.version) old.waiting number staged.whole.records k d
      inside))

  files_new : AreFiles new
  files_new =
      files_still number old new keeps_others block.no_frame staged.whole h.parts (λ under other. h.unused)
      (λ used. absurd (false≢true (sym h.unused ∙ used)))
      (λ f is. absurd (none-some f (sym no_record ∙ is)))
      present
      (λ key bytes was is. was.somewhere (ap (λ n. address (tree_of old n) (way_of key.lbn.0)) is
      ∙ none_addressed old number block (way_of key.lbn.0)))

  pub taken_staged : (at : ℕ → ℕ → ℕ) → ((c : ℕ) → at number c ≡ 0)
      → ((n c : ℕ) → n ≢ number → at n c ≡ (log_state old).at n c)
      → IsLog (log.log_state new.log at) 0 → IsStaged new 0
  taken_staged at none others kept =
      staged_still number old new keeps_others block.no_frame staged files_new
      (log_still number old new keeps_others nothing_after at none others kept)
      (subst AreOnce (sym h.waiting) (once_without old.waiting number staged.once))
      (let fewer = length-without old.waiting number in
      let few = staged.few in
      let e : length new.waiting ≡ length (without number old.waiting) =
      ap (λ (ws : List Inode). length ws) h.waiting in
      omega arith)

  pub taken_content : content_of new ≡ map.remove (content_of old) number
  taken_content = same_map nat_cmp_total nat_cmp-IsAntisymmetric (content_of new) (map.remove (content_of old) number)
      (λ q. elim (cases_eq q number) [
        | inl is ↦ rw is (get-content_of new number ∙ file_at-none new number no_record
            ∙ sym (get-remove_same (content_of old) number))
        | inr other ↦
            get-content_of new q ∙ other_file number old new keeps_others q other ∙ sym (get-content_of old q)
            ∙ sym (get-remove_other (content_of old) number q other)
      ])

-- ---- the log, step by step: the record's place is given up, and the number is released
module _ (number : ℕ) (p : Parts) (between new : LogParts) (block : HasNoBlock p number) (staged : IsStaged p 0)
    (low : number < length p.log.tables.rows)
    (none : record_place between.tables number ≡ 0) where
  abbrev at_last : ℕ → ℕ → ℕ
  at_last = placed (log_state p).at number 0 (record_place between.tables number)

  pub last_none : (c : ℕ) → at_last number c ≡ 0
  last_none c = elim (cases_eq c 0) [
    | inl is ↦ ap (at_last number) is ∙ placed-here (log_state p).at number 0 (record_place between.tables number)
        ∙ none
    | inr other ↦ placed-code (log_state p).at number 0 (record_place between.tables number) number c other
        ∙ block_nowhere p number block c other
  ]

  pub last_others : (n c : ℕ) → n ≢ number → at_last n c ≡ (log_state p).at n c
  last_others n c other = placed-number (log_state p).at number 0 (record_place between.tables number) n c other

  pub last_log : Assigns (log_state p) (log.log_state between at_last) number 0 (record_place between.tables number)
      → Renews (log.log_state between at_last) (log.log_state new at_last) number → IsLog (log.log_state new at_last) 0
  last_log placed_ released =
      renewed_log (log.log_state between at_last) (log.log_state new at_last) 0 number
      (left_log (log_state p) (log.log_state between at_last) 0 number 0 staged.log low (omega arith)
      (subst (Assigns (log_state p) (log.log_state between at_last) number 0) none placed_))
      released

-- ---- the rows
pub released_other : (number : ℕ) (between new : LogParts) → new.tables
    ≡ with_row between.tables number (released_row (row_of between.tables number))
    → (n : ℕ) → n ≢ number → row_of new.tables n ≡ row_of between.tables n
released_other number between new released n other =
    ap (λ (t : Tables). row_of t n) released
    ∙ get_or-set_other between.tables.rows number n (released_row (row_of between.tables number)) fresh_row other

pub released_at : (number : ℕ) (between new : LogParts) → number < length between.tables.rows
    → new.tables ≡ with_row between.tables number (released_row (row_of between.tables number))
    → row_of new.tables number ≡ released_row (row_of between.tables number)
released_at number between new low released =
    ap (λ (t : Tables). row_of t number) released
    ∙ get_or-set_same between.tables.rows number (released_row (row_of between.tables number)) fresh_row low

-- ---- the content, from before the file was cut
pub removed_content : (number : ℕ) (c cut : Content) → cut ≡ with_length number 0 c → map.remove cut number
    ≡ map.remove c number
removed_content number c cut is = same_map nat_cmp_total nat_cmp-IsAntisymmetric (map.remove cut number)
    (map.remove c number) (λ q. elim (cases_eq q number) [
      | inl same ↦ rw same (get-remove_same cut number ∙ sym (get-remove_same c number))
      | inr other ↦
          get-remove_other cut number q other ∙ ap (λ (d : Content). map.get d q) is
          ∙ changed_other (map.get c number) q other ∙ sym (get-remove_other c number q other)
    ])
  where
    changed_other : (o : Option File) (q : ℕ) → q ≢ number
        → map.get (changed_at o number (λ f. record f { bytes = resized f.bytes 0 }) c) q ≡ map.get c q
    changed_other None q other = refl
    changed_other (Some f) q other = get-insert_other c number (record f { bytes = resized f.bytes 0 }) q other
