-- The parts of the log that is built are well formed: its memory (`laid`), its tables (`formed`), and both together
-- (`joined`). Its blocks are kept (`kept`). A log that is built of the same with the same live bytes is the same one
-- (`built_one`), and with other ones it has the same rows (`same_rows`) and, but for what is left over, the same blocks
-- (`same_kept`). It is what the memory tells, where the numbers that names lead to have records (`recovered_of`).
use Rattle.std.proofs.Common.{◌≡◌, ◌≢◌, ℕ, zero, suc, ◌+◌, ◌*◌, ◌/◌, ◌^◌, ◌<◌, ◌≤◌, inl, inr, Bool, true, false, List, []}
use Rattle.std.proofs.Common.{Option, None, Some, All, IsSome, get_or, length, refl, sym, ap, subst, ⊎_elim, ◌∙◌, arith}
use Rattle.std.proofs.lemmas.Bool.{cases_eq, cases_lt, cond-false, cond-true, eq-eqb, false≢true, ne_eqb}
use Rattle.std.proofs.lemmas.List.{ext_get_or, get_or_default}
use Rattle.lfs_ifile.specs.declared.inode.InodeRow.{InodeRow}
use Rattle.lfs_ifile.specs.declared.segment.SegState.{SegState}
use Rattle.lfs_ifile.specs.declared.segment.SegState.TheVariants.{Active, Clean, Dirty}
use Rattle.lfs_ifile.specs.Inode.{IsRow, fresh_row, place_in}
use Rattle.lfs_ifile.specs.Tables.{IsIfile, Tables, row_of}
use Rattle.lfs_inodes.proofs.FieldLemmas.{AreFields-fields_in}
use Rattle.lfs_inodes.specs.Slots.{slot_of}
use Rattle.lfs_segments.specs.Memory.{IsLaidOut, SegmentMemory, block_at, label, log_start, next_address, seen_with}
use Rattle.lfs_log.specs.Parts.{IsParts, LogParts, clean_count, live_of, state_of}
use Rattle.lfs_recovery.specs.declared.places.PartialSegment.{PartialSegment}
use Rattle.lfs_recovery.specs.declared.places.RecordPlace.{RecordPlace}
use Rattle.lfs_recovery.specs.Logs.{IsLogged, log_place}
use Rattle.lfs_recovery.specs.Newest.{IsNewest}
use Rattle.lfs_durable.proofs.ChainLemmas.{in_chain}
use Rattle.lfs_image.specs.Image.{IsLabelled}
use Rattle.lfs_rescue.specs.Building.{EndsOne, HaveRecords, IsBlockFrom, IsBuilt, IsFoundOf, IsZerosFrom, row_told}
use Rattle.lfs_rescue.specs.Building.{state_told, tables_of}
use Rattle.lfs_rescue.specs.Recovering.{AreGivenBack, AreKept, GoesOn, HasNewest, IsKept, IsLeftOver, IsRecovered}
use Rattle.lfs_rescue.specs.Recovering.{newest_version}

-- ---- the memory

-- a partial segment of a log lies in one segment
pub record StandsWithin (m : SegmentMemory) (p : PartialSegment) : Type 0 where
  pub below : p.address / 64 < m.segments
  pub high : p.address + p.count < (p.address / 64 + 1) * 64

in_segment : (segment x : ℕ) → segment * 64 ≤ x → x < (segment + 1) * 64 → x / 64 ≡ segment
in_segment segment x low high = omega arith

pub stands_within : (m : SegmentMemory) (p : PartialSegment) → IsLogged m p → StandsWithin m p
stands_within m p l =
    let c = in_chain m l.segment (log_place l.segment) 0 l.log p l.is.chain l.there in
    let low = c.low in
    let high = c.high in
    let below = l.below in
    let here = in_segment l.segment p.address (omega arith) (omega arith) in
    record { below = omega arith; high = omega arith }

start_low : (segment fill : ℕ) → 1 ≤ fill → log_start segment ≤ fill
start_low zero fill some = some
start_low (suc segment) fill some = omega arith

pub laid : (m : SegmentMemory) (blocks : List (List ℕ)) (active fill serial : ℕ) → IsLaidOut m
    → length blocks ≡ m.segments * 64 → All (λ block. length block ≡ 512) blocks → active < m.segments → 1 ≤ fill
    → fill ≤ 64 → 0 < serial → serial < 4294967296 → IsLaidOut (seen_with (Some serial) blocks active fill)
laid m blocks active fill serial is many each inside some few counted low =
    let least = is.at_least in
    let most = is.at_most in
    record {
      at_least = omega arith;
      at_most = omega arith;
      whole = omega arith;
      each = each;
      active = omega arith;
      begun = start_low active fill some;
      within = few;
      told = (counted, low);
    }

-- zeros begin in one place
one_from : (m : SegmentMemory) (last : PartialSegment) (live : List ℕ) (segment x one other : ℕ) → x / 64 ≡ segment
    → IsZerosFrom m last live segment one → IsZerosFrom m last live segment other → one ≤ x → other ≤ x
one_from m last live segment x one other here a b past = elim (cases_eq segment (last.address / 64)) [
  | inl active ↦ let first = a.active active in let second = b.active active in omega arith
  | inr apart ↦ elim (cases_eq (get_or live segment 0) 0) [
    | inl none ↦
        let end = a.empty apart none in
        let too = b.empty apart none in
        let from = end.from in
        ⊎_elim
        (λ (begins : other ≡ log_place segment). omega arith)
        (λ (ends : EndsOne m segment other).
        let before = end.past ends.0 ends.1.0 ends.1.1.0 in
        let at = ends.1.1.1 in
        omega arith)
        too.one
    | inr some ↦ let high = a.used apart some in absurd (omega arith)
  ]
]

-- ---- the tables

told_active : (s live : ℕ) → state_told s s live ≡ Active
told_active s live = cond-true _ _ _ (eq-eqb s s refl)

told_clean : (active s : ℕ) → s ≢ active → state_told active s 0 ≡ Clean
told_clean active s other = cond-false _ _ _ (ne_eqb s active other)

told_dirty : (active s live : ℕ) → s ≢ active → live ≢ 0 → state_told active s live ≡ Dirty
told_dirty active s live other some = cond-false _ _ _ (ne_eqb s active other) ∙ cond-false _ _ _ (ne_eqb live 0 some)

clean_active : Clean ≡ Active → ⊥
clean_active e = cc

dirty_active : Dirty ≡ Active → ⊥
dirty_active e = cc

dirty_clean : Dirty ≡ Clean → ⊥
dirty_clean e = cc

only_active : (active s live : ℕ) → state_told active s live ≡ Active → s ≡ active
only_active active s live is = elim (cases_eq s active) [
  | inl here ↦ here
  | inr other ↦ elim (cases_eq live 0) [
    | inl none ↦ absurd (clean_active (sym (told_clean active s other) ∙ ap (state_told active s) (sym none) ∙ is))
    | inr some ↦ absurd (dirty_active (sym (told_dirty active s live other some) ∙ is))
  ]
]

-- a row of what was found
row_formed : (m : SegmentMemory) (n : ℕ) (o : Option RecordPlace) (named : Bool) → IsNewest m n o → 0 < m.segments
    → (row_told o named).version < 2 ^ 32 → IsRow (64 * m.segments) (row_told o named)
row_formed m n None named is some low = record {
  address = omega arith;
  slot = omega arith;
  version = low;
  unused_address = λ _. refl;
  unused_slot = λ _. refl;
  given_out = λ e. absurd (false≢true e);
}
row_formed m n (Some r) false is some low = record {
  address = omega arith;
  slot = omega arith;
  version = low;
  unused_address = λ _. refl;
  unused_slot = λ _. refl;
  given_out = λ e. absurd (false≢true e);
}
row_formed m n (Some r) true is some low =
    let found = is.0 in
    let at = stands_within m found.segment found.logged in
    let below = at.below in
    let high = at.high in
    let place = found.address in
    let named = found.named in
    let own = found.version in
    let versioned = (AreFields-fields_in (slot_of (block_at m r.address) r.slot) found.fields found.read).versioned in
    record {
      address = omega arith;
      slot = found.slot;
      version = low;
      unused_address = λ e. absurd (false≢true (sym e));
      unused_slot = λ e. absurd (false≢true (sym e));
      given_out = λ _. omega arith;
    }

module _ (m : SegmentMemory) (last : PartialSegment) (places : List (Option RecordPlace)) (marks : List Bool)
    (inodes : ℕ) (f : IsFoundOf m last places marks inodes) where
  abbrev row_at : ℕ → InodeRow
  row_at n = row_told (get_or places n None) (get_or marks n false)

  pub formed : (live : List ℕ) (states : List SegState) (rows : List InodeRow) → length live ≡ m.segments
      → ((s : ℕ) → get_or live s 0 ≤ 32768) → length states ≡ length live → length rows ≡ inodes
      → ((n : ℕ) → n < inodes → get_or rows n fresh_row ≡ row_at n)
      → ((n : ℕ) → n < inodes → (get_or rows n fresh_row).version < 2 ^ 32) → IsIfile (tables_of live states rows)
  formed live states rows many few states_many rows_many told fits =
      let laid_out = f.laid_out in
      let at_least = laid_out.at_least in
      let at_most = laid_out.at_most in
      let least = f.least in
      let most = f.most in
      record {
        segments_least = omega arith;
        segments_most = omega arith;
        states_length = states_many;
        inodes_least = omega arith;
        inodes_most = omega arith;
        live_bytes = λ s d low. let same = get_or_default live s d 0 low in let small = few s in omega arith;
        each_row = λ n d low.
            let inside : n < inodes = omega arith in
            let is = told n inside in
            let short : (row_at n).version < 2 ^ 32 = subst (λ (r : InodeRow). r.version < 2 ^ 32) is (fits n inside) in
            let size : 64 * m.segments ≡ 64 * length live = omega arith in
            subst (λ (k : ℕ). IsRow k (get_or rows n d)) size
            (subst (IsRow (64 * m.segments)) (sym (get_or_default rows n d fresh_row low ∙ is))
            (row_formed m n (get_or places n None) (get_or marks n false) (f.newest n (omega arith)) (omega arith) short));
      }

  -- ---- both together
  pub joined : (memory : SegmentMemory) (live : List ℕ) (states : List SegState) (rows : List InodeRow)
      → IsLaidOut memory → memory.segments ≡ m.segments → length live ≡ m.segments
      → ((s : ℕ) → s < length live → get_or states s Clean ≡ state_told memory.active s (get_or live s 0))
      → IsIfile (tables_of live states rows)
      → IsParts (record {
        memory = memory;
        tables = tables_of live states rows;
        clean = clean_count (tables_of live states rows) memory.segments;
      })
  joined memory live states rows is same many told formed_ =
      let active = is.active in
      record {
        laid_out = is;
        formed = formed_;
        agree = many ∙ sym same;
        is_active = told memory.active (omega arith) ∙ told_active memory.active (get_or live memory.active 0);
        no_other = λ s low here. only_active memory.active s (get_or live s 0) (sym (told s (omega arith)) ∙ here);
        counted = refl;
      }

  -- ---- what is built
  module _ (live : List ℕ) (l : LogParts) (b : IsBuilt m last places marks inodes live l) where
    pub given_back : AreGivenBack l
    given_back s low other =
        let segments = b.segments in
        let is : state_of l.tables s ≡ state_told l.memory.active s (get_or live s 0) = b.states s (omega arith) in
        let bytes : live_of l.tables s ≡ get_or live s 0 = ap (λ (xs : List ℕ). get_or xs s 0) b.counts in (
          λ clean. elim (cases_eq (get_or live s 0) 0) [
            | inl none ↦ bytes ∙ none
            | inr some ↦ absurd (dirty_clean (sym (told_dirty l.memory.active s (get_or live s 0) other some) ∙ sym is ∙ clean))
          ],
          λ none. is ∙ ap (state_told l.memory.active s) (sym bytes ∙ none) ∙ told_clean l.memory.active s other,
        )

    pub none_clean : ((s : ℕ) → s < m.segments → get_or live s 0 ≢ 0) → (s : ℕ) → s < l.memory.segments
        → state_of l.tables s ≢ Clean
    none_clean full s low clean =
        let segments = b.segments in
        let inside : s < m.segments = omega arith in
        let is : state_of l.tables s ≡ state_told l.memory.active s (get_or live s 0) = b.states s inside in
        elim (cases_eq s l.memory.active) [
          | inl here ↦ absurd (clean_active (sym clean ∙ ap (state_of l.tables) here ∙ b.parts.is_active))
          | inr other ↦ absurd (dirty_clean (sym (told_dirty l.memory.active s (get_or live s 0) other (full s inside))
              ∙ sym is ∙ clean))
        ]

    -- zeros stand behind the logs of clean segments
    told_kept : (x from : ℕ) → x < m.segments * 64 → IsZerosFrom m last live (x / 64) from
        → IsBlockFrom m from x (block_at l.memory x) → IsKept m l x
    told_kept x from low is told =
        let segments = b.segments in
        let active = b.ends.active in
        let end = b.ends.end in
        let state : state_of l.tables (x / 64) ≡ state_told l.memory.active (x / 64) (get_or live (x / 64) 0) =
        b.states (x / 64) (omega arith) in
        record {
          same = λ ahead not_over. elim (cases_lt x from) [
            | inl before ↦ told.same before
            | inr past ↦ elim (cases_eq (x / 64) (last.address / 64)) [
              | inl here ↦ let at = is.active here in absurd (ahead (here ∙ sym active, omega arith))
              | inr apart ↦ elim (cases_eq (get_or live (x / 64) 0) 0) [
                | inl none ↦
                    let ends = is.empty apart none in
                    absurd (not_over (record {
                      clean = state ∙ ap (state_told l.memory.active (x / 64)) none
                          ∙ told_clean l.memory.active (x / 64) (λ e. apart (e ∙ active));
                      past = record {
                        from = let first = ends.from in omega arith;
                        past = λ q logged own. let before = ends.past q logged own in omega arith;
                      };
                    }))
                | inr some ↦ let high = is.used apart some in absurd (omega arith)
              ]
            ]
          ];
          zeros = λ behind.
              let at = is.active (behind.0 ∙ active) in let past = behind.1 in told.zeros (omega arith);
          wiped = λ over. elim (cases_eq (x / 64) (last.address / 64)) [
            | inl here ↦ absurd (clean_active (sym over.clean
                ∙ ap (state_of l.tables) (here ∙ sym active) ∙ b.parts.is_active))
            | inr apart ↦ elim (cases_eq (get_or live (x / 64) 0) 0) [
              | inl none ↦
                  let first = over.past.from in
                  told.zeros (⊎_elim
                  (λ (begins : from ≡ log_place (x / 64)). omega arith)
                  (λ (ends : EndsOne m (x / 64) from).
                  let before = over.past.past ends.0 ends.1.0 ends.1.1.0 in
                  let at = ends.1.1.1 in
                  omega arith)
                  (is.empty apart none).one)
              | inr some ↦ absurd (dirty_clean (sym (told_dirty l.memory.active (x / 64) (get_or live (x / 64) 0)
                  (λ e. apart (e ∙ active)) some) ∙ sym state ∙ over.clean))
            ]
          ];
        }

    pub kept : AreKept m l
    kept x low = let t = b.told x low in told_kept x t.from low t.is t.told

    pub labelled : IsLabelled l
    labelled =
        let laid_out = f.laid_out in
        let least = laid_out.at_least in
        let end = b.ends.end in
        let first : block_at l.memory 0 ≡ block_at m 0 =
        (kept 0 (omega arith)).same (λ behind. let past = behind.1 in absurd (omega arith))
        (λ over. let from = over.past.from in absurd (omega arith)) in
        first ∙ f.labelled ∙ ap (λ (s : ℕ). label s inodes) (sym b.segments)
        ∙ ap (label l.memory.segments) (sym b.many)

    -- ---- it is what the memory tells
    named_marked : (o : Option RecordPlace) (named : Bool) → IsSome (place_in (row_told o named)) → named ≡ true
    named_marked None named is = absurd (false≢true is)
    named_marked (Some r) true is = refl
    named_marked (Some r) false is = absurd (false≢true is)

    marked_named : (o : Option RecordPlace) (named : Bool) → named ≡ true → IsSome o → IsSome (place_in (row_told o named))
    marked_named None named is some = absurd (false≢true some)
    marked_named (Some r) true is some = refl
    marked_named (Some r) false is some = absurd (false≢true is)

    has_newest : (o : Option RecordPlace) (named : Bool) → HasNewest (place_in (row_told o named)) o
    has_newest None named = tt
    has_newest (Some r) true = (refl, (refl, refl))
    has_newest (Some r) false = tt

    has_version : (o : Option RecordPlace) (named : Bool) → (row_told o named).version ≡ newest_version o
    has_version None named = refl
    has_version (Some r) true = refl
    has_version (Some r) false = refl

    row_is : (n : ℕ) → n < length l.tables.rows → row_of l.tables n ≡ row_at n
    row_is n low = let many = b.many in b.rows n (omega arith)

    pub recovered_of : HaveRecords places marks inodes → IsRecovered m l
    recovered_of recorded = record {
      places = places;
      newest = f.newest;
      named = λ n low. (
        λ used. (f.reached n).0 (named_marked (get_or places n None) (get_or marks n false)
            (subst (λ (r : InodeRow). IsSome (place_in r)) (row_is n low) used)),
        λ way.
            let many = b.many in
            let marked = (f.reached n).1 way in
            subst (λ (r : InodeRow). IsSome (place_in r)) (sym (row_is n low))
            (marked_named (get_or places n None) (get_or marks n false) marked (recorded n (omega arith) marked)),
      );
      placed = λ n low. subst (λ (r : InodeRow). HasNewest (place_in r) (get_or places n None)) (sym (row_is n low))
          (has_newest (get_or places n None) (get_or marks n false));
      versions = λ n low. ap (λ (r : InodeRow). r.version) (row_is n low)
          ∙ has_version (get_or places n None) (get_or marks n false);
      last = last;
      logged = f.logged;
      latest = f.latest;
      counted = f.counted;
      ends = b.ends;
      segments = b.segments;
      given_back = given_back;
      kept = kept;
    }

  -- ---- the same rows
  module _ (one other : List ℕ) (l k : LogParts) (a : IsBuilt m last places marks inodes one l)
      (b : IsBuilt m last places marks inodes other k) where
    pub same_rows : l.tables.rows ≡ k.tables.rows
    same_rows =
        let many = a.many in
        let many_too = b.many in
        ext_get_or fresh_row l.tables.rows k.tables.rows (omega arith)
        (λ n low. a.rows n (omega arith) ∙ sym (b.rows n (omega arith)))

    goes_one : (o : Option ℕ) (serial : ℕ) → GoesOn o serial → o ≡ Some (serial + 1)
    goes_one None serial h = absurd h
    goes_one (Some next) serial h = ap Some h

    -- and the same end
    pub same_segments : l.memory.segments ≡ k.memory.segments
    same_segments = a.segments ∙ sym b.segments

    pub same_active : l.memory.active ≡ k.memory.active
    same_active = a.ends.active ∙ sym b.ends.active

    same_next : next_address l.memory ≡ next_address k.memory
    same_next = a.ends.end ∙ sym b.ends.end

    pub same_fill : l.memory.fill ≡ k.memory.fill
    same_fill = let active = same_active in let next = same_next in omega arith

    pub same_serial : l.memory.serial ≡ k.memory.serial
    same_serial = goes_one l.memory.serial last.serial a.ends.serial
        ∙ sym (goes_one k.memory.serial last.serial b.ends.serial)

    -- where neither has zeros in place of what is left over, the same blocks
    pub same_kept : (x : ℕ) → x < m.segments * 64 → (IsLeftOver m l x → ⊥) → (IsLeftOver m k x → ⊥)
        → block_at l.memory x ≡ block_at k.memory x
    same_kept x low not_over not_over_too =
        let first = kept one l a x low in
        let second = kept other k b x low in
        elim (cases_eq (x / 64) l.memory.active) [
          | inl here ↦ elim (cases_lt x (next_address l.memory)) [
            | inl before ↦
                let next = same_next in
                first.same (λ behind. let past = behind.1 in absurd (omega arith)) not_over
                ∙ sym (second.same (λ behind. let past = behind.1 in absurd (omega arith)) not_over_too)
            | inr past ↦
                let next = same_next in
                first.zeros (here, past) ∙ sym (second.zeros (here ∙ same_active, omega arith))
          ]
          | inr apart ↦ first.same (λ behind. apart behind.0) not_over
              ∙ sym (second.same (λ behind. apart (behind.0 ∙ sym same_active)) not_over_too)
        ]

  -- ---- one log
  module _ (live : List ℕ) (l k : LogParts) (a : IsBuilt m last places marks inodes live l)
      (b : IsBuilt m last places marks inodes live k) where
    same_block : (x : ℕ) → x < m.segments * 64 → block_at l.memory x ≡ block_at k.memory x
    same_block x low =
        let t = a.told x low in
        let u = b.told x low in
        elim (cases_lt x t.from) [
          | inl before ↦ elim (cases_lt x u.from) [
            | inl too ↦ t.told.same before ∙ sym (u.told.same too)
            | inr past ↦ let other = one_from m last live (x / 64) x u.from t.from refl u.is t.is past in absurd (omega arith)
          ]
          | inr past ↦ t.told.zeros past
              ∙ sym (u.told.zeros (one_from m last live (x / 64) x t.from u.from refl t.is u.is past))
        ]

    same_memory : l.memory ≡ k.memory
    same_memory =
        let many = a.parts.laid_out.whole in
        let many_too = b.parts.laid_out.whole in
        let size = a.segments in
        let size_too = b.segments in
        let segments = same_segments live live l k a b in
        let active = same_active live live l k a b in
        let fill = same_fill live live l k a b in
        let serial = same_serial live live l k a b in
        let blocks : l.memory.blocks ≡ k.memory.blocks =
        ext_get_or [] l.memory.blocks k.memory.blocks (omega arith) (λ x low. same_block x (omega arith)) in
        λ i. record {
          segments = segments i;
          active = active i;
          fill = fill i;
          serial = serial i;
          blocks = blocks i;
        }

  pub built_as : (one other : List ℕ) (l : LogParts) → one ≡ other → IsBuilt m last places marks inodes one l
      → IsBuilt m last places marks inodes other l
  built_as one other l same is = subst (λ (live : List ℕ). IsBuilt m last places marks inodes live l) same is

  pub built_one : (live : List ℕ) (l k : LogParts) → IsBuilt m last places marks inodes live l
      → IsBuilt m last places marks inodes live k → l ≡ k
  built_one live l k a b =
      let memory = same_memory live l k a b in
      let rows = same_rows live live l k a b in
      let bytes : l.tables.live ≡ k.tables.live = a.counts ∙ sym b.counts in
      let agree = a.parts.agree in
      let agree_too = b.parts.agree in
      let long = a.parts.formed.states_length in
      let long_too = b.parts.formed.states_length in
      let segments = a.segments in
      let segments_too = b.segments in
      let states : l.tables.states ≡ k.tables.states =
      ext_get_or Clean l.tables.states k.tables.states (omega arith)
      (λ s low. a.states s (omega arith)
      ∙ ap (λ (c : ℕ). state_told c s (get_or live s 0)) (ap (λ (n : SegmentMemory). n.active) memory)
      ∙ sym (b.states s (omega arith))) in
      let tables : l.tables ≡ k.tables = λ i. record { live = bytes i; states = states i; rows = rows i } in
      let clean : l.clean ≡ k.clean =
      a.parts.counted ∙ ap (λ (t : Tables). clean_count t l.memory.segments) tables
      ∙ ap (λ (n : SegmentMemory). clean_count k.tables n.segments) memory ∙ sym b.parts.counted in
      λ i. record { memory = memory i; tables = tables i; clean = clean i }
