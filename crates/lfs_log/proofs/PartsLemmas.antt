-- `IsParts` holds of a new log and behind an opening (`IsParts-fresh`, `IsParts-opened`, for `Log::format` and
-- `activate`), and gives `AreSegments` (`AreSegments-kept`). An opening changes two states, the opened segment to
-- active and the last active one to dirty; only the first was clean, so the count of clean segments falls by one
-- (`clean_count-changed`). A third state that counts as clean, or a segment opened that was not clean, would break
-- `opened_count`.
use Rattle.std.proofs.Common.{◌≡◌, ◌≢◌, ℕ, zero, suc, ◌+◌, ◌-◌, ◌<◌, ◌≤◌, inl, inr, Option, length, refl, sym, ap, ◌∙◌}
use Rattle.std.proofs.Common.{arith}
use Rattle.std.proofs.lemmas.Bool.{cases_eq}
use Rattle.std.proofs.lemmas.List.{get_or-replicate, get_or-set_other, get_or-set_same, length-replicate, length-set}
use Rattle.lfs_ifile.specs.declared.segment.SegState.{SegState}
use Rattle.lfs_ifile.specs.declared.segment.SegState.TheVariants.{Clean, Dirty, Active}
use Rattle.lfs_ifile.specs.Tables.{IsIfile, Tables, fresh_tables, with_state}
use Rattle.lfs_segments.specs.Memory.{IsLaidOut, fresh_with, opened}
use Rattle.lfs_bmap.specs.Counting.{total}
use Rattle.lfs_bmap.specs.Log.{AreSegments, clean_unit}
use Rattle.lfs_bmap.proofs.CountingLemmas.{total-changed, total-part}
use Rattle.lfs_log.specs.Parts.{IsParts, LogParts, clean_count, fresh_parts, fresh_parts_with, log_state, opened_parts}
use Rattle.lfs_log.specs.Parts.{state_of}
use Rattle.lfs_bmap.proofs.LogLemmas.{active_not_clean, dirty_not_active}
use Rattle.lfs_bmap.proofs.SegmentLemmas.{no_clean_total}

-- the states with one changed
pub state_of-set : (tables : Tables) (segment : ℕ) (state : SegState) → segment < length tables.states
    → state_of (with_state tables segment state) segment ≡ state
state_of-set tables segment state inside = get_or-set_same tables.states segment state Clean inside

pub state_of-set_other : (tables : Tables) (segment other : ℕ) (state : SegState) → other ≢ segment
    → state_of (with_state tables segment state) other ≡ state_of tables other
state_of-set_other tables segment other state apart = get_or-set_other tables.states segment other state Clean apart

-- The count of clean segments where one state was changed.
pub clean_count-changed : (old new : Tables) (n segment : ℕ) → segment < n
    → ((s : ℕ) → s < n → s ≢ segment → clean_unit (state_of new s) ≡ clean_unit (state_of old s))
    → clean_count new n + clean_unit (state_of old segment) ≡ clean_count old n + clean_unit (state_of new segment)
unfolding clean_count
clean_count-changed old new n segment inside same =
    total-changed (λ s. clean_unit (state_of new s)) (λ s. clean_unit (state_of old s)) n segment inside same

pub clean_count-part : (tables : Tables) (n segment : ℕ) → segment < n → state_of tables segment ≡ Clean
    → 0 < clean_count tables n
unfolding clean_count
clean_count-part tables n segment inside clean =
    let part = total-part (λ s. clean_unit (state_of tables s)) n segment inside in
    let one : clean_unit (state_of tables segment) ≡ 1 = ap clean_unit clean in
    omega arith

-- all are clean
clean_count-all : (tables : Tables) (n : ℕ) → ((s : ℕ) → s < n → state_of tables s ≡ Clean) → clean_count tables n ≡ n
unfolding clean_count total
clean_count-all tables zero all = refl
clean_count-all tables (suc n) all =
    let one : clean_unit (state_of tables n) ≡ 1 = ap clean_unit (all n (omega arith)) in
    let rest = clean_count-all tables n (λ s below. all s (omega arith)) in
    omega arith

-- at most all are clean
pub clean_count-most : (tables : Tables) (n : ℕ) → clean_count tables n ≤ n
unfolding clean_count total
clean_count-most tables zero = omega arith
clean_count-most tables (suc n) =
    let rest : total (λ s. clean_unit (state_of tables s)) n ≤ n = clean_count-most tables n in
    let one = one_at_most (state_of tables n) in
    omega arith
  where
    one_at_most : (state : SegState) → clean_unit state ≤ 1
    one_at_most Clean = omega arith
    one_at_most Dirty = omega arith
    one_at_most Active = omega arith

-- none is clean
pub clean_count-none : (tables : Tables) (n : ℕ) → ((s : ℕ) → s < n → state_of tables s ≢ Clean) → clean_count tables n
    ≡ 0
unfolding clean_count
clean_count-none tables n none = no_clean_total (state_of tables) n none

-- how the segments stand, for any places of the keys
pub AreSegments-kept : (p : LogParts) (at : ℕ → ℕ → ℕ) → IsParts p → AreSegments (log_state p at)
unfolding clean_count
AreSegments-kept p at h = record {
  inside = h.laid_out.active;
  is_active = h.is_active;
  no_other = h.no_other;
  from = omega arith;
  to = let within = h.laid_out.within in omega arith;
  clean_count = h.counted;
}

pub clean_not_active : Clean ≡ Active → ⊥
clean_not_active e = cc

-- A new log.
module _ (segments inodes : ℕ) (some : 6 ≤ segments) where
  fresh_state : (s : ℕ) → s < segments → s ≢ 0 → state_of (fresh_parts segments inodes).tables s ≡ Clean
  fresh_state s below other =
      state_of-set_other (fresh_tables segments inodes) 0 s Active other ∙ get_or-replicate segments s Clean Clean below

  fresh_active : state_of (fresh_parts segments inodes).tables 0 ≡ Active
  fresh_active = let long = length-replicate segments Clean in
      state_of-set (fresh_tables segments inodes) 0 Active (omega arith)

  fresh_count : segments - 1 ≡ clean_count (fresh_parts segments inodes).tables segments
  fresh_count =
      let old = fresh_tables segments inodes in
      let new = (fresh_parts segments inodes).tables in
      let changed = clean_count-changed old new segments 0 (omega arith)
      (λ s below other. ap clean_unit (state_of-set_other old 0 s Active other)) in
      let all = clean_count-all old segments (λ s below. get_or-replicate segments s Clean Clean below) in
      let one : clean_unit (state_of old 0) ≡ 1 =
      ap clean_unit (get_or-replicate segments 0 Clean Clean (omega arith)) in
      let none : clean_unit (state_of new 0) ≡ 0 = ap clean_unit fresh_active in
      omega arith

  pub IsParts-fresh : (serial : Option ℕ) → IsLaidOut (fresh_with serial segments inodes)
      → IsIfile (fresh_parts segments inodes).tables → IsParts (fresh_parts_with serial segments inodes)
  IsParts-fresh serial laid formed = record {
    laid_out = laid;
    formed = formed;
    agree = length-replicate segments 0;
    is_active = fresh_active;
    no_other = λ s below active. elim (cases_eq s 0) [
      | inl e ↦ e
      | inr ne ↦ absurd (clean_not_active (sym (fresh_state s below ne) ∙ active))
    ];
    counted = fresh_count;
  }

-- A clean segment that is opened.
module _ (p : LogParts) (segment : ℕ) (h : IsParts p) (inside : segment < p.memory.segments)
    (clean : state_of p.tables segment ≡ Clean) where
  opened_apart : segment ≢ p.memory.active
  opened_apart e = active_not_clean (sym h.is_active ∙ ap (state_of p.tables) (sym e) ∙ clean)

  pub opened_active : state_of (opened_parts p segment).tables segment ≡ Active
  opened_active =
      let long = length-set p.tables.states p.memory.active Dirty in
      let states = h.formed.states_length in
      let agree = h.agree in
      state_of-set (with_state p.tables p.memory.active Dirty) segment Active (omega arith)

  pub opened_dirty : state_of (opened_parts p segment).tables p.memory.active ≡ Dirty
  opened_dirty =
      let states = h.formed.states_length in
      let agree = h.agree in
      let active = h.laid_out.active in
      state_of-set_other (with_state p.tables p.memory.active Dirty) segment p.memory.active Active
      (λ e. opened_apart (sym e))
      ∙ state_of-set p.tables p.memory.active Dirty (omega arith)

  pub opened_other : (s : ℕ) → s ≢ segment → s ≢ p.memory.active → state_of (opened_parts p segment).tables s
      ≡ state_of p.tables s
  opened_other s apart other =
      state_of-set_other (with_state p.tables p.memory.active Dirty) segment s Active apart
      ∙ state_of-set_other p.tables p.memory.active s Dirty other

  opened_unit : (s : ℕ) → s ≢ segment → clean_unit (state_of (opened_parts p segment).tables s)
      ≡ clean_unit (state_of p.tables s)
  opened_unit s apart = elim (cases_eq s p.memory.active) [
    | inl e ↦
        ap (λ t. clean_unit (state_of (opened_parts p segment).tables t)) e ∙ ap clean_unit opened_dirty
        ∙ sym (ap (λ t. clean_unit (state_of p.tables t)) e ∙ ap clean_unit h.is_active)
    | inr ne ↦ ap clean_unit (opened_other s apart ne)
  ]

  pub opened_some : 0 < p.clean
  opened_some = let counted = h.counted in let part =
      clean_count-part p.tables p.memory.segments segment inside clean in omega arith

  opened_count : p.clean - 1 ≡ clean_count (opened_parts p segment).tables p.memory.segments
  opened_count =
      let changed = clean_count-changed p.tables (opened_parts p segment).tables p.memory.segments segment inside
      (λ s below apart. opened_unit s apart) in
      let one : clean_unit (state_of p.tables segment) ≡ 1 = ap clean_unit clean in
      let none : clean_unit (state_of (opened_parts p segment).tables segment) ≡ 0 = ap clean_unit opened_active in
      let counted = h.counted in
      omega arith

  pub IsParts-opened : IsLaidOut (opened p.memory segment) → IsIfile (opened_parts p segment).tables
      → IsParts (opened_parts p segment)
  IsParts-opened laid formed = record {
    laid_out = laid;
    formed = formed;
    agree = h.agree;
    is_active = opened_active;
    no_other = λ s below active. elim (cases_eq s segment) [
      | inl e ↦ e
      | inr apart ↦ elim (cases_eq s p.memory.active) [
        | inl e ↦ absurd (dirty_not_active (sym opened_dirty ∙ ap (state_of (opened_parts p segment).tables) (sym e)
            ∙ active))
        | inr other ↦ absurd (other (h.no_other s below (sym (opened_other s apart other) ∙ active)))
      ]
    ];
    counted = opened_count;
  }

-- one more segment is counted
pub clean_count-first : (tables : Tables) → clean_count tables 0 ≡ 0
unfolding clean_count total
clean_count-first tables = refl

pub clean_count-more : (tables : Tables) (n : ℕ) → clean_count tables (n + 1) ≡ clean_unit (state_of tables n)
    + clean_count tables n
unfolding clean_count total
clean_count-more tables n = let one : n + 1 ≡ suc n = omega arith in rw one refl
