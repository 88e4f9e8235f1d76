-- Moving live bytes from one segment to another, and cleaning one, keep `IsParts` and are `Assigns` as keys see it
-- (`Assigns-parts`, `IsParts-moved`, `IsParts-reclaimed`, for `Log::place_record`, `move_live`, `reclaim`).
-- `live-gained` and `live-lost` turn bytes added to or taken from one segment into `weight_of` at every segment;
-- address 0 weighs nothing. A record's place has its slot besides, but the slot is below 4, so it weighs where its
-- address does (`weight-record`): five slots would reach into the next block.
use Rattle.std.proofs.Common.{◌≡◌, ◌≢◌, ℕ, ◌+◌, ◌-◌, ◌*◌, ◌/◌, ◌<◌, ◌≤◌, inl, inr, get_or, length, refl, sym, ap, subst}
use Rattle.std.proofs.Common.{◌∙◌, arith}
use Rattle.std.proofs.lemmas.Bool.{cases_eq, cond-false, cond-true, eq-eqb, ne_eqb}
use Rattle.lfs_ifile.specs.declared.inode.InodeRow.{InodeRow}
use Rattle.lfs_ifile.specs.declared.segment.SegState.TheVariants.{Clean, Dirty}
use Rattle.lfs_ifile.specs.Inode.{placed_row}
use Rattle.lfs_ifile.specs.Tables.{IsIfile, KeepsButLive, Tables, row_of, with_state}
use Rattle.lfs_segments.specs.Memory.{SegmentMemory, next_address}
use Rattle.lfs_bmap.specs.Log.{Assigns, clean_unit}
use Rattle.lfs_bmap.specs.Counting.{place_of, placed, units, weight_of}
use Rattle.lfs_bmap.proofs.CountingLemmas.{weight-elsewhere, weight-here, weight-none}
use Rattle.lfs_log.specs.Parts.{IsParts, LogParts, SameButLive, clean_count, live_of, log_state, record_place, state_of}
use Rattle.lfs_log.specs.Names.{named_at}
use Rattle.lfs_log.proofs.PartsLemmas.{clean_count-changed, clean_not_active, state_of-set, state_of-set_other}
use Rattle.lfs_bmap.proofs.LogLemmas.{dirty_not_active}

-- the segment of an address gains bytes
pub live-gained : (old new : Tables) (to code bytes : ℕ) → to ≢ 0 → bytes ≡ 128 * units code → live_of new (to / 64)
    ≡ live_of old (to / 64) + bytes → KeepsButLive (to / 64) old new
    → (s : ℕ) → live_of new s ≡ live_of old s + weight_of (place_of to) s code
live-gained old new to code bytes some size here kept s =
    elim (cases_eq s (to / 64)) [
      | inl e ↦
          let weight = weight-here (place_of to) s code (λ none. some (omega arith)) (omega arith) in
          let added : live_of new s ≡ live_of old s
          + bytes = subst (λ t. live_of new t ≡ live_of old t + bytes) (sym e) here in
          omega arith
      | inr ne ↦
          let weight = weight-elsewhere (place_of to) s code (λ e. ne (omega arith)) in
          let same : live_of new s ≡ live_of old s = kept.live s ne in
          omega arith
    ]

-- and loses them
pub live-lost : (old new : Tables) (from code bytes : ℕ) → from ≢ 0 → bytes ≡ 128 * units code
    → bytes ≤ live_of old (from / 64) → live_of new (from / 64) ≡ live_of old (from / 64) - bytes
    → KeepsButLive (from / 64) old new → (s : ℕ) → live_of new s + weight_of (place_of from) s code ≡ live_of old s
live-lost old new from code bytes some size had here kept s =
    elim (cases_eq s (from / 64)) [
      | inl e ↦
          let weight = weight-here (place_of from) s code (λ none. some (omega arith)) (omega arith) in
          let less : live_of new s + bytes ≡ live_of old s =
          subst (λ t. live_of new t + bytes ≡ live_of old t) (sym e) (omega arith) in
          omega arith
      | inr ne ↦
          let weight = weight-elsewhere (place_of from) s code (λ e. ne (omega arith)) in
          let same : live_of new s ≡ live_of old s = kept.live s ne in
          omega arith
    ]

-- without an address nothing changes
pub live-nowhere : (address segment code : ℕ) → address ≡ 0 → weight_of (place_of address) segment code ≡ 0
live-nowhere address segment code none = ap (λ (a : ℕ). weight_of (place_of a) segment code) none
    ∙ weight-none segment code

pub SameButLive-trans : (a b c : Tables) → SameButLive a b → SameButLive b c → SameButLive a c
SameButLive-trans a b c p q = record {
  segments = q.segments ∙ p.segments;
  states = q.states ∙ p.states;
  rows = q.rows ∙ p.rows;
  formed = q.formed;
}

-- the parts of a log are as well formed as they were
pub IsParts-moved : (p : LogParts) (tables : Tables) → IsParts p → length tables.live ≡ length p.tables.live
    → tables.states ≡ p.tables.states → IsIfile tables → IsParts (record p { tables = tables })
unfolding clean_count
IsParts-moved p tables h segments states formed = record {
  laid_out = h.laid_out;
  formed = formed;
  agree = segments ∙ h.agree;
  is_active = rw states h.is_active;
  no_other = rw states h.no_other;
  counted = rw states h.counted;
}

-- A key's place was changed, as the keys see it.
pub Assigns-parts : (p q : LogParts) (at : ℕ → ℕ → ℕ) (number code place : ℕ) → q.memory ≡ p.memory → q.tables.states
    ≡ p.tables.states → length q.tables.rows ≡ length p.tables.rows
    → ((n : ℕ) → (row_of q.tables n).version ≡ (row_of p.tables n).version) → q.clean ≡ p.clean
    → ((s : ℕ) → live_of q.tables s + weight_of (at number code) s code ≡ live_of p.tables s + weight_of place s code)
    → Assigns (log_state p at) (log_state q (placed at number code place)) number code place
Assigns-parts p q at number code place memory states inodes versions clean live = record {
  numbers = inodes;
  segments = ap (λ (m : SegmentMemory). m.segments) memory;
  places = λ n c low below. refl;
  versions = λ n low. versions n;
  end = record { active = ap (λ (m : SegmentMemory). m.active) memory; next = ap next_address memory };
  used = record { states = λ s below. ap (λ xs. get_or xs s Clean) states; clean = clean };
  live = λ s below. live s;
  owners = λ place. ap (λ (m : SegmentMemory). named_at m place) memory;
}

-- the versions of rows of which one was placed
pub versions-placed : (old new : Tables) (number address slot : ℕ) → row_of new number
    ≡ placed_row address slot (row_of old number)
    → ((other : ℕ) → other ≢ number → row_of new other ≡ row_of old other) → (n : ℕ) → (row_of new n).version
    ≡ (row_of old n).version
versions-placed old new number address slot here others n =
    elim (cases_eq n number) [
      | inl e ↦ ap (λ m. (row_of new m).version) e ∙ ap (λ (r : InodeRow). r.version) here
          ∙ ap (λ m. (row_of old m).version) (sym e)
      | inr ne ↦ ap (λ (r : InodeRow). r.version) (others n ne)
    ]

-- the place of a record weighs what its address does, whatever the slot
pub weight-record : (tables : Tables) (number s : ℕ) → (row_of tables number).slot < 4
    → weight_of (record_place tables number) s 0 ≡ weight_of (place_of (row_of tables number).address) s 0
unfolding record_place
weight-record tables number s low =
    let row = row_of tables number in
    elim (cases_eq row.address 0) [
      | inl e ↦ ap (λ p. weight_of p s 0) (cond-true _ _ _ (eq-eqb row.address 0 e))
          ∙ ap (λ (a : ℕ). weight_of (place_of a) s 0) (sym e)
      | inr ne ↦ ap (λ p. weight_of p s 0) (cond-false _ _ _ (ne_eqb row.address 0 ne))
          ∙ weight-slot row.address row.slot s 0 ne low
    ]
  where
    weight-slot : (address slot segment code : ℕ) → address ≢ 0 → slot < 4 → weight_of (4 * address + slot) segment code
        ≡ weight_of (place_of address) segment code
    weight-slot address slot segment code some low =
        elim (cases_eq (address / 64) segment) [
          | inl e ↦
              weight-here (4 * address + slot) segment code (λ none. some (omega arith)) (omega arith)
              ∙ sym (weight-here (place_of address) segment code (λ none. some (omega arith)) (omega arith))
          | inr ne ↦
              weight-elsewhere (4 * address + slot) segment code (λ e. ne (omega arith))
              ∙ sym (weight-elsewhere (place_of address) segment code (λ e. ne (omega arith)))
        ]

-- A dirty segment was made clean.
module _ (p : LogParts) (segment : ℕ) (h : IsParts p) (inside : segment < p.memory.segments)
    (dirty : state_of p.tables segment ≡ Dirty) where
  reclaimed_here : state_of (with_state p.tables segment Clean) segment ≡ Clean
  reclaimed_here = let states = h.formed.states_length in let agree = h.agree in
      state_of-set p.tables segment Clean (omega arith)

  reclaimed_apart : p.memory.active ≢ segment
  reclaimed_apart e = dirty_not_active (sym dirty ∙ ap (state_of p.tables) (sym e) ∙ h.is_active)

  pub IsParts-reclaimed : IsIfile (with_state p.tables segment Clean)
      → IsParts (record p { tables = with_state p.tables segment Clean; clean = p.clean + 1 })
  IsParts-reclaimed formed = record {
    laid_out = h.laid_out;
    formed = formed;
    agree = h.agree;
    is_active = state_of-set_other p.tables segment p.memory.active Clean reclaimed_apart ∙ h.is_active;
    no_other = λ s below active. elim (cases_eq s segment) [
      | inl e ↦ absurd (clean_not_active (sym reclaimed_here ∙ ap (state_of (with_state p.tables segment Clean)) (sym e)
          ∙ active))
      | inr apart ↦ h.no_other s below (sym (state_of-set_other p.tables segment s Clean apart) ∙ active)
    ];
    counted =
        let changed = clean_count-changed p.tables (with_state p.tables segment Clean) p.memory.segments segment inside
        (λ s below apart. ap clean_unit (state_of-set_other p.tables segment s Clean apart)) in
        let none : clean_unit (state_of p.tables segment) ≡ 0 = ap clean_unit dirty in
        let one : clean_unit (state_of (with_state p.tables segment Clean) segment)
        ≡ 1 = ap clean_unit reclaimed_here in
        let counted = h.counted in
        omega arith;
  }
