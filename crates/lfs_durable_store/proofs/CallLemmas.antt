-- What calls of a durable store come to: its base (`came_base`), its state (`came_state`), and that it can be found.
use Rattle.std.proofs.Common.{◌≡◌, ℕ, ◌∙◌, true, None, List, length, Result, Ok, Err, IfErr, refl, sym, ap, subst, inl}
use Rattle.std.proofs.Common.{inr, arith}
use Rattle.lfs_types.specs.StoreStates.{Applies, MayRefuse, MovesBase}
use Rattle.lfs_types.specs.declared.cleaner.BlockInfo.{BlockInfo}
use Rattle.lfs_types.specs.declared.cleaner.CleanFault.{CleanFault}
use Rattle.lfs_types.specs.declared.store.Change.{Change}
use Rattle.lfs_types.specs.declared.store.Reserve.{Reserve}
use Rattle.lfs_types.specs.declared.store.StoreRefusal.{StoreRefusal}
use Rattle.lfs_types.specs.declared.store.StoreRefusal.TheVariants.{NoSpace, NoMemory}
use Rattle.lfs_staging.proofs.StagedLemmas.{stays-refl}
use Rattle.lfs_parts.specs.declared.parts.Parts.{Parts}
use Rattle.lfs_parts.specs.Files.{content_of}
use Rattle.lfs_parts.specs.Store.{IsStore}
use Rattle.lfs_segments.specs.Memory.{SegmentMemory}
use Rattle.lfs_segwrite.specs.Applying.{WritesWaiting}
use Rattle.lfs_segwrite.specs.Finishing.{MarksAgain}
use Rattle.lfs_logstore.specs.Cleaning.{IsReclaimed, Reclaims}
use Rattle.lfs_logstore.specs.Gaining.{GainsRoom, GainsSpace}
use Rattle.lfs_logstore.specs.Marking.{WritesAgain}
use Rattle.lfs_logstore.specs.States.{shape_of, state_of}
use Rattle.lfs_durable.specs.Kept.{CanBeFound}
use Rattle.lfs_durable.proofs.KeptLemmas.{moves_can_be_found, same_can_be_found, writes_can_be_found}
use Rattle.lfs_durable_store.specs.declared.mark.Mark.{Mark}
use Rattle.lfs_durable_store.specs.Answering.{ComesTo, Settles, SettlesInPlace, mark_behind}
use Rattle.lfs_durable_store.specs.Keeping.{Durably, IsKept, durable_state, settled}
use Rattle.lfs_durable_store.specs.Surviving.{BehindIsLater, MarkIsLater}
use Rattle.lfs_durable_store.proofs.KeepLemmas.{kept_reclaimed, kept_written}
use Rattle.lfs_ifile.specs.Tables.{Tables}

-- a store that is its own base
pub own_base : (s : Durably) → s ≡ settled s.mark.turn s.store → content_of s.base ≡ content_of s.store
own_base s own = ap (λ (d : Durably). content_of d.base) own

-- its base contains what it does, and is told to be whole
pub own_told : (s : Durably) → s ≡ settled s.mark.turn s.store
    → (content_of s.base ≡ content_of s.store) × (s.mark.is_whole ≡ true)
own_told s own = (own_base s own, ap (λ (d : Durably). d.mark.is_whole) own)

mark_turn : (result : Result (Unit {0}) StoreRefusal) (m : Mark) → (mark_behind result m).turn ≡ m.turn
mark_turn (Ok done) m = refl
mark_turn (Err refusal) m = refl

module _ (old new : Durably) (changes : List Change) (by : Reserve) (result : Result (Unit {0}) StoreRefusal)
    (c : ComesTo old changes by result new) where
  -- the base before the changes
  before_base : content_of new.base ≡ content_of c.before.base → new.mark.turn ≡ c.before.mark.turn
      → MovesBase (durable_state old) (durable_state new)
  before_base same turn = elim c.first [
    | inl nothing ↦ inl (
      same ∙ ap (λ (d : Durably). content_of d.base) nothing.1,
      turn ∙ ap (λ (d : Durably). d.mark.turn) nothing.1,
    )
    | inr wrote ↦ inr (inl (
      same ∙ own_base c.before wrote.1.settles.base ∙ wrote.1.settles.written.content,
      turn ∙ wrote.2,
    ))
  ]

  pub came_base : MovesBase (durable_state old) (durable_state new)
  came_base = elim c.behind [
    | inl nothing ↦ before_base (ap (λ (d : Durably). content_of d.base) nothing.1)
        (ap (λ (d : Durably). d.mark.turn) nothing.1 ∙ mark_turn result c.before.mark)
    | inr wrote ↦ inr (inr (own_told new wrote.settles.base))
  ]

-- ---- the flush behind changes
-- what was written first is kept
pub settled_kept : (old new : Durably) → IsKept old → Settles old.store new → IsKept new
settled_kept old new k s = subst IsKept (sym s.base) (kept_written new.mark.turn old.store new.store k.found s.written)

-- it was written where the log ended
pub in_place : (old new : Durably) → IsKept old → Settles old.store new → SettlesInPlace old new
in_place old new k s = record {
  settles = s;
  clean = elim s.written.left [
    | inl here ↦ here.2
    | inr opened ↦ let short = opened.2 in let fits = k.fits in absurd (omega arith)
  ];
}

pub behind_is_later : BehindIsLater
behind_is_later old new changes by result c n k behind counted cut =
    let kept : IsKept c.before = elim c.first [
      | inl nothing ↦ subst IsKept (sym nothing.1) k
      | inr wrote ↦ settled_kept old c.before k wrote.1.settles
    ] in
    let content : content_of c.before.store ≡ content_of old.store = elim c.first [
      | inl nothing ↦ ap (λ (d : Durably). content_of d.store) nothing.1
      | inr wrote ↦ wrote.1.settles.written.content
    ] in
    let serial = ap (λ (m : SegmentMemory). m.serial) (sym c.stays.memory) ∙ counted.serial in
    record {
      before = c.before.store;
      store = subst IsStore (ap (λ (d : Durably). d.base) behind.own) kept.base_store;
      flushed = behind.flushed;
      found = kept.found;
      counted = record { next = counted.next; serial = serial; bound = counted.bound };
      content = content;
      staged = c.staged;
      stays = c.stays;
      cut = cut;
    }

pub mark_is_later : MarkIsLater
mark_is_later old new marks count m n k counted cut = record {
  before = m.between;
  store = m.written.store;
  flushed = m.written.flushed;
  found = writes_can_be_found old.store m.between m.written.log k.found;
  counted = counted;
  content = m.written.content;
  staged = m.between;
  stays = stays-refl m.between;
  cut = cut;
}

-- ---- states
pub written_shape : (p q : Parts) → WritesWaiting p q → (state_of q).shape ≡ (state_of p).shape
written_shape p q w = λ i. shape_of (w.log.numbers i) (w.log.segments i)

pub settled_state : (old new : Durably) → SettlesInPlace old new → state_of new.store ≡ state_of old.store
settled_state old new s =
    let w = s.settles.written in
    λ i. record {
      content = w.content i;
      clean = s.clean i;
      shape = shape_of (w.log.numbers i) (w.log.segments i);
      base = None;
    }

-- changes, and then what waits is written
pub written_applies : (old : Parts) (changes : List Change) (p q : Parts) → WritesWaiting p q
    → Applies (state_of old) changes (Ok tt) (state_of p) → Applies (state_of old) changes (Ok tt) (state_of q)
written_applies old changes p q w a = record {
  ok = w.content ∙ a.ok;
  err = tt;
  refused = tt;
  follows = record {
    clean = λ none. let less = w.log.clean in let before = a.follows.clean none in omega arith;
    shape = written_shape p q w ∙ a.follows.shape;
  };
  base = tt;
}

-- a refusal's cause is that of the log store
same_cause : (s : Durably) (result : Result (Unit {0}) StoreRefusal) → IfErr result (MayRefuse (state_of s.store))
    → IfErr result (MayRefuse (durable_state s))
same_cause s (Ok done) cause = tt
same_cause s (Err NoSpace) cause = cause
same_cause s (Err NoMemory) cause = cause

-- what a log store did, a durable one did over it, with its base
pub durable_applies : (old new : Durably) (changes : List Change) (result : Result (Unit {0}) StoreRefusal)
    → Applies (state_of old.store) changes result (state_of new.store)
    → MovesBase (durable_state old) (durable_state new)
    → Applies (durable_state old) changes result (durable_state new)
durable_applies old new changes result a base = record {
  ok = a.ok;
  err = a.err;
  refused = same_cause old result a.refused;
  follows = record { clean = a.follows.clean; shape = a.follows.shape };
  base = base;
}

-- ---- the cleaner's calls
pub marked_found : (old new : Parts) (marks : List BlockInfo) (result : Result ℕ CleanFault)
    → WritesAgain old marks result new → CanBeFound old → CanBeFound new
marked_found old new marks (Ok count) w found =
    let m : MarksAgain marks count old new = w.marked in
    writes_can_be_found m.between new m.again.log (writes_can_be_found old m.between m.written.log found)
marked_found old new marks (Err fault) w found =
    let written : WritesWaiting old new = w.refused in writes_can_be_found old new written.log found

pub gained_found : (old new : Parts) (result : Result (Unit {0}) CleanFault) → GainsRoom old result new → CanBeFound old
    → CanBeFound new
gained_found old new (Ok done) g found =
    let s : GainsSpace old new = g.gained in
    let between = writes_can_be_found old s.between s.written.log found in
    let emptied = moves_can_be_found s.between s.emptied s.empties.moved between in
    same_can_be_found s.emptied new s.reclaimed.memory (ap (λ (t : Tables). length t.rows) s.reclaimed.tables)
    s.reclaimed.ordered emptied
gained_found old new (Err fault) g found =
    let written : WritesWaiting old new = g.written in writes_can_be_found old new written.log found

pub reclaims_kept : (s : Durably) (segment : ℕ) (result : Result (Unit {0}) CleanFault) (p : Parts) → IsKept s
    → Reclaims s.store segment result p → IsKept (record { store = p; base = s.base; mark = s.mark })
reclaims_kept s segment (Ok done) p k r =
    let h : IsReclaimed s.store segment p = r.ok in kept_reclaimed s segment p k h
reclaims_kept s segment (Err fault) p k r =
    let same : p ≡ s.store = r.refused in
    subst (λ (q : Parts). IsKept (record { store = q; base = s.base; mark = s.mark })) (sym same) k
