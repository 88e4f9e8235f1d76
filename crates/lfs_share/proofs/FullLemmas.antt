-- A store that has no room for changes that may use what is kept back is full for them, for `telling::apply_or_gain`.
use Rattle.std.proofs.Common.{◌≡◌, ◌≤◌, Bool, false, true, List, Result, Ok, Err, OnErr, arith, inl, inr}
use Rattle.std.specs.Result.{is_ok}
use Rattle.std.proofs.lemmas.Bool.{cases_lt}
use Rattle.lfs_types.specs.declared.store.Change.{Change}
use Rattle.lfs_types.specs.declared.store.Reserve.{Reserve}
use Rattle.lfs_types.specs.declared.store.StoreRefusal.{StoreRefusal}
use Rattle.lfs_parts.specs.declared.parts.Parts.{Parts}
use Rattle.lfs_segwrite.specs.Applying.{HasRoomFor, may_use_reserve}
use Rattle.lfs_logstore.specs.States.{state_of}
use Rattle.lfs_share.specs.Telling.{IsFullFor}

few_clean : (by : Reserve) (changes : List Change) (p : Parts)
    → may_use_reserve by (state_of p).content changes ≡ true → (HasRoomFor by changes p → ⊥) → p.log.clean ≤ 1
few_clean by changes p may not = elim (cases_lt 1 p.log.clean) [
  | inl some ↦ absurd (not (inr (may, inl some)))
  | inr few ↦ omega arith
]

full_for : (by : Reserve) (changes : List Change) (p : Parts)
    → may_use_reserve by (state_of p).content changes ≡ true → (HasRoomFor by changes p → ⊥) → IsFullFor by changes p
full_for by changes p may not = record {
  few = few_clean by changes p may not;
  unfinished = λ segment leaves. not (inr (may, inr (segment, leaves)));
}

-- the changes were refused, so there was no room
pub refused_full : (by : Reserve) (changes : List Change) (p : Parts) (result : Result (Unit {0}) StoreRefusal) (told : Bool)
    → may_use_reserve by (state_of p).content changes ≡ true → OnErr result (HasRoomFor by changes p → ⊥)
    → told ≡ is_ok result → told ≡ false → IsFullFor by changes p
refused_full by changes p (Ok done) told may not value fails = absurd (cc)
refused_full by changes p (Err fault) told may not value fails = full_for by changes p may not

-- and nothing changed
pub refused_same : (old new : Parts) (result : Result (Unit {0}) StoreRefusal) (told : Bool) → OnErr result (new ≡ old)
    → told ≡ is_ok result → told ≡ false → new ≡ old
refused_same old new (Ok done) told same value fails = absurd (cc)
refused_same old new (Err fault) told same value fails = same
