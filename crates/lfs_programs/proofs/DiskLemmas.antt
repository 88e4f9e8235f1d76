-- How a talk on a disk begins: nothing waits in the store that started there (`started_on`), and the volume over it is as it
-- was asked for (`begun_fresh`, `begun_found`).
use Rattle.std.proofs.Common.{◌≡◌, ℕ, Bool, true, false, List, Result, Ok, Err, IfOk, IsSome, inl, inr, refl, sym, ap, subst}
use Rattle.lfs_types.specs.declared.store.Params.{Params}
use Rattle.lfs_parts.specs.Store.{IsFlushed}
use Rattle.lfs_durable_store.specs.Keeping.{Durably, IsKept}
use Rattle.lfs_disk_store.specs.Keeping.{IsOnDisk, OnDisk, disk_state}
use Rattle.lfs_disk_start.specs.Starting.{IsFoundOn, IsLaidOutBy, IsStarted}
use Rattle.lfs_stands.specs.Stands.{disk_stand}
use Rattle.lfs_stands.proofs.FitLemmas.{fresh_flushed}
use Rattle.lfs_volume.specs.Seen.{Seen}
use Rattle.lfs_programs.specs.Volumes.{IsAsAsked, IsBegun, IsFresh, IsOfDisk}
use Rattle.lfs_programs.specs.declared.options.ShellOptions.{ShellOptions}

module _ {D : Type 0} (seen : D → List (List ℕ)) (may_leave : D → List (List ℕ) → Type 0) (time : D → ℕ)
    (left_since : D → ℕ → List (List ℕ) → Type 0) where
  started_flushed : (params : Params) (is_found : Bool) (s : OnDisk D) → (is_found ≡ false → IsLaidOutBy params s.store)
      → (is_found ≡ true → IsFoundOn seen may_leave time left_since params.frames s) → IsFlushed s.store.store
  started_flushed params true s made found = let f = found refl in f.found.still
  started_flushed params false s made found = let m = made refl in fresh_flushed params true s.store.store m.laid_out

  pub started_on : (params : Params) (is_found : Bool) (s : OnDisk D)
      → IsStarted seen may_leave time left_since params is_found s → IsOnDisk s
  started_on params is_found s started = record {
    settled = record {
      flushed = started_flushed params is_found s started.made started.found;
      whole = ap (λ (d : Durably). d.mark.is_whole) started.own;
    };
    sound = started.sound;
  }

-- a volume over a store that started so
module _ {D : Type 0} (options : ShellOptions) (s : OnDisk D) (kept : IsKept s.store) (on : IsOnDisk s)
    (asked : IsSome options.disk) where
  begun : (v : Seen (OnDisk D)) → v.store ≡ s → IsAsAsked disk_state disk_stand options v
      → IsBegun disk_state disk_stand options v
  begun v is begins =
      (subst (λ (t : OnDisk D). IsKept t.store × IsOnDisk t) (sym is) (kept, on), begins)

  pub begun_fresh : {E : Type 0} (made : Result (Seen (OnDisk D)) E) → IfOk made (λ v. v.store ≡ s)
      → IfOk made (IsFresh disk_state disk_stand true options) → IfOk made (IsBegun disk_state disk_stand options)
  begun_fresh (Ok v) is fresh = begun v is (inr (inr (asked, inl fresh)))
  begun_fresh (Err fault) is fresh = tt

  pub begun_found : {E : Type 0} (made : Result (Seen (OnDisk D)) E) → IfOk made (λ v. v.store ≡ s)
      → IfOk made (IsOfDisk disk_stand options) → IfOk made (IsBegun disk_state disk_stand options)
  begun_found (Ok v) is found = begun v is (inr (inr (asked, inr found)))
  begun_found (Err fault) is found = tt
