-- What holds of the state of a durable store holds of that on a disk, which only may refuse more (`shared_applies`,
-- `shared_follows`, `check_shown`). Whether there is a fault decides what it is (`none_of`,
-- `some_of`).
use Rattle.std.proofs.Common.{◌≡◌, ◌∙◌, Bool, true, false, List, Option, None, Some, Result, Ok, Err, IfErr, IfOk, inr}
use Rattle.std.proofs.Common.{IsSome, is_some, refl, sym, ap}
use Rattle.std.proofs.lemmas.Bool.{false≢true}
use Rattle.lfs_types.specs.StoreStates.{Applies, Follows, MayRefuse, Shape}
use Rattle.lfs_types.specs.declared.store.Change.{Change}
use Rattle.lfs_types.specs.declared.store.StoreRefusal.{StoreRefusal}
use Rattle.lfs_types.specs.declared.store.StoreRefusal.TheVariants.{NoMemory, NoSpace}
use Rattle.lfs_calls.specs.Volumes.{HasWorld}
use Rattle.lfs_durable_store.specs.Keeping.{durable_state}
use Rattle.lfs_disk_store.specs.Keeping.{OnDisk, disk_state}

pub none_of : {A : Type 0} (fault : Option A) (is : Bool) → is ≡ is_some fault → is ≡ false → fault ≡ None
none_of None is same never = refl
none_of (Some cause) is same never = absurd (false≢true (sym never ∙ same))

pub some_of : {A : Type 0} (fault : Option A) (is : Bool) → is ≡ is_some fault → is ≡ true → IsSome fault
some_of fault is same there = sym same ∙ there

module _ {D : Type 0} where
  may_refuse : (s : OnDisk D) (refusal : StoreRefusal) → MayRefuse (durable_state s.store) refusal
      → MayRefuse (disk_state s) refusal
  may_refuse s NoSpace may = inr refl
  may_refuse s NoMemory may = may

  refused_also : {A : Type 0} (s : OnDisk D) (result : Result A StoreRefusal)
      → IfErr result (MayRefuse (durable_state s.store)) → IfErr result (MayRefuse (disk_state s))
  refused_also s (Ok done) may = tt
  refused_also s (Err refusal) may = may_refuse s refusal may

  pub shared_follows : (old new : OnDisk D) → Follows (durable_state old.store) (durable_state new.store)
      → Follows (disk_state old) (disk_state new)
  shared_follows old new follows = record {
    clean = λ none. absurd (false≢true (sym none));
    shape = ap (λ (s : Shape). record s { has_share = true }) follows.shape;
  }

  pub shared_applies : (old new : OnDisk D) (changes : List Change) (result : Result (Unit {0}) StoreRefusal)
      → Applies (durable_state old.store) changes result (durable_state new.store)
      → Applies (disk_state old) changes result (disk_state new)
  shared_applies old new changes result applies = record {
    ok = applies.ok;
    err = applies.err;
    refused = refused_also old result applies.refused;
    follows = shared_follows old new applies.follows;
    base = applies.base;
  }

  world_also : (s : OnDisk D) → HasWorld (disk_state s) → HasWorld (durable_state s.store)
  world_also s h = (h.0, record { shows = h.1.shows; tree = h.1.tree })

  pub check_shown : {A E : Type 0} (s : OnDisk D) (told : A → Type 0) (result : Result A E)
      → IfOk result (λ a. HasWorld (durable_state s.store) → told a) → IfOk result (λ a. HasWorld (disk_state s) → told a)
  check_shown s told (Ok a) holds = λ h. holds (world_also s h)
  check_shown s told (Err fault) holds = tt
