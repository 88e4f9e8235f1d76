-- What calls of a durable store on a disk come to: where it is written out once (`settles_on_disk`), and where it is
-- twice (`comes_on_disk`, `marks_on_disk`). Each time the disk can follow (`ahead`).
use Rattle.std.proofs.Common.{◌≡◌, ℕ, ◌∙◌, Bool, List, Option, None, IsSome, Result, inl, inr, sym, ap, subst}
use Rattle.lfs_types.specs.declared.cleaner.BlockInfo.{BlockInfo}
use Rattle.lfs_types.specs.declared.cleaner.CleanFault.{CleanFault}
use Rattle.lfs_types.specs.declared.store.Change.{Change}
use Rattle.lfs_types.specs.declared.store.Reserve.{Reserve}
use Rattle.lfs_types.specs.declared.store.StoreRefusal.{StoreRefusal}
use Rattle.lfs_segments.specs.Memory.{SegmentMemory}
use Rattle.lfs_parts.specs.Files.{content_of}
use Rattle.lfs_parts.specs.Store.{IsStore}
use Rattle.lfs_durable.specs.Runs.{IsCounted}
use Rattle.lfs_disk.specs.declared.fault.DiskFault.{DiskFault}
use Rattle.lfs_disk.specs.declared.mirror.Mirror.{Mirror}
use Rattle.lfs_disk.specs.Disk.{LeavesOnly}
use Rattle.lfs_disk.specs.Mirroring.{FollowsOn, IsBlankBehind, IsOldOrNew, disk_of, memory_of}
use Rattle.lfs_durable_store.specs.Answering as durable
use Rattle.lfs_durable_store.specs.CleanerCalls as calls
use Rattle.lfs_durable_store.specs.Keeping.{Durably, IsKept}
use Rattle.lfs_durable_store.proofs.CallLemmas.{own_base}
use Rattle.lfs_disk_store.specs.Answering.{ComesOut, SettlesInPlace}
use Rattle.lfs_disk_store.specs.CleanerCalls.{WritesOut}
use Rattle.lfs_disk_store.specs.Keeping.{IsAhead, IsFollowed, on_disk}
use Rattle.lfs_disk_store.proofs.CallLemmas.{came_one, one_leaves, settled_base, two_leave, way_one}
use Rattle.lfs_disk_store.proofs.FollowLemmas.{store_blank}
use Rattle.lfs_disk_store.proofs.StepLemmas.{IsStep, again_step, behind_step, settled_step, way_step}

module _ {D : Type 0} (seen : D → List (List ℕ)) (may_leave : D → List (List ℕ) → Type 0) (has_failed : D → Bool) where
  pub ahead : (s t : Durably) (mirror : Mirror D) (fault : Option DiskFault)
      → IsFollowed seen may_leave has_failed s mirror fault → IsStore s.store → IsStep s t → fault ≡ None
      → IsAhead seen may_leave t mirror
  ahead s t mirror fault followed store step none =
      let w = followed.written none in
      record {
        mirrors = w.mirrors;
        blank = subst IsBlankBehind (sym w.memory) (store_blank s.store store);
        follows = subst (λ (m : SegmentMemory). FollowsOn m t.store.log.memory) (sym w.memory) step.follows;
      }

  module _ (time : D → ℕ) (left_since : D → ℕ → List (List ℕ) → Type 0) (old new : Durably) (l : Mirror D)
      (a : Option DiskFault) (was : IsKept old) (is : IsKept new) (store : IsStore old.store)
      (followed : IsFollowed seen may_leave has_failed old l a) where
    -- written out once
    pub settles_on_disk : (m : Mirror D) (b : Option DiskFault) (none : a ≡ None)
        → (a ≡ None
        → LeavesOnly time left_since (disk_of l) (disk_of m) (IsOldOrNew (memory_of l) new.store.log.memory))
        → durable.SettlesInPlace old new
        → SettlesInPlace time left_since (on_disk old l a) (on_disk new m b)
    settles_on_disk m b none run s = record {
      sound = none;
      settles = s;
      crash = record {
        only = λ trees counted way last. one_leaves time left_since old new trees was counted is last
            (settled_step old new store s) (inr (inl (settled_base old new s))) (disk_of l) (disk_of m) (memory_of l)
            (followed.written none).memory (run none);
      };
    }

    -- twice
    module _ (mid : Durably) (m n : Mirror D) (b c : Option DiskFault) (kept : IsKept mid)
        (then : IsFollowed seen may_leave has_failed mid m b) (none : a ≡ None)
        (run : a ≡ None
        → LeavesOnly time left_since (disk_of l) (disk_of m) (IsOldOrNew (memory_of l) mid.store.log.memory))
        (again : b ≡ None
        → LeavesOnly time left_since (disk_of m) (disk_of n) (IsOldOrNew (memory_of m) new.store.log.memory))
        (still : IsSome b → n ≡ m) where
      pub comes_on_disk : (changes : List Change) (by : Reserve) (result : Result (Unit {0}) StoreRefusal)
          → durable.WritesFirst changes old mid → (made : durable.ComesTo old changes by result new)
          → made.before ≡ mid
          → ComesOut time left_since (on_disk old l a) changes by result (on_disk new n c)
      comes_on_disk changes by result way made at = record {
        sound = none;
        comes = made;
        crash = record {
          only = λ trees counted mid_counted last.
              let count : IsCounted mid.store = subst (λ (s : Durably). IsCounted s.store) at mid_counted in
              let second : IsStep mid new =
              subst (λ (s : Durably). IsStep s new) at (behind_step old new changes by result made) in
              two_leave time left_since old new trees was counted mid kept count (way_one changes old mid new way) is
              last (came_one old new changes by result made) (way_step changes old mid store way) second (disk_of l)
              (disk_of m) (disk_of n) (memory_of l) (memory_of m) b (followed.written none).memory
              (λ sound. (then.written sound).memory) (run none) again
              (λ some. ap (λ (x : Mirror D). disk_of x) (still some));
        };
      }

      pub marks_on_disk : (marks : List BlockInfo) (result : Result ℕ CleanFault) → IsStore mid.store
          → durable.SettlesInPlace old mid → calls.WritesAgain mid marks result new
          → content_of new.store ≡ content_of mid.store
          → WritesOut time left_since (on_disk old l a) marks result (on_disk new n c)
      marks_on_disk marks result mid_store settles wrote same = record {
        sound = none;
        between = mid;
        settles = settles;
        again = wrote;
        content = same ∙ settles.settles.written.content;
        crash = record {
          only = λ trees counted count last.
              two_leave time left_since old new trees was counted mid kept count
              (inr (inl (settled_base old mid settles))) is last (inr (inr (own_base new wrote.base)))
              (settled_step old mid store settles)
              (again_step mid marks settles.settles.base mid_store settles.settles.written.flushed result new wrote)
              (disk_of l) (disk_of m) (disk_of n) (memory_of l) (memory_of m) b (followed.written none).memory
              (λ sound. (then.written sound).memory) (run none) again
              (λ some. ap (λ (x : Mirror D). disk_of x) (still some));
        };
      }
