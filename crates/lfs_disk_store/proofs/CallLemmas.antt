-- What a crash leaves in a call that writes a store out once (`one_leaves`), or twice (`two_leave`), and what calls do
-- with the base (`way_base`, `came_one`, `again_one`).
use Rattle.std.proofs.Common.{◌≡◌, ℕ, ◌∙◌, Bool, List, Option, None, IsSome, Result, inl, inr, refl, sym, ap, subst}
use Rattle.lfs_types.specs.StoreStates.{MovesBase}
use Rattle.lfs_types.specs.Tree.{Content}
use Rattle.lfs_types.specs.declared.store.Change.{Change}
use Rattle.lfs_types.specs.declared.store.Reserve.{Reserve}
use Rattle.lfs_types.specs.declared.store.StoreRefusal.{StoreRefusal}
use Rattle.lfs_segments.specs.Memory.{SegmentMemory}
use Rattle.lfs_parts.specs.declared.parts.Parts.{Parts}
use Rattle.lfs_parts.specs.Files.{content_of}
use Rattle.lfs_durable.specs.Runs.{IsCounted, ShowsTree}
use Rattle.lfs_disk.specs.declared.fault.DiskFault.{DiskFault}
use Rattle.lfs_disk.specs.declared.mirror.Mirror.{Mirror}
use Rattle.lfs_disk.specs.Disk.{LeavesOnly}
use Rattle.lfs_disk.specs.Mirroring.{IsOldOrNew, disk_of}
use Rattle.lfs_durable_store.specs.Answering.{ComesTo, SettlesInPlace, WritesFirst}
use Rattle.lfs_durable_store.specs.Keeping.{Durably, IsKept, durable_state}
use Rattle.lfs_durable_store.proofs.CallLemmas.{came_base, own_base}
use Rattle.lfs_disk_store.specs.Finding.{FindsBase, FindsOneOf, IsOneOf, ShowTrees}
use Rattle.lfs_disk_store.specs.Keeping.{IsFollowed}
use Rattle.lfs_disk_store.proofs.FindLemmas.{CanBeTold, IsEither, both, same_tree, step_finds, step_leaves}
use Rattle.lfs_disk_store.proofs.StepLemmas.{IsStep, same_step}

-- ---- the base
one_as : (old new : Durably) (a b : Content) → a ≡ b → IsOneOf old new b → IsOneOf old new a
one_as old new a b same one = subst (IsOneOf old new) (sym same) one

moved_one : (old new : Durably) → MovesBase (durable_state old) (durable_state new) → IsOneOf old new (content_of new.base)
moved_one old new (inl same) = inl same.0
moved_one old new (inr (inl before)) = inr (inl before.0)
moved_one old new (inr (inr now)) = inr (inr now.0)

pub came_one : (old new : Durably) (changes : List Change) (by : Reserve) (result : Result (Unit {0}) StoreRefusal)
    → ComesTo old changes by result new → IsOneOf old new (content_of new.base)
came_one old new changes by result c = moved_one old new (came_base old new changes by result c)

pub settled_base : (old mid : Durably) → SettlesInPlace old mid → content_of mid.base ≡ content_of old.store
settled_base old mid s = own_base mid s.settles.base ∙ s.settles.written.content

pub way_one : (changes : List Change) (old mid new : Durably) → WritesFirst changes old mid
    → IsOneOf old new (content_of mid.base)
way_one changes old mid new (inl nothing) = inl (ap (λ (d : Durably). content_of d.base) nothing.1)
way_one changes old mid new (inr wrote) = inr (inl (settled_base old mid wrote.1))

-- ---- trees
pub one_tree : (old new : Durably) (p : Parts) → ShowTrees old new → IsOneOf old new (content_of p) → ShowsTree p
one_tree old new p trees (inl base) = same_tree old.base p base trees.base
one_tree old new p trees (inr (inl before)) = same_tree old.store p before trees.before
one_tree old new p trees (inr (inr now)) = same_tree new.store p now trees.now

-- ---- crashes
-- both bases are among what may be found
either_one : (old new s t : Durably) → IsOneOf old new (content_of s.base) → IsOneOf old new (content_of t.base)
    → (content : Content) → IsEither s t content → IsOneOf old new content
either_one old new s t first next content (inl is) = one_as old new content (content_of s.base) is first
either_one old new s t first next content (inr is) = one_as old new content (content_of t.base) is next

module _ {D : Type 0} (time : D → ℕ) (left_since : D → ℕ → List (List ℕ) → Type 0) (old new : Durably)
    (trees : ShowTrees old new) (was : IsKept old) (counted : IsCounted old.store) where
  told_old : CanBeTold old
  told_old = record { kept = was; counted = counted; tree = trees.base }

  told : (s : Durably) → IsKept s → IsCounted s.store → IsOneOf old new (content_of s.base) → CanBeTold s
  told s kept count one = record { kept = kept; counted = count; tree = one_tree old new s.base trees one }

  pub one_leaves : (is : IsKept new) → IsCounted new.store → IsStep old new → IsOneOf old new (content_of new.base)
      → (d e : D) (m : SegmentMemory) → m ≡ old.store.log.memory
      → LeavesOnly time left_since d e (IsOldOrNew m new.store.log.memory)
      → LeavesOnly time left_since d e (FindsOneOf old new)
  one_leaves is count step one d e m at run =
      step_leaves old new told_old (told new is count one) step time left_since d e m at old.store.log.memory.segments
      refl (IsOneOf old new) (either_one old new old new (inl refl) one) run

  module _ (mid : Durably) (kept : IsKept mid) (count : IsCounted mid.store)
      (one : IsOneOf old new (content_of mid.base)) (is : IsKept new) (last : IsCounted new.store)
      (next : IsOneOf old new (content_of new.base)) (first : IsStep old mid) (second : IsStep mid new) where
    pub two_leave : (d e f : D) (m n : SegmentMemory) (fault : Option DiskFault) → m ≡ old.store.log.memory
        → (fault ≡ None → n ≡ mid.store.log.memory)
        → LeavesOnly time left_since d e (IsOldOrNew m mid.store.log.memory)
        → (fault ≡ None → LeavesOnly time left_since e f (IsOldOrNew n new.store.log.memory))
        → (IsSome fault → f ≡ e) → LeavesOnly time left_since d f (FindsOneOf old new)
    two_leave d e f m n fault at then run again stays = both time left_since d e f (FindsOneOf old new) fault
        (step_leaves old mid told_old (told mid kept count one) first time left_since d e m at
        old.store.log.memory.segments refl (IsOneOf old new) (either_one old new old mid (inl refl) one) run)
        (λ none. step_leaves mid new (told mid kept count one) (told new is last next) second time left_since e f n
        (then none) old.store.log.memory.segments first.follows.segments (IsOneOf old new)
        (either_one old new mid new one next) (again none))
        stays

-- at rest what is found contains what the base does
pub rest_finds : (s : Durably) → IsKept s → IsCounted s.store → ShowsTree s.base → (blocks : List (List ℕ))
    → blocks ≡ s.store.log.memory.blocks → FindsBase s blocks
rest_finds s kept counted tree blocks same n found segments at on =
    let told : CanBeTold s = record { kept = kept; counted = counted; tree = tree } in
    elim (step_finds s s told told (same_step s s refl) blocks (inl same) n found segments at on) [
      | inl is ↦ is
      | inr is ↦ is
    ]

-- so of a disk that a store was written out to
pub mirror_finds : {D : Type 0} (seen : D → List (List ℕ)) (may_leave : D → List (List ℕ) → Type 0) (has_failed : D → Bool)
    (s : Durably) (mirror : Mirror D) (fault : Option DiskFault) → IsFollowed seen may_leave has_failed s mirror fault
    → IsKept s → fault ≡ None → IsCounted s.store → ShowsTree s.base → (c : List (List ℕ))
    → may_leave (disk_of mirror) c → FindsBase s c
mirror_finds seen may_leave has_failed s mirror fault followed kept none counted tree c left =
    let w = followed.written none in
    let same : seen (disk_of mirror) ≡ s.store.log.memory.blocks =
    w.mirrors.blocks ∙ ap (λ (m : SegmentMemory). m.blocks) w.memory in
    rest_finds s kept counted tree c (w.mirrors.synced c left ∙ same)
