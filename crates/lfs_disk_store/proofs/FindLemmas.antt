-- What is found behind a crash while a store is written out is what the base contained before or what it contains now
-- (`step_finds`), and so a crash leaves that, and nothing else (`step_leaves`, `both`).
use Rattle.std.proofs.Common.{◌≡◌, ◌≢◌, ◌⊎◌, ℕ, ◌∙◌, List, Option, None, Some, IsSome, refl, sym, ap, subst}
use Rattle.lfs_types.specs.Tree.{Content}
use Rattle.lfs_segments.specs.Memory.{SegmentMemory}
use Rattle.lfs_ifile.specs.declared.segment.SegState.TheVariants.{Clean}
use Rattle.lfs_log.specs.Parts.{state_of}
use Rattle.lfs_parts.specs.declared.parts.Parts.{Parts}
use Rattle.lfs_parts.specs.Files.{content_of}
use Rattle.lfs_calls.specs.Content.{Shows}
use Rattle.lfs_durable.specs.Names.{IsDurable}
use Rattle.lfs_durable.specs.Runs.{IsCounted, ShowsTree}
use Rattle.lfs_durable.proofs.KeptLemmas.{flushed_is_durable}
use Rattle.lfs_disk.specs.declared.fault.DiskFault.{DiskFault}
use Rattle.lfs_disk.specs.Disk.{LeavesOnly}
use Rattle.lfs_disk.specs.Mirroring.{FollowsOn, IsOldOrNew}
use Rattle.lfs_disk.proofs.CrashLemmas.{finds_old_or_new}
use Rattle.lfs_disk.proofs.MomentLemmas.{followed, widened}
use Rattle.lfs_durable_store.specs.Keeping.{Durably, IsKept}
use Rattle.lfs_disk_store.specs.Finding.{Finds}
use Rattle.lfs_disk_store.proofs.StepLemmas.{IsStep}

pub same_tree : (p q : Parts) → content_of q ≡ content_of p → ShowsTree p → ShowsTree q
same_tree p q same shown = record {
  world = shown.world;
  shows = subst (λ (c : Content). Shows c shown.world) (sym same) shown.shows;
  tree = shown.tree;
}

-- the base is durable, until the last serial comes
base_durable : (s : Durably) → IsKept s → IsCounted s.store → IsDurable s.base
base_durable s k counted = flushed_is_durable s.base counted.next k.base_found k.base_store k.base_flushed
    (ap (λ (m : SegmentMemory). m.serial) (sym k.memory) ∙ counted.serial) counted.bound

-- one of two bases
abbrev pub IsEither : Durably → Durably → Content → Type 0
IsEither s t content = (content ≡ content_of s.base) ⊎ (content ≡ content_of t.base)

pub record CanBeTold (s : Durably) : Type 0 where
  pub kept : IsKept s
  pub counted : IsCounted s.store
  pub tree : ShowsTree s.base

module _ (s t : Durably) (was : CanBeTold s) (is : CanBeTold t) (step : IsStep s t) where
  abbrev Claim : List (List ℕ) → SegmentMemory → SegmentMemory → Type 0
  Claim blocks m n = FollowsOn m n → (n.active ≢ m.active → state_of s.base.log.tables n.active ≡ Clean)
      → IsOldOrNew m n blocks → Finds m.segments (IsEither s t) blocks

  claimed : (blocks : List (List ℕ)) → Claim blocks s.base.log.memory t.base.log.memory
  claimed blocks follows clean left n found segments same on = finds_old_or_new s.base t.base found n
      (base_durable s was.kept was.counted) was.tree (base_durable t is.kept is.counted) is.tree follows clean segments
      (subst (IsOldOrNew s.base.log.memory t.base.log.memory) (sym same) left) on.made on.store on.flushed

  pub step_finds : (blocks : List (List ℕ)) → IsOldOrNew s.store.log.memory t.store.log.memory blocks
      → Finds s.store.log.memory.segments (IsEither s t) blocks
  step_finds blocks left =
      let first : Claim blocks s.store.log.memory t.base.log.memory =
      subst (λ (m : SegmentMemory). Claim blocks m t.base.log.memory) (sym was.kept.memory) (claimed blocks) in
      let both : Claim blocks s.store.log.memory t.store.log.memory =
      subst (Claim blocks s.store.log.memory) (sym is.kept.memory) first in
      both step.follows step.clean left

  module _ {D : Type 0} (time : D → ℕ) (left_since : D → ℕ → List (List ℕ) → Type 0) (old new : D)
      (m : SegmentMemory) (at : m ≡ s.store.log.memory) (segments : ℕ) (many : s.store.log.memory.segments ≡ segments)
      (one : Content → Type 0) (widens : (content : Content) → IsEither s t content → one content) where
    pub step_leaves : LeavesOnly time left_since old new (IsOldOrNew m t.store.log.memory)
        → LeavesOnly time left_since old new (Finds segments one)
    step_leaves run = widened time left_since old new (Finds segments one) (IsOldOrNew m t.store.log.memory) run
        (λ c left n found count same on.
        widens (content_of found)
        (step_finds c (subst (λ (x : SegmentMemory). IsOldOrNew x t.store.log.memory c) at left) n found
        (count ∙ sym many) same on))

-- one run of a disk's calls behind another, which isn't made where the disk had failed
pub both : {D : Type 0} (time : D → ℕ) (left_since : D → ℕ → List (List ℕ) → Type 0) (old mid new : D)
    (P : List (List ℕ) → Type 0) (fault : Option DiskFault) → LeavesOnly time left_since old mid P
    → (fault ≡ None → LeavesOnly time left_since mid new P) → (IsSome fault → new ≡ mid)
    → LeavesOnly time left_since old new P
both time left_since old mid new P None first next stays =
    followed time left_since old mid new P P first (next refl) (λ c p. p)
both time left_since old mid new P (Some cause) first next stays =
    subst (λ d. LeavesOnly time left_since old d P) (sym (stays refl)) first
