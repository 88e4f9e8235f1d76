-- After a crash in a run what is found is what the store contained behind some of its calls (`finds_prefix`). Behind each call
-- there is a durable state from which on nothing was written (`behind`): a flush makes its own the durable one.
use Rattle.std.proofs.Common.{List, Option, is_some}
use Rattle.std.proofs.Common.{◌≡◌, ℕ, zero, suc, ◌<◌, ◌≤◌, inl, inr, refl, sym, ap, subst, ◌∙◌, arith}
use Rattle.std.proofs.lemmas.Bool.{cases_lt}
use Rattle.lfs_types.specs.declared.store.Change.{Change}
use Rattle.lfs_types.specs.declared.store.Reserve.{Reserve}
use Rattle.lfs_types.specs.Tree.{Content}
use Rattle.lfs_segments.specs.Memory.{SegmentMemory}
use Rattle.lfs_staging.specs.Changing.{StaysInLog}
use Rattle.lfs_staging.proofs.StagedLemmas.{stays-refl, stays-trans}
use Rattle.lfs_parts.specs.declared.parts.Parts.{Parts}
use Rattle.lfs_parts.specs.Files.{content_of}
use Rattle.lfs_segwrite.specs.Applying.{WritesWaiting}
use Rattle.lfs_segwrite.proofs.OrderedLemmas.{stays_ordered}
use Rattle.lfs_calls.specs.Content.{Shows}
use Rattle.lfs_durable.specs.Crashes.{IsCrashOf}
use Rattle.lfs_durable.specs.Kept.{CanBeFound}
use Rattle.lfs_durable.specs.Names.{IsDurable}
use Rattle.lfs_durable.specs.Runs.{FindsPrefix, IsCounted, IsRun, Makes, StoreCall, applies, syncs}
use Rattle.lfs_durable.proofs.CrashLemmas.{finds_after_crash}
use Rattle.lfs_durable.proofs.FlushLemmas.{staged_crashes}
use Rattle.lfs_durable.proofs.KeptLemmas.{flushed_is_durable, same_can_be_found, writes_can_be_found}

durable_found : (p : Parts) → IsDurable p → CanBeFound p
durable_found p d = record {
  serials = ap (λ (o : Option ℕ). is_some o) d.serial;
  recoverable = d.recoverable;
  ordered = d.ordered;
  labelled = d.labelled;
}

-- what waits changes nothing of that
staged_found : (p q : Parts) → IsDurable p → StaysInLog p q → CanBeFound q
staged_found p q d stays =
    same_can_be_found p q stays.memory stays.numbers (stays_ordered p q stays) (durable_found p d)

-- what was written is durable
written_durable : (p q r : Parts) → IsDurable p → StaysInLog p q → WritesWaiting q r → IsCounted r → IsDurable r
written_durable p q r d stays w counted =
    flushed_is_durable r counted.next (writes_can_be_found q r w.log (staged_found p q d stays)) w.store w.flushed
    counted.serial counted.bound

-- a durable state with what the store contained behind some calls, from which on nothing was written
pub record IsBehind (states : ℕ → Parts) (calls : ℕ → StoreCall) (count : ℕ) : Type 0 where
  pub last : Parts
  pub durable : IsDurable last
  pub calls_made : ℕ
  pub within : calls_made ≤ count
  pub synced : (k : ℕ) → k < count → calls k ≡ syncs → k < calls_made
  pub content : content_of last ≡ content_of (states calls_made)
  pub stays : StaysInLog last (states count)

not_sync : (by : Reserve) (changes : List Change) → applies by changes ≡ syncs → ⊥
not_sync by changes same = subst is_change same tt
  where
    is_change : StoreCall → Type 0
    is_change (applies by changes) = Unit {0}
    is_change syncs = ⊥

module _ (states : ℕ → Parts) (calls : ℕ → StoreCall) where
  -- behind one call more
  more : (k : ℕ) (call : StoreCall) → calls k ≡ call → IsBehind states calls k → IsCounted (states (suc k))
      → Makes call (states k) (states (suc k)) → IsBehind states calls (suc k)
  more k syncs is b counted w =
      let last = written_durable b.last (states k) (states (suc k)) b.durable b.stays w counted in
      record {
        last = states (suc k);
        durable = last;
        calls_made = suc k;
        within = omega arith;
        synced = λ i below same. below;
        content = refl;
        stays = stays-refl (states (suc k));
      }
  more k (applies by changes) is b counted makes =
      let early : (i : ℕ) → i < suc k → calls i ≡ syncs → i < k =
      λ i below same. elim (cases_lt i k) [
        | inl before ↦ before
        | inr past ↦
            let here : i ≡ k = omega arith in
            absurd (not_sync by changes (sym is ∙ ap calls (sym here) ∙ same))
      ] in
      elim makes.way.either [
        | inl nothing ↦
            let staged : StaysInLog (states k) (states (suc k)) =
            subst (λ (q : Parts). StaysInLog q (states (suc k))) nothing.1 makes.stages.log in
            let within = b.within in
            record {
              last = b.last;
              durable = b.durable;
              calls_made = b.calls_made;
              within = omega arith;
              synced = λ i below same. b.synced i (early i below same) same;
              content = b.content;
              stays = stays-trans b.last (states k) (states (suc k)) b.stays staged;
            }
        | inr wrote ↦
            let w = wrote.1 in
            let same : makes.between.log.memory.serial ≡ (states (suc k)).log.memory.serial =
            ap (λ (m : SegmentMemory). m.serial) (sym makes.stages.log.memory) in
            let left : IsCounted makes.between =
            record { next = counted.next; serial = same ∙ counted.serial; bound = counted.bound } in
            record {
              last = makes.between;
              durable = written_durable b.last (states k) makes.between b.durable b.stays w left;
              calls_made = k;
              within = omega arith;
              synced = early;
              content = w.content;
              stays = makes.stages.log;
            }
      ]

  behind : (k count : ℕ) → IsRun states calls count → k ≤ count → IsBehind states calls k
  behind zero count run low = record {
    last = states 0;
    durable = run.start;
    calls_made = 0;
    within = omega arith;
    synced = λ k below same. absurd (omega arith);
    content = refl;
    stays = stays-refl (states 0);
  }
  behind (suc k) count run low =
      more k (calls k) refl (behind k count run (omega arith)) (run.counted (suc k) low) (run.each k (omega arith))

-- at rest all blocks are there
at_rest : (p : Parts) (n : SegmentMemory) → n ≡ p.log.memory → IsCrashOf p n
at_rest p n same = subst (IsCrashOf p) (sym same) (record {
  segments = refl;
  label = refl;
  each = λ segment below. inl (record { each = λ a here. refl });
})

pub finds_prefix : FindsPrefix
finds_prefix states calls count n found run at made store done =
    let b = behind states calls count count run (omega arith) in
    let crash : IsCrashOf b.last n = elim at [
      | inl rest ↦ at_rest b.last n (rest ∙ b.stays.memory)
      | inr midway ↦ staged_crashes b.last (states count) n b.durable b.stays midway
    ] in
    let within = b.within in
    let shown = run.trees b.calls_made (omega arith) in
    let shows = subst (λ (c : Content). Shows c shown.world) (sym b.content) shown.shows in
    record {
      calls_made = b.calls_made;
      within = b.within;
      synced = b.synced;
      content = finds_after_crash b.last found shown.world n b.durable shows shown.tree crash made store done ∙ b.content;
    }
