-- After a crash in a run what is found is what the store contained behind some of its calls (`finds_prefix`). Behind each
-- call the base contains that (`behind`).
use Rattle.std.proofs.Common.{◌≡◌, ℕ, zero, suc, ◌<◌, ◌≤◌, inl, inr, refl, sym, ap, subst, ◌∙◌, arith}
use Rattle.std.proofs.lemmas.Bool.{cases_lt}
use Rattle.lfs_types.specs.Tree.{Content}
use Rattle.lfs_parts.specs.Files.{content_of}
use Rattle.lfs_calls.specs.Content.{Shows}
use Rattle.lfs_durable.specs.Runs.{ShowsTree}
use Rattle.lfs_durable_store.specs.Keeping.{Durably}
use Rattle.lfs_durable_store.specs.Runs.{DurableCall, FindsPrefix, IsRun, Makes, WritesAll, applies, cleans, gains, marks, reads}
use Rattle.lfs_durable_store.specs.Runs.{syncs}
use Rattle.lfs_durable_store.proofs.CallLemmas.{came_base, own_base}
use Rattle.lfs_durable_store.proofs.CrashLemmas.{survives, survives_later}

-- the base contains what the store contained behind some calls
record IsBehind (states : ℕ → Durably) (calls : ℕ → DurableCall) (count : ℕ) : Type 0 where
  calls_made : ℕ
  within : calls_made ≤ count
  synced : (k : ℕ) → k < count → WritesAll (calls k) → k < calls_made
  content : content_of (states count).base ≡ content_of (states calls_made).store

module _ (states : ℕ → Durably) (calls : ℕ → DurableCall) where
  -- of a call that may leave something waiting each that leaves nothing comes before it
  early : (k : ℕ) → (WritesAll (calls k) → ⊥) → (i : ℕ) → i < suc k → WritesAll (calls i) → i < k
  early k not i below writes = elim (cases_lt i k) [
    | inl before ↦ before
    | inr past ↦ let here : i ≡ k = omega arith in absurd (not (subst (λ (j : ℕ). WritesAll (calls j)) here writes))
  ]

  -- the base stays
  stays : (k : ℕ) → (WritesAll (calls k) → ⊥) → content_of (states (suc k)).base ≡ content_of (states k).base
      → IsBehind states calls k → IsBehind states calls (suc k)
  stays k not same b = let within = b.within in record {
    calls_made = b.calls_made;
    within = omega arith;
    synced = λ i below writes. b.synced i (early k not i below writes) writes;
    content = same ∙ b.content;
  }

  -- it is the store before the call
  was : (k : ℕ) → (WritesAll (calls k) → ⊥) → content_of (states (suc k)).base ≡ content_of (states k).store
      → IsBehind states calls (suc k)
  was k not same = record { calls_made = k; within = omega arith; synced = early k not; content = same }

  -- it is the store behind the call
  is : (k : ℕ) → content_of (states (suc k)).base ≡ content_of (states (suc k)).store → IsBehind states calls (suc k)
  is k same = record { calls_made = suc k; within = omega arith; synced = λ i below writes. below; content = same }

  quiet : (k : ℕ) (call : DurableCall) → calls k ≡ call → (WritesAll call → ⊥) → WritesAll (calls k) → ⊥
  quiet k call same not writes = not (subst WritesAll same writes)

  more : (k : ℕ) (call : DurableCall) → calls k ≡ call → Makes call (states k) (states (suc k)) → IsBehind states calls k
      → IsBehind states calls (suc k)
  more k reads here m b = stays k (quiet k reads here (λ no. no)) (ap content_of m.base) b
  more k (applies by changes) here m b =
      let not = quiet k (applies by changes) here (λ no. no) in
      elim (came_base (states k) (states (suc k)) changes by m.0 m.1) [
        | inl same ↦ stays k not same.0 b
        | inr moved ↦ elim moved [
          | inl old ↦ was k not old.0
          | inr new ↦ is k new.0
        ]
      ]
  more k syncs here m b = is k (own_base (states (suc k)) m.base)
  more k (marks infos) here m b = is k (own_base (states (suc k)) m.1.base)
  more k (cleans segment) here m b = stays k (quiet k (cleans segment) here (λ no. no)) (ap content_of m.1.base) b
  more k gains here m b = is k (own_base (states (suc k)) m.1.base)

  behind : (k count : ℕ) → IsRun states calls count → k ≤ count → IsBehind states calls k
  behind zero count run low = record {
    calls_made = 0;
    within = omega arith;
    synced = λ i below writes. absurd (omega arith);
    content = run.start;
  }
  behind (suc k) count run low =
      more k (calls k) refl (run.each k (omega arith)) (behind k count run (omega arith))

pub finds_prefix : FindsPrefix
finds_prefix states calls count n found run (inl cut) on =
    let b = behind states calls count count run (omega arith) in
    let within = b.within in
    let tree = run.trees b.calls_made (omega arith) in
    let shown : ShowsTree (states count).base = record {
      world = tree.world;
      shows = subst (λ (c : Content). Shows c tree.world) (sym b.content) tree.shows;
      tree = tree.tree;
    } in
    record {
      calls_made = b.calls_made;
      within = b.within;
      synced = b.synced;
      content = survives (states count) (run.kept count (omega arith)) n found (run.counted count (omega arith)) shown cut on
          ∙ b.content;
    }
finds_prefix states calls count n found run (inr later) on = record {
  calls_made = count;
  within = omega arith;
  synced = λ k below writes. below;
  content = survives_later (states count) n found (run.trees count (omega arith)) later on;
}
