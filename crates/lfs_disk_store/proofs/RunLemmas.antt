-- After a crash in a run what is found is what the store contained behind some of its calls (`finds_prefix`). Behind each
-- call the base contains that (`behind`).
use Rattle.std.proofs.Common.{◌≡◌, ℕ, zero, suc, ◌<◌, ◌≤◌, List, None, IsSome, inl, inr, refl, ap, subst, ◌∙◌, arith}
use Rattle.std.proofs.lemmas.Bool.{cases_lt, false≢true}
use Rattle.lfs_parts.specs.Files.{content_of}
use Rattle.lfs_durable_store.specs.Runs.{DurableCall, WritesAll, applies, cleans, gains, marks, reads, syncs}
use Rattle.lfs_durable_store.proofs.CallLemmas.{came_base, own_base}
use Rattle.lfs_disk_store.specs.Keeping.{IsRefused, OnDisk}
use Rattle.lfs_disk_store.specs.Runs.{FindsPrefix, IsRun, Makes}
use Rattle.lfs_disk_store.proofs.GainLemmas.{gains_own}

-- the base contains what the store contained behind some calls
record IsBehind {D : Type 0} (states : ℕ → OnDisk D) (calls : ℕ → DurableCall) (count : ℕ) : Type 0 where
  calls_made : ℕ
  within : calls_made ≤ count
  synced : (k : ℕ) → k < count → WritesAll (calls k) → (states k).fault ≡ None → k < calls_made
  content : content_of (states count).store.base ≡ content_of (states calls_made).store.store

module _ {D : Type 0} (time : D → ℕ) (left_since : D → ℕ → List (List ℕ) → Type 0) (states : ℕ → OnDisk D)
    (calls : ℕ → DurableCall) where
  -- a call that may leave something waiting
  abbrev LeavesSome : ℕ → Type 0
  LeavesSome k = WritesAll (calls k) → (states k).fault ≡ None → ⊥

  -- of such a call each that leaves nothing comes before it
  early : (k : ℕ) → LeavesSome k → (i : ℕ) → i < suc k → WritesAll (calls i) → (states i).fault ≡ None → i < k
  early k not i below writes none = elim (cases_lt i k) [
    | inl before ↦ before
    | inr past ↦
        let here : i ≡ k = omega arith in
        absurd (not (subst (λ (j : ℕ). WritesAll (calls j)) here writes) (subst (λ (j : ℕ). (states j).fault ≡ None) here none))
  ]

  -- the base stays
  stays : (k : ℕ) → LeavesSome k
      → content_of (states (suc k)).store.base ≡ content_of (states k).store.base → IsBehind states calls k
      → IsBehind states calls (suc k)
  stays k not same b = let within = b.within in record {
    calls_made = b.calls_made;
    within = omega arith;
    synced = λ i below writes none. b.synced i (early k not i below writes none) writes none;
    content = same ∙ b.content;
  }

  -- it is the store before the call
  was : (k : ℕ) → LeavesSome k
      → content_of (states (suc k)).store.base ≡ content_of (states k).store.store → IsBehind states calls (suc k)
  was k not same = record { calls_made = k; within = omega arith; synced = early k not; content = same }

  -- it is the store behind the call
  is : (k : ℕ) → content_of (states (suc k)).store.base ≡ content_of (states (suc k)).store.store
      → IsBehind states calls (suc k)
  is k same = record { calls_made = suc k; within = omega arith; synced = λ i below writes none. below; content = same }

  quiet : (k : ℕ) (call : DurableCall) → calls k ≡ call → (WritesAll call → ⊥) → LeavesSome k
  quiet k call same not writes none = not (subst WritesAll same writes)

  -- a call that was refused
  idle : (k : ℕ) → IsRefused (states k) (states (suc k)) → IsBehind states calls k → IsBehind states calls (suc k)
  idle k refused b = stays k (λ writes none. false≢true (subst IsSome none refused.failed))
      (ap (λ (s : OnDisk D). content_of s.store.base) refused.same) b

  more : (k : ℕ) (call : DurableCall) → calls k ≡ call → Makes time left_since call (states k) (states (suc k))
      → IsBehind states calls k → IsBehind states calls (suc k)
  more k reads here m b = stays k (quiet k reads here (λ no. no)) (ap content_of m.fills.base) b
  more k (applies by changes) here (result, inl refused) b = idle k refused.0 b
  more k (applies by changes) here (result, inr out) b =
      let not = quiet k (applies by changes) here (λ no. no) in
      elim (came_base (states k).store (states (suc k)).store changes by result out.comes) [
        | inl same ↦ stays k not same.0 b
        | inr moved ↦ elim moved [
          | inl old ↦ was k not old.0
          | inr new ↦ is k new.0
        ]
      ]
  more k syncs here (inl refused) b = idle k refused b
  more k syncs here (inr settles) b = is k (own_base (states (suc k)).store settles.settles.settles.base)
  more k (marks infos) here (result, inl refused) b = idle k refused.0 b
  more k (marks infos) here (result, inr out) b = is k (own_base (states (suc k)).store out.again.base)
  more k (cleans segment) here m b =
      stays k (quiet k (cleans segment) here (λ no. no)) (ap content_of m.1.reclaims.base) b
  more k gains here (result, inl refused) b = idle k refused.0 b
  more k gains here (result, inr out) b = is k (gains_own time left_since (states k) result (states (suc k)) out)

  behind : (count : ℕ) → IsRun time left_since states calls count → IsBehind states calls count
  behind zero r = record {
    calls_made = 0;
    within = omega arith;
    synced = λ k below writes none. absurd (omega arith);
    content = r.start;
  }
  behind (suc k) r =
      let before : IsRun time left_since states calls k = record {
        start = r.start;
        each = λ i below. r.each i (omega arith);
      } in
      more k (calls k) refl (r.each k (omega arith)) (behind k before)

pub finds_prefix : {D : Type 0} (time : D → ℕ) (left_since : D → ℕ → List (List ℕ) → Type 0) → FindsPrefix time left_since
finds_prefix time left_since states calls count blocks n found run (inl base) segments same on =
    let b = behind time left_since states calls count run in
    let within = b.within in
    record {
      calls_made = b.calls_made;
      within = omega arith;
      synced = b.synced;
      content = base n found segments same on ∙ b.content;
    }
finds_prefix time left_since states calls count blocks n found run (inr one) segments same on =
    let b = behind time left_since states calls count run in
    let within = b.within in
    elim (one n found segments same on) [
      | inl base ↦ record {
        calls_made = b.calls_made;
        within = omega arith;
        synced = b.synced;
        content = base ∙ b.content;
      }
      | inr other ↦ elim other [
        | inl before ↦ record {
          calls_made = count;
          within = omega arith;
          synced = λ k below writes none. below;
          content = before;
        }
        | inr now ↦ record {
          calls_made = suc count;
          within = omega arith;
          synced = λ k below writes none. omega arith;
          content = now;
        }
      ]
    ]
