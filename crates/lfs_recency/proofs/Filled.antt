-- At the start all frames come into EMPTY, one after another: `filled_step` for `link_all`, `kept_filled` for
-- `Frames::new`. The invariant AreFilled says that the first are linked behind EMPTY's head and each other one is in a
-- ring of its own, so it may be left out of what AreLinked says (`linked_but`) until its turn, and then it's linked as
-- any frame is. What must be shown is that no frame of the list is one of the lone ones (`apart`), which their own
-- `prev` tells; frames that began in other rings would break it.
use Rattle.std.proofs.Common.{◌≡◌, ◌≢◌, ℕ, zero, suc, ◌+◌, ◌<◌, ◌≤◌, true, false, cond, ◌==◌, nat_lt, List, [], length}
use Rattle.std.proofs.Common.{refl, sym, ap, subst, ◌∙◌, inl, inr, zero-add, add-one, arith}
use Rattle.std.specs.Prelude.{take}
use Rattle.std.proofs.lemmas.Bool.Decides.{eqb_tells, nat_tests}
use denote.RawPtr.{Ptr}
use Rattle.lfs_recency.specs.declared.queue.Queue.{Queue}
use Rattle.lfs_recency.specs.declared.queue.Queue.TheVariants.{Locked, Lru, Age, Empty}
use Rattle.lfs_recency.specs.declared.frame.Frame.{Frame}
use Rattle.lfs_recency.specs.FrameLists.{FrameLists, listed, pushed, times, descending}
use Rattle.lfs_recency.specs.Places.{item_place, item_number}
use Rattle.lfs_recency.specs.Links.{next_at, prev_at, head_of, step_by, linked_after, shown}
use Rattle.lfs_recency.specs.Links.{AreLinked, AreKept, AreFilled, first_lists}
use Rattle.lfs_recency.proofs.Rings.{at_other}
use Rattle.lfs_recency.proofs.Lists.{head_low, less_test}
use Rattle.lfs_recency.proofs.Fields.{number-place, linked-next, linked-prev, linked-length}
use Rattle.lfs_recency.proofs.Fields.{linked-bytes}
use Rattle.lfs_recency.proofs.Linked.{linked_linked}
use Rattle.lfs_recency.proofs.Kept.{kept_by}

-- a frame in a ring of its own may be left out
linked_but : (size : ℕ) (base : Ptr) (n f : ℕ) (s : FrameLists) (fs : List Frame) → AreLinked size base n (n + 4) s fs
    → step_by size base (next_at fs) f ≡ f → step_by size base (prev_at fs) f ≡ f → AreLinked size base n f s fs
linked_but size base n f s fs h to fro =
    let far : (i : ℕ) → i < n + 4 → i ≢ n + 4 = λ i inside e. omega arith in
    record {
      places = h.places;
      forth = λ i inside ne. let there = (h.forth i inside (far i inside)).0 in
          (there, λ e. ne (sym there ∙ (ap (step_by size base (prev_at fs)) e ∙ fro)));
      back = λ i inside ne. let there = (h.back i inside (far i inside)).0 in
          (there, λ e. ne (sym there ∙ (ap (step_by size base (next_at fs)) e ∙ to)));
      numbers = h.numbers;
      rings = h.rings;
      members = h.members;
    }

pub times-descending_over : (f n : ℕ) → n ≤ f → times f (descending n) ≡ 0
times-descending_over f zero over = refl
times-descending_over f (suc n) over =
    let off : (n == f) ≡ false = grind (arith, nat_tests) in
    ap (λ b. cond b (suc (times f (descending n))) (times f (descending n))) off
    ∙ times-descending_over f n (omega arith)

descending_step : (f n : ℕ) → times f (descending n) ≡ cond (nat_lt f n) 1 0 → times f (descending (suc n))
    ≡ cond (nat_lt f (suc n)) 1 0
descending_step f n known =
    elim (eqb_tells n f) as (λ _. times f (descending (suc n)) ≡ cond (nat_lt f (suc n)) 1 0) [
      | inl t ↦ let on : nat_lt f (suc n) ≡ true = let e = t.1 in less_test f (suc n) (omega arith) in let none =
          times-descending_over f n (let e = t.1 in omega arith) in
          ap (λ b. cond b (suc (times f (descending n))) (times f (descending n))) t.0
          ∙ (ap suc none ∙ ap (λ b. cond b 1 0) (sym on))
      | inr t ↦ let ne = t.1 in let same : nat_lt f n ≡ nat_lt f (suc n) = grind (arith, nat_tests) in
          ap (λ b. cond b (suc (times f (descending n))) (times f (descending n))) t.0
          ∙ (known ∙ ap (λ b. cond b 1 0) same)
    ]

times-descending : (f n : ℕ) → times f (descending n) ≡ cond (nat_lt f n) 1 0
times-descending f zero = let off : nat_lt f 0 ≡ false = grind (arith, nat_tests) in ap (λ b. cond b 1 0) (sym off)
times-descending f (suc n) = descending_step f n (times-descending f n)

length-descending : (n : ℕ) → length (descending n) ≡ n
length-descending zero = refl
length-descending (suc n) = ap suc (length-descending n)

-- one more frame comes into EMPTY
module _ (size : ℕ) (base : Ptr) (pos : 0 < size) (n i : ℕ) (fs : List Frame) (below : i < n)
    (h : AreFilled size base n i fs) where
  abbrev hd : ℕ
  hd = head_of n Empty

  abbrev to : ℕ → ℕ
  to = step_by size base (next_at fs)

  abbrev ls : List Frame
  ls = linked_after size base hd i Empty fs

  own : to i ≡ i
  own = ap (item_number size base) (h.next i (omega arith) below) ∙ number-place size base i pos h.inside

  own_back : step_by size base (prev_at fs) i ≡ i
  own_back = ap (item_number size base) (h.prev i (omega arith) below) ∙ number-place size base i pos h.inside

  new : i < length fs
  new = let long = h.long in omega arith

  front : hd < length fs
  front = let long = h.long in omega arith

  low : hd < n + 4
  low = head_low n Empty

  follows : to hd < length fs
  follows = subst (λ k. to hd < k) (sym h.long) (h.linked.places hd low).0.1

  lacking : (p : Queue) → times i (listed p (first_lists n i fs)) ≡ 0
  lacking Locked = refl
  lacking Lru = refl
  lacking Age = refl
  lacking Empty = times-descending_over i i (omega arith)

  linked : AreLinked size base n (n + 4) (pushed i Empty (first_lists n i fs)) ls
  linked = linked_linked size base pos h.inside n i Empty (first_lists n i fs) fs h.long below
      (linked_but size base n i (first_lists n i fs) fs h.linked own own_back) lacking

  -- what follows the head is no frame in a ring of its own
  apart : (k : ℕ) → suc i ≤ k → k < n → k ≢ to hd
  apart k from below' e =
      let alone : step_by size base (prev_at fs) k ≡ k = ap (item_number size base) (h.prev k (omega arith) below')
      ∙ number-place size base k pos h.inside in
      let there : step_by size base (prev_at fs) (to hd) ≡ hd = (h.linked.forth hd low (λ e. omega arith)).0 in
      let same : k ≡ hd = sym alone ∙ (ap (step_by size base (prev_at fs)) e ∙ there) in omega arith

  lists : pushed i Empty (first_lists n i fs) ≡ first_lists n (suc i) ls
  lists = ap (λ (bs : List (List ℕ)). record {
    locked = [];
    lru = [];
    age = [];
    empty = descending (suc i);
    blocks = take n bs;
  }) (sym (linked-bytes size base hd i Empty fs new front follows))

  pub filled_more : AreFilled size base n (suc i) ls
  filled_more = record {
    long = linked-length size base hd i Empty fs new front follows ∙ h.long;
    inside = h.inside;
    linked = subst (λ t. AreLinked size base n (n + 4) t ls) lists linked;
    next = λ k from low. linked-next size base hd i Empty fs new front follows k
        ∙ (at_other k hd (item_place size base i) (cond (k == i) (next_at fs hd) (next_at fs k)) (λ e. omega arith)
        ∙ (at_other k i (next_at fs hd) (next_at fs k) (λ e. omega arith) ∙ h.next k (omega arith) low));
    prev = λ k from low. linked-prev size base hd i Empty fs new front follows k
        ∙ (at_other k (to hd) (item_place size base i) (cond (k == i) (item_place size base hd) (prev_at fs k))
        (apart k from low)
        ∙ (at_other k i (item_place size base hd) (prev_at fs k) (λ e. omega arith) ∙ h.prev k (omega arith) low));
  }

-- all frames are in EMPTY
pub kept_filled : (size : ℕ) (base : Ptr) (n : ℕ) (fs : List Frame) → AreFilled size base n n fs
    → AreKept size base n fs × (shown size base n fs ≡ first_lists n n fs)
kept_filled size base n fs h =
    kept_by size base n (first_lists n n fs) fs h.long h.inside h.linked refl (zero-add (length (descending n))
    ∙ length-descending n)
    (λ g. zero-add (times g (descending n)) ∙ times-descending g n)

-- one more frame, as the contract of the link tells it
pub filled_step : (size : ℕ) (base : Ptr) → 0 < size → (n i : ℕ) (fs : List Frame) → i < n → AreFilled size base n i fs
    → (base' : Ptr) (fs' : List Frame) (hd : ℕ) → hd ≡ head_of n Empty → base' ≡ base → fs'
    ≡ linked_after size base hd i Empty fs → AreFilled size base' n (i + 1) fs'
filled_step size base pos n i fs below h base' fs' hd e0 e1 e2 =
    rw (e2, e1, e0, add-one) (filled_more size base pos n i fs below h)
