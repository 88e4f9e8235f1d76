-- Links stay well formed when a frame leaves its ring and comes in behind a head: `unlinked_linked` and
-- `linked_linked`, for Kept and Filled. Fields says what each link is then, and Rings that the steps forth and back
-- still undo each other; a ring that lacks the frame keeps its path, the one that it joins begins with it
-- (`listed-pushed`). Between the two calls the frame is in no ring, which `IsLinked` says by `but`: without that its
-- clauses would fail there.
use Rattle.std.proofs.Common.{◌≡◌, ◌≢◌, ℕ, ◌+◌, ◌<◌, Bool, true, false, cond, ◌==◌, List, length, refl, sym, ap, subst}
use Rattle.std.proofs.Common.{◌∙◌, inl, inr, arith}
use denote.RawPtr.{Ptr, InBlock}
use Rattle.lfs_recency.specs.declared.queue.Queue.{Queue}
use Rattle.lfs_recency.specs.declared.frame.Frame.{Frame}
use Rattle.lfs_recency.specs.FrameLists.{FrameLists, listed, taken, pushed, times}
use Rattle.lfs_recency.specs.Places.{item_place, item_number, IsItemPlace}
use Rattle.lfs_recency.specs.Links.{next_at, prev_at, queue_at, head_of, IsPath, Every, step_by, unlinked, linked_after}
use Rattle.lfs_recency.specs.Links.{AreLinked}
use Rattle.lfs_recency.proofs.Lists.{Every-without, Every-map, Every-lacks, Every-both, listed-taken, listed-pushed}
use Rattle.lfs_recency.proofs.Lists.{head_high, head_low}
use Rattle.lfs_recency.proofs.Rings.{at_same, at_other, path_kept, path_without, passes, passed_there, put_at_head}
use Rattle.lfs_recency.proofs.Rings.{put_at_new, put_elsewhere, put_there, put_back}
use Rattle.lfs_recency.proofs.Fields.{number-place, place-is_place, unlinked-next, unlinked-prev, unlinked-number}
use Rattle.lfs_recency.proofs.Fields.{unlinked-queue, linked-next, linked-prev, linked-number, linked-queue}

ap-cond : {X Y : Type 0} (g : X → Y) (t : Bool) (x y : X) → g (cond t x y) ≡ cond t (g x) (g y)
ap-cond g true x y = refl
ap-cond g false x y = refl

cond-has : {X : Type 0} (P : X → Type 0) (t : Bool) (x y : X) → P x → P y → P (cond t x y)
cond-has P true x y p q = p
cond-has P false x y p q = q

-- the frame f has left its ring
module _ (size : ℕ) (base : Ptr) (n f : ℕ) (s : FrameLists) (fs : List Frame) (long : length fs ≡ n + 4) (below : f < n)
    (h : AreLinked size base n (n + 4) s fs) where
  abbrev step : ℕ → ℕ
  step = step_by size base (next_at fs)

  abbrev back : ℕ → ℕ
  back = step_by size base (prev_at fs)

  abbrev fs' : List Frame
  fs' = unlinked size base f fs

  f_inside : f < n + 4
  f_inside = omega arith

  before : back f < length fs
  before = subst (λ k. back f < k) (sym long) (h.places f f_inside).1.1

  after : step f < length fs
  after = subst (λ k. step f < k) (sym long) (h.places f f_inside).0.1

  none : (i : ℕ) → i < n + 4 → i ≢ n + 4
  none i inside e = omega arith

  step-is : (i : ℕ) → step_by size base (next_at fs') i ≡ cond (i == back f) (step f) (step i)
  step-is i = ap (item_number size base) (unlinked-next size base f fs before after i)
      ∙ ap-cond (item_number size base) (i == back f) (next_at fs f) (next_at fs i)

  back-is : (i : ℕ) → step_by size base (prev_at fs') i ≡ cond (i == step f) (back f) (back i)
  back-is i = ap (item_number size base) (unlinked-prev size base f fs before after i)
      ∙ ap-cond (item_number size base) (i == step f) (prev_at fs f) (prev_at fs i)

  inner : (i : ℕ) → i < n + 4 → step i < n + 4
  inner i inside = (h.places i inside).0.1

  inner_back : (i : ℕ) → i < n + 4 → back i < n + 4
  inner_back i inside = (h.places i inside).1.1

  there : (i : ℕ) → i < n + 4 → back (step i) ≡ i
  there i inside = (h.forth i inside (none i inside)).0

  again : (i : ℕ) → i < n + 4 → step (back i) ≡ i
  again i inside = (h.back i inside (none i inside)).0

  abbrev step' : ℕ → ℕ
  step' = step_by size base (next_at fs')

  abbrev back' : ℕ → ℕ
  back' = step_by size base (prev_at fs')

  ring_without : (q : Queue) → IsPath step' (head_of n q) (listed q (taken f s)) (head_of n q)
  ring_without q =
      let high = head_high n q in let low = head_low n q in
      subst (λ xs. IsPath step' (head_of n q) xs (head_of n q)) (sym (listed-taken f s q))
      (path_without step step' (n + 4) f (head_of n q) (head_of n q) (listed q s) (head_of n q)
      (passes (n + 4) f step back step' back' f_inside inner inner_back there again step-is back-is) inner low
      (passes (n + 4) f step back step' back' f_inside inner inner_back there again step-is back-is (head_of n q) low)
      (λ e. omega arith) (h.rings q))

  members_without : (q : Queue) → Every (λ i. (i < n) × (queue_at fs' i ≡ q)) (listed q (taken f s))
  members_without q =
      subst (Every (λ i. (i < n) × (queue_at fs' i ≡ q))) (sym (listed-taken f s q))
      (Every-without (λ i. (i < n) × (queue_at fs' i ≡ q)) f (listed q s)
      (Every-map (λ i. (i < n) × (queue_at fs i ≡ q)) (λ i. (i < n) × (queue_at fs' i ≡ q))
      (λ i p. (p.0, unlinked-queue size base f fs before after i ∙ p.1)) (listed q s) (h.members q)))

  pub unlinked_linked : AreLinked size base n f (taken f s) fs'
  unlinked_linked = record {
    places = λ i inside. (
      subst (IsItemPlace size base (n + 4)) (sym (unlinked-next size base f fs before after i))
          (cond-has (IsItemPlace size base (n + 4)) (i == back f) (next_at fs f) (next_at fs i) (h.places f f_inside).0
          (h.places i inside).0),
      subst (IsItemPlace size base (n + 4)) (sym (unlinked-prev size base f fs before after i))
          (cond-has (IsItemPlace size base (n + 4)) (i == step f) (prev_at fs f) (prev_at fs i) (h.places f f_inside).1
          (h.places i inside).1),
    );
    forth = passed_there (n + 4) f step back step' back' f_inside inner inner_back there again step-is back-is;
    back = passed_there (n + 4) f back step back' step' f_inside inner_back inner again there back-is step-is;
    numbers = λ i inside. unlinked-number size base f fs before after i ∙ h.numbers i inside;
    rings = ring_without;
    members = members_without;
  }

-- the frame f has come right after the head of the queue q
module _ (size : ℕ) (base : Ptr) (pos : 0 < size) (inside_block : InBlock base) (n f : ℕ) (q : Queue) (s : FrameLists)
    (fs : List Frame) (long : length fs ≡ n + 4) (below : f < n)
    (h : AreLinked size base n f s fs) (absent : (p : Queue) → times f (listed p s) ≡ 0) where
  abbrev hd : ℕ
  hd = head_of n q

  abbrev to : ℕ → ℕ
  to = step_by size base (next_at fs)

  abbrev fro : ℕ → ℕ
  fro = step_by size base (prev_at fs)

  abbrev ls : List Frame
  ls = linked_after size base hd f q fs

  abbrev to' : ℕ → ℕ
  to' = step_by size base (next_at ls)

  abbrev fro' : ℕ → ℕ
  fro' = step_by size base (prev_at ls)

  new_inside : f < n + 4
  new_inside = omega arith

  hd_inside : hd < n + 4
  hd_inside = head_low n q

  apart : hd ≢ f
  apart e = let high = head_high n q in omega arith

  new : f < length fs
  new = subst (λ k. f < k) (sym long) new_inside

  front : hd < length fs
  front = subst (λ k. hd < k) (sym long) hd_inside

  follows : to hd < length fs
  follows = subst (λ k. to hd < k) (sym long) (h.places hd hd_inside).0.1

  to-is : (i : ℕ) → to' i ≡ cond (i == hd) f (cond (i == f) (to hd) (to i))
  to-is i =
      ap (item_number size base) (linked-next size base hd f q fs new front follows i) ∙
      (ap-cond (item_number size base) (i == hd) (item_place size base f) (cond (i == f) (next_at fs hd) (next_at fs i))
      ∙
      (ap (λ k. cond (i == hd) k (item_number size base (cond (i == f) (next_at fs hd) (next_at fs i))))
      (number-place size base f pos inside_block) ∙
      ap (λ k. cond (i == hd) f k) (ap-cond (item_number size base) (i == f) (next_at fs hd) (next_at fs i))))

  fro-is : (i : ℕ) → fro' i ≡ cond (i == to hd) f (cond (i == f) hd (fro i))
  fro-is i =
      ap (item_number size base) (linked-prev size base hd f q fs new front follows i) ∙
      (ap-cond (item_number size base) (i == to hd) (item_place size base f)
      (cond (i == f) (item_place size base hd) (prev_at fs i)) ∙
      (ap (λ k. cond (i == to hd) k (item_number size base (cond (i == f) (item_place size base hd) (prev_at fs i))))
      (number-place size base f pos inside_block) ∙
      ap (λ k. cond (i == to hd) f k) (ap-cond (item_number size base) (i == f) (item_place size base hd) (prev_at fs i)
      ∙ ap (λ k. cond (i == f) k (fro i)) (number-place size base hd pos inside_block))))

  elsewhere : (p : Queue) → Every (λ i. to' i ≡ to i) (listed p s)
  elsewhere p =
      Every-map (λ i. ((i < n) × (queue_at fs i ≡ p)) × (i ≢ f)) (λ i. to' i ≡ to i)
      (λ i m. put_elsewhere (n + 4) f hd to fro to' fro' hd_inside apart h.forth h.back to-is fro-is i
      (λ e. let high = head_high n q in let low = m.0.0 in omega arith) m.1)
      (listed p s) (Every-both (λ i. (i < n) × (queue_at fs i ≡ p)) (λ i. i ≢ f) (listed p s) (h.members p)
      (Every-lacks f (listed p s) (absent p)))

  ring_with : (p : Queue) → IsPath to' (head_of n p) (listed p (pushed f q s)) (head_of n p)
  ring_with p =
      elim (listed-pushed n f s p q) as (λ _. IsPath to' (head_of n p) (listed p (pushed f q s)) (head_of n p)) [
        | inl t ↦ subst (λ xs. IsPath to' (head_of n p) xs (head_of n p)) (sym t.1) (
          ap (λ r. to' (head_of n r)) t.0 ∙ put_at_head (n
              + 4) f hd to fro to' fro' hd_inside apart h.forth h.back to-is fro-is,
          path_kept to to' f (head_of n p) (listed p s) (head_of n p)
              (put_at_new (n + 4) f hd to fro to' fro' hd_inside apart h.forth h.back to-is fro-is
              ∙ ap (λ r. to (head_of n r)) (sym t.0)) (elsewhere p) (h.rings p),
        )
        | inr t ↦ subst (λ xs. IsPath to' (head_of n p) xs (head_of n p)) (sym t.1)
            (path_kept to to' (head_of n p) (head_of n p) (listed p s) (head_of n p)
            (put_elsewhere (n + 4) f hd to fro to' fro' hd_inside apart h.forth h.back to-is fro-is (head_of n p) t.0
            (λ e. let high = head_high n p in omega arith)) (elsewhere p) (h.rings p))
      ]

  member_new : queue_at ls f ≡ q
  member_new = linked-queue size base hd f q fs new front follows f ∙ at_same f f q (queue_at fs f) refl

  member_old : (p : Queue) → Every (λ i. (i < n) × (queue_at ls i ≡ p)) (listed p s)
  member_old p =
      Every-map (λ i. ((i < n) × (queue_at fs i ≡ p)) × (i ≢ f)) (λ i. (i < n) × (queue_at ls i ≡ p))
      (λ i m. (
        m.0.0,
        linked-queue size base hd f q fs new front follows i
            ∙ (at_other i f q (queue_at fs i) m.1 ∙ m.0.1),
      ))
      (listed p s) (Every-both (λ i. (i < n) × (queue_at fs i ≡ p)) (λ i. i ≢ f) (listed p s) (h.members p)
      (Every-lacks f (listed p s) (absent p)))

  members_with : (p : Queue) → Every (λ i. (i < n) × (queue_at ls i ≡ p)) (listed p (pushed f q s))
  members_with p =
      elim (listed-pushed n f s p q) as (λ _. Every (λ i. (i < n) × (queue_at ls i ≡ p)) (listed p (pushed f q s))) [
        | inl t ↦ subst (Every (λ i. (i < n) × (queue_at ls i ≡ p))) (sym t.1) (
          (below, member_new ∙ sym t.0),
          member_old p,
        )
        | inr t ↦ subst (Every (λ i. (i < n) × (queue_at ls i ≡ p))) (sym t.1) (member_old p)
      ]

  place_next : (i : ℕ) → i < n + 4 → IsItemPlace size base (n + 4) (next_at ls i)
  place_next i inside =
      subst (IsItemPlace size base (n + 4)) (sym (linked-next size base hd f q fs new front follows i))
      (cond-has (IsItemPlace size base (n + 4)) (i == hd) (item_place size base f)
      (cond (i == f) (next_at fs hd) (next_at fs i))
      (place-is_place size base (n + 4) f pos inside_block new_inside)
      (cond-has (IsItemPlace size base (n + 4)) (i == f) (next_at fs hd) (next_at fs i) (h.places hd hd_inside).0
      (h.places i inside).0))

  place_prev : (i : ℕ) → i < n + 4 → IsItemPlace size base (n + 4) (prev_at ls i)
  place_prev i inside =
      subst (IsItemPlace size base (n + 4)) (sym (linked-prev size base hd f q fs new front follows i))
      (cond-has (IsItemPlace size base (n + 4)) (i == to hd) (item_place size base f)
      (cond (i == f) (item_place size base hd) (prev_at fs i))
      (place-is_place size base (n + 4) f pos inside_block new_inside)
      (cond-has (IsItemPlace size base (n + 4)) (i == f) (item_place size base hd) (prev_at fs i)
      (place-is_place size base (n + 4) hd pos inside_block hd_inside) (h.places i inside).1))

  not_end : (k : ℕ) → k < n + 4 → k ≢ n + 4
  not_end k inside e = omega arith

  pub linked_linked : AreLinked size base n (n + 4) (pushed f q s) ls
  linked_linked = record {
    places = λ i inside. (place_next i inside, place_prev i inside);
    forth = λ i inside _. (
      put_there (n + 4) f hd to fro to' fro' hd_inside apart h.forth h.back to-is fro-is i inside,
      not_end (to' i) (place_next i inside).1,
    );
    back = λ i inside _. (
      put_back (n + 4) f hd to fro to' fro' hd_inside apart h.forth h.back to-is fro-is i inside,
      not_end (fro' i) (place_prev i inside).1,
    );
    numbers = λ i inside. linked-number size base hd f q fs new front follows i ∙ h.numbers i inside;
    rings = ring_with;
    members = members_with;
  }
