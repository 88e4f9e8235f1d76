-- Each link, number and queue after `unlink` and `link_front`, as a choice by the frame's number: `unlinked_told`,
-- `linked_told`, and for Linked `unlinked-next`, `linked-prev` and the like. Both calls write into two or three frames
-- of one list, one behind the other; a write changes its own field at its own number (`field-set`) and no other field
-- (`field-kept`). The frames may be one and the same, as in a ring of one, so each is read again after the write before
-- it.
use Rattle.std.proofs.Common.{◌≡◌, ℕ, ◌+◌, ◌-◌, ◌*◌, ◌/◌, ◌<◌, cond, ◌==◌, List, length, refl, sym, ap, subst, ◌∙◌, inl}
use Rattle.std.proofs.Common.{inr, arith}
use Rattle.std.proofs.Math.ListN.{get_or, set, length-set}
use Rattle.std.proofs.Math.Nat.{mul-div_cancel}
use Rattle.std.proofs.Math.Seq.{map-set_same}
use Rattle.std.specs.Prelude.{map}
use Rattle.std.proofs.slice.Lists.{any-default}
use Rattle.std.proofs.lemmas.List.{get_or-set_same, get_or-set_other}
use Rattle.std.proofs.lemmas.Bool.Decides.{eqb_tells}
use denote.RawPtr.{Ptr, block_ptr, null_ptr, InBlock}
use Rattle.lfs_recency.specs.declared.queue.Queue.{Queue}
use Rattle.lfs_recency.specs.declared.frame.Frame.{Frame}
use Rattle.lfs_recency.specs.Places.{item_place, item_number, IsItemPlace}
use Rattle.lfs_recency.specs.Links.{no_frame, frame_at, next_at, prev_at, number_at, queue_at, with_next, with_prev}
use Rattle.lfs_recency.specs.Links.{step_by, unlinked, linked_after}
use Rattle.lfs_recency.proofs.Rings.{at_same, at_other}

-- the place of an item tells its number
pub number-place : (size : ℕ) (base : Ptr) (i : ℕ) → 0 < size → InBlock base
    → item_number size base (item_place size base i) ≡ i
number-place size (block_ptr b o) i pos inside =
    let e : o + i * size - o ≡ i * size = omega arith in ap (λ k. k / size) e ∙ mul-div_cancel i pos
number-place size null_ptr i pos inside = absurd inside

pub place-is_place : (size : ℕ) (base : Ptr) (len i : ℕ) → 0 < size → InBlock base → i < len
    → IsItemPlace size base len (item_place size base i)
place-is_place size base len i pos inside below = (
  ap (item_place size base) (sym (number-place size base i pos inside)),
  subst (λ k. k < len) (sym (number-place size base i pos inside)) below,
)

-- what an index shows is the frame there
pub frame_is : (fs : List Frame) (i : ℕ) (x : Frame) → i < length fs → x ≡ get_or fs i x → x ≡ frame_at fs i
frame_is fs i x inside e = e ∙ sym (any-default fs i no_frame x inside)

-- what is written into the two neighbours of a frame, as the references show them
pub unlinked_told : (size : ℕ) (base : Ptr) (f : ℕ) (fs : List Frame) (x y z w : Frame) → x ≡ frame_at fs f → y
    ≡ frame_at fs f
    → z ≡ frame_at fs (item_number size base x.prev)
    → w ≡ frame_at (set fs (item_number size base x.prev) (record z { next = y.next })) (item_number size base y.next)
    → set (set fs (item_number size base x.prev) (record z { next = y.next })) (item_number size base y.next)
    (record w { prev = x.prev }) ≡ unlinked size base f fs
unlinked_told size base f fs x y z w ex ey ez ew = rw (ew, ez, ey, ex) refl

-- what is written into a frame and its two neighbours, as the references show them
pub linked_told : (size : ℕ) (base : Ptr) (head f : ℕ) (q : Queue) (fs : List Frame) (this before : Ptr)
    (x y z w : Frame) (fs1 fs2 : List Frame)
    → this ≡ item_place size base f → before ≡ item_place size base head → item_number size base before ≡ head
    → x ≡ frame_at fs head → y ≡ frame_at fs f → fs1 ≡ set fs f (record y { prev = before; next = x.next; queue = q })
    → z ≡ frame_at fs1 (item_number size base x.next) → fs2
    ≡ set fs1 (item_number size base x.next) (record z { prev = this })
    → w ≡ frame_at fs2 (item_number size base before)
    → set fs2 (item_number size base before) (record w { next = this }) ≡ linked_after size base head f q fs
linked_told size base head f q fs this before x y z w fs1 fs2 et eb eh ex ey e1 ez e2 ew =
    rw (ew, eh, e2, ez, e1, ey, ex, eb, et) refl

-- a field of frame j after frame i is written
module _ {X : Type 0} (field : Frame → X) (fs : List Frame) (i : ℕ) (new : Frame) where
  pub field-set : (j : ℕ) → i < length fs → field (frame_at (set fs i new) j)
      ≡ cond (j == i) (field new) (field (frame_at fs j))
  field-set j inside =
      elim (eqb_tells j i) as (λ _. field (frame_at (set fs i new) j)
      ≡ cond (j == i) (field new) (field (frame_at fs j))) [
        | inl t ↦ ap (λ k. field (frame_at (set fs i new) k)) t.1
            ∙ (ap field (get_or-set_same fs i new no_frame inside)
            ∙ sym (at_same j i (field new) (field (frame_at fs j)) t.1))
        | inr t ↦ ap field (get_or-set_other fs i j new no_frame t.1)
            ∙ sym (at_other j i (field new) (field (frame_at fs j)) t.1)
      ]

  pub field-kept : (j : ℕ) → i < length fs → field new ≡ field (frame_at fs i) → field (frame_at (set fs i new) j)
      ≡ field (frame_at fs j)
  field-kept j inside same =
      elim (eqb_tells j i) as (λ _. field (frame_at (set fs i new) j) ≡ field (frame_at fs j)) [
        | inl t ↦ ap (λ k. field (frame_at (set fs i new) k)) t.1
            ∙ (ap field (get_or-set_same fs i new no_frame inside) ∙ (same ∙ ap (λ k. field (frame_at fs k)) (sym t.1)))
        | inr t ↦ ap field (get_or-set_other fs i j new no_frame t.1)
      ]

module _ (size : ℕ) (base : Ptr) (f : ℕ) (fs : List Frame)
    (before : step_by size base (prev_at fs) f < length fs) (after : step_by size base (next_at fs) f < length fs) where
  abbrev a : ℕ
  a = step_by size base (prev_at fs) f

  abbrev b : ℕ
  b = step_by size base (next_at fs) f

  abbrev fs1 : List Frame
  fs1 = with_next fs a (next_at fs f)

  still : b < length fs1
  still = subst (λ k. b < k) (sym (length-set fs a (record (frame_at fs a) { next = next_at fs f }))) after

  pub unlinked-next : (j : ℕ) → next_at (unlinked size base f fs) j ≡ cond (j == a) (next_at fs f) (next_at fs j)
  unlinked-next j =
      field-kept (λ r. r.next) fs1 b (record (frame_at fs1 b) { prev = prev_at fs f }) j still refl
      ∙ field-set (λ r. r.next) fs a (record (frame_at fs a) { next = next_at fs f }) j before

  pub unlinked-prev : (j : ℕ) → prev_at (unlinked size base f fs) j ≡ cond (j == b) (prev_at fs f) (prev_at fs j)
  unlinked-prev j =
      field-set (λ r. r.prev) fs1 b (record (frame_at fs1 b) { prev = prev_at fs f }) j still
      ∙ ap (cond (j == b) (prev_at fs f)) (field-kept (λ r. r.prev) fs a
      (record (frame_at fs a) { next = next_at fs f }) j before refl)

  pub unlinked-number : (j : ℕ) → number_at (unlinked size base f fs) j ≡ number_at fs j
  unlinked-number j =
      field-kept (λ r. r.number) fs1 b (record (frame_at fs1 b) { prev = prev_at fs f }) j still refl
      ∙ field-kept (λ r. r.number) fs a (record (frame_at fs a) { next = next_at fs f }) j before refl

  pub unlinked-queue : (j : ℕ) → queue_at (unlinked size base f fs) j ≡ queue_at fs j
  unlinked-queue j =
      field-kept (λ r. r.queue) fs1 b (record (frame_at fs1 b) { prev = prev_at fs f }) j still refl
      ∙ field-kept (λ r. r.queue) fs a (record (frame_at fs a) { next = next_at fs f }) j before refl

  pub unlinked-length : length (unlinked size base f fs) ≡ length fs
  unlinked-length = length-set fs1 b (record (frame_at fs1 b) { prev = prev_at fs f })
      ∙ length-set fs a (record (frame_at fs a) { next = next_at fs f })

  pub unlinked-bytes : map (λ r. r.bytes) (unlinked size base f fs) ≡ map (λ r. r.bytes) fs
  unlinked-bytes =
      map-set_same (λ (r : Frame). r.bytes) fs1 b (record (frame_at fs1 b) { prev = prev_at fs f }) no_frame refl
      ∙ map-set_same (λ (r : Frame). r.bytes) fs a (record (frame_at fs a) { next = next_at fs f }) no_frame refl

module _ (size : ℕ) (base : Ptr) (head f : ℕ) (q : Queue) (fs : List Frame)
    (new : f < length fs) (front : head < length fs) (after : step_by size base (next_at fs) head < length fs) where
  abbrev first : ℕ
  first = step_by size base (next_at fs) head

  abbrev here : Ptr
  here = item_place size base f

  abbrev own : Frame
  own = record (frame_at fs f) { prev = item_place size base head; next = next_at fs head; queue = q }

  abbrev ls1 : List Frame
  ls1 = set fs f own

  abbrev ls2 : List Frame
  ls2 = with_prev ls1 first here

  after1 : first < length ls1
  after1 = subst (λ k. first < k) (sym (length-set fs f own)) after

  front2 : head < length ls2
  front2 = subst (λ k. head < k) (sym (length-set ls1 first (record (frame_at ls1 first) { prev = here })
      ∙ length-set fs f own)) front

  pub linked-next : (j : ℕ) → next_at (linked_after size base head f q fs) j
      ≡ cond (j == head) here (cond (j == f) (next_at fs head) (next_at fs j))
  linked-next j =
      field-set (λ r. r.next) ls2 head (record (frame_at ls2 head) { next = here }) j front2
      ∙ ap (cond (j == head) here) (field-kept (λ r. r.next) ls1 first
      (record (frame_at ls1 first) { prev = here }) j after1 refl ∙ field-set (λ r. r.next) fs f own j new)

  pub linked-prev : (j : ℕ) → prev_at (linked_after size base head f q fs) j
      ≡ cond (j == first) here (cond (j == f) (item_place size base head) (prev_at fs j))
  linked-prev j =
      field-kept (λ r. r.prev) ls2 head (record (frame_at ls2 head) { next = here }) j front2 refl
      ∙ (field-set (λ r. r.prev) ls1 first (record (frame_at ls1 first) { prev = here }) j after1
      ∙ ap (cond (j == first) here) (field-set (λ r. r.prev) fs f own j new))

  pub linked-number : (j : ℕ) → number_at (linked_after size base head f q fs) j ≡ number_at fs j
  linked-number j =
      field-kept (λ r. r.number) ls2 head (record (frame_at ls2 head) { next = here }) j front2 refl
      ∙ (field-kept (λ r. r.number) ls1 first (record (frame_at ls1 first) { prev = here }) j after1 refl
      ∙ field-kept (λ r. r.number) fs f own j new refl)

  pub linked-queue : (j : ℕ) → queue_at (linked_after size base head f q fs) j ≡ cond (j == f) q (queue_at fs j)
  linked-queue j =
      field-kept (λ r. r.queue) ls2 head (record (frame_at ls2 head) { next = here }) j front2 refl
      ∙ (field-kept (λ r. r.queue) ls1 first (record (frame_at ls1 first) { prev = here }) j after1 refl
      ∙ field-set (λ r. r.queue) fs f own j new)

  pub linked-length : length (linked_after size base head f q fs) ≡ length fs
  linked-length = length-set ls2 head (record (frame_at ls2 head) { next = here })
      ∙ (length-set ls1 first (record (frame_at ls1 first) { prev = here }) ∙ length-set fs f own)

  pub linked-bytes : map (λ r. r.bytes) (linked_after size base head f q fs) ≡ map (λ r. r.bytes) fs
  linked-bytes =
      map-set_same (λ (r : Frame). r.bytes) ls2 head (record (frame_at ls2 head) { next = here }) no_frame refl
      ∙ (map-set_same (λ (r : Frame). r.bytes) ls1 first (record (frame_at ls1 first) { prev = here }) no_frame refl
      ∙ map-set_same (λ (r : Frame). r.bytes) fs f own no_frame refl)
