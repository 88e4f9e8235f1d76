-- The frames are made one after another, each in a ring of its own: `lone_more`, for the loop of `lone_frames`. Item i
-- lies i sizes behind the first (`place_next`), and both links of a frame are set to its own place, so it is alone in
-- its ring. A push and a write to the last item leave the items before, so what held of each of them holds still, and
-- with the new one of all (`field_all`). Before the first push the vector may have no block: then its place is null,
-- and is an item's all the same once one is put there (`place_behind`).
use Rattle.std.proofs.Common.{◌≡◌, ℕ, zero, suc, ◌+◌, ◌*◌, ◌<◌, List, [], ◌∷◌, ◌++◌, length, min, get_or, set, refl}
use Rattle.std.proofs.Common.{sym, ap, subst, ◌∙◌, inl, inr, add-one, arith}
use Rattle.std.proofs.Math.Nat.{zero-div, suc-mul}
use Rattle.std.proofs.Math.ListN.{length-set, get_or-append}
use Rattle.std.proofs.lemmas.List.{get_or_push, length_push}
use Rattle.std.proofs.lemmas.Bool.Decides.{eqb_tells}
use denote.RawPtr.{Ptr, block_ptr, null_ptr, ◌+ₚ◌, InBlock}
use Rattle.lfs_recency.specs.declared.frame.Frame.{Frame}
use Rattle.lfs_recency.specs.Places.{item_place, item_number, IsItemPlace}
use Rattle.lfs_recency.specs.Links.{no_frame, frame_at, next_at, prev_at, number_at}
use Rattle.lfs_recency.proofs.Rings.{at_same, at_other}
use Rattle.lfs_recency.proofs.Fields.{number-place, place-is_place, frame_is, field-set}

-- the first i of n frames and their heads are made, each in a ring of its own
pub record AreLone (size : ℕ) (base : Ptr) (n i : ℕ) (fs : List Frame) : Type 0 where
  pub long : length fs ≡ i
  pub numbers : (k : ℕ) → k < i → number_at fs k ≡ min k n
  pub next : (k : ℕ) → k < i → next_at fs k ≡ item_place size base k
  pub prev : (k : ℕ) → k < i → prev_at fs k ≡ item_place size base k

-- the place behind the items is one of them once an item is put there. The first place of all may be null
pub place_behind : (size : ℕ) (base : Ptr) (len i : ℕ) → 0 < size → (0 < i → InBlock base) → i < len
    → IsItemPlace size base len (item_place size base i)
place_behind size (block_ptr b o) len i pos inside below = place-is_place size (block_ptr b o) len i pos tt below
place_behind size null_ptr len zero pos inside below = (refl, subst (λ k. k < len) (sym (zero-div size)) below)
place_behind size null_ptr len (suc i) pos inside below = absurd (inside (omega arith))

-- the place of the next item is one size on
pub place_next : (size : ℕ) (base : Ptr) (i : ℕ) → item_place size base i +ₚ size ≡ item_place size base (i + 1)
place_next size (block_ptr b o) i = let more : (i + 1) * size ≡ i * size + size = ap (λ k. k * size) (add-one i)
    ∙ suc-mul i size in ap (block_ptr b) (omega (arith, more))
place_next size null_ptr i = refl

-- a field of frame k after a frame is put behind them and written
module _ {X : Type 0} (field : Frame → X) (fs : List Frame) (i : ℕ) (new written : Frame) (long : length fs ≡ i) where
  abbrev fs' : List Frame
  fs' = set (fs ++ new ∷ []) i written

  room : i < length (fs ++ new ∷ [])
  room = let e = length_push fs new in omega arith

  field_old : (k : ℕ) → k < i → field (frame_at fs' k) ≡ field (frame_at fs k)
  field_old k below =
      field-set field (fs ++ new ∷ []) i written k room
      ∙ (at_other k i (field written) (field (frame_at (fs ++ new ∷ []) k)) (λ e. omega arith)
      ∙ ap field (get_or-append fs (new ∷ []) no_frame k (omega arith)))

  field_new : field (frame_at fs' i) ≡ field written
  field_new = field-set field (fs ++ new ∷ []) i written i room
      ∙ at_same i i (field written) (field (frame_at (fs ++ new ∷ []) i)) refl

  -- what holds of the old ones and of the new one holds of all
  pub field_all : (P : ℕ → X → Type 0) → ((k : ℕ) → k < i → P k (field (frame_at fs k))) → P i (field written) → (k : ℕ)
      → k < i + 1 → P k (field (frame_at fs' k))
  field_all P old here k below =
      elim (eqb_tells k i) as (λ _. P k (field (frame_at fs' k))) [
        | inl t ↦ subst (λ j. P j (field (frame_at fs' j))) (sym t.1) (subst (P i) (sym field_new) here)
        | inr t ↦ let low : k < i = let ne = t.1 in omega arith in subst (P k) (sym (field_old k low)) (old k low)
      ]

-- one more frame, as the loop leaves it
pub lone_more : (size : ℕ) (base : Ptr) (n i : ℕ) (fs : List Frame) → 0 < size → InBlock base → AreLone size base n i fs
    → (fs1 : List Frame) (new got : Frame) (p : Ptr) → fs1 ≡ fs ++ new ∷ [] → got
    ≡ get_or fs1 (item_number size base p) got → p ≡ item_place size base i → new.number ≡ min i n
    → AreLone size base n (i + 1) (set fs1 (item_number size base p) (record got { prev = p; next = p }))
lone_more size base n i fs pos inside h fs1 new got p pushed shows here number =
    let at : item_number size base p ≡ i = ap (item_number size base) here ∙ number-place size base i pos inside in
    let grown : length (fs ++ new ∷ []) ≡ i + 1 = length_push fs new ∙ ap (λ k. k + 1) h.long in
    let is : got ≡ new =
    frame_is (fs ++ new ∷ []) i got (omega (arith, grown)) (shows ∙ ap (λ k. get_or fs1 k got) at
    ∙ ap (λ xs. get_or xs i got) pushed) ∙ get_or_push fs new no_frame i h.long in
    let written : Frame = record new { prev = p; next = p } in
    rw (at, pushed, is) (record {
      long = length-set (fs ++ new ∷ []) i written ∙ grown;
      numbers = field_all (λ r. r.number) fs i new written h.long (λ k m. m ≡ min k n) h.numbers number;
      next = field_all (λ r. r.next) fs i new written h.long (λ k q. q ≡ item_place size base k) h.next here;
      prev = field_all (λ r. r.prev) fs i new written h.long (λ k q. q ≡ item_place size base k) h.prev here;
    })
