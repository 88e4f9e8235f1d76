-- A gainful segment is emptied by eights, and that gains room: `eights_more`, `emptied`, `spent_gains`, for
-- `gaining::mark_by_eights` and `empty_segment`. A marked block gets a place outside of the dirty segments and no key
-- moves into one later, so an info that was marked names nothing any more (`marked_gone`, `named_before`); and each key
-- that lies in the segment has an info there (`placed_listed`), so none lies there at the end. `Spends` adds up what
-- the eights take, with what is left behind where a segment is opened; `IsWorth` keeps it below a whole one, and a call
-- that wrote more than it was reckoned would break `spent_next`.
use Rattle.std.proofs.Common.{◌≡◌, ◌≢◌, ◌⊎◌, ℕ, zero, suc, ◌+◌, ◌*◌, ◌/◌, ◌<◌, ◌≤◌, List, [], ◌∷◌, ◌++◌, drop, get_or}
use Rattle.std.proofs.Common.{length, map, take, Bool, true, false, cond, max, refl, sym, ap, ◌∙◌, subst, inl, inr}
use Rattle.std.proofs.Common.{arith}
use Rattle.std.specs.Prelude.{◌||◌, ◌==◌, All}
use Rattle.std.specs.Bool.{Decides}
use Rattle.std.specs.Cmp.{IsEquivalence}
use Rattle.std.specs.List.{AllByRecursion, Contains, IsDistinct, filter, flat_map}
use Rattle.std.specs.Set.{distinct_count, is_member, unique_keys}
use Rattle.std.proofs.lemmas.Bool.{cases_Bool, cases_eq, cond-true, cond-false, false≢true, or_cases, or_left, or_parts}
use Rattle.std.proofs.lemmas.Bool.{or_right}
use Rattle.std.proofs.lemmas.Bool.Decides.{Decides-eqb}
use Rattle.std.proofs.lemmas.Cmp.{nat_eq_equiv}
use Rattle.std.proofs.lemmas.List.{drop-take, get_or-drop, get_or-take, length-drop, length-take, take-append-drop}
use Rattle.std.proofs.lemmas.List.{take-take, take_all}
use Rattle.std.proofs.lemmas.List.Elements.{All-append, All-contains, All-contains_itself, Contains-append_left}
use Rattle.std.proofs.lemmas.List.Elements.{Contains-append_right, Contains-append_cases, Contains-get_or}
use Rattle.std.proofs.lemmas.Map.Made.{is_member-Decides}
use Rattle.lfs_types.specs.declared.cleaner.BlockInfo.{BlockInfo}
use Rattle.lfs_segments.specs.Memory.{room_of}
use Rattle.lfs_log.specs.Parts.{state_of}
use Rattle.lfs_bmap.specs.declared.blocks.TheConstants.{BLOCK_CODES}
use Rattle.lfs_bmap.specs.Counting.{seg_of, total}
use Rattle.lfs_bmap.specs.Log.{IsPlaced, LogState}
use Rattle.lfs_bmap.specs.Moves.{DirtyIn, Moves, present_address}
use Rattle.lfs_bmap.proofs.CountingLemmas.{live-none}
use Rattle.lfs_bmap.proofs.LogLemmas.{dirty_not_active, dirty_not_clean}
use Rattle.lfs_bmap.proofs.MoveLemmas.{StaysDirty-refl, StaysDirty-trans, moves-trans, present_address-key}
use Rattle.lfs_cache.specs.Keys.{same_key}
use Rattle.lfs_parts.specs.declared.parts.Parts.{Parts}
use Rattle.lfs_parts.specs.Files.{content_of}
use Rattle.lfs_parts.specs.Keys.{log_state}
use Rattle.lfs_parts.specs.Store.{IsFlushed, IsStore}
use Rattle.lfs_segwrite.specs.Gaining.{Empties, IsGainful, IsWorth, MovesBlocks, MovesEights, Spends, blocks_by_eights}
use Rattle.lfs_segwrite.specs.Gaining.{eight, eight_blocks, eights, greatest, live_infos, pass_blocks, space, widest}
use Rattle.lfs_segwrite.specs.Gaining.{widest_eight}
use Rattle.lfs_segwrite.specs.Marking.{IsNamed, IsOnWay, IsRewritten, MarksFlushed, blocks_to_mark, code_named}
use Rattle.lfs_segwrite.specs.Marking.{keys_to_mark, number_named}
use Rattle.lfs_parts.specs.View.{key_of, version_of}
use Rattle.lfs_segwrite.proofs.CountingLemmas.{mapped, part_count, same_decides, same_laws}
use Rattle.lfs_segwrite.proofs.InfoLemmas.{live_kept, placed_listed}
use Rattle.lfs_segwrite.proofs.NamedLemmas.{named_place, named_there}

-- ---- lists
pub length_filter : {X : Type 0} (p : X → Bool) (xs : List X) → length (filter p xs) ≤ length xs
length_filter p [] = omega arith
length_filter p (x ∷ xs) =
    let rest = length_filter p xs in
    elim (cases_Bool (p x)) [
      | inl t ↦ let is = ap length (cond-true (p x) (x ∷ filter p xs) (filter p xs) t) in omega arith
      | inr f ↦ let is = ap length (cond-false (p x) (x ∷ filter p xs) (filter p xs) f) in omega arith
    ]

-- ---- fewer infos take no more
module _ {K : Type 0} {eq : K → K → Bool} (laws : IsEquivalence eq) (same : (a b : K) → Decides (eq a b) (a ≡ b)) where
  unique_step : (x q : K) (xs : List K) (b : Bool) → is_member eq xs x ≡ b
      → (is_member eq (unique_keys eq xs) q ≡ true → is_member eq xs q ≡ true)
      → is_member eq (cond (is_member eq xs x) (unique_keys eq xs) (x ∷ unique_keys eq xs)) q ≡ true
      → (eq q x || is_member eq xs q) ≡ true
  unique_step x q xs true t rest has =
      or_right (eq q x) (is_member eq xs q) (rest
      (subst (λ b. is_member eq (cond b (unique_keys eq xs) (x ∷ unique_keys eq xs)) q ≡ true) t has))
  unique_step x q xs false f rest has = elim
      (or_cases (eq q x) (is_member eq (unique_keys eq xs) q)
      (subst (λ b. is_member eq (cond b (unique_keys eq xs) (x ∷ unique_keys eq xs)) q ≡ true) f has)) [
        | inl here ↦ or_left (eq q x) (is_member eq xs q) here
        | inr later ↦ or_right (eq q x) (is_member eq xs q) (rest later)
      ]

  unique_from : (xs : List K) (q : K) → is_member eq (unique_keys eq xs) q ≡ true → is_member eq xs q ≡ true
  unique_from [] q has = has
  unique_from (x ∷ xs) q has = unique_step x q xs (is_member eq xs x) refl (unique_from xs q) has

  apart : (x : K) (ks : List K) → is_member eq ks x ≡ false → AllByRecursion (λ n. eq x n ≡ false) ks
  apart x [] none = tt
  apart x (k ∷ ks) none = let parts = or_parts (eq x k) (is_member eq ks x) none in (parts.0, apart x ks parts.1)

  unique_once : (xs : List K) → IsDistinct eq (unique_keys eq xs)
  unfolding IsDistinct
  unique_once [] = tt
  unique_once (x ∷ xs) = elim (cases_Bool (is_member eq xs x)) [
    | inl t ↦ subst (IsDistinct eq) (sym (cond-true (is_member eq xs x) (unique_keys eq xs) (x ∷ unique_keys eq xs) t))
        (unique_once xs)
    | inr f ↦
        let none : is_member eq (unique_keys eq xs) x ≡ false = elim (cases_Bool (is_member eq (unique_keys eq xs) x)) [
          | inl t ↦ absurd (false≢true (sym f ∙ unique_from xs x t))
          | inr g ↦ g
        ] in
        subst (IsDistinct eq) (sym (cond-false (is_member eq xs x) (unique_keys eq xs) (x ∷ unique_keys eq xs) f))
        (apart x (unique_keys eq xs) none, unique_once xs)
  ]

  fewer_distinct : (xs ys : List K) → ((q : K) → Contains xs q → Contains ys q)
      → distinct_count eq xs ≤ distinct_count eq ys
  fewer_distinct xs ys part = part_count laws same (unique_keys eq xs) ys (unique_once xs)
      (λ q m. part q ((is_member-Decides same xs q).0 (unique_from xs q m)))

joined : {X Y : Type 0} (f : X → List Y) (xs : List X) (x : X) (y : Y) → Contains xs x → Contains (f x) y
    → Contains (flat_map f xs) y
joined f [] x y has there = absurd (let none = has.1 in omega arith)
joined f (z ∷ xs) x y (zero, low, e) there =
    Contains-append_left (f z) (flat_map f xs) y (subst (λ w. Contains (f w) y) (sym e) there)
joined f (z ∷ xs) x y (suc k, low, e) there =
    Contains-append_right (f z) (flat_map f xs) y (joined f xs x y (k, omega arith, e) there)

joined_part : {X Y : Type 0} (f : X → List Y) (xs ys : List X) (y : Y) → All (λ x. Contains ys x) xs
    → Contains (flat_map f xs) y → Contains (flat_map f ys) y
joined_part f [] ys y all has = absurd (let none = has.1 in omega arith)
joined_part f (x ∷ xs) ys y all has = elim (Contains-append_cases (f x) (flat_map f xs) y has) [
  | inl here ↦ joined f ys x y (all 0 x (omega arith)) here
  | inr later ↦ joined_part f xs ys y (λ k d low. all (suc k) d (omega arith)) later
]

mapped_part : {X Y : Type 0} (f : X → Y) (xs ys : List X) (y : Y) → All (λ x. Contains ys x) xs → Contains (map f xs) y
    → Contains (map f ys) y
mapped_part f [] ys y all has = absurd (let none = has.1 in omega arith)
mapped_part f (x ∷ xs) ys y all (zero, low, e) = subst (Contains (map f ys)) e (mapped f ys x (all 0 x (omega arith)))
mapped_part f (x ∷ xs) ys y all (suc k, low, e) =
    mapped_part f xs ys y (λ j d less. all (suc j) d (omega arith)) (k, omega arith, e)

pub fewer_blocks : (named marks : List BlockInfo) → All (λ (info : BlockInfo). Contains marks info) named
    → blocks_to_mark named ≤ blocks_to_mark marks
fewer_blocks named marks all =
    let frames : distinct_count same_key (flat_map keys_to_mark named) ≤ distinct_count same_key
    (flat_map keys_to_mark marks)
    = fewer_distinct same_laws same_decides (flat_map keys_to_mark named) (flat_map keys_to_mark marks)
    (λ q. joined_part keys_to_mark named marks q all) in
    let records : distinct_count ◌==◌ (map number_named named) ≤ distinct_count ◌==◌ (map number_named marks)
    = fewer_distinct nat_eq_equiv Decides-eqb (map number_named named) (map number_named marks)
    (λ n. mapped_part number_named named marks n all) in
    omega arith

-- ---- sums
pub total_more : (f : ℕ → ℕ) (n : ℕ) → total f (n + 1) ≡ f n + total f n
unfolding total
total_more f n = let one : n + 1 ≡ suc n = omega arith in rw one refl

pub greatest_more : (f : ℕ → ℕ) (n : ℕ) → greatest f (n + 1) ≡ max (f n) (greatest f n)
unfolding greatest
greatest_more f n = let one : n + 1 ≡ suc n = omega arith in rw one refl

total_below : (f : ℕ → ℕ) (m n : ℕ) → m ≤ n → total f m ≤ total f n
unfolding total
total_below f m zero le = let none : m ≡ 0 = omega arith in rw none (omega arith)
total_below f m (suc n) le = elim (cases_eq m (suc n)) [
  | inl is ↦ subst (λ k. total f m ≤ total f k) is (omega arith)
  | inr other ↦ let rest = total_below f m n (omega arith) in omega arith
]

greatest_part : (f : ℕ → ℕ) (n k : ℕ) → k < n → f k ≤ greatest f n
unfolding greatest
greatest_part f zero k low = absurd (omega arith)
greatest_part f (suc n) k low = elim (cases_eq k n) [
  | inl is ↦ subst (λ j. f j ≤ max (f n) (greatest f n)) (sym is) (omega arith)
  | inr other ↦ let rest = greatest_part f n k (omega arith) in omega arith
]

pub widest_part : (infos : List BlockInfo) (k : ℕ) → k < eights infos → eight_blocks infos k ≤ widest_eight infos
unfolding widest_eight
widest_part infos k low = greatest_part (eight_blocks infos) (eights infos) k low

pub total_part : (infos : List BlockInfo) (k : ℕ) → k < eights infos → eight_blocks infos k
    + total (eight_blocks infos) k ≤ blocks_by_eights infos
unfolding blocks_by_eights
total_part infos k low =
    let more = total_more (eight_blocks infos) k in
    let below = total_below (eight_blocks infos) (k + 1) (eights infos) (omega arith) in
    omega arith

-- ---- room
-- there is room for the next
pub room_next : (blocks most before next : ℕ) (old mid : Parts) → IsWorth blocks most old → Spends before most old mid
    → next + before ≤ blocks
    → (0 < mid.log.clean) ⊎ (next ≤ room_of mid.log.memory)
room_next blocks most before next old mid worth spent fits =
    let less = worth.0 in
    elim spent [
      | inl here ↦
          let same = here.0 in
          let left = here.1 in
          elim worth.1 [ inl enough ↦ inr (omega arith) | inr one ↦ let some = one.0 in inl (omega arith) ]
      | inr opened ↦ let left = opened.1 in inr (omega arith)
    ]

-- what the next takes
pub spent_next : (blocks most before next : ℕ) (marks : List BlockInfo) (count : ℕ) (old mid new : Parts)
    → IsWorth blocks most old → Spends before most old mid
    → MarksFlushed marks count mid new → blocks_to_mark marks ≡ next → next + before ≤ blocks → next ≤ most
    → Spends (next + before) most old new
spent_next blocks most before next marks count old mid new worth spent m is fits narrow =
    let less = worth.0 in
    let fewer = fewer_blocks m.named marks m.are_named.marked in
    elim spent [
      | inl here ↦
          let same = here.0 in
          let left = here.1 in
          elim m.left [
            | inl still ↦ let rest = still.1 in let clean = still.2 in inl (omega arith, omega arith)
            | inr opened ↦ let rest = opened.0 in let clean = opened.1 in let short = opened.2 in
                inr (omega arith, omega arith, omega arith, omega arith)
          ]
      | inr one ↦
          let same = one.0 in
          let left = one.1 in
          let more = one.2 in
          let past = one.3 in
          elim m.left [
            | inl still ↦ let rest = still.1 in let clean = still.2 in
                inr (omega arith, omega arith, omega arith, omega arith)
            | inr opened ↦ let short = opened.2 in absurd (omega arith)
          ]
    ]

pub spent_none : (most : ℕ) (p : Parts) → Spends 0 most p p
spent_none most p = inl (refl, omega arith)

-- what was spent is less than a segment
pub spent_gains : (blocks most : ℕ) (old new : Parts) → IsWorth blocks most old → Spends blocks most old new
    → space old < space new + 63
spent_gains blocks most old new worth spent =
    let less = worth.0 in
    elim spent [
      | inl here ↦ let same = here.0 in let left = here.1 in omega arith
      | inr one ↦ let same = one.0 in let left = one.1 in let more = one.2 in let past = one.3 in elim worth.1 [
        | inl enough ↦ absurd (omega arith)
        | inr some ↦ let sum = some.1 in omega arith
      ]
    ]

-- ---- eights
-- the first eights and the next
pub take_eights : (infos : List BlockInfo) (k : ℕ) → take (8 * (k + 1)) infos ≡ take (8 * k) infos ++ eight infos k
take_eights infos k =
    let more : 8 * (k + 1) ≡ 8 * k + 8 = omega arith in
    let split = take-append-drop (8 * k) (take (8 * k + 8) infos) in
    ap (λ n. take n infos) more ∙ sym split
    ∙ ap (λ (xs : List BlockInfo). xs ++ drop (8 * k) (take (8 * k + 8) infos))
    (take-take (8 * k) (8 * k + 8) infos (omega arith))
    ∙ ap (λ (xs : List BlockInfo). take (8 * k) infos ++ xs) (drop-take (8 * k) 8 infos)

pub part_of_eight : (P : BlockInfo → Type 0) (infos : List BlockInfo) (k : ℕ) → All P infos → All P (eight infos k)
part_of_eight P infos k all j d low =
    let shorter = length-drop (8 * k) infos in
    let taken = length-take 8 (drop (8 * k) infos) in
    subst P (sym (get_or-take 8 (drop (8 * k) infos) j d (omega arith) ∙ get_or-drop (8 * k) infos j d))
    (all (8 * k + j) d (omega arith))

pub part_of_first : (P : BlockInfo → Type 0) (infos : List BlockInfo) (n : ℕ) → All P infos → All P (take n infos)
part_of_first P infos n all j d low =
    let taken = length-take n infos in
    subst P (sym (get_or-take n infos j d (omega arith))) (all j d (omega arith))

-- ---- what was named before
-- an info of a segment that was dirty names a block only where it did before
pub named_before : (old new : LogState) (info : BlockInfo) → Moves (DirtyIn old) old new → DirtyIn old (info.addr / 64)
    → IsNamed new info → IsNamed old info
named_before old new info moves dirty h =
    let code = code_named info.lbn in
    let there = named_there new info h in
    let at = named_place new info h in
    let seg : info.addr / 64 ≡ seg_of (new.at info.ino code) = omega arith in
    let within : DirtyIn old (seg_of (new.at info.ino code)) = subst (DirtyIn old) seg dirty in
    let placed : IsPlaced new info.ino code = there.0 in
    let place = moves.places info.ino code placed within in
    let version = moves.versions info.ino code placed within in
    let low : info.ino < old.numbers = subst (λ n. info.ino < n) moves.numbers placed.number_below in
    record {
      somewhere = h.somewhere;
      present =
          ap (λ v. present_address old info.ino v code) (sym (version ∙ there.1))
          ∙ present_address-key old info.ino code low placed.code_below ∙ ap (λ n. n / 4) place ∙ at;
    }

-- a marked one names none any more
pub marked_gone : (old new : Parts) (marks : List BlockInfo) (count : ℕ) (info : BlockInfo)
    → MarksFlushed marks count old new → Contains marks info
    → DirtyIn (log_state old) (info.addr / 64) → IsNamed (log_state new) info → ⊥
marked_gone old new marks count info m has dirty h =
    let before = named_before (log_state old) (log_state new) info m.log.moves dirty h in
    let listed = m.are_named.each info has before in
    let again : IsRewritten (log_state old) (log_state new) info
    = subst (IsRewritten (log_state old) (log_state new)) listed.2 (m.rewritten listed.0 info listed.1) in
    let at = named_place (log_state new) info h in
    let seg : info.addr / 64 ≡ seg_of ((log_state new).at info.ino (code_named info.lbn)) = omega arith in
    again.outside (subst (DirtyIn (log_state old)) seg dirty)

-- ---- blocks that moved
pub moves_none : (p : Parts) → IsStore p → IsFlushed p → MovesBlocks p p
moves_none p store flushed = record {
  store = store;
  flushed = flushed;
  content = refl;
  segments = refl;
  serials = refl;
  rising = λ r. r;
  whole = λ r. r;
  ordered = λ r order. order;
  numbers = refl;
  used = λ n. refl;
  versions = λ n. refl;
  moves = record { numbers = refl; places = λ n c there within. refl; versions = λ n c there within. refl };
  dirty = StaysDirty-refl (log_state p);
  label = refl;
  blocks = λ a low dirty. refl;
}

pub moves_more : (old mid new : Parts) (marks : List BlockInfo) (count : ℕ) → MovesBlocks old mid → IsStore new
    → IsFlushed new → content_of new ≡ content_of mid
    → MarksFlushed marks count mid new → MovesBlocks old new
moves_more old mid new marks count h store flushed content m =
    let still : (s : ℕ) → s < old.log.memory.segments → DirtyIn (log_state old) s
    → DirtyIn (log_state mid) s = h.dirty.dirty in
    let all : new.log.memory.segments ≡ old.log.memory.segments = m.log.segments ∙ h.segments in
    let inside : (n c : ℕ) → IsPlaced (log_state new) n c → seg_of ((log_state new).at n c) < old.log.memory.segments
    = λ n c there. let place = (store.log.keys n c there).in_volume in omega arith in
    record {
      store = store;
      flushed = flushed;
      content = content ∙ h.content;
      segments = all;
      serials = m.log.serials ∙ h.serials;
      rising = λ r. m.log.rising (h.rising r);
      whole = λ r. m.log.whole (h.whole r);
      ordered = λ r order. m.log.ordered (h.whole r) (h.ordered r order);
      numbers = m.log.numbers ∙ h.numbers;
      used = λ n. m.used n ∙ h.used n;
      versions = λ n. m.versions n ∙ h.versions n;
      moves = moves-trans (DirtyIn (log_state old)) (log_state old) (log_state mid) (log_state new) h.moves (record {
        numbers = m.log.moves.numbers;
        places = λ n c there dirty. m.log.moves.places n c there (still _ (inside n c there) dirty);
        versions = λ n c there dirty. m.log.moves.versions n c there (still _ (inside n c there) dirty);
      });
      dirty = StaysDirty-trans (log_state old) (log_state mid) (log_state new) h.dirty m.log.dirty;
      label = m.log.label ∙ h.label;
      blocks = λ a low dirty.
          let was = still (a / 64) low dirty in
          m.log.blocks a (λ clean. dirty_not_clean (sym was ∙ clean))
          (λ here. absurd (dirty_not_active (sym was ∙ ap (state_of mid.log.tables) here
          ∙ h.store.log.segments.is_active)))
          ∙ h.blocks a low dirty;
    }

-- an info of a dirty segment of the volume
abbrev pub LiesDirty : Parts → BlockInfo → Type 0
LiesDirty p info = DirtyIn (log_state p) (info.addr / 64) × (info.addr / 64 < p.log.memory.segments)

-- what is on a way to one of some infos is on one to one of a list that has them
way_part : (named infos : List BlockInfo) (old mid : Parts) → All (λ (info : BlockInfo). Contains infos info) named
    → ((n : ℕ) → version_of mid n ≡ version_of old n)
    → (n c : ℕ) → IsOnWay named mid n c → IsOnWay infos old n c
way_part named infos old mid part version n zero way = mapped_part number_named named infos n part way
way_part named infos old mid part version n (suc code) way =
    subst (λ v. Contains (flat_map keys_to_mark infos) (key_of n v (suc code))) (version n)
    (joined_part keys_to_mark named infos (key_of n (version_of mid n) (suc code)) part way)

eight_part : (infos : List BlockInfo) (k : ℕ) (info : BlockInfo) → Contains (eight infos k) info → Contains infos info
eight_part infos k info has =
    All-contains (λ (i : BlockInfo). Contains infos i) (eight infos k) info
    (part_of_eight (λ (i : BlockInfo). Contains infos i) infos k (All-contains_itself infos)) has

-- one eight more
pub eights_more : (infos : List BlockInfo) (k count : ℕ) (old mid new : Parts)
    → IsWorth (blocks_by_eights infos) (widest_eight infos) old → All (LiesDirty old) infos
    → k < eights infos → MovesEights infos k old mid → IsStore new → IsFlushed new → content_of new ≡ content_of mid
    → MarksFlushed (eight infos k) count mid new
    → MovesEights infos (k + 1) old new
eights_more infos k count old mid new worth lie low h store flushed content m =
    let dirty : (info : BlockInfo) → LiesDirty old info
    → DirtyIn (log_state mid) (info.addr / 64) = λ info l. h.moved.dirty.dirty (info.addr / 64) l.1 l.0 in
    let first : All (λ (info : BlockInfo). IsNamed (log_state new) info → ⊥) (take (8 * k) infos) =
    λ j d less named.
    let info = get_or (take (8 * k) infos) j d in
    h.gone j d less (named_before (log_state mid) (log_state new) info m.log.moves
    (dirty info (part_of_first (LiesDirty old) infos (8 * k) lie j d less)) named) in
    let next : All (λ (info : BlockInfo). IsNamed (log_state new) info → ⊥) (eight infos k) =
    λ j d less named.
    let info = get_or (eight infos k) j d in
    marked_gone mid new (eight infos k) count info m (Contains-get_or (eight infos k) j d less)
    (dirty info (part_of_eight (LiesDirty old) infos k lie j d less)) named in
    record {
      moved = moves_more old mid new (eight infos k) count h.moved store flushed content m;
      gone =
          subst (All (λ (info : BlockInfo). IsNamed (log_state new) info → ⊥)) (sym (take_eights infos k))
          (All-append (λ (info : BlockInfo). IsNamed (log_state new) info → ⊥) (take (8 * k) infos)
          (eight infos k) first next);
      still = λ n c below known other.
          m.still n c (subst (λ r. n < r) (sym h.moved.numbers) below) known (λ way.
          other (way_part m.named infos old mid (λ j d less. eight_part infos k (get_or m.named j d)
          (m.are_named.marked j d less)) h.moved.versions n c way))
          ∙ h.still n c below known other;
      spent =
          subst (λ n. Spends n (widest_eight infos) old new) (sym (total_more (eight_blocks infos) k))
          (spent_next (blocks_by_eights infos) (widest_eight infos) (total (eight_blocks infos) k)
          (eight_blocks infos k) (eight infos k) count old mid new worth h.spent m refl
          (total_part infos k low) (widest_part infos k low));
    }

-- it still names its block where that has the place that it had
still_named : (old new : LogState) (info : BlockInfo) → info.ino < new.numbers → new.version info.ino
    ≡ old.version info.ino
    → new.at info.ino (code_named info.lbn) ≡ old.at info.ino (code_named info.lbn) → IsNamed old info
    → IsNamed new info
still_named old new info low version place h =
    let code = code_named info.lbn in
    let there = named_there old info h in
    let key : present_address new info.ino (new.version info.ino) code
    ≡ new.at info.ino code / 4 = present_address-key new info.ino code low there.0.code_below in
    let same : new.version info.ino ≡ info.version = version ∙ there.1 in
    let at : new.at info.ino code / 4 ≡ info.addr = ap (λ n. n / 4) place ∙ named_place old info h in
    record {
      somewhere = h.somewhere;
      present =
          subst (λ v. present_address new info.ino v code ≡ info.addr) same (key ∙ at);
    }

-- ---- a segment that was emptied
same_place : (old new : Parts) (n c : ℕ) (info : BlockInfo) → (log_state old).at n c ≡ (log_state new).at n c → info.ino
    ≡ n → code_named info.lbn ≡ c
    → (log_state new).at info.ino (code_named info.lbn) ≡ (log_state old).at info.ino (code_named info.lbn)
same_place old new n c info place number code =
    subst (λ m. (log_state new).at m (code_named info.lbn) ≡ (log_state old).at m (code_named info.lbn)) (sym number)
    (subst (λ d. (log_state new).at n d ≡ (log_state old).at n d) (sym code) (sym place))

pub emptied : (segment : ℕ) (old new : Parts) → IsStore old → IsGainful old segment
    → MovesEights (live_infos old segment) (eights (live_infos old segment)) old new → Empties segment old new
unfolding blocks_by_eights
emptied segment old new store gain h =
    let infos = live_infos old segment in
    let inside : segment < new.log.memory.segments = subst (λ n. segment < n) (sym h.moved.segments) gain.inside in
    let all : All (λ (info : BlockInfo). IsNamed (log_state new) info → ⊥) infos
    = subst (All (λ (info : BlockInfo). IsNamed (log_state new) info → ⊥))
    (take_all (8 * eights infos) infos (omega arith)) h.gone in
    let none : (n c : ℕ) → n < length new.log.tables.rows → c < BLOCK_CODES → (log_state new).at n c ≢ 0
    → seg_of ((log_state new).at n c) ≢ segment =
    λ n c low below some here.
    let placed : IsPlaced (log_state new) n c = record { number_below = low; code_below = below; somewhere = some } in
    let within : DirtyIn (log_state old) (seg_of ((log_state new).at n c)) =
    subst (DirtyIn (log_state old)) (sym here) gain.dirty in
    let place = h.moved.moves.places n c placed within in
    let was : IsPlaced (log_state old) n c = record {
      number_below = subst (λ m. n < m) h.moved.numbers low;
      code_below = below;
      somewhere = λ e. some (sym place ∙ e);
    } in
    let listed = placed_listed old segment n c store was (ap seg_of place ∙ here) in
    let info = listed.info in
    let same = same_place old new n c info place listed.number_is listed.code_is in
    let number_low : info.ino < length new.log.tables.rows =
    subst (λ m. m < length new.log.tables.rows) (sym listed.number_is) low in
    let named = still_named (log_state old) (log_state new) info number_low
    (h.moved.versions info.ino) same listed.named in
    All-contains (λ (i : BlockInfo). IsNamed (log_state new) i → ⊥) infos info all
    (live_kept old segment info listed.there listed.named) named in
    record {
      moved = h.moved;
      dirty = h.moved.dirty.dirty segment gain.inside gain.dirty;
      empty = h.moved.store.log.counted segment inside
          ∙ live-none (length new.log.tables.rows) BLOCK_CODES (log_state new).at segment none;
      still = h.still;
      spent = h.spent;
      gains = spent_gains (pass_blocks old segment) (widest old segment) old new gain.worth h.spent;
    }
