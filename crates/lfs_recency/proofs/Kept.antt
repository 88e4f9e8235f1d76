-- The lists that callers see, `shown`, follow the links: `front_is` for `Frames::to_front`, `oldest_some` and
-- `oldest_none` for `oldest`, `queue_is` for `queue`, `kept_written` for `bytes_mut`. A ring that is linked as a list
-- reads as this list (`ring_is`), and each number stands in one list, once (`IsWhole`), so a frame that moves leaves
-- one list and stands in one. `chain` ends at the first number that is no frame's, that of a head: heads that lay among
-- the frames would cut lists short.
use Rattle.std.proofs.Common.{◌≡◌, ℕ, ◌+◌, ◌<◌, ◌≤◌, cond, nat_lt, min, List, [], ◌∷◌, length, refl, sym, ap, subst}
use Rattle.std.proofs.Common.{◌∙◌, inl, inr, arith}
use Rattle.std.specs.Prelude.{map, take, Some, None}
use Rattle.std.proofs.Math.Nat.{eq-zero-or-pos}
use Rattle.std.proofs.Math.ListN.{get_or, set, length-set}
use Rattle.std.proofs.Math.Seq.{take-set-lt}
use Rattle.std.proofs.lemmas.List.{length-take, length-map, map-set, get_or-take, get_or-map}
use denote.RawPtr.{Ptr, InBlock}
use Rattle.lfs_recency.specs.declared.queue.Queue.{Queue}
use Rattle.lfs_recency.specs.declared.queue.Queue.TheVariants.{Locked, Lru, Age, Empty}
use Rattle.lfs_recency.specs.declared.frame.Frame.{Frame}
use Rattle.lfs_recency.specs.FrameLists.{FrameLists, listed, taken, fronted, times, times_in_all, frame_count}
use Rattle.lfs_recency.specs.FrameLists.{last_from, oldest_of, IsWhole}
use Rattle.lfs_recency.specs.Places.{item_number, IsItemPlace}
use Rattle.lfs_recency.specs.FrameLends.{with_bytes}
use Rattle.lfs_recency.specs.Lending.{with_block}
use Rattle.lfs_recency.specs.Links.{no_frame, frame_at, next_at, prev_at, number_at, queue_at, head_of, IsPath, Every}
use Rattle.lfs_recency.specs.Links.{step_by, unlinked, linked_after, ring, shown, IsLinked, AreLinked, count_all}
use Rattle.lfs_recency.specs.Links.{AreKept}
use Rattle.lfs_recency.proofs.Lists.{Every-map, Every-times, head_high, head_low, times-listed, length-listed}
use Rattle.lfs_recency.proofs.Lists.{times-taken_same, times-taken_other, whole-pushed, count-pushed, count-taken}
use Rattle.lfs_recency.proofs.Lists.{blocks-pushed, less_test}
use Rattle.lfs_recency.proofs.Rings.{chain_is, path_end}
use Rattle.lfs_recency.proofs.Fields.{frame_is, field-kept, unlinked-length, unlinked-bytes, linked-length}
use Rattle.lfs_recency.proofs.Fields.{linked-bytes}
use Rattle.lfs_recency.proofs.Linked.{unlinked_linked, linked_linked}

module _ (size : ℕ) (base : Ptr) (n but : ℕ) (s : FrameLists) (fs : List Frame) (h : AreLinked size base n but s fs)
    (count : count_all s ≡ n) where
  ring_is : (q : Queue) → ring size base n fs q ≡ listed q s
  ring_is q =
      chain_is (step_by size base (next_at fs)) n n (head_of n q) (head_of n q) (listed q s) (head_high n q)
      (let most = length-listed s q in omega arith)
      (Every-map (λ i. (i < n) × (queue_at fs i ≡ q)) (λ i. i < n) (λ i m. m.0) (listed q s) (h.members q)) (h.rings q)

  pub shown_is : s.blocks ≡ take n (map (λ (f : Frame). f.bytes) fs) → shown size base n fs ≡ s
  shown_is e = λ i. record {
    locked = ring_is Locked i;
    lru = ring_is Lru i;
    age = ring_is Age i;
    empty = ring_is Empty i;
    blocks = sym e i;
  }

min_is : (n m : ℕ) → n ≤ m → min n m ≡ n
min_is n m l = omega arith

pub frame_count_is : (n : ℕ) (fs : List Frame) → length fs ≡ n + 4 → length (take n (map (λ (f : Frame). f.bytes) fs))
    ≡ n
frame_count_is n fs long = let bytes : List (List ℕ) = map (λ (f : Frame). f.bytes) fs in let same : length bytes
    ≡ length fs = simp length-map in length-take n bytes ∙ min_is n (length bytes) (omega arith)

-- frames that are linked as some lists say, which hold each number once
pub kept_by : (size : ℕ) (base : Ptr) (n : ℕ) (s : FrameLists) (fs : List Frame) → length fs ≡ n + 4 → InBlock base
    → AreLinked size base n (n + 4) s fs
    → s.blocks ≡ take n (map (λ (f : Frame). f.bytes) fs) → count_all s ≡ n
    → ((g : ℕ) → times_in_all g s ≡ cond (nat_lt g n) 1 0) → AreKept size base n fs × (shown size base n fs ≡ s)
kept_by size base n s fs long inside linked blocks count whole =
    let same : shown size base n fs ≡ s = shown_is size base n (n + 4) s fs linked count blocks in (
      record {
        long = long;
        inside = inside;
        linked = subst (λ t. AreLinked size base n (n + 4) t fs) (sym same) linked;
        whole = subst IsWhole (sym same) (λ g. whole g
            ∙ ap (λ k. cond (nat_lt g k) 1 0) (sym (ap length blocks ∙ frame_count_is n fs long)));
        counted = ap count_all same ∙ count;
      },
      same,
    )

module _ (size : ℕ) (base : Ptr) (pos : 0 < size) (n f : ℕ) (q : Queue) (fs : List Frame) (below : f < n)
    (h : AreKept size base n fs) where
  abbrev s : FrameLists
  s = shown size base n fs

  abbrev fs1 : List Frame
  fs1 = unlinked size base f fs

  before : step_by size base (prev_at fs) f < length fs
  before = subst (λ k. step_by size base (prev_at fs) f < k) (sym h.long) (h.linked.places f (omega arith)).1.1

  after : step_by size base (next_at fs) f < length fs
  after = subst (λ k. step_by size base (next_at fs) f < k) (sym h.long) (h.linked.places f (omega arith)).0.1

  long1 : length fs1 ≡ n + 4
  long1 = unlinked-length size base f fs before after ∙ h.long

  linked1 : AreLinked size base n f (taken f s) fs1
  linked1 = unlinked_linked size base n f s fs h.long below h.linked

  abbrev fs2 : List Frame
  fs2 = linked_after size base (head_of n q) f q fs1

  pub next_kept : IsItemPlace size base (n + 4) (next_at fs1 (head_of n q))
  next_kept = (linked1.places (head_of n q) (head_low n q)).0

  absent : (p : Queue) → times f (listed p (taken f s)) ≡ 0
  absent p = let most = times-listed f (taken f s) p in let none = times-taken_same f s in omega arith

  linked2 : AreLinked size base n (n + 4) (fronted f q s) fs2
  linked2 = linked_linked size base pos h.inside n f q (taken f s) fs1 long1 below linked1 absent

  new : f < length fs1
  new = omega (arith, long1)

  front : head_of n q < length fs1
  front = subst (λ k. head_of n q < k) (sym long1) (head_low n q)

  follows : step_by size base (next_at fs1) (head_of n q) < length fs1
  follows = subst (λ k. step_by size base (next_at fs1) (head_of n q) < k) (sym long1)
      (linked1.places (head_of n q) (head_low n q)).0.1

  counts_all : frame_count s ≡ n
  counts_all = frame_count_is n fs h.long

  once : (g : ℕ) → times_in_all g s ≡ cond (nat_lt g n) 1 0
  once g = h.whole g ∙ ap (λ k. cond (nat_lt g k) 1 0) counts_all

  counted2 : count_all (fronted f q s) ≡ n
  counted2 =
      let one : times_in_all f s ≡ 1 = once f ∙ ap (λ b. cond b 1 0) (less_test f n below) in
      count-pushed f (taken f s) q ∙ omega (arith, count-taken f s, h.counted)

  bytes_same : (fronted f q s).blocks ≡ take n (map (λ (r : Frame). r.bytes) fs2)
  bytes_same =
      blocks-pushed f (taken f s) q ∙ ap (take n)
      (sym (linked-bytes size base (head_of n q) f q fs1 new front follows
      ∙ unlinked-bytes size base f fs before after))

  pub kept_in_front : AreKept size base n fs2 × (shown size base n fs2 ≡ fronted f q s)
  kept_in_front =
      kept_by size base n (fronted f q s) fs2 (linked-length size base (head_of n q) f q fs1 new front follows
      ∙ long1) h.inside linked2 bytes_same counted2
      (whole-pushed n f (taken f s) q below (λ g ne. times-taken_other f g s ne ∙ once g) (times-taken_same f s))

-- a number that stands in the four lists stands in one of them
some_list : (f : ℕ) (s : FrameLists) → 0 < times_in_all f s → (p : Queue) × (0 < times f (listed p s))
some_list f s some =
    elim (eq-zero-or-pos (times f s.locked)) as (λ _. (p : Queue) × (0 < times f (listed p s))) [
      | inr h ↦ (Locked, h)
      | inl a ↦ elim (eq-zero-or-pos (times f s.lru)) as (λ _. (p : Queue) × (0 < times f (listed p s))) [
        | inr h ↦ (Lru, h)
        | inl b ↦ elim (eq-zero-or-pos (times f s.age)) as (λ _. (p : Queue)
            × (0 < times f (listed p s))) [ inr h ↦ (Age, h) | inl c ↦ (Empty, omega arith) ]
      ]
    ]

-- a frame's queue is the one in whose list it stands
pub queue_is : (size : ℕ) (base : Ptr) (n f : ℕ) (fs : List Frame) → AreKept size base n fs → f < n
    → 0 < times f (listed (queue_at fs f) (shown size base n fs))
queue_is size base n f fs h below =
    let s : FrameLists = shown size base n fs in
    let once : times_in_all f s ≡ 1 = h.whole f
    ∙ (ap (λ k. cond (nat_lt f k) 1 0) (frame_count_is n fs h.long) ∙ ap (λ b. cond b 1 0) (less_test f n below)) in
    let found = some_list f s (omega arith) in
    let own : (f < n) × (queue_at fs f ≡ found.0) =
    Every-times (λ i. (i < n) × (queue_at fs i ≡ found.0)) f (listed found.0 s) (h.linked.members found.0) found.1
    in
    subst (λ p. 0 < times f (listed p s)) (sym own.1) found.1

-- the number before a queue's head, as the frame there says it
abbrev pub last_number : ℕ → Ptr → ℕ → List Frame → Queue → ℕ
last_number size base n fs q = number_at fs (step_by size base (prev_at fs) (head_of n q))

last_below : (n x : ℕ) (xs : List ℕ) → Every (λ i. i < n) (x ∷ xs) → last_from x xs < n
last_below n x [] all = all.0
last_below n x (y ∷ ys) all = last_below n y ys all.1

abbrev pub OldestIs : ℕ → ℕ → List ℕ → Type 0
OldestIs n k xs = (k < n → oldest_of xs ≡ Some k) × (n ≤ k → oldest_of xs ≡ None)

pub oldest_by : (step back number : ℕ → ℕ) (n h : ℕ) (xs : List ℕ) → n ≤ h → h < n + 4
    → ((i : ℕ) → i < n + 4 → back (step i) ≡ i) → ((i : ℕ) → i < n + 4 → number i ≡ min i n)
    → Every (λ i. i < n) xs → IsPath step h xs h → OldestIs n (number (back h)) xs
oldest_by step back number n h [] high low there numbers all p =
    let k-is : number (back h) ≡ min h n = ap (λ i. number (back i)) (sym p)
    ∙ (ap number (there h low) ∙ numbers h low) in
    ((λ below. absurd (omega arith)), (λ _. refl))
oldest_by step back number n h (x ∷ xs) high low there numbers all p =
    let below : last_from x xs < n = last_below n x xs all in
    let inside : last_from x xs < n + 4 = omega arith in
    let k-is : number (back h) ≡ min (last_from x xs) n = ap (λ i. number (back i)) (sym (path_end step x xs h p.1))
    ∙ (ap number (there (last_from x xs) inside) ∙ numbers (last_from x xs) inside) in
    let same : last_from x xs ≡ number (back h) = omega arith in
    ((λ _. ap Some same), (λ over. absurd (omega arith)))

module _ (size : ℕ) (base : Ptr) (n : ℕ) (fs : List Frame) (q : Queue) (h : AreKept size base n fs) where
  oldest_facts : OldestIs n (last_number size base n fs q) (listed q (shown size base n fs))
  oldest_facts =
      oldest_by (step_by size base (next_at fs)) (step_by size base (prev_at fs)) (number_at fs) n (head_of n q)
      (listed q (shown size base n fs)) (head_high n q) (head_low n q)
      (λ i inside. (h.linked.forth i inside (λ e. omega arith)).0) h.linked.numbers
      (Every-map (λ i. (i < n) × (queue_at fs i ≡ q)) (λ i. i < n) (λ i m. m.0) (listed q (shown size base n fs))
      (h.linked.members q)) (h.linked.rings q)

  pub oldest_some : last_number size base n fs q < n → oldest_of (listed q (shown size base n fs))
      ≡ Some (last_number size base n fs q)
  oldest_some = oldest_facts.0

  pub oldest_none : n ≤ last_number size base n fs q → oldest_of (listed q (shown size base n fs)) ≡ None
  oldest_none = oldest_facts.1

-- what an index shows is the head of the queue
pub head_is : (size : ℕ) (base : Ptr) (n : ℕ) (fs : List Frame) (q : Queue) → AreKept size base n fs
    → (hd : ℕ) (x : Frame) → hd ≡ head_of n q → x ≡ get_or fs hd x → x ≡ frame_at fs (head_of n q)
head_is size base n fs q h hd x at shows =
    frame_is fs (head_of n q) x (subst (λ k. head_of n q < k) (sym h.long) (head_low n q)) (shows
    ∙ ap (λ i. get_or fs i x) at)

-- the number of the frame before the head
pub before_head : (size : ℕ) (base : Ptr) (n : ℕ) (fs : List Frame) (q : Queue) (x r : Frame) → x
    ≡ frame_at fs (head_of n q) → r ≡ frame_at fs (item_number size base x.prev) → r.number
    ≡ last_number size base n fs q
before_head size base n fs q x r is shows = ap (λ (f : Frame). f.number) shows
    ∙ ap (λ (f : Frame). (frame_at fs (item_number size base f.prev)).number) is

-- a number below the count that callers see is one of a frame
pub frame_below : (size : ℕ) (base : Ptr) (n f : ℕ) (fs : List Frame) (s : FrameLists) → AreKept size base n fs
    → shown size base n fs ≡ s → f < frame_count s → f < n
frame_below size base n f fs s h same below =
    subst (λ k. f < k) (sym (ap frame_count same) ∙ frame_count_is n fs h.long) below

listed_same : (s s' : FrameLists) (q : Queue) → s'.locked ≡ s.locked → s'.lru ≡ s.lru → s'.age ≡ s.age → s'.empty
    ≡ s.empty → listed q s' ≡ listed q s
listed_same s s' Locked a b c d = a
listed_same s s' Lru a b c d = b
listed_same s s' Age a b c d = c
listed_same s s' Empty a b c d = d

-- the bytes of frame f replaced
module _ (size : ℕ) (base : Ptr) (n f : ℕ) (fs : List Frame) (below : f < n) (h : AreKept size base n fs)
    (w : List ℕ) where
  abbrev new_frame : Frame
  new_frame = with_bytes (frame_at fs f) w

  abbrev gs : List Frame
  gs = set fs f new_frame

  abbrev s' : FrameLists
  s' = with_block (shown size base n fs) f w

  inside_list : f < length fs
  inside_list = let long = h.long in omega arith

  next_same : next_at fs ≡ next_at gs
  next_same = λ t i. sym (field-kept (λ r. r.next) fs f new_frame i inside_list refl) t

  prev_same : prev_at fs ≡ prev_at gs
  prev_same = λ t i. sym (field-kept (λ r. r.prev) fs f new_frame i inside_list refl) t

  number_same : number_at fs ≡ number_at gs
  number_same = λ t i. sym (field-kept (λ r. r.number) fs f new_frame i inside_list refl) t

  queue_same : queue_at fs ≡ queue_at gs
  queue_same = λ t i. sym (field-kept (λ r. r.queue) fs f new_frame i inside_list refl) t

  same_lists : (q : Queue) → listed q (shown size base n fs) ≡ listed q s'
  same_lists q = sym (listed_same (shown size base n fs) s' q refl refl refl refl)

  linked_still : IsLinked size base n (next_at fs) (prev_at fs) (number_at fs) (queue_at fs) (n + 4) s'
  linked_still = record {
    places = h.linked.places;
    forth = h.linked.forth;
    back = h.linked.back;
    numbers = h.linked.numbers;
    rings = λ q. subst (λ xs. IsPath (step_by size base (next_at fs)) (head_of n q) xs (head_of n q)) (same_lists q)
        (h.linked.rings q);
    members = λ q. subst (Every (λ i. (i < n) × (queue_at fs i ≡ q))) (same_lists q) (h.linked.members q);
  }

  linked_new : AreLinked size base n (n + 4) s' gs
  linked_new =
      subst (λ (g : ℕ → Queue). IsLinked size base n (next_at gs) (prev_at gs) (number_at gs) g (n + 4) s') queue_same
      (subst (λ (g : ℕ → ℕ). IsLinked size base n (next_at gs) (prev_at gs) g (queue_at fs) (n + 4) s') number_same
      (subst (λ (g : ℕ → Ptr). IsLinked size base n (next_at gs) g (number_at fs) (queue_at fs) (n + 4) s') prev_same
      (subst (λ (g : ℕ → Ptr). IsLinked size base n g (prev_at fs) (number_at fs) (queue_at fs) (n + 4) s') next_same
      linked_still)))

  blocks_new : s'.blocks ≡ take n (map (λ (r : Frame). r.bytes) gs)
  blocks_new =
      sym (take-set-lt n (map (λ (r : Frame). r.bytes) fs) f w below)
      ∙ ap (take n) (sym (map-set (λ (r : Frame). r.bytes) fs f new_frame))

  pub kept_with_bytes : AreKept size base n gs × (shown size base n gs ≡ s')
  kept_with_bytes =
      kept_by size base n s' gs (length-set fs f new_frame ∙ h.long) h.inside linked_new blocks_new h.counted
      (λ g. h.whole g ∙ ap (λ k. cond (nat_lt g k) 1 0) (frame_count_is n fs h.long))

-- what follows the head of a queue after a frame has left its ring, as the contract of the call tells it
pub next_is : (size : ℕ) (base : Ptr) → 0 < size → (n f : ℕ) (q : Queue) (fs : List Frame) → f < n
    → AreKept size base n fs
    → (base1 : Ptr) (fs1 : List Frame) (hd len1 len : ℕ) → hd ≡ head_of n q → base1 ≡ base → fs1
    ≡ unlinked size base f fs → len1 ≡ len → len ≡ n + 4
    → IsItemPlace size base1 len1 (next_at fs1 hd)
next_is size base pos n f q fs below h base1 fs1 hd len1 len e0 e1 e2 e3 e4 =
    rw (e3, e4, e2, e1, e0) (next_kept size base pos n f q fs below h)

-- the two changes of the links, one after the other, as their contracts tell them
pub front_is : (size : ℕ) (base : Ptr) → 0 < size → (n f : ℕ) (q : Queue) (fs : List Frame) → f < n
    → AreKept size base n fs
    → (base1 base2 : Ptr) (fs1 fs2 : List Frame) (hd : ℕ) → hd ≡ head_of n q → base1 ≡ base → fs1
    ≡ unlinked size base f fs → base2 ≡ base1 → fs2 ≡ linked_after size base1 hd f q fs1
    → AreKept size base2 n fs2 × (shown size base2 n fs2 ≡ fronted f q (shown size base n fs))
front_is size base pos n f q fs below h base1 base2 fs1 fs2 hd e0 e1 e2 e3 e4 =
    rw (e4, e3, e2, e1, e0) (kept_in_front size base pos n f q fs below h)

-- the bytes that callers see are those of the frame
pub block_is : (size : ℕ) (base : Ptr) (n f : ℕ) (fs : List Frame) → AreKept size base n fs → f < n
    → get_or (shown size base n fs).blocks f [] ≡ (frame_at fs f).bytes
block_is size base n f fs h below =
    let long = h.long in get_or-take n (map (λ (r : Frame). r.bytes) fs) f [] below
    ∙ get_or-map (λ (r : Frame). r.bytes) fs f no_frame [] (omega arith)

-- the bytes of frame f replaced in what an index shows of it
pub kept_written : (size : ℕ) (base : Ptr) (n f : ℕ) (fs : List Frame) (s : FrameLists) (x : Frame)
    → AreKept size base n fs → shown size base n fs ≡ s → f < n → x ≡ get_or fs f x → (w : List ℕ)
    → AreKept size base n (set fs f (with_bytes x w))
    × (shown size base n (set fs f (with_bytes x w)) ≡ with_block s f w)
kept_written size base n f fs s x kept same below shows w =
    let long = kept.long in let is = frame_is fs f x (omega arith) shows in
    let both = kept_with_bytes size base n f fs below kept w in
    subst (λ (y : Frame). AreKept size base n (set fs f (with_bytes y w))
    × (shown size base n (set fs f (with_bytes y w)) ≡ with_block s f w)) (sym is)
    (both.0, both.1 ∙ ap (λ (t : FrameLists). with_block t f w) same)
