-- Each call leaves a cache that shows what its definition says: `get_step`, `fill_step`, `write_step`,
-- `write_fresh_step`, `settle_step`, `forget_step`, for `Cache`'s functions of these names. A key that is held has one
-- frame, in LOCKED or in LRU (`one_queue`), so moving the frame is moving its entry; a key at no frame gets the one
-- that is next, whose own key, if it had one, was clean and gives way. The limit of 24 LOCKED keys is kept at each
-- step, as `has_next` of Fresh rests on it.
use Rattle.std.proofs.Common.{◌≡◌, ◌≢◌, ◌⊎◌, ℕ, ◌+◌, ◌<◌, ◌≤◌, false, cond, nat_lt, List, [], ◌∷◌, length, Option, Some}
use Rattle.std.proofs.Common.{None, refl, sym, ap, subst, ◌∙◌, inl, inr, arith}
use Rattle.std.specs.Prelude.{map}
use Rattle.std.proofs.Math.Nat.{eq-zero-or-pos}
use Rattle.std.proofs.Math.ListN.{get_or, set, length-set}
use Rattle.std.proofs.lemmas.List.{get_or-set_same, get_or-set_other, length-map}
use Rattle.std.proofs.lemmas.Bool.{cases_eq}
use Rattle.lfs_types.specs.declared.block.TheConstants.{BLOCK_SIZE}
use Rattle.lfs_recency.specs.declared.queue.Queue.{Queue}
use Rattle.lfs_recency.specs.declared.queue.Queue.TheVariants.{Locked, Lru, Age, Empty}
use Rattle.lfs_recency.specs.FrameLists.{FrameLists, frame_count, listed, without, taken, fronted, times, IsWhole}
use Rattle.lfs_recency.specs.Lending.{with_block}
use Rattle.lfs_recency.proofs.Lists.{length-without, times-taken_same, times-taken_other, whole-pushed, blocks-pushed}
use Rattle.lfs_cache.specs.declared.key.Key.{Key}
use Rattle.lfs_cache.specs.Keys.{same_key}
use Rattle.lfs_cache.specs.Index.{key_at}
use Rattle.lfs_cache.specs.Frames.{name_or, names_without, names_after, next_of, HasRoom, HoldsNoOther}
use Rattle.lfs_cache.specs.Contents.{Contents, block_in, block_of, removed, locked_first, lru_first, used, used_by}
use Rattle.lfs_cache.specs.Contents.{filled, written, written_by, settled, settled_by, forgotten, forgotten_by}
use Rattle.lfs_cache.specs.Contents.{IsLocked, or_else, keys_of}
use Rattle.lfs_cache.specs.Held.{name_at, entry_at, held_by, AreHeld, AreSized, IsCache}
use Rattle.lfs_cache.proofs.Entries.{same_is, same_cases, without_absent, block_found, block_absent, block_missing}
use Rattle.lfs_cache.proofs.Cached.{none_not, some_is, in_range, once, key_range, not_free, in_one, alone_locked}
use Rattle.lfs_cache.proofs.Cached.{alone_lru, but_held, rest_removed, rest_left, to_locked, to_lru, names_left}
use Rattle.lfs_cache.proofs.Cached.{names_length, locked_held, lru_held}
use Rattle.lfs_cache.proofs.Fresh.{next_range, block_held, new_is, fresh_held, fresh_taken, fresh_length}
use Rattle.lfs_cache.proofs.Fresh.{not_locked_next, forgotten_held, forgotten_view}

pub whole_fronted : (l : FrameLists) (f : ℕ) → IsWhole l → f < frame_count l → (q : Queue) → IsWhole (fronted f q l)
whole_fronted l f whole low q g =
    whole-pushed (frame_count l) f (taken f l) q low (λ g ne. times-taken_other f g l ne ∙ whole g)
    (times-taken_same f l) g
    ∙ ap (λ bs. cond (nat_lt g (length bs)) 1 0) (sym (blocks-pushed f (taken f l) q))

-- each frame with a key has a whole block after a whole block came into the frame f
pub sized_at : (keys keys' : List (Option Key)) (blocks : List (List ℕ)) (f : ℕ) (w : List ℕ) → f < length blocks → length w
    ≡ BLOCK_SIZE → ((g : ℕ) → g ≢ f → key_at keys' g ≡ key_at keys g) → AreSized keys blocks
    → AreSized keys' (set blocks f w)
sized_at keys keys' blocks f w low whole agree all = λ g k is.
    elim (cases_eq g f) as (λ _. length (get_or (set blocks f w) g []) ≡ BLOCK_SIZE) [
      | inl same ↦ ap (λ z. length (get_or (set blocks f w) z [])) same
          ∙ (ap length (get_or-set_same blocks f w [] low) ∙ whole)
      | inr ne ↦ ap length (get_or-set_other blocks f g w [] ne) ∙ all g k (sym (agree g ne) ∙ is)
    ]

-- and after the frame f has lost its key
sized_less : (keys : List (Option Key)) (blocks : List (List ℕ)) (f : ℕ) → f < length keys → AreSized keys blocks
    → AreSized (set keys f None) blocks
sized_less keys blocks f low all = λ g k is.
    elim (cases_eq g f) as (λ _. length (get_or blocks g []) ≡ BLOCK_SIZE) [
      | inl same ↦ absurd (none_not (key_at (set keys f None) f) k (get_or-set_same keys f None None low)
          (ap (key_at (set keys f None)) (sym same) ∙ is))
      | inr ne ↦ all g k (sym (get_or-set_other keys f g None None ne) ∙ is)
    ]

-- the LOCKED keys are without a key whose frame is not in LOCKED
names_stay : (l : FrameLists) (keys : List (Option Key)) (f : ℕ) (names : List Key) (k : Key) → AreHeld l keys f names
    → key_at keys f ≡ Some k → ((q : Queue) → IsWhole (fronted f q l)) → times f l.locked ≡ 0 → names_without k names
    ≡ names
names_stay l keys f names k h is whole' none =
    names_left l keys f names k h is whole' ∙ (ap (map (name_at keys)) (without_absent f l.locked none) ∙ sym h.named)

-- a key that is at the frame f
module _ (l : FrameLists) (keys : List (Option Key)) (names : List Key) (capacity f : ℕ) (k : Key)
    (h : IsCache l keys names capacity) (is : key_at keys f ≡ Some k) where
  low : f < frame_count l
  low = key_range l keys (frame_count l) f names k h.are is

  abbrev b : List ℕ
  b = get_or l.blocks f []

  abbrev s : Contents
  s = held_by l keys

  pub found_locked : 0 < times f l.locked → block_in k s.locked ≡ Some b
  found_locked some = block_found keys l.blocks k f is l.locked some (alone_locked l keys f names k h.are is)

  pub found_lru : 0 < times f l.lru → (block_in k s.locked ≡ None) × (block_in k s.lru ≡ Some b)
  found_lru some =
      let one = in_one l keys f names k h.are is in (
        block_absent keys l.blocks k f is l.locked (omega arith) (alone_locked l keys f names k h.are is),
        block_found keys l.blocks k f is l.lru some (alone_lru l keys f names k h.are is),
      )

  pub one_queue : (0 < times f l.locked) ⊎ (0 < times f l.lru)
  one_queue = let one = in_one l keys f names k h.are is in
      elim (eq-zero-or-pos (times f l.locked)) as (λ _. (0 < times f l.locked)
      ⊎ (0 < times f l.lru)) [ inl none ↦ inr (omega arith) | inr some ↦ inl some ]

  pub block_held_is : block_of k s ≡ Some b
  block_held_is =
      elim one_queue as (λ _. block_of k s ≡ Some b) [
        | inl some ↦ ap (λ o. or_else o (block_in k s.lru)) (found_locked some)
        | inr some ↦ ap (λ o. or_else o (block_in k s.lru)) (found_lru some).0 ∙ (found_lru some).1
      ]

  -- it is dirty just where its frame is in LOCKED
  pub dirty_held : (q : Queue) → 0 < times f (listed q l) → q ≡ Locked → block_in k s.locked ≡ Some b
  dirty_held q some is_locked = found_locked (subst (λ r. 0 < times f (listed r l)) is_locked some)

  pub clean_held : (q : Queue) → 0 < times f (listed q l) → q ≢ Locked → block_in k s.locked ≡ None
  clean_held Locked some ne = absurd (ne refl)
  clean_held Lru some ne = (found_lru some).0
  clean_held Age some ne = absurd (let none = not_free l keys f names k h.are is in omega arith)
  clean_held Empty some ne = absurd (let none = not_free l keys f names k h.are is in omega arith)

  inner : AreHeld l keys f names
  inner = but_held l keys f names k h.are is

  fewer : length (without f l.locked) ≤ 24
  fewer = let limit = h.limit in omega (arith, length-without f l.locked)

  pub lru_step : IsCache (fronted f Lru l) keys (names_after Lru k names) capacity
      × (held_by (fronted f Lru l) keys ≡ lru_first k b (removed k s))
  lru_step = (
    record {
      are = lru_held l keys f names k inner is (whole_fronted l f h.are.whole low);
      limit = fewer;
      room = h.room;
      sized = h.sized;
    },
    to_lru l keys f names k h.are is l.blocks ∙ ap (lru_first k b) (rest_left l keys f names k h.are is),
  )

  pub locked_room : length (without f l.locked) < 24 → HasRoom Locked (length (names_without k names)) capacity
  locked_room less = let same = names_length l keys f names k inner is (whole_fronted l f h.are.whole low) in let room =
      h.room in omega arith

  pub locked_step : length (without f l.locked) < 24
      → IsCache (fronted f Locked l) keys (names_after Locked k names) capacity
      × (held_by (fronted f Locked l) keys ≡ locked_first k b (removed k s))
  locked_step less = (
    record {
      are = locked_held l keys f names k inner is (whole_fronted l f h.are.whole low);
      limit = omega arith;
      room = h.room;
      sized = h.sized;
    },
    to_locked l keys f names k h.are is l.blocks ∙ ap (locked_first k b) (rest_left l keys f names k h.are is),
  )

  unlisted : times f l.locked ≡ 0 → names_without k names ≡ names
  unlisted none = names_stay l keys f names k inner is (whole_fronted l f h.are.whole low) none

  pub names_unlisted : (bl : List (List ℕ)) → HoldsNoOther f k (record l { blocks = bl }) names
  names_unlisted bl Locked some ne = absurd (ne refl)
  names_unlisted bl Lru some ne = unlisted (let one = once l h.are.whole f low in omega arith)
  names_unlisted bl Age some ne = unlisted (let one = once l h.are.whole f low in omega arith)
  names_unlisted bl Empty some ne = unlisted (let one = once l h.are.whole f low in omega arith)

  less_locked : 0 < times f l.locked → length (without f l.locked) < 24
  less_locked some = let limit = h.limit in omega (arith, length-without f l.locked)

  pub get_room : (q : Queue) → 0 < times f (listed q l) → HasRoom q (length (names_without k names)) capacity
  get_room Locked some = locked_room (less_locked some)
  get_room Lru some = tt
  get_room Age some = tt
  get_room Empty some = tt

  pub get_step : (q : Queue) → 0 < times f (listed q l) → IsCache (fronted f q l) keys (names_after q k names) capacity
      × (held_by (fronted f q l) keys ≡ used k s)
  get_step Locked some =
      let step = locked_step (less_locked some) in
      (step.0, step.1 ∙ ap (λ o. used_by o (block_in k s.lru) k s) (sym (found_locked some)))
  get_step Lru some =
      let is_there = found_lru some in (
        lru_step.0,
        lru_step.1
            ∙ (ap (λ o. used_by None o k s) (sym is_there.1)
            ∙ ap (λ o. used_by o (block_in k s.lru) k s) (sym is_there.0)),
      )
  get_step Age some = absurd (let none = not_free l keys f names k h.are is in omega arith)
  get_step Empty some = absurd (let none = not_free l keys f names k h.are is in omega arith)

  -- a LOCKED key is in LOCKED
  pub locked_is : IsLocked k s → 0 < times f l.locked
  locked_is locked =
      elim one_queue as (λ _. 0 < times f l.locked) [
        | inl some ↦ some
        | inr some ↦ absurd (let own = some_is (block_in k s.locked) locked in
            none_not (block_in k s.locked) own.0 (found_lru some).0 own.1)
      ]

  pub settle_step : IsLocked k s → IsCache (fronted f Lru l) keys (names_after Lru k names) capacity
      × (held_by (fronted f Lru l) keys ≡ settled k s)
  settle_step locked = (lru_step.0, lru_step.1 ∙ ap (λ o. settled_by o k s) (sym (found_locked (locked_is locked))))

  pub write_less : IsLocked k s ⊎ (length s.locked < 24) → length (without f l.locked) < 24
  write_less may =
      elim may as (λ _. length (without f l.locked) < 24) [
        | inl locked ↦ less_locked (locked_is locked)
        | inr few ↦ (let same = length-map l.locked (entry_at keys l.blocks) in
            omega (arith, length-without f l.locked, few))
      ]

  pub write_step : (w : List ℕ) → length w ≡ BLOCK_SIZE → IsLocked k s ⊎ (length s.locked < 24)
      → IsCache (fronted f Locked (with_block l f w)) keys (names_after Locked k names) capacity
      × (held_by (fronted f Locked (with_block l f w)) keys ≡ written k w s)
  write_step w whole may =
      let lb : FrameLists = with_block l f w in
      let are = block_held l keys f f names w inner in
      let low' : f < frame_count lb = subst (λ n. f < n) (sym (length-set l.blocks f w)) low in (
        record {
          are = subst (λ n. AreHeld (fronted f Locked lb) keys n (names_after Locked k names)) refl
              (locked_held lb keys f names k are is (whole_fronted lb f are.whole low'));
          limit = let less = write_less may in omega arith;
          room = h.room;
          sized = sized_at keys keys l.blocks f w low whole (λ g ne. refl) h.sized;
        },
        to_locked l keys f names k h.are is lb.blocks
            ∙ (ap (λ c. locked_first k c (held_by (taken f lb) keys)) (get_or-set_same l.blocks f w [] low)
            ∙ (ap (locked_first k w) (rest_removed l keys f names k h.are is w)
            ∙ ap (λ o. written_by o k w s) (sym block_held_is))),
      )

  pub forget_step : IsCache (fronted f Age l) (set keys f None) (names_after Age k names) capacity
      × (held_by (fronted f Age l) (set keys f None) ≡ forgotten k s)
  forget_step = (
    record {
      are = forgotten_held l keys f names k h.are is (whole_fronted l f h.are.whole low);
      limit = fewer;
      room = h.room;
      sized = sized_less keys l.blocks f (subst (λ n. f < n) (sym h.are.sized) low) h.sized;
    },
    forgotten_view l keys f names k h.are is (whole_fronted l f h.are.whole low)
        ∙ ap (λ o. forgotten_by o k s) (sym block_held_is),
  )

-- a key that is at no frame
module _ (l : FrameLists) (keys : List (Option Key)) (names : List Key) (capacity : ℕ) (k : Key)
    (h : IsCache l keys names capacity) where
  -- if it has no block
  pub absent_is : block_of k (held_by l keys) ≡ None → (g : ℕ) → key_at keys g ≢ Some k
  absent_is none g at_g = none_not (block_of k (held_by l keys)) (get_or l.blocks g []) none
      (block_held_is l keys names capacity g k h at_g)

  module _ (absent : (g : ℕ) → key_at keys g ≢ Some k) where
    missed : (g : ℕ) → 0 < times g l.locked + times g l.lru → same_key (name_at keys g) k ≡ false
    missed g some =
        let own = some_is (key_at keys g) (h.are.held g
        (λ e. let r = in_range l h.are.whole g (omega arith) in omega arith) some) in
        elim (same_cases (name_at keys g) k) as (λ _. same_key (name_at keys g) k ≡ false) [
          | inl t ↦ absurd (let named : own.0 ≡ k = sym (ap name_or own.1)
              ∙ same_is (name_at keys g) k t in absent g (own.1 ∙ ap Some named))
          | inr t ↦ t
        ]

    pub none_locked : block_in k (held_by l keys).locked ≡ None
    none_locked = block_missing keys l.blocks k l.locked (λ g some. missed g (omega arith))

    pub none_lru : block_in k (held_by l keys).lru ≡ None
    none_lru = block_missing keys l.blocks k l.lru (λ g some. missed g (omega arith))

    pub none_block : block_of k (held_by l keys) ≡ None
    none_block = ap (λ o. or_else o (block_in k (held_by l keys).lru)) none_locked ∙ none_lru

    pub none_used : used k (held_by l keys) ≡ held_by l keys
    none_used = ap (λ o. used_by o (block_in k (held_by l keys).lru) k (held_by l keys)) none_locked
        ∙ ap (λ o. used_by None o k (held_by l keys)) none_lru

    pub none_forgotten : forgotten k (held_by l keys) ≡ held_by l keys
    none_forgotten = ap (λ o. forgotten_by o k (held_by l keys)) none_block

    pub not_locked : IsLocked k (held_by l keys) → ⊥
    not_locked locked = let own = some_is (block_in k (held_by l keys).locked) locked in
        none_not (block_in k (held_by l keys).locked) own.0 none_locked own.1

    -- and comes to the frame that is taken next
    module _ (f : ℕ) (w : List ℕ) (full : length w ≡ BLOCK_SIZE) (next : next_of l ≡ Some f) where
      abbrev new : List (Option Key)
      new = set keys f (Some k)

      abbrev lb : FrameLists
      lb = with_block l f w

      range : f < frame_count l
      range = next_range l f h.are.whole next

      range' : f < frame_count lb
      range' = subst (λ n. f < n) (sym (length-set l.blocks f w)) range

      at_f : key_at new f ≡ Some k
      at_f = new_is l keys f names k h.are next absent

      are : AreHeld lb new f names
      are = block_held l new f f names w (fresh_held l keys f names k h.are next absent)

      same_length : length (without f l.locked) ≡ length l.locked
      same_length = fresh_length l keys f names k h.are next absent

      pub fresh_unlisted : names_without k names ≡ names
      fresh_unlisted = names_stay lb new f names k are at_f (whole_fronted lb f are.whole range')
          (not_locked_next l keys f names k h.are next absent)

      sized : AreSized new lb.blocks
      sized = sized_at keys new l.blocks f w range full (λ g ne. get_or-set_other keys f g (Some k) None ne) h.sized

      pub fill_step : IsCache (fronted f Lru lb) new (names_after Lru k names) capacity
          × (held_by (fronted f Lru lb) new ≡ filled k w (held_by l keys))
      fill_step = (
        record {
          are = lru_held lb new f names k are at_f (whole_fronted lb f are.whole range');
          limit = let limit = h.limit in omega (arith, same_length);
          room = h.room;
          sized = sized;
        },
        ap (λ (z : Key). lru_first z (get_or lb.blocks f []) (held_by (taken f lb) new)) (ap name_or at_f)
            ∙ (ap (λ c. lru_first k c (held_by (taken f lb) new)) (get_or-set_same l.blocks f w [] range)
            ∙ ap (lru_first k w) (fresh_taken l keys f names k h.are next absent w)),
      )

      pub fresh_room : IsLocked k (held_by l keys) ⊎ (length (held_by l keys).locked < 24)
          → length (without f l.locked) < 24
      fresh_room may =
          elim may as (λ _. length (without f l.locked) < 24) [
            | inl locked ↦ absurd (not_locked locked)
            | inr few ↦ (let same = length-map l.locked (entry_at keys l.blocks) in omega (arith, same_length, few))
          ]

      pub fresh_has_room : IsLocked k (held_by l keys) ⊎ (length (held_by l keys).locked < 24)
          → HasRoom Locked (length (names_without k names)) capacity
      fresh_has_room may = let same = names_length lb new f names k are at_f (whole_fronted lb f are.whole range') in
          let room = h.room in let less = fresh_room may in omega arith

      pub write_fresh_step : IsLocked k (held_by l keys) ⊎ (length (held_by l keys).locked < 24)
          → IsCache (fronted f Locked lb) new (names_after Locked k names) capacity
          × (held_by (fronted f Locked lb) new ≡ written k w (held_by l keys))
      write_fresh_step may = (
        record {
          are = locked_held lb new f names k are at_f (whole_fronted lb f are.whole range');
          limit = let less = fresh_room may in omega arith;
          room = h.room;
          sized = sized;
        },
        ap (λ (z : Key). locked_first z (get_or lb.blocks f []) (held_by (taken f lb) new)) (ap name_or at_f)
            ∙ (ap (λ c. locked_first k c (held_by (taken f lb) new)) (get_or-set_same l.blocks f w [] range)
            ∙ (ap (locked_first k w) (fresh_taken l keys f names k h.are next absent w)
            ∙ ap (λ o. written_by o k w (held_by l keys)) (sym none_block))),
      )

-- a step, as the contracts of the calls tell it
pub told : (l l' : FrameLists) (keys keys' : List (Option Key)) (names names' : List Key) (capacity capacity' : ℕ)
    (s : Contents) → l' ≡ l → keys' ≡ keys → names' ≡ names → capacity' ≡ capacity
    → IsCache l keys names capacity × (held_by l keys ≡ s) → IsCache l' keys' names' capacity' × (held_by l' keys' ≡ s)
told l l' keys keys' names names' capacity capacity' s e0 e1 e2 e3 h = rw (e0, e1, e2, e3) h

-- the keys of the locked blocks
pub keys_are : (keys : List (Option Key)) (blocks : List (List ℕ)) (xs : List ℕ) → map (name_at keys) xs
    ≡ keys_of (map (entry_at keys blocks) xs)
keys_are keys blocks [] = refl
keys_are keys blocks (x ∷ xs) = ap (λ ns. name_at keys x ∷ ns) (keys_are keys blocks xs)
