-- Some frame can be taken always (`has_next`), and with it the cache is as `with_frame` says (`fresh_held`,
-- `fresh_taken`); one that is forgotten comes to AGE (`forgotten_held`, `forgotten_view`): for Steps. Were EMPTY, AGE
-- and LRU all empty, LOCKED would have all of the frames (`covers`), and these are at least 32, where it has 24 at
-- most; else the case is which of the three gives the frame. `least_frames` must stay above `LOCKED_LIMIT`.
use Rattle.std.proofs.Common.{◌≡◌, ◌≢◌, ℕ, zero, suc, ◌+◌, ◌<◌, ◌≤◌, cond, nat_lt, List, [], ◌∷◌, length, Option, Some}
use Rattle.std.proofs.Common.{None, IsSome, refl, sym, ap, subst, ◌∙◌, inl, inr, arith}
use Rattle.std.specs.Prelude.{map}
use Rattle.std.proofs.Math.ListN.{get_or, set, length-set}
use Rattle.std.proofs.lemmas.List.{get_or-set_same, get_or-set_other, get_or_past}
use Rattle.std.proofs.lemmas.Bool.{cases_lt, cases_eq}
use Rattle.lfs_recency.specs.declared.queue.Queue.{Queue}
use Rattle.lfs_recency.specs.declared.queue.Queue.TheVariants.{Age}
use Rattle.lfs_recency.specs.FrameLists.{FrameLists, frame_count, without, taken, fronted, times, times_in_all}
use Rattle.lfs_recency.specs.FrameLists.{oldest_of, IsWhole}
use Rattle.lfs_recency.specs.Lending.{with_block}
use Rattle.lfs_recency.proofs.Lists.{times-without_same, times-without_other, length-without}
use Rattle.lfs_cache.specs.declared.key.Key.{Key}
use Rattle.lfs_cache.specs.Index.{key_at}
use Rattle.lfs_cache.specs.Frames.{name_or, names_after, first_of, next_of}
use Rattle.lfs_cache.specs.Contents.{Contents, drop_last, removed, with_frame}
use Rattle.lfs_cache.specs.Held.{name_at, entry_at, held_by, AreHeld, IsCache}
use Rattle.lfs_cache.proofs.Entries.{without_absent, oldest_times, oldest_empty, oldest_dropped, drop_last-map}
use Rattle.lfs_cache.proofs.Entries.{map_same}
use Rattle.lfs_cache.proofs.Cached.{none_not, in_range, once, times_other, names_left, rest_left, but_held, not_free}

-- numbers below n that all stand in a list
covers : (n : ℕ) (xs : List ℕ) → ((g : ℕ) → g < n → 0 < times g xs) → n ≤ length xs
covers zero xs all = omega arith
covers (suc n) xs all =
    let rest = covers n (without n xs) (λ g low. let ne : g ≢ n = λ e. omega arith in
    subst (λ k. 0 < k) (sym (times-without_other n g xs ne)) (all g (omega arith))) in
    let here = all n (omega arith) in omega (arith, length-without n xs)

-- a frame can be taken while fewer are locked than there are
next_there : (lo lr ag em : List ℕ) → oldest_of em ≡ None → oldest_of ag ≡ None → oldest_of lr ≡ None → (n : ℕ)
    → ((g : ℕ) → g < n → times g lo + times g lr + times g ag + times g em ≡ 1) → n ≤ length lo
next_there lo lr ag em e a r n all =
    covers n lo (λ g low. let one : times g lo + times g [] + times g [] + times g [] ≡ 1 =
    subst (λ xs. times g lo + times g [] + times g [] + times g xs ≡ 1) (oldest_empty em e)
    (subst (λ xs. times g lo + times g [] + times g xs + times g em ≡ 1) (oldest_empty ag a)
    (subst (λ xs. times g lo + times g xs + times g ag + times g em ≡ 1) (oldest_empty lr r) (all g low))) in
    omega arith)

next_some : (e a r : Option ℕ) → (e ≡ None → a ≡ None → r ≡ None → ⊥) → IsSome (first_of e (first_of a r))
next_some (Some f) a r never = refl
next_some None (Some f) r never = refl
next_some None None (Some f) never = refl
next_some None None None never = absurd (never refl refl refl)

pub has_next : (l : FrameLists) (keys : List (Option Key)) (names : List Key) (capacity : ℕ)
    → IsCache l keys names capacity → IsSome (next_of l)
has_next l keys names capacity h =
    next_some (oldest_of l.empty) (oldest_of l.age) (oldest_of l.lru)
    (λ e a r. let all = next_there l.locked l.lru l.age l.empty e a r (frame_count l)
    (λ g low. once l h.are.whole g low) in let many = h.are.many in let limit = h.limit in omega arith)

module _ (keys : List (Option Key)) (bl : List (List ℕ)) (f : ℕ) (o : Option Key) (b : List ℕ) where
  abbrev keys' : List (Option Key)
  keys' = set keys f o

  pub name_same : (g : ℕ) → g ≢ f → name_at keys' g ≡ name_at keys g
  name_same g ne = ap name_or (get_or-set_other keys f g o None ne)

  ne_without : (xs : List ℕ) (g : ℕ) → 0 < times g (without f xs) → g ≢ f
  ne_without xs g some e = let none = times-without_same f xs in let here : 0 < times f (without f xs) =
      subst (λ z. 0 < times z (without f xs)) e some in omega arith

  pub names_same : (xs : List ℕ) → map (name_at keys') (without f xs) ≡ map (name_at keys) (without f xs)
  names_same xs = map_same (name_at keys') (name_at keys) (without f xs) (λ g some. name_same g (ne_without xs g some))

  pub entries_same : (xs : List ℕ) → map (entry_at keys' (set bl f b)) (without f xs)
      ≡ map (entry_at keys bl) (without f xs)
  entries_same xs = map_same (entry_at keys' (set bl f b)) (entry_at keys bl) (without f xs)
      (λ g some. let ne = ne_without xs g some in λ i. (name_same g ne i, get_or-set_other bl f g b [] ne i))

  pub entries_key : (xs : List ℕ) → map (entry_at keys' bl) (without f xs) ≡ map (entry_at keys bl) (without f xs)
  entries_key xs = map_same (entry_at keys' bl) (entry_at keys bl) (without f xs)
      (λ g some. let ne = ne_without xs g some in λ i. (name_same g ne i, get_or bl g []))

  entries_absent : (xs : List ℕ) → times f xs ≡ 0 → map (entry_at keys' (set bl f b)) (without f xs)
      ≡ map (entry_at keys bl) xs
  entries_absent xs none = entries_same xs ∙ ap (map (entry_at keys bl)) (without_absent f xs none)

  -- the frame that is taken next leaves its queue
  pub fresh_rest : (lo lr ag em : List ℕ) → times f lo + times f lr + times f ag + times f em ≡ 1
      → let l : FrameLists = record { locked = lo; lru = lr; age = ag; empty = em; blocks = bl } in
      next_of l ≡ Some f → (held_by (taken f (with_block l f b)) keys' ≡ with_frame (held_by l keys)) × (times f lo ≡ 0)
  fresh_rest lo lr ag (x ∷ xs) one next =
      let some : 0 < times f (x ∷ xs) = oldest_times (x ∷ xs) f next in
      let p = entries_absent lo (omega arith) in let q = entries_absent lr (omega arith) in
      let r : length (without f ag) ≡ length ag = ap length (without_absent f ag (omega arith)) in
      let s : length (without f (x ∷ xs)) ≡ length xs = omega (arith, length-without f (x ∷ xs)) in
      ((λ i. record { locked = p i; lru = q i; age = r i; empty = s i }), omega arith)
  fresh_rest lo lr (x ∷ xs) [] one next =
      let some : 0 < times f (x ∷ xs) = oldest_times (x ∷ xs) f next in
      let p = entries_absent lo (omega arith) in let q = entries_absent lr (omega arith) in
      let s : length (without f (x ∷ xs)) ≡ length xs = omega (arith, length-without f (x ∷ xs)) in
      ((λ i. record { locked = p i; lru = q i; age = s i; empty = 0 }), omega arith)
  fresh_rest lo lr [] [] one next =
      let some : 0 < times f lr = oldest_times lr f next in
      let p = entries_absent lo (omega arith) in
      let q : map (entry_at keys' (set bl f b)) (without f lr) ≡ drop_last (map (entry_at keys bl) lr) =
      entries_same lr ∙ (ap (map (entry_at keys bl)) (oldest_dropped lr f next (omega arith))
      ∙ sym (drop_last-map (entry_at keys bl) lr)) in
      ((λ i. record { locked = p i; lru = q i; age = 0; empty = 0 }), omega arith)

  next_times : (lo lr ag em : List ℕ) → let l : FrameLists =
      record { locked = lo; lru = lr; age = ag; empty = em; blocks = bl } in next_of l ≡ Some f → 0 < times_in_all f l
  next_times lo lr ag (x ∷ xs) next = let some : 0 < times f (x ∷ xs) = oldest_times (x ∷ xs) f next in omega arith
  next_times lo lr (x ∷ xs) [] next = let some : 0 < times f (x ∷ xs) = oldest_times (x ∷ xs) f next in omega arith
  next_times lo lr [] [] next = let some : 0 < times f lr = oldest_times lr f next in omega arith

pub next_range : (l : FrameLists) (f : ℕ) → IsWhole l → next_of l ≡ Some f → f < frame_count l
next_range l f whole next = in_range l whole f (next_times [] l.blocks f None [] l.locked l.lru l.age l.empty next)

-- with another block in a frame
pub block_held : (l : FrameLists) (keys : List (Option Key)) (but f : ℕ) (names : List Key) (b : List ℕ)
    → AreHeld l keys but names → AreHeld (with_block l f b) keys but names
block_held l keys but f names b h =
    let same : length l.blocks ≡ length (set l.blocks f b) = sym (length-set l.blocks f b) in
    record {
      whole = λ g. h.whole g ∙ ap (λ n. cond (nat_lt g n) 1 0) same;
      sized = h.sized ∙ same;
      many = subst (λ n. 32 ≤ n) same h.many;
      held = h.held;
      free = h.free;
      apart = h.apart;
      named = h.named;
    }

-- the key of the frame that is taken next replaced by a key that is at no frame
module _ (l : FrameLists) (keys : List (Option Key)) (f : ℕ) (names : List Key) (k : Key)
    (h : AreHeld l keys (frame_count l) names) (next : next_of l ≡ Some f) (absent : (g : ℕ)
    → key_at keys g ≢ Some k) where
  low : f < frame_count l
  low = next_range l f h.whole next

  inside : f < length keys
  inside = subst (λ n. f < n) (sym h.sized) low

  abbrev new : List (Option Key)
  new = set keys f (Some k)

  pub new_is : key_at new f ≡ Some k
  new_is = get_or-set_same keys f (Some k) None inside

  other : (g : ℕ) → g ≢ f → key_at new g ≡ key_at keys g
  other g ne = get_or-set_other keys f g (Some k) None ne

  pub not_locked_next : times f l.locked ≡ 0
  not_locked_next = (fresh_rest keys l.blocks f (Some k) [] l.locked l.lru l.age l.empty (once l h.whole f low) next).1

  in_time : (g : ℕ) → 0 < times_in_all g l → g ≢ frame_count l
  in_time g some e = let r = in_range l h.whole g some in omega arith

  pub fresh_held : AreHeld l new f names
  fresh_held = record {
    whole = h.whole;
    sized = length-set keys f (Some k) ∙ h.sized;
    many = h.many;
    held = λ g ne some. subst IsSome (sym (other g ne)) (h.held g (in_time g (omega arith)) some);
    free = λ g ne some. other g ne ∙ h.free g (in_time g (omega arith)) some;
    apart = λ g g' k' e e'. elim (cases_eq g f) as (λ _. g ≡ g') [
      | inl a ↦ elim (cases_eq g' f) as (λ _. g ≡ g') [
        | inl a' ↦ a ∙ sym a'
        | inr b' ↦ (let same : Some k ≡ Some k' = sym new_is
            ∙ (ap (key_at new) (sym a) ∙ e) in absurd (absent g' (sym (other g' b') ∙ (e' ∙ sym same))))
      ]
      | inr b ↦ elim (cases_eq g' f) as (λ _. g
          ≡ g') [
            | inl a' ↦ (let same : Some k ≡ Some k' = sym new_is
                ∙ (ap (key_at new) (sym a') ∙ e') in absurd (absent g (sym (other g b) ∙ (e ∙ sym same))))
            | inr b' ↦ h.apart g g' k' (sym (other g b) ∙ e) (sym (other g' b') ∙ e')
          ]
    ];
    named = h.named ∙ (ap (map (name_at keys)) (sym (without_absent f l.locked not_locked_next))
        ∙ (sym (names_same keys l.blocks f (Some k) [] l.locked)
        ∙ ap (map (name_at new)) (without_absent f l.locked not_locked_next)));
  }

  pub fresh_taken : (b : List ℕ) → held_by (taken f (with_block l f b)) new ≡ with_frame (held_by l keys)
  fresh_taken b = (fresh_rest keys l.blocks f (Some k) b l.locked l.lru l.age l.empty (once l h.whole f low) next).0

  pub fresh_length : length (without f l.locked) ≡ length l.locked
  fresh_length = ap length (without_absent f l.locked not_locked_next)

-- the frame of a key that is forgotten
module _ (l : FrameLists) (keys : List (Option Key)) (f : ℕ) (names : List Key) (k : Key)
    (h : AreHeld l keys (frame_count l) names) (is : key_at keys f ≡ Some k) (whole' : (q : Queue)
    → IsWhole (fronted f q l)) where
  abbrev gone : List (Option Key)
  gone = set keys f None

  there : f < length keys
  there = elim (cases_lt f (length keys)) as (λ _. f < length keys) [
    | inl r ↦ r
    | inr high ↦ absurd (none_not (key_at keys f) k (get_or_past keys f None high) is)
  ]

  kept : (g : ℕ) → g ≢ f → key_at gone g ≡ key_at keys g
  kept g ne = get_or-set_other keys f g None None ne

  emptied : key_at gone f ≡ None
  emptied = get_or-set_same keys f None None there

  inner : AreHeld l keys f names
  inner = but_held l keys f names k h is

  ne_some : (g : ℕ) (k' : Key) → key_at gone g ≡ Some k' → g ≢ f
  ne_some g k' e same = none_not (key_at gone f) k' emptied (ap (key_at gone) (sym same) ∙ e)

  left : (g : ℕ) → 0 < times g (without f l.locked) + times g (without f l.lru) → g ≢ f
  left g some e =
      let a = times-without_same f l.locked in let b = times-without_same f l.lru in
      let here : 0 < times f (without f l.locked)
      + times f (without f l.lru) = subst (λ z. 0 < times z (without f l.locked) + times z (without f l.lru)) e some
      in omega arith

  pub forgotten_held : AreHeld (fronted f Age l) gone (frame_count l) (names_after Age k names)
  forgotten_held = record {
    whole = whole' Age;
    sized = length-set keys f None ∙ h.sized;
    many = h.many;
    held = λ g _ some. let ne = left g some in
        subst IsSome (sym (kept g ne)) (inner.held g ne
        (let a = times-without_other f g l.locked ne in let b = times-without_other f g l.lru ne in omega arith));
    free = λ g _ some. elim (cases_eq g f) as (λ _. key_at gone g ≡ None) [
      | inl e ↦ ap (key_at gone) e ∙ emptied
      | inr ne ↦ kept g ne ∙ inner.free g ne (let a = times-without_other f g l.age ne in let b =
          times-without_other f g l.empty ne in let t = times_other f g (without f l.age) ne in omega arith)
    ];
    apart = λ g g' k' e e'. h.apart g g' k' (sym (kept g (ne_some g k' e)) ∙ e) (sym (kept g' (ne_some g' k' e')) ∙ e');
    named = names_left l keys f names k inner is whole' ∙ sym (names_same keys l.blocks f None [] l.locked);
  }

  pub forgotten_view : held_by (fronted f Age l) gone ≡ record (removed k (held_by l keys)) { age = suc (length l.age) }
  forgotten_view =
      let rest : held_by (taken f l) keys ≡ removed k (held_by l keys) = rest_left l keys f names k h is in
      let none = not_free l keys f names k h is in
      let a = entries_key keys l.blocks f None [] l.locked ∙ ap (λ (s : Contents). s.locked) rest in
      let b = entries_key keys l.blocks f None [] l.lru ∙ ap (λ (s : Contents). s.lru) rest in
      let d : suc (length (without f l.age)) ≡ suc (length l.age) =
      ap (λ xs. suc (length xs)) (without_absent f l.age (omega arith)) in
      let e : length (without f l.empty) ≡ length l.empty = ap length (without_absent f l.empty (omega arith)) in
      λ i. record { locked = a i; lru = b i; age = d i; empty = e i }
