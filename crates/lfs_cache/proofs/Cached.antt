-- A frame with a key stands once in LOCKED or LRU (`in_one`), and brought to the front of either the cache is held as
-- its queues say (`locked_held`, `lru_held`), its entries being the old ones without the key and the key first
-- (`to_locked`, `to_lru`, `rest_left`): for Steps and Fresh. No other frame has that key (`alone_in`), so to take the
-- frame's number out of a list is to take the key out of its entries. `but` in `AreHeld` names the frame whose key and
-- queue don't agree yet, between two calls.
use Rattle.std.proofs.Common.{◌≡◌, ◌≢◌, ℕ, suc, ◌+◌, ◌<◌, ◌≤◌, false, cond, nat_lt, List, [], ◌∷◌, length, Option, Some}
use Rattle.std.proofs.Common.{None, IsSome, refl, sym, ap, subst, ◌∙◌, inl, inr, arith}
use Rattle.std.specs.Prelude.{map}
use Rattle.std.proofs.Math.ListN.{get_or, set}
use Rattle.std.proofs.lemmas.List.{get_or-set_other, get_or_past, length-map}
use Rattle.std.proofs.Math.Nat.{eq-zero-or-pos}
use Rattle.std.proofs.lemmas.Bool.{cases_lt, cases_eq}
use Rattle.std.proofs.lemmas.Bool.Decides.{nat_tests}
use Rattle.lfs_recency.specs.declared.queue.Queue.{Queue}
use Rattle.lfs_recency.specs.declared.queue.Queue.TheVariants.{Locked, Lru}
use Rattle.lfs_recency.specs.FrameLists.{FrameLists, frame_count, without, taken, fronted, times, times_in_all, IsWhole}
use Rattle.lfs_recency.specs.Lending.{with_block}
use Rattle.lfs_recency.proofs.Lists.{other_test, less_test, times-without_same, times-without_other}
use Rattle.lfs_cache.specs.declared.key.Key.{Key}
use Rattle.lfs_cache.specs.Keys.{same_key}
use Rattle.lfs_cache.specs.Index.{key_at}
use Rattle.lfs_cache.specs.Frames.{name_or, names_without, names_after}
use Rattle.lfs_cache.specs.Contents.{removed, locked_first, lru_first}
use Rattle.lfs_cache.specs.Held.{name_at, entry_at, held_by, AreHeld}
use Rattle.lfs_cache.proofs.Entries.{same_is, same_cases, without_absent, map_same, IsAloneIn, entries_without}
use Rattle.lfs_cache.proofs.Entries.{names_kept}

pub some_not_none : {X : Type 0} (o : Option X) (x : X) → o ≡ Some x → IsSome o
some_not_none o x e = subst IsSome (sym e) refl

pub some_is : {X : Type 0} (o : Option X) → IsSome o → (x : X) × (o ≡ Some x)
some_is None h = absurd (cc)
some_is (Some x) h = (x, refl)

pub none_not : {X : Type 0} (o : Option X) (x : X) → o ≡ None → o ≡ Some x → ⊥
none_not o x e h = let bad : None ≡ Some x = sym e ∙ h in absurd (cc)

over : (g n : ℕ) → n ≤ g → let c : ℕ = cond (nat_lt g n) 1 0 in c ≡ 0
over g n high = let off : nat_lt g n ≡ false = grind (arith, nat_tests) in ap (λ b. cond b 1 0) off

pub in_range : (l : FrameLists) → IsWhole l → (g : ℕ) → 0 < times_in_all g l → g < frame_count l
in_range l whole g some = elim (cases_lt g (frame_count l)) as (λ _. g < frame_count l) [
  | inl low ↦ low
  | inr high ↦ absurd (let none = whole g ∙ over g (frame_count l) high in omega arith)
]

pub once : (l : FrameLists) → IsWhole l → (g : ℕ) → g < frame_count l → times_in_all g l ≡ 1
once l whole g low = whole g ∙ ap (λ b. cond b 1 0) (less_test g (frame_count l) low)

-- the queues of the frames whose keys are known
module _ (l : FrameLists) (keys : List (Option Key)) (but f : ℕ) (names : List Key) (k : Key)
    (h : AreHeld l keys but names) (is : key_at keys f ≡ Some k) where
  pub key_range : f < frame_count l
  key_range = elim (cases_lt f (length keys)) as (λ _. f < frame_count l) [
    | inl low ↦ subst (λ n. f < n) h.sized low
    | inr high ↦ absurd (none_not (key_at keys f) k (get_or_past keys f None high) is)
  ]

  -- no other frame has that key, if those with keys are known
  pub alone_in : ((g : ℕ) → g ≢ f → 0 < times g l.locked + times g l.lru → IsSome (key_at keys g)) → (xs : List ℕ)
      → ((g : ℕ) → times g xs ≤ times g l.locked + times g l.lru) → IsAloneIn keys k f xs
  alone_in held xs among g some ne =
      let here : 0 < times g l.locked + times g l.lru = let a = among g in omega arith in
      let own = some_is (key_at keys g) (held g ne here) in
      elim (same_cases (name_at keys g) k) as (λ _. same_key (name_at keys g) k ≡ false) [
        | inl t ↦ absurd (let named : own.0 ≡ k = sym (ap name_or own.1)
            ∙ same_is (name_at keys g) k t in ne (h.apart g f k (own.1 ∙ ap Some named) is))
        | inr t ↦ t
      ]

-- a frame whose key is known, in a cache
module _ (l : FrameLists) (keys : List (Option Key)) (f : ℕ) (names : List Key) (k : Key)
    (h : AreHeld l keys (frame_count l) names) (is : key_at keys f ≡ Some k) where
  low : f < frame_count l
  low = key_range l keys (frame_count l) f names k h is

  pub known : (g : ℕ) → g ≢ f → 0 < times g l.locked + times g l.lru → IsSome (key_at keys g)
  known g ne some = h.held g (λ e. let r = in_range l h.whole g (omega arith) in omega arith) some

  pub not_free : times f l.age + times f l.empty ≡ 0
  not_free =
      elim (eq-zero-or-pos (times f l.age + times f l.empty)) as (λ _. times f l.age + times f l.empty ≡ 0)
      [ inl e ↦ e | inr some ↦ absurd (none_not (key_at keys f) k (h.free f (λ e. omega (arith, low)) some) is) ]

  pub in_one : times f l.locked + times f l.lru ≡ 1
  in_one = let all = once l h.whole f low in let none = not_free in omega arith

  pub alone_locked : IsAloneIn keys k f l.locked
  alone_locked = alone_in l keys (frame_count l) f names k h is known l.locked (λ g. omega arith)

  pub alone_lru : IsAloneIn keys k f l.lru
  alone_lru = alone_in l keys (frame_count l) f names k h is known l.lru (λ g. omega arith)

  pub but_held : AreHeld l keys f names
  but_held = record {
    whole = h.whole;
    sized = h.sized;
    many = h.many;
    held = known;
    free = λ g ne some. h.free g (λ e. let r = in_range l h.whole g (omega arith) in omega arith) some;
    apart = h.apart;
    named = h.named;
  }

  -- with another block in the frame
  module _ (b : List ℕ) where
    abbrev bs : List (List ℕ)
    bs = set l.blocks f b

    entry_same : (xs : List ℕ) → map (entry_at keys bs) (without f xs) ≡ map (entry_at keys l.blocks) (without f xs)
    entry_same xs = map_same (entry_at keys bs) (entry_at keys l.blocks) (without f xs)
        (λ g some. ap (λ c. (name_at keys g, c))
        (get_or-set_other l.blocks f g b [] (λ e. let none = times-without_same f xs in
        let here : 0 < times f (without f xs) = subst (λ z. 0 < times z (without f xs)) e some in omega arith)))

    pub rest_removed : held_by (taken f (with_block l f b)) keys ≡ removed k (held_by l keys)
    rest_removed =
        let a = entry_same l.locked ∙ entries_without keys l.blocks k f is l.locked alone_locked in
        let c = entry_same l.lru ∙ entries_without keys l.blocks k f is l.lru alone_lru in
        let none = not_free in
        let d : length (without f l.age) ≡ length l.age = ap length (without_absent f l.age (omega arith)) in
        let e : length (without f l.empty) ≡ length l.empty = ap length (without_absent f l.empty (omega arith)) in
        λ i. record { locked = a i; lru = c i; age = d i; empty = e i }

  pub rest_left : held_by (taken f l) keys ≡ removed k (held_by l keys)
  rest_left =
      let a = entries_without keys l.blocks k f is l.locked alone_locked in
      let c = entries_without keys l.blocks k f is l.lru alone_lru in
      let none = not_free in
      let d : length (without f l.age) ≡ length l.age = ap length (without_absent f l.age (omega arith)) in
      let e : length (without f l.empty) ≡ length l.empty = ap length (without_absent f l.empty (omega arith)) in
      λ i. record { locked = a i; lru = c i; age = d i; empty = e i }

  -- the key's frame at the front of LOCKED, or of LRU
  module _ (bl : List (List ℕ)) where
    abbrev lb : FrameLists
    lb = record l { blocks = bl }

    pub to_locked : held_by (fronted f Locked lb) keys ≡ locked_first k (get_or bl f []) (held_by (taken f lb) keys)
    to_locked = ap (λ (z : Key). locked_first z (get_or bl f []) (held_by (taken f lb) keys)) (ap name_or is)

    pub to_lru : held_by (fronted f Lru lb) keys ≡ lru_first k (get_or bl f []) (held_by (taken f lb) keys)
    to_lru = ap (λ (z : Key). lru_first z (get_or bl f []) (held_by (taken f lb) keys)) (ap name_or is)

pub times_other : (f g : ℕ) (xs : List ℕ) → g ≢ f → times g (f ∷ xs) ≡ times g xs
times_other f g xs ne = ap (λ b. cond b (suc (times g xs)) (times g xs)) (other_test f g (λ e. ne (sym e)))

-- the frames are held as the queues say once the frame f, of which that was not known, is at the front of LOCKED or of
-- LRU
module _ (l : FrameLists) (keys : List (Option Key)) (f : ℕ) (names : List Key) (k : Key) (h : AreHeld l keys f names)
    (is : key_at keys f ≡ Some k) (whole' : (q : Queue) → IsWhole (fronted f q l)) where
  alone : IsAloneIn keys k f l.locked
  alone = alone_in l keys f f names k h is h.held l.locked (λ g. omega arith)

  in_once : times f l.locked ≤ 1
  in_once = let one = once l h.whole f (key_range l keys f f names k h is) in omega arith

  pub names_left : names_without k names ≡ map (name_at keys) (without f l.locked)
  names_left = ap (names_without k) h.named ∙ names_kept keys l.blocks k f is l.locked in_once alone

  pub names_length : length (names_without k names) ≡ length (without f l.locked)
  names_length = ap length names_left ∙ length-map (without f l.locked) (name_at keys)

  still_held : (g : ℕ) → 0 < times g (without f l.locked) + times g (without f l.lru) → IsSome (key_at keys g)
  still_held g some =
      elim (cases_eq g f) as (λ _. IsSome (key_at keys g)) [
        | inl e ↦ some_not_none (key_at keys g) k (ap (key_at keys) e ∙ is)
        | inr ne ↦ h.held g ne (let a = times-without_other f g l.locked ne in let b =
            times-without_other f g l.lru ne in omega arith)
      ]

  still_free : (g : ℕ) → 0 < times g (without f l.age) + times g (without f l.empty) → key_at keys g ≡ None
  still_free g some =
      elim (cases_eq g f) as (λ _. key_at keys g ≡ None) [
        | inl e ↦ absurd (let a = times-without_same f l.age in let b = times-without_same f l.empty in
            let here : 0 < times f (without f l.age)
            + times f (without f l.empty) = subst (λ z. 0 < times z (without f l.age)
            + times z (without f l.empty)) e some in omega arith)
        | inr ne ↦ h.free g ne (let a = times-without_other f g l.age ne in let b =
            times-without_other f g l.empty ne in omega arith)
      ]

  pub locked_held : AreHeld (fronted f Locked l) keys (frame_count l) (names_after Locked k names)
  locked_held = record {
    whole = whole' Locked;
    sized = h.sized;
    many = h.many;
    held = λ g _ some. elim (cases_eq g f) as (λ _. IsSome (key_at keys g)) [
      | inl e ↦ some_not_none (key_at keys g) k (ap (key_at keys) e ∙ is)
      | inr ne ↦ still_held g (subst (λ z. 0 < z + times g (without f l.lru))
          (times_other f g (without f l.locked) ne) some)
    ];
    free = λ g _ some. still_free g some;
    apart = h.apart;
    named = λ i. sym (ap name_or is) i ∷ names_left i;
  }

  pub lru_held : AreHeld (fronted f Lru l) keys (frame_count l) (names_after Lru k names)
  lru_held = record {
    whole = whole' Lru;
    sized = h.sized;
    many = h.many;
    held = λ g _ some. elim (cases_eq g f) as (λ _. IsSome (key_at keys g)) [
      | inl e ↦ some_not_none (key_at keys g) k (ap (key_at keys) e ∙ is)
      | inr ne ↦ still_held g (subst (λ z. 0 < times g (without f l.locked) + z)
          (times_other f g (without f l.lru) ne) some)
    ];
    free = λ g _ some. still_free g some;
    apart = h.apart;
    named = names_left;
  }
