-- The frames and records that some infos take are counted without repeats (`gathered`, `records_more`, for
-- `counting::frames_to_mark` and `records_to_mark`), and no more come to wait (`frames_counted`, `records_counted`, for
-- StagesLemmas). One element more counts where it isn't there yet (`count_push`), and a list without repeats is no
-- longer than the distinct elements of one that has all of its elements (`part_count`). Were it counted with repeats,
-- eight blocks under one indirect block would seem to need more frames than there are.
use Rattle.std.proofs.Common.{◌≡◌, ℕ, zero, suc, ◌+◌, ◌*◌, ◌<◌, ◌≤◌, List, [], ◌∷◌, ◌++◌, get_or, length, length-append}
use Rattle.std.proofs.Common.{map, take, None, Some, IsSome, is_some, Bool, true, false, cond, refl, sym, ap, ◌∙◌}
use Rattle.std.proofs.Common.{subst, inl, inr, arith}
use Rattle.std.specs.Prelude.{◌==◌, ◌||◌, ◌↔◌, Any}
use Rattle.std.specs.Bool.{Decides}
use Rattle.std.specs.Cmp.{IsEquivalence}
use Rattle.std.specs.List.{AllByRecursion, Contains, IsDistinct, flat_map}
use Rattle.std.specs.Set.{distinct_count, is_member, unique_keys}
use Rattle.std.proofs.lemmas.Bool.{cases_Bool, cases_eq, cond-true, cond-false, false≢true, ne_eqb}
use Rattle.std.proofs.lemmas.Bool.Decides.{Decides-eqb, same_from_decides}
use Rattle.std.proofs.lemmas.Cmp.{nat_eq_equiv}
use Rattle.std.proofs.lemmas.List.{flat_map_more, length-map, map-append, take_more}
use Rattle.std.proofs.lemmas.List.Elements.{Contains-append_cases, Contains-append_left, Contains-append_right}
use Rattle.std.proofs.lemmas.Map.Keys.{IsDistinct-push}
use Rattle.std.proofs.lemmas.Map.Made.{is_member-Decides, length-from_keys, length-le_from_is_member}
use Rattle.lfs_types.specs.declared.cleaner.BlockInfo.{BlockInfo}
use Rattle.lfs_inodes.specs.declared.inode.Inode.{Inode}
use Rattle.lfs_cache.specs.declared.key.Key.{Key}
use Rattle.lfs_cache.specs.Changes.{IsContents}
use Rattle.lfs_cache.specs.Contents.{Contents, IsLocked, block_in}
use Rattle.lfs_cache.specs.Keys.{same_key}
use Rattle.lfs_cache.proofs.Entries.{same_cases, same_is, same_self}
use Rattle.lfs_parts.specs.Waiting.{numbers_of}
use Rattle.lfs_parts.specs.View.{waiting_in}
use Rattle.lfs_parts.specs.Waiting.{AreOnce}
use Rattle.lfs_parts.proofs.FrameLemmas.{part_most}
use Rattle.lfs_parts.proofs.HeldLemmas.{locked_apart}
use Rattle.lfs_parts.proofs.WaitingLemmas.{waiting-head, waiting-tail}
use Rattle.lfs_segwrite.specs.Counting.{AddsKeys}
use Rattle.lfs_segwrite.specs.Marking.{code_named, codes_to_mark, keys_to_mark, number_named, records_to_mark}
use Rattle.lfs_segwrite.proofs.NamedLemmas.{codes-most}

-- ---- keys
pub same_decides : (a b : Key) → Decides (same_key a b) (a ≡ b)
same_decides a b = (same_is a b, λ e. subst (λ k. same_key a k ≡ true) e (same_self a))

same_flips : (a b : Key) → same_key a b ≡ same_key b a
same_flips a b = same_from_decides (same_key a b) (same_key b a) (same_decides a b) (
  λ t. sym (same_is b a t),
  λ e. (same_decides b a).1 (sym e),
)

pub same_laws : IsEquivalence same_key
same_laws = record {
  refl = same_self;
  symm = same_flips;
  congr = λ a b c same. ap (λ k. same_key k c) (same_is a b same);
}

-- ---- keys that are gathered, each once
pub adds_none : (keys : List Key) → AddsKeys [] keys keys
adds_none keys = record {
  each = λ key. (inl, λ h. elim h [ inl was ↦ was | inr more ↦ absurd (let none = more.1 in omega arith) ]);
  once = λ once. once;
  few = omega arith;
}

lacks : (key : Key) (keys : List Key) → (Contains keys key → ⊥) → is_member same_key keys key ≡ false
lacks key keys none = elim (cases_Bool (is_member same_key keys key)) [
  | inl t ↦ absurd (none ((is_member-Decides same_decides keys key).0 t))
  | inr f ↦ f
]

pub adds_new : (key : Key) (keys : List Key) → (Contains keys key → ⊥) → AddsKeys (key ∷ []) keys (keys ++ key ∷ [])
adds_new key keys none = record {
  each = λ other. (
    Contains-append_cases keys (key ∷ []) other,
    λ h. elim h [
      | inl was ↦ Contains-append_left keys (key ∷ []) other was
      | inr more ↦ Contains-append_right keys (key ∷ []) other more
    ],
  );
  once = λ once. IsDistinct-push same_laws keys key once (lacks key keys none);
  few = let long = length-append keys (key ∷ []) in omega arith;
}

pub adds_both : (a b x y z : List Key) → AddsKeys a x y → AddsKeys b y z → AddsKeys (a ++ b) x z
adds_both a b x y z first second = record {
  each = λ key. (
    λ has. elim ((second.each key).0 has) [
      | inl was ↦ elim ((first.each key).0 was) [
        | inl old ↦ inl old
        | inr more ↦ inr (Contains-append_left a b key more)
      ]
      | inr more ↦ inr (Contains-append_right a b key more)
    ],
    λ h. elim h [
      | inl old ↦ (second.each key).1 (inl ((first.each key).1 (inl old)))
      | inr more ↦ elim (Contains-append_cases a b key more) [
        | inl early ↦ (second.each key).1 (inl ((first.each key).1 (inr early)))
        | inr late ↦ (second.each key).1 (inr late)
      ]
    ],
  );
  once = λ once. second.once (first.once once);
  few = let long = length-append a b in let early = first.few in let late = second.few in omega arith;
}

-- as many as there are different ones
none_twice : IsDistinct same_key []
unfolding IsDistinct
none_twice = tt

pub gathered : (more keys : List Key) → AddsKeys more [] keys → length keys ≡ distinct_count same_key more
gathered more keys h = length-from_keys same_laws keys more (h.once none_twice) (λ key.
    same_from_decides (is_member same_key keys key) (is_member same_key more key)
    (is_member-Decides same_decides keys key) (
      λ t. (h.each key).1 (inr ((is_member-Decides same_decides more key).0 t)),
      λ has. elim ((h.each key).0 has) [
        | inl none ↦ absurd (let low = none.1 in omega arith)
        | inr there ↦ (is_member-Decides same_decides more key).1 there
      ],
    ))

-- ---- the keys of several infos
pub keys_few : (infos : List BlockInfo) → length (flat_map keys_to_mark infos) ≤ 3 * length infos
keys_few [] = omega arith
keys_few (info ∷ infos) =
    let long = length-append (keys_to_mark info) (flat_map keys_to_mark infos) in
    let own : length (keys_to_mark info) ≡ length (codes_to_mark (code_named info.lbn)) =
    length-map (codes_to_mark (code_named info.lbn)) _ in
    let few = codes-most (code_named info.lbn) in
    let rest = keys_few infos in
    omega arith

pub keys_more : (infos : List BlockInfo) (i : ℕ) (d : BlockInfo) → i < length infos
    → flat_map keys_to_mark (take (i + 1) infos) ≡ flat_map keys_to_mark (take i infos)
    ++ keys_to_mark (get_or infos i d)
keys_more infos i d low = ap (flat_map keys_to_mark) (take_more infos i d low)
    ∙ sym (flat_map_more keys_to_mark [] (take i infos) (get_or infos i d))

pub numbers_more : (infos : List BlockInfo) (i : ℕ) (d : BlockInfo) → i < length infos
    → map number_named (take (i + 1) infos) ≡ map number_named (take i infos) ++ (get_or infos i d).ino ∷ []
numbers_more infos i d low = ap (map number_named) (take_more infos i d low)
    ∙ map-append number_named (take i infos) (get_or infos i d ∷ [])

-- what is in a list is in its image
pub mapped : {X Y : Type 0} (f : X → Y) (xs : List X) (x : X) → Contains xs x → Contains (map f xs) (f x)
mapped f [] x has = absurd (let none = has.1 in omega arith)
mapped f (y ∷ xs) x (zero, low, e) = (zero, omega arith, ap f e)
mapped f (y ∷ xs) x (suc k, low, e) = let rest = mapped f xs x (k, omega arith, e) in
    (suc rest.0, let inside = rest.1 in omega arith, rest.2)

-- ---- lists that have some elements at most, each once
module _ {K : Type 0} {eq : K → K → Bool} (laws : IsEquivalence eq) (same : (a b : K) → Decides (eq a b) (a ≡ b)) where
  unique_step : (x q : K) (xs : List K) (b c : Bool) → is_member eq xs x ≡ b → eq q x ≡ c
      → (is_member eq xs q ≡ true → is_member eq (unique_keys eq xs) q ≡ true)
      → (c || is_member eq xs q) ≡ true → is_member eq (cond b (unique_keys eq xs) (x ∷ unique_keys eq xs)) q ≡ true
  unique_step x q xs true true m t rest has = rest (subst (λ k. is_member eq xs k ≡ true) (sym ((same q x).0 t)) m)
  unique_step x q xs true false m t rest has = rest has
  unique_step x q xs false true m t rest has = ap (λ v. v || is_member eq (unique_keys eq xs) q) t
  unique_step x q xs false false m t rest has = ap (λ v. v || is_member eq (unique_keys eq xs) q) t ∙ rest has

  unique_has : (xs : List K) (q : K) → is_member eq xs q ≡ true → is_member eq (unique_keys eq xs) q ≡ true
  unique_has [] q has = has
  unique_has (x ∷ xs) q has = unique_step x q xs (is_member eq xs x) (eq q x) refl refl (unique_has xs q) has

  pub part_count : (xs ys : List K) → IsDistinct eq xs → ((q : K) → is_member eq xs q ≡ true → Contains ys q)
      → length xs ≤ distinct_count eq ys
  part_count xs ys once part =
      length-le_from_is_member laws xs (unique_keys eq ys) once
      (λ q m. unique_has ys q ((is_member-Decides same ys q).1 (part q m)))

  -- one more element counts where it isn't there
  either_false : (b : Bool) → (b || false) ≡ b
  either_false true = refl
  either_false false = refl

  member_push : (xs : List K) (y q : K) → is_member eq (xs ++ y ∷ []) q ≡ (is_member eq xs q || eq q y)
  member_push [] y q = either_false (eq q y)
  member_push (x ∷ xs) y q = by (eq q x) (member_push xs y q)
    where
      by : (b : Bool) → is_member eq (xs ++ y ∷ []) q ≡ (is_member eq xs q || eq q y)
          → (b || is_member eq (xs ++ y ∷ []) q) ≡ ((b || is_member eq xs q) || eq q y)
      by true rest = refl
      by false rest = rest

  count_step : (x : K) (m c v : Bool) (ls ks : List K) → (c ≡ true → v ≡ m) → length ls ≡ length ks + cond v 0 1
      → length (cond (m || c) ls (x ∷ ls)) ≡ length (cond m ks (x ∷ ks)) + cond (c || v) 0 1
  count_step x true true true ls ks alike h = omega arith
  count_step x true true false ls ks alike h = absurd (false≢true (alike refl))
  count_step x true false v ls ks alike h = h
  count_step x false true true ls ks alike h = absurd (false≢true (sym (alike refl)))
  count_step x false true false ls ks alike h = omega arith
  count_step x false false true ls ks alike h = omega arith
  count_step x false false false ls ks alike h = omega arith

  pub count_push : (xs : List K) (y : K) → distinct_count eq (xs ++ y ∷ []) ≡ distinct_count eq xs
      + cond (is_member eq xs y) 0 1
  count_push [] y = refl
  count_push (x ∷ xs) y =
      ap (λ b. length (cond b (unique_keys eq (xs ++ y ∷ [])) (x ∷ unique_keys eq (xs ++ y ∷ [])))) (member_push xs y x
      ∙ ap (λ b. is_member eq xs x || b) (laws.symm x y))
      ∙ count_step x (is_member eq xs x) (eq y x) (is_member eq xs y) (unique_keys eq (xs ++ y ∷ []))
      (unique_keys eq xs)
      (λ t. ap (is_member eq xs) ((same y x).0 t)) (count_push xs y)

-- ---- numbers
any_number : (infos : List BlockInfo) (number : ℕ) → Any (λ (info : BlockInfo). info.ino ≡ number) infos
    → Contains (map number_named infos) number
any_number infos number (k, info, low, here, is) =
    subst (Contains (map number_named infos)) is (mapped number_named infos info (k, low, here))

number_any : (infos : List BlockInfo) (number : ℕ) → Contains (map number_named infos) number
    → Any (λ (info : BlockInfo). info.ino ≡ number) infos
number_any [] number has = absurd (let none = has.1 in omega arith)
number_any (info ∷ infos) number (zero, low, is) = (zero, info, omega arith, refl, is)
number_any (info ∷ infos) number (suc k, low, is) =
    let rest = number_any infos number (k, omega arith, is) in
    (suc rest.0, rest.1, let inside = rest.2 in omega arith, rest.3, rest.4)

member_number : (infos : List BlockInfo) (number : ℕ)
    → Decides (is_member ◌==◌ (map number_named infos) number) (Any (λ (info : BlockInfo). info.ino ≡ number) infos)
member_number infos number =
    let has = is_member-Decides Decides-eqb (map number_named infos) number in
    (λ t. number_any infos number (has.0 t), λ some. has.1 (any_number infos number some))

-- one info more, whose number is there or isn't
pub records_more : (infos : List BlockInfo) (i : ℕ) (d : BlockInfo) (there : Bool) → i < length infos
    → ((there ≡ true) ↔ Any (λ (info : BlockInfo). info.ino ≡ (get_or infos i d).ino) (take i infos))
    → records_to_mark (take (i + 1) infos) ≡ records_to_mark (take i infos) + cond there 0 1
records_more infos i d there low known =
    let number = (get_or infos i d).ino in
    let same = same_from_decides (is_member ◌==◌ (map number_named (take i infos)) number) there
    (member_number (take i infos) number) known in
    ap (distinct_count ◌==◌) (numbers_more infos i d low)
    ∙ count_push nat_eq_equiv Decides-eqb (map number_named (take i infos)) number
    ∙ ap (λ b. records_to_mark (take i infos) + cond b 0 1) same

-- ---- frames that wait
abbrev nothing_of : Key → Key × List ℕ
nothing_of key = (key, [])

in_pairs : (keys : List Key) (key : Key) → is_member same_key keys key ≡ true
    → IsSome (block_in key (map nothing_of keys))
in_pairs [] key has = absurd (false≢true has)
in_pairs (k ∷ keys) key has = elim (same_cases k key) [
  | inl same ↦ ap is_some (cond-true _ _ _ same)
  | inr apart ↦ ap is_some (cond-false _ _ _ apart)
      ∙ in_pairs keys key (sym (ap (λ b. b || is_member same_key keys key) (same_flips key k ∙ apart)) ∙ has)
]

-- no more wait than there are different keys in a list that has each
pub frames_counted : (c : Contents) (keys : List Key) → IsContents c
    → ((key : Key) → IsLocked key c → Contains keys key) → length c.locked ≤ distinct_count same_key keys
frames_counted c keys formed part =
    let some = unique_keys same_key keys in
    let most = part_most c.locked (map nothing_of some) (locked_apart c formed)
    (λ key locked. in_pairs some key (unique_has same_laws same_decides keys key
    ((is_member-Decides same_decides keys key).1 (part key locked)))) in
    subst (λ n. length c.locked ≤ n) (length-map some nothing_of) most

-- ---- records that wait
number_apart : (vs : List Inode) (number : ℕ) → waiting_in vs number ≡ None
    → AllByRecursion (λ n. (number == n) ≡ false) (numbers_of vs)
number_apart [] number none = tt
number_apart (v ∷ vs) number none = elim (cases_eq v.number number) [
  | inl is ↦ absurd (let bad : Some v ≡ None = sym (waiting-head v vs number is) ∙ none in cc)
  | inr other ↦ (
    ne_eqb number v.number (λ e. other (sym e)),
    number_apart vs number (sym (waiting-tail v vs number other) ∙ none),
  )
]

numbers_apart : (vs : List Inode) → AreOnce vs → IsDistinct ◌==◌ (numbers_of vs)
unfolding AreOnce IsDistinct
numbers_apart [] once = tt
numbers_apart (v ∷ vs) once = (number_apart vs v.number once.0, numbers_apart vs once.1)

number_waits : (vs : List Inode) (number : ℕ) → is_member ◌==◌ (numbers_of vs) number ≡ true
    → IsSome (waiting_in vs number)
number_waits [] number has = absurd (false≢true has)
number_waits (v ∷ vs) number has = elim (cases_eq v.number number) [
  | inl is ↦ ap is_some (waiting-head v vs number is)
  | inr other ↦ ap is_some (waiting-tail v vs number other)
      ∙ number_waits vs number (sym (ap (λ b. b || is_member ◌==◌ (numbers_of vs) number)
      (ne_eqb number v.number (λ e. other (sym e)))) ∙ has)
]

-- no more wait than there are different numbers in a list that has each
pub records_counted : (vs : List Inode) (numbers : List ℕ) → AreOnce vs
    → ((n : ℕ) → IsSome (waiting_in vs n) → Contains numbers n) → length vs ≤ distinct_count ◌==◌ numbers
records_counted vs numbers once part =
    let most = part_count nat_eq_equiv Decides-eqb (numbers_of vs) numbers (numbers_apart vs once)
    (λ n has. part n (number_waits vs n has)) in
    let long : length (numbers_of vs) ≡ length vs = length-map vs _ in
    omega arith
