-- The groups of a word are read one by one, of which seventeen are kept: `group_more` and `push_full` for `Groups`,
-- `cred_fault-kept`, `caller_fine` and the `refused` ones for `caller_of`. Sixteen groups are the most, so seventeen
-- show the fault of any more (`cred_fault-kept`), and where there is no fault none was left out (`kept_whole`). All
-- groups are asked to be decimals before any is asked for its range (`long_refused`), so the first fault told is the
-- specification's; another limit changes 17 in all lemmas.
use Rattle.std.proofs.Common.{◌≡◌, ℕ, ◌+◌, ◌<◌, ◌≤◌, Bool, true, false, List, [], ◌∷◌, ◌++◌, length, take, get_or, map}
use Rattle.std.proofs.Common.{refl, sym, ◌∙◌, ap, subst, inl, inr, cond, arith, length-take, None, Some, Ok, Err}
use Rattle.std.specs.Prelude.{◌&&◌}
use Rattle.std.specs.List.{list_all}
use Rattle.std.proofs.lemmas.List.{take_more, take_all, take-append-le, map-append}
use Rattle.std.proofs.lemmas.List.Folds.{list_all_at}
use Rattle.std.proofs.lemmas.Bool.{cases_lt, lt-ltb, ne_eqb}
use Rattle.lfs_types.specs.Credentials.{cred_fault}
use Rattle.lfs_types.specs.declared.cred.BadCred.TheVariants.{TooManyGroups}
use Rattle.lfs_types.specs.declared.cred.BadCred.{BadCred}
use Rattle.lfs_words.specs.declared.fault.FaultKind.{FaultKind}
use Rattle.lfs_words.specs.declared.fault.FaultKind.TheVariants.{Number, Range, Cred}
use Rattle.lfs_words.proofs.Parts.{the_number}
use Rattle.lfs_words.proofs.WordLists.{passes_at}
use Rattle.lfs_words.specs.Numbers.{number_of}
use Rattle.lfs_words.specs.Callers.{is_decimal, is_short, decimal_value, decimals_fault, groups_of, caller_fault}

ok_parts : (n s : Bool) (v w : ℕ) → the_number n s v ≡ Ok w → (n ≡ true) × (s ≡ true) × (w ≡ v)
ok_parts true true v w e = (refl, refl, cc)
ok_parts true false v w e = absurd (cc)
ok_parts false s v w e = absurd (cc)

-- a decimal that is read is one, is short, and has its value
pub short_read : (word : List ℕ) (v : ℕ) → number_of 10 20 4294967295 word ≡ Ok v → (is_decimal word ≡ true)
    × (is_short word ≡ true) × (v ≡ decimal_value word)
short_read word v e = ok_parts (is_decimal word) (is_short word) (decimal_value word) v e

one_fault : (n s : Bool) (v : ℕ) (kind : FaultKind) → the_number n s v ≡ Err kind
    → cond (n && true) (cond (s && true) None (Some Range)) (Some Number) ≡ Some kind
one_fault true true v kind e = absurd (cc)
one_fault true false v kind e = cc
one_fault false s v kind e = cc

-- a lone decimal that is refused
pub short_refused : (word : List ℕ) (kind : FaultKind) → number_of 10 20 4294967295 word ≡ Err kind
    → decimals_fault (word ∷ []) ≡ Some kind
short_refused word kind e = one_fault (is_decimal word) (is_short word) (decimal_value word) kind e

pub short_alone : (word : List ℕ) → is_decimal word ≡ true → is_short word ≡ true → decimals_fault (word ∷ []) ≡ None
short_alone word decimal short = rw (decimal, short) refl

long_parts : (s : Bool) (v : ℕ) (kind : FaultKind) → cond s (Ok v) (Err Range) ≡ Err kind → (s ≡ false) × (kind ≡ Range)
long_parts true v kind e = absurd (cc)
long_parts false v kind e = (refl, cc)

-- a decimal among decimals that is refused is out of range
pub long_refused : (all : List (List ℕ)) (i : ℕ) (word : List ℕ) (kind : FaultKind) → list_all is_decimal all ≡ true
    → i < length all → word ≡ get_or all i word → number_of 10 20 4294967295 word ≡ Err kind → decimals_fault all
    ≡ Some kind
long_refused all i word kind decimals within here e =
    let decimal : is_decimal word ≡ true = subst (λ w. is_decimal w ≡ true) (sym here)
    (passes_at is_decimal all i word decimals within) in
    let parts = long_parts (is_short word) (decimal_value word) kind (rw decimal at e) in
    let fails : list_all is_short all ≡ false =
    list_all_at is_short all i word within (subst (λ w. is_short w ≡ false) here parts.0) in
    rw (decimals, fails, parts.1) refl

pub decimals_pass : (all : List (List ℕ)) → list_all is_decimal all ≡ true → list_all is_short all ≡ true
    → decimals_fault all ≡ None
decimals_pass all decimals short = rw (decimals, short) refl

many_fault : (uid : ℕ) (gs : List ℕ) (init : Bool) → 16 < length gs → cred_fault uid gs init ≡ Some TooManyGroups
many_fault uid gs init many =
    rw (ne_eqb (length gs) 0 (λ e. omega arith), lt-ltb 16 (length gs) many) refl

whole_or_many : (gs : List ℕ) (P : Type 0) → (take 17 gs ≡ gs → P) → (16 < length gs → 16 < length (take 17 gs) → P) → P
whole_or_many gs P whole many =
    elim (cases_lt 17 (length gs)) [
      | inl lt ↦ many (omega arith) (rw (length-take 17 gs) (omega arith))
      | inr le ↦ whole (take_all 17 gs le)
    ]

-- seventeen groups show the fault of all
pub cred_fault-kept : (uid : ℕ) (gs : List ℕ) (init : Bool) → cred_fault uid (take 17 gs) init ≡ cred_fault uid gs init
cred_fault-kept uid gs init =
    whole_or_many gs _ (λ e. ap (λ xs. cred_fault uid xs init) e)
    (λ many kept. many_fault uid (take 17 gs) init kept ∙ sym (many_fault uid gs init many))

pub kept_whole : (uid : ℕ) (gs : List ℕ) (init : Bool) → cred_fault uid gs init ≡ None → take 17 gs ≡ gs
kept_whole uid gs init fine =
    whole_or_many gs _ (λ e. e) (λ many kept. let fault = many_fault uid gs init many in absurd (cc))

pushed : (all : List (List ℕ)) (i v : ℕ) (word : List ℕ) → i < length all → v ≡ decimal_value word → word
    ≡ get_or all i word → map decimal_value (take (i + 1) all) ≡ map decimal_value (take i all) ++ v ∷ []
pushed all i v word within value here =
    rw (take_more all i word within, map-append, ← here, value) refl

take_twice : (xs ys : List ℕ) → take 17 (take 17 xs ++ ys) ≡ take 17 (xs ++ ys)
take_twice xs ys =
    elim (cases_lt 17 (length xs)) [
      | inl lt ↦
          let full : 17 ≤ length (take 17 xs) = rw (length-take 17 xs) (omega arith) in
          let fits : length (take 17 xs) ≤ 17 = rw (length-take 17 xs) (omega arith) in
          let long : 17 ≤ length xs = omega arith in
          take-append-le 17 (take 17 xs) ys full ∙ take_all 17 (take 17 xs) fits ∙ sym (take-append-le 17 xs ys long)
      | inr le ↦ ap (λ zs. take 17 (zs ++ ys)) (take_all 17 xs le)
    ]

-- one more group is read
pub group_more : (all : List (List ℕ)) (i v : ℕ) (word : List ℕ) → i < length all → v ≡ decimal_value word → word
    ≡ get_or all i word → take 17 (take 17 (map decimal_value (take i all)) ++ v ∷ [])
    ≡ take 17 (map decimal_value (take (i + 1) all))
group_more all i v word within value here =
    take_twice (map decimal_value (take i all)) (v ∷ [])
    ∙ ap (λ xs. take 17 xs) (sym (pushed all i v word within value here))

pub push_full : (kept : List ℕ) (count v : ℕ) → length kept ≡ 17 → count ≤ 17 → 17 ≤ count → take count kept
    ≡ take 17 (take count kept ++ v ∷ [])
push_full kept count v room le full =
    let whole : take count kept ≡ kept = take_all count kept (omega arith) in
    let long : 17 ≤ length kept = omega arith in
    let fits : length kept ≤ 17 = omega arith in
    rw whole (sym (take-append-le 17 kept (v ∷ []) long ∙ take_all 17 kept fits))

pub caller_fine : (user groups : List ℕ) (init : Bool) → decimals_fault (user ∷ []) ≡ None
    → decimals_fault (groups_of groups) ≡ None
    → cred_fault (decimal_value user) (map decimal_value (groups_of groups)) init ≡ None → caller_fault user groups init
    ≡ None
caller_fine user groups init first second third = rw (first, second, third) refl

pub caller_refused : (user groups : List ℕ) (init : Bool) (fault : BadCred) → decimals_fault (user ∷ []) ≡ None
    → decimals_fault (groups_of groups) ≡ None
    → cred_fault (decimal_value user) (map decimal_value (groups_of groups)) init ≡ Some fault
    → caller_fault user groups init ≡ Some (Cred fault)
caller_refused user groups init fault first second third = rw (first, second, third) refl

pub user_refused : (user groups : List ℕ) (init : Bool) (kind : FaultKind) → decimals_fault (user ∷ []) ≡ Some kind
    → caller_fault user groups init ≡ Some kind
user_refused user groups init kind first = rw first refl

pub groups_refused : (user groups : List ℕ) (init : Bool) (kind : FaultKind) → decimals_fault (user ∷ []) ≡ None
    → decimals_fault (groups_of groups) ≡ Some kind → caller_fault user groups init ≡ Some kind
groups_refused user groups init kind first second = rw (first, second) refl
