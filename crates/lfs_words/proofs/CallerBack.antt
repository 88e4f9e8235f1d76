-- A credential is read back from the words that it's spelled in: `caller_back`, for `spell_caller`, with `groups_back`
-- and `caller_read_back` for BackLine of `lfs_journal_lines`, and `groups_added` for `push_groups`. A decimal has no
-- comma (`no_commas`), so the groups' word is split where they were joined, and each part is its number again
-- (`value_is`), below 2^32; the three faults of a credential don't occur as the caller's type excludes them
-- (`no_fault`). A new mark behind the groups, or a sign in a number that could be a comma, would break
-- `decimals_split`.
use Rattle.std.proofs.Common.{◌≡◌, ℕ, zero, suc, ◌-◌, ◌^◌, ◌<◌, ◌≤◌, ◌==◌, Bool, true, false, List, [], ◌∷◌, ◌++◌}
use Rattle.std.proofs.Common.{length, map, get_or, take, drop, None, Ok, refl, ap, sym, subst, ◌∙◌, arith, append_assoc}
use Rattle.std.proofs.Common.{rules, tests}
use Rattle.std.specs.Prelude.{decimal, nat_lt}
use Rattle.std.specs.Char.{digit_value}
use Rattle.std.specs.List.{All, flat_map, list_all}
use Rattle.std.specs.Str.Parse.{AllDigits}
use Rattle.std.proofs.lemmas.Bool.{eq-eqb, le-leb, le-ltb, lt-ltb, ne_eqb}
use Rattle.std.proofs.lemmas.Fmt.{decimal_is_IsNumeral, length-decimal-le}
use Rattle.std.proofs.lemmas.List.{append-nil, take_all}
use Rattle.std.proofs.lemmas.List.Splits.{slice_split_at, slice_split_none}
use Rattle.lfs_types.specs.Caller.{Caller}
use Rattle.lfs_types.specs.Credentials.{cred_fault}
use Rattle.lfs_words.proofs.GroupLists.{caller_fine, decimals_pass}
use Rattle.lfs_words.proofs.ReadBack.{digits_pass}
use Rattle.lfs_words.specs.CallerText.{AreShort, caller_words, groups_text}
use Rattle.lfs_words.specs.Callers.{caller_fault, caller_of, caller_said, decimal_value, decimals_fault, groups_of}
use Rattle.lfs_words.specs.Callers.{is_decimal, is_short}

abbrev the_caller : ℕ → List ℕ → Bool → Caller
the_caller uid groups init = record { uid = uid; groups = groups; init = init }

pub decimal_is : (n : ℕ) → n < 2 ^ 32 → is_decimal (decimal n) ≡ true
decimal_is n lt =
    let numeral = decimal_is_IsNumeral n (omega arith) in
    let some : nat_lt 0 (length (decimal n)) ≡ true = lt-ltb 0 (length (decimal n)) numeral.0.0 in
    let few = le-leb (length (decimal n)) 20 (length-decimal-le 20 n (omega arith) (omega arith) (omega arith)) in
    rw (some, few, digits_pass 10 (decimal n) numeral.0.1) refl

pub short_is : (n : ℕ) → n < 2 ^ 32 → is_short (decimal n) ≡ true
short_is n lt =
    let numeral = decimal_is_IsNumeral n (omega arith) in
    rw numeral.1 (le-leb n 4294967295 (omega arith))

pub value_is : (n : ℕ) → n < 2 ^ 32 → decimal_value (decimal n) ≡ n
value_is n lt = (decimal_is_IsNumeral n (omega arith)).1

far : (c : ℕ) → digit_value c < 10 → (c == 44) ≡ false
far c lt = search (rules, tests)

no_comma : (cs : List ℕ) → AllDigits 10 cs → (k d : ℕ) → k < length cs → (get_or cs k d == 44) ≡ false
no_comma [] h k d lt = absurd (omega arith)
no_comma (c ∷ cs) h zero d lt = far c h.0
no_comma (c ∷ cs) h (suc k) d lt = no_comma cs h.1 k d (omega arith)

no_commas : (cs : List ℕ) → AllDigits 10 cs → All (λ b. (b == 44) ≡ false) cs
no_commas cs h = λ k d lt. no_comma cs h k d lt

decimals_split : (g : ℕ) (gs : List ℕ) → AreShort (g ∷ gs) → groups_of (groups_text (g ∷ gs)) ≡ map decimal (g ∷ gs)
decimals_split g [] short =
    slice_split_none (λ b. b == 44) (decimal g)
    (no_commas (decimal g) (decimal_is_IsNumeral g (omega (arith, short 0))).0.1)
decimals_split g (h ∷ gs) short =
    slice_split_at (λ b. b == 44) (decimal g) 44 (groups_text (h ∷ gs))
    (no_commas (decimal g) (decimal_is_IsNumeral g (omega (arith, short 0))).0.1) refl
    ∙ ap (λ xs. decimal g ∷ xs) (decimals_split h gs (λ k. short (suc k)))

all_decimals : (gs : List ℕ) → AreShort gs → list_all is_decimal (map decimal gs) ≡ true
all_decimals [] short = refl
all_decimals (g ∷ gs) short =
    let first : is_decimal (decimal g) ≡ true = decimal_is g (short 0) in
    let rest : list_all is_decimal (map decimal gs) ≡ true = all_decimals gs (λ k. short (suc k)) in
    rw (first, rest) refl

all_short : (gs : List ℕ) → AreShort gs → list_all is_short (map decimal gs) ≡ true
all_short [] short = refl
all_short (g ∷ gs) short =
    let first : is_short (decimal g) ≡ true = short_is g (short 0) in
    let rest : list_all is_short (map decimal gs) ≡ true = all_short gs (λ k. short (suc k)) in
    rw (first, rest) refl

all_values : (gs : List ℕ) → AreShort gs → map decimal_value (map decimal gs) ≡ gs
all_values [] short = refl
all_values (g ∷ gs) short =
    let first : decimal_value (decimal g) ≡ g = value_is g (short 0) in
    let rest : map decimal_value (map decimal gs) ≡ gs = all_values gs (λ k. short (suc k)) in
    rw (first, rest) refl

-- a credential without a fault
pub record IsFine (cred : Caller) : Type 0 where
  pub user : cred.uid < 2 ^ 32
  pub groups : AreShort cred.groups
  pub some : 1 ≤ length cred.groups
  pub few : length cred.groups ≤ 16
  pub root : cred.init ≡ true → cred.uid ≡ 0

no_fault : (uid : ℕ) (groups : List ℕ) (init : Bool) → 1 ≤ length groups → length groups ≤ 16 → (init ≡ true → uid ≡ 0)
    → cred_fault uid groups init ≡ None
no_fault uid groups true some few root =
    let full : (length groups == 0) ≡ false = ne_eqb (length groups) 0 (λ e. omega arith) in
    let fits : nat_lt 16 (length groups) ≡ false = le-ltb 16 (length groups) few in
    let user : (uid == 0) ≡ true = eq-eqb uid 0 (root refl) in
    rw (full, fits, user) refl
no_fault uid groups false some few root =
    let full : (length groups == 0) ≡ false = ne_eqb (length groups) 0 (λ e. omega arith) in
    let fits : nat_lt 16 (length groups) ≡ false = le-ltb 16 (length groups) few in
    rw (full, fits) refl

-- groups as a word are read as they were
pub groups_back : (gs : List ℕ) → 1 ≤ length gs → AreShort gs → (decimals_fault (groups_of (groups_text gs)) ≡ None)
    × (map decimal_value (groups_of (groups_text gs)) ≡ gs)
groups_back [] some short = absurd (omega arith)
groups_back (g ∷ gs) some short =
    let split : groups_of (groups_text (g ∷ gs)) ≡ map decimal (g ∷ gs) = decimals_split g gs short in (
      ap decimals_fault split ∙ decimals_pass (map decimal (g ∷ gs)) (all_decimals (g ∷ gs) short)
          (all_short (g ∷ gs) short),
      ap (map decimal_value) split ∙ all_values (g ∷ gs) short,
    )

fine_words : (uid : ℕ) (groups : List ℕ) (init : Bool) → uid < 2 ^ 32 → 1 ≤ length groups → length groups ≤ 16
    → AreShort groups → (init ≡ true → uid ≡ 0)
    → (caller_fault (decimal uid) (groups_text groups) init ≡ None) × (decimal_value (decimal uid) ≡ uid)
    × (map decimal_value (groups_of (groups_text groups)) ≡ groups)
fine_words uid groups init lt some few short root =
    let back = groups_back groups some short in
    let user : decimals_fault (decimal uid ∷ [])
    ≡ None = decimals_pass (decimal uid ∷ []) (rw (decimal_is uid lt) refl) (rw (short_is uid lt) refl) in
    let value : decimal_value (decimal uid) ≡ uid = value_is uid lt in
    let cred : cred_fault (decimal_value (decimal uid)) (map decimal_value (groups_of (groups_text groups))) init
    ≡ None =
    ap (λ u. cred_fault u (map decimal_value (groups_of (groups_text groups))) init) value
    ∙ ap (λ gs. cred_fault uid gs init) back.1 ∙ no_fault uid groups init some few root in
    (caller_fine (decimal uid) (groups_text groups) init user back.0 cred, value, back.1)

same : (uid : ℕ) (groups : List ℕ) (init : Bool) (u : ℕ) (gs : List ℕ) → u ≡ uid → gs ≡ groups → the_caller u gs init
    ≡ the_caller uid groups init
same uid groups init u gs e f = ap (λ v. the_caller v gs init) e ∙ ap (λ xs. the_caller uid xs init) f

caller_there_of : (user groups : List ℕ) (init : Bool) → caller_fault user groups init ≡ None
    → caller_of user groups init ≡ Ok (the_caller (decimal_value user) (map decimal_value (groups_of groups)) init)
caller_there_of user groups init fine = rw fine refl

caller_back_of : (uid : ℕ) (groups : List ℕ) (init : Bool) → uid < 2 ^ 32 → 1 ≤ length groups → length groups ≤ 16
    → AreShort groups → (init ≡ true → uid ≡ 0)
    → caller_said (caller_words (record { uid = uid; groups = groups; init = init }))
    ≡ Ok (record { uid = uid; groups = groups; init = init })
caller_back_of uid groups true lt some few short root =
    let fine = fine_words uid groups true lt some few short root in
    let said = caller_there_of (decimal uid) (groups_text groups) true fine.0 in
    said ∙ ap Ok (same uid groups true (decimal_value (decimal uid))
    (map decimal_value (groups_of (groups_text groups))) fine.1 fine.2)
caller_back_of uid groups false lt some few short root =
    let fine = fine_words uid groups false lt some few short root in
    let said = caller_there_of (decimal uid) (groups_text groups) false fine.0 in
    said ∙ ap Ok (same uid groups false (decimal_value (decimal uid))
    (map decimal_value (groups_of (groups_text groups))) fine.1 fine.2)

-- a credential is read back
pub caller_read_back : (cred : Caller) → IsFine cred → caller_said (caller_words cred) ≡ Ok cred
caller_read_back cred fine = caller_back_of cred.uid cred.groups cred.init fine.user fine.some fine.few fine.groups
    fine.root

-- groups, one behind another
pub groups_joined : (g : ℕ) (gs : List ℕ) → groups_text (g ∷ gs) ≡ decimal g
    ++ flat_map (λ group. 44 ∷ decimal group) gs
groups_joined g [] = sym (append-nil (decimal g))
groups_joined g (h ∷ gs) = ap (λ xs. decimal g ++ 44 ∷ xs) (groups_joined h gs)

pub groups_added : (out middle new groups rest : List ℕ) (g number : ℕ) → groups ≡ g ∷ rest → number ≡ g → middle ≡ out
    ++ decimal number
    → new ≡ middle ++ flat_map (λ group. 44 ∷ decimal group) rest → new ≡ out ++ groups_text groups
groups_added out middle new groups rest g number whole same first then =
    rw whole (then ∙ ap (λ xs. xs ++ flat_map (λ group. 44 ∷ decimal group) rest) (first
    ∙ ap (λ n. out ++ decimal n) same)
    ∙ append_assoc out (decimal g) (flat_map (λ group. 44 ∷ decimal group) rest)
    ∙ ap (λ xs. out ++ xs) (sym (groups_joined g rest)))

-- groups are the first and those behind it
pub first_and_rest : (groups : List ℕ) → 1 ≤ length groups → groups ≡ get_or groups 0 0
    ∷ take (length groups - 1) (drop 1 groups)
first_and_rest [] some = absurd (omega arith)
first_and_rest (g ∷ gs) some = ap (λ xs. g ∷ xs) (sym (take_all (length (g ∷ gs) - 1) gs (omega arith)))

-- a credential whose parts were read is read back
pub caller_back : (cred : Caller) (uid : ℕ) (groups : List ℕ) → uid ≡ cred.uid → uid < 2 ^ 32 → groups ≡ cred.groups
    → AreShort groups
    → 1 ≤ length groups → length groups ≤ 16 → (cred.init ≡ true → cred.uid ≡ 0) → caller_said (caller_words cred)
    ≡ Ok cred
caller_back cred uid groups user lt same short some few root =
    caller_read_back cred
    (record {
      user = subst (λ n. n < 2 ^ 32) user lt;
      groups = subst AreShort same short;
      some = subst (λ xs. 1 ≤ length xs) same some;
      few = subst (λ xs. length xs ≤ 16) same few;
      root = root;
    })
