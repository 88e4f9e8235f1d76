-- What is seen along names (`sights`) is enough for the tests of a walk: `walk_alike` says that these come to the same,
-- and `walk_ends` that the walk then goes through the same rows; both for ViewLaw. By induction on the names: the first
-- sight fixes kind, grants and number of a row, and the rest is the same only if the caller may enter it (`sees_step`),
-- which the two tests before have just said. A sight is a number with its attributes, so a test of a walk that asked
-- for more than these (the name or the bytes of a row) has no lemma.
use Rattle.std.proofs.Common.{◌≡◌, ℕ, ◌+◌, Bool, true, false, cond, List, [], ◌∷◌, ◌++◌, Option, None, Some, refl, sym}
use Rattle.std.proofs.Common.{ap, subst, ◌∙◌}
use Rattle.std.proofs.lemmas.Bool.{and_from}
use Rattle.std.specs.Prelude.{is_some, unwrap_or, option_map, IsSome}
use Rattle.std.specs.FinMap as map
use Rattle.lfs_types.specs.Caller.{Caller}
use Rattle.lfs_types.specs.Kinds.{is_directory_kind}
use Rattle.lfs_types.specs.Tree.{Row, attrs_of, fresh_root}
use Rattle.lfs_types.specs.declared.attrs.Attrs.{Attrs}
use Rattle.lfs_types.specs.declared.attrs.Bit.{Bit}
use Rattle.lfs_types.specs.declared.attrs.Bit.TheVariants as bits
use Rattle.lfs_types.specs.declared.rule.Denial.{Denial}
use Rattle.lfs_rules.specs.Grants.{grants_of}
use Rattle.lfs_model.specs.World.{Rows, child, file_at}
use Rattle.lfs_model.specs.Rules.{Check, attrs_at, first_failing, is_directory_row, next, reached, row_grants, visited}
use Rattle.lfs_model.specs.Rules.{walk}
use Rattle.lfs_laws.specs.LawView.{may_enter, sight, sights}
use Rattle.lfs_model.proofs.Allowed.{child_there}
use Rattle.lfs_model.proofs.Children.{child-is}
use Rattle.lfs_model.proofs.Deciding.{failing-behind, failing-front, met_first}
use Rattle.lfs_types.proofs.Somewhere.{present}

-- ---- lists of tests

-- tests of which the first is the same, and the others where it is met
pub alike_cons : (b c : Bool) (d : Denial) (x y : Option Denial) → b ≡ c → (b ≡ true → x ≡ y) → cond b x (Some d)
    ≡ cond c y (Some d)
alike_cons true true d x y e on = on refl
alike_cons true false d x y e on = absurd (cc)
alike_cons false true d x y e on = absurd (cc)
alike_cons false false d x y e on = refl

append_by : (P : Option Denial → Option Denial → Type 0) → ((d : Denial) → P (Some d) (Some d))
    → (xs zs ys us : List Check) (o : Option Denial) → first_failing xs ≡ o
    → first_failing zs ≡ o → (first_failing xs ≡ None → P (first_failing ys) (first_failing us))
    → P (first_failing (xs ++ ys)) (first_failing (zs ++ us))
append_by P same xs zs ys us None e f on =
    subst (λ q. P q (first_failing (zs ++ us))) (sym (failing-behind xs ys e))
    (subst (P (first_failing ys)) (sym (failing-behind zs us f)) (on e))
append_by P same xs zs ys us (Some d) e f on =
    subst (λ q. P q (first_failing (zs ++ us))) (sym (failing-front xs ys d e))
    (subst (P (Some d)) (sym (failing-front zs us d f)) (same d))

-- tests behind others that come to the same
pub alike_behind : (P : Option Denial → Option Denial → Type 0) → ((d : Denial) → P (Some d) (Some d))
    → (xs zs ys us : List Check) → first_failing xs ≡ first_failing zs
    → (first_failing xs ≡ None → P (first_failing ys) (first_failing us))
    → P (first_failing (xs ++ ys)) (first_failing (zs ++ us))
alike_behind P same xs zs ys us e on = append_by P same xs zs ys us (first_failing xs) refl (sym e) on

-- ---- rows of which the same is seen

abbrev shown : ℕ → Option Row → Option (ℕ × Attrs)
shown n o = option_map (λ (r : Row). (n, attrs_of r.file)) o

abbrev attrs_in : Option (ℕ × Attrs) → Attrs
attrs_in None = attrs_of fresh_root
attrs_in (Some x) = x.1

abbrev number_in : Option (ℕ × Attrs) → ℕ
number_in None = 0
number_in (Some x) = x.0

abbrev directory_in : Option (ℕ × Attrs) → Bool
directory_in None = false
directory_in (Some x) = is_directory_kind x.1.kind

abbrev grants_in : Caller → Bit → Option (ℕ × Attrs) → Bool
grants_in caller bit None = false
grants_in caller bit (Some x) = grants_of caller x.1 bit

attrs_shown : (n : ℕ) (o : Option Row) → attrs_of (file_at o) ≡ attrs_in (shown n o)
attrs_shown n None = refl
attrs_shown n (Some r) = refl

directory_shown : (n : ℕ) (o : Option Row) → is_directory_row o ≡ directory_in (shown n o)
directory_shown n None = refl
directory_shown n (Some r) = refl

grants_shown : (caller : Caller) (bit : Bit) (n : ℕ) (o : Option Row) → row_grants caller bit o
    ≡ grants_in caller bit (shown n o)
grants_shown caller bit n None = refl
grants_shown caller bit n (Some r) = refl

number_shown : (n m : ℕ) (o p : Option Row) → IsSome o → IsSome p → shown n o ≡ shown m p → n ≡ m
number_shown n m None p h g e = absurd (cc)
number_shown n m (Some r) None h g e = absurd (cc)
number_shown n m (Some r) (Some s) h g e = ap number_in e

none_shown : (m : ℕ) (p : Option Row) → IsSome p → None ≡ shown m p → ⊥
none_shown m None g e = absurd (cc)
none_shown m (Some s) g e = absurd (cc)

module _ (rows others : Rows) where
  -- the same is seen of a row
  pub attrs_alike : (n : ℕ) → sight rows (Some n) ≡ sight others (Some n) → attrs_at rows n ≡ attrs_at others n
  attrs_alike n e = attrs_shown n (map.get rows n) ∙ ap attrs_in e ∙ sym (attrs_shown n (map.get others n))

  pub directory_alike : (n : ℕ) → sight rows (Some n) ≡ sight others (Some n) → is_directory_row (map.get rows n)
      ≡ is_directory_row (map.get others n)
  directory_alike n e = directory_shown n (map.get rows n) ∙ ap directory_in e
      ∙ sym (directory_shown n (map.get others n))

  pub grants_alike : (caller : Caller) (bit : Bit) (n : ℕ) → sight rows (Some n) ≡ sight others (Some n)
      → row_grants caller bit (map.get rows n) ≡ row_grants caller bit (map.get others n)
  grants_alike caller bit n e = grants_shown caller bit n (map.get rows n) ∙ ap (grants_in caller bit) e
      ∙ sym (grants_shown caller bit n (map.get others n))

  same_number : (o p : Option ℕ) → ((n : ℕ) → o ≡ Some n → IsSome (map.get rows n))
      → ((n : ℕ) → p ≡ Some n → IsSome (map.get others n)) → sight rows o ≡ sight others p → o ≡ p
  same_number None None h g e = refl
  same_number None (Some m) h g e = absurd (none_shown m (map.get others m) (g m refl) e)
  same_number (Some n) None h g e = absurd (none_shown n (map.get rows n) (h n refl) (sym e))
  same_number (Some n) (Some m) h g e = ap Some
      (number_shown n m (map.get rows n) (map.get others m) (h n refl) (g m refl) e)

  same_child : (at : ℕ) (name : List ℕ) → sight rows (child rows at name) ≡ sight others (child others at name)
      → child rows at name ≡ child others at name
  same_child at name e = same_number (child rows at name) (child others at name)
      (λ n is. present (child-is rows at name n is).there) (λ n is. present (child-is others at name n is).there) e

-- ---- along names

pub first_same : {A : Type 0} (a b : A) (xs ys : List A) → a ∷ xs ≡ b ∷ ys → a ≡ b
first_same a b xs ys e = cc

pub second_same : {A : Type 0} (a b c d : A) → a ∷ b ∷ [] ≡ c ∷ d ∷ [] → b ≡ d
second_same a b c d e = cc

rest_same : {A : Type 0} (a b : A) (p q : Bool) (xs ys : List A) → p ≡ true → q ≡ true → a ∷ cond p xs [] ≡ b
    ∷ cond q ys [] → xs ≡ ys
rest_same a b true true xs ys h g e = cc
rest_same a b true false xs ys h g e = absurd (cc)
rest_same a b false q xs ys h g e = absurd (cc)

module _ (rows others : Rows) (caller : Caller) where
  -- the same is seen along names from a row
  abbrev pub Sees : Option ℕ → List (List ℕ) → Type 0
  Sees o names = sights rows caller o names ≡ sights others caller o names

  seen_first : (o p : Option ℕ) (names : List (List ℕ)) → sights rows caller o names ≡ sights others caller p names
      → sight rows o ≡ sight others p
  unfolding sights
  seen_first o p [] e = first_same _ _ _ _ e
  seen_first o p (name ∷ names) e = first_same _ _ _ _ e

  -- of the first row
  pub sees_first : (n : ℕ) (names : List (List ℕ)) → Sees (Some n) names → sight rows (Some n) ≡ sight others (Some n)
  sees_first n names e = seen_first (Some n) (Some n) names e

  seen_rest : (at : ℕ) (name : List ℕ) (names : List (List ℕ)) → Sees (Some at) (name ∷ names)
      → may_enter rows caller (Some at) ≡ true → may_enter others caller (Some at) ≡ true
      → sights rows caller (child rows at name) names ≡ sights others caller (child others at name) names
  unfolding sights
  seen_rest at name names e h g = rest_same _ _ _ _ _ _ h g e

  -- a row that the caller may enter
  pub record Step (at : ℕ) (name : List ℕ) (names : List (List ℕ)) : Type 0 where
    pub leads : child rows at name ≡ child others at name
    pub sees : Sees (child rows at name) names

  pub sees_step : (at : ℕ) (name : List ℕ) (names : List (List ℕ)) → Sees (Some at) (name ∷ names)
      → is_directory_row (map.get rows at) ≡ true → row_grants caller bits.Search (map.get rows at) ≡ true
      → Step at name names
  sees_step at name names e d s =
      let here = sees_first at (name ∷ names) e in
      let rest = seen_rest at name names e (and_from _ _ d s)
      (and_from _ _ (sym (directory_alike rows others at here) ∙ d)
      (sym (grants_alike rows others caller bits.Search at here) ∙ s)) in
      let same = same_child rows others at name (seen_first (child rows at name) (child others at name) names rest) in
      record {
        leads = same;
        sees = subst (λ o. sights rows caller (child rows at name) names
            ≡ sights others caller o names) (sym same) rest;
      }

  -- and the name is there
  sees_next : (at : ℕ) (name : List ℕ) (names : List (List ℕ)) → Step at name names → is_some (child rows at name)
      ≡ true → Sees (Some (next rows at name)) names
  sees_next at name names step there = subst (λ o. Sees o names)
      (child_there (child rows at name) (next rows at name) there refl) step.sees

  next_same : (at : ℕ) (name : List ℕ) (names : List (List ℕ)) → Step at name names → next rows at name
      ≡ next others at name
  next_same at name names step = ap (λ o. unwrap_or o 0) step.leads

  -- the tests of a walk come to the same
  pub walk_alike : (names more : List (List ℕ)) (path k at : ℕ) → Sees (Some at) (names ++ more)
      → first_failing (walk rows caller path k at names) ≡ first_failing (walk others caller path k at names)
  walk_alike [] more path k at e = refl
  walk_alike (name ∷ names) more path k at e =
      let here = sees_first at (name ∷ names ++ more) e in
      alike_cons _ _ _ _ _ (directory_alike rows others at here) (λ d.
      alike_cons _ _ _ _ _ (grants_alike rows others caller bits.Search at here) (λ s.
      let step = sees_step at name (names ++ more) e d s in
      alike_cons _ _ _ _ _ (ap (λ o. is_some o) step.leads) (λ there.
      walk_alike names more path (k + 1) (next rows at name) (sees_next at name (names ++ more) step there)
      ∙ ap (λ n. first_failing (walk others caller path (k + 1) n names)) (next_same at name (names ++ more) step))))

  -- where they are met, the walk goes through the same rows, and the same is seen behind it
  pub record Ends (names more : List (List ℕ)) (at : ℕ) : Type 0 where
    pub same : reached rows at names ≡ reached others at names
    pub way : visited rows at names ≡ visited others at names
    pub sees : Sees (Some (reached rows at names)) more

  pub walk_ends : (names more : List (List ℕ)) (path k at : ℕ) → Sees (Some at) (names ++ more)
      → first_failing (walk rows caller path k at names) ≡ None → Ends names more at
  walk_ends [] more path k at e h = record { same = refl; way = refl; sees = e }
  walk_ends (name ∷ names) more path k at e h =
      let d = met_first _ _ _ h in
      let s = met_first _ _ _ d.1 in
      let t = met_first _ _ _ s.1 in
      let step = sees_step at name (names ++ more) e d.0 s.0 in
      let on = walk_ends names more path (k + 1) (next rows at name) (sees_next at name (names ++ more) step t.0) t.1 in
      let there = next_same at name (names ++ more) step in
      record {
        same = on.same ∙ ap (λ n. reached others n names) there;
        way = ap (λ l. at ∷ l) (on.way ∙ ap (λ n. visited others n names) there);
        sees = on.sees;
      }
