-- A walk that pushes a number that has no mark, and marks it, is a walk (`walk_push`), with one unmarked number less
-- (`unmarked-set`): so an order has no more numbers than there are. What an order adds is put together (`adds_then`).
use Rattle.std.proofs.Common.{◌≡◌, ◌≢◌, ℕ, zero, suc, ◌<◌, ◌≤◌, Bool, true, false, ◌==◌, List, [], ◌∷◌, ◌++◌, length}
use Rattle.std.proofs.Common.{get_or, set, replicate, append-nil, append_assoc, refl, sym, ap, subst, ◌∙◌, ◌⊎◌, inl, inr}
use Rattle.std.proofs.Common.{⊎_elim, arith}
use Rattle.std.specs.List.{Contains}
use Rattle.std.proofs.lemmas.Bool.{cases_lt}
use Rattle.std.proofs.lemmas.Bool.Decides.{eqb_tells}
use Rattle.std.proofs.lemmas.List.{get_or-set_other, get_or-set_same, get_or_past, length-append, length-replicate, length-set}
use Rattle.std.proofs.lemmas.List.Elements.{Contains-append_cases, Contains-append_left}
use Rattle.std.proofs.lemmas.List.Elements.{Contains-push, Contains-push_cases}
use Rattle.lfs_segments.proofs.BytesLemmas.{get_or-replicate_same}
use Rattle.lfs_dirs.specs.Directory.{Entry}
use Rattle.lfs_reach.specs.Reach.{IsListed}
use Rattle.lfs_reach.specs.Walks.{Adds, IsWalk, unmarked}

-- ---- marks

unmarked-replicate : (n : ℕ) → unmarked (replicate n false) ≡ n
unmarked-replicate zero = refl
unmarked-replicate (suc n) = ap suc (unmarked-replicate n)

unmarked-set : (marks : List Bool) (n : ℕ) → n < length marks → get_or marks n false ≡ false
    → suc (unmarked (set marks n true)) ≡ unmarked marks
unmarked-set [] n below none = absurd (omega arith)
unmarked-set (true ∷ marks) zero below none = absurd (cc)
unmarked-set (false ∷ marks) zero below none = refl
unmarked-set (true ∷ marks) (suc n) below none = unmarked-set marks n (omega arith) none
unmarked-set (false ∷ marks) (suc n) below none = ap suc (unmarked-set marks n (omega arith) none)

-- no number is reached at first
pub walk_first : IsWalk (replicate 4096 false) []
walk_first = record {
  long = length-replicate 4096 false;
  marked = λ n e. let none = get_or-replicate_same 4096 false n in absurd (cc);
  ordered = λ n there. let below = there.1 in absurd (omega arith);
  counted = unmarked-replicate 4096;
}

set_marks : (marks : List Bool) (n k : ℕ) → n < length marks → get_or marks k false ≡ true
    → get_or (set marks n true) k false ≡ true
set_marks marks n k inside e = ⊎_elim
    (λ (same : ((k == n) ≡ true) × (k ≡ n)). ap (λ (j : ℕ). get_or (set marks n true) j false) same.1
    ∙ get_or-set_same marks n true false inside)
    (λ (other : ((k == n) ≡ false) × (k ≢ n)). get_or-set_other marks n k true false other.1 ∙ e)
    (eqb_tells k n)

pub walk_push : (marks : List Bool) (order : List ℕ) (n : ℕ) → IsWalk marks order → n < 4096
    → get_or marks n false ≡ false → IsWalk (set marks n true) (order ++ n ∷ [])
walk_push marks order n walk below none =
    let long = walk.long in
    let inside : n < length marks = omega arith in
    let less = unmarked-set marks n inside none in
    let counted = walk.counted in
    let longer = length-append order (n ∷ []) in
    record {
      long = length-set marks n true ∙ long;
      marked = λ k e. ⊎_elim
          (λ (same : ((k == n) ≡ true) × (k ≡ n)). subst (Contains (order ++ n ∷ [])) (sym same.1) (Contains-push order n))
          (λ (other : ((k == n) ≡ false) × (k ≢ n)). Contains-append_left order (n ∷ []) k
          (walk.marked k (sym (get_or-set_other marks n k true false other.1) ∙ e)))
          (eqb_tells k n);
      ordered = λ k there. ⊎_elim
          (λ (before : Contains order k). set_marks marks n k inside (walk.ordered k before))
          (λ (here : n ≡ k). ap (λ (j : ℕ). get_or (set marks n true) j false) (sym here)
          ∙ get_or-set_same marks n true false inside)
          (Contains-push_cases order n k there);
      counted = omega arith;
    }

-- ---- what an order adds

pub adds_none : (P : ℕ → Type 0) (order : List ℕ) → ((n : ℕ) → P n → Contains order n) → Adds P order order
adds_none P order all = record {
  more = [];
  is = sym (append-nil order);
  only = λ n there. let below = there.1 in absurd (omega arith);
  all = all;
}

pub adds_one : (order : List ℕ) (number : ℕ) → Adds (λ n. n ≡ number) order (order ++ number ∷ [])
adds_one order number = record {
  more = number ∷ [];
  is = refl;
  only = λ n there. only_one n there;
  all = λ n e. subst (Contains (order ++ number ∷ [])) (sym e) (Contains-push order number);
}
  where
    only_one : (n : ℕ) → Contains (number ∷ []) n → n ≡ number
    only_one n (zero, below, is) = sym is
    only_one n (suc k, below, is) = absurd (omega arith)

pub adds_as : (P Q : ℕ → Type 0) (old new : List ℕ) → ((n : ℕ) → P n → Q n) → ((n : ℕ) → Q n → P n) → Adds P old new
    → Adds Q old new
adds_as P Q old new to from a = record {
  more = a.more;
  is = a.is;
  only = λ n there. to n (a.only n there);
  all = λ n q. a.all n (from n q);
}

pub adds_then : (P Q : ℕ → Type 0) (a b c : List ℕ) → Adds P a b → Adds Q b c → Adds (λ n. P n ⊎ Q n) a c
adds_then P Q a b c first next = record {
  more = first.more ++ next.more;
  is = next.is ∙ ap (λ (xs : List ℕ). xs ++ next.more) first.is ∙ append_assoc a first.more next.more;
  only = λ n there. ⊎_elim
      (λ (before : Contains first.more n). inl (first.only n before))
      (λ (after : Contains next.more n). inr (next.only n after))
      (Contains-append_cases first.more next.more n there);
  all = λ n either. ⊎_elim
      (λ (p : P n). subst (λ (xs : List ℕ). Contains xs n) (sym next.is)
      (Contains-append_left b next.more n (first.all n p)))
      (λ (q : Q n). next.all n q)
      either;
}

-- what was there stays
pub adds_kept : (P : ℕ → Type 0) (old new : List ℕ) (n : ℕ) → Adds P old new → Contains old n → Contains new n
adds_kept P old new n a there =
    subst (λ (xs : List ℕ). Contains xs n) (sym a.is) (Contains-append_left old a.more n there)

-- ---- entries

-- entries were read, and these are left
pub record IsAmong (es left : List Entry) (old order : List ℕ) : Type 0 where
  pub read : List Entry
  pub parts : read ++ left ≡ es
  pub added : Adds (IsListed read) old order

pub among_first : (es left : List Entry) (order : List ℕ) → left ≡ es → IsAmong es left order order
among_first es left order e = record {
  read = [];
  parts = e;
  added = adds_none (IsListed []) order (λ n listed. let below = listed.there.1 in absurd (omega arith));
}

-- the next entry lists its number, where that is a volume's
listed_more : (read : List Entry) (e : Entry) (n : ℕ) → e.0 < 4096 → IsListed read n ⊎ (n ≡ e.0)
    → IsListed (read ++ e ∷ []) n
listed_more read e n below either = ⊎_elim
    (λ (before : IsListed read n). record {
      name = before.name;
      there = Contains-append_left read (e ∷ []) (n, before.name) before.there;
      below = before.below;
    })
    (λ (here : n ≡ e.0). record {
      name = e.1;
      there = subst (λ (k : ℕ). Contains (read ++ e ∷ []) (k, e.1)) (sym here) (Contains-push read e);
      below = let same = here in omega arith;
    })
    either

listed_less : (read : List Entry) (e : Entry) (n : ℕ) → IsListed (read ++ e ∷ []) n → IsListed read n ⊎ (n ≡ e.0)
listed_less read e n listed = ⊎_elim
    (λ (before : Contains read (n, listed.name)). inl (record {
      name = listed.name;
      there = before;
      below = listed.below;
    }))
    (λ (here : e ≡ (n, listed.name)). inr (sym (ap (λ (d : Entry). d.0) here)))
    (Contains-push_cases read e (n, listed.name) listed.there)

pub among_reached : (es left rest : List Entry) (e : Entry) (old order new : List ℕ) → left ≡ e ∷ rest → e.0 < 4096
    → IsAmong es left old order → Adds (λ n. n ≡ e.0) order new → IsAmong es rest old new
among_reached es left rest e old order new steps below a more = record {
  read = a.read ++ e ∷ [];
  parts = append_assoc a.read (e ∷ []) rest ∙ ap (λ (xs : List Entry). a.read ++ xs) (sym steps) ∙ a.parts;
  added = adds_as (λ n. IsListed a.read n ⊎ (n ≡ e.0)) (IsListed (a.read ++ e ∷ [])) old new
      (λ n either. listed_more a.read e n below either) (λ n listed. listed_less a.read e n listed)
      (adds_then (IsListed a.read) (λ n. n ≡ e.0) old order new a.added more);
}

pub among_passed : (es left rest : List Entry) (e : Entry) (old order : List ℕ) → left ≡ e ∷ rest → 4096 ≤ e.0
    → IsAmong es left old order → IsAmong es rest old order
among_passed es left rest e old order steps past a = record {
  read = a.read ++ e ∷ [];
  parts = append_assoc a.read (e ∷ []) rest ∙ ap (λ (xs : List Entry). a.read ++ xs) (sym steps) ∙ a.parts;
  added = adds_as (IsListed a.read) (IsListed (a.read ++ e ∷ [])) old order
      (λ n before. record {
        name = before.name;
        there = Contains-append_left a.read (e ∷ []) (n, before.name) before.there;
        below = before.below;
      })
      (λ n listed. ⊎_elim
      (λ (before : IsListed a.read n). before)
      (λ (here : n ≡ e.0). let low = listed.below in absurd (omega arith))
      (listed_less a.read e n listed))
      a.added;
}

pub among_all : (es left : List Entry) (old order : List ℕ) → left ≡ [] → IsAmong es left old order
    → Adds (IsListed es) old order
among_all es left old order none a =
    let all : a.read ≡ es = sym (append-nil a.read) ∙ ap (λ (xs : List Entry). a.read ++ xs) (sym none) ∙ a.parts in
    subst (λ (xs : List Entry). Adds (IsListed xs) old order) all a.added

-- numbers that were reached are a volume's
pub walk_below : (marks : List Bool) (order : List ℕ) (n : ℕ) → IsWalk marks order → Contains order n → n < 4096
walk_below marks order n walk there = ⊎_elim
    (λ (lt : n < 4096). lt)
    (λ (ge : 4096 ≤ n). let long = walk.long in
    let past : get_or marks n false ≡ false = get_or_past marks n false (omega arith) in
    let here = walk.ordered n there in
    absurd (cc))
    (cases_lt n 4096)
