-- What a cache says of names after changes, and after what is found under a name was entered: `true_entered` for
-- `enter`, `true_kept`, `true_named`, `true_moved` and `after_changes` for `apply`. A cache says of a name what was
-- entered last, or, of another name, at most what it said before (`entered_is`). So it stays true of a content in which
-- each other name has what it had; where two names change the argument is made twice, for the name that was lost and
-- then for the one that was given.
use Rattle.std.proofs.Common.{◌≡◌, ℕ, Bool, true, false, cond, List, Option, None, Some, Result, Ok, Err, inl, inr, sym}
use Rattle.std.proofs.Common.{ap, subst, ◌∙◌, ⊎_elim}
use Rattle.std.specs.Prelude.{◌⊎◌, OnOk, OnErr, bytes_eq, length, nat_le}
use Rattle.std.proofs.lemmas.Bool.{both_ways, cases_eq, cases_Bool}
use Rattle.std.proofs.lemmas.Slice.Eq.{bytes_eq-Decides}
use Rattle.lfs_types.specs.Tree.{Content}
use Rattle.lfs_types.specs.declared.store.StoreRefusal.{StoreRefusal}
use Rattle.lfs_known.specs.NamesSaid.{SaysNoMore, says}
use Rattle.lfs_known.specs.NameSlots.{kept_of}
use Rattle.lfs_known.specs.declared.names.NameCache.{NameCache}
use Rattle.lfs_calls.specs.Names.{AreTrue, FindsNew, IsFound, KeepsNames, MovesName}

-- two pairs of a directory and a name are one, or not
same_pair : (d dir : ℕ) (n name : List ℕ) → ((d ≡ dir) × (n ≡ name)) ⊎ (d ≡ dir → n ≡ name → ⊥)
same_pair d dir n name = ⊎_elim
    (λ e. ⊎_elim
    (λ t. inl (e, (bytes_eq-Decides n name).0 t))
    (λ t. inr (λ _ f. both_ways _ t ((bytes_eq-Decides n name).1 f)))
    (cases_Bool (bytes_eq n name)))
    (λ apart. inr (λ e _. apart e))
    (cases_eq d dir)

-- what is kept is what was entered
kept_only : (b : Bool) (found m : Option ℕ) → cond b (Some found) None ≡ Some m → found ≡ m
kept_only true found m h = cc
kept_only false found m h = absurd (cc)

-- what is said after something was entered was entered, or said before of another name
entered_is : (P : ℕ → List ℕ → Option ℕ → Type 0) (old new : NameCache) (dir : ℕ) (name : List ℕ) (found : Option ℕ)
    → says new dir name ≡ kept_of name (Some found) → SaysNoMore old new dir name → P dir name found
    → (d : ℕ) (n : List ℕ) (m : Option ℕ) → says new d n ≡ Some m
    → ((d ≡ dir → n ≡ name → ⊥) → says old d n ≡ Some m → P d n m) → P d n m
entered_is P old new dir name found entered others here d n m h rest = ⊎_elim
    (λ same.
    let there : says new dir name ≡ Some m = sym (ap (λ x. says new x n) same.0 ∙ ap (says new dir) same.1) ∙ h in
    let found_is : found ≡ m = kept_only (nat_le (length name) 24) found m (sym entered ∙ there) in
    subst (λ x. P x n m) (sym same.0) (subst (λ x. P dir x m) (sym same.1) (subst (P dir name) found_is here)))
    (λ apart. rest apart (others d n m apart h))
    (same_pair d dir n name)

-- what holds of a content and of that with changes holds of what a store has that makes all of them or none
pub after_changes : (P : Content → Type 0) (r : Result (Unit {0}) StoreRefusal) (old made new : Content)
    → OnOk r (new ≡ made) → OnErr r (new ≡ old) → P old → P made → P new
after_changes P (Ok t) old made new ok err was is = subst P (sym ok) is
after_changes P (Err refusal) old made new ok err was is = subst P (sym err) was

-- what was said of names is true of a content that keeps them
pub true_kept : (names : NameCache) (old new : Content) → AreTrue names old → KeepsNames old new → AreTrue names new
true_kept names old new was keeps d n m h = keeps d n m (was d n m h)

-- what is said after what is found was entered is true
pub true_entered : (old new : NameCache) (c : Content) (dir : ℕ) (name : List ℕ) (found : Option ℕ)
    → says new dir name ≡ kept_of name (Some found) → SaysNoMore old new dir name → IsFound c dir name found
    → AreTrue old c → AreTrue new c
true_entered old new c dir name found entered others is was d n m h =
    entered_is (IsFound c) old new dir name found entered others is d n m h (λ apart. was d n m)

-- and so of a content in which something else is found under one name
pub true_named : {k : ℕ} (old new : NameCache) (before after : Content) (dir : ℕ) (name : List ℕ) (found : Option ℕ)
    → says new dir name ≡ kept_of name (Some found) → SaysNoMore old new dir name → FindsNew before after dir name found k
    → AreTrue old before → AreTrue new after
true_named old new before after dir name found entered others finds was d n m h =
    entered_is (IsFound after) old new dir name found entered others finds.finds d n m h
    (λ apart said. finds.keeps d n m apart (was d n m said))

-- or under two
pub true_moved : {k : ℕ} (names mid new : NameCache) (before after : Content) (from : ℕ) (old : List ℕ) (to : ℕ) (name : List ℕ)
    (number : ℕ)
    → says mid from old ≡ kept_of old (Some None) → SaysNoMore names mid from old → says new to name
    ≡ kept_of name (Some (Some number)) → SaysNoMore mid new to name
    → MovesName before after from old to name number k → AreTrue names before → AreTrue new after
true_moved names mid new before after from old to name number first others second others2 moves was d n m h =
    entered_is (IsFound after) mid new to name (Some number) second others2 moves.gives d n m h
    (λ away said. entered_is (IsFound after) names mid from old None first others moves.loses d n m said
    (λ apart before_said. moves.keeps d n m apart away (was d n m before_said)))
