-- The infos that name a block, collected from a list: `AreNamed-none`, `named_more` and `named_length`, for the loop of
-- `marking::named`. Each info of the list that names a block stands in what was collected, all that stands there is of
-- the list and names one, and no block is there twice. A further info is left out, where it names none or a block that
-- is there already, or put behind; two that name one block are the same info, so none that names a block is missed.
use Rattle.std.proofs.Common.{◌≡◌, ℕ, ◌+◌, ◌<◌, ◌≤◌, List, [], ◌∷◌, ◌++◌, get_or, length, take, sym, ap, ◌∙◌, subst}
use Rattle.std.proofs.Common.{inl, inr, arith}
use Rattle.std.specs.Prelude.{Contains}
use Rattle.std.proofs.lemmas.List.{get_or_default, length-append, take_more}
use Rattle.std.proofs.lemmas.List.Elements.{All-push, Contains-append_left, Contains-push, Contains-push_cases}
use Rattle.std.proofs.lemmas.List.Quantifiers.{all_pairs_push}
use Rattle.lfs_types.specs.declared.cleaner.BlockInfo.{BlockInfo}
use Rattle.lfs_bmap.specs.Log.{LogState}
use Rattle.lfs_segwrite.proofs.NamedLemmas.{same_named}
use Rattle.lfs_segwrite.specs.Marking.{AddsNamed, AreNamed, IsNamed, code_named}

-- what stands in a list stands in a longer one
contains_more : (xs : List BlockInfo) (y x : BlockInfo) → Contains xs x → Contains (xs ++ y ∷ []) x
contains_more xs y x h = Contains-append_left xs (y ∷ []) x h

pub AreNamed-none : (l : LogState) → AreNamed l [] []
AreNamed-none l = record {
  each = λ info h is. absurd (let none = h.1 in omega arith);
  marked = λ k d low. absurd (omega arith);
  only = λ k d low. absurd (omega arith);
  once = λ i j d less low. absurd (omega arith);
}

-- one info more
more_listed : (l : LogState) (marks old new : List BlockInfo) (info : BlockInfo) → AreNamed l marks old
    → AddsNamed l info old new → AreNamed l (marks ++ info ∷ []) new
more_listed l marks old new info h (inl same) = subst (AreNamed l (marks ++ info ∷ [])) (sym same.0) (record {
  each = λ other there is. elim (Contains-push_cases marks info other there) [
    | inl before ↦ h.each other before is
    | inr here ↦ subst (Contains old) here (same.1 (subst (IsNamed l) (sym here) is))
  ];
  marked = λ k d low. contains_more marks info (get_or old k d) (h.marked k d low);
  only = h.only;
  once = h.once;
})
more_listed l marks old new info h (inr more) = subst (AreNamed l (marks ++ info ∷ [])) (sym more.0) (record {
  each = λ other there is. elim (Contains-push_cases marks info other there) [
    | inl before ↦ contains_more old info other (h.each other before is)
    | inr here ↦ subst (Contains (old ++ info ∷ [])) here (Contains-push old info)
  ];
  marked = All-push (Contains (marks ++ info ∷ [])) old info
      (λ k d low. contains_more marks info (get_or old k d) (h.marked k d low)) (Contains-push marks info);
  only = All-push (IsNamed l) old info h.only more.1;
  once = all_pairs_push (λ (a b : BlockInfo). a.ino ≡ b.ino → code_named a.lbn ≡ code_named b.lbn → ⊥) old info h.once
      (λ k d low number code. more.2 (
        k,
        low,
        get_or_default old k info d low
            ∙ same_named l (get_or old k d) info (h.only k d low) more.1 number code,
      ));
})

pub named_more : (l : LogState) (marks old new : List BlockInfo) (i : ℕ) (d : BlockInfo) → i < length marks
    → AreNamed l (take i marks) old → AddsNamed l (get_or marks i d) old new
    → AreNamed l (take (i + 1) marks) new
named_more l marks old new i d low h adds =
    subst (λ xs. AreNamed l xs new) (sym (take_more marks i d low))
    (more_listed l (take i marks) old new (get_or marks i d) h adds)

pub named_length : (l : LogState) (info : BlockInfo) (old new : List BlockInfo) → AddsNamed l info old new
    → length new ≤ length old + 1
named_length l info old new (inl same) = let e = ap length same.0 in omega arith
named_length l info old new (inr more) = let e = ap length more.0 in let longer = length-append old (info ∷ []) in
    omega arith
