-- The counts over each user's entries, with an entry more: `counted_more` and `users_few`, for `Users::add`. The map
-- gets the old counts of the entry's user with the entry counted, and has what it had at each other number; the user's
-- entries are those before and this one, and another user's are the same (`of_user-own`, `of_user-other`). No user has
-- more entries than there are, so no count gets too big for its number.
use Rattle.std.proofs.Common.{◌≡◌, ℕ, ◌-◌, ◌^◌, ◌<◌, ◌≤◌, ◌==◌, Bool, true, false, cond, List, [], ◌∷◌, ◌++◌, length}
use Rattle.std.proofs.Common.{Some, refl, sym, ap, subst, ◌∙◌, arith}
use Rattle.std.specs.Prelude.{unwrap_or}
use Rattle.std.specs.BTreeMap.{BTreeMap, get, is_at}
use Rattle.std.specs.Ordering.{nat_cmp}
use Rattle.std.proofs.lemmas.Bool.{ne_eqb, eq-eqb, true≢false}
use Rattle.std.proofs.lemmas.List.{append-nil}
use Rattle.std.proofs.lemmas.List.Elements.{filter-append}
use Rattle.std.proofs.lemmas.List.Sums.{count_by-le-length, length-filter}
use Rattle.lfs_types.proofs.Maps.{number_eq-true, number_eq-same}
use Rattle.lfs_model.specs.Counts.{AreFew, counts_after, counts_of}
use Rattle.lfs_model.specs.declared.counts.Counts.{Counts}
use Rattle.lfs_model.specs.declared.journal.Entry.{Entry}
use Rattle.lfs_model.proofs.CountLemmas.{counts_few, counts_push}
use Rattle.lfs_auditing.specs.Users.{AreCounted, counts_in, of_user}

-- the counts of a user are few, where the entries are
pub users_few : (counts : BTreeMap ℕ Counts) (es : List Entry) (uid : ℕ) → AreCounted counts es → length es < 2 ^ 32 - 1
    → AreFew (counts_in counts uid)
users_few counts es uid counted few =
    let fewer : length (of_user uid es) ≤ length es =
    subst (λ n. n ≤ length es) (sym (length-filter (λ (e : Entry). e.cred.uid == uid) es))
    (count_by-le-length (λ (e : Entry). e.cred.uid == uid) es) in
    subst AreFew (sym (counted uid)) (counts_few (of_user uid es) (omega (arith, fewer, few)))

-- a user's entries, with one more
of_user-own : (uid : ℕ) (es : List Entry) (e : Entry) → (e.cred.uid == uid) ≡ true → of_user uid (es ++ e ∷ [])
    ≡ of_user uid es ++ e ∷ []
of_user-own uid es e own = filter-append (λ (x : Entry). x.cred.uid == uid) es (e ∷ [])
    ∙ ap (λ b. of_user uid es ++ cond b (e ∷ []) []) own

of_user-other : (uid : ℕ) (es : List Entry) (e : Entry) → (e.cred.uid == uid) ≡ false → of_user uid (es ++ e ∷ [])
    ≡ of_user uid es
of_user-other uid es e other =
    filter-append (λ (x : Entry). x.cred.uid == uid) es (e ∷ []) ∙ ap (λ b. of_user uid es ++ cond b (e ∷ []) []) other
    ∙ append-nil (of_user uid es)

-- a map that has the counts with an entry more for its user, and else what it had
module _ (old new : BTreeMap ℕ Counts) (es : List Entry) (e : Entry) (next : Counts) (counted : AreCounted old es)
    (puts : (q : ℕ) → get nat_cmp new q ≡ cond (is_at (nat_cmp e.cred.uid) q) (Some next) (get nat_cmp old q))
    (grown : next ≡ counts_after e.event (counts_in old e.cred.uid)) where
  own : (uid : ℕ) → e.cred.uid ≡ uid → counts_in new uid ≡ counts_of (of_user uid (es ++ e ∷ []))
  own uid same =
      ap (λ o. unwrap_or o (counts_of [])) (puts uid)
      ∙ ap (λ b. unwrap_or (cond b (Some next) (get nat_cmp old uid)) (counts_of []))
      (number_eq-same e.cred.uid uid same)
      ∙ grown
      ∙ ap (counts_after e.event) (counted e.cred.uid)
      ∙ sym (counts_push (of_user e.cred.uid es) e)
      ∙ ap counts_of (sym (of_user-own e.cred.uid es e (eq-eqb e.cred.uid e.cred.uid refl)))
      ∙ ap (λ u. counts_of (of_user u (es ++ e ∷ []))) same

  others : (uid : ℕ) → (e.cred.uid == uid) ≡ false → is_at (nat_cmp e.cred.uid) uid ≡ false → counts_in new uid
      ≡ counts_of (of_user uid (es ++ e ∷ []))
  others uid other apart =
      ap (λ o. unwrap_or o (counts_of [])) (puts uid)
      ∙ ap (λ b. unwrap_or (cond b (Some next) (get nat_cmp old uid)) (counts_of [])) apart
      ∙ counted uid
      ∙ ap counts_of (sym (of_user-other uid es e other))

  case : (uid : ℕ) (b : Bool) → is_at (nat_cmp e.cred.uid) uid ≡ b → counts_in new uid
      ≡ counts_of (of_user uid (es ++ e ∷ []))
  case uid true at = own uid (number_eq-true e.cred.uid uid at)
  case uid false at =
      others uid (ne_eqb e.cred.uid uid (λ same. true≢false (sym (number_eq-same e.cred.uid uid same) ∙ at))) at

  pub counted_more : AreCounted new (es ++ e ∷ [])
  counted_more uid = case uid (is_at (nat_cmp e.cred.uid) uid) refl
