-- A call changes one thing: one row, or two where one takes the other's place, one part of it, or the level:
-- `one_thing`, for the law of that name and EachLemmas. All calls but Rename have one number that they are about
-- (`target`), and others stay; which part changes is read off from the row's Fate. The hard call is Rename over a row,
-- where two numbers differ and the second must be gone (`two_rows`); a Write that also set a time in the row would need
-- a part that holds both.
use Rattle.std.proofs.Common.{◌≡◌, ◌≢◌, ◌⊎◌, ℕ, ◌==◌, Bool, true, false, cond, List, [], ◌∷◌, Option, None, Some, inl}
use Rattle.std.proofs.Common.{inr, refl, sym, ap, subst, ◌∙◌, ⊎_elim}
use Rattle.std.proofs.lemmas.Bool.{cases_eq, eqb-false, not-true}
use Rattle.std.specs.Prelude.{unwrap_or}
use Rattle.std.specs.FinMap as map
use Rattle.lfs_types.specs.Caller.{Caller}
use Rattle.lfs_types.specs.Tree.{Row, World, root}
use Rattle.lfs_types.specs.declared.answer.Answer.{Answer}
use Rattle.lfs_types.specs.declared.answer.Answer.TheVariants.{Served, Denied, Refused}
use Rattle.lfs_types.specs.declared.answer.Served.TheVariants as served
use Rattle.lfs_types.specs.declared.request.Request.{Request}
use Rattle.lfs_types.specs.declared.request.Request.TheVariants.{Stat, Read, Write, List as Names, SetLength, Create}
use Rattle.lfs_types.specs.declared.request.Request.TheVariants.{Mkdir, Unlink, Rmdir, Rename, Chmod, Chown, Chflags}
use Rattle.lfs_types.specs.declared.request.Request.TheVariants.{SetLevel, Sync}
use Rattle.lfs_model.specs.Rules.{decide, reached, front, last, removing, arriving}
use Rattle.lfs_model.specs.Effects.{effect, after_rename, least_unused, with_place, without_row, written, cut, given}
use Rattle.lfs_laws.specs.LawOneThing.{IsAsBefore, DiffersInFlags, DiffersInPlace, DiffersInBytes, DiffersInMode}
use Rattle.lfs_laws.specs.LawOneThing.{DiffersInOwner, IsLooking, IsOneThing, OneThing, TakesPlace}
use Rattle.lfs_laws.specs.Rights.{EachCall}
use Rattle.lfs_model.proofs.Allowed.{reached_last}
use Rattle.lfs_model.proofs.Deciding.{met_first, passes-append}
use Rattle.lfs_laws.proofs.Fates.{Fate, fate}
use Rattle.lfs_laws.proofs.Fates.Fate.{Stays, Goes, Moves, Changes, Remodes, Gives, Reflags}
use Rattle.lfs_laws.proofs.LawFates.{file_unchanged, kept_mode, place_unchanged}
use Rattle.lfs_model.proofs.LevelLemmas.{level_after}
use Rattle.lfs_laws.proofs.RowLaws.{row_of}
use Rattle.lfs_types.proofs.Maps.{get-insert_other, get-remove_other, get-remove_same}
use Rattle.lfs_types.proofs.Somewhere.{none_there}

-- the call changes one row at most
abbrev OneRow : Request → Type 0
OneRow (Rename from to) = ⊥
OneRow request = Unit {0}

-- the number of the row that a call changes, makes or removes, if it is one
abbrev target : ℕ → World → Request → ℕ
target numbers w (Write path place bytes) = reached w.rows root path
target numbers w (SetLength path len) = reached w.rows root path
target numbers w (Create path mode) = least_unused w.rows numbers 4
target numbers w (Mkdir path mode) = least_unused w.rows numbers 4
target numbers w (Unlink path) = reached w.rows root path
target numbers w (Rmdir path) = reached w.rows root path
target numbers w (Chmod path mode) = reached w.rows root path
target numbers w (Chown path uid gid) = reached w.rows root path
target numbers w (Chflags path flags) = reached w.rows root path
target numbers w request = 0

module _ (numbers : ℕ) (w : World) (caller : Caller) where
  others_stay : (request : Request) → OneRow request → (n : ℕ) → n ≢ target numbers w request
      → IsAsBefore w (effect numbers w caller request) n
  others_stay (Stat path) one n apart = refl
  others_stay (Read path off len) one n apart = refl
  others_stay (Names path) one n apart = refl
  others_stay (Write path place []) one n apart = refl
  others_stay (Write path place (b ∷ bs)) one n apart = file_unchanged _ w n _ (written caller place (b ∷ bs)) apart
  others_stay (SetLength path len) one n apart = file_unchanged _ w n _ (cut caller len) apart
  others_stay (Create path mode) one n apart = get-insert_other w.rows _ _ n apart
  others_stay (Mkdir path mode) one n apart = get-insert_other w.rows _ _ n apart
  others_stay (Unlink path) one n apart = get-remove_other w.rows _ n apart
  others_stay (Rmdir path) one n apart = get-remove_other w.rows _ n apart
  others_stay (Rename from to) one n apart = absurd one
  others_stay (Chmod path mode) one n apart = file_unchanged _ w n _ (λ f. record f { mode = mode }) apart
  others_stay (Chown path uid gid) one n apart = file_unchanged _ w n _ (given caller uid gid) apart
  others_stay (Chflags path flags) one n apart = file_unchanged _ w n _ (λ f. record f { flags = flags }) apart
  others_stay (SetLevel level) one n apart = refl
  others_stay Sync one n apart = refl

  -- a row that isn't as before is the one that the call changes
  is_target : (request : Request) → OneRow request → (n : ℕ) → (IsAsBefore w (effect numbers w caller request) n → ⊥)
      → n ≡ target numbers w request
  is_target request one n differs = ⊎_elim (λ same. same) (λ apart. absurd (differs (others_stay request one n apart)))
      (cases_eq n (target numbers w request))

  -- a row that isn't as before after another got its place
  swapped : (moved parent k n : ℕ) (name : List ℕ) → k ≢ moved
      → (IsAsBefore w (with_place (map.get w.rows moved) moved parent name (without_row k w)) n → ⊥)
      → (n ≡ moved) ⊎ (n ≡ k)
  swapped moved parent k n name apart differs = ⊎_elim
      (λ same. inl same)
      (λ other. ⊎_elim
      (λ same. inr same)
      (λ away. absurd (differs (place_unchanged (map.get w.rows moved) (without_row k w) n moved parent name other
      ∙ get-remove_other w.rows k n away)))
      (cases_eq n k))
      (cases_eq n moved)

  -- that row is gone
  swapped_gone : (moved parent k : ℕ) (name : List ℕ) → k ≢ moved
      → map.get (with_place (map.get w.rows moved) moved parent name (without_row k w)).rows k ≡ None
  swapped_gone moved parent k name apart =
      place_unchanged (map.get w.rows moved) (without_row k w) k moved parent name apart ∙ get-remove_same w.rows k

  two_rows : (from to : List (List ℕ)) (k m n : ℕ) (v : World) → reached w.rows root to ≡ k → map.get v.rows k ≡ None
      → (m ≡ reached w.rows root from) ⊎ (m ≡ k) → (n ≡ reached w.rows root from) ⊎ (n ≡ k)
      → (m ≡ n) ⊎ TakesPlace w (Rename from to) v m n ⊎ TakesPlace w (Rename from to) v n m
  two_rows from to k m n v led none a b = ⊎_elim
      (λ p. ⊎_elim
      (λ q. inl (p ∙ sym q))
      (λ q. inr (inl (sym p, led ∙ sym q, ap (map.get v.rows) q ∙ none))) b)
      (λ p. ⊎_elim
      (λ q. inr (inr (sym q, led ∙ sym p, ap (map.get v.rows) p ∙ none)))
      (λ q. inl (p ∙ sym q)) b) a

  over_rows : (from to : List (List ℕ)) (k : ℕ) (b : Bool) → (k == reached w.rows root from) ≡ b
      → reached w.rows root to ≡ k → (m n : ℕ)
      → (IsAsBefore w (cond b w (with_place (map.get w.rows (reached w.rows root from)) (reached w.rows root from)
      (reached w.rows root (front to)) (last to) (without_row k w))) m → ⊥)
      → (IsAsBefore w (cond b w (with_place (map.get w.rows (reached w.rows root from)) (reached w.rows root from)
      (reached w.rows root (front to)) (last to) (without_row k w))) n → ⊥)
      → (m ≡ n) ⊎ TakesPlace w (Rename from to)
      (cond b w (with_place (map.get w.rows (reached w.rows root from)) (reached w.rows root from)
      (reached w.rows root (front to)) (last to) (without_row k w))) m n
      ⊎ TakesPlace w (Rename from to) (cond b w
      (with_place (map.get w.rows (reached w.rows root from)) (reached w.rows root from)
      (reached w.rows root (front to)) (last to) (without_row k w))) n m
  over_rows from to k true e led m n a b = absurd (a refl)
  over_rows from to k false e led m n a b =
      let apart = eqb-false k (reached w.rows root from) e in
      two_rows from to k m n (with_place (map.get w.rows (reached w.rows root from)) (reached w.rows root from)
      (reached w.rows root (front to)) (last to) (without_row k w)) led
      (swapped_gone (reached w.rows root from) (reached w.rows root (front to)) k (last to) apart)
      (swapped (reached w.rows root from) (reached w.rows root (front to)) k m (last to) apart a)
      (swapped (reached w.rows root from) (reached w.rows root (front to)) k n (last to) apart b)

  renamed_rows : (from to : List (List ℕ)) (o : Option ℕ) → ((k : ℕ) → o ≡ Some k → reached w.rows root to ≡ k)
      → (m n : ℕ)
      → (IsAsBefore w (after_rename w (reached w.rows root from) o (reached w.rows root (front to)) (last to)) m → ⊥)
      → (IsAsBefore w (after_rename w (reached w.rows root from) o (reached w.rows root (front to)) (last to)) n → ⊥)
      → (m ≡ n) ⊎ TakesPlace w (Rename from to)
      (after_rename w (reached w.rows root from) o (reached w.rows root (front to)) (last to)) m n
      ⊎ TakesPlace w (Rename from to) (after_rename w (reached w.rows root from) o (reached w.rows root (front to))
      (last to)) n m
  renamed_rows from to None led m n a b =
      let stays = λ (k : ℕ) (other : k ≢ reached w.rows root from). place_unchanged
      (map.get w.rows (reached w.rows root from)) w k (reached w.rows root from) (reached w.rows root (front to))
      (last to) other in
      let is = λ (k : ℕ) (d : IsAsBefore w (after_rename w (reached w.rows root from) None
      (reached w.rows root (front to)) (last to)) k → ⊥).
      ⊎_elim (λ (same : k ≡ reached w.rows root from). same) (λ other. absurd (d (stays k other)))
      (cases_eq k (reached w.rows root from)) in
      inl (is m a ∙ sym (is n b))
  renamed_rows from to (Some k) led m n a b =
      over_rows from to k (k == reached w.rows root from) refl (led k refl) m n a b

  one_row : (request : Request) → OneRow request → (m n : ℕ) → (IsAsBefore w (effect numbers w caller request) m → ⊥)
      → (IsAsBefore w (effect numbers w caller request) n → ⊥) → m ≡ n
  one_row request one m n a b = is_target request one m a ∙ sym (is_target request one n b)

  changed_rows : (request : Request) → decide w caller request ≡ None → (m n : ℕ)
      → (IsAsBefore w (effect numbers w caller request) m → ⊥) → (IsAsBefore w (effect numbers w caller request) n → ⊥)
      → (m ≡ n) ⊎ TakesPlace w request (effect numbers w caller request) m n
      ⊎ TakesPlace w request (effect numbers w caller request) n m
  changed_rows (Rename from to) h m n a b =
      let one = passes-append (removing w.rows caller from) _ h in
      let two = passes-append (arriving w.rows caller to) _ one.1 in
      let some = met_first _ _ _ two.0 in
      renamed_rows from to _ (λ k e. reached_last w.rows root to (not-true _ some.0)
      ∙ ap (λ o. unwrap_or o 0) e) m n a b
  changed_rows request h m n a b = inl (one_row request tt m n a b)

  rows_stay : (request : Request) → (effect numbers w caller request).level ≢ w.level
      → (effect numbers w caller request).rows ≡ w.rows
  rows_stay (SetLevel level) differs = refl
  rows_stay request differs = absurd (differs (level_after numbers w caller request (Served served.Done) tt))

  looks : (request : Request) → IsLooking request → effect numbers w caller request ≡ w
  looks (Stat path) is = refl
  looks (Read path off len) is = refl
  looks (Names path) is = refl
  looks Sync is = refl
  looks request is = absurd is

abbrev Part : Row → Row → Type 0
Part r s = DiffersInPlace r s ⊎ DiffersInBytes r s ⊎ DiffersInMode r s ⊎ DiffersInOwner r s ⊎ DiffersInFlags r s

part_of : (w : World) (caller : Caller) (request : Request) (v : World) (n : ℕ) (r s : Row) → map.get v.rows n ≡ Some s
    → Fate w caller request v n r → Part r s
part_of w caller request v n r s is (Stays e) = subst (Part r) (sym (row_of _ _ s e is)) (inl refl)
part_of w caller request v n r s is (Goes e x over) = none_there _ _ e is
part_of w caller request v n r s is (Moves parent name e x) = subst (Part r) (sym (row_of _ _ s e is)) (inl refl)
part_of w caller request v n r s is (Changes bytes e x) =
    subst (Part r) (sym (row_of _ _ s e is)) (inr (inl (refl, kept_mode (caller.uid == 0) r.file.mode)))
part_of w caller request v n r s is (Remodes mode e x) = subst (Part r) (sym (row_of _ _ s e is)) (inr (inr (inl refl)))
part_of w caller request v n r s is (Gives uid gid e x) =
    subst (Part r) (sym (row_of _ _ s e is)) (inr (inr (inr (inl (refl, kept_mode (caller.uid == 0) r.file.mode)))))
part_of w caller request v n r s is (Reflags flags e x) =
    subst (Part r) (sym (row_of _ _ s e is)) (inr (inr (inr (inr refl))))

-- a call that changed nothing
nothing_changed : (w : World) (request : Request) (answer : Answer) → IsOneThing w request answer w
nothing_changed w request answer = record {
  row = λ m n a b. absurd (a refl);
  level = λ differs. refl;
  part = λ n r s there is. subst (Part r) (sym (row_of _ _ s there is)) (inl refl);
  looking = λ is. refl;
  unserved = λ is. refl;
}

pub one_thing : EachCall OneThing
one_thing numbers w caller request (Served shown) tree is = record {
  row = changed_rows numbers w caller request is.0;
  level = rows_stay numbers w caller request;
  part = λ n r s there after. part_of w caller request _ n r s after
      (fate numbers w caller tree n r there request (Served shown) is);
  looking = looks numbers w caller request;
  unserved = λ none. absurd none;
}
one_thing numbers w caller request (Denied denial) tree is = nothing_changed w request (Denied denial)
one_thing numbers w caller request (Refused resource) tree is = nothing_changed w request (Refused resource)
