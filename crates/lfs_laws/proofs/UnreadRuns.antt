-- A run in which nobody may read a file is as legal with other bytes in it: `nobody_reads_in_run`, for the law
-- `nobody_reads`. By induction on the entries: each is answered alike (LawReads), the worlds differ in that file alone
-- after it (TwinLemmas), and the file grants no more to a caller who isn't its owner, since only an owner changes mode
-- or owner and a write only takes set-id bits (`Still`). Once the file is gone its number may be given anew, so from
-- there nothing may be hidden (`open_run`); a call that lets others change a mode would break `still_denies`.
use Rattle.std.proofs.Common.{◌≡◌, ◌≢◌, ℕ, ◌==◌, false, List, [], ◌∷◌, Option, None, Some, inl, inr, refl, sym, ap}
use Rattle.std.proofs.Common.{subst, ◌∙◌, ⊎_elim, ne_eqb}
use Rattle.std.proofs.lemmas.Bool.{cases_eq, or_from}
use Rattle.std.specs.FinMap as map
use Rattle.lfs_types.specs.Caller.{Caller}
use Rattle.lfs_types.specs.Tree.{Row, World, attrs_of}
use Rattle.lfs_types.specs.declared.answer.Answer.TheVariants.{Served, Denied, Refused}
use Rattle.lfs_types.specs.declared.attrs.Bit.TheVariants as bits
use Rattle.lfs_types.specs.declared.request.Request.{Request}
use Rattle.lfs_rules.specs.Grants.{grants_of}
use Rattle.lfs_rules.specs.Owners.{is_owner_or_superuser}
use Rattle.lfs_model.specs.declared.journal.Entry.{Entry}
use Rattle.lfs_model.specs.declared.journal.Event.{Event}
use Rattle.lfs_model.specs.declared.journal.Event.TheVariants.{User, Cleaner}
use Rattle.lfs_model.specs.World.{IsTree, file_at}
use Rattle.lfs_model.specs.Steps.{IsEvent, IsLegal, after_event}
use Rattle.lfs_laws.specs.LawOneThing.{KeepsMode}
use Rattle.lfs_laws.specs.LawUnread.{DifferUnread}
use Rattle.lfs_laws.specs.LawUnreadRuns.{AreUnread, DifferInBytesOf, IsUnread, NobodyReadsInRun}
use Rattle.lfs_laws.specs.Rights.{Owns}
use Rattle.lfs_laws.proofs.Fates.{Fate, fate}
use Rattle.lfs_laws.proofs.Fates.Fate.{Stays, Goes, Moves, Changes, Remodes, Gives, Reflags}
use Rattle.lfs_laws.proofs.LawFates.{kept_mode}
use Rattle.lfs_laws.proofs.LawFlags.{both}
use Rattle.lfs_laws.proofs.LawReads.{answers_alike}
use Rattle.lfs_laws.proofs.LegalTrees.{event_tree}
use Rattle.lfs_laws.proofs.LockWords.{granted_all}
use Rattle.lfs_laws.proofs.RegrantLemmas.{cleared_grants, granted}
use Rattle.lfs_laws.proofs.RowLaws.{row_of}
use Rattle.lfs_laws.proofs.TwinLemmas.{NumberTwin, RowTwin, Twins, effect_twin, number_itself, unread_twins}
use Rattle.lfs_types.proofs.Somewhere.{none_there}

-- ---- one event, where the caller sees the same

module _ (Hidden : ℕ → Type 0) (numbers segments : ℕ) (w v : World) (caller : Caller) (tree : IsTree w.rows)
    (t : Twins Hidden w v) where
  same_event : (event : Event) → ((request : Request) → (answer : _) → event ≡ User request answer
      → DifferUnread caller w v)
      → IsEvent numbers segments w caller event → IsEvent numbers segments v caller event
  same_event (User request answer) differ is =
      answers_alike caller w v tree (differ request answer refl) numbers request answer is
  same_event (Cleaner kind outcome) differ is = is

  twin_event : (event : Event) → ((request : Request) → (answer : _) → event ≡ User request answer
      → DifferUnread caller w v)
      → Twins Hidden (after_event numbers w caller event) (after_event numbers v caller event)
  twin_event (User request (Served shown)) differ =
      effect_twin Hidden numbers w v caller tree t (differ request (Served shown) refl) request
  twin_event (User request (Denied denial)) differ = t
  twin_event (User request (Refused resource)) differ = t
  twin_event (Cleaner kind outcome) differ = t

-- ---- where nothing is hidden

abbrev Open : ℕ → Type 0
Open m = ⊥

open_differ : (caller : Caller) (w v : World) → Twins Open w v → DifferUnread caller w v
open_differ caller w v t = unread_twins Open caller w v (λ m. inr (λ h. h)) t (λ m h. absurd h)

open_run : (numbers segments : ℕ) (entries : List Entry) (w v : World) → IsTree w.rows → Twins Open w v
    → IsLegal numbers segments entries w
    → IsLegal numbers segments entries v
open_run numbers segments [] w v tree t legal = tt
open_run numbers segments (e ∷ es) w v tree t legal =
    let differ = λ (request : Request) (answer : _) (is : e.event ≡ User request answer). open_differ e.cred w v t in (
      same_event Open numbers segments w v e.cred tree t e.event differ legal.0,
      open_run numbers segments es _ _ (event_tree numbers segments w e.cred e.event tree legal.0)
          (twin_event Open numbers segments w v e.cred tree t e.event differ) legal.1,
    )

-- ---- where one file's bytes are

-- a row has the owner and the group that it had, and grants to read what it granted
record Still (old new : Row) : Type 0 where
  uid : new.file.uid ≡ old.file.uid
  gid : new.file.gid ≡ old.file.gid
  mode : KeepsMode old.file.mode new.file.mode

still_by : (r x s : Row) → s ≡ x → x.file.uid ≡ r.file.uid → x.file.gid ≡ r.file.gid → KeepsMode r.file.mode x.file.mode
    → Still r s
still_by r x s e uid gid mode = record {
  uid = ap (λ (y : Row). y.file.uid) e ∙ uid;
  gid = ap (λ (y : Row). y.file.gid) e ∙ gid;
  mode = subst (λ (y : Row). KeepsMode r.file.mode y.file.mode) (sym e) mode;
}

still : (w v : World) (caller : Caller) (request : Request) (n : ℕ) (r s : Row) → map.get w.rows n ≡ Some r
    → map.get v.rows n ≡ Some s
    → grants_of caller (attrs_of r.file) bits.Read ≡ false → caller.uid ≢ r.file.uid → Fate w caller request v n r
    → Still r s
still w v caller request n r s there is unread foreign f = by f
  where
    not_owned : Owns w.rows caller n → Still r s
    not_owned owns = both (is_owner_or_superuser caller (attrs_of r.file))
        (sym (ap (λ o. is_owner_or_superuser caller (attrs_of (file_at o))) there) ∙ owns.owner)
        (or_from (caller.uid == 0) (caller.uid == r.file.uid)
        (ne_eqb caller.uid 0 (λ super. let all = granted_all caller (attrs_of r.file) bits.Read super in cc))
        (ne_eqb caller.uid r.file.uid foreign))

    by : Fate w caller request v n r → Still r s
    by (Stays e) = still_by r _ s (row_of _ _ s e is) refl refl (inl refl)
    by (Goes e x over) = none_there _ s e is
    by (Moves parent name e x) = still_by r _ s (row_of _ _ s e is) refl refl (inl refl)
    by (Changes bytes e x) = still_by r _ s (row_of _ _ s e is) refl refl (kept_mode (caller.uid == 0) r.file.mode)
    by (Remodes mode e x) = not_owned x.allowed.owns
    by (Gives uid gid e x) = not_owned x.allowed.owns
    by (Reflags flags e x) = not_owned x.owns

still_denies : (caller : Caller) (r s : Row) → Still r s → grants_of caller (attrs_of s.file) bits.Read
    ≡ grants_of caller (attrs_of r.file) bits.Read
still_denies caller r s k = ⊎_elim
    (λ same i. granted caller (k.uid i) (k.gid i) (same i) bits.Read)
    (λ cleared. (λ i. granted caller (k.uid i) (k.gid i) (cleared i) bits.Read)
    ∙ cleared_grants caller r.file.uid r.file.gid r.file.mode bits.Read)
    k.mode

still_unread : (r s : Row) → Still r s → (entries : List Entry) → AreUnread r entries → AreUnread s entries
still_unread r s k [] h = tt
still_unread r s k (e ∷ es) h = (by e.event h.0, still_unread r s k es h.1)
  where
    by : (event : Event) → IsUnread r e.cred event → IsUnread s e.cred event
    by (User request answer) u = (still_denies e.cred r s k ∙ u.0, λ own. u.1 (own ∙ k.uid))
    by (Cleaner kind outcome) u = u

opened : (hidden : Type 0) (o p : Option Row) → NumberTwin hidden o p → (hidden → o ≡ None) → NumberTwin ⊥ o p
opened hidden None None h none = tt
opened hidden None (Some s) h none = absurd h
opened hidden (Some r) None h none = absurd h
opened hidden (Some r) (Some s) h none = record {
  parents = h.parents;
  names = h.names;
  file = record { rest = h.file.rest; size = h.file.size; same = λ no. h.file.same (λ yes. let gone = none yes in cc) };
}

module _ (numbers segments n : ℕ) where
  abbrev Shut : ℕ → Type 0
  Shut m = m ≡ n

  shut_differ : (caller : Caller) (w v : World) (r : Row) → map.get w.rows n ≡ Some r → Twins Shut w v
      → grants_of caller (attrs_of r.file) bits.Read ≡ false → DifferUnread caller w v
  shut_differ caller w v r there t unread =
      unread_twins Shut caller w v (λ m. cases_eq m n) t
      (λ m here x at. ap (λ (y : Row). grants_of caller (attrs_of y.file) bits.Read)
      (row_of _ _ x there (ap (map.get w.rows) (sym here) ∙ at)) ∙ unread)

  sees_same : (w v : World) (r : Row) → map.get w.rows n ≡ Some r → Twins Shut w v → (caller : Caller) (event : Event)
      → IsUnread r caller event
      → (request : Request) → (answer : _) → event ≡ User request answer → DifferUnread caller w v
  sees_same w v r there t caller event u request answer is = let h = subst (IsUnread r caller) is u in
      shut_differ caller w v r there t h.0

  still_after : (w : World) (caller : Caller) (event : Event) (r s : Row) → IsTree w.rows
      → IsEvent numbers segments w caller event
      → IsUnread r caller event
      → map.get w.rows n ≡ Some r → map.get (after_event numbers w caller event).rows n ≡ Some s → Still r s
  still_after w caller (User request (Served shown)) r s tree may u there is =
      still w _ caller request n r s there is u.0 u.1 (fate numbers w caller tree n r there request (Served shown) may)
  still_after w caller (User request (Denied denial)) r s tree may u there is =
      still_by r _ s (row_of _ _ s there is) refl refl (inl refl)
  still_after w caller (User request (Refused resource)) r s tree may u there is =
      still_by r _ s (row_of _ _ s there is) refl refl (inl refl)
  still_after w caller (Cleaner kind outcome) r s tree may u there is =
      still_by r _ s (row_of _ _ s there is) refl refl (inl refl)

  -- once the file is gone, nothing is hidden
  on_from : (es : List Entry) (w v : World) → IsTree w.rows → Twins Shut w v → IsLegal numbers segments es w
      → ((s : Row) → map.get w.rows n ≡ Some s → IsLegal numbers segments es v)
      → (o : Option Row) → map.get w.rows n ≡ o → IsLegal numbers segments es v
  on_from es w v tree t legal rest None e =
      open_run numbers segments es w v tree
      (record { level = t.level; rows = λ m. opened (Shut m) _ _ (t.rows m) (λ here. ap (map.get w.rows) here ∙ e) })
      legal
  on_from es w v tree t legal rest (Some s) e = rest s e

  shut_run : (entries : List Entry) (w v : World) (r : Row) → IsTree w.rows → map.get w.rows n ≡ Some r → Twins Shut w v
      → AreUnread r entries
      → IsLegal numbers segments entries w → IsLegal numbers segments entries v
  shut_run [] w v r tree there t unread legal = tt
  shut_run (e ∷ es) w v r tree there t unread legal =
      let differ = sees_same w v r there t e.cred e.event unread.0 in
      let after = after_event numbers w e.cred e.event in
      let twins = twin_event Shut numbers segments w v e.cred tree t e.event differ in
      let below = event_tree numbers segments w e.cred e.event tree legal.0 in (
        same_event Shut numbers segments w v e.cred tree t e.event differ legal.0,
        on_from es after _ below twins legal.1
            (λ s is. shut_run es after _ s below is twins
            (still_unread r s (still_after w e.cred e.event r s tree legal.0 unread.0 there is) es unread.1)
            legal.1) _ refl,
      )

-- ---- the worlds that a run begins with

begun : (n : ℕ) (r s : Row) (w v : World) → DifferInBytesOf n r s w v → Twins (λ m. m ≡ n) w v
begun n r s w v d = record {
  level = d.level;
  rows = λ m. ⊎_elim
      (λ here. subst (λ k. NumberTwin (k ≡ n) (map.get w.rows k) (map.get v.rows k)) (sym here)
      (subst (λ o. NumberTwin (n ≡ n) o (map.get v.rows n)) (sym d.one)
      (subst (λ o. NumberTwin (n ≡ n) (Some r) o) (sym d.other) twin)))
      (λ other. subst (λ o. NumberTwin (m ≡ n) (map.get w.rows m) o) (d.rows m other)
      (number_itself (m ≡ n) (map.get w.rows m)))
      (cases_eq m n);
}
  where
    twin : RowTwin (n ≡ n) r s
    twin = record {
      parents = ap (λ (x : Row). x.parent) (sym d.rest);
      names = ap (λ (x : Row). x.name) (sym d.rest);
      file = record { rest = ap (λ (x : Row). x.file) d.rest; size = d.size; same = λ no. absurd (no refl) };
    }

pub nobody_reads_in_run : NobodyReadsInRun
nobody_reads_in_run numbers segments entries w v n r s tree other differ unread legal =
    shut_run numbers segments n entries w v r tree differ.one (begun n r s w v differ) unread legal
