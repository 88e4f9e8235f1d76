-- Callers who don't own a row and aren't the superuser leave its kind, owner, group, flags and mode (but for set-id
-- bits) until someone removes it: `strangers_leave`, for the law of that name. By Fates: all calls that change these
-- ask for the owner; by induction on the entries, where a row that is gone was removed by a call that might
-- (`gone_between` of BetweenLemmas). The row's number may be another file's later, so the run ends at the removal; a
-- call that let a group change a mode would break `whose_fate`.
use Rattle.std.proofs.Common.{◌≡◌, ◌≢◌, ◌⊎◌, ℕ, ◌==◌, List, [], ◌∷◌, ◌++◌, Option, None, Some, inl, inr, refl, sym, ap}
use Rattle.std.proofs.Common.{subst, ◌∙◌, ⊎_elim, append_assoc, ne_eqb}
use Rattle.std.proofs.lemmas.Bool.{or_from}
use Rattle.std.specs.Prelude.{IsSomeAnd}
use Rattle.std.specs.FinMap as map
use Rattle.lfs_types.specs.Caller.{Caller}
use Rattle.lfs_types.specs.Tree.{Row, World, attrs_of}
use Rattle.lfs_types.specs.declared.answer.Answer.TheVariants.{Served, Denied, Refused}
use Rattle.lfs_types.specs.declared.request.Request.{Request}
use Rattle.lfs_rules.specs.Owners.{is_owner_or_superuser}
use Rattle.lfs_model.specs.declared.journal.Entry.{Entry}
use Rattle.lfs_model.specs.declared.journal.Event.{Event}
use Rattle.lfs_model.specs.declared.journal.Event.TheVariants.{User, Cleaner}
use Rattle.lfs_model.specs.World.{IsTree, file_at}
use Rattle.lfs_model.specs.Steps.{IsEvent, IsLegal, after_event, world_after}
use Rattle.lfs_laws.specs.LawBetween.{IsDoneBy}
use Rattle.lfs_laws.specs.LawGone.{MayRemove}
use Rattle.lfs_laws.specs.LawOneThing.{KeepsMode}
use Rattle.lfs_laws.specs.LawStrangers.{AreNotOwners, IsNotOwner, IsStillWhose, StrangersLeave}
use Rattle.lfs_laws.specs.Rights.{Owns}
use Rattle.lfs_laws.proofs.BetweenLemmas.{gone_between}
use Rattle.lfs_laws.proofs.Fates.{Fate, fate}
use Rattle.lfs_laws.proofs.Fates.Fate.{Stays, Goes, Moves, Changes, Remodes, Gives, Reflags}
use Rattle.lfs_laws.proofs.LawFates.{kept_mode}
use Rattle.lfs_laws.proofs.LawFlags.{both, mode_on}
use Rattle.lfs_laws.proofs.LegalTrees.{event_tree}
use Rattle.lfs_laws.proofs.RowLaws.{row_of}
use Rattle.lfs_types.proofs.Somewhere.{is_some_and, none_there, some_and}

whose_by : (r x s : Row) → s ≡ x → x.file.kind ≡ r.file.kind → x.file.uid ≡ r.file.uid → x.file.gid ≡ r.file.gid
    → x.file.flags ≡ r.file.flags
    → KeepsMode r.file.mode x.file.mode → IsStillWhose r s
whose_by r x s e kind uid gid flags mode =
    subst (IsStillWhose r) (sym e) (record { kind = kind; uid = uid; gid = gid; flags = flags; mode = mode })

whose_on : (x y z : Row) → IsStillWhose x y → IsStillWhose y z → IsStillWhose x z
whose_on x y z a b = record {
  kind = b.kind ∙ a.kind;
  uid = b.uid ∙ a.uid;
  gid = b.gid ∙ a.gid;
  flags = b.flags ∙ a.flags;
  mode = mode_on x.file.mode y.file.mode z.file.mode a.mode b.mode;
}

whose_fate : (w v : World) (caller : Caller) (request : Request) (n : ℕ) (r s : Row) → map.get w.rows n ≡ Some r
    → map.get v.rows n ≡ Some s
    → caller.uid ≢ 0 → caller.uid ≢ r.file.uid → Fate w caller request v n r → IsStillWhose r s
whose_fate w v caller request n r s there is ordinary foreign f = by f
  where
    not_owned : Owns w.rows caller n → IsStillWhose r s
    not_owned owns = both (is_owner_or_superuser caller (attrs_of r.file))
        (sym (ap (λ o. is_owner_or_superuser caller (attrs_of (file_at o))) there) ∙ owns.owner)
        (or_from (caller.uid == 0) (caller.uid == r.file.uid) (ne_eqb caller.uid 0 ordinary)
        (ne_eqb caller.uid r.file.uid foreign))

    by : Fate w caller request v n r → IsStillWhose r s
    by (Stays e) = whose_by r _ s (row_of _ _ s e is) refl refl refl refl (inl refl)
    by (Goes e x over) = none_there _ s e is
    by (Moves parent name e x) = whose_by r _ s (row_of _ _ s e is) refl refl refl refl (inl refl)
    by (Changes bytes e x) = whose_by r _ s (row_of _ _ s e is) refl refl refl refl
        (kept_mode (caller.uid == 0) r.file.mode)
    by (Remodes mode e x) = not_owned x.allowed.owns
    by (Gives uid gid e x) = not_owned x.allowed.owns
    by (Reflags flags e x) = not_owned x.owns

still_foreign : (r s : Row) → s.file.uid ≡ r.file.uid → (entries : List Entry) → AreNotOwners r entries
    → AreNotOwners s entries
still_foreign r s same [] h = tt
still_foreign r s same (e ∷ es) h = (by e.event h.0, still_foreign r s same es h.1)
  where
    by : (event : Event) → IsNotOwner r e.cred event → IsNotOwner s e.cred event
    by (User request answer) u = (u.0, λ own. u.1 (own ∙ same))
    by (Cleaner kind outcome) u = u

module _ (numbers segments n : ℕ) where
  whose_event : (w : World) (caller : Caller) (event : Event) (r s : Row) → IsTree w.rows
      → IsEvent numbers segments w caller event
      → IsNotOwner r caller event
      → map.get w.rows n ≡ Some r → map.get (after_event numbers w caller event).rows n ≡ Some s → IsStillWhose r s
  whose_event w caller (User request (Served shown)) r s tree may u there is =
      whose_fate w _ caller request n r s there is u.0 u.1
      (fate numbers w caller tree n r there request (Served shown) may)
  whose_event w caller (User request (Denied denial)) r s tree may u there is =
      whose_by r _ s (row_of _ _ s there is) refl refl refl refl (inl refl)
  whose_event w caller (User request (Refused resource)) r s tree may u there is =
      whose_by r _ s (row_of _ _ s there is) refl refl refl refl (inl refl)
  whose_event w caller (Cleaner kind outcome) r s tree may u there is =
      whose_by r _ s (row_of _ _ s there is) refl refl refl refl (inl refl)

  abbrev Removed : List Entry → World → Type 0
  Removed entries w = IsDoneBy numbers entries w
      (λ v caller request after. IsSomeAnd (map.get v.rows n) (MayRemove v caller request n))

  -- what one of some entries did was done by one of more
  among_more : (es fs : List Entry) (w : World) → Removed es w → Removed (es ++ fs) w
  among_more es fs w c = record {
    before = c.before;
    entry = c.entry;
    later = c.later ++ fs;
    split = sym (append_assoc c.before (c.entry ∷ c.later) fs) ∙ ap (λ l. l ++ fs) c.split;
    request = c.request;
    shown = c.shown;
    event = c.event;
    holds = c.holds;
  }

  later_on : (e : Entry) (es : List Entry) (w : World) → Removed es (after_event numbers w e.cred e.event)
      → Removed (e ∷ es) w
  later_on e es w c = record {
    before = e ∷ c.before;
    entry = c.entry;
    later = c.later;
    split = ap (λ l. e ∷ l) c.split;
    request = c.request;
    shown = c.shown;
    event = c.event;
    holds = c.holds;
  }

  abbrev Left : Row → List Entry → World → Type 0
  Left r entries w = IsSomeAnd (map.get (world_after numbers entries w).rows n) (IsStillWhose r) ⊎ Removed entries w

  by_row : (e : Entry) (es : List Entry) (w : World) (r : Row) → IsTree w.rows → IsLegal numbers segments (e ∷ es) w
      → map.get w.rows n ≡ Some r
      → IsNotOwner r e.cred e.event
      → ((s : Row) → map.get (after_event numbers w e.cred e.event).rows n ≡ Some s → IsStillWhose r s
      → Left s es (after_event numbers w e.cred e.event))
      → (o : Option Row) → map.get (after_event numbers w e.cred e.event).rows n ≡ o → Left r (e ∷ es) w
  by_row e es w r tree legal there foreign rest None is =
      inr (among_more (e ∷ []) es w (gone_between numbers segments (e ∷ []) w n r tree (legal.0, tt) there is))
  by_row e es w r tree legal there foreign rest (Some s) is =
      let whose = whose_event w e.cred e.event r s tree legal.0 foreign there is in
      ⊎_elim
      (λ still. let t = some_and _ (IsStillWhose s) still in
      inl (is_some_and (IsStillWhose r) t.is (whose_on r s t.value whose t.holds)))
      (λ removed. inr (later_on e es w removed))
      (rest s is whose)

  leave : (entries : List Entry) (w : World) (r : Row) → IsTree w.rows → IsLegal numbers segments entries w
      → map.get w.rows n ≡ Some r
      → AreNotOwners r entries → Left r entries w
  leave [] w r tree legal there foreign = inl
      (is_some_and (IsStillWhose r) there (whose_by r r r refl refl refl refl refl (inl refl)))
  leave (e ∷ es) w r tree legal there foreign =
      by_row e es w r tree legal there foreign.0
      (λ s is whose. leave es (after_event numbers w e.cred e.event) s
      (event_tree numbers segments w e.cred e.event tree legal.0) legal.1 is
      (still_foreign r s whose.uid es foreign.1))
      _ refl

pub strangers_leave : StrangersLeave
strangers_leave numbers segments entries w n r tree legal there foreign =
    leave numbers segments n entries w r tree legal there foreign
