-- Where a row, a mode, an owner or the level differs at the end of a run, a call of the run changed it, by one who
-- might: `bytes_between`, `mode_between`, `gone_between` and their like, for the law `changed_between`, RegrantLemmas,
-- SetIdLemmas and StrangerLemmas. All are one lemma (`between`): being the same can be decided and follows from its
-- steps, so there is a first entry whose call breaks it, and the law of that one call says who might. A number may be
-- another file's later, so a removal counts as the change that is looked for (`IsTurn`), and the row is the one before
-- the call, not that of the start.
use Rattle.std.proofs.Common.{◌≡◌, ◌≢◌, ◌⊎◌, ◌<◌, ◌≤◌, ℕ, List, [], ◌∷◌, Option, None, Some, inl, inr, refl, sym, ap}
use Rattle.std.proofs.Common.{subst, ◌∙◌, ⊎_elim, arith}
use Rattle.std.specs.Prelude.{bytes_eq, IsSome, IsSomeAnd}
use Rattle.std.specs.FinMap as map
use Rattle.std.proofs.lemmas.Bool.{cases_eq, cases_lt, cases_Bool}
use Rattle.std.proofs.lemmas.Slice.Eq.{bytes_eq-Decides}
use Rattle.lfs_types.specs.Caller.{Caller}
use Rattle.lfs_types.specs.Tree.{Row, World}
use Rattle.lfs_types.specs.declared.answer.Answer.{Answer}
use Rattle.lfs_types.specs.declared.answer.Answer.TheVariants.{Served, Denied, Refused}
use Rattle.lfs_types.specs.declared.answer.Served as shows
use Rattle.lfs_types.specs.declared.level.Level.{Level}
use Rattle.lfs_types.specs.declared.level.Level.TheVariants.{PermanentlyInsecure, Insecure, Secure, HighlySecure}
use Rattle.lfs_types.specs.declared.request.Request.{Request}
use Rattle.lfs_model.specs.declared.journal.Entry.{Entry}
use Rattle.lfs_model.specs.declared.journal.Event.{Event}
use Rattle.lfs_model.specs.declared.journal.Event.TheVariants.{User, Cleaner}
use Rattle.lfs_model.specs.World.{IsTree}
use Rattle.lfs_laws.specs.LawBetween.{BytesBetween, FlagsBetween, GoneBetween, IsChangedBy, IsDoneBy, IsTurn}
use Rattle.lfs_laws.specs.LawBetween.{LevelBetween, MadeBetween, ModeBetween, OwnerBetween, PlaceBetween, SetIdBetween}
use Rattle.lfs_laws.specs.LawFlagged.{MayReflag}
use Rattle.lfs_laws.specs.LawGone.{MayRemove}
use Rattle.lfs_laws.specs.LawLevel.{MayRelevel}
use Rattle.lfs_laws.specs.LawMode.{IsChmod, LosesSetId}
use Rattle.lfs_laws.specs.LawMoved.{HangsStill, MayMove}
use Rattle.lfs_laws.specs.LawNew.{MayMake}
use Rattle.lfs_laws.specs.LawOwner.{MayGive, SameOwner}
use Rattle.lfs_laws.specs.LawRewritten.{MayRewrite}
use Rattle.lfs_model.specs.Steps.{IsAnswer, IsEvent, IsLegal, after_answer, after_event, world_after}
use Rattle.lfs_laws.proofs.CallLaws.{new_law, relevelled_law}
use Rattle.lfs_laws.proofs.LegalTrees.{event_tree}
use Rattle.lfs_laws.proofs.RowLaws.{given_law, gone_law, moved_law, reflagged_law, remoded_law, rewritten_law, row_of}
use Rattle.lfs_types.proofs.Somewhere.{is_some_and, none_there, present, there_of}

-- two lists of bytes are one or not
pub cases_bytes : (xs ys : List ℕ) → (xs ≡ ys) ⊎ (xs ≡ ys → ⊥)
cases_bytes xs ys = ⊎_elim
    (λ t. inl ((bytes_eq-Decides xs ys).0 t))
    (λ f. inr (λ e. let t = (bytes_eq-Decides xs ys).1 e in absurd (cc (t, f))))
    (cases_Bool (bytes_eq xs ys))

module _ (numbers segments n : ℕ) (Keeps : Row → Row → Type 0) (MayChange : World → Caller → Request → Row → Row
    → Type 0)
    (same : (r : Row) → Keeps r r) (joins : (r t s : Row) → Keeps r t → Keeps t s → Keeps r s) (decides : (r t : Row)
    → Keeps r t ⊎ (Keeps r t → ⊥))
    (law : (w : World) (caller : Caller) (request : Request) (answer : Answer) → IsTree w.rows
    → IsAnswer numbers w caller request answer
    → (r s : Row) → map.get w.rows n ≡ Some r → map.get (after_answer numbers w caller request answer).rows n ≡ Some s
    → (Keeps r s → ⊥) → MayChange w caller request r s) where
  abbrev Differs : Row → Row → Type 0
  Differs r s = Keeps r s → ⊥

  abbrev Found : List Entry → World → Type 0
  Found entries w = IsChangedBy numbers entries w n Differs MayChange

  -- an entry that comes before those by one of which a row was changed
  sooner : (e : Entry) (es : List Entry) (w : World) → Found es (after_event numbers w e.cred e.event)
      → Found (e ∷ es) w
  sooner e es w c = record {
    before = e ∷ c.before;
    entry = c.entry;
    later = c.later;
    split = ap (λ l. e ∷ l) c.split;
    request = c.request;
    shown = c.shown;
    event = c.event;
    row = c.row;
    there = c.there;
    turn = c.turn;
  }

  module _ (e : Entry) (es : List Entry) (w : World) (r s : Row) (tree : IsTree w.rows) (there : map.get w.rows n
      ≡ Some r) (differs : Differs r s)
      (rest : (v : World) (t : Row) → IsTree v.rows → IsLegal numbers segments es v → map.get v.rows n ≡ Some t
      → map.get (world_after numbers es v).rows n ≡ Some s → Differs t s → Found es v) where
    -- the entry that did it
    here : (request : Request) (shown : shows.Served) → e.event ≡ User request (Served shown)
        → IsTurn Differs MayChange w e.cred request (after_event numbers w e.cred (User request (Served shown))) n r
        → Found (e ∷ es) w
    here request shown is turn = record {
      before = [];
      entry = e;
      later = es;
      split = refl;
      request = request;
      shown = shown;
      event = is;
      row = r;
      there = there;
      turn = subst (λ (x : Event). IsTurn Differs MayChange w e.cred request (after_event numbers w e.cred x) n r)
          (sym is) turn;
    }

    -- a row that stays so
    on : (t : Row) → map.get (after_event numbers w e.cred e.event).rows n ≡ Some t → Keeps r t
        → IsTree (after_event numbers w e.cred e.event).rows
        → IsLegal numbers segments es (after_event numbers w e.cred e.event)
        → map.get (world_after numbers es (after_event numbers w e.cred e.event)).rows n ≡ Some s → Found (e ∷ es) w
    on t at keeps after_tree legal last = sooner e es w
        (rest (after_event numbers w e.cred e.event) t after_tree legal at last (λ k. differs (joins r t s keeps k)))

    by_row : (request : Request) (shown : shows.Served) → e.event ≡ User request (Served shown)
        → IsAnswer numbers w e.cred request (Served shown)
        → IsTree (after_event numbers w e.cred e.event).rows
        → IsLegal numbers segments es (after_event numbers w e.cred e.event)
        → map.get (world_after numbers es (after_event numbers w e.cred e.event)).rows n ≡ Some s
        → (o : Option Row) → map.get (after_event numbers w e.cred (User request (Served shown))).rows n ≡ o
        → Found (e ∷ es) w
    by_row request shown is answers after_tree legal last None at =
        here request shown is (inl (at, (gone_law numbers w e.cred request (Served shown) tree answers n r there at).0))
    by_row request shown is answers after_tree legal last (Some t) at = ⊎_elim
        (λ keeps. on t (subst (λ (x : Event). map.get (after_event numbers w e.cred x).rows n ≡ Some t) (sym is) at)
        keeps after_tree legal last)
        (λ apart. here request shown is (inr (
          t,
          at,
          apart,
          law w e.cred request (Served shown) tree answers r t there at apart,
        )))
        (decides r t)

    -- an entry that changes nothing
    idle : (event : Event) → e.event ≡ event → after_event numbers w e.cred event ≡ w
        → IsTree (after_event numbers w e.cred e.event).rows
        → IsLegal numbers segments es (after_event numbers w e.cred e.event)
        → map.get (world_after numbers es (after_event numbers w e.cred e.event)).rows n ≡ Some s → Found (e ∷ es) w
    idle event is stays after_tree legal last =
        on r (subst (λ (x : Event). map.get (after_event numbers w e.cred x).rows n ≡ Some r) (sym is)
        (ap (λ (v : World). map.get v.rows n) stays ∙ there)) (same r) after_tree legal last

    by_event : (event : Event) → e.event ≡ event → IsEvent numbers segments w e.cred event
        → IsTree (after_event numbers w e.cred e.event).rows
        → IsLegal numbers segments es (after_event numbers w e.cred e.event)
        → map.get (world_after numbers es (after_event numbers w e.cred e.event)).rows n ≡ Some s → Found (e ∷ es) w
    by_event (User request (Served shown)) is answers after_tree legal last =
        by_row request shown is answers after_tree legal last _ refl
    by_event (User request (Denied denial)) is answers after_tree legal last =
        idle (User request (Denied denial)) is refl after_tree legal last
    by_event (User request (Refused resource)) is answers after_tree legal last =
        idle (User request (Refused resource)) is refl after_tree legal last
    by_event (Cleaner kind outcome) is answers after_tree legal last =
        idle (Cleaner kind outcome) is refl after_tree legal last

  pub between : (entries : List Entry) (w : World) (r s : Row) → IsTree w.rows → IsLegal numbers segments entries w
      → map.get w.rows n ≡ Some r
      → map.get (world_after numbers entries w).rows n ≡ Some s → Differs r s → Found entries w
  between [] w r s tree legal there after differs =
      absurd (differs (subst (Keeps r) (sym (row_of _ _ s there after)) (same r)))
  between (e ∷ es) w r s tree legal there after differs =
      by_event e es w r s tree there differs (λ v t below legal_there at last apart. between es v t s below legal_there
      at last apart)
      e.event refl legal.0 (event_tree numbers segments w e.cred e.event tree legal.0) legal.1 after

-- ---- bytes

abbrev SameBytes : Row → Row → Type 0
SameBytes r s = s.file.bytes ≡ r.file.bytes

pub bytes_between : BytesBetween
bytes_between numbers segments entries w n r s tree legal there after differs =
    between numbers segments n SameBytes (λ v caller request row new. MayRewrite v caller request n row new.file.bytes)
    (λ x. refl) (λ x y z a b. b ∙ a) (λ x y. cases_bytes y.file.bytes x.file.bytes)
    (λ v caller request answer below is x y at next apart. rewritten_law numbers v caller request answer below is n x y
    at next apart)
    entries w r s tree legal there after differs

-- ---- places

hangs_here : (r : Row) → HangsStill r r
hangs_here r = record { parents = refl; names = refl }

pub cases_place : (r t : Row) → HangsStill r t ⊎ (HangsStill r t → ⊥)
cases_place r t = ⊎_elim
    (λ p. ⊎_elim (λ q. inl (record { parents = p; names = q })) (λ q. inr (λ (h : HangsStill r t). q h.names))
    (cases_bytes t.name r.name))
    (λ p. inr (λ (h : HangsStill r t). p h.parents))
    (cases_eq t.parent r.parent)

pub place_between : PlaceBetween
place_between numbers segments entries w n r s tree legal there after differs =
    between numbers segments n HangsStill (λ v caller request row new. MayMove v caller request n row new.parent
    new.name)
    hangs_here (λ x y z a b. record { parents = b.parents ∙ a.parents; names = b.names ∙ a.names }) cases_place
    (λ v caller request answer below is x y at next apart. moved_law numbers v caller request answer below is n x y at
    next apart)
    entries w r s tree legal there after differs

-- ---- modes, owners and flags

abbrev SameMode : Row → Row → Type 0
SameMode r s = s.file.mode ≡ r.file.mode

pub mode_between : ModeBetween
mode_between numbers segments entries w n r s tree legal there after differs =
    between numbers segments n SameMode (λ v caller request row new. IsChmod v caller request n row new
    ⊎ LosesSetId v caller request n row new)
    (λ x. refl) (λ x y z a b. b ∙ a) (λ x y. cases_eq y.file.mode x.file.mode)
    (λ v caller request answer below is x y at next apart. remoded_law numbers v caller request answer below is n x y at
    next apart)
    entries w r s tree legal there after differs

abbrev NoNewSetId : Row → Row → Type 0
NoNewSetId r s = 0o2000 ≤ s.file.mode → 0o2000 ≤ r.file.mode

cases_set_id : (r s : Row) → NoNewSetId r s ⊎ (NoNewSetId r s → ⊥)
cases_set_id r s = ⊎_elim
    (λ low. ⊎_elim (λ less. inl (λ high. absurd (omega (arith, less, high))))
    (λ high. inr (λ (h : NoNewSetId r s). let up = h high in omega (arith, low, up))) (cases_lt s.file.mode 0o2000))
    (λ high. inl (λ h. high))
    (cases_lt r.file.mode 0o2000)

set_id_law : (numbers : ℕ) (v : World) (caller : Caller) (request : Request) (answer : Answer) (n : ℕ) → IsTree v.rows
    → IsAnswer numbers v caller request answer → (x y : Row)
    → map.get v.rows n ≡ Some x → map.get (after_answer numbers v caller request answer).rows n ≡ Some y
    → (NoNewSetId x y → ⊥) → IsChmod v caller request n x y
set_id_law numbers v caller request answer n below is x y at next apart = ⊎_elim
    (λ same. absurd (apart (λ high. omega (arith, same, high))))
    (λ differs. ⊎_elim
    (λ chmod. chmod)
    (λ loses. let cleared = loses.cleared in absurd (apart (λ high. absurd (omega (arith, cleared, high)))))
    (remoded_law numbers v caller request answer below is n x y at next differs))
    (cases_eq y.file.mode x.file.mode)

pub set_id_between : SetIdBetween
set_id_between numbers segments entries w n r s tree legal there after differs =
    turned (between numbers segments n NoNewSetId (λ v caller request row new. IsChmod v caller request n row new)
    (λ x h. h) (λ x y z a b h. a (b h)) cases_set_id
    (λ v caller request answer below is x y at next apart. set_id_law numbers v caller request answer n below is x y at
    next apart)
    entries w r s tree legal there after (λ (h : NoNewSetId r s). let up = h differs.1 in let low = differs.0 in
    omega (arith, up, low)))
  where
    high_of : (m k : ℕ) → ((0o2000 ≤ k → 0o2000 ≤ m) → ⊥) → (m < 0o2000) × (0o2000 ≤ k)
    high_of m k h = ⊎_elim
        (λ low. ⊎_elim (λ less. absurd (h (λ up. absurd (omega (arith, less, up))))) (λ up. (low, up))
        (cases_lt k 0o2000))
        (λ high. absurd (h (λ up. high)))
        (cases_lt m 0o2000)

    turned : IsChangedBy numbers entries w n (λ x y. NoNewSetId x y → ⊥)
        (λ v caller request row new. IsChmod v caller request n row new)
        → IsChangedBy numbers entries w n (λ x y. (x.file.mode < 0o2000) × (0o2000 ≤ y.file.mode))
        (λ v caller request row new. IsChmod v caller request n row new)
    turned c = record {
      before = c.before;
      entry = c.entry;
      later = c.later;
      split = c.split;
      request = c.request;
      shown = c.shown;
      event = c.event;
      row = c.row;
      there = c.there;
      turn = ⊎_elim (λ gone. inl gone) (λ t. inr (t.0, t.1, high_of c.row.file.mode t.0.file.mode t.2, t.3)) c.turn;
    }

abbrev OwnedAlike : Row → Row → Type 0
OwnedAlike r s = SameOwner r.file s.file

cases_owned : (r s : Row) → OwnedAlike r s ⊎ (OwnedAlike r s → ⊥)
cases_owned r s = ⊎_elim
    (λ u. ⊎_elim (λ g. inl (record { uid = u; gid = g })) (λ g. inr (λ (h : OwnedAlike r s). g h.gid))
    (cases_eq s.file.gid r.file.gid))
    (λ u. inr (λ (h : OwnedAlike r s). u h.uid))
    (cases_eq s.file.uid r.file.uid)

pub owner_between : OwnerBetween
owner_between numbers segments entries w n r s tree legal there after differs =
    between numbers segments n OwnedAlike (λ v caller request row new. MayGive v caller request n row new.file.uid
    new.file.gid)
    (λ x. record { uid = refl; gid = refl })
    (λ x y z a b. record { uid = b.uid ∙ a.uid; gid = b.gid ∙ a.gid }) cases_owned
    (λ v caller request answer below is x y at next apart. given_law numbers v caller request answer below is n x y at
    next apart)
    entries w r s tree legal there after differs

abbrev SameFlags : Row → Row → Type 0
SameFlags r s = s.file.flags ≡ r.file.flags

pub flags_between : FlagsBetween
flags_between numbers segments entries w n r s tree legal there after differs =
    between numbers segments n SameFlags (λ v caller request row new. MayReflag v caller request n row new.file.flags)
    (λ x. refl) (λ x y z a b. b ∙ a) (λ x y. cases_eq y.file.flags x.file.flags)
    (λ v caller request answer below is x y at next apart. reflagged_law numbers v caller request answer below is n x y
    at next apart)
    entries w r s tree legal there after differs

-- ---- the level, and being there

-- What differs at the end of a run from what was at its beginning was changed by a served call: Q is what was, and each
-- served call leaves it, or does what is looked for.
module _ (numbers segments : ℕ) (Q : World → Type 0) (P : World → Caller → Request → World → Type 0)
    (law : (w : World) (caller : Caller) (request : Request) (answer : Answer) → IsTree w.rows
    → IsAnswer numbers w caller request answer → Q w
    → Q (after_answer numbers w caller request answer)
    ⊎ P w caller request (after_answer numbers w caller request answer)) where
  earlier : (e : Entry) (es : List Entry) (w : World) → IsDoneBy numbers es (after_event numbers w e.cred e.event) P
      → IsDoneBy numbers (e ∷ es) w P
  earlier e es w c = record {
    before = e ∷ c.before;
    entry = c.entry;
    later = c.later;
    split = ap (λ l. e ∷ l) c.split;
    request = c.request;
    shown = c.shown;
    event = c.event;
    holds = c.holds;
  }

  first : (e : Entry) (es : List Entry) (w : World) (event : Event) → e.event ≡ event → IsTree w.rows
      → IsEvent numbers segments w e.cred event → Q w
      → Q (after_event numbers w e.cred event) ⊎ IsDoneBy numbers (e ∷ es) w P
  first e es w (User request (Served shown)) is tree may q = ⊎_elim
      (λ stays. inl stays)
      (λ done. inr (record {
        before = [];
        entry = e;
        later = es;
        split = refl;
        request = request;
        shown = shown;
        event = is;
        holds = subst (λ (x : Event). P w e.cred request (after_event numbers w e.cred x)) (sym is) done;
      }))
      (law w e.cred request (Served shown) tree may q)
  first e es w (User request (Denied denial)) is tree may q = inl q
  first e es w (User request (Refused resource)) is tree may q = inl q
  first e es w (Cleaner kind outcome) is tree may q = inl q

  done_between : (entries : List Entry) (w : World) → IsTree w.rows → IsLegal numbers segments entries w → Q w
      → (Q (world_after numbers entries w) → ⊥) → IsDoneBy numbers entries w P
  done_between [] w tree legal q differs = absurd (differs q)
  done_between (e ∷ es) w tree legal q differs = ⊎_elim
      (λ stays. earlier e es w (done_between es (after_event numbers w e.cred e.event)
      (event_tree numbers segments w e.cred e.event tree legal.0) legal.1 stays differs))
      (λ done. done)
      (first e es w e.event refl tree legal.0 q)

cases_level : (a b : Level) → (a ≡ b) ⊎ (a ≡ b → ⊥)
cases_level PermanentlyInsecure PermanentlyInsecure = inl refl
cases_level PermanentlyInsecure Insecure = inr (λ e. cc (e))
cases_level PermanentlyInsecure Secure = inr (λ e. cc (e))
cases_level PermanentlyInsecure HighlySecure = inr (λ e. cc (e))
cases_level Insecure PermanentlyInsecure = inr (λ e. cc (e))
cases_level Insecure Insecure = inl refl
cases_level Insecure Secure = inr (λ e. cc (e))
cases_level Insecure HighlySecure = inr (λ e. cc (e))
cases_level Secure PermanentlyInsecure = inr (λ e. cc (e))
cases_level Secure Insecure = inr (λ e. cc (e))
cases_level Secure Secure = inl refl
cases_level Secure HighlySecure = inr (λ e. cc (e))
cases_level HighlySecure PermanentlyInsecure = inr (λ e. cc (e))
cases_level HighlySecure Insecure = inr (λ e. cc (e))
cases_level HighlySecure Secure = inr (λ e. cc (e))
cases_level HighlySecure HighlySecure = inl refl

pub level_between : LevelBetween
level_between numbers segments entries w tree legal differs =
    done_between numbers segments (λ v. v.level ≡ w.level) (λ v caller request after. (after.level ≢ v.level)
    × MayRelevel caller request v.level after.level)
    (λ v caller request answer below is q. ⊎_elim
    (λ same. inl (same ∙ q))
    (λ apart. inr (apart, relevelled_law numbers v caller request answer below is apart))
    (cases_level (after_answer numbers v caller request answer).level v.level))
    entries w tree legal refl differs

made_or_none : (numbers : ℕ) (v : World) (caller : Caller) (request : Request) (answer : Answer) → IsTree v.rows
    → IsAnswer numbers v caller request answer → (n : ℕ) → map.get v.rows n ≡ None
    → (o : Option Row) → map.get (after_answer numbers v caller request answer).rows n ≡ o
    → (map.get (after_answer numbers v caller request answer).rows n ≡ None)
    ⊎ IsSomeAnd (map.get (after_answer numbers v caller request answer).rows n) (MayMake numbers v caller request n)
made_or_none numbers v caller request answer below is n none None e = inl e
made_or_none numbers v caller request answer below is n none (Some s) e =
    inr (is_some_and (MayMake numbers v caller request n) e
    (new_law numbers v caller request answer below is n s none e))

pub made_between : MadeBetween
made_between numbers segments entries w n s tree legal none there =
    done_between numbers segments (λ v. map.get v.rows n ≡ None)
    (λ v caller request after. IsSomeAnd (map.get after.rows n) (MayMake numbers v caller request n))
    (λ v caller request answer below is q. made_or_none numbers v caller request answer below is n q _ refl)
    entries w tree legal none (λ q. none_there _ s q there)

gone_or_there : (numbers : ℕ) (v : World) (caller : Caller) (request : Request) (answer : Answer) → IsTree v.rows
    → IsAnswer numbers v caller request answer → (n : ℕ) (r : Row) → map.get v.rows n ≡ Some r
    → (o : Option Row) → map.get (after_answer numbers v caller request answer).rows n ≡ o
    → IsSome (map.get (after_answer numbers v caller request answer).rows n)
    ⊎ IsSomeAnd (map.get v.rows n) (MayRemove v caller request n)
gone_or_there numbers v caller request answer below is n r there None e =
    inr (is_some_and (MayRemove v caller request n) there
    (gone_law numbers v caller request answer below is n r there e).0)
gone_or_there numbers v caller request answer below is n r there (Some s) e = inl (present e)

pub gone_between : GoneBetween
gone_between numbers segments entries w n r tree legal there none =
    done_between numbers segments (λ v. IsSome (map.get v.rows n))
    (λ v caller request after. IsSomeAnd (map.get v.rows n) (MayRemove v caller request n))
    (λ v caller request answer below is q. let t = there_of (map.get v.rows n) q in
    gone_or_there numbers v caller request answer below is n t.value t.is _ refl)
    entries w tree legal (present there) (λ q. let t = there_of _ q in none_there _ t.value none t.is)
