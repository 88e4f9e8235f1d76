-- Each attribute of a row is what the last call that sets it gave: `size_last_set`, `permissions_last_set` and their
-- like, and `all_set_since_opening`, for the law `last_set`. One lemma carries all of them, over an attribute `of` and
-- what calls give: after a call a row is the one that the call is about (`becomes`) or as it was (`turn`), and the
-- induction goes over the entries from the back. A new request, or another effect of one, needs its line in `becomes`
-- and in each lemma that says what an attribute gets.
use Rattle.std.proofs.Common.{◌≡◌, ◌⊎◌, ◌<◌, ◌≤◌, ℕ, ◌+◌, ◌/◌, ◌%◌, ◌==◌, Bool, true, false, cond, List, [], ◌∷◌}
use Rattle.std.proofs.Common.{length, Option, None, Some, inl, inr, refl, sym, ap, subst, ◌∙◌, ⊎_elim, arith, eqb-true}
use Rattle.std.specs.Prelude.{nat_le, unwrap_or}
use Rattle.std.proofs.lemmas.Bool.{cases_eq}
use Rattle.std.specs.FinMap as map
use Rattle.lfs_types.specs.Caller.{Caller}
use Rattle.lfs_types.specs.Splicing.{splice}
use Rattle.lfs_types.specs.Tree.{File, Row, World, root, opening_world}
use Rattle.lfs_types.specs.declared.answer.Answer.TheVariants.{Served, Denied, Refused}
use Rattle.lfs_types.specs.declared.attrs.Kind.{Kind}
use Rattle.lfs_types.specs.declared.attrs.Kind.TheVariants.{File as Regular, Directory}
use Rattle.lfs_types.specs.declared.request.Place.{Place}
use Rattle.lfs_types.specs.declared.request.Request.{Request}
use Rattle.lfs_types.specs.declared.request.Request.TheVariants.{Stat, Read, Write, List as Names, SetLength, Create}
use Rattle.lfs_types.specs.declared.request.Request.TheVariants.{Mkdir, Unlink, Rmdir, Rename, Chmod, Chown, Chflags}
use Rattle.lfs_types.specs.declared.request.Request.TheVariants.{SetLevel, Sync}
use Rattle.lfs_rules.specs.SetId.{set_id_cleared}
use Rattle.lfs_model.specs.declared.journal.Entry.{Entry}
use Rattle.lfs_model.specs.declared.journal.Event.{Event}
use Rattle.lfs_model.specs.declared.journal.Event.TheVariants.{User, Cleaner}
use Rattle.lfs_model.specs.World.{Rows, child, file_at}
use Rattle.lfs_model.specs.Rules.{attrs_at, reached, front, last, start_in}
use Rattle.lfs_model.specs.Effects.{effect, after_rename, least_unused, with_file, with_place, without_row, mode_after}
use Rattle.lfs_model.specs.Effects.{written, cut, given}
use Rattle.lfs_model.specs.Steps.{AllUsed, IsEvent, IsLegal, LacksInodes, after_event, world_after}
use Rattle.lfs_laws.specs.LawLastSet.{AllSetSinceOpening, SetSinceOpening, FlagsLastSet, Giving, GroupLastSet, IsAbout}
use Rattle.lfs_laws.specs.LawLastSet.{IsLeft, IsSetLast, KindLastSet, LastSet, OwnerLastSet, PermissionsLastSet}
use Rattle.lfs_laws.specs.LawLastSet.{PlaceLastSet, SetIdsLastSet, SetsAny, SetsTo, SizeLastSet, bits_taken, end_past}
use Rattle.lfs_laws.specs.LawLastSet.{flags_given, group_given, kind_given, owner_given, permissions_given, place_given}
use Rattle.lfs_laws.specs.LawLastSet.{set_ids_given, size_given}
use Rattle.lfs_laws.specs.LawNew.{IsLeastUnused}
use Rattle.lfs_laws.specs.LawsRuns.{IsServed}
use Rattle.lfs_laws.proofs.CallLaws.{least_number}
use Rattle.lfs_laws.proofs.Fates.{le-true}
use Rattle.lfs_laws.proofs.LawBytes.{length-spliced, new_row, was}
use Rattle.lfs_model.proofs.Children.{child-is}
use Rattle.lfs_model.proofs.RunLemmas.{only_root}
use Rattle.lfs_types.proofs.Maps.{get-insert_same, get-insert_other, get-remove_same, get-remove_other}
use Rattle.lfs_types.proofs.Pieces.{length-resized}
use Rattle.lfs_types.proofs.Somewhere.{none_there}

-- ---- what becomes of a row

-- the row that a call is about, after it: of what was there
abbrev becomes : ℕ → World → Caller → Request → Option Row → Option Row
becomes numbers w caller (Create path mode) o = Some (new_row numbers w caller path Regular mode)
becomes numbers w caller (Mkdir path mode) o = Some (new_row numbers w caller path Directory mode)
becomes numbers w caller (Write path place (b ∷ bs)) (Some r) =
    Some (record r { file = written caller place (b ∷ bs) r.file })
becomes numbers w caller (SetLength path len) (Some r) = Some (record r { file = cut caller len r.file })
becomes numbers w caller (Rename from to) (Some r) =
    Some (record r { parent = reached w.rows root (front to); name = last to })
becomes numbers w caller (Chmod path mode) (Some r) = Some (record r { file = record r.file { mode = mode } })
becomes numbers w caller (Chown path uid gid) (Some r) = Some (record r { file = given caller uid gid r.file })
becomes numbers w caller (Chflags path flags) (Some r) = Some (record r { file = record r.file { flags = flags } })
becomes numbers w caller request o = o

-- a row after a call: the call is about it, or it was as it is
data Turn (numbers : ℕ) (w : World) (caller : Caller) (request : Request) (n : ℕ) (s : Row) : Type 0 where
  About : IsAbout numbers w n request → becomes numbers w caller request (map.get w.rows n) ≡ Some s
      → Turn numbers w caller request n s
  Elsewhere : (IsAbout numbers w n request → ⊥) → map.get w.rows n ≡ Some s → Turn numbers w caller request n s

-- a row that got a place: it is the moved one, or another that was as it is
data Placed (w : World) (m parent : ℕ) (name : List ℕ) (n : ℕ) (s : Row) : Type 0 where
  Moved : m ≡ n → (r : Row) → map.get w.rows n ≡ Some r → record r { parent = parent; name = name } ≡ s
      → Placed w m parent name n s
  Other : (m ≡ n → ⊥) → map.get w.rows n ≡ Some s → Placed w m parent name n s

-- a row that is left after another was taken away was as it is
left_over : (rows : Rows) (k n : ℕ) (s : Row) → map.get (map.remove rows k) n ≡ Some s → map.get rows n ≡ Some s
left_over rows k n s h = ⊎_elim
    (λ same. none_there _ s (ap (map.get (map.remove rows k)) same ∙ get-remove_same rows k) h)
    (λ other. sym (get-remove_other rows k n other) ∙ h)
    (cases_eq n k)

-- in a world v that is w, or w without another row
put : (w v : World) (m parent : ℕ) (name : List ℕ) (n : ℕ) (s : Row)
    → ((x : Row) → map.get v.rows n ≡ Some x → map.get w.rows n ≡ Some x)
    → (o : Option Row) → map.get w.rows m ≡ o → map.get (with_place o m parent name v).rows n ≡ Some s
    → Placed w m parent name n s
put w v m parent name n s back None e h =
    Other (λ same. none_there _ s (ap (map.get w.rows) (sym same) ∙ e) (back s h)) (back s h)
put w v m parent name n s back (Some r) e h = ⊎_elim
    (λ same.
    let row : Row = record r { parent = parent; name = name } in
    let new : map.get (map.insert v.rows m row) n ≡ Some row = ap (map.get (map.insert v.rows m row)) same
    ∙ get-insert_same v.rows m row in
    Moved (sym same) r (ap (map.get w.rows) same ∙ e) (cc))
    (λ other. Other (λ same. other (sym same))
    (back s (sym (get-insert_other v.rows m (record r { parent = parent; name = name }) n other) ∙ h)))
    (cases_eq n m)

put_over : (w : World) (m parent : ℕ) (name : List ℕ) (n : ℕ) (s : Row) (k : ℕ) (b : Bool) → (k == m) ≡ b
    → child w.rows parent name ≡ Some k
    → map.get (cond b w (with_place (map.get w.rows m) m parent name (without_row k w))).rows n ≡ Some s
    → Placed w m parent name n s
put_over w m parent name n s k true e is h = ⊎_elim
    (λ same.
    let hangs = child-is w.rows parent name k is in
    let one : k ≡ n = eqb-true k m e ∙ same in
    let row : hangs.row ≡ s = cc (hangs.there, ap (map.get w.rows) one, h) in
    let up : s.parent ≡ parent = ap (λ (x : Row). x.parent) (sym row) ∙ hangs.hangs in
    let named : s.name ≡ name = ap (λ (x : Row). x.name) (sym row) ∙ hangs.named in
    Moved same s h (λ i. record s { parent = sym up i; name = sym named i }))
    (λ other. Other other h)
    (cases_eq m n)
put_over w m parent name n s k false e is h =
    put w (without_row k w) m parent name n s (left_over w.rows k n) (map.get w.rows m) refl h

renamed : (w : World) (m parent : ℕ) (name : List ℕ) (n : ℕ) (s : Row) (o : Option ℕ) → child w.rows parent name ≡ o
    → map.get (after_rename w m o parent name).rows n ≡ Some s → Placed w m parent name n s
renamed w m parent name n s None e h = put w w m parent name n s (λ x at. at) (map.get w.rows m) refl h
renamed w m parent name n s (Some k) e h = put_over w m parent name n s k (k == m) refl e h

module _ (numbers : ℕ) (w : World) (caller : Caller) (n : ℕ) (s : Row) where
  -- the row at the end of a path, or another
  turned : (request : Request) (path : List (List ℕ)) (change : File → File)
      → (reached w.rows root path ≡ n → IsAbout numbers w n request)
      → (IsAbout numbers w n request → reached w.rows root path ≡ n)
      → ((r : Row) → becomes numbers w caller request (Some r) ≡ Some (record r { file = change r.file }))
      → map.get (with_file (map.get w.rows (reached w.rows root path)) (reached w.rows root path) change w).rows n
      ≡ Some s → Turn numbers w caller request n s
  turned request path change about back is h =
      let before = was w n (reached w.rows root path) change s _ refl h in
      ⊎_elim
      (λ other. Elsewhere (λ a. other.0 (sym (back a))) (before.there ∙ ap (λ (x : Row). Some x) other.1))
      (λ same. About (about (sym same.0))
      (ap (becomes numbers w caller request) before.there ∙ is before.row ∙ ap (λ (x : Row). Some x) same.1))
      before.how

  -- a row that is new, or another
  made : (request : Request) (path : List (List ℕ)) (kind : Kind) (mode : ℕ) → (AllUsed numbers w.rows → ⊥)
      → (IsLeastUnused numbers w.rows n → IsAbout numbers w n request)
      → (IsAbout numbers w n request → IsLeastUnused numbers w.rows n)
      → becomes numbers w caller request (map.get w.rows n) ≡ Some (new_row numbers w caller path kind mode)
      → map.get (map.insert w.rows (least_unused w.rows numbers 4) (new_row numbers w caller path kind mode)) n ≡ Some s
      → Turn numbers w caller request n s
  made request path kind mode room about back new h = ⊎_elim
      (λ same.
      let row = new_row numbers w caller path kind mode in
      let is : map.get (map.insert w.rows (least_unused w.rows numbers 4) row) n ≡ Some row =
      ap (map.get (map.insert w.rows (least_unused w.rows numbers 4) row)) same
      ∙ get-insert_same w.rows (least_unused w.rows numbers 4) row in
      About (about (subst (IsLeastUnused numbers w.rows) (sym same) (least_number numbers w.rows room))) (new ∙ sym is
      ∙ h))
      (λ other.
      let there = sym (get-insert_other w.rows (least_unused w.rows numbers 4)
      (new_row numbers w caller path kind mode) n other) ∙ h in
      Elsewhere (λ a. none_there _ s (back a).unused there) there)
      (cases_eq n (least_unused w.rows numbers 4))

  moved : (from to : List (List ℕ)) → Placed w (reached w.rows root from) (reached w.rows root (front to)) (last to) n s
      → Turn numbers w caller (Rename from to) n s
  moved from to (Moved same r there is) = About same (ap (becomes numbers w caller (Rename from to)) there
      ∙ ap (λ (x : Row). Some x) is)
  moved from to (Other other there) = Elsewhere other there

  turn : (request : Request) → (LacksInodes numbers w request → ⊥) → map.get (effect numbers w caller request).rows n
      ≡ Some s → Turn numbers w caller request n s
  turn (Stat path) room h = Elsewhere (λ a. a) h
  turn (Read path off len) room h = Elsewhere (λ a. a) h
  turn (Names path) room h = Elsewhere (λ a. a) h
  turn (Write path place []) room h = ⊎_elim (λ same. About same h) (λ other. Elsewhere other h)
      (cases_eq (reached w.rows root path) n)
  turn (Write path place (b ∷ bs)) room h =
      turned (Write path place (b ∷ bs)) path (written caller place (b ∷ bs)) (λ a. a) (λ a. a) (λ r. refl) h
  turn (SetLength path len) room h = turned (SetLength path len) path (cut caller len) (λ a. a) (λ a. a) (λ r. refl) h
  turn (Create path mode) room h = made (Create path mode) path Regular mode room (λ a. a) (λ a. a) refl h
  turn (Mkdir path mode) room h = made (Mkdir path mode) path Directory mode room (λ a. a) (λ a. a) refl h
  turn (Unlink path) room h = Elsewhere (λ a. a) (left_over w.rows (reached w.rows root path) n s h)
  turn (Rmdir path) room h = Elsewhere (λ a. a) (left_over w.rows (reached w.rows root path) n s h)
  turn (Rename from to) room h = moved from to
      (renamed w (reached w.rows root from) (reached w.rows root (front to)) (last to) n s
      (child w.rows (reached w.rows root (front to)) (last to)) refl h)
  turn (Chmod path mode) room h = turned (Chmod path mode) path (λ f. record f { mode = mode }) (λ a. a) (λ a. a)
      (λ r. refl) h
  turn (Chown path uid gid) room h = turned (Chown path uid gid) path (given caller uid gid) (λ a. a) (λ a. a)
      (λ r. refl) h
  turn (Chflags path flags) room h = turned (Chflags path flags) path (λ f. record f { flags = flags }) (λ a. a)
      (λ a. a) (λ r. refl) h
  turn (SetLevel level) room h = Elsewhere (λ a. a) h
  turn Sync room h = Elsewhere (λ a. a) h

-- ---- an attribute

-- what a call gives is the new value, or it gives none and the old one is
abbrev IsGiven : {A : Type 0} → Option A → Option A → A → Type 0
IsGiven (Some value) old new = value ≡ new
IsGiven None (Some old) new = old ≡ new
IsGiven None None new = ⊥

abbrev value_of : {A : Type 0} → (Row → A) → Option Row → Option A
value_of of None = None
value_of of (Some r) = Some (of r)

-- so of each row that a call is about
abbrev AreGiven : (A : Type 0) → (Row → A) → Giving A → Type 0
AreGiven A of gives =
    (numbers n : ℕ) (w : World) (caller : Caller) (s : Row) (request : Request) (o : Option Row) → map.get w.rows n ≡ o
    → IsAbout numbers w n request
    → becomes numbers w caller request o ≡ Some s → IsGiven (gives w caller request) (value_of of o) (of s)

module _ (A : Type 0) (of : Row → A) (gives : Giving A) (fact : AreGiven A of gives) (numbers segments n : ℕ) where
  -- an attribute was there before, and the call doesn't set it
  record Kept (w : World) (caller : Caller) (request : Request) (s : Row) : Type 0 where
    row : Row
    there : map.get w.rows n ≡ Some row
    same : of row ≡ of s
    unset : (value : A) → SetsTo A gives numbers w caller n value request → ⊥

  by_given : (w : World) (caller : Caller) (request : Request) (s : Row) (g : Option A) (o : Option Row)
      → gives w caller request ≡ g → map.get w.rows n ≡ o
      → IsAbout numbers w n request → IsGiven g (value_of of o) (of s)
      → SetsTo A gives numbers w caller n (of s) request ⊎ Kept w caller request s
  by_given w caller request s (Some value) o g e about is = inl (about, g ∙ ap (λ x. Some x) is)
  by_given w caller request s None (Some r) g e about is =
      inr (record { row = r; there = e; same = is; unset = λ value sets. let other = sets.1 in absurd (cc (g, other)) })
  by_given w caller request s None None g e about is = absurd is

  by_turn : (w : World) (caller : Caller) (request : Request) (s : Row) → Turn numbers w caller request n s
      → SetsTo A gives numbers w caller n (of s) request ⊎ Kept w caller request s
  by_turn w caller request s (About about e) =
      by_given w caller request s _ _ refl refl about
      (fact numbers n w caller s request (map.get w.rows n) refl about e)
  by_turn w caller request s (Elsewhere not there) =
      inr (record { row = s; there = there; same = refl; unset = λ value sets. not sets.0 })

  -- ---- lists of calls

  abbrev Origin : List Entry → World → A → Type 0
  Origin entries w value = IsSetLast A gives numbers entries w n value ⊎ IsLeft A of gives numbers entries w n value

  -- an entry that comes before those of which one sets it last
  sooner : (e : Entry) (es : List Entry) (w : World) (value : A)
      → IsSetLast A gives numbers es (after_event numbers w e.cred e.event) n value
      → IsSetLast A gives numbers (e ∷ es) w n value
  sooner e es w value c = record {
    before = e ∷ c.before;
    entry = c.entry;
    later = c.later;
    split = ap (λ l. e ∷ l) c.split;
    sets = c.sets;
    last = c.last;
  }

  module _ (e : Entry) (es : List Entry) (w : World) (value : A)
      (left : IsLeft A of gives numbers es (after_event numbers w e.cred e.event) n value) where
    -- the entry sets it, and none behind
    sets_here : (event : Event) → e.event ≡ event → IsServed (SetsTo A gives numbers w e.cred n value) event
        → Origin (e ∷ es) w value
    sets_here event is sets = inl (record {
      before = [];
      entry = e;
      later = es;
      split = refl;
      sets = subst (IsServed (SetsTo A gives numbers w e.cred n value)) (sym is) sets;
      last = left.none;
    })

    -- nor does the entry
    left_here : (event : Event) → e.event ≡ event → (IsServed (SetsAny A gives numbers n w e.cred) event → ⊥)
        → (row : Row) → map.get w.rows n ≡ Some row → of row ≡ value
        → Origin (e ∷ es) w value
    left_here event is unset row there was_it = inr (record {
      none = (subst (λ (x : Event). IsServed (SetsAny A gives numbers n w e.cred) x → ⊥) (sym is) unset, left.none);
      row = row;
      there = there;
      was = was_it;
    })

    by_event : (event : Event) → e.event ≡ event → IsEvent numbers segments w e.cred event
        → map.get (after_event numbers w e.cred event).rows n ≡ Some left.row → Origin (e ∷ es) w value
    by_event (User request (Served shown)) is may there = ⊎_elim
        (λ sets. sets_here (User request (Served shown)) is
        (subst (λ x. SetsTo A gives numbers w e.cred n x request) left.was sets))
        (λ stays. left_here (User request (Served shown)) is (λ sets. stays.unset sets.0 sets.1) stays.row stays.there
        (stays.same ∙ left.was))
        (by_turn w e.cred request left.row (turn numbers w e.cred n left.row request may.1 there))
    by_event (User request (Denied denial)) is may there = left_here _ is (λ sets. sets) left.row there left.was
    by_event (User request (Refused resource)) is may there = left_here _ is (λ sets. sets) left.row there left.was
    by_event (Cleaner kind outcome) is may there = left_here _ is (λ sets. sets) left.row there left.was

  since : (entries : List Entry) (w : World) (r : Row) → IsLegal numbers segments entries w
      → map.get (world_after numbers entries w).rows n ≡ Some r → Origin entries w (of r)
  since [] w r legal h = inr (record { none = tt; row = r; there = h; was = refl })
  since (e ∷ es) w r legal h = ⊎_elim
      (λ set. inl (sooner e es w (of r) set))
      (λ left. by_event e es w (of r) left e.event refl legal.0 left.there)
      (since es (after_event numbers w e.cred e.event) r legal.1 h)

last_set : (A : Type 0) (of : Row → A) (gives : Giving A) → AreGiven A of gives → LastSet A of gives
last_set A of gives fact numbers segments entries w n r legal there =
    since A of gives fact numbers segments n entries w r legal there

-- ---- each attribute

-- what the row is that a call is about is what it becomes
becomes_is : {A : Type 0} → (of : Row → A) → (x s : Row) → Some x ≡ Some s → of x ≡ of s
becomes_is of x s e = ap (λ o. of (unwrap_or o x)) e

kind_is : AreGiven Kind (λ r. r.file.kind) kind_given
kind_is numbers n w caller s (Create path mode) o at about e = becomes_is (λ r. r.file.kind) _ s e
kind_is numbers n w caller s (Mkdir path mode) o at about e = becomes_is (λ r. r.file.kind) _ s e
kind_is numbers n w caller s (Write path place (b ∷ bs)) None at about e = absurd (cc)
kind_is numbers n w caller s (Write path place (b ∷ bs)) (Some r) at about e = becomes_is (λ r. r.file.kind) _ s e
kind_is numbers n w caller s request (Some r) at about e = becomes_is (λ r. r.file.kind) _ s e
kind_is numbers n w caller s request None at about e = absurd (cc)

pub kind_last_set : KindLastSet
kind_last_set = last_set Kind (λ r. r.file.kind) kind_given kind_is

le-false : (a b : ℕ) → nat_le a b ≡ false → b < a
le-false a b h = grind (arith)

-- bytes that end past the old end, or within
end_is : (size end old new : ℕ) → old ≡ size → (end ≤ size → new ≡ size) → (size ≤ end → new ≡ end)
    → IsGiven (end_past size end) (Some old) new
end_is size end old new same within past = by (nat_le end size) refl
  where
    by : (b : Bool) → nat_le end size ≡ b → IsGiven (cond b None (Some end)) (Some old) new
    by true e = same ∙ sym (within (le-true end size e))
    by false e = sym (past (omega (arith, le-false end size e)))

written_size : (w : World) (caller : Caller) (m : ℕ) (r s : Row) (place : Place) (b : ℕ) (bs : List ℕ)
    → map.get w.rows m ≡ Some r → record r { file = written caller place (b ∷ bs) r.file } ≡ s
    → IsGiven (end_past (attrs_at w.rows m).size (start_in place (attrs_at w.rows m).size + length (b ∷ bs)))
    (Some (length r.file.bytes)) (length s.file.bytes)
written_size w caller m r s place b bs there is =
    let old : (attrs_at w.rows m).size ≡ length r.file.bytes = ap (λ o. length (file_at o).bytes) there in
    let start : start_in place (attrs_at w.rows m).size
    ≡ start_in place (length r.file.bytes) = ap (start_in place) old in
    let long = length-spliced r.file.bytes (start_in place (length r.file.bytes)) b bs in
    let size : length (splice r.file.bytes (start_in place (length r.file.bytes)) (b ∷ bs))
    ≡ length s.file.bytes = ap (λ (x : Row). length x.file.bytes) is in
    end_is (attrs_at w.rows m).size (start_in place (attrs_at w.rows m).size + length (b ∷ bs)) (length r.file.bytes)
    (length s.file.bytes) (sym old)
    (λ within. omega (arith, old, start, long, size, within))
    (λ past. omega (arith, old, start, long, size, past))

size_is : AreGiven ℕ (λ r. length r.file.bytes) size_given
size_is numbers n w caller s (Create path mode) o at about e = becomes_is (λ r. length r.file.bytes) _ s e
size_is numbers n w caller s (Mkdir path mode) o at about e = becomes_is (λ r. length r.file.bytes) _ s e
size_is numbers n w caller s (Write path place (b ∷ bs)) None at about e = absurd (cc)
size_is numbers n w caller s (Write path place (b ∷ bs)) (Some r) at about e =
    written_size w caller (reached w.rows root path) r s place b bs (ap (map.get w.rows) about ∙ at)
    (becomes_is (λ r. r) _ s e)
size_is numbers n w caller s (SetLength path len) (Some r) at about e = sym (length-resized r.file.bytes len)
    ∙ becomes_is (λ r. length r.file.bytes) _ s e
size_is numbers n w caller s (SetLength path len) None at about e = absurd (cc)
size_is numbers n w caller s request (Some r) at about e = becomes_is (λ r. length r.file.bytes) _ s e
size_is numbers n w caller s request None at about e = absurd (cc)

pub size_last_set : SizeLastSet
size_last_set = last_set ℕ (λ r. length r.file.bytes) size_given size_is

owner_is : AreGiven ℕ (λ r. r.file.uid) owner_given
owner_is numbers n w caller s (Create path mode) o at about e = becomes_is (λ r. r.file.uid) _ s e
owner_is numbers n w caller s (Mkdir path mode) o at about e = becomes_is (λ r. r.file.uid) _ s e
owner_is numbers n w caller s (Write path place (b ∷ bs)) None at about e = absurd (cc)
owner_is numbers n w caller s (Write path place (b ∷ bs)) (Some r) at about e = becomes_is (λ r. r.file.uid) _ s e
owner_is numbers n w caller s request (Some r) at about e = becomes_is (λ r. r.file.uid) _ s e
owner_is numbers n w caller s request None at about e = absurd (cc)

pub owner_last_set : OwnerLastSet
owner_last_set = last_set ℕ (λ r. r.file.uid) owner_given owner_is

group_is : AreGiven ℕ (λ r. r.file.gid) group_given
group_is numbers n w caller s (Create path mode) o at about e = becomes_is (λ r. r.file.gid) _ s e
group_is numbers n w caller s (Mkdir path mode) o at about e = becomes_is (λ r. r.file.gid) _ s e
group_is numbers n w caller s (Write path place (b ∷ bs)) None at about e = absurd (cc)
group_is numbers n w caller s (Write path place (b ∷ bs)) (Some r) at about e = becomes_is (λ r. r.file.gid) _ s e
group_is numbers n w caller s request (Some r) at about e = becomes_is (λ r. r.file.gid) _ s e
group_is numbers n w caller s request None at about e = absurd (cc)

pub group_last_set : GroupLastSet
group_last_set = last_set ℕ (λ r. r.file.gid) group_given group_is

-- what takes set-id bits leaves the ten lower ones
below_worn : (caller : Caller) (mode : ℕ) → mode % 0o2000 ≡ mode_after caller mode % 0o2000
below_worn caller mode = by (caller.uid == 0)
  where
    by : (b : Bool) → mode % 0o2000 ≡ cond b mode (set_id_cleared mode) % 0o2000
    by true = refl
    by false = omega arith

permissions_is : AreGiven ℕ (λ r. r.file.mode % 0o2000) permissions_given
permissions_is numbers n w caller s (Create path mode) o at about e = becomes_is (λ r. r.file.mode % 0o2000) _ s e
permissions_is numbers n w caller s (Mkdir path mode) o at about e = becomes_is (λ r. r.file.mode % 0o2000) _ s e
permissions_is numbers n w caller s (Write path place (b ∷ bs)) None at about e = absurd (cc)
permissions_is numbers n w caller s (Write path place (b ∷ bs)) (Some r) at about e = below_worn caller r.file.mode
    ∙ becomes_is (λ r. r.file.mode % 0o2000) _ s e
permissions_is numbers n w caller s (SetLength path len) (Some r) at about e = below_worn caller r.file.mode
    ∙ becomes_is (λ r. r.file.mode % 0o2000) _ s e
permissions_is numbers n w caller s (SetLength path len) None at about e = absurd (cc)
permissions_is numbers n w caller s (Chown path uid gid) (Some r) at about e = below_worn caller r.file.mode
    ∙ becomes_is (λ r. r.file.mode % 0o2000) _ s e
permissions_is numbers n w caller s (Chown path uid gid) None at about e = absurd (cc)
permissions_is numbers n w caller s request (Some r) at about e = becomes_is (λ r. r.file.mode % 0o2000) _ s e
permissions_is numbers n w caller s request None at about e = absurd (cc)

pub permissions_last_set : PermissionsLastSet
permissions_last_set = last_set ℕ (λ r. r.file.mode % 0o2000) permissions_given permissions_is

-- another than user 0 leaves none, and user 0 those that were there
above_worn : (caller : Caller) (mode : ℕ)
    → IsGiven (bits_taken caller) (Some (mode / 0o2000)) (mode_after caller mode / 0o2000)
above_worn caller mode = by (caller.uid == 0)
  where
    by : (b : Bool) → IsGiven (cond b None (Some 0)) (Some (mode / 0o2000)) (cond b mode (set_id_cleared mode) / 0o2000)
    by true = refl
    by false = omega arith

set_ids_is : AreGiven ℕ (λ r. r.file.mode / 0o2000) set_ids_given
set_ids_is numbers n w caller s (Create path mode) o at about e = becomes_is (λ r. r.file.mode / 0o2000) _ s e
set_ids_is numbers n w caller s (Mkdir path mode) o at about e = becomes_is (λ r. r.file.mode / 0o2000) _ s e
set_ids_is numbers n w caller s (Write path place (b ∷ bs)) None at about e = absurd (cc)
set_ids_is numbers n w caller s (Write path place (b ∷ bs)) (Some r) at about e =
    subst (IsGiven (bits_taken caller) (Some (r.file.mode / 0o2000))) (becomes_is (λ r. r.file.mode / 0o2000) _ s e)
    (above_worn caller r.file.mode)
set_ids_is numbers n w caller s (SetLength path len) (Some r) at about e =
    subst (IsGiven (bits_taken caller) (Some (r.file.mode / 0o2000))) (becomes_is (λ r. r.file.mode / 0o2000) _ s e)
    (above_worn caller r.file.mode)
set_ids_is numbers n w caller s (SetLength path len) None at about e = absurd (cc)
set_ids_is numbers n w caller s (Chown path uid gid) (Some r) at about e =
    subst (IsGiven (bits_taken caller) (Some (r.file.mode / 0o2000))) (becomes_is (λ r. r.file.mode / 0o2000) _ s e)
    (above_worn caller r.file.mode)
set_ids_is numbers n w caller s (Chown path uid gid) None at about e = absurd (cc)
set_ids_is numbers n w caller s request (Some r) at about e = becomes_is (λ r. r.file.mode / 0o2000) _ s e
set_ids_is numbers n w caller s request None at about e = absurd (cc)

pub set_ids_last_set : SetIdsLastSet
set_ids_last_set = last_set ℕ (λ r. r.file.mode / 0o2000) set_ids_given set_ids_is

flags_is : AreGiven ℕ (λ r. r.file.flags) flags_given
flags_is numbers n w caller s (Create path mode) o at about e = becomes_is (λ r. r.file.flags) _ s e
flags_is numbers n w caller s (Mkdir path mode) o at about e = becomes_is (λ r. r.file.flags) _ s e
flags_is numbers n w caller s (Write path place (b ∷ bs)) None at about e = absurd (cc)
flags_is numbers n w caller s (Write path place (b ∷ bs)) (Some r) at about e = becomes_is (λ r. r.file.flags) _ s e
flags_is numbers n w caller s request (Some r) at about e = becomes_is (λ r. r.file.flags) _ s e
flags_is numbers n w caller s request None at about e = absurd (cc)

pub flags_last_set : FlagsLastSet
flags_last_set = last_set ℕ (λ r. r.file.flags) flags_given flags_is

place_is : AreGiven (ℕ × List ℕ) (λ r. (r.parent, r.name)) place_given
place_is numbers n w caller s (Create path mode) o at about e = becomes_is (λ r. (r.parent, r.name)) _ s e
place_is numbers n w caller s (Mkdir path mode) o at about e = becomes_is (λ r. (r.parent, r.name)) _ s e
place_is numbers n w caller s (Write path place (b ∷ bs)) None at about e = absurd (cc)
place_is numbers n w caller s (Write path place (b ∷ bs)) (Some r) at about e =
    becomes_is (λ r. (r.parent, r.name)) _ s e
place_is numbers n w caller s request (Some r) at about e = becomes_is (λ r. (r.parent, r.name)) _ s e
place_is numbers n w caller s request None at about e = absurd (cc)

pub place_last_set : PlaceLastSet
place_last_set = last_set (ℕ × List ℕ) (λ r. (r.parent, r.name)) place_given place_is

-- ---- a fresh volume

set_since_opening : (A : Type 0) (of : Row → A) (gives : Giving A) → LastSet A of gives → SetSinceOpening A of gives
set_since_opening A of gives law numbers segments entries n r legal there other = ⊎_elim
    (λ set. set)
    (λ left. absurd (other (only_root n left.row left.there).0))
    (law numbers segments entries opening_world n r legal there)

pub all_set_since_opening : AllSetSinceOpening
all_set_since_opening = record {
  kind = set_since_opening Kind (λ r. r.file.kind) kind_given kind_last_set;
  size = set_since_opening ℕ (λ r. length r.file.bytes) size_given size_last_set;
  owner = set_since_opening ℕ (λ r. r.file.uid) owner_given owner_last_set;
  group = set_since_opening ℕ (λ r. r.file.gid) group_given group_last_set;
  permissions = set_since_opening ℕ (λ r. r.file.mode % 0o2000) permissions_given permissions_last_set;
  set_ids = set_since_opening ℕ (λ r. r.file.mode / 0o2000) set_ids_given set_ids_last_set;
  flags = set_since_opening ℕ (λ r. r.file.flags) flags_given flags_last_set;
  place = set_since_opening (ℕ × List ℕ) (λ r. (r.parent, r.name)) place_given place_last_set;
}
