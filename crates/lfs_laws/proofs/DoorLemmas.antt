-- What is beneath a directory that no caller of a run may search stays as it is: `closed_door`, for the law of that
-- name; HiddenLemmas and HiddenRuns use the same steps. Whoever reaches a row reaches each one above it and may search
-- that (`door`, by induction on the steps up), so nobody can have made a call on a row beneath (by Fates), and the
-- directory itself stays, as it isn't empty and isn't his (`stays_door`). It may be moved, so it's kept only as far as
-- `SameDoor` says; a call that changed a row without reaching it by a path would be let through.
use Rattle.std.proofs.Common.{◌≡◌, ◌≢◌, ℕ, zero, suc, ◌==◌, ◌||◌, Bool, true, false, cond, List, [], ◌∷◌, Some, refl}
use Rattle.std.proofs.Common.{sym, ap, subst, ◌∙◌, ne_eqb}
use Rattle.std.specs.FinMap as map
use Rattle.lfs_types.specs.Caller.{Caller}
use Rattle.lfs_types.specs.Tree.{Row, World, root, attrs_of}
use Rattle.lfs_types.specs.declared.answer.Answer.TheVariants.{Served, Denied, Refused}
use Rattle.lfs_types.specs.declared.attrs.Bit.{Bit}
use Rattle.lfs_types.specs.declared.attrs.Bit.TheVariants as bits
use Rattle.lfs_types.specs.declared.attrs.Kind.TheVariants.{File as Regular, Directory}
use Rattle.lfs_types.specs.declared.request.Request.{Request}
use Rattle.lfs_rules.specs.Grants.{grants_of}
use Rattle.lfs_rules.specs.Owners.{is_the_superuser, is_owner_or_superuser}
use Rattle.lfs_model.specs.declared.journal.Entry.{Entry}
use Rattle.lfs_model.specs.declared.journal.Event.{Event}
use Rattle.lfs_model.specs.declared.journal.Event.TheVariants.{User, Cleaner}
use Rattle.lfs_model.specs.World.{ancestor, parent_of, IsChild, IsTree}
use Rattle.lfs_laws.specs.LawDoor.{AreOutside, ClosedDoor, IsOutside}
use Rattle.lfs_laws.specs.LawGone.{Removes}
use Rattle.lfs_laws.specs.Rights.{Owns, Reaches}
use Rattle.lfs_model.specs.Rules.{row_grants}
use Rattle.lfs_model.specs.Steps.{IsEvent, IsLegal, after_event, world_after}
use Rattle.lfs_laws.proofs.Fates.{Fate, fate}
use Rattle.lfs_laws.proofs.Fates.Fate.{Stays, Goes, Moves, Changes, Remodes, Gives, Reflags}
use Rattle.lfs_laws.proofs.LegalTrees.{event_tree}
use Rattle.lfs_laws.proofs.LockedLemmas.{at_row}
use Rattle.lfs_laws.proofs.ServedLemmas.{reaches_up}
use Rattle.lfs_model.proofs.Trees.{root_above}
use Rattle.lfs_types.proofs.Somewhere.{some_and}
use Rattle.lfs_laws.proofs.LawFlags.{both}

-- a directory lets in the same callers, and has the same owner
pub record SameDoor (dir other : Row) : Type 0 where
  pub grants : (caller : Caller) (bit : Bit) → grants_of caller (attrs_of other.file) bit
      ≡ grants_of caller (attrs_of dir.file) bit
  pub uid : other.file.uid ≡ dir.file.uid
  pub kind : other.file.kind ≡ dir.file.kind

pub record Kept (v : World) (d : ℕ) (dir : Row) : Type 0 where
  pub value : Row
  pub is : map.get v.rows d ≡ Some value
  pub same : SameDoor dir value

same_door : (dir : Row) → SameDoor dir dir
same_door dir = record { grants = λ c b. refl; uid = refl; kind = refl }

outside_one : (dir other : Row) → SameDoor dir other → (caller : Caller) (event : Event) → IsOutside dir caller event
    → IsOutside other caller event
outside_one dir other same caller (User request answer) out =
    (same.grants caller bits.Search ∙ out.0, λ e. out.1 (e ∙ same.uid))
outside_one dir other same caller (Cleaner kind outcome) out = tt

kinds : {A : Type 0} → Regular ≡ Directory → A
kinds e = cc (e)

pub outside_on : (dir other : Row) → SameDoor dir other → (entries : List Entry) → AreOutside dir entries
    → AreOutside other entries
outside_on dir other same [] out = tt
outside_on dir other same (e ∷ es) out =
    (outside_one dir other same e.cred e.event out.0, outside_on dir other same es out.1)

no_owner : (super owner rest : Bool) → cond super true rest ≡ false → owner ≡ false → (super || owner) ≡ false
no_owner true owner rest h e = absurd (cc)
no_owner false owner rest h e = e

module _ (w : World) (tree : IsTree w.rows) (d : ℕ) (dir : Row) (at : map.get w.rows d ≡ Some dir)
    (below : d ≢ root) where
  not_root : (k n : ℕ) → ancestor w.rows (suc k) n ≡ d → n ≢ root
  not_root k n e top = below (sym e ∙ ap (ancestor w.rows (suc k)) top ∙ root_above w.rows tree (suc k))

  -- a child of the directory, on the way up from a row beneath it
  pub record HasChild : Type 0 where
    pub name : List ℕ
    pub number : ℕ
    pub child : IsChild w.rows d name number

  pub a_child : (k n : ℕ) (r : Row) → map.get w.rows n ≡ Some r → ancestor w.rows (suc k) n ≡ d → HasChild
  unfolding ancestor
  a_child zero n r there e = record {
    name = r.name;
    number = n;
    child = record {
      row = r;
      there = there;
      below = not_root zero n e;
      hangs = ap parent_of (sym there) ∙ e;
      named = refl;
    };
  }
  a_child (suc k) n r there e =
      let p = some_and (map.get w.rows r.parent) (λ x. x.file.kind ≡ Directory) (tree.parents n r there) in
      a_child k r.parent p.value p.is (ap (λ o. ancestor w.rows (suc k) (parent_of o)) (sym there) ∙ e)

  -- who reaches a row beneath the directory may search it
  pub door : (caller : Caller) (k n : ℕ) (r : Row) → map.get w.rows n ≡ Some r → ancestor w.rows (suc k) n ≡ d
      → Reaches w.rows caller n → grants_of caller (attrs_of dir.file) bits.Search ≡ true
  unfolding ancestor
  door caller zero n r there e up =
      let above = reaches_up w.rows caller tree n r there (not_root zero n e) up in
      ap (row_grants caller bits.Search) (sym at)
      ∙ ap (λ p. row_grants caller bits.Search (map.get w.rows p)) (sym (ap parent_of (sym there) ∙ e))
      ∙ above.searches
  door caller (suc k) n r there e up =
      let p = some_and (map.get w.rows r.parent) (λ x. x.file.kind ≡ Directory) (tree.parents n r there) in
      let above = reaches_up w.rows caller tree n r there (not_root (suc k) n e) up in
      door caller k r.parent p.value p.is (ap (λ o. ancestor w.rows (suc k) (parent_of o)) (sym there)
      ∙ e) above.reaches

  -- the way up is the same where the rows on it stay
  pub way_stays : (v : World) → ((k n : ℕ) (r : Row) → map.get w.rows n ≡ Some r → ancestor w.rows (suc k) n ≡ d
      → map.get v.rows n ≡ Some r)
      → (k n : ℕ) (r : Row) → map.get w.rows n ≡ Some r → ancestor w.rows (suc k) n ≡ d → ancestor v.rows (suc k) n ≡ d
  unfolding ancestor
  way_stays v keep zero n r there e = ap parent_of (keep zero n r there e ∙ sym there) ∙ e
  way_stays v keep (suc k) n r there e =
      let p = some_and (map.get w.rows r.parent) (λ x. x.file.kind ≡ Directory) (tree.parents n r there) in
      ap (λ o. ancestor v.rows (suc k) (parent_of o)) (keep (suc k) n r there e)
      ∙ way_stays v keep k r.parent p.value p.is (ap (λ o. ancestor w.rows (suc k) (parent_of o)) (sym there) ∙ e)

  stays_row : (v : World) (caller : Caller) (request : Request) (n : ℕ) (r : Row) → (Reaches w.rows caller n → ⊥)
      → Fate w caller request v n r → map.get v.rows n ≡ Some r
  stays_row v caller request n r far (Stays e) = e
  stays_row v caller request n r far (Goes e x over) = absurd (far x.taken.reaches)
  stays_row v caller request n r far (Moves parent name e x) = absurd (far x.taken.reaches)
  stays_row v caller request n r far (Changes bytes e x) = absurd (far x.writes.reaches)
  stays_row v caller request n r far (Remodes mode e x) = absurd (far x.allowed.owns.reaches)
  stays_row v caller request n r far (Gives uid gid e x) = absurd (far x.allowed.owns.reaches)
  stays_row v caller request n r far (Reflags flags e x) = absurd (far x.owns.reaches)

  owned_not : {A : Type 0} (caller : Caller) → grants_of caller (attrs_of dir.file) bits.Search ≡ false
      → caller.uid ≢ dir.file.uid → Owns w.rows caller d → A
  owned_not caller shut other owns = both _ owns.owner (ap (is_owner_or_superuser caller) (at_row w d dir at)
      ∙ no_owner (is_the_superuser caller) (caller.uid == dir.file.uid) _ shut (ne_eqb caller.uid dir.file.uid other))

  -- what has a child is a directory
  pub has_directory : HasChild → dir.file.kind ≡ Directory
  has_directory c =
      let p = some_and (map.get w.rows c.child.row.parent) (λ x. x.file.kind ≡ Directory)
      (tree.parents c.number c.child.row c.child.there) in
      let row : p.value ≡ dir = cc (p.is, ap (map.get w.rows) c.child.hangs, at) in
      ap (λ (x : Row). x.file.kind) (sym row) ∙ p.holds

  stays_door : (v : World) (caller : Caller) (request : Request) → dir.file.kind ≡ Directory
      → (Removes w d Directory request → HasChild) → grants_of caller (attrs_of dir.file) bits.Search ≡ false
      → caller.uid ≢ dir.file.uid
      → Fate w caller request v d dir → Kept v d dir
  stays_door v caller request kind c shut other (Stays e) = record { value = dir; is = e; same = same_door dir }
  stays_door v caller request kind c shut other (Goes e x over) =
      let one = c (subst (λ k. Removes w d k request) kind x.asked) in
      absurd (x.childless one.name one.number one.child)
  stays_door v caller request kind c shut other (Moves parent name e x) =
      record {
        value = record dir { parent = parent; name = name };
        is = e;
        same = record { grants = λ b bit. refl; uid = refl; kind = refl };
      }
  stays_door v caller request kind c shut other (Changes bytes e x) = kinds (sym x.regular ∙ kind)
  stays_door v caller request kind c shut other (Remodes mode e x) = owned_not caller shut other x.allowed.owns
  stays_door v caller request kind c shut other (Gives uid gid e x) = owned_not caller shut other x.allowed.owns
  stays_door v caller request kind c shut other (Reflags flags e x) = owned_not caller shut other x.owns

-- an event is a served call to remove a directory
abbrev pub RemovesDirectory : World → ℕ → Event → Type 0
RemovesDirectory w d (User request (Served shown)) = Removes w d Directory request
RemovesDirectory w d (User request (Denied denial)) = ⊥
RemovesDirectory w d (User request (Refused resource)) = ⊥
RemovesDirectory w d (Cleaner kind outcome) = ⊥

module _ (numbers segments : ℕ) where
  pub row_event : (w : World) (tree : IsTree w.rows) (d : ℕ) (dir : Row) (at : map.get w.rows d ≡ Some dir)
      (below : d ≢ root) (caller : Caller) (event : Event)
      → IsEvent numbers segments w caller event → IsOutside dir caller event → (k n : ℕ) (r : Row) → map.get w.rows n
      ≡ Some r → ancestor w.rows (suc k) n ≡ d
      → map.get (after_event numbers w caller event).rows n ≡ Some r
  row_event w tree d dir at below caller (User request (Served shown)) is out k n r there e =
      stays_row w tree d dir at below _ caller request n r
      (λ up. both _ (door w tree d dir at below caller k n r there e up) out.0)
      (fate numbers w caller tree n r there request (Served shown) is)
  row_event w tree d dir at below caller (User request (Denied denial)) is out k n r there e = there
  row_event w tree d dir at below caller (User request (Refused resource)) is out k n r there e = there
  row_event w tree d dir at below caller (Cleaner kind outcome) is out k n r there e = there

  pub door_event : (w : World) (tree : IsTree w.rows) (d : ℕ) (dir : Row) (at : map.get w.rows d ≡ Some dir)
      (below : d ≢ root) (caller : Caller) (event : Event)
      → IsEvent numbers segments w caller event → IsOutside dir caller event → dir.file.kind ≡ Directory
      → (RemovesDirectory w d event → HasChild w tree d dir at below)
      → Kept (after_event numbers w caller event) d dir
  door_event w tree d dir at below caller (User request (Served shown)) is out kind c =
      stays_door w tree d dir at below _ caller request kind c out.0 out.1
      (fate numbers w caller tree d dir at request (Served shown) is)
  door_event w tree d dir at below caller (User request (Denied denial)) is out kind c =
      record { value = dir; is = at; same = same_door dir }
  door_event w tree d dir at below caller (User request (Refused resource)) is out kind c =
      record { value = dir; is = at; same = same_door dir }
  door_event w tree d dir at below caller (Cleaner kind outcome) is out directory c =
      record { value = dir; is = at; same = same_door dir }

  shut : (entries : List Entry) (w : World) (d : ℕ) (dir : Row) (k n : ℕ) (r : Row) → IsTree w.rows
      → IsLegal numbers segments entries w → map.get w.rows d ≡ Some dir → d ≢ root
      → AreOutside dir entries → map.get w.rows n ≡ Some r → ancestor w.rows (suc k) n ≡ d
      → map.get (world_after numbers entries w).rows n ≡ Some r
  shut [] w d dir k n r tree legal at below out there e = there
  shut (x ∷ xs) w d dir k n r tree legal at below out there e =
      let v = after_event numbers w x.cred x.event in
      let keep = row_event w tree d dir at below x.cred x.event legal.0 out.0 in
      let one = a_child w tree d dir at below k n r there e in
      let next = door_event w tree d dir at below x.cred x.event legal.0 out.0 (has_directory w tree d dir at below one)
      (λ h. one) in
      shut xs v d next.value k n r (event_tree numbers segments w x.cred x.event tree legal.0) legal.1 next.is below
      (outside_on dir next.value next.same xs out.1) (keep k n r there e)
      (way_stays w tree d dir at below v keep k n r there e)

pub closed_door : ClosedDoor
closed_door numbers segments entries w d dir k n r tree legal at below out there e =
    shut numbers segments entries w d dir k n r tree legal at below out there e
