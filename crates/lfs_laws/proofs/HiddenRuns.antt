-- A run of callers whom a directory shuts out is as legal in any world that differs only beneath it: `hides_from_run`,
-- for the law `closed_door_hides`. By induction on the entries: each call is decided and answered alike and has the
-- same effect on each number that is outside (HiddenCalls), and what lies beneath stays there (DoorLemmas), so the
-- worlds differ beneath still. The hard part is what could tell: the names in the directory, its being empty and the
-- numbers in use, which stay alike as far as they were (`names_after`, `full_after`, `used_after`); a call that showed
-- any other fact of a row beneath would end the proof.
use Rattle.std.proofs.Common.{◌≡◌, ◌≢◌, ◌⊎◌, ℕ, zero, suc, ◌==◌, true, false, List, [], ◌∷◌, length, Option, None, Some}
use Rattle.std.proofs.Common.{inl, inr, refl, sym, ap, subst, ◌∙◌, ⊎_elim}
use Rattle.std.proofs.lemmas.Bool.{cases_Bool}
use Rattle.std.specs.Cmp.{nat_cmp_total}
use Rattle.std.specs.FinMap as map
use Rattle.std.specs.FinMap.{nat_cmp-IsAntisymmetric, same_map}
use Rattle.std.specs.Prelude.{is_some}
use Rattle.lfs_types.specs.Caller.{Caller}
use Rattle.lfs_types.specs.Tree.{Row, World, root, attrs_of}
use Rattle.lfs_types.specs.declared.answer.Answer.{Answer}
use Rattle.lfs_types.specs.declared.answer.Answer.TheVariants.{Served, Denied, Refused}
use Rattle.lfs_types.specs.declared.answer.Served as shows
use Rattle.lfs_types.specs.declared.attrs.Bit.TheVariants as bits
use Rattle.lfs_types.specs.declared.attrs.Kind.TheVariants.{Directory}
use Rattle.lfs_types.specs.declared.request.Request.{Request}
use Rattle.lfs_types.specs.declared.request.Request.TheVariants.{Stat, Read, Write, List as Names, SetLength, Create}
use Rattle.lfs_types.specs.declared.request.Request.TheVariants.{Mkdir, Unlink, Rmdir, Rename, Chmod, Chown, Chflags}
use Rattle.lfs_types.specs.declared.request.Request.TheVariants.{SetLevel, Sync}
use Rattle.lfs_rules.specs.Grants.{grants_of}
use Rattle.lfs_model.specs.declared.journal.Entry.{Entry}
use Rattle.lfs_model.specs.declared.journal.Event.{Event}
use Rattle.lfs_model.specs.declared.journal.Event.TheVariants.{User, Cleaner}
use Rattle.lfs_model.specs.World.{Rows, ancestor, children, parent_of, IsChild, IsTree}
use Rattle.lfs_laws.specs.LawDoor.{AreOutside, IsOutside}
use Rattle.lfs_laws.specs.LawHidden.{AllSeeTheSame, DifferBeneath, HasSameNames, HidesFromRun, IsEmptyAlike, IsFilled}
use Rattle.lfs_laws.specs.LawHidden.{IsHidden, IsMaking, MayMakeRow, SeesTheSame, UseSameNumbers}
use Rattle.lfs_laws.specs.LawMoved.{HangsStill}
use Rattle.lfs_laws.specs.LawNew.{Makes}
use Rattle.lfs_model.specs.Rules.{row_grants}
use Rattle.lfs_model.specs.Effects.{effect}
use Rattle.lfs_model.specs.Steps.{IsAnswer, IsEvent, IsLegal, after_answer, after_event}
use Rattle.lfs_laws.proofs.BetweenLemmas.{cases_place}
use Rattle.lfs_laws.proofs.CallLaws.{new_law}
use Rattle.lfs_laws.proofs.DoorLemmas.{RemovesDirectory, SameDoor, a_child, door_event, has_directory, outside_on}
use Rattle.lfs_laws.proofs.DoorLemmas.{row_event, way_stays}
use Rattle.lfs_laws.proofs.HiddenLemmas.{Filled, filled}
use Rattle.lfs_model.proofs.EffectTree.{childless}
use Rattle.lfs_laws.proofs.LegalTrees.{event_tree}
use Rattle.lfs_laws.proofs.RowLaws.{moved_law}
use Rattle.lfs_types.proofs.Somewhere.{none_there}
use Rattle.lfs_laws.proofs.LawFlags.{both}
use Rattle.lfs_laws.proofs.HiddenCalls.{answer_too, effect_same, removes_onto}

-- ---- one entry

-- a row that stands beneath a directory
record Lies (x : World) (d n : ℕ) : Type 0 where
  row : Row
  there : map.get x.rows n ≡ Some row
  steps : ℕ
  beneath : ancestor x.rows (suc steps) n ≡ d

lies : (x : World) (d n : ℕ) (r : Row) → map.get x.rows n ≡ Some r → IsHidden x.rows d n → Lies x d n
lies x d n r there h = ⊎_elim (λ none. none_there (map.get x.rows n) r none there)
    (λ b. record { row = r; there = there; steps = b.0; beneath = b.1 }) h

module _ (w v : World) (d : ℕ) (dir : Row) (differ : DifferBeneath d dir w v) (used : UseSameNumbers w v) where
  -- a number has the same in both worlds, or a row beneath in each
  by_row : (n : ℕ) (o p : Option Row) → map.get w.rows n ≡ o → map.get v.rows n ≡ p → is_some o ≡ is_some p
      → IsHidden w.rows d n × IsHidden v.rows d n → (o ≡ p) ⊎ (Lies w d n × Lies v d n)
  by_row n None None e f h x = inl refl
  by_row n None (Some s) e f h x = absurd (cc)
  by_row n (Some r) None e f h x = absurd (cc)
  by_row n (Some r) (Some s) e f h x = inr (lies w d n r e x.0, lies v d n s f x.1)

  each_row : (n : ℕ) → (map.get w.rows n ≡ map.get v.rows n) ⊎ (Lies w d n × Lies v d n)
  each_row n = ⊎_elim (λ e. inl e) (λ h. by_row n _ _ refl refl (used n) h) (differ.rows n)

made_by : (w : World) (row : Row) (request : Request) → Makes w row request → IsMaking request
made_by w row (Stat path) h = h
made_by w row (Read path off len) h = h
made_by w row (Names path) h = h
made_by w row (Write path place bytes) h = h
made_by w row (SetLength path len) h = h
made_by w row (Create path mode) h = tt
made_by w row (Mkdir path mode) h = tt
made_by w row (Unlink path) h = h
made_by w row (Rmdir path) h = h
made_by w row (Rename from to) h = h
made_by w row (Chmod path mode) h = h
made_by w row (Chown path uid gid) h = h
made_by w row (Chflags path flags) h = h
made_by w row (SetLevel level) h = h
made_by w row Sync h = h

-- an event is a call that is to make a row, and isn't denied
abbrev MakesRow : Event → Type 0
MakesRow (User request answer) = MayMakeRow request answer
MakesRow (Cleaner kind outcome) = ⊥

making_or_not : (request : Request) → IsMaking request ⊎ (IsMaking request → ⊥)
making_or_not (Stat path) = inr (λ h. h)
making_or_not (Read path off len) = inr (λ h. h)
making_or_not (Names path) = inr (λ h. h)
making_or_not (Write path place bytes) = inr (λ h. h)
making_or_not (SetLength path len) = inr (λ h. h)
making_or_not (Create path mode) = inl tt
making_or_not (Mkdir path mode) = inl tt
making_or_not (Unlink path) = inr (λ h. h)
making_or_not (Rmdir path) = inr (λ h. h)
making_or_not (Rename from to) = inr (λ h. h)
making_or_not (Chmod path mode) = inr (λ h. h)
making_or_not (Chown path uid gid) = inr (λ h. h)
making_or_not (Chflags path flags) = inr (λ h. h)
making_or_not (SetLevel level) = inr (λ h. h)
making_or_not Sync = inr (λ h. h)

makes_or_not : (event : Event) → MakesRow event ⊎ (MakesRow event → ⊥)
makes_or_not (User request (Served shown)) = making_or_not request
makes_or_not (User request (Denied denial)) = inr (λ h. h)
makes_or_not (User request (Refused resource)) = making_or_not request
makes_or_not (Cleaner kind outcome) = inr (λ h. h)

module _ (numbers segments : ℕ) (d : ℕ) (below : d ≢ root) where
  -- ---- a world alone

  none_by : (x : World) (tree : IsTree x.rows) (caller : Caller) (request : Request) (shown : shows.Served)
      → IsAnswer numbers x caller request (Served shown) → (IsMaking request → ⊥)
      → (n : ℕ) → map.get x.rows n ≡ None → (o : Option Row) → map.get (effect numbers x caller request).rows n ≡ o → o
      ≡ None
  none_by x tree caller request shown is unmade n none None e = refl
  none_by x tree caller request shown is unmade n none (Some r) e =
      absurd (unmade (made_by x r request (new_law numbers x caller request (Served shown) tree is n r none e).asked))

  -- no row comes but by a call that is to make one
  none_still : (x : World) (tree : IsTree x.rows) (caller : Caller) (event : Event)
      → IsEvent numbers segments x caller event → (MakesRow event → ⊥)
      → (n : ℕ) → map.get x.rows n ≡ None → map.get (after_event numbers x caller event).rows n ≡ None
  none_still x tree caller (User request (Served shown)) is unmade n none =
      none_by x tree caller request shown is unmade n none _ refl
  none_still x tree caller (User request (Denied denial)) is unmade n none = none
  none_still x tree caller (User request (Refused resource)) is unmade n none = none
  none_still x tree caller (Cleaner kind outcome) is unmade n none = none

  module _ (x : World) (tree : IsTree x.rows) (dir : Row) (at : map.get x.rows d ≡ Some dir) (caller : Caller)
      (event : Event) (is : IsEvent numbers segments x caller event) (out : IsOutside dir caller event) where
    -- what lies beneath stays there
    lies_still : (n : ℕ) → Lies x d n → Lies (after_event numbers x caller event) d n
    lies_still n l =
        let keep = row_event numbers segments x tree d dir at below caller event is out in
        record {
          row = l.row;
          there = keep l.steps n l.row l.there l.beneath;
          steps = l.steps;
          beneath = way_stays x tree d dir at below
              (after_event numbers x caller event) keep l.steps n l.row l.there l.beneath;
        }

    hidden_by : (MakesRow event → ⊥) → (n : ℕ) (o : Option Row) → map.get x.rows n ≡ o → IsHidden x.rows d n
        → IsHidden (after_event numbers x caller event).rows d n
    hidden_by unmade n None e h = inl (none_still x tree caller event is unmade n e)
    hidden_by unmade n (Some r) e h = let l = lies_still n (lies x d n r e h) in inr (l.steps, l.beneath)

    -- what is hidden stays so
    hidden_still : (MakesRow event → ⊥) → (n : ℕ) → IsHidden x.rows d n
        → IsHidden (after_event numbers x caller event).rows d n
    hidden_still unmade n h = hidden_by unmade n _ refl h

    child_stays : (name : List ℕ) (n : ℕ) → IsChild x.rows d name n
        → IsChild (after_event numbers x caller event).rows d name n
    unfolding ancestor
    child_stays name n c =
        record {
          row = c.row;
          there = row_event numbers segments x tree d dir at below caller event is out zero n c.row
              c.there (ap parent_of c.there ∙ c.hangs);
          below = c.below;
          hangs = c.hangs;
          named = c.named;
        }

  module _ (x : World) (tree : IsTree x.rows) (dir : Row) (at : map.get x.rows d ≡ Some dir) where
    no_place : {A : Type 0} (caller : Caller) (p : ℕ) → grants_of caller (attrs_of dir.file) bits.Search ≡ false → p ≡ d
        → row_grants caller bits.Search (map.get x.rows p) ≡ true → A
    no_place caller p shut same searches = both _
        (ap (row_grants caller bits.Search) (sym at ∙ ap (map.get x.rows) (sym same)) ∙ searches) shut

    came : (caller : Caller) (request : Request) (answer : Answer) → IsAnswer numbers x caller request answer
        → grants_of caller (attrs_of dir.file) bits.Search ≡ false
        → (name : List ℕ) (n : ℕ) → IsChild (after_answer numbers x caller request answer).rows d name n
        → (o : Option Row) → map.get x.rows n ≡ o → IsChild x.rows d name n
    came caller request answer is shut name n c None e =
        no_place caller c.row.parent shut c.hangs
        (new_law numbers x caller request answer tree is n c.row e c.there).placed.searches
    came caller request answer is shut name n c (Some r) e = ⊎_elim
        (λ (still : HangsStill r c.row). record {
          row = r;
          there = e;
          below = c.below;
          hangs = sym still.parents
              ∙ c.hangs;
          named = sym still.names ∙ c.named;
        })
        (λ apart. no_place caller c.row.parent shut c.hangs
        (moved_law numbers x caller request answer tree is n r c.row e c.there apart).placed.searches)
        (cases_place r c.row)

    child_came : (caller : Caller) (event : Event) → IsEvent numbers segments x caller event
        → IsOutside dir caller event → (name : List ℕ) (n : ℕ)
        → IsChild (after_event numbers x caller event).rows d name n → IsChild x.rows d name n
    child_came caller (User request answer) is out name n c = came caller request answer is out.0 name n c _ refl
    child_came caller (Cleaner kind outcome) is out name n c = c

  -- ---- two worlds

  module _ (SameNames SameNumbers EmptyAlike : Type 0) (w v : World) (dir : Row) (tree : IsTree w.rows)
      (other : IsTree v.rows) (differ : DifferBeneath d dir w v) (full : EmptyAlike → Filled w.rows d × Filled v.rows d)
      (names : SameNames → HasSameNames d w v) (used : SameNumbers → UseSameNumbers w v) where
    event_too : (caller : Caller) (event : Event) → IsOutside dir caller event
        → SeesTheSame w d dir SameNames SameNumbers EmptyAlike caller event → IsEvent numbers segments w caller event
        → IsEvent numbers segments v caller event
    event_too caller (User request answer) out sees is =
        answer_too numbers w v d dir tree other below differ caller out.0 request (λ on h. names (sees.0 on h)) answer
        (λ m. full (sees.2 m)) (λ m. used (sees.1 m)) is
    event_too caller (Cleaner kind outcome) out sees is = is

    abbrev SameAfter : World → World → Type 0
    SameAfter x y = (x.level ≡ y.level) × ((n : ℕ) → map.get w.rows n ≡ map.get v.rows n → map.get x.rows n
        ≡ map.get y.rows n)

    event_same : (caller : Caller) (event : Event) → IsOutside dir caller event
        → SeesTheSame w d dir SameNames SameNumbers EmptyAlike caller event → IsEvent numbers segments w caller event
        → SameAfter (after_event numbers w caller event) (after_event numbers v caller event)
    event_same caller (User request (Served shown)) out sees is =
        let e = effect_same numbers w v d dir tree other below differ caller out.0 request (λ m. used (sees.1 m)) is.0
        in (e.level, e.rows)
    event_same caller (User request (Denied denial)) out sees is = (differ.level, λ n e. e)
    event_same caller (User request (Refused resource)) out sees is = (differ.level, λ n e. e)
    event_same caller (Cleaner kind outcome) out sees is = (differ.level, λ n e. e)

    made_numbers : (caller : Caller) (event : Event) → SeesTheSame w d dir SameNames SameNumbers EmptyAlike caller event
        → MakesRow event → SameNumbers
    made_numbers caller (User request answer) sees m = sees.1 m
    made_numbers caller (Cleaner kind outcome) sees m = absurd m

    module _ (caller : Caller) (event : Event) (out : IsOutside dir caller event)
        (sees : SeesTheSame w d dir SameNames SameNumbers EmptyAlike caller event)
        (is : IsEvent numbers segments w caller event) (too : IsEvent numbers segments v caller event) where
      abbrev one : World
      one = after_event numbers w caller event

      abbrev two : World
      two = after_event numbers v caller event

      -- where the same numbers are in use
      after_row : UseSameNumbers w v → (n : ℕ) → (map.get one.rows n ≡ map.get two.rows n)
          ⊎ (Lies one d n × Lies two d n)
      after_row same n = ⊎_elim
          (λ e. inl ((event_same caller event out sees is).1 n e))
          (λ h. inr (
            lies_still w tree dir differ.one caller event is out n h.0,
            lies_still v other dir differ.other caller event too out n h.1,
          ))
          (each_row w v d dir differ same n)

      hidden_after : (n : ℕ) → (map.get one.rows n ≡ map.get two.rows n)
          ⊎ (IsHidden one.rows d n × IsHidden two.rows d n)
      hidden_after n = ⊎_elim
          (λ m. ⊎_elim (λ e. inl e) (λ h. inr (inr (h.0.steps, h.0.beneath), inr (h.1.steps, h.1.beneath)))
          (after_row (used (made_numbers caller event sees m)) n))
          (λ unmade. ⊎_elim
          (λ e. inl ((event_same caller event out sees is).1 n e))
          (λ h. inr (
            hidden_still w tree dir differ.one caller event is out unmade n h.0,
            hidden_still v other dir differ.other caller event too out unmade n h.1,
          ))
          (differ.rows n))
          (makes_or_not event)

      differ_after : (new : Row) → map.get one.rows d ≡ Some new → DifferBeneath d new one two
      differ_after new at = record {
        level = (event_same caller event out sees is).0;
        one = at;
        other = sym ((event_same caller event out sees is).1 d (differ.one ∙ sym differ.other)) ∙ at;
        rows = hidden_after;
      }

      used_after : SameNumbers → UseSameNumbers one two
      used_after q n = ⊎_elim (λ e. ap is_some e) (λ h. ap is_some h.0.there ∙ sym (ap is_some h.1.there))
          (after_row (used q) n)

      names_after : SameNames → HasSameNames d one two
      names_after p name = (
        λ x. let y = (names p name).0 (x.0, child_came w tree dir differ.one caller event is out name x.0 x.1) in
            (y.0, child_stays v other dir differ.other caller event too out name y.0 y.1),
        λ x. let y = (names p name).1 (x.0, child_came v other dir differ.other caller event too out name x.0 x.1) in
            (y.0, child_stays w tree dir differ.one caller event is out name y.0 y.1),
      )

      full_after : (x : World) (below_x : IsTree x.rows) → map.get x.rows d ≡ Some dir
          → IsEvent numbers segments x caller event → Filled x.rows d
          → Filled (after_event numbers x caller event).rows d
      full_after x below_x at may f = record {
        name = f.name;
        number = f.number;
        child = child_stays x below_x dir at caller event may out f.name f.number f.child;
      }

-- ---- runs

sees_one : (w : World) (d : ℕ) (SameNames SameNumbers EmptyAlike : Type 0) (dir new : Row) → SameDoor dir new
    → (caller : Caller) (event : Event) → SeesTheSame w d dir SameNames SameNumbers EmptyAlike caller event
    → SeesTheSame w d new SameNames SameNumbers EmptyAlike caller event
sees_one w d SameNames SameNumbers EmptyAlike dir new same caller (User request answer) sees =
    (λ on h. sees.0 on (sym (same.grants caller bits.Read) ∙ h), sees.1, sees.2)
sees_one w d SameNames SameNumbers EmptyAlike dir new same caller (Cleaner kind outcome) sees = tt

module _ (numbers d : ℕ) (SameNames SameNumbers EmptyAlike : Type 0) (dir new : Row) (same : SameDoor dir new) where
  sees_on : (entries : List Entry) (w : World) → AllSeeTheSame numbers d dir SameNames SameNumbers EmptyAlike entries w
      → AllSeeTheSame numbers d new SameNames SameNumbers EmptyAlike entries w
  sees_on [] w sees = tt
  sees_on (e ∷ es) w sees = (
    sees_one w d SameNames SameNumbers EmptyAlike dir new same e.cred e.event sees.0,
    sees_on es (after_event numbers w e.cred e.event) sees.1,
  )

module _ (numbers segments : ℕ) (d : ℕ) (below : d ≢ root) (SameNames SameNumbers EmptyAlike : Type 0) where
  -- what would remove the directory meets one in which something hangs
  met : (w v : World) (dir : Row) → (EmptyAlike → Filled w.rows d × Filled v.rows d) → (caller : Caller) (event : Event)
      → SeesTheSame w d dir SameNames SameNumbers EmptyAlike caller event → RemovesDirectory w d event → Filled w.rows d
  met w v dir full caller (User request (Served shown)) sees r = (full (sees.2 (removes_onto w d request r))).0
  met w v dir full caller (User request (Denied denial)) sees r = absurd r
  met w v dir full caller (User request (Refused resource)) sees r = absurd r
  met w v dir full caller (Cleaner kind outcome) sees r = absurd r

  legal_too : (entries : List Entry) (w v : World) (dir : Row) → IsTree w.rows → IsTree v.rows → DifferBeneath d dir w v
      → dir.file.kind ≡ Directory → (EmptyAlike → Filled w.rows d × Filled v.rows d)
      → (SameNames → HasSameNames d w v) → (SameNumbers → UseSameNumbers w v)
      → AreOutside dir entries → AllSeeTheSame numbers d dir SameNames SameNumbers EmptyAlike entries w
      → IsLegal numbers segments entries w → IsLegal numbers segments entries v
  legal_too [] w v dir tree other differ kind full names used out sees legal = tt
  legal_too (e ∷ es) w v dir tree other differ kind full names used out sees legal =
      let too = event_too numbers segments d below SameNames SameNumbers EmptyAlike w v dir tree other differ full names
      used e.cred e.event out.0 sees.0 legal.0 in
      let next = door_event numbers segments w tree d dir differ.one below e.cred e.event legal.0 out.0 kind
      (λ r. let f = met w v dir full e.cred e.event sees.0 r in
      record { name = f.name; number = f.number; child = f.child }) in
      let after = differ_after numbers segments d below SameNames SameNumbers EmptyAlike w v dir tree other differ full
      names used e.cred e.event out.0 sees.0 legal.0 too next.value next.is in
      let stays = full_after numbers segments d below SameNames SameNumbers EmptyAlike w v dir tree other differ full
      names used e.cred e.event out.0 sees.0 legal.0 too in (
        too,
        legal_too es (after_event numbers w e.cred e.event) (after_event numbers v e.cred e.event) next.value
            (event_tree numbers segments w e.cred e.event tree legal.0)
            (event_tree numbers segments v e.cred e.event other too) after (next.same.kind ∙ kind)
            (λ alike. (stays w tree differ.one legal.0 (full alike).0, stays v other differ.other too (full alike).1))
            (names_after numbers segments d below SameNames SameNumbers EmptyAlike w v dir tree other differ full names
            used e.cred e.event out.0 sees.0 legal.0 too)
            (used_after numbers segments d below SameNames SameNumbers EmptyAlike w v dir tree other differ full names
            used e.cred e.event out.0 sees.0 legal.0 too)
            (outside_on dir next.value next.same es out.1)
            (sees_on numbers d SameNames SameNumbers EmptyAlike dir next.value next.same es
            (after_event numbers w e.cred e.event) sees.1) legal.1,
      )

-- nothing hides in an empty directory
nothing_hidden : (x : World) (d : ℕ) (dir : Row) → IsTree x.rows → d ≢ root → map.get x.rows d ≡ Some dir
    → (IsFilled x.rows d → ⊥) → (n : ℕ) (o : Option Row) → map.get x.rows n ≡ o → IsHidden x.rows d n → o ≡ None
nothing_hidden x d dir tree below at empty n None e h = refl
nothing_hidden x d dir tree below at empty n (Some r) e h =
    let l = lies x d n r e h in
    let c = a_child x tree d dir at below l.steps n l.row l.there l.beneath in
    absurd (empty (c.name, (c.number, c.child)))

-- worlds that differ beneath an empty directory are one
one_world : (w v : World) (d : ℕ) (dir : Row) → IsTree w.rows → IsTree v.rows → d ≢ root → DifferBeneath d dir w v
    → (IsFilled w.rows d → ⊥) → (IsFilled v.rows d → ⊥) → w ≡ v
one_world w v d dir tree other below differ empty bare =
    let same = same_map nat_cmp_total nat_cmp-IsAntisymmetric w.rows v.rows (λ n. ⊎_elim (λ e. e)
    (λ h. nothing_hidden w d dir tree below differ.one empty n _ refl h.0
    ∙ sym (nothing_hidden v d dir other below differ.other bare n _ refl h.1))
    (differ.rows n)) in
    λ i. record { level = differ.level i; rows = same i }

-- a directory is filled or not
filled_or_not : (rows : Rows) (d : ℕ) → Filled rows d ⊎ (IsFilled rows d → ⊥)
filled_or_not rows d = ⊎_elim
    (λ empty. inr (λ x. childless rows d empty x.0 x.1.0 x.1.1))
    (λ some. inl (filled rows d some))
    (cases_Bool (length (children rows d) == 0))

-- what is filled is a directory
filled_kind : (x : World) (d : ℕ) (dir : Row) → IsTree x.rows → d ≢ root → map.get x.rows d ≡ Some dir → Filled x.rows d
    → dir.file.kind ≡ Directory
filled_kind x d dir tree below at f = has_directory x tree d dir at below
    (record { name = f.name; number = f.number; child = f.child })

there_too : (rows others : Rows) (d : ℕ) → (IsFilled rows d → IsFilled others d) → Filled rows d → Filled others d
there_too rows others d same f = let x = same (f.name, (f.number, f.child)) in
    record { name = x.0; number = x.1.0; child = x.1.1 }

pub hides_from_run : HidesFromRun
hides_from_run numbers segments entries w v d dir tree other below differ out sees legal =
    let run = λ (kind : dir.file.kind ≡ Directory) (full : IsEmptyAlike d w v → Filled w.rows d × Filled v.rows d).
    legal_too numbers segments d below (HasSameNames d w v) (UseSameNumbers w v)
    (IsEmptyAlike d w v) entries w v dir tree other differ kind full (λ h. h) (λ h. h) out sees legal in
    ⊎_elim
    (λ (one : Filled w.rows d). run (filled_kind w d dir tree below differ.one one)
    (λ same. (one, there_too w.rows v.rows d same.0 one)))
    (λ empty. ⊎_elim
    (λ (two : Filled v.rows d). run (filled_kind v d dir other below differ.other two)
    (λ same. (there_too v.rows w.rows d same.1 two, two)))
    (λ bare. subst (IsLegal numbers segments entries) (one_world w v d dir tree other below differ empty bare) legal)
    (filled_or_not v.rows d))
    (filled_or_not w.rows d)
