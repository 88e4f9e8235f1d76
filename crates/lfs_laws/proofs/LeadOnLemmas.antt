-- After a call a path leads to the row that it led to, or to what replaced it, or nowhere, the latter only where the
-- call cut it off: `path_leads_on` and `path_leads_through`, for the law `path_leads_on`. By induction on the names:
-- the row behind each kept its place, left it or went elsewhere (`place_fate`, by Fates), and what left had nothing in
-- it, so only the last name of a path can lose its row by a removal. The hard case is a Rename over a row (`taken`):
-- what hangs there after is the moved row, whole; a call that removed a directory with names in it would break the
-- induction.
use Rattle.std.proofs.Common.{◌≡◌, ◌⊎◌, ℕ, true, List, [], ◌∷◌, Option, None, Some, refl, sym, ap, subst, ◌∙◌, ⊎_elim}
use Rattle.std.proofs.Common.{inl, inr}
use Rattle.std.proofs.lemmas.Bool.{or_right}
use Rattle.std.specs.Prelude.{IsSomeAnd}
use Rattle.std.specs.FinMap as map
use Rattle.lfs_types.specs.Caller.{Caller}
use Rattle.lfs_types.specs.Tree.{Row, World, root}
use Rattle.lfs_types.specs.declared.answer.Answer.{Answer}
use Rattle.lfs_types.specs.declared.answer.Answer.TheVariants.{Served, Denied, Refused}
use Rattle.lfs_types.specs.declared.attrs.Kind.{Kind}
use Rattle.lfs_types.specs.declared.attrs.Kind.TheVariants.{File as Regular, Directory}
use Rattle.lfs_types.specs.declared.request.Request.{Request}
use Rattle.lfs_types.specs.declared.request.Request.TheVariants.{Unlink, Rmdir, Rename}
use Rattle.lfs_model.specs.declared.journal.Event.{Event}
use Rattle.lfs_model.specs.declared.journal.Event.TheVariants.{User, Cleaner}
use Rattle.lfs_model.specs.World.{child, IsChild, IsTree}
use Rattle.lfs_model.specs.Rules.{decide, next, reached, removing}
use Rattle.lfs_model.specs.Effects.{answer_of, effect}
use Rattle.lfs_model.specs.Steps.{IsAnswer, IsEvent, LacksInodes, after_event}
use Rattle.lfs_laws.specs.LawDenied.{led}
use Rattle.lfs_laws.specs.LawGone as gone
use Rattle.lfs_laws.specs.LawLeadsOn.{CutsOff, CutsOffNow, LeadsAfter, PathLeadsOn, PathLeadsThrough, Replaces}
use Rattle.lfs_laws.specs.LawMoved.{HangsStill, MayMove, Renames}
use Rattle.lfs_laws.specs.LawNew.{Makes}
use Rattle.lfs_laws.specs.LawOneThing.{DiffersInPlace}
use Rattle.lfs_laws.specs.LawsRuns.{IsServed}
use Rattle.lfs_model.proofs.Allowed.{may_remove}
use Rattle.lfs_model.proofs.Children.{child-is}
use Rattle.lfs_model.proofs.Deciding.{passes-append}
use Rattle.lfs_model.proofs.EffectTree.{effect_tree}
use Rattle.lfs_laws.proofs.BetweenLemmas.{cases_place}
use Rattle.lfs_laws.proofs.CallLaws.{new_law}
use Rattle.lfs_laws.proofs.Fates.{Fate, fate}
use Rattle.lfs_laws.proofs.Fates.Fate.{Stays, Goes, Moves, Changes, Remodes, Gives, Reflags}
use Rattle.lfs_laws.proofs.LeadLemmas.{child_of_hangs}
use Rattle.lfs_laws.proofs.LegalTrees.{event_tree}
use Rattle.lfs_laws.proofs.PathLemmas.{led_none, passes, passes_first, step}
use Rattle.lfs_types.proofs.Somewhere.{is_some_and, none_there, some_and}

-- ---- what became of a row's place

-- it is what it was
record Kept (v : World) (n : ℕ) (r : Row) : Type 0 where
  row : Row
  is : map.get v.rows n ≡ Some row
  hangs : HangsStill r row

record Left (w v : World) (caller : Caller) (request : Request) (n : ℕ) (r : Row) : Type 0 where
  none : map.get v.rows n ≡ None
  by : gone.MayRemove w caller request n r
  over : gone.TakesOver w v request r

record Went (w v : World) (caller : Caller) (request : Request) (n : ℕ) (r : Row) : Type 0 where
  parent : ℕ
  name : List ℕ
  is : map.get v.rows n ≡ Some (record r { parent = parent; name = name })
  by : MayMove w caller request n r parent name

here : (r s : Row) → s.parent ≡ r.parent → s.name ≡ r.name → HangsStill r s
here r s p q = record { parents = p; names = q }

place_fate : (w v : World) (caller : Caller) (request : Request) (n : ℕ) (r : Row) → Fate w caller request v n r
    → Kept v n r ⊎ Left w v caller request n r ⊎ Went w v caller request n r
place_fate w v caller request n r (Stays e) = inl (record { row = r; is = e; hangs = here r r refl refl })
place_fate w v caller request n r (Goes e x over) = inr (inl (record { none = e; by = x; over = over }))
place_fate w v caller request n r (Moves parent name e x) =
    inr (inr (record { parent = parent; name = name; is = e; by = x }))
place_fate w v caller request n r (Changes bytes e x) = inl (record { row = _; is = e; hangs = here r _ refl refl })
place_fate w v caller request n r (Remodes mode e x) = inl (record { row = _; is = e; hangs = here r _ refl refl })
place_fate w v caller request n r (Gives uid gid e x) = inl (record { row = _; is = e; hangs = here r _ refl refl })
place_fate w v caller request n r (Reflags flags e x) = inl (record { row = _; is = e; hangs = here r _ refl refl })

-- by a Rename nothing of a row changes but its place
whole : (w v : World) (caller : Caller) (from to : List (List ℕ)) (n : ℕ) (r s : Row) → map.get v.rows n ≡ Some s
    → Fate w caller (Rename from to) v n r → IsSomeAnd (map.get v.rows n) (DiffersInPlace r)
whole w v caller from to n r s is (Stays e) = is_some_and (DiffersInPlace r) e refl
whole w v caller from to n r s is (Goes e x over) = none_there _ s e is
whole w v caller from to n r s is (Moves parent name e x) = is_some_and (DiffersInPlace r) e refl
whole w v caller from to n r s is (Changes bytes e x) = absurd x.asked
whole w v caller from to n r s is (Remodes mode e x) = absurd x.asked
whole w v caller from to n r s is (Gives uid gid e x) = absurd x.asked
whole w v caller from to n r s is (Reflags flags e x) = absurd x.asked

-- ---- one served call

module _ (numbers : ℕ) (w : World) (caller : Caller) (tree : IsTree w.rows) (request : Request)
    (allowed : decide w caller request ≡ None) (room : LacksInodes numbers w request → ⊥) where
  abbrev v : World
  v = effect numbers w caller request

  abbrev answer : Answer
  answer = Served (answer_of w request)

  is : IsAnswer numbers w caller request answer
  is = (allowed, room, refl)

  tree_after : IsTree v.rows
  tree_after = effect_tree numbers w caller tree request allowed room

  place_of : (n : ℕ) (r : Row) → map.get w.rows n ≡ Some r → Kept v n r ⊎ Left w v caller request n r
      ⊎ Went w v caller request n r
  place_of n r there = place_fate w v caller request n r (fate numbers w caller tree n r there request answer is)

  -- what kept its place hangs there still, and hung there before
  hangs_on : (at : ℕ) (name : List ℕ) (k : ℕ) (c : IsChild w.rows at name k) → Kept v k c.row → IsChild v.rows at name k
  hangs_on at name k c kept = record {
    row = kept.row;
    there = kept.is;
    below = c.below;
    hangs = kept.hangs.parents
        ∙ c.hangs;
    named = kept.hangs.names ∙ c.named;
  }

  hung : (at : ℕ) (name : List ℕ) (k : ℕ) (c : IsChild v.rows at name k) (r : Row) → map.get w.rows k ≡ Some r
      → Kept v k r → IsChild w.rows at name k
  hung at name k c r there kept =
      let row : c.row ≡ kept.row = cc (c.there, kept.is) in
      record {
        row = r;
        there = there;
        below = c.below;
        hangs = sym kept.hangs.parents ∙ ap (λ (x : Row). x.parent) (sym row) ∙ c.hangs;
        named = sym kept.hangs.names ∙ ap (λ (x : Row). x.name) (sym row) ∙ c.named;
      }

  module _ (at : ℕ) (name : List ℕ) (k : ℕ) (c : IsChild w.rows at name k)
      (made : (s : Row) → Makes w s request → ⊥)
      (moved : (m parent : ℕ) (title : List ℕ) → Renames w m parent title request → m ≡ k)
      (away : IsChild v.rows at name k → ⊥) where
    comes : (m : ℕ) → IsChild v.rows at name m → (o : Option Row) → map.get w.rows m ≡ o → ⊥
    comes m d None e = made d.row (new_law numbers w caller request answer tree is m d.row e d.there).asked
    comes m d (Some r) e = ⊎_elim
        (λ kept. away (subst (IsChild v.rows at name) (tree.unique at name m k (hung at name m d r e kept) c) d))
        (λ more. ⊎_elim
        (λ left. none_there _ d.row left.none d.there)
        (λ went. away (subst (IsChild v.rows at name) (moved m went.parent went.name went.by.asked) d))
        more) (place_of m r e)

    -- where a row left its place, and none is moved there, the name leads nowhere
    empty_at : (o : Option ℕ) → child v.rows at name ≡ o → child v.rows at name ≡ None
    empty_at None e = e
    empty_at (Some m) e = let d = child-is v.rows at name m e in absurd (comes m d _ refl)

    empty : child v.rows at name ≡ None
    empty = empty_at _ refl

-- ---- the rest of a path

-- the call cuts off what names lead to from a row
abbrev CutFrom : World → ℕ → List (List ℕ) → ℕ → Request → Type 0
CutFrom w at names n (Unlink other) = reached w.rows root other ≡ n
CutFrom w at names n (Rmdir other) = reached w.rows root other ≡ n
CutFrom w at names n (Rename from to) = passes w.rows at names (reached w.rows root from) ≡ true
CutFrom w at names n request = ⊥

cut_further : (w : World) (at : ℕ) (name : List ℕ) (names : List (List ℕ)) (n : ℕ) (request : Request)
    → CutFrom w (next w.rows at name) names n request → CutFrom w at (name ∷ names) n request
cut_further w at name names n (Unlink other) h = h
cut_further w at name names n (Rmdir other) h = h
cut_further w at name names n (Rename from to) h = or_right _ _ h
cut_further w at name names n request h = h

cut_whole : (w : World) (path : List (List ℕ)) (n : ℕ) (request : Request) → CutFrom w root path n request
    → CutsOff w path n request
cut_whole w path n (Unlink other) h = h
cut_whole w path n (Rmdir other) h = h
cut_whole w path n (Rename from to) h = h
cut_whole w path n request h = h

-- where names lead from a row after a call
abbrev Outcome : World → World → Request → ℕ → List (List ℕ) → ℕ → Type 0
Outcome w v request at names n =
    (led v.rows (Some at) names ≡ Some n)
    ⊎ ((led v.rows (Some at) names ≡ None) × CutFrom w at names n request)
    ⊎ ((m : ℕ) × (led v.rows (Some at) names ≡ Some m) × Replaces w v n m request)

further : (w v : World) (request : Request) (at : ℕ) (name : List ℕ) (names : List (List ℕ)) (n : ℕ)
    → child v.rows at name ≡ Some (next w.rows at name)
    → Outcome w v request (next w.rows at name) names n → Outcome w v request at (name ∷ names) n
further w v request at name names n e = ⊎_elim
    (λ leads. inl (ap (λ o. led v.rows o names) e ∙ leads))
    (λ more. ⊎_elim
    (λ cut. inr (inl (ap (λ o. led v.rows o names) e ∙ cut.0, cut_further w at name names n request cut.1)))
    (λ other. inr (inr (other.0, ap (λ o. led v.rows o names) e ∙ other.1, other.2)))
    more)

module _ (numbers : ℕ) (w : World) (caller : Caller) (tree : IsTree w.rows) (at : ℕ) (name : List ℕ) (k : ℕ)
    (c : IsChild w.rows at name k) where
  -- what replaced a row hangs in its place, whole
  taken : (from to : List (List ℕ)) (allowed : decide w caller (Rename from to) ≡ None)
      (room : LacksInodes numbers w (Rename from to) → ⊥)
      → reached w.rows root to ≡ k
      → gone.TakesOver w (effect numbers w caller (Rename from to)) (Rename from to) c.row
      → Outcome w (effect numbers w caller (Rename from to)) (Rename from to) at (name ∷ []) k
  taken from to allowed room onto over =
      let after = effect numbers w caller (Rename from to) in
      let moved = (may_remove w.rows caller from (passes-append (removing w.rows caller from) _ allowed).0).hangs in
      let s = some_and _ _ over in
      let hangs : IsChild after.rows at name (reached w.rows root from) =
      record {
        row = s.value;
        there = s.is;
        below = moved.below;
        hangs = s.holds.0 ∙ c.hangs;
        named = s.holds.1
            ∙ c.named;
      } in
      inr (inr (
        reached w.rows root from,
        child_of_hangs after.rows (tree_after numbers w caller tree (Rename from to) allowed room) at name
            (reached w.rows root from) hangs,
        (
          onto,
          refl,
          is_some_and (λ r. IsSomeAnd (map.get after.rows (reached w.rows root from)) (DiffersInPlace r)) moved.there
              (whole w after caller from to (reached w.rows root from) moved.row s.value s.is
              (fate numbers w caller tree (reached w.rows root from) moved.row moved.there (Rename from to)
              (answer numbers w caller tree (Rename from to) allowed room) (allowed, room, refl))),
        ),
      ))

  -- a row that was removed: the name leads nowhere, or to what replaced it
  gone_case : (request : Request) (allowed : decide w caller request ≡ None) (room : LacksInodes numbers w request → ⊥)
      (kind : Kind)
      → gone.Removes w k kind request
      → gone.TakesOver w (effect numbers w caller request) request c.row
      → map.get (effect numbers w caller request).rows k ≡ None
      → Outcome w (effect numbers w caller request) request at (name ∷ []) k
  gone_case (Unlink path) allowed room Regular asked over none =
      inr (inl (
        empty numbers w caller tree (Unlink path) allowed room at name k c (λ s h. h) (λ m p t h. absurd h)
            (λ d. none_there _ d.row none d.there),
        asked,
      ))
  gone_case (Rmdir path) allowed room Directory asked over none =
      inr (inl (
        empty numbers w caller tree (Rmdir path) allowed room at name k c (λ s h. h) (λ m p t h. absurd h)
            (λ d. none_there _ d.row none d.there),
        asked,
      ))
  gone_case (Rename from to) allowed room Regular asked over none = taken from to allowed room asked.0 over
  gone_case (Rename from to) allowed room Directory asked over none = taken from to allowed room asked.0 over
  gone_case request allowed room Regular asked over none = absurd asked
  gone_case request allowed room Directory asked over none = absurd asked

  -- a row that was moved: the name leads nowhere
  went_case : (request : Request) (allowed : decide w caller request ≡ None) (room : LacksInodes numbers w request → ⊥)
      (names : List (List ℕ)) (n : ℕ)
      → k ≡ next w.rows at name
      → (parent : ℕ) (title : List ℕ) → Renames w k parent title request
      → map.get (effect numbers w caller request).rows k ≡ Some (record c.row { parent = parent; name = title })
      → (HangsStill c.row (record c.row { parent = parent; name = title }) → ⊥)
      → Outcome w (effect numbers w caller request) request at (name ∷ names) n
  went_case (Rename from to) allowed room names n next_is parent title asked is apart =
      let after = effect numbers w caller (Rename from to) in
      let away = λ (d : IsChild after.rows at name k).
      let row : d.row ≡ record c.row { parent = parent; name = title } = cc (d.there, is) in
      apart (here c.row _ (ap (λ (x : Row). x.parent) (sym row) ∙ d.hangs ∙ sym c.hangs)
      (ap (λ (x : Row). x.name) (sym row) ∙ d.named ∙ sym c.named)) in
      let none = empty numbers w caller tree (Rename from to) allowed room at name k c (λ s h. h) (λ m p t h. sym h.0
      ∙ asked.0) away in
      inr (inl (
        ap (λ o. led after.rows o names) none ∙ led_none after.rows names,
        or_right _ _ (subst (λ m. passes w.rows (next w.rows at name) names m ≡ true) (sym (asked.0 ∙ next_is))
            (passes_first w.rows (next w.rows at name) names)),
      ))
  went_case request allowed room names n next_is parent title asked is apart = absurd asked

module _ (numbers : ℕ) (w : World) (caller : Caller) (tree : IsTree w.rows) (request : Request)
    (allowed : decide w caller request ≡ None) (room : LacksInodes numbers w request → ⊥) where
  abbrev after_it : World
  after_it = effect numbers w caller request

  -- nothing leads on from a row in which nothing hangs
  last_case : (at : ℕ) (name : List ℕ) (names : List (List ℕ)) (n : ℕ)
      (c : IsChild w.rows at name (next w.rows at name))
      → led w.rows (Some (next w.rows at name)) names ≡ Some n
      → Left w after_it caller request (next w.rows at name) c.row → Outcome w after_it request at (name ∷ names) n
  last_case at name [] n c h left =
      let same : next w.rows at name ≡ n = cc in
      subst (Outcome w after_it request at (name ∷ [])) same
      (gone_case numbers w caller tree at name
      (next w.rows at name) c request allowed room c.row.file.kind left.by.asked left.over left.none)
  last_case at name (x ∷ xs) n c h left =
      let s = step w.rows (next w.rows at name) x xs n h in
      absurd (left.by.childless x (next w.rows (next w.rows at name) x)
      (child-is w.rows (next w.rows at name) x _ s.child))

  outcome : (names : List (List ℕ)) (at n : ℕ) → led w.rows (Some at) names ≡ Some n
      → Outcome w after_it request at names n
  outcome [] at n h = inl h
  outcome (name ∷ names) at n h =
      let s = step w.rows at name names n h in
      let k = next w.rows at name in
      let c = child-is w.rows at name k s.child in
      let on = λ (kept : Kept after_it k c.row).
      further w after_it request at name names n
      (child_of_hangs after_it.rows (tree_after numbers w caller tree request allowed room) at name k
      (hangs_on numbers w caller tree request allowed room at name k c kept))
      (outcome names k n s.rest) in
      ⊎_elim on
      (λ more. ⊎_elim
      (λ left. last_case at name names n c s.rest left)
      (λ went. ⊎_elim
      (λ still. on (record { row = _; is = went.is; hangs = still }))
      (λ apart. went_case numbers w caller tree at name k c request allowed room names n refl went.parent went.name
      went.by.asked went.is apart)
      (cases_place c.row (record c.row { parent = went.parent; name = went.name })))
      more) (place_of numbers w caller tree request allowed room k c.row c.there)

  leads_after : (path : List (List ℕ)) (n : ℕ) → led w.rows (Some root) path ≡ Some n
      → LeadsAfter w path n (User request (Served (answer_of w request))) after_it
  leads_after path n h = ⊎_elim
      (λ leads. inl leads)
      (λ more. ⊎_elim (λ cut. inr (inl (cut.0, cut_whole w path n request cut.1))) (λ other. inr (inr other)) more)
      (outcome path root n h)

-- ---- events and runs

by_event : (numbers segments : ℕ) (w : World) (caller : Caller) (event : Event) (path : List (List ℕ)) (n : ℕ)
    → IsTree w.rows
    → IsEvent numbers segments w caller event
    → led w.rows (Some root) path ≡ Some n → LeadsAfter w path n event (after_event numbers w caller event)
by_event numbers segments w caller (User request (Served shown)) path n tree may h =
    leads_after numbers w caller tree request may.0 may.1 path n h
by_event numbers segments w caller (User request (Denied denial)) path n tree may h = inl h
by_event numbers segments w caller (User request (Refused resource)) path n tree may h = inl h
by_event numbers segments w caller (Cleaner kind outcome) path n tree may h = inl h

pub path_leads_on : PathLeadsOn
path_leads_on numbers segments [] entry later w path n tree legal h =
    by_event numbers segments w entry.cred entry.event path n tree legal.0 h
path_leads_on numbers segments (e ∷ es) entry later w path n tree legal h =
    path_leads_on numbers segments es entry later (after_event numbers w e.cred e.event) path n
    (event_tree numbers segments w e.cred e.event tree legal.0) legal.1 h

cut_now : (w : World) (caller : Caller) (path : List (List ℕ)) (n : ℕ) (event : Event) → led w.rows (Some root) path
    ≡ Some n
    → IsServed (CutsOff w path n) event → IsServed (CutsOffNow path w caller) event
cut_now w caller path n (User request (Served shown)) h cut = (n, h, cut)
cut_now w caller path n (User request (Denied denial)) h cut = cut
cut_now w caller path n (User request (Refused resource)) h cut = cut
cut_now w caller path n (Cleaner kind outcome) h cut = cut

pub path_leads_through : PathLeadsThrough
path_leads_through numbers segments [] w path n tree legal none h = (n, h)
path_leads_through numbers segments (e ∷ es) w path n tree legal none h =
    let after = after_event numbers w e.cred e.event in
    let below = event_tree numbers segments w e.cred e.event tree legal.0 in
    ⊎_elim
    (λ leads. path_leads_through numbers segments es after path n below legal.1 none.1 leads)
    (λ more. ⊎_elim
    (λ cut. absurd (none.0 (cut_now w e.cred path n e.event h cut.1)))
    (λ other. path_leads_through numbers segments es after path other.0 below legal.1 none.1 other.1)
    more) (by_event numbers segments w e.cred e.event path n tree legal.0 h)
