-- What a Rename comes to, by what has its new name: itself, nothing, or another row: `goes_with`, `halts_so` and
-- `renamed`, for `rename`. The judge's finding fixes the case (`found_by`); each case puts blocks as MovedPlaces says,
-- the store then shows the world after it (RenameEffects), and that is a tree by `effect_tree` of `lfs_model`. A
-- refusal needs its cause: no room only where the name is free and fits nowhere (`lacks`), and a row that gives way has
-- nothing in it, by the met rules (`gives_way`); another reason of a store is a case more in `IsCauseOf`.
use Rattle.std.proofs.Common.{◌≡◌, ◌≢◌, ℕ, ◌≤◌, ◌==◌, Bool, true, false, List, length, Option, None, Some, Result, Ok}
use Rattle.std.proofs.Common.{Err, inl, refl, sym, ap, subst, ◌∙◌, arith, eq-eqb, ne_eqb}
use Rattle.lfs_types.specs.Caller.{Caller}
use Rattle.lfs_types.specs.StoreStates.{Follows, StoreState, MayRefuse}
use Rattle.lfs_types.specs.Tree.{Content, World, root}
use Rattle.lfs_types.specs.declared.answer.Answer.TheVariants as answers
use Rattle.lfs_types.specs.declared.answer.Resource.TheVariants as resources
use Rattle.lfs_types.specs.Shown.{ServesList}
use Rattle.lfs_types.specs.declared.request.Request.{Request}
use Rattle.lfs_types.specs.declared.request.Request.TheVariants.{Rename}
use Rattle.lfs_calls.specs.declared.call_fault.CallFault.{CallFault}
use Rattle.lfs_calls.specs.declared.call_fault.CallFault.TheVariants as reasons
use Rattle.lfs_calls.specs.declared.renaming.Move.{Move}
use Rattle.lfs_calls.specs.declared.renaming.Target.{Target}
use Rattle.lfs_calls.specs.declared.renaming.Target.TheVariants as targets
use Rattle.lfs_model.specs.World.{child}
use Rattle.lfs_model.specs.Rules.{arriving, decide, first_failing, front, last, moving_tests, reached, removing}
use Rattle.lfs_model.specs.Effects.{effect}
use Rattle.lfs_model.specs.Steps.{after_answer}
use Rattle.lfs_model.proofs.Allowed.{may_go}
use Rattle.lfs_model.proofs.Children.{child-answer}
use Rattle.lfs_model.proofs.Deciding.{passes-append}
use Rattle.lfs_model.proofs.EffectTree.{childless, effect_tree}
use Rattle.lfs_types.specs.declared.store.StoreRefusal.{StoreRefusal}
use Rattle.lfs_types.specs.declared.store.StoreRefusal.TheVariants.{NoSpace, NoMemory}
use Rattle.lfs_calls.specs.Calls.{OnUnasked, answered, resource_of}
use Rattle.lfs_calls.specs.Content.{Shows}
use Rattle.lfs_calls.specs.Removes.{IsChildless}
use Rattle.lfs_calls.specs.Entries.{OnServed}
use Rattle.lfs_calls.specs.Outcomes.{FillsDirectory, IsOutcome}
use Rattle.lfs_calls.specs.Renames.{GoesWith, HasNoRoom, IsCauseOf, IsMove, IsTarget, PlacedAt, PlacesName, PlacesOver}
use Rattle.lfs_calls.specs.Renames.{PlacesRow, target_number}
use Rattle.lfs_calls.specs.Volumes.{IsVolume}
use Rattle.lfs_calls.proofs.RenameEffects.{crowds, filled, fills, leaves, moves_first, not_full, roomy, shows_after}
use Rattle.lfs_calls.proofs.RenameEffects.{shows_over, swaps_place, world_same}
use Rattle.lfs_calls.proofs.StateLemmas.{follows_itself, same_content}

-- ---- a row that isn't put in a place

-- a store's refusal has its cause, where there is room
pub refused_for : (s : StoreState) (full : Type 0) (refusal : StoreRefusal)
    → MayRefuse s refusal → (full → ⊥)
    → IsCauseOf s full (reasons.Refused (resource_of refusal))
refused_for s full NoSpace may room = (may, room)
refused_for s full NoMemory may room = (may, room)

-- a store doesn't refuse for want of room for a name
pub not_roomless : {A : Type 0} (refusal : StoreRefusal) → reasons.Refused (resource_of refusal)
    ≡ reasons.Refused resources.DirectoryFull → A
not_roomless NoSpace h = absurd (cc)
not_roomless NoMemory h = absurd (cc)

-- what holds where there is no room for a name holds where no store was asked
unasked_by : {P : Type 0} (s : StoreState) (full : Type 0) (why : CallFault) → IsCauseOf s full why
    → (why ≡ reasons.Refused resources.DirectoryFull → P) → OnUnasked (answered (Err why)) P
unasked_by s full (reasons.Denied denial) cause p = absurd cause
unasked_by s full (reasons.Refused resources.NoMemory) cause p = tt
unasked_by s full (reasons.Refused resources.NoSpace) cause p = tt
unasked_by s full (reasons.Refused resources.NoInodes) cause p = absurd cause
unasked_by s full (reasons.Refused resources.DirectoryFull) cause p = p refl
unasked_by s full (reasons.Refused resources.JournalFull) cause p = absurd cause

-- nothing changed, for that a row had its place or found none
pub placed_none : (s : StoreState) (move : Move) (old new : List ℕ) (t : Target) (why : CallFault) (after : StoreState)
    → PlacesRow s move old new t (Err why) after
    → (after.content ≡ s.content) × OnUnasked (answered (Err why)) (after ≡ s) × Follows s after
placed_none s move old new targets.Itself why after h = let no = h.0 in absurd (cc)
placed_none s move old new targets.Free why after h =
    (h.err, unasked_by s (HasNoRoom s.content move old new None) why h.refused h.roomless, h.follows)
placed_none s move old new (targets.Taken there) why after h =
    (h.err, unasked_by s ⊥ why h.refused h.roomless, h.follows)

-- such a call leaves the tree as it was
pub halted_volume : (s : StoreState) {w : World} → IsVolume s w
    → (caller : Caller) (request : Request) (why : CallFault) (after : StoreState) → after.content ≡ s.content
    → IsVolume after (after_answer s.shape.numbers w caller request (answered (Err why)))
halted_volume s {w} v caller request (reasons.Denied denial) after same =
    record { shows = subst (λ c. Shows c w) (sym same) v.shows; tree = v.tree }
halted_volume s {w} v caller request (reasons.Refused resource) after same =
    record { shows = subst (λ c. Shows c w) (sym same) v.shows; tree = v.tree }

-- and serves no list
pub not_listed : (why : CallFault) → ServesList (answered (Err why)) → ⊥
not_listed (reasons.Denied denial) h = h
not_listed (reasons.Refused resource) h = h

-- nor anything else
pub nothing_served : (P : Type 0) (why : CallFault) → OnServed (answered (Err why)) P
nothing_served P (reasons.Denied denial) = tt
nothing_served P (reasons.Refused resource) = tt

-- an error is no success
pub no_error : {A B E : Type 0} {error : E} {value : B} → Err error ≡ Ok value → A
no_error h = absurd (cc)

module _ (s : StoreState) {w : World} (v : IsVolume s w) (caller : Caller) {from to : List (List ℕ)} {move : Move}
    (is : IsMove s.content w.rows from to move) where
  abbrev n : ℕ
  n = move.removal.file.number

  -- what has the name, by what the judge found
  found_by : (t : Target) → move.target ≡ t → child w.rows move.dir.number (last to) ≡ target_number n t
  found_by t e = is.arrival.there ∙ ap (target_number n) e

  other_is : (t : Target) → move.target ≡ t → IsTarget s.content n t
  other_is t e = subst (IsTarget s.content n) e is.target

  -- the name leads to the row itself, as the judge found
  pub itself : child w.rows (reached w.rows root (front to)) (last to) ≡ Some (reached w.rows root from) → (t : Target)
      → move.target ≡ t → t ≡ targets.Itself
  itself there t e = by_target t e (sym (found_by t e) ∙ ap (λ m. child w.rows m (last to)) (sym is.arrival.object)
      ∙ there ∙ ap Some is.removal.row) where
        by_target : (t : Target) → move.target ≡ t → target_number n t ≡ Some n → t ≡ targets.Itself
        by_target targets.Itself e h = refl
        by_target targets.Free e h = absurd (cc)
        by_target (targets.Taken there) e h = absurd
            ((other_is (targets.Taken there) e).0 (let same : there.number ≡ n = cc in same))

  -- it stays there
  pub stays_so : child w.rows (reached w.rows root (front to)) (last to) ≡ Some (reached w.rows root from)
      → (t : Target) → move.target ≡ t
      → (result : Result (Unit {0}) CallFault) (after : StoreState)
      → PlacesRow s move (last from) (last to) t result after → (result ≡ Ok tt) × (after ≡ s)
  stays_so there t e result after h = subst (λ x. PlacesRow s move (last from) (last to) x result after)
      (itself there t e) h

  module _ (allowed : decide w caller (Rename from to) ≡ None) where
    -- nothing hangs in a row that is to give way
    gives_way : (m : ℕ) → child w.rows move.dir.number (last to) ≡ Some m → m ≢ n → IsChildless w.rows m
    gives_way m there apart name =
        let one = passes-append (removing w.rows caller from) _ allowed in
        let two = passes-append (arriving w.rows caller to) _ one.1 in
        let at : child w.rows (reached w.rows root (front to)) (last to)
        ≡ Some m = ap (λ k. child w.rows k (last to)) is.arrival.object ∙ there in
        let moving = subst (λ o. first_failing (moving_tests w.rows caller from to o) ≡ None) at two.1 in
        let goes = may_go w.rows caller from to (Some m) (ap (λ k. m == k) is.removal.row ∙ ne_eqb m n apart) moving in
        child-answer w.rows v.tree.unique m name None (childless w.rows m (goes.gives m refl).empty name)

    -- the row goes there
    pub goes_with : (t : Target) → move.target ≡ t → GoesWith s.content w.rows move (last from) (last to) t
    goes_with targets.Itself e = tt
    goes_with targets.Free e =
        record { leaves = leaves v.shows v.tree caller is; there = found_by targets.Free e; gives_way = tt }
    goes_with (targets.Taken there) e =
        let taken = found_by (targets.Taken there) e in
        let other = (other_is (targets.Taken there) e).0 in
        record {
          leaves = leaves v.shows v.tree caller is;
          there = taken;
          gives_way = (other, gives_way there.number taken other);
        }

    -- ---- a call that isn't served

    lacks : (full : Type 0) (why : CallFault) → IsCauseOf s full why
        → (FillsDirectory s.content w (Rename from to) → full)
        → (full → IsOutcome s w caller (Rename from to) (answers.Refused resources.DirectoryFull))
        → IsOutcome s w caller (Rename from to) (answered (Err why))
    lacks full (reasons.Denied denial) cause fills no_room = absurd cause
    lacks full (reasons.Refused resources.NoMemory) cause fills no_room =
        (allowed, (λ none. none), (λ x. cause.1 (fills x)), inl (cause.0, tt))
    lacks full (reasons.Refused resources.NoSpace) cause fills no_room =
        ((allowed, ((λ none. none), tt)), (λ x. cause.1 (fills x)), cause.0)
    lacks full (reasons.Refused resources.NoInodes) cause fills no_room = absurd cause
    lacks full (reasons.Refused resources.DirectoryFull) cause fills no_room = no_room cause
    lacks full (reasons.Refused resources.JournalFull) cause fills no_room = absurd cause

    -- its answer has its cause
    pub halts_so : length (last to) ≤ 255 → (t : Target) → move.target ≡ t → (why : CallFault) (after : StoreState)
        → PlacesRow s move (last from) (last to) t (Err why) after
        → IsOutcome s w caller (Rename from to) (answered (Err why))
    halts_so short targets.Itself e why after h = let no = h.0 in absurd (cc)
    halts_so short targets.Free e why after h =
        let free = found_by targets.Free e in
        lacks (HasNoRoom s.content move (last from) (last to) None) why h.refused
        (λ x. (filled v.shows v.tree caller is x).1)
        (λ full. (
          (allowed, ((λ none. none), crowds v.shows v.tree caller is free full short)),
          fills v.shows v.tree caller is free full,
        ))
    halts_so short (targets.Taken there) e why after h =
        lacks ⊥ why h.refused (roomy v.shows v.tree caller is there.number (found_by (targets.Taken there) e))
        (λ none. absurd none)

    -- ---- a call that is

    pub record Renamed (after : StoreState) : Type 0 where
      pub roomy : FillsDirectory s.content w (Rename from to) → ⊥
      pub shows : Shows after.content (effect s.shape.numbers w caller (Rename from to))
      pub place : PlacesName s.content after.content w.rows from to
          (child w.rows (reached w.rows root (front to)) (last to))

    placed : (after : StoreState) (o : Option ℕ) → child w.rows move.dir.number (last to) ≡ o
        → PlacesName s.content after.content w.rows from to o
        → PlacesName s.content after.content w.rows from to (child w.rows (reached w.rows root (front to)) (last to))
    placed after o there h = subst (PlacesName s.content after.content w.rows from to)
        (sym (ap (λ m. child w.rows m (last to)) is.arrival.object ∙ there)) h

    placed_over : (after : StoreState) (m : ℕ) (b : Bool) → (m == n) ≡ b
        → PlacesOver b s.content after.content w.rows from to m
        → PlacesName s.content after.content w.rows from to (Some m)
    placed_over after m b e h = subst (λ x. PlacesOver x s.content after.content w.rows from to m)
        (sym (ap (λ k. m == k) is.removal.row ∙ e)) h

    pub renamed : (t : Target) → move.target ≡ t → (after : StoreState)
        → PlacesRow s move (last from) (last to) t (Ok tt) after → Renamed after
    renamed targets.Itself e after h =
        let there = found_by targets.Itself e in
        record {
          roomy = roomy v.shows v.tree caller is n there;
          shows = subst (Shows after.content) (sym (world_same v.shows v.tree caller is there s.shape.numbers))
              (subst (λ c. Shows c w) (sym (same_content h.1)) v.shows);
          place = placed after (Some n) there (placed_over after n true (eq-eqb n n refl) (same_content h.1));
        }
    renamed targets.Free e after h =
        let free = found_by targets.Free e in
        let done = h.ok in
        record {
          roomy = λ x. not_full v.shows v.tree caller is done.1.0 (filled v.shows v.tree caller is x).1;
          shows = shows_after v.shows v.tree caller is done.1.0 free after.content done.1.1 s.shape.numbers;
          place = placed after None free (moves_first v.shows v.tree caller is done.1.0 free after.content done.1.1);
        }
    renamed (targets.Taken t) e after h =
        let there = found_by (targets.Taken t) e in
        let apart = (other_is (targets.Taken t) e).0 in
        let done = h.ok in
        record {
          roomy = roomy v.shows v.tree caller is t.number there;
          shows = shows_over v.shows v.tree caller is t.number there apart done.1.0 after.content done.1.1
              s.shape.numbers;
          place = placed after (Some t.number) there
              (placed_over after t.number false (ne_eqb t.number n apart)
              (swaps_place v.shows v.tree caller is t.number there apart done.1.0 after.content done.1.1));
        }

    -- the store shows the tree after it
    pub leaves_volume : (after : StoreState) → Renamed after
        → IsVolume after (effect s.shape.numbers w caller (Rename from to))
    leaves_volume after r = record {
      shows = r.shows;
      tree = effect_tree s.shape.numbers w caller v.tree (Rename from to) allowed (λ none. none);
    }

-- what follows a state in which a row was put
pub follows_placed : (s : StoreState) (move : Move) (old new : List ℕ) (t : Target) (after : StoreState)
    → PlacesRow s move old new t (Ok tt) after → Follows s after
follows_placed s move old new targets.Itself after h = follows_itself h.1
follows_placed s move old new targets.Free after h = h.follows
follows_placed s move old new (targets.Taken there) after h = h.follows

-- a row is put in its place where the content says so
pub placed_at : (s : StoreState) (move : Move) (old new : List ℕ) (t : Target) (c : Content)
    → PlacedAt s.content move old new t c → PlacesRow s move old new t (Ok tt) (record s { content = c })
placed_at s move old new targets.Itself c h = (refl, ap (λ (x : Content). record s { content = x }) h)
placed_at s move old new targets.Free c h =
    record { ok = h; err = tt; refused = tt; roomless = tt; follows = record { clean = λ none. omega arith; shape = refl } }
placed_at s move old new (targets.Taken there) c h =
    record { ok = h; err = tt; refused = tt; roomless = tt; follows = record { clean = λ none. omega arith; shape = refl } }
