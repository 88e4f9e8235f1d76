use Rattle.std.proofs.Common.{◌≡◌, ◌≤◌, List, ℕ, length, None, Some, Ok, Err, refl, sym, ap, subst, ◌∙◌}
use Rattle.std.proofs.lemmas.Result.{err_from_is_err_and}
use Rattle.std.specs.Prelude.{Result}
use Rattle.lfs_types.specs.StoreStates.{StoreState}
use Rattle.lfs_types.specs.Tree.{Content, World}
use Rattle.lfs_types.specs.declared.request.Request.TheVariants.{Rename}
use Rattle.lfs_model.specs.Rules.{Judges, decide, last, rule_table}
use Rattle.lfs_calls.specs.Calls.{IsCallAt, answered}
use Rattle.lfs_calls.specs.Renames.{GoesWith, IsMove, PlacedAt, PlacesRow}
use Rattle.lfs_calls.specs.Volumes.{IsVolume}
use Rattle.lfs_calls.specs.declared.call_fault.CallFault.{CallFault}
use Rattle.lfs_model.specs.Effects.{effect}
use Rattle.lfs_calls.specs.Content.{Shows}
use Rattle.lfs_calls.proofs.AskedLemmas.{asks_placed, on_asked}
use Rattle.lfs_calls.proofs.CallLemmas.{denied, done_so, still}
use Rattle.lfs_calls.proofs.RenameOutcomes.{follows_placed, goes_with, halted_volume, halts_so, leaves_volume, no_error}
use Rattle.lfs_calls.proofs.RenameOutcomes.{not_listed, nothing_served, placed_at, placed_none, renamed, stays_so}
use Rattle.lfs_calls.proofs.StateLemmas.{same_content}
use Rattle.lfs_calls.proofs.renaming.rename.Goals as goal
use Rattle.lfs_calls.proofs.renaming.rename.Goals.{After-last_name-new}

-- the content before, as the store has it at the call
abbrev before : (g : _) (c : After-last_name-new g) → StoreState
before g c = g.F.FileStore.state c.args.store.now

-- the judge found the call allowed, and the row that may get another name
judged_so : (g : _) (c : After-last_name-new g) (w : World) → IsVolume (g.F.FileStore.state c.args.store.now) w
    → (decide w c.args.cred.now (Rename c.args.from.now c.args.to.now) ≡ None)
    × IsMove (before g c).content w.rows c.args.from.now c.args.to.now c.in_ok-planned.planned
judged_so g c w v =
    subst (λ names. Judges (rule_table w c.args.cred.now (Rename names c.args.to.now))
    (IsMove (before g c).content w.rows names c.args.to.now) (Ok c.in_ok-planned.planned))
    c.names-from.ensures.value
    (subst (λ names. Judges (rule_table w c.args.cred.now (Rename c.names-from.result.now names))
    (IsMove (before g c).content w.rows c.names-from.result.now names) (Ok c.in_ok-planned.planned))
    c.names-to.ensures.value
    (c.in_ok-planned.ensures.judge w v))

move : (g : _) (c : After-last_name-new g) (w : World) → IsVolume (g.F.FileStore.state c.args.store.now) w
    → IsMove (before g c).content w.rows c.args.from.now c.args.to.now c.in_ok-planned.planned
move g c w v = (judged_so g c w v).1

pub last_name-old-requires : goal.last_name-old-requires
last_name-old-requires g c = let t = c.requires in (c.in_ok-planned.ensures.judge t.0 t.1).1.removal.some

pub last_name-new-requires : goal.last_name-new-requires
last_name-new-requires g c = let t = c.requires in (c.in_ok-planned.ensures.judge t.0 t.1).1.arrival.some

old_is : (g : _) (c : After-last_name-new g) → c.last_name-old.result.now ≡ last c.args.from.now
old_is g c = c.last_name-old.ensures.name ∙ ap last c.names-from.ensures.value

new_is : (g : _) (c : After-last_name-new g) → c.last_name-new.result.now ≡ last c.args.to.now
new_is g c = c.last_name-new.ensures.name ∙ ap last c.names-to.ensures.value

short : (g : _) (c : After-last_name-new g) → length c.last_name-new.result.now ≤ 255
    → length (last c.args.to.now) ≤ 255
short g c h = subst (λ (n : List ℕ). length n ≤ 255) (new_is g c) h

-- what came of the row, by the state before
placed_so : (g : _) (c : After-last_name-new g) (result : Result (Unit {0}) CallFault) (after : StoreState)
    → PlacesRow (g.F.FileStore.state c.judge_rename.new.store) c.in_ok-planned.planned c.last_name-old.result.now
    c.last_name-new.result.now c.in_ok-planned.planned.target result after
    → PlacesRow (before g c) c.in_ok-planned.planned (last c.args.from.now)
    (last c.args.to.now) c.in_ok-planned.planned.target result after
placed_so g c result after h =
    let m = c.in_ok-planned.planned in
    subst (λ s. PlacesRow s m (last c.args.from.now) (last c.args.to.now) m.target result after)
    c.judge_rename.ensures.state
    (subst (λ name. PlacesRow (g.F.FileStore.state c.judge_rename.new.store) m name
    (last c.args.to.now) m.target result after) (old_is g c)
    (subst (λ name. PlacesRow (g.F.FileStore.state c.judge_rename.new.store) m c.last_name-old.result.now name m.target
    result after) (new_is g c) h))

pub place_row-requires : goal.place_row-requires
place_row-requires g c =
    let k = (goal.at.place_row-requires g c).After-last_name-new in
    let t = c.requires in
    let m = c.in_ok-planned.planned in
    let is = goes_with (before g k) t.1 c.args.cred.now (move g k t.0 t.1) (judged_so g k t.0 t.1).0 m.target refl in
    record {
      goes = (
        t.0,
        (
          still c.judge_rename.ensures.state t.1,
          subst (λ x. GoesWith x t.0.rows m c.last_name-old.result.now c.last_name-new.result.now m.target)
              (sym (same_content c.judge_rename.ensures.state))
              (subst (λ name. GoesWith (before g k).content t.0.rows m name c.last_name-new.result.now m.target)
              (sym (old_is g k))
              (subst (λ name. GoesWith (before g k).content t.0.rows m (last c.args.from.now) name m.target)
              (sym (new_is g k)) is)),
        ),
      );
    }

pub returns-in_err-planned-clause-call : goal.returns-in_err-planned-clause-call
returns-in_err-planned-clause-call g c level =
    let p = err_from_is_err_and c.from_residual.result c.from_residual.ensures.1 in
    rw (p.1, p.2) (denied level c.judge_rename.ensures.state c.in_err-planned.field-0.0 (λ w v at_level.
    subst (λ names. decide w c.args.cred.now (Rename names c.args.to.now)
    ≡ Some c.in_err-planned.field-0.0) c.names-from.ensures.value
    (subst (λ names. decide w c.args.cred.now (Rename c.names-from.result.now names)
    ≡ Some c.in_err-planned.field-0.0) c.names-to.ensures.value (c.in_err-planned.ensures.judge w v))))

-- a denied call isn't one that the rules allow
pub returns-in_err-planned-clause-stays : goal.returns-in_err-planned-clause-stays
returns-in_err-planned-clause-stays g c w v there allowed =
    let no = subst (λ names. decide w c.args.cred.now (Rename names c.args.to.now)
    ≡ Some c.in_err-planned.field-0.0) c.names-from.ensures.value
    (subst (λ names. decide w c.args.cred.now (Rename c.names-from.result.now names)
    ≡ Some c.in_err-planned.field-0.0) c.names-to.ensures.value (c.in_err-planned.ensures.judge w v)) in
    absurd (cc (sym allowed ∙ no))

pub returns-in_err-place_row-clause-call : goal.returns-in_err-place_row-clause-call
returns-in_err-place_row-clause-call g c level =
    let k = (goal.at.returns-in_err-place_row-clause-call g c).After-last_name-new in
    let p = err_from_is_err_and c.from_residual-in_err-place_row.result c.from_residual-in_err-place_row.ensures.1 in
    let m = c.in_ok-planned.planned in
    let after = g.F.FileStore.state c.place_row.new.store in
    let put = placed_so g k (Err c.in_err-place_row.field-0.0) after c.in_err-place_row.ensures.places in
    let none = placed_none (before g k) m (last c.args.from.now)
    (last c.args.to.now) m.target c.in_err-place_row.field-0.0 after put in
    let call : IsCallAt level (before g k) after c.args.cred.now (Rename c.args.from.now c.args.to.now)
    (Err c.in_err-place_row.field-0.0) = record {
      outcome = λ w v at_level. halts_so (before g k) v c.args.cred.now (move g k w v) (judged_so g k w v).0
          (short g k c.as_bytes.ensures.bounded) m.target refl c.in_err-place_row.field-0.0 after put;
      leaves = λ w v. halted_volume (before g k) v c.args.cred.now
          (Rename c.args.from.now c.args.to.now) c.in_err-place_row.field-0.0 after none.0;
      entries = nothing_served _ c.in_err-place_row.field-0.0;
      halted = none.0;
      looks = tt;
      unasked = none.1;
      listed = λ h. absurd (not_listed c.in_err-place_row.field-0.0 h);
      follows = none.2;
    } in
    subst (λ r. IsCallAt level (before g k) after c.args.cred.now (Rename c.args.from.now c.args.to.now) r)
    (sym (p.1 ∙ ap Err p.2)) call

pub returns-in_err-place_row-clause-stays : goal.returns-in_err-place_row-clause-stays
returns-in_err-place_row-clause-stays g c w v there allowed =
    let k = (goal.at.returns-in_err-place_row-clause-stays g c).After-last_name-new in
    let m = c.in_ok-planned.planned in
    let after = g.F.FileStore.state c.place_row.new.store in
    let put = placed_so g k (Err c.in_err-place_row.field-0.0) after c.in_err-place_row.ensures.places in
    absurd (no_error (stays_so (before g k) v c.args.cred.now (move g k w v) there m.target refl
    (Err c.in_err-place_row.field-0.0) after put).0)

pub returns-clause-call : goal.returns-clause-call
returns-clause-call g c level =
    let k = (goal.at.returns-clause-call g c).After-last_name-new in
    let m = c.in_ok-planned.planned in
    let after = g.F.FileStore.state c.place_row.new.store in
    let put = placed_so g k (Ok tt) after c.in_ok-place_row.ensures.places in
    done_so level refl tt
    (λ w v at_level. (
      ((judged_so g k w v).0, (λ none. none), refl),
      (renamed (before g k) v c.args.cred.now (move g k w v) (judged_so g k w v).0 m.target refl after put).roomy,
    ))
    (λ w v. leaves_volume (before g k) v c.args.cred.now (move g k w v) (judged_so g k w v).0 after
    (renamed (before g k) v c.args.cred.now (move g k w v) (judged_so g k w v).0 m.target refl after put))
    (λ w v. (renamed (before g k) v c.args.cred.now (move g k w v) (judged_so g k w v).0 m.target refl after put).place)
    (follows_placed (before g k) m (last c.args.from.now) (last c.args.to.now) m.target after put)

-- and where the row has its place already, nothing changes
pub returns-clause-stays : goal.returns-clause-stays
returns-clause-stays g c w v there allowed =
    let k = (goal.at.returns-clause-stays g c).After-last_name-new in
    let after = g.F.FileStore.state c.place_row.new.store in
    let put = placed_so g k (Ok tt) after c.in_ok-place_row.ensures.places in (
      refl,
      (stays_so (before g k) v c.args.cred.now (move g k w v) there c.in_ok-planned.planned.target refl
          (Ok tt) after put).1,
    )

-- the changes make the call
makes : (g : _) (c : After-last_name-new g) (after : Content)
    → PlacedAt (g.F.FileStore.state c.judge_rename.new.store).content c.in_ok-planned.planned c.last_name-old.result.now
    c.last_name-new.result.now c.in_ok-planned.planned.target after
    → (w : World) → IsVolume (g.F.FileStore.state c.args.store.now) w
    → Shows after (effect (g.F.FileStore.state c.args.store.now).shape.numbers w c.args.cred.now
    (Rename c.args.from.now c.args.to.now))
makes g c after at w v =
    let m = c.in_ok-planned.planned in
    let mid = g.F.FileStore.state c.judge_rename.new.store in
    let put = placed_so g c (Ok tt) (record mid { content = after })
    (placed_at mid m c.last_name-old.result.now c.last_name-new.result.now m.target after at) in
    (renamed (before g c) v c.args.cred.now (move g c w v) (judged_so g c w v).0 m.target refl
    (record mid { content = after }) put).shows

pub returns-in_err-planned-clause-asked : goal.returns-in_err-planned-clause-asked
returns-in_err-planned-clause-asked g c =
    let p = err_from_is_err_and c.from_residual.result c.from_residual.ensures.1 in
    rw (p.1, p.2) tt

pub returns-in_err-place_row-clause-asked : goal.returns-in_err-place_row-clause-asked
returns-in_err-place_row-clause-asked g c =
    let k = (goal.at.returns-in_err-place_row-clause-asked g c).After-last_name-new in
    let p = err_from_is_err_and c.from_residual-in_err-place_row.result c.from_residual-in_err-place_row.ensures.1 in
    rw (p.1, p.2) (on_asked _ _ (answered (Err c.in_err-place_row.field-0.0))
    (λ said. asks_placed g.F.FileStore.state g.F.FileStore.made c.judge_rename.ensures.state c.of.ensures
    (makes g k)) c.in_err-place_row.ensures.asked)

pub returns-clause-asked : goal.returns-clause-asked
returns-clause-asked g c =
    let k = (goal.at.returns-clause-asked g c).After-last_name-new in
    asks_placed g.F.FileStore.state g.F.FileStore.made c.judge_rename.ensures.state c.of.ensures
    (makes g k) c.in_ok-place_row.ensures.asked
