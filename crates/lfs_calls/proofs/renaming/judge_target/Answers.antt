use Rattle.std.proofs.Common.{◌≡◌, ℕ, ◌+◌, ◌≤◌, List, length, None, Some, Err, sym, ap, subst, ◌∙◌, arith, refl}
use Rattle.std.proofs.lemmas.Result.{err_from_is_err_and}
use Rattle.std.specs.Prelude.{MatchOption, Option}
use Rattle.lfs_types.specs.Stored.{shown_attrs}
use Rattle.lfs_types.specs.Tree.{Content}
use Rattle.lfs_model.specs.Rules.{front, last, moving_tests}
use Rattle.lfs_calls.specs.Renames.{IsTarget, target_number}
use Rattle.lfs_calls.specs.declared.renaming.Target.{Target}
use Rattle.lfs_calls.proofs.AskLemmas.{denies}
use Rattle.lfs_calls.proofs.CallLemmas.{still}
use Rattle.lfs_calls.proofs.MoveJudging.{front_count, move_barred, move_beneath, move_granted, move_not_granted}
use Rattle.lfs_calls.proofs.MoveJudging.{not_there, target_free, target_taken, there_in}
use Rattle.lfs_calls.proofs.renaming.judge_target.Goals as goal
use Rattle.lfs_calls.proofs.renaming.judge_target.Goals.{After-component-at, in-None, in-Some}

-- what the judge gives back: what has the new name
abbrev IsFound : Content → ℕ → Option ℕ → Target → Type 0
IsFound c n o target = (target_number n target ≡ o) × IsTarget c n target

-- the path has as many names before the last
counted : (g : _) (c : After-component-at g) → length (front c.args.paths.to.now) + 1 ≡ length c.args.paths.to.now
counted g c = let t = c.requires.world in front_count c.args.paths.to.now (c.requires.arrival t.0 t.1).some

-- the name doesn't lead to the row itself
apart : (g : _) (c : After-component-at g) → c.args.arrival.now.there ≡ Some c.args.removal.now.file.number → ⊥
apart g c = not_there c.args.removal.now.file.number c.args.arrival.now.there (sym c.eq.ensures ∙ c.if-eq.false)

-- the directory stands there
seat : (g : _) (c : After-component-at g) → c.component-at.result ≡ length (front c.args.paths.to.now)
seat g c = c.component-at.ensures ∙ ap (λ (l : List (List ℕ)). length l) c.parents_of.ensures.names

pub component-at-requires : goal.component-at-requires
component-at-requires g c =
    let t = c.requires.world in
    let count = front_count c.args.paths.to.now (c.requires.arrival t.0 t.1).some in
    let short = c.requires.short_to in
    let few : length (front c.args.paths.to.now) ≤ 1024 = omega (arith, count, short) in
    subst (λ (l : List (List ℕ)). length l ≤ 1024) (sym c.parents_of.ensures.names) few

pub judge_there-requires-clause-short : goal.judge_there-requires-clause-short
judge_there-requires-clause-short g c =
    let k = (goal.at.judge_there-requires-clause-short g c).After-component-at in
    let count = counted g k in
    let short = c.requires.short_to in
    let at = seat g k in
    omega (arith, count, short, at)

pub judge_there-requires-clause-hangs : goal.judge_there-requires-clause-hangs
judge_there-requires-clause-hangs g c =
    there_in (g.F.FileStore.state c.args.store.now) c.args.arrival.now.dir.number
    (last c.args.paths.to.now) c.args.arrival.now.there (λ w v. (c.requires.arrival w v).there)

pub returns-in_err-there-clause-judge : goal.returns-in_err-there-clause-judge
returns-in_err-there-clause-judge g c w v =
    let k = (goal.at.returns-in_err-there-clause-judge g c).After-component-at in
    let content = (g.F.FileStore.state c.args.store.now).content in
    let p = err_from_is_err_and c.from_residual.result c.from_residual.ensures.1 in
    denies (moving_tests w.rows c.args.cred.now c.args.paths.from.now c.args.paths.to.now c.args.arrival.now.there)
    (IsFound content c.args.removal.now.file.number c.args.arrival.now.there) (p.1 ∙ ap Err p.2)
    (move_barred content w v.shows c.args.cred.now c.args.paths.from.now c.args.paths.to.now c.args.removal.now c.args.arrival.now
    (c.requires.removal w v) (c.requires.arrival w v) (apart g k) c.component-at.result (seat g k)
    (length c.args.paths.from.now) refl c.in_err-there.field-0.0 (c.in_err-there.ensures.judge w v))

pub judge_apart-requires-clause-world : goal.judge_apart-requires-clause-world
judge_apart-requires-clause-world g c = let t = c.requires.world in (t.0, still c.judge_there.ensures.state t.1)

pub returns-in_err-judge_apart-clause-judge : goal.returns-in_err-judge_apart-clause-judge
returns-in_err-judge_apart-clause-judge g c w v =
    let k = (goal.at.returns-in_err-judge_apart-clause-judge g c).After-component-at in
    let content = (g.F.FileStore.state c.args.store.now).content in
    let p = err_from_is_err_and c.from_residual-in_err-judge_apart.result c.from_residual-in_err-judge_apart.ensures.1
    in
    denies (moving_tests w.rows c.args.cred.now c.args.paths.from.now c.args.paths.to.now c.args.arrival.now.there)
    (IsFound content c.args.removal.now.file.number c.args.arrival.now.there) (p.1 ∙ ap Err p.2)
    (move_beneath content w v.shows c.args.cred.now c.args.paths.from.now c.args.paths.to.now c.args.removal.now c.args.arrival.now
    (c.requires.removal w v) (c.requires.arrival w v) (apart g k) c.component-at.result (seat g k)
    (length c.args.paths.from.now) refl (c.in_ok-there.ensures.judge w v).0 c.in_err-judge_apart.field-0.0
    (c.in_err-judge_apart.ensures.apart w (still c.judge_there.ensures.state v)))

pub returns-in_err-may_move-clause-judge : goal.returns-in_err-may_move-clause-judge
returns-in_err-may_move-clause-judge g c w v =
    let k = (goal.at.returns-in_err-may_move-clause-judge g c).After-component-at in
    let content = (g.F.FileStore.state c.args.store.now).content in
    let p = err_from_is_err_and c.from_residual-in_err-may_move.result c.from_residual-in_err-may_move.ensures.1 in
    denies (moving_tests w.rows c.args.cred.now c.args.paths.from.now c.args.paths.to.now c.args.arrival.now.there)
    (IsFound content c.args.removal.now.file.number c.args.arrival.now.there) (p.1 ∙ ap Err p.2)
    (move_not_granted content w v.shows c.args.cred.now c.args.paths.from.now c.args.paths.to.now c.args.removal.now
    c.args.arrival.now (c.requires.removal w v) (c.requires.arrival w v) (apart g k) c.component-at.result
    (seat g k)
    c.component.result c.component.ensures (c.in_ok-there.ensures.judge w v).0
    (c.in_ok-judge_apart.ensures.apart w (still c.judge_there.ensures.state v)) c.in_err-may_move.field-0.0
    c.in_err-may_move.ensures)

pub returns-clause-judge : goal.returns-clause-judge
returns-clause-judge g c w v =
    let k = (goal.at.returns-clause-judge g c).After-component-at in
    let content = (g.F.FileStore.state c.args.store.now).content in
    let n = c.args.removal.now.file.number in
    let judge = c.in_ok-there.ensures.judge w v in (
      move_granted content w v.shows c.args.cred.now c.args.paths.from.now c.args.paths.to.now c.args.removal.now c.args.arrival.now
          (c.requires.removal w v) (c.requires.arrival w v) (apart g k) c.component-at.result (seat g k)
          c.component.result c.component.ensures judge.0
          (c.in_ok-judge_apart.ensures.apart w (still c.judge_there.ensures.state v)) c.in_ok-may_move.ensures,
      elim c.match-there.branch [
        | in-None b ↦ subst (IsFound content n c.args.arrival.now.there) (sym b.result-is)
            (target_free content n c.args.arrival.now.there
            (subst (λ o. MatchOption o (c.args.arrival.now.there ≡ None)
            (λ row. (Some row.number ≡ c.args.arrival.now.there)
            × (Some row.attrs ≡ shown_attrs content row.number))) b.in-None.is judge.1))
        | in-Some b ↦
            let h = subst (λ o. MatchOption o (c.args.arrival.now.there ≡ None)
            (λ row. (Some row.number ≡ c.args.arrival.now.there)
            × (Some row.attrs ≡ shown_attrs content row.number))) b.in-Some.is judge.1 in
            subst (IsFound content n c.args.arrival.now.there) (sym b.result-is)
            (target_taken content n c.args.arrival.now.there b.in-Some.row (apart g k) h.0 h.1)
      ],
    )
