use Rattle.std.proofs.Common.{◌≡◌, None, Err, sym, ap, subst, ◌∙◌}
use Rattle.std.proofs.lemmas.Result.{err_from_is_err_and}
use Rattle.lfs_types.specs.Tree.{World, Content}
use Rattle.lfs_types.specs.declared.request.Request.TheVariants.{Rename}
use Rattle.lfs_model.specs.World.{child}
use Rattle.lfs_model.specs.Rules.{arriving, decide, first_failing, last, moving_tests, removing, rule_table}
use Rattle.lfs_calls.specs.Arrivals.{IsArrival}
use Rattle.lfs_calls.specs.Removes.{IsRemoval}
use Rattle.lfs_calls.specs.Renames.{IsMove, IsTarget}
use Rattle.lfs_calls.specs.Volumes.{IsVolume}
use Rattle.lfs_calls.proofs.AskLemmas.{denies}
use Rattle.lfs_calls.proofs.CallLemmas.{still}
use Rattle.lfs_calls.proofs.RenameLemmas.{rename_kept, rename_not_arrived, to_moving}
use Rattle.lfs_calls.proofs.StateLemmas.{same_content}
use Rattle.lfs_calls.proofs.renaming.judge_rename.Goals as goal
use Rattle.lfs_calls.proofs.renaming.judge_rename.Goals.{In_ok-removal, In_ok-arrival}

-- the content before, as the store has it at the call
abbrev before : (g : _) (c : In_ok-removal g) → Content
before g c = (g.F.FileStore.state c.args.store.now).content

removes : (g : _) (c : In_ok-removal g) (w : World) → IsVolume (g.F.FileStore.state c.args.store.now) w
    → (first_failing (removing w.rows c.args.cred.now c.args.from.now) ≡ None)
    × IsRemoval (before g c) w.rows c.args.from.now c.in_ok-removal.removal
removes g c w v = c.in_ok-removal.ensures.judge w v

arrives : (g : _) (c : In_ok-arrival g) (w : World) → IsVolume (g.F.FileStore.state c.args.store.now) w
    → (first_failing (arriving w.rows c.args.cred.now c.args.to.now) ≡ None)
    × IsArrival (g.F.FileStore.state c.args.store.now).content w.rows c.args.to.now c.in_ok-arrival.arrival
arrives g c w v =
    let is = c.in_ok-arrival.ensures.judge w (still c.judge_remove.ensures.state v) in (
      is.0,
      subst (λ x. IsArrival x w.rows c.args.to.now c.in_ok-arrival.arrival)
          (same_content c.judge_remove.ensures.state) is.1,
    )

-- the tests of the place decide, by what has the name there
asked : (g : _) (k : In_ok-removal g) (c : In_ok-arrival g) (w : World)
    → IsVolume (g.F.FileStore.state c.args.store.now) w
    → first_failing (removing w.rows c.args.cred.now c.args.from.now) ≡ None
    → decide w c.args.cred.now (Rename c.args.from.now c.args.to.now)
    ≡ first_failing (moving_tests w.rows c.args.cred.now c.args.from.now c.args.to.now
    c.in_ok-arrival.arrival.there)
asked g k c w v out =
    let into = arrives g c w v in
    to_moving w c.args.cred.now c.args.from.now c.args.to.now out into.0
    ∙ ap (λ o. first_failing (moving_tests w.rows c.args.cred.now c.args.from.now c.args.to.now o))
    (ap (λ d. child w.rows d (last c.args.to.now)) into.1.object ∙ into.1.there)

pub returns-in_err-removal-clause-judge : goal.returns-in_err-removal-clause-judge
returns-in_err-removal-clause-judge g c w v =
    let p = err_from_is_err_and c.from_residual.result c.from_residual.ensures.1 in
    denies (rule_table w c.args.cred.now (Rename c.args.from.now c.args.to.now))
    (IsMove (g.F.FileStore.state c.args.store.now).content w.rows c.args.from.now c.args.to.now) (p.1 ∙ ap Err p.2)
    (rename_kept w c.args.cred.now c.args.from.now c.args.to.now c.in_err-removal.field-0.0
    (c.in_err-removal.ensures.judge w v))

pub judge_arrival-requires-clause-world : goal.judge_arrival-requires-clause-world
judge_arrival-requires-clause-world g c = let t = c.requires.world in (t.0, still c.judge_remove.ensures.state t.1)

pub returns-in_err-arrival-clause-judge : goal.returns-in_err-arrival-clause-judge
returns-in_err-arrival-clause-judge g c w v =
    let k = (goal.at.returns-in_err-arrival-clause-judge g c).In_ok-removal in
    let p = err_from_is_err_and c.from_residual-in_err-arrival.result c.from_residual-in_err-arrival.ensures.1 in
    denies (rule_table w c.args.cred.now (Rename c.args.from.now c.args.to.now))
    (IsMove (g.F.FileStore.state c.args.store.now).content w.rows c.args.from.now c.args.to.now) (p.1 ∙ ap Err p.2)
    (rename_not_arrived w c.args.cred.now c.args.from.now c.args.to.now (removes g k w v).0 c.in_err-arrival.field-0.0
    (c.in_err-arrival.ensures.judge w (still c.judge_remove.ensures.state v)))

pub judge_target-requires-clause-world : goal.judge_target-requires-clause-world
judge_target-requires-clause-world g c = let t = c.requires.world in
    (t.0, still (c.judge_arrival.ensures.state ∙ c.judge_remove.ensures.state) t.1)

pub judge_target-requires-clause-removal : goal.judge_target-requires-clause-removal
judge_target-requires-clause-removal g c w v =
    let k = (goal.at.judge_target-requires-clause-removal g c).In_ok-removal in
    let same = c.judge_arrival.ensures.state ∙ c.judge_remove.ensures.state in
    subst (λ x. IsRemoval x w.rows c.args.from.now c.in_ok-removal.removal) (sym (same_content same))
    (removes g k w (still (sym same) v)).1

pub judge_target-requires-clause-arrival : goal.judge_target-requires-clause-arrival
judge_target-requires-clause-arrival g c w v =
    let k = (goal.at.judge_target-requires-clause-arrival g c).In_ok-arrival in
    let same = c.judge_arrival.ensures.state ∙ c.judge_remove.ensures.state in
    subst (λ x. IsArrival x w.rows c.args.to.now c.in_ok-arrival.arrival) (sym (same_content same))
    (arrives g k w (still (sym same) v)).1

pub judge_target-requires-clause-arrived : goal.judge_target-requires-clause-arrived
judge_target-requires-clause-arrived g c w v =
    let k = (goal.at.judge_target-requires-clause-arrived g c).In_ok-arrival in
    (arrives g k w (still (sym (c.judge_arrival.ensures.state ∙ c.judge_remove.ensures.state)) v)).0

pub returns-in_err-target-clause-judge : goal.returns-in_err-target-clause-judge
returns-in_err-target-clause-judge g c w v =
    let at = goal.at.returns-in_err-target-clause-judge g c in
    let p = err_from_is_err_and c.from_residual-in_err-target.result c.from_residual-in_err-target.ensures.1 in
    denies (rule_table w c.args.cred.now (Rename c.args.from.now c.args.to.now))
    (IsMove (g.F.FileStore.state c.args.store.now).content w.rows c.args.from.now c.args.to.now) (p.1 ∙ ap Err p.2)
    (asked g at.In_ok-removal at.In_ok-arrival w v (removes g at.In_ok-removal w v).0
    ∙ c.in_err-target.ensures.judge w (still (c.judge_arrival.ensures.state ∙ c.judge_remove.ensures.state) v))

pub returns-clause-judge : goal.returns-clause-judge
returns-clause-judge g c w v =
    let at = goal.at.returns-clause-judge g c in
    let same = c.judge_arrival.ensures.state ∙ c.judge_remove.ensures.state in
    let out = removes g at.In_ok-removal w v in
    let into = (arrives g at.In_ok-arrival w v).1 in
    let target = c.in_ok-target.ensures.judge w (still same v) in (
      asked g at.In_ok-removal at.In_ok-arrival w v out.0 ∙ target.0,
      record {
        removal = out.1;
        arrival = record {
          some = into.some;
          object = into.object;
          shown = into.shown;
          directory = into.directory;
          there = into.there ∙ sym target.1.0;
        };
        target = subst (λ x. IsTarget x c.in_ok-removal.removal.file.number c.in_ok-target.target)
            (same_content same) target.1.1;
      },
    )
