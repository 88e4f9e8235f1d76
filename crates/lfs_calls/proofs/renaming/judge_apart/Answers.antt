use Rattle.std.proofs.Common.{◌≤◌, ℕ, List, [], ◌∷◌, length, sym, ap, subst, ◌∙◌, arith, length-append}
use Rattle.std.proofs.lemmas.Bool.{ne_eqb}
use Rattle.lfs_types.specs.Tree.{root}
use Rattle.lfs_model.specs.Rules.{front, last, reached}
use Rattle.lfs_model.specs.Walks.{walked}
use Rattle.lfs_model.proofs.Allowed.{may_arrive, split_last}
use Rattle.lfs_calls.proofs.MoveJudging.{apart_met, file_apart, way_judged}
use Rattle.lfs_calls.proofs.renaming.judge_apart.Goals as goal

pub returns-then-not-is_directory-clause-apart : goal.returns-then-not-is_directory-clause-apart
returns-then-not-is_directory-clause-apart g c w v =
    apart_met w c.args.file.now.number c.args.to.now
    (file_apart (g.F.FileStore.state c.args.store.now).content w v.shows v.tree c.args.cred.now c.args.to.now
    (c.requires.made w v) c.args.file.now.number c.args.file.now.attrs c.requires.shown
    (sym c.if-not-is_directory.ensures))

pub judge_way-requires-clause-short : goal.judge_way-requires-clause-short
judge_way-requires-clause-short g c =
    let some = c.requires.some in
    let most = c.requires.short in
    let halves = split_last c.args.to.now (ne_eqb (length c.args.to.now) 0 (λ z. absurd (omega (arith, some)))) in
    let long = ap (λ (l : List (List ℕ)). length l) halves in
    let more = length-append (front c.args.to.now) (last c.args.to.now ∷ []) in
    let few : length (front c.args.to.now) ≤ 1024 = omega (arith, most, long, more) in
    subst (λ (l : List (List ℕ)). length l ≤ 1024) (sym c.parents_of.ensures.names) few

pub judge_way-requires-clause-leads : goal.judge_way-requires-clause-leads
judge_way-requires-clause-leads g c w v =
    let may = may_arrive w.rows v.tree c.args.cred.now c.args.to.now (c.requires.made w v) in (
      reached w.rows root (front c.args.to.now),
      ap (walked w.rows c.args.cred.now 1 0 root) c.parents_of.ensures.names
          ∙ may.way,
    )

pub returns-clause-apart : goal.returns-clause-apart
returns-clause-apart g c w v =
    way_judged c.args.file.now.number c.args.to.now c.parents_of.result.now c.parents_of.ensures.names
    c.judge_way.result c.judge_way.ensures.apart c.judge_way.ensures.beneath w v

pub judge_way-requires-clause-world : goal.judge_way-requires-clause-world
judge_way-requires-clause-world g c = c.requires.world

pub returns-clause-state : goal.returns-clause-state
returns-clause-state g c = c.judge_way.ensures.state
