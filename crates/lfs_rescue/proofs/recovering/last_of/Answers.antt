use Rattle.std.proofs.Common.{◌≡◌, ◌+◌, ◌++◌, ◌∷◌, [], suc, ℕ, List, Some, get_or, take, sym, ap, subst, ◌∙◌, arith}
use Rattle.std.proofs.Math.Seq.{take-suc}
use Rattle.std.proofs.lemmas.List.{take_all}
use Rattle.lfs_recovery.specs.declared.places.PartialSegment.{PartialSegment}
use Rattle.lfs_rescue.specs.Recovering.{IsLastOf}
use Rattle.lfs_rescue.proofs.RecoverLemmas.{last_more, last_none}
use Rattle.lfs_rescue.proofs.recovering.last_of.Goals as goal

pub loop-index-init : goal.loop-index-init
loop-index-init c = last_none

pub loop-index-preserved : goal.loop-index-preserved
loop-index-preserved c =
    let l = c.loop-index in
    let ps = c.args.partials.now in
    let p : PartialSegment = get_or ps l.index (record { serial = 0; address = 0; count = 0 }) in
    let one : l.index + 1 ≡ suc l.index = omega arith in
    let more : take (l.index + 1) ps ≡ take l.index ps ++ p ∷ [] =
    ap (λ (n : ℕ). take n ps) one ∙ take-suc ps l.index (record { serial = 0; address = 0; count = 0 }) c.loop-index-test.true in
    subst (λ (xs : List PartialSegment). IsLastOf xs (Some c.later.result)) (sym more)
    (subst (λ (q : PartialSegment). IsLastOf (take l.index ps ++ p ∷ []) (Some q)) (sym c.later.ensures)
    (last_more (take l.index ps) l.last p l.invariant))

pub returns : goal.returns
returns c =
    let l = c.loop-index in
    subst (λ (xs : List PartialSegment). IsLastOf xs l.last) (take_all l.index c.args.partials.now (omega arith)) l.invariant
