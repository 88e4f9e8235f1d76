use Rattle.std.proofs.Common.{◌≡◌, ◌<◌, Some, get_or, length, sym, ap, ◌∙◌, arith}
use Rattle.std.proofs.lemmas.List.{get_or_default}
use Rattle.lfs_inodes.specs.declared.inode.Inode.{Inode}
use Rattle.lfs_parts.proofs.WaitingLemmas.{waiting-at, waiting-none}
use Rattle.lfs_parts.proofs.records.find_record.Goals as goal

pub returns-then-index-number : goal.returns-then-index-number
returns-then-index-number c =
    let vs = c.args.records.now in let place = c.loop-place.place in let d = c.index.result.now in
    let inside : place < length vs.items = let long = vs.ok.0 in let test = c.loop-place-test.true in
    omega (arith, c.len-place-end.ensures) in
    let here : (get_or vs.items place d).number ≡ c.args.number
    = ap (λ (v : Inode). v.number) (sym c.index.ensures) ∙ c.if-index-number.true in
    ap Some (c.index-then-index-number.ensures ∙ get_or_default vs.items place c.index-then-index-number.result.now d inside)
    ∙ sym (waiting-at vs.items place c.args.number d inside c.loop-place.invariant here)

pub returns : goal.returns
returns c =
    let vs = c.args.records.now in
    sym (waiting-none vs.items c.args.number (λ k d low. c.loop-place.invariant k d
    (let long = vs.ok.0 in let test = c.loop-place-test.false in omega (arith, c.len-place-end.ensures))))
