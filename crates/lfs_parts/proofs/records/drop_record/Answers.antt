use Rattle.std.proofs.Common.{◌≡◌, ◌<◌, Some, get_or, length, sym, ap, ◌∙◌, subst, arith}
use Rattle.std.specs.List.{remove}
use Rattle.std.specs.Option.{OnSome}
use Rattle.std.proofs.lemmas.List.{get_or_default}
use Rattle.lfs_inodes.specs.declared.inode.Inode.{Inode}
use Rattle.lfs_parts.specs.Waiting.{without}
use Rattle.lfs_parts.proofs.WaitingLemmas.{without-at, without-none}
use Rattle.lfs_parts.proofs.records.drop_record.Goals as goal

pub returns-then-index-number-clause-items : goal.returns-then-index-number-clause-items
returns-then-index-number-clause-items c =
    let vs = c.loop-place.records in
    let inside : c.loop-place.place < length vs.items
    = let long = vs.ok.0 in let test = c.loop-place-test.true in let whole =
    ap (λ v. v.len) c.loop-place.invariant.same in omega (arith, c.len-place-end.ensures) in
    let here : (d : Inode) → (get_or vs.items c.loop-place.place d).number ≡ c.args.number
    = λ d. ap (λ (v : Inode). v.number) (get_or_default vs.items c.loop-place.place d c.index.result.now inside
    ∙ sym c.index.ensures) ∙ c.if-index-number.true in
    let v = c.index.result.now in
    let gone : c.remove-dropped.result ≡ Some (get_or vs.items c.loop-place.place v) =
    c.remove-dropped.ensures.succeeds v (let long = vs.ok.0 in omega arith) in
    subst (λ o. OnSome o (c.remove-dropped.new.self.items ≡ remove vs.items c.loop-place.place)) gone
    c.remove-dropped.ensures.items ∙ without-at vs.items c.loop-place.place c.args.number inside
    c.loop-place.invariant.others here
    ∙ ap (λ v. without c.args.number v.items) c.loop-place.invariant.same

pub returns-clause-items : goal.returns-clause-items
returns-clause-items c =
    let vs = c.loop-place.records in
    sym (without-none vs.items c.args.number
    (λ k d low. c.loop-place.invariant.others k d
    (let long = vs.ok.0 in let test = c.loop-place-test.false in let whole =
    ap (λ v. v.len) c.loop-place.invariant.same in omega (arith, c.len-place-end.ensures))))
    ∙ ap (λ v. without c.args.number v.items) c.loop-place.invariant.same
