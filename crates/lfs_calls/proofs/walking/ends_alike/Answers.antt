use Rattle.std.proofs.Common.{◌≡◌, ◌+◌, drop, [], Some, sym, subst, ◌∙◌, arith}
use Rattle.std.proofs.lemmas.List.{drop_all}
use Rattle.lfs_model.proofs.WalkLemmas.{names_left}
use Rattle.lfs_calls.proofs.AlikeLemmas.{GoesAlike, ended_alike, goes_alike}
use Rattle.lfs_calls.proofs.walking.ends_alike.Goals as goal

pub returns-then-at-names : goal.returns-then-at-names
returns-then-at-names g c is w v =
    let l = c.loop-at in
    let uid = c.args.uid in
    let names = c.args.names.now in
    let none : drop (l.at + 1) names ≡ [] = drop_all (l.at + 1) names (omega arith) in
    l.invariant w v (subst (GoesAlike w.rows uid l.at l.dir)
    (sym (names_left names l.at c.index-names-at.result c.loop-at-test.true c.index-names-at.is))
    (goes_alike (g.F.FileStore.state c.args.store.now).content w v.shows uid l.at l.dir c.index-names-at.result
    (drop (l.at + 1) names) c.in-Some.attrs c.in-Some.ensures (c.grants_alike.ensures.alike c.if-not-grants_alike.false)
    (λ n leads. subst (GoesAlike w.rows uid (l.at + 1) n) (sym none) (ended_alike w.rows uid (l.at + 1) n))))

pub loop-at-preserved : goal.loop-at-preserved
loop-at-preserved g c w v rest =
    let l = c.loop-at in
    let uid = c.args.uid in
    let names = c.args.names.now in
    l.invariant w v (subst (GoesAlike w.rows uid l.at l.dir)
    (sym (names_left names l.at c.index-names-at.result c.loop-at-test.true c.index-names-at.is))
    (goes_alike (g.F.FileStore.state c.args.store.now).content w v.shows uid l.at l.dir c.index-names-at.result
    (drop (l.at + 1) names) c.in-Some.attrs c.in-Some.ensures (c.grants_alike.ensures.alike c.if-not-grants_alike.false)
    (λ n leads. let same : Some c.in-Some-Some.next ≡ Some n =
    sym (c.in-Some-Some.ensures.hangs w v ∙ c.in-Some-Some.field-0-is) ∙ leads in
    let here : c.in-Some-Some.next ≡ n = cc in
    subst (λ m. GoesAlike w.rows uid (l.at + 1) m (drop (l.at + 1) names)) here rest)))

pub returns : goal.returns
returns g c is w v =
    let l = c.loop-at in
    let none : drop l.at c.args.names.now ≡ [] = drop_all l.at c.args.names.now (omega arith) in
    l.invariant w v (subst (GoesAlike w.rows c.args.uid l.at l.dir) (sym none)
    (ended_alike w.rows c.args.uid l.at l.dir))
