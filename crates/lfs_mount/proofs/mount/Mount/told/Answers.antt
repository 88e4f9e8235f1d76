use Rattle.std.proofs.Common.{subst, sym, refl}
use Rattle.std.specs.Prelude.{IfSome, IsSome}
use Rattle.lfs_fuse_wire.specs.Views.{view}
use Rattle.lfs_mount.specs.Forgetting.{IsForgetting}
use Rattle.lfs_mount.specs.Moving.{NodesBehind}
use Rattle.lfs_mount.specs.Trees.{StayTrue}
use Rattle.lfs_mount.proofs.ForgettingLemmas.{plain_forgets}
use Rattle.lfs_mount.proofs.mount.Mount.told.Goals as goal

pub returns-in-None-clause-stay : goal.returns-in-None-clause-stay
returns-in-None-clause-stay g c =
    let last = c.called.new.self in
    subst (λ m. StayTrue g.F.FileStore.state m.tree.volume m.tree.nodes last.tree.volume last.tree.nodes)
    (c.kept_told.ensures.none c.in-None.is) c.called.ensures.stay

pub returns-in-Some-clause-stay : goal.returns-in-Some-clause-stay
returns-in-Some-clause-stay g c =
    let was = c.args.self.now in
    subst (λ t. StayTrue g.F.FileStore.state was.tree.volume was.tree.nodes t.volume t.nodes)
    (sym c.kept_told.ensures.tree) (λ are. are)

pub returns-in-None-clause-forgets : goal.returns-in-None-clause-forgets
returns-in-None-clause-forgets g c =
    let last = c.called.new.self in
    subst (λ m. IsForgetting (view c.args.message.now) c.args.head.now.node m.tree.nodes last.tree.nodes)
    (c.kept_told.ensures.none c.in-None.is) c.called.ensures.forgets

pub returns-in-Some-clause-forgets : goal.returns-in-Some-clause-forgets
returns-in-Some-clause-forgets g c =
    plain_forgets (view c.args.message.now) c.args.head.now.node c.args.self.now.tree.nodes c.kept_told.new.self.tree.nodes
    (c.kept_told.ensures.plain (subst (λ o. IsSome o) (sym c.in-Some.is) refl))

pub returns-in-None-clause-behind : goal.returns-in-None-clause-behind
returns-in-None-clause-behind g c =
    let last = c.called.new.self in
    subst (λ m. NodesBehind (view c.args.message.now) c.args.head.now.node c.called.result m.tree.nodes last.tree.nodes)
    (c.kept_told.ensures.none c.in-None.is) c.called.ensures.behind

pub returns-in-Some-clause-behind : goal.returns-in-Some-clause-behind
returns-in-Some-clause-behind g c =
    subst (λ o. IfSome o (λ told. NodesBehind (view c.args.message.now) c.args.head.now.node told c.args.self.now.tree.nodes
    c.kept_told.new.self.tree.nodes)) c.in-Some.is c.kept_told.ensures.behind
