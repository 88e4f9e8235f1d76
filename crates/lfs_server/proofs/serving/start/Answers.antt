use mathlib.Core.List.{List}
use mir.Syntax.{named}
use denote.RattleType.{RattleType}
use denote.Exit.{no}
use denote.Ref.{NamedLft}
use denote.Param.{param}
use denote.Param.Send.{AllSend, IsSync, sendable, shr_send}
use Rattle.std.proofs.Crossing.{crosses}
use Rattle.lfs_server.specs.contracts.run.Run.{the_row as run_row}
use Rattle.lfs_server.proofs.run.Run.TheSendSync as run
use Rattle.lfs_server.proofs.session.Session.TheSendSync as session
use Rattle.lfs_server.proofs.Crossing.{closure_send, locked_sync}
use Rattle.lfs_server.proofs.serving.start.Lts as types
use Rattle.lfs_server.proofs.serving.start.Goals as goal

pub spawn-thread-requires-send-F : goal.spawn-thread-requires-send-F
spawn-thread-requires-send-F g c κs within =
    let bounds = c.type_bounds in
    let a : NamedLft = record { mir = named 5; lft = κs.1.1.1.1.1.0 } in
    let b : NamedLft = record { mir = named 6; lft = κs.1.1.1.1.1.1.0 } in
    let d : NamedLft = record { mir = named 7; lft = κs.1.1.1.1.1.1.1.0 } in
    let e : NamedLft = record { mir = named 8; lft = κs.1.1.1.1.1.1.1.1.0 } in
    let captured : List RattleType = types.of-14 g.row.E g.row.S g.row.R g.row.F g.row.G g.E.laws g.S.laws g.R.laws
    g.F.laws g.G.laws g.S.Sizes g.S.Sizes-dict g.R.Threads g.R.Threads-dict g.R.Wait g.R.Wait-dict
    g.F.CleanedStore g.F.CleanedStore-dict g.F.FileStore g.F.FileStore-dict g.G.Gate g.G.Gate-dict g.F.Destruct-dict a b
    d e in
    let runs : IsSync (run_row b (param 2 g.row.R) (param 4 g.row.G)) =
    search (sendable, run.the_sync, bounds.sync-R, bounds.sync-G) in
    let locked = locked_sync (param 1 g.row.S) (param 3 g.row.F) g.S.Sizes g.F.FileStore bounds.send-S bounds.send-F in
    let all : AllSend captured = (
      shr_send _ _ _ runs,
      (shr_send _ _ _ locked, (search (sendable, crosses, session.the_send), tt)),
    ) in
    closure_send 1 _ no _ captured all
