use mathlib.Core.List.{List, [], ◌∷◌}
use mir.Syntax.{named}
use denote.RattleType.{RattleType}
use denote.Exit.{no}
use denote.Ref.{NamedLft}
use denote.Param.{param}
use denote.Param.Send.{AllSend}
use Rattle.lfs_server.specs.contracts.live_server.Server as server
use Rattle.lfs_server.proofs.Crossing.{closure_send, server_send}
use Rattle.lfs_server.proofs.running.start_client.Goals as goal

pub spawn-requires-send-F : goal.spawn-requires-send-F
spawn-requires-send-F g c κs within =
    let bounds = c.type_bounds in
    let a : NamedLft = record { mir = named 5; lft = κs.1.1.1.1.1.0 } in
    let S = param 1 g.row.S in
    let R = param 2 g.row.R in
    let F = param 3 g.row.F in
    let G = param 5 g.row.G in
    let captured : List RattleType = server.the_row a S R F G g.S.Sizes g.F.FileStore ∷ param 4 g.row.C ∷ [] in
    let all : AllSend captured = (
      server_send a S R F G g.S.Sizes g.F.FileStore bounds.send-S bounds.sync-R
          bounds.send-F bounds.sync-G,
      (bounds.send-C, tt),
    ) in
    closure_send 1 _ no _ captured all
