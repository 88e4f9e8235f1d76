-- What is handed to a thread of a session or of the cleaner may go there: `server_send` for `start_client`,
-- `locked_sync` and `closure_send` for `start` and `start_cleaner`. A value may go to a thread where all its fields
-- may, and a closure where all that it captured may. A volume may where its store may (lfs_volume), so behind a lock
-- all threads may share it; a server has references to what threads may share, and a button of its own.
use mathlib.Core.List.{List}
use Prim.Native.Nat.{ℕ}
use mir.Syntax.{Sym, Ty}
use denote.Exit.{Kept}
use denote.RattleType.{RattleType}
use denote.Param.{arg, param}
use denote.Param.Send.{AllSend, IsSend, IsSync, arg_send, param_send, recorded_send, recorded_send_at, recorded_send_of}
use denote.Param.Send.{SendAt, sendable, shr_send, struct_send, struct_send_at, view_send}
use denote.Ref.{NamedLft}
use denote.Struct.Declared as declared
use denote.Struct.Tuple.{TupleAt, field_at, type_at}
use Rattle.std.proofs.Crossing.{crosses}
use Rattle.std.specs.contracts.sync.Mutex.{the_row as mutex_row}
use Rattle.lfs_types.specs.declared.store.FileStore.{Ghosts}
use Rattle.lfs_volume.proofs.Crossing.{volume_send}
use Rattle.lfs_server.specs.contracts.kept.Kept.{the_row}
use Rattle.lfs_server.specs.contracts.kept.Kept.TheInside.{the_field, the_type}
use Rattle.lfs_server.specs.declared.kept.Sizes.{Ghosts as Sizes}
use Rattle.lfs_server.specs.contracts.live_server.Server as server
use Rattle.lfs_server.specs.contracts.live_server.Told.{the_row as told_row}
use Rattle.lfs_server.specs.contracts.run.Run.{the_row as run_row}
use Rattle.lfs_server.proofs.doorbell.Button.TheSendSync as button
use Rattle.lfs_server.specs.contracts.doorbell.Button.{the_field as button_field, the_type as button_type}
use Rattle.lfs_server.proofs.live_server.Told.TheSendSync as told
use Rattle.lfs_server.proofs.run.Run.TheSendSync as run

-- a volume of these sizes, where its store may
kept_send : (S F : RattleType) (s : Sizes S.Denot F.Denot) (g : Ghosts F.Denot) → IsSend S → IsSend F
    → IsSend (the_row S F s g)
kept_send S F s g a b =
    let T = the_type S F s g in
    let all : AllSend (declared.fields T) = (volume_send F g b, (search (sendable, crosses), tt)) in
    view_send _ _ _ _ _ (recorded_send (the_field S F s g).row _ _ T.to_one (struct_send (declared.shape T) all))

-- all threads may share it behind its lock
pub locked_sync : (S F : RattleType) (s : Sizes S.Denot F.Denot) (g : Ghosts F.Denot) → IsSend S → IsSend F
    → IsSync (mutex_row (the_row S F s g))
locked_sync S F s g a b =
    let keeps : IsSend (the_row S F s g) = kept_send S F s g a b in search (crosses, keeps)

-- a closure may go where all that it captures may
pub closure_send : (i : ℕ) (δ : Ty) (k : Kept) (ν : Sym) (Rs : List RattleType)
    → AllSend (declared.fields (type_at ν Rs)) → IsSend (param i (arg δ k (TupleAt ν Rs)))
closure_send i δ k ν Rs all =
    let T = type_at ν Rs in
    param_send i (arg δ k (TupleAt ν Rs)) (arg_send δ k (TupleAt ν Rs)
    (recorded_send (field_at ν Rs).row _ _ T.to_one (struct_send (declared.shape T) all)))

-- what holds of a type's values holds of each
send_at : (R : RattleType) → IsSend R → (x : R.Denot) → SendAt R x
send_at R goes x = (goes.owned x, λ k. goes.leaving k x)

-- a server of a client may go to a thread
pub server_send : (a : NamedLft) (S R F G : RattleType) (s : Sizes S.Denot F.Denot) (g : Ghosts F.Denot) → IsSend S
    → IsSync R → IsSend F → IsSync G → IsSend (server.the_row a S R F G s g)
server_send a S R F G s g send_S sync_R send_F sync_G =
    let T = server.the_type a S R F G s g in
    let runs : IsSync (run_row a R G) = search (sendable, run.the_sync, sync_R, sync_G) in
    let locked = locked_sync S F s g send_S send_F in
    let tells : IsSync (mutex_row told_row) = search (sendable, crosses, told.the_send) in
    recorded_send_of (server.the_field a S R F G s g).row _ _ T.to_one
    (λ d. struct_send_at (declared.shape T) (T.to d) (
      send_at _ (shr_send a.mir a.lft _ runs) d.run,
      (
        send_at _ (shr_send a.mir a.lft _ locked) _,
        (
          send_at _ (shr_send a.mir a.lft _ tells) _,
          (recorded_send_at (button_field).row _ _ button_type.to_one button.the_send d.button, tt),
        ),
      ),
    ))
