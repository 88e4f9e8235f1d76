use Rattle.std.proofs.Common.{arith, ◌≡◌, ◌<◌, ◌++◌, ap, length}
use Rattle.std.proofs.lemmas.Grind.{common_steps}
use Rattle.lfs_model.specs.Steps.{world_after}
use Rattle.lfs_mount.specs.Leaving.{IsPiece}
use Rattle.std.proofs.lemmas.Result.{err_from_is_err_and}
use Rattle.lfs_mount.proofs.LookedForLemmas.{unseen_before}
use Rattle.lfs_mount.proofs.LookedLemmas.{before_look, looked_again}
use Rattle.lfs_mount.proofs.PartLemmas.{read_last, read_on, room_lacks}
use Rattle.lfs_mount.proofs.leaving.all_shown.Goals as goal

pub returns-then-as_slice-lt-PIECE-clause-bytes : goal.returns-then-as_slice-lt-PIECE-clause-bytes
returns-then-as_slice-lt-PIECE-clause-bytes g c =
    let state = g.F.FileStore.state in
    let old = c.args.volume.now in
    let bytes = c.loop-volume.bytes.items in
    let piece = c.in_ok-piece.piece in
    let off = c.len-in-loop-volume.result in
    let who = c.args.cred.now in
    let path = c.args.path.now in
    let at = before_look state (λ w. IsPiece w who path off piece) old c.loop-volume.volume
    c.loop-volume.invariant.looked c.in_ok-piece.ensures.bytes in
    let short : length piece < 4096 =
    omega (arith, c.if-as_slice-lt-PIECE.true, ap length c.as_slice-in-loop-volume.ensures) in
    let grown : c.extend_from_slice.new.self.items ≡ bytes ++ piece = grind (arith, common_steps) in
    λ from begins. read_last (world_after (state old.store).shape.numbers old.journal from) who path bytes piece
    c.extend_from_slice.new.self.items off (at from begins) (omega (arith, c.len-in-loop-volume.ensures, c.loop-volume.bytes.ok.0))
    (c.loop-volume.invariant.part from begins) short
    grown

pub returns-then-len-most-clause-lacks : goal.returns-then-len-most-clause-lacks
returns-then-len-most-clause-lacks g c =
    let state = g.F.FileStore.state in
    let old = c.args.volume.now in
    let bytes = c.loop-volume.bytes.items in
    let piece = c.in_ok-piece.piece in
    let off = c.len-in-loop-volume.result in
    let who = c.args.cred.now in
    let path = c.args.path.now in
    let after = c.extend_from_slice.new.self.items in
    let at = before_look state (λ w. IsPiece w who path off piece) old c.loop-volume.volume
    c.loop-volume.invariant.looked c.in_ok-piece.ensures.bytes in
    let grown : after ≡ bytes ++ piece = grind (arith, common_steps) in
    let more : c.args.most < length after = omega arith in
    λ from begins. room_lacks (world_after (state old.store).shape.numbers old.journal from) path after c.args.most
    (read_on (world_after (state old.store).shape.numbers old.journal from) who path bytes piece after off
    (at from begins) (omega (arith, c.len-in-loop-volume.ensures, c.loop-volume.bytes.ok.0))
    (c.loop-volume.invariant.part from begins) grown) more

pub loop-volume-preserved : goal.loop-volume-preserved
loop-volume-preserved g c =
    let state = g.F.FileStore.state in
    let old = c.args.volume.now in
    let bytes = c.loop-volume.bytes.items in
    let piece = c.in_ok-piece.piece in
    let off = c.len-in-loop-volume.result in
    let who = c.args.cred.now in
    let path = c.args.path.now in
    let at = before_look state (λ w. IsPiece w who path off piece) old c.loop-volume.volume
    c.loop-volume.invariant.looked c.in_ok-piece.ensures.bytes in
    let grown : c.extend_from_slice.new.self.items ≡ bytes ++ piece = grind (arith, common_steps) in
    record {
      looked = looked_again state old c.loop-volume.volume c.piece_at.new.volume c.loop-volume.invariant.looked
          c.in_ok-piece.ensures.looked;
      part = λ from begins. read_on (world_after (state old.store).shape.numbers old.journal from) who path bytes
          piece c.extend_from_slice.new.self.items off (at from begins) (omega (arith, c.len-in-loop-volume.ensures, c.loop-volume.bytes.ok.0))
          (c.loop-volume.invariant.part from begins)
          grown;
    }

pub returns-clause-lacks : goal.returns-clause-lacks
returns-clause-lacks g c =
    let state = g.F.FileStore.state in
    let old = c.args.volume.now in
    let bytes = c.loop-volume.bytes.items in
    let more : c.args.most < length bytes = omega arith in
    λ from begins. room_lacks (world_after (state old.store).shape.numbers old.journal from) c.args.path.now bytes c.args.most
    (c.loop-volume.invariant.part from begins) more

pub returns-in_err-piece-clause-lacks : goal.returns-in_err-piece-clause-lacks
returns-in_err-piece-clause-lacks g c =
    let residual = c.from_residual in
    let exit = err_from_is_err_and residual.result residual.ensures.1 in
    rw (exit.1, exit.2) (unseen_before g.F.FileStore.state c.args.volume.now c.loop-volume.volume c.args.path.now
    c.args.most c.args.cred.now _ c.loop-volume.invariant.looked (c.in_err-piece.ensures.lacks c.args.most))
