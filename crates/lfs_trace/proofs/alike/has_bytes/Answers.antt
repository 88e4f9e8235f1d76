use Rattle.std.proofs.Common.{◌*◌, sym, ap, ◌∙◌}
use Rattle.lfs_types.specs.StoreStates.{StoreState}
use Rattle.lfs_types.specs.Stored.{bytes_of, slice_of}
use Rattle.lfs_trace.proofs.PieceLemmas.{more_pieces}
use Rattle.lfs_trace.proofs.alike.has_bytes.Goals as goal

pub loop-piece-preserved : goal.loop-piece-preserved
loop-piece-preserved g c =
    let number = c.args.number in
    let k = c.loop-piece.piece in
    let theirs = bytes_of (g.F.FileStore.state c.args.store.now).content number in
    record {
      same = more_pieces theirs c.args.bytes.now k c.loop-piece.invariant.same
          (sym (ap (λ (s : StoreState). slice_of (bytes_of s.content number) (k * 4096) 4096)
          c.loop-piece.invariant.state) ∙ c.has_piece.ensures.same.0 c.if-not-has_piece.false);
      state = c.has_piece.ensures.state ∙ c.loop-piece.invariant.state;
    }
