use Rattle.std.proofs.Common.{◌≡◌, ◌-◌, List, ℕ, length, take, drop, sym, ap, ◌∙◌, arith}
use Rattle.std.proofs.Math.Seq.{take-append_seam}
use Rattle.std.proofs.lemmas.Slice.Eq.{bytes_eq-Decides}
use Rattle.lfs_types.specs.Stored.{bytes_of, slice_of}
use Rattle.lfs_trace.proofs.PieceLemmas.{piece_is}
use Rattle.lfs_trace.proofs.alike.has_piece.Goals as goal

pub returns-clause-same : goal.returns-clause-same
returns-clause-same g c =
    let theirs = slice_of (bytes_of (g.F.FileStore.state c.args.store.now).content c.args.number) c.args.off 4096 in
    let into = c.read-count.new.into in
    let reads = c.read-count.ensures.reads in
    let left : take c.read-count.result into ≡ theirs = ap (λ n. take n into) reads.counted
    ∙ ap (λ (bs : List ℕ). take (length theirs) bs) reads.filled ∙ take-append_seam theirs _ in
    let right : take (c.min-end.result - c.args.off) (drop c.args.off c.args.bytes.now)
    ≡ slice_of c.args.bytes.now c.args.off 4096 = piece_is c.args.bytes.now c.args.off
    c.min-end.result c.requires.within (λ h. omega (arith, h, c.min-end.ensures))
    (λ h. omega (arith, h, c.min-end.ensures)) in
    let decides = bytes_eq-Decides (take c.read-count.result into)
    (take (c.min-end.result - c.args.off) (drop c.args.off c.args.bytes.now)) in (
      λ t. sym left ∙ decides.0 (sym c.eq.ensures ∙ t) ∙ right,
      λ e. c.eq.ensures ∙ decides.1 (left ∙ e ∙ sym right),
    )
