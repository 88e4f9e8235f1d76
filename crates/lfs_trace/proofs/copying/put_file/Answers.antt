use Rattle.std.proofs.Common.{◌*◌, ◌≤◌, length, ap, ◌∙◌, arith}
use Rattle.std.specs.FinMap as map
use Rattle.std.proofs.lemmas.Grind.{div_ceil_times}
use Rattle.lfs_types.specs.StoreStates.{StoreState}
use Rattle.lfs_flatfiles.specs.FlatFiles.{content_of}
use Rattle.lfs_trace.proofs.CopyLemmas.{may_put, put_next, whole}
use Rattle.lfs_trace.proofs.copying.put_file.Goals as goal

pub copy_piece-requires-clause-file : goal.copy_piece-requires-clause-file
copy_piece-requires-clause-file g c =
    let f = c.requires.file.0 in
    let there = c.requires.file.1 in
    let before = c.loop-piece.invariant in
    may_put f c.args.number c.loop-piece.piece (g.F.FileStore.state c.loop-piece.store).content
    (content_of c.args.files.now.places.items) (content_of c.loop-piece.files.places.items)
    (ap (λ (s : StoreState). map.get s.content c.args.number) before.state ∙ there) (before.part f there)
    c.requires.file.3

pub loop-piece-preserved : goal.loop-piece-preserved
loop-piece-preserved g c =
    let before = c.loop-piece.invariant in
    record {
      part = λ f there.
          put_next f c.args.number c.loop-piece.piece (g.F.FileStore.state c.loop-piece.store).content
          (content_of c.args.files.now.places.items) (content_of c.loop-piece.files.places.items)
          (ap (λ (s : StoreState). map.get s.content c.args.number) before.state ∙ there) (before.part f there)
          (content_of c.copy_piece.new.files.places.items) c.in_ok-copy_piece.ensures.put;
      numbers = c.copy_piece.ensures.numbers ∙ before.numbers;
      state = c.copy_piece.ensures.state ∙ before.state;
    }

pub returns-clause-copied : goal.returns-clause-copied
returns-clause-copied g c =
    let f = c.requires.file.0 in
    let there = c.requires.file.1 in
    let sized = c.requires.file.2 in
    let ends = c.div_ceil-piece-end.ensures in
    let bound = (div_ceil_times c.args.size 4096 (omega arith)).0 in
    let past = c.loop-piece-test.false in
    let over : length f.bytes ≤ c.loop-piece.piece * 4096 = omega (arith, ends, bound, past, sized) in
    whole f c.args.number (content_of c.args.files.now.places.items) (c.loop-piece.piece * 4096)
    (g.F.FileStore.state c.args.store.now).content (content_of c.loop-piece.files.places.items) over there
    (c.loop-piece.invariant.part f there)
