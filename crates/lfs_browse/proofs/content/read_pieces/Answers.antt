use Rattle.std.proofs.Common.{◌≡◌, arith, sym, ◌∙◌}
use Rattle.lfs_volume.specs.Cleanings.{cleaner_of}
use Rattle.lfs_browse.proofs.ContentLemmas.{reading_full, reading_last, reading_more, reading_none}
use Rattle.lfs_browse.proofs.content.read_pieces.Goals as goal

pub loop-piece-init : goal.loop-piece-init
loop-piece-init g c =
    reading_none (cleaner_of g.F.FileStore.state g.F.FileStore.is_flushed g.F.FileStore.made g.F.CleanedStore.cleaner)
    c.args.volume.now c.args.asker.now c.args.path.now c.args.bytes.now.items

pub loop-piece-preserved : goal.loop-piece-preserved
loop-piece-preserved g c =
    reading_more (cleaner_of g.F.FileStore.state g.F.FileStore.is_flushed g.F.FileStore.made g.F.CleanedStore.cleaner)
    c.args.volume.now c.loop-piece.volume c.read_piece-answer.new.volume c.args.asker.now c.args.path.now
    c.in_ok-asked.asked c.loop-piece.piece c.read_piece-answer.result c.args.bytes.now.items c.loop-piece.bytes.items
    c.push_bytes_of.new.out.items c.in_ok-asked.ensures c.loop-piece.invariant c.read_piece-answer.ensures
    c.in_ok-push_bytes_of.ensures (sym c.is_whole.ensures ∙ c.if-not-is_whole.false)

pub returns-then-not-is_whole : goal.returns-then-not-is_whole
returns-then-not-is_whole g c =
    reading_last (cleaner_of g.F.FileStore.state g.F.FileStore.is_flushed g.F.FileStore.made g.F.CleanedStore.cleaner)
    c.args.volume.now c.loop-piece.volume c.read_piece-answer.new.volume c.args.asker.now c.args.path.now
    c.in_ok-asked.asked c.loop-piece.piece c.read_piece-answer.result c.args.bytes.now.items c.loop-piece.bytes.items
    c.push_bytes_of.new.out.items c.loop-piece-test.true c.in_ok-asked.ensures c.loop-piece.invariant
    c.read_piece-answer.ensures c.in_ok-push_bytes_of.ensures (sym c.is_whole.ensures ∙ c.if-not-is_whole.true)

pub returns : goal.returns
returns g c =
    let full : c.loop-piece.piece ≡ 107 = omega (arith, c.loop-piece-test.false, c.loop-piece.auto.piece-end) in
    reading_full (cleaner_of g.F.FileStore.state g.F.FileStore.is_flushed g.F.FileStore.made g.F.CleanedStore.cleaner)
    c.args.volume.now c.loop-piece.volume c.args.asker.now c.args.path.now c.loop-piece.piece c.args.bytes.now.items
    c.loop-piece.bytes.items full c.loop-piece.invariant
