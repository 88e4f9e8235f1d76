use Rattle.std.proofs.Common.{refl, ap, ◌∙◌, ◌++◌, ◌+◌}
use Rattle.lfs_sinks.specs.Numbered.{numbered_line}
use Rattle.lfs_sinks.proofs.SinkLemmas.{lines_more}
use Rattle.lfs_sinks.proofs.sink.write_entries.Goals as goal

pub loop-place-preserved : goal.loop-place-preserved
loop-place-preserved g c =
    lines_more _ (g.W.Write.contents c.loop-place.writer)
    (g.W.Write.contents c.write_full.new.writer) c.loop-place.text.items c.push_numbered.new.out.items
    c.write_full.new.text.items
    c.args.number c.loop-place.place _ c.args.entries.now c.index-entries-place.result c.loop-place-test.true
    c.loop-place.invariant refl
    (c.in_ok-push_numbered.ensures ∙ ap (λ e. c.loop-place.text.items
    ++ numbered_line (c.args.number + c.loop-place.place) e) c.index-entries-place.is)
    c.in_ok-write_full.ensures
