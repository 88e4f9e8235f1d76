use Rattle.lfs_film.proofs.FilmLemmas.{rows_kept, rows_more, rows_none}
use Rattle.lfs_film.proofs.changed.changed_rows.Goals.{then-ne+in_ok-push, else-ne}
use Rattle.lfs_film.proofs.changed.changed_rows.Goals as goal

pub loop-number-init : goal.loop-number-init
loop-number-init c = rw c.new-rows.ensures.items (rows_none c.args.old.now c.args.new.now)

pub loop-number-preserved : goal.loop-number-preserved
loop-number-preserved c =
    elim c.if-ne.branch [
      | then-ne+in_ok-push w ↦ rw w.rows-is (rows_more c.args.old.now c.args.new.now c.loop-number.rows.items
          w.push.new.self.items c.loop-number.number
          c.row_at.result.now c.row_at-row.result c.ne.result c.loop-number.invariant c.row_at.ensures
          c.row_at-row.ensures c.ne.ensures w.if-ne.true
          w.in_ok-push.ensures.items)
      | else-ne w ↦ rw w.rows-is (rows_kept c.args.old.now c.args.new.now c.loop-number.rows.items c.loop-number.number
          c.row_at.result.now c.row_at-row.result.now c.ne.result c.loop-number.invariant c.row_at.ensures
          c.row_at-row.ensures c.ne.ensures w.if-ne.false)
    ]
