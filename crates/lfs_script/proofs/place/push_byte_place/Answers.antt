use Rattle.std.proofs.Common.{◌∙◌, sym, arith}
use Rattle.lfs_script.proofs.PlaceLemmas.{appended, byte_here, byte_none, byte_on, unchanged}
use Rattle.lfs_script.proofs.place.push_byte_place.Goals as goal

pub returns-then-not-is_printable : goal.returns-then-not-is_printable
returns-then-not-is_printable c =
    appended _ _ _ _ _ _ c.loop-byte.invariant.same
    (c.loop-byte.invariant.on
    ∙ byte_here c.args.line.now c.loop-byte.byte-index c.loop-byte.at 0 c.loop-byte-test.true
    (sym c.is_printable.ensures ∙ c.if-not-is_printable.true))
    c.push_byte_text.ensures

pub loop-byte-preserved : goal.loop-byte-preserved
loop-byte-preserved c = record {
  same = c.loop-byte.invariant.same;
  on =
      rw c.saturating_add-at.ensures
      (c.loop-byte.invariant.on
      ∙ byte_on c.args.line.now c.loop-byte.byte-index c.loop-byte.at 0 c.loop-byte-test.true
      (sym c.is_printable.ensures ∙ c.if-not-is_printable.false));
}

pub returns : goal.returns
returns c =
    unchanged _ _ _ c.loop-byte.invariant.same
    (c.loop-byte.invariant.on ∙ byte_none c.args.line.now c.loop-byte.byte-index c.loop-byte.at (omega arith))
