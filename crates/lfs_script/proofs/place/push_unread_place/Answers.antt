use Rattle.std.proofs.Common.{◌∙◌, sym, arith}
use Rattle.lfs_script.proofs.PlaceLemmas.{appended, unchanged, unread_here, unread_none, unread_on}
use Rattle.lfs_script.proofs.place.push_unread_place.Goals as goal

pub returns-then-not-branch : goal.returns-then-not-branch
returns-then-not-branch c =
    appended _ _ _ _ _ _ c.loop-index.invariant.same
    (c.loop-index.invariant.on
    ∙ unread_here c.args.operands c.args.words.now c.loop-index.index c.loop-index.at _ _ _ c.loop-index-test.true
    c.operand_at-operand.ensures (sym c.in_ok-fits.ensures ∙ c.if-not-branch.true) c.operand_text.ensures)
    c.push_word_text.ensures

pub loop-index-preserved : goal.loop-index-preserved
loop-index-preserved c = record {
  same = c.loop-index.invariant.same;
  on =
      rw c.beyond-at.ensures
      (c.loop-index.invariant.on
      ∙ unread_on c.args.operands c.args.words.now c.loop-index.index c.loop-index.at _ _ c.loop-index-test.true
      c.operand_at-operand.ensures (sym c.in_ok-fits.ensures ∙ c.if-not-branch.false));
}

pub returns : goal.returns
returns c =
    unchanged _ _ _ c.loop-index.invariant.same
    (c.loop-index.invariant.on
    ∙ unread_none c.args.operands c.args.words.now c.loop-index.index c.loop-index.at (omega arith))
