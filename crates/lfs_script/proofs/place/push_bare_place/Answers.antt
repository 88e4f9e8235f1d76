use Rattle.std.proofs.Common.{◌∙◌, sym, arith}
use Rattle.lfs_script.proofs.PlaceLemmas.{appended, bare_here, bare_none, bare_on, unchanged}
use Rattle.lfs_script.proofs.place.push_bare_place.Goals as goal

pub returns-then-is_empty : goal.returns-then-is_empty
returns-then-is_empty c =
    appended _ _ _ _ _ _ c.loop-word.invariant.same
    (c.loop-word.invariant.on
    ∙ bare_here c.args.words.now c.loop-word.word-index c.loop-word.at _ c.loop-word-test.true
    (sym c.is_empty.ensures ∙ c.if-is_empty.true))
    c.push_word_text.ensures

pub loop-word-preserved : goal.loop-word-preserved
loop-word-preserved c = record {
  same = c.loop-word.invariant.same;
  on =
      rw c.beyond-at.ensures
      (c.loop-word.invariant.on
      ∙ bare_on c.args.words.now c.loop-word.word-index c.loop-word.at _ c.loop-word-test.true
      (sym c.is_empty.ensures ∙ c.if-is_empty.false));
}

pub returns : goal.returns
returns c =
    unchanged _ _ _ c.loop-word.invariant.same
    (c.loop-word.invariant.on ∙ bare_none c.args.words.now c.loop-word.word-index c.loop-word.at (omega arith))
