use Rattle.std.proofs.Common.{◌∙◌, arith}
use Rattle.std.proofs.lemmas.List.{length_push}
use Rattle.std.proofs.lemmas.Result.{err_from_is_err_and}
use Rattle.lfs_words.proofs.InfoLemmas.{infos_all, infos_few, infos_more, infos_refused}
use Rattle.lfs_words.proofs.Parts.{infos_many}
use Rattle.lfs_words.proofs.info.infos.Goals as goal

pub loop-word-preserved : goal.loop-word-preserved
loop-word-preserved g c = record {
  counted = rw c.push.ensures (omega (
    arith,
    length_push c.loop-word.infos c.in_ok-found.found,
    c.loop-word.invariant.counted,
  ));
  so_far =
      rw c.push.ensures
      (infos_more c.args.words.now c.loop-word.word-index _ c.loop-word.infos c.in_ok-found.found c.loop-word-test.true
      c.in_ok-found.ensures c.loop-word.invariant.so_far);
}

pub returns-in_err-found : goal.returns-in_err-found
returns-in_err-found g c =
    let exit = err_from_is_err_and c.from_residual.result c.from_residual.ensures.1 in
    rw (exit.1, exit.2)
    (λ other. infos_few c.args.words.now g.row.LIMIT c.if-words.false
    ∙ infos_refused c.args.words.now c.loop-word.word-index _ c.loop-word.infos _ c.loop-word-test.true
    (c.in_err-found.ensures other) c.loop-word.invariant.so_far)

pub returns : goal.returns
returns g c =
    infos_few c.args.words.now g.row.LIMIT c.if-words.false
    ∙ infos_all c.args.words.now c.loop-word.word-index c.loop-word.infos c.loop-word-test.false
    c.loop-word.invariant.so_far

pub returns-then-words : goal.returns-then-words
returns-then-words g c = λ other. infos_many (λ x. x.now) c.args.words.now g.row.LIMIT c.if-words.true
