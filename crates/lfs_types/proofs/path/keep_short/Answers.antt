use Rattle.std.proofs.Common.{ap, refl, ◌∙◌, ◌∷◌, ◌++◌, []}
use Rattle.std.proofs.lemmas.Result.{err_from_is_err_and}
use Rattle.lfs_types.proofs.Cuts.{front_cut}
use Rattle.lfs_types.proofs.path.keep_short.Goals as goal

pub returns-clause-kept : goal.returns-clause-kept
returns-clause-kept c =
    let short = c.front_of-short.result in
    let front = c.front_of-short.ensures in
    λ some. (
      short,
      front_cut c.args.text.now short c.as_slice-count.result.now c.as_slice-count.ensures front.front front.clean
          (c.if-not-ends_part.ensures refl),
      c.if-not-is_name.ensures refl,
      c.in_ok-keep.ensures.kept ∙ ap (λ n. c.args.names.now.items ++ n ∷ []) c.of_short.ensures,
    )

pub returns-in_err-keep-clause-refused : goal.returns-in_err-keep-clause-refused
returns-in_err-keep-clause-refused c =
    let exit = err_from_is_err_and c.from_residual.result c.from_residual.ensures.1 in
    let short = c.front_of-short.result in
    let front = c.front_of-short.ensures in
    rw (exit.1, exit.2, c.in_err-keep.ensures.memory) (λ k. (
      short,
      _,
      front_cut c.args.text.now short c.as_slice-count.result.now c.as_slice-count.ensures front.front front.clean
          (c.if-not-ends_part.ensures refl),
      c.if-not-is_name.ensures refl,
    ))
