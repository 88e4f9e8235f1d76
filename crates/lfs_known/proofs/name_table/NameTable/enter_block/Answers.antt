use Rattle.std.proofs.Common.{◌≡◌, refl, ◌∙◌}
use Rattle.lfs_dirs.specs.Reading.{entries_of}
use Rattle.lfs_known.proofs.SpotLemmas.{entered_all, entered_first, entered_next}
use Rattle.lfs_known.proofs.name_table.NameTable.enter_block.Goals as goal

pub loop-name-init : goal.loop-name-init
loop-name-init c =
    let same : c.into_iter-name-iterator.result ≡ entries_of c.args.block.now = cc in
    record {
      can_next = tt;
      is_finite = tt;
      names = entered_first c.args.self.now.spots.items c.args.dir c.args.k (entries_of c.args.block.now) _ same;
      keeps = λ d name j may. may;
      whole = refl;
    }

pub loop-name-preserved : goal.loop-name-preserved
loop-name-preserved c = record {
  can_next = tt;
  is_finite = tt;
  names = entered_next _ _ c.args.dir c.args.k _ _ _ _ c.in-Some.ensures.steps c.enter.ensures.keeps
      c.enter.ensures.entered c.loop-name.invariant.names;
  keeps = λ d name j may. c.enter.ensures.keeps d name j (c.loop-name.invariant.keeps d name j may);
  whole = c.enter.ensures.whole ∙ c.loop-name.invariant.whole;
}

pub returns-clause-names : goal.returns-clause-names
returns-clause-names c =
    entered_all _ c.args.dir c.args.k _ _ c.in-None.ensures.steps.0 c.loop-name.invariant.names
