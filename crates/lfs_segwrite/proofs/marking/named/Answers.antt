use Rattle.std.proofs.Common.{sym, ap, subst, length, arith}
use Rattle.std.proofs.lemmas.List.{take_all}
use Rattle.lfs_parts.specs.Keys.{log_state}
use Rattle.lfs_segwrite.specs.Marking.{AreNamed}
use Rattle.lfs_segwrite.proofs.ListedLemmas.{AreNamed-none, named_length, named_more}
use Rattle.lfs_segwrite.proofs.marking.named.Goals as goal

pub loop-info-init : goal.loop-info-init
loop-info-init c = (
  subst (AreNamed (log_state c.args.parts.now) _) (sym c.empty-named.ensures)
      (AreNamed-none (log_state c.args.parts.now)),
  let none = ap length c.empty-named.ensures in omega arith,
)

pub loop-info-preserved : goal.loop-info-preserved
loop-info-preserved c =
    let l = log_state c.args.parts.now in
    let more = named_length l _ _ _ c.add_named.ensures in
    let before = c.loop-info.invariant.1 in (
      named_more l c.args.marks.now _ _ c.loop-info.info-index _ c.loop-info-test.true c.loop-info.invariant.0
          c.add_named.ensures,
      omega arith,
    )

pub returns-clause-named : goal.returns-clause-named
returns-clause-named c =
    subst (λ marks. AreNamed (log_state c.args.parts.now) marks c.loop-info.named)
    (take_all c.loop-info.info-index c.args.marks.now (omega arith))
    c.loop-info.invariant.0
