use Rattle.std.proofs.Common.{ap, ◌∙◌}
use Rattle.lfs_share.specs.Answering.{shared_state, with_share}
use Rattle.lfs_share.proofs.OpeningLemmas.{enough, no_fault, opening_within}
use Rattle.lfs_share.proofs.store.SharedStore.format.Goals as goal

pub unreachable-requires : goal.unreachable-requires
unreachable-requires c =
    let p = c.args.params in
    let made = c.in_ok-store.ensures in
    opening_within p.segments p.inodes c.in_ok-store.store made.opening
    (enough p.segments p.inodes p.frames (λ few. no_fault _ _ (made.too_few.1 few))) c.in-None.ensures.none

pub returns-clause-opening : goal.returns-clause-opening
returns-clause-opening c = ap shared_state c.in-Some.ensures.some ∙ ap with_share c.in_ok-store.ensures.opening
