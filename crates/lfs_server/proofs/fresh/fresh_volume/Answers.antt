use Rattle.std.proofs.Common.{refl, rules}
use Rattle.lfs_volume.proofs.OpeningLemmas.{shows_opening_state}
use Rattle.lfs_server.proofs.ServeLemmas.{fresh_log, no_fault}
use Rattle.lfs_server.proofs.fresh.fresh_volume.Goals as goal

pub new-requires : goal.new-requires
new-requires c = shows_opening_state _ _ c.in_ok-store.ensures.opening refl

pub returns-clause-ranges : goal.returns-clause-ranges
returns-clause-ranges c = record {
  enough = λ few. no_fault _ _ (c.in_ok-store.ensures.too_few.1 few);
  not_more = λ many. no_fault _ _ (c.in_ok-store.ensures.too_many.1 many);
}

pub returns-clause-fresh : goal.returns-clause-fresh
returns-clause-fresh c = let log = fresh_log _ _ _ _ c.in_ok-store.ensures.opening c.in_ok-store.ensures.laid_out in
    search rules
