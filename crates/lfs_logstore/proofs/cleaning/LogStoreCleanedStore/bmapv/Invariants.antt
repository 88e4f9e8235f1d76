use Rattle.std.proofs.Common.{◌≡◌}
use Rattle.lfs_logstore.specs.Cleaning.{with_address}
use Rattle.lfs_logstore.proofs.AddressLemmas.{mapped_below}
use Rattle.lfs_logstore.proofs.cleaning.LogStoreCleanedStore.bmapv.Given as goal

abbrev pub invariant-loop-info : goal.invariant-loop-info
invariant-loop-info l = l.info-items ≡ mapped_below (with_address l.self) l.info-index l.initial.info-items
