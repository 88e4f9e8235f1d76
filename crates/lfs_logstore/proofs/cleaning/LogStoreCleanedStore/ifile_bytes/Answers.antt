use Rattle.std.proofs.Common.{length, subst}
use Rattle.std.specs.Prelude.{IfOk, ◌≡◌}
use Rattle.lfs_types.specs.Cleaned.{ifile_size}
use Rattle.lfs_parts.specs.Store.{IsStore}
use Rattle.lfs_logstore.specs.States.{state_of}
use Rattle.lfs_logstore.proofs.AccountLemmas.{accounted, sized}
use Rattle.lfs_logstore.proofs.cleaning.LogStoreCleanedStore.ifile_bytes.Goals as goal

pub returns-clause-size : goal.returns-clause-size
returns-clause-size c =
    subst (λ p. IfOk c.ifile_bytes.result (λ bytes. length bytes.items ≡ ifile_size (state_of p).shape)) c.self.view_is
    (sized (λ bytes. bytes.items) c.ifile_bytes.result c.self.inside.parts c.self.invariant.0 c.ifile_bytes.ensures)

pub returns-clause-accounted : goal.returns-clause-accounted
returns-clause-accounted c = accounted c.args.self.now (subst IsStore c.self.view_is c.self.invariant.0)
