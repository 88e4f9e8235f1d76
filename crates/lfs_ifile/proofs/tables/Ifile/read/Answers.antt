use Rattle.std.proofs.Common.{◌≡◌}
use Rattle.std.proofs.lemmas.Result.{IfErr-weaker}
use Rattle.lfs_ifile.specs.declared.fault.IfileFault.TheVariants.{Memory}
use Rattle.lfs_ifile.specs.Layout.{IsIfileFaultOf, ifile_bytes}
use Rattle.lfs_ifile.specs.Tables.{IsIfile, Tables}
use Rattle.lfs_ifile.proofs.LoadingLemmas.{no_ifile}
use Rattle.lfs_ifile.proofs.tables.Ifile.read.Goals as goal

pub returns-clause-none : goal.returns-clause-none
returns-clause-none c =
    IfErr-weaker c.parse.result (IsIfileFaultOf c.args.bytes.now)
    (λ fault. (fault ≡ Memory → ⊥) → (file : Tables) → IsIfile file → ifile_bytes file ≡ c.args.bytes.now → ⊥)
    (no_ifile c.args.bytes.now) c.parse.ensures.fault
