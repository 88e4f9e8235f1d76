use Rattle.std.proofs.Common.{◌≡◌, ◌*◌, arith, subst, sym}
use Rattle.std.specs.Prelude.{IfErr}
use Rattle.std.proofs.lemmas.Result.{err_from_is_err_and}
use Rattle.lfs_rescue.specs.declared.fault.RecoverFault.{RecoverFault}
use Rattle.lfs_rescue.specs.declared.fault.RecoverFault.TheVariants.{Memory}
use Rattle.lfs_rescue.specs.Blocks.{IsBlocksFaultOf, IsLeftOfNoneIn, IsMemoryOf}
use Rattle.lfs_rescue.proofs.BlocksLemmas.{none_long, whole_blocks}
use Rattle.lfs_rescue.proofs.blocks.memory_of.Goals as goal

pub returns-clause-memory : goal.returns-clause-memory
returns-clause-memory c =
    let whole = c.in_ok-segments.ensures.whole in
    let blocks = c.in_ok-blocks.blocks.items in
    let many = c.in_ok-blocks.ensures.many in
    subst (IsMemoryOf c.args.bytes.now) (sym c.in-Some.ensures.over) (record {
      whole = omega arith;
      each = c.in_ok-blocks.ensures.each;
      spelled = whole_blocks c.args.bytes.now blocks (c.in_ok-segments.segments * 64) (omega arith)
          c.in_ok-blocks.ensures.read;
    })

pub returns-in_err-segments-clause-none : goal.returns-in_err-segments-clause-none
returns-in_err-segments-clause-none c =
    let bytes = c.args.bytes.now in
    let p = err_from_is_err_and c.from_residual.result c.from_residual.ensures.1 in
    let none = none_long bytes (subst (IsBlocksFaultOf bytes) c.in_err-segments.ensures.long c.in_err-segments.ensures.fault) in
    subst (λ r. IfErr r (λ (fault : RecoverFault). (fault ≡ Memory → ⊥) → IsLeftOfNoneIn bytes)) (sym p.1)
    (λ other. none)
