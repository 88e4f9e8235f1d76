use Rattle.std.proofs.Common.{arith}
use Rattle.std.proofs.lemmas.Bool.{le-leb, leb-true}
use Rattle.lfs_durable_store.proofs.fitting.fits.Goals as goal

pub returns : goal.returns
returns c =
    let blocks = c.blocks_to_write.ensures.blocks in
    let left = c.room.ensures.room in (
      λ fit. let few = leb-true _ _ fit in omega (arith, blocks, left, few),
      λ fit. le-leb _ _ (omega (arith, blocks, left, fit)),
    )
