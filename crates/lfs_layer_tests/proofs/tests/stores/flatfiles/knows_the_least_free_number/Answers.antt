use Rattle.std.proofs.Common.{ap, ◌∙◌, arith}
use Rattle.std.specs.FinMap as map
use Rattle.lfs_layer_tests.proofs.FirstChanges.{numbers_of, contents_of}
use Rattle.lfs_flatfiles.proofs.FlatFilesReach.{free_at_opening}
use Rattle.lfs_layer_tests.proofs.tests.stores.flatfiles.knows_the_least_free_number.Goals as goal

pub apply-requires : goal.apply-requires
apply-requires g c = record {
  few = omega arith;
  few_puts = omega arith;
  few_lengths = omega arith;
  few_bytes = omega arith;
  each = (
    (
      omega arith,
      omega (arith, (ap numbers_of c.fresh-store.ensures)),
      ap (λ m. map.get m 5) (ap contents_of c.fresh-store.ensures) ∙ free_at_opening 5 (omega arith),
    ),
    tt,
  );
}
