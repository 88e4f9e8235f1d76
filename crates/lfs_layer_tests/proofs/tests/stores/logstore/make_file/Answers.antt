use Rattle.std.proofs.Common.{ap, ◌≡◌, ◌∙◌, arith}
use Rattle.std.specs.FinMap as map
use Rattle.lfs_flatfiles.proofs.FlatFilesReach.{free_at_opening}
use Rattle.lfs_layer_tests.proofs.FirstChanges.{numbers_of, contents_of}
use Rattle.lfs_layer_tests.proofs.tests.stores.logstore.make_file.Goals as goal

pub apply-requires : goal.apply-requires
apply-requires g c = record {
  few = omega arith;
  few_puts = omega arith;
  few_lengths = omega arith;
  few_bytes = omega arith;
  each = (
    (
      omega arith,
      omega (arith, (ap numbers_of c.requires)),
      ap (λ m. map.get m 4) (ap contents_of c.requires)
          ∙ free_at_opening 4 (omega arith),
    ),
    tt,
  );
}
