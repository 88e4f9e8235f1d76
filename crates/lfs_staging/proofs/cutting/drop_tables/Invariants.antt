use Rattle.std.proofs.Common.{◌≤◌, ◌+◌, ◌-◌}
use Rattle.lfs_bmap.specs.declared.blocks.FileBlock.TheVariants.{Data}
use Rattle.lfs_bmap.specs.Blocks.{code_of, table_of}
use Rattle.lfs_staging.specs.Cutting.{DropsDown}
use Rattle.lfs_staging.proofs.cutting.drop_tables.Given as goal

abbrev pub invariant-loop-code : goal.invariant-loop-code
invariant-loop-code l = record {
  down : DropsDown l.ino l.left l.code l.fn.parts l.parts;
  most : l.code ≤ code_of (table_of (Data (l.blocks - 1))) + 1;
}
