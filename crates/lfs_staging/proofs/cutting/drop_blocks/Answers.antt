use Rattle.std.proofs.Common.{min, sym, subst}
use Rattle.lfs_staging.specs.Cutting.{ClearsBlocks, MayClearBetween}
use Rattle.lfs_staging.proofs.DroppingLemmas.{drops_all, may_direct}
use Rattle.lfs_staging.proofs.cutting.drop_blocks.Goals as goal

pub clear_blocks-requires-clause-may : goal.clear_blocks-requires-clause-may
clear_blocks-requires-clause-may c =
    let q = c.drop_tables.new.parts in let end = c.data_run-direct.result.end in
    subst (λ n. MayClearBetween q c.args.ino n c.min-2.result) (sym c.min.ensures)
    (subst (λ n. MayClearBetween q c.args.ino (min c.args.left end) n) (sym c.min-2.ensures)
    (may_direct c.args.parts.now c.args.ino c.args.left c.args.blocks c.requires q c.data_run-direct.result.start end
    c.data_run-direct.ensures.own c.data_run-direct.ensures.start
    c.drop_tables.ensures))

pub returns : goal.returns
returns c =
    let q = c.drop_tables.new.parts in let r = c.clear_blocks.new.parts in let end = c.data_run-direct.result.end in
    drops_all c.args.parts.now c.args.ino c.args.left c.args.blocks c.requires q c.data_run-direct.result.start end
    c.data_run-direct.ensures.own c.data_run-direct.ensures.start
    c.drop_tables.ensures r
    (subst (λ n. ClearsBlocks c.args.ino n (min c.args.blocks end) q r) c.min.ensures
    (subst (λ n. ClearsBlocks c.args.ino c.min.result n q r) c.min-2.ensures c.clear_blocks.ensures))
