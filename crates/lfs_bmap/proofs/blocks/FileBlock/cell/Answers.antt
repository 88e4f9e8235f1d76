use Rattle.std.proofs.Common.{◌≡◌, ◌<◌, ◌≤◌, ◌-◌, ◌/◌, ◌%◌, ◌∷◌, ap, arith, subst, sym, ◌∙◌}
use Rattle.lfs_bmap.specs.Blocks.{IsFileBlock, IsTable, code_of, table_at, table_of, way_to}
use Rattle.lfs_bmap.proofs.HolderLemmas.{table_at-code, table_at-holds, table_of-past}
use Rattle.lfs_bmap.proofs.WayLemmas.{data_way-direct, data_way-under}
use Rattle.lfs_bmap.proofs.blocks.FileBlock.cell.Goals as goal

pub returns-in-Data-clause-way : goal.returns-in-Data-clause-way
returns-in-Data-clause-way c = ap way_to c.in-Data.is ∙ data_way-direct c.in-Data.index (omega arith)

-- past the direct ones
pub returns-in-Data-2-clause-way : goal.returns-in-Data-2-clause-way
returns-in-Data-2-clause-way c =
    let same : c.in-Data.index ≡ c.in-Data-2.index = cc in
    ap way_to c.in-Data-2.is ∙ data_way-under c.in-Data-2.index (omega arith)
    ∙ ap (λ t. ((c.in-Data-2.index - 12) % 128) ∷ way_to t) (sym c.indirect_block.ensures)

pub returns-in-Data-2-clause-table : goal.returns-in-Data-2-clause-table
returns-in-Data-2-clause-table c =
    let same : c.in-Data.index ≡ c.in-Data-2.index = cc in
    c.indirect_block.ensures ∙ sym (ap table_of c.in-Data-2.is ∙ table_of-past c.in-Data-2.index (omega arith))

pub returns-in-Data-2-clause-inside : goal.returns-in-Data-2-clause-inside
returns-in-Data-2-clause-inside c =
    subst (λ t. IsTable t ((c.in-Data-2.index - 12) % 128)) (sym c.indirect_block.ensures)
    (table_at-holds ((c.in-Data-2.index - 12) / 128) ((c.in-Data-2.index - 12) % 128) (omega arith))

pub returns-in-Data-2-clause-less : goal.returns-in-Data-2-clause-less
returns-in-Data-2-clause-less c =
    let below = subst IsFileBlock c.in-Data-2.is c.requires in
    let few : (c.in-Data-2.index - 12) / 128 ≤ 128 = omega arith in
    let low = table_at-code ((c.in-Data-2.index - 12) / 128) few in
    subst (λ t. code_of t < code_of c.args.self) (sym c.indirect_block.ensures)
    (subst (λ b. code_of (table_at ((c.in-Data-2.index - 12) / 128)) < code_of b) (sym c.in-Data-2.is) (omega arith))
