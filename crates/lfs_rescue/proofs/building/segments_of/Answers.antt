use Rattle.std.proofs.Common.{ℕ, ◌+◌, ◌-◌, ◌*◌, ◌/◌, sym, subst, arith}
use Rattle.lfs_segments.specs.Memory.{IsLaidOut}
use Rattle.lfs_rescue.proofs.BuildLemmas.{laid}
use Rattle.lfs_rescue.proofs.building.segments_of.Goals as goal

pub overflow_add-fill-2 : goal.overflow_add-fill-2
overflow_add-fill-2 c =
    let most = c.requires.laid_out.at_most in
    let inside = c.requires.inside in
    let end = c.requires.end in
    omega arith

pub unreachable-requires : goal.unreachable-requires
unreachable-requires c =
    let last = c.args.last.now in
    let inside = c.requires.inside in
    let end = c.requires.end in
    let counted = c.requires.counted in
    let fill : ℕ = last.address + last.count + 1 - last.address / 64 * 64 in
    c.in_default.ensures.none
    (laid c.args.memory.now c.in_ok-blocks.blocks.items (last.address / 64) fill (last.serial + 1) c.requires.laid_out
    c.in_ok-blocks.ensures.many c.in_ok-blocks.ensures.each inside (omega arith) (omega arith) (omega arith)
    (omega arith))

pub returns-clause-laid_out : goal.returns-clause-laid_out
returns-clause-laid_out c =
    let last = c.args.last.now in
    let inside = c.requires.inside in
    let end = c.requires.end in
    let counted = c.requires.counted in
    let fill : ℕ = last.address + last.count + 1 - last.address / 64 * 64 in
    subst IsLaidOut (sym c.in-Some.ensures.over)
    (laid c.args.memory.now c.in_ok-blocks.blocks.items (last.address / 64) fill (last.serial + 1) c.requires.laid_out
    c.in_ok-blocks.ensures.many c.in_ok-blocks.ensures.each inside (omega arith) (omega arith) (omega arith)
    (omega arith))
