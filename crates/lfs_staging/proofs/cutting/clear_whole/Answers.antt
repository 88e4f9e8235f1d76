use Rattle.std.proofs.Common.{rules, ◌≡◌, ◌+◌, ◌-◌, slice_index, refl, sym, ap, ◌∙◌, subst, arith}
use Rattle.lfs_inodes.specs.Addresses.{cells}
use Rattle.lfs_bmap.specs.Blocks.{code_of, way_to}
use Rattle.lfs_bmap.specs.Reading.{address, read}
use Rattle.lfs_parts.specs.declared.parts.Parts.{Parts}
use Rattle.lfs_staging.proofs.EmptiedLemmas.{Emptied, cell, emptied_all, emptied_more, emptied_none, held_now}
use Rattle.lfs_staging.proofs.EmptiedLemmas.{next_loses, parent_still, present_still, table_loses, table_within}
use Rattle.lfs_staging.proofs.EmptiedLemmas.{waiting_still}
use Rattle.lfs_staging.proofs.GivenBackLemmas.{gives_forgotten, waiting_inside, waiting_tree}
use Rattle.lfs_staging.proofs.cutting.clear_whole.Goals as goal

pub address_of-place-requires-clause-inside : goal.address_of-place-requires-clause-inside
address_of-place-requires-clause-inside c =
    waiting_inside c.args.parts.now c.args.inode.now c.requires.may.blocks.staged c.requires.is

pub block_of-requires-clause-inside : goal.block_of-requires-clause-inside
block_of-requires-clause-inside c = waiting_inside c.args.parts.now c.args.inode.now c.requires.may.blocks.staged
    c.requires.is

pub loop-index-init : goal.loop-index-init
loop-index-init c =
    let p = c.args.parts.now in let v = c.args.inode.now in let t = c.args.table in
    let reads = c.block_of.ensures ∙ ap (λ tree. read tree (way_to t))
    (waiting_tree p v c.requires.may.blocks.staged c.requires.is) in
    subst (λ n. Emptied v t c.block_of.result.now n p p) (sym c.data_run-start.ensures.start)
    (emptied_none p v t c.block_of.result.now c.args.end c.requires.may
    (held_now p v t c.block_of.result.now c.args.end c.requires.may c.requires.is reads))

pub entry-from-requires : goal.entry-from-requires
entry-from-requires c =
    let start = c.data_run-start.ensures.start in
    let low = c.loop-index-test.true in
    let at = cell c.args.parts.now c.loop-index.parts c.args.inode.now c.args.table c.block_of.result.now
    c.loop-index.index c.args.end c.requires.may c.requires.is
    c.loop-index.invariant (omega (arith, c.loop-index.auto.index)) (omega arith) in
    let inside = at.1 in
    omega arith

pub move_live-requires : goal.move_live-requires
move_live-requires c =
    let start = c.data_run-start.ensures.start in
    let low = c.loop-index-test.true in
    let reads = subst (λ n. c.entry-from.result
    ≡ slice_index (cells c.block_of.result.now) (c.loop-index.index - n)) start c.entry-from.ensures.read in
    next_loses c.args.parts.now c.loop-index.parts c.args.inode.now c.args.table c.block_of.result.now c.loop-index.index
    c.args.end c.requires.may c.requires.is
    c.loop-index.invariant (omega (arith, c.loop-index.auto.index)) (omega arith) c.entry-from.result reads

pub key_of-requires : goal.key_of-requires
key_of-requires c = let low = c.loop-index-test.true in let bounded = c.requires.may.blocks.bounded in omega arith

pub loop-index-preserved : goal.loop-index-preserved
loop-index-preserved c =
    let v = c.args.inode.now in
    let start = c.data_run-start.ensures.start in
    let low = c.loop-index-test.true in
    let reads = subst (λ n. c.entry-from.result
    ≡ slice_index (cells c.block_of.result.now) (c.loop-index.index - n)) start c.entry-from.ensures.read in
    let q : Parts = record {
      log = c.move_live.new.self;
      cache = c.forget.new.self;
      waiting = c.loop-index.parts.waiting;
    } in
    let gives = gives_forgotten c.loop-index.parts q v (131 + c.loop-index.index) c.entry-from.result c.key_of.result
    c.key_of.ensures c.move_live.ensures.memory c.move_live.ensures.others c.move_live.ensures.clean
    c.move_live.ensures.kept
    (λ at is. c.move_live.ensures.step at v.number is) refl c.forget.ensures.formed c.forget.ensures.unlocked
    c.forget.ensures.gone c.forget.ensures.others in
    emptied_more c.args.parts.now c.loop-index.parts v c.args.table c.block_of.result.now c.loop-index.index c.args.end
    c.requires.may c.requires.is
    c.loop-index.invariant (omega (arith, c.loop-index.auto.index)) (omega arith) q c.entry-from.result reads gives

pub set_address-requires-clause-record : goal.set_address-requires-clause-record
set_address-requires-clause-record c =
    let start = c.data_run-start.ensures.start in
    let ordered = c.requires.ordered in
    let ends : c.loop-index.index ≡ c.args.end = omega (arith, c.loop-index-test.false, c.loop-index.auto.index) in
    let all = subst (λ n. Emptied c.args.inode.now c.args.table c.block_of.result.now n c.args.parts.now
    c.loop-index.parts) ends c.loop-index.invariant in
    waiting_still c.args.parts.now c.loop-index.parts c.args.inode.now c.args.table c.block_of.result.now c.args.end
    c.args.end c.requires.may c.requires.is all

pub set_address-requires-clause-within : goal.set_address-requires-clause-within
set_address-requires-clause-within c =
    let start = c.data_run-start.ensures.start in
    let ordered = c.requires.ordered in
    let ends : c.loop-index.index ≡ c.args.end = omega (arith, c.loop-index-test.false, c.loop-index.auto.index) in
    let all = subst (λ n. Emptied c.args.inode.now c.args.table c.block_of.result.now n c.args.parts.now
    c.loop-index.parts) ends c.loop-index.invariant in
    table_within c.args.parts.now c.loop-index.parts c.args.inode.now c.args.table c.block_of.result.now c.args.end
    c.requires.may c.requires.is all

pub set_address-requires-clause-in_volume : goal.set_address-requires-clause-in_volume
set_address-requires-clause-in_volume c = search rules

pub set_address-requires-clause-present : goal.set_address-requires-clause-present
set_address-requires-clause-present c =
    let start = c.data_run-start.ensures.start in
    let ordered = c.requires.ordered in
    let ends : c.loop-index.index ≡ c.args.end = omega (arith, c.loop-index-test.false, c.loop-index.auto.index) in
    let all = subst (λ n. Emptied c.args.inode.now c.args.table c.block_of.result.now n c.args.parts.now
    c.loop-index.parts) ends c.loop-index.invariant in
    present_still c.args.parts.now c.loop-index.parts c.args.inode.now c.args.table c.block_of.result.now c.args.end
    c.args.end c.requires.may c.requires.is all

pub set_address-requires-clause-parent : goal.set_address-requires-clause-parent
set_address-requires-clause-parent c =
    let start = c.data_run-start.ensures.start in
    let ordered = c.requires.ordered in
    let ends : c.loop-index.index ≡ c.args.end = omega (arith, c.loop-index-test.false, c.loop-index.auto.index) in
    let all = subst (λ n. Emptied c.args.inode.now c.args.table c.block_of.result.now n c.args.parts.now
    c.loop-index.parts) ends c.loop-index.invariant in
    parent_still c.args.parts.now c.loop-index.parts c.args.inode.now c.args.table c.block_of.result.now c.args.end
    c.requires.may c.requires.is all

pub move_live-requires-2 : goal.move_live-requires-2
move_live-requires-2 c =
    let start = c.data_run-start.ensures.start in
    let ordered = c.requires.ordered in
    let ends : c.loop-index.index ≡ c.args.end = omega (arith, c.loop-index-test.false, c.loop-index.auto.index) in
    let all = subst (λ n. Emptied c.args.inode.now c.args.table c.block_of.result.now n c.args.parts.now
    c.loop-index.parts) ends c.loop-index.invariant in
    let p = c.args.parts.now in let v = c.args.inode.now in let t = c.args.table in
    let reads = c.address_of-place.ensures ∙ ap (λ tree. address tree (way_to t))
    (waiting_tree p v c.requires.may.blocks.staged c.requires.is) in
    table_loses p c.loop-index.parts v t c.block_of.result.now c.args.end c.requires.may c.requires.is all
    c.set_address.new.parts
    c.address_of-place.result reads c.set_address.ensures.set

pub returns : goal.returns
returns c =
    let start = c.data_run-start.ensures.start in
    let ordered = c.requires.ordered in
    let ends : c.loop-index.index ≡ c.args.end = omega (arith, c.loop-index-test.false, c.loop-index.auto.index) in
    let all = subst (λ n. Emptied c.args.inode.now c.args.table c.block_of.result.now n c.args.parts.now
    c.loop-index.parts) ends c.loop-index.invariant in
    let p = c.args.parts.now in let v = c.args.inode.now in let t = c.args.table in
    let reads = c.address_of-place.ensures ∙ ap (λ tree. address tree (way_to t))
    (waiting_tree p v c.requires.may.blocks.staged c.requires.is) in
    let s = c.set_address.new.parts in
    let q : Parts = record { log = c.move_live-2.new.self; cache = c.forget-2.new.self; waiting = s.waiting } in
    let gives = gives_forgotten s q v (code_of t) c.address_of-place.result c.key_of-2.result
    c.key_of-2.ensures c.move_live-2.ensures.memory c.move_live-2.ensures.others c.move_live-2.ensures.clean
    c.move_live-2.ensures.kept
    (λ at is. c.move_live-2.ensures.step at v.number is) refl c.forget-2.ensures.formed c.forget-2.ensures.unlocked
    c.forget-2.ensures.gone c.forget-2.ensures.others in
    emptied_all p c.loop-index.parts v t c.block_of.result.now c.args.end c.requires.may c.requires.is all s q
    c.address_of-place.result reads
    c.set_address.ensures.set c.set_address.ensures.waiting gives
