use Rattle.std.proofs.Common.{◌≡◌, ◌*◌, ◌/◌, length, sym, ap, subst, ◌∙◌, arith}
use Rattle.lfs_calls.proofs.StateLemmas.{same_content}
use Rattle.lfs_types.specs.Stored.{bytes_of}
use Rattle.lfs_known.specs.Spots.{ArePlaced, MayStand}
use Rattle.lfs_known.proofs.SpotLemmas.{placed_wider}
use Rattle.lfs_calls.specs.declared.directory.DirBlocks.{DirBlocks}
use Rattle.lfs_calls.proofs.DirBlockLemmas.{blocks_still, read_still, still_behind, still_first}
use Rattle.lfs_calls.proofs.SearchLemmas.{AreEnteredBefore, all_placed, entered_further}
use Rattle.lfs_calls.proofs.directory.learn_names.Goals as goal

pub next-requires : goal.next-requires
next-requires g c = blocks_still c.loop-stored.invariant.still c.requires

pub loop-stored-init : goal.loop-stored-init
loop-stored-init g c =
    let first = ap (λ (b : DirBlocks). b.next) c.new-blocks.ensures in
    record {
      placed = c.in-Some.ensures.placed;
      entered = λ name j low stands. absurd (omega (arith, low, first));
      still = still_first c.new-blocks.ensures (ap g.F.FileStore.state c.take_table.ensures.same);
    }

pub loop-stored-preserved : goal.loop-stored-preserved
loop-stored-preserved g c =
    let s = (g.F.FileStore.state c.args.store.now).content in
    let bytes = bytes_of s c.args.dir in
    let spots = c.enter_block.new.self.spots.items in
    let still = c.loop-stored.invariant.still in
    let read = read_still still c.in-Some-next.ensures.next in
    let index : c.index.result ≡ c.loop-stored.blocks.next = omega (arith, c.index.ensures, read.off) in
    record {
      placed = placed_wider c.loop-stored.table c.enter_block.new.self s c.enter_block.ensures.whole
          c.enter_block.ensures.keeps c.loop-stored.invariant.placed;
      entered = subst (AreEnteredBefore spots c.args.dir bytes) (sym read.next)
          (entered_further c.loop-stored.table.spots.items spots c.args.dir bytes c.loop-stored.blocks.next
          c.in-Some-next.stored.block read.is c.enter_block.ensures.keeps
          (λ name stands. subst (MayStand spots c.args.dir name) index (c.enter_block.ensures.names name stands))
          c.loop-stored.invariant.entered);
      still = still_behind still c.in-Some-next.ensures.next c.next.ensures.state;
    }

pub keep_table-requires : goal.keep_table-requires
keep_table-requires g c =
    let s = (g.F.FileStore.state c.args.store.now).content in
    let bytes = bytes_of s c.args.dir in
    let still = c.loop-stored.invariant.still in
    let long : length bytes ≡ 512 * (c.args.size / 512) = omega (arith, c.requires.sized, c.requires.whole) in
    let past = c.in_default-next.ensures.next.0 in
    subst (ArePlaced c.know.new.self) (sym (same_content (c.next.ensures.state ∙ still.state)))
    (c.know.ensures.placed s (all_placed c.loop-stored.table.spots.items c.args.dir bytes (c.args.size / 512)
    c.loop-stored.blocks.next long (omega (arith, still.sized, past)) c.loop-stored.invariant.entered)
    c.loop-stored.invariant.placed)
