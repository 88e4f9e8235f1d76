use Rattle.std.proofs.Common.{rules, ◌≡◌, length}
use Rattle.std.proofs.lemmas.List.Elements.{All-push}
use Rattle.lfs_image.proofs.LoadingLemmas.{block_more}
use Rattle.lfs_image.proofs.loading.read_blocks.Goals as goal

pub loop-k-preserved : goal.loop-k-preserved
loop-k-preserved c = record {
  many = search rules;
  each = rw c.in_ok-push.ensures.items
      (All-push (λ block. length block ≡ 512) c.loop-k.blocks.items c.block_from.result c.loop-k.invariant.each
      c.block_from.ensures.long);
  read = rw c.in_ok-push.ensures.items
      (block_more c.loop-k.blocks.items c.args.bytes.now c.block_from.result c.loop-k.k c.block_from.ensures.block
      c.loop-k.invariant.read);
}
