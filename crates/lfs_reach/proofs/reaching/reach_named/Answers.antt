use Rattle.std.proofs.Common.{◌≡◌, ap, sym, ◌∙◌, arith}
use Rattle.lfs_inodes.specs.Facts.{block_count}
use Rattle.lfs_inodes.specs.Reading.{fields_of}
use Rattle.lfs_reach.specs.Reach.{bytes_at}
use Rattle.lfs_reach.proofs.ReachLemmas.{directory_is, named_all, named_first, named_more}
use Rattle.lfs_reach.proofs.reaching.reach_named.Goals as goal

pub loop-index-init : goal.loop-index-init
loop-index-init c = record {
  walk = c.requires;
  added = named_first c.args.memory.now (fields_of c.in-Some.inode) c.args.order.now.items;
}

pub loop-index-preserved : goal.loop-index-preserved
loop-index-preserved c =
    let l = c.loop-index in
    let m = c.args.memory.now in
    record {
      walk = c.in_ok-reach_listed.ensures.walk;
      added = named_more m (fields_of c.in-Some.inode) l.index _ c.args.order.now.items l.order.items _
          (c.bytes_at.ensures ∙ ap (bytes_at m) c.file_address-address.ensures) l.invariant.added
          c.in_ok-reach_listed.ensures.added;
    }

pub returns-clause-added : goal.returns-clause-added
returns-clause-added c =
    let l = c.loop-index in
    let count = c.blocks-index-end.ensures.count in
    let all : l.index ≡ block_count c.in-Some.inode.size = omega arith in
    named_all c.args.memory.now c.args.place.now (fields_of c.in-Some.inode) l.index c.args.order.now.items l.order.items
    (sym c.in-Some.ensures) (directory_is c.in-Some.inode.kind c.if-not-is_directory.ensures) all l.invariant.added
