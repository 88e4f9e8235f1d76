use Rattle.std.proofs.Common.{◌+◌, refl, sym, ap, subst, ◌∙◌, arith}
use borrow.Author.Count.{below_more}
use Rattle.std.specs.Prelude.{is_some}
use Rattle.lfs_types.specs.Stored.{bytes_of}
use Rattle.lfs_types.specs.Tree.{Content}
use Rattle.lfs_dirs.specs.Directory.{IsDirectoryBlock, number_in}
use Rattle.lfs_dirs.specs.Reading.{entries_of}
use Rattle.lfs_dirs.proofs.Changes.{number_in-nil}
use Rattle.lfs_calls.specs.Content.{block_at, entries_below}
use Rattle.lfs_calls.proofs.StateLemmas.{same_content}
use Rattle.lfs_trees.specs.Files.{HasWhole}
use Rattle.lfs_trees.specs.Walks.{HasNames, IsReading}
use Rattle.lfs_trees.proofs.Listing.{none_at_first}
use Rattle.lfs_trees.proofs.Stepping.{from_here, further}
use Rattle.lfs_trees.proofs.reading.read_directory.Goals as goal

pub loop-index-init : goal.loop-index-init
loop-index-init g c =
    let content = (g.F.FileStore.state c.args.store.now).content in
    let bytes = bytes_of content c.args.directory in
    record {
      reading = subst (IsReading content c.args.walk.now c.args.walk.now c.args.directory)
          (sym (none_at_first bytes)) c.requires.reading;
      named = λ name. c.new-names.ensures name
          ∙ sym (ap is_some (ap (number_in name) (none_at_first bytes) ∙ number_in-nil name));
      blocks = λ k h. absurd (omega arith);
      state = refl;
    }

pub read_block-requires-clause-whole : goal.read_block-requires-clause-whole
read_block-requires-clause-whole g c =
    subst (λ (x : Content). HasWhole x c.args.directory c.args.blocks)
    (sym (same_content c.loop-index.invariant.state)) c.requires.whole

pub read_block-requires-clause-reading : goal.read_block-requires-clause-reading
read_block-requires-clause-reading g c =
    subst (λ (x : Content). IsReading x c.loop-index.walk c.loop-index.walk c.args.directory
    (entries_below (bytes_of x c.args.directory) c.loop-index.index))
    (sym (same_content c.loop-index.invariant.state))
    (from_here _ c.args.walk.now c.loop-index.walk c.args.directory _ c.loop-index.invariant.reading)

pub read_block-requires-clause-named : goal.read_block-requires-clause-named
read_block-requires-clause-named g c =
    subst (λ (x : Content). HasNames c.loop-index.names
    (entries_below (bytes_of x c.args.directory) c.loop-index.index))
    (sym (same_content c.loop-index.invariant.state)) c.loop-index.invariant.named

pub loop-index-preserved : goal.loop-index-preserved
loop-index-preserved g c =
    let same = same_content c.loop-index.invariant.state in
    let read = c.in_ok-read_block.ensures in
    let dir = c.args.directory in
    let k = c.loop-index.index in
    record {
      reading = further _ c.args.walk.now c.loop-index.walk c.read_block.new.walk c.args.directory _ _
          c.loop-index.invariant.reading
          (subst (λ (x : Content). IsReading x c.loop-index.walk c.read_block.new.walk dir
          (entries_below (bytes_of x dir) (k + 1)))
          same read.read);
      named = subst (λ (x : Content). HasNames c.read_block.new.names (entries_below (bytes_of x dir) (k + 1))) same
          read.named;
      blocks = below_more _ _ c.loop-index.invariant.blocks
          (subst (λ (x : Content). IsDirectoryBlock (block_at (bytes_of x dir) k)
          (entries_of (block_at (bytes_of x dir) k)))
          same read.block);
      state = read.state ∙ c.loop-index.invariant.state;
    }
