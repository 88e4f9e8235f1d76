use Rattle.std.proofs.Common.{◌+◌, ◌<◌, ◌++◌, sym, ap, subst, ◌∙◌}
use Rattle.std.proofs.lemmas.Result.{err_from_is_err_and}
use Rattle.std.specs.Prelude.{IfErr}
use Rattle.lfs_types.specs.Stored.{bytes_of}
use Rattle.lfs_types.specs.Tree.{Content}
use Rattle.lfs_dirs.specs.Directory.{Entry, AreEntries}
use Rattle.lfs_dirs.specs.Reading.{entries_of}
use Rattle.lfs_calls.specs.Content.{entries_below}
use Rattle.lfs_calls.proofs.StateLemmas.{same_content}
use Rattle.lfs_trees.specs.Faults.{IsTreeFaultOf}
use Rattle.lfs_trees.specs.Walks.{IsEntered, IsEntryFault}
use Rattle.lfs_trees.proofs.Listing.{below_further, by_block}
use Rattle.lfs_trees.proofs.Parts.{part_fault, part_more}
use Rattle.lfs_trees.proofs.reading.read_block.Goals as goal

pub loop-number-init : goal.loop-number-init
loop-number-init g c =
    let place = c.args.place in
    let bytes = bytes_of (g.F.FileStore.state c.args.store.now).content place.directory in
    let entries = c.into_iter-number-iterator.ensures.into_iter_gives ∙ c.entries-number-items.ensures.value in
    record {
      can_next = tt;
      is_finite = tt;
      part = record {
        read = entries_below bytes place.index;
        parts = ap (λ es. entries_below bytes place.index ++ es) (entries
            ∙ ap entries_of c.block_of-block.ensures.block)
            ∙ sym (below_further bytes place.index);
        reading = c.requires.reading;
        named = c.requires.named;
        entries = subst AreEntries (sym entries)
            (c.is_directory_block.ensures.test.0 c.if-not-is_directory_block.false).entries;
      };
      state = c.block_of-block.ensures.state;
    }

pub loop-number-preserved : goal.loop-number-preserved
loop-number-preserved g c =
    let place = c.args.place in
    let content = (g.F.FileStore.state c.args.store.now).content in
    let bytes = bytes_of content place.directory in
    let whole = c.requires.whole in
    let entry : Entry = (c.in-Some.number, c.in-Some.name.now) in
    let behind = by_block bytes place.index whole.whole (subst (λ n. place.index < n) whole.counted c.requires.within)
    in
    record {
      can_next = tt;
      is_finite = tt;
      part = part_more content c.args.walk.now c.loop-number.walk c.loop-number.names place.directory
          (entries_below bytes (place.index + 1))
          c.loop-number.number-iterator c.next.new.self behind.0 entry c.loop-number.invariant.part
          c.in-Some.ensures.steps behind.1 c.enter.new.walk c.enter.new.names
          (subst (λ (x : Content). IsEntered x c.loop-number.walk c.loop-number.names entry c.enter.new.walk
          c.enter.new.names)
          (same_content c.loop-number.invariant.state) c.in_ok-enter.ensures.entered);
      state = c.loop-number.invariant.state;
    }

pub returns-in_err-enter-clause-fault : goal.returns-in_err-enter-clause-fault
returns-in_err-enter-clause-fault g c =
    let place = c.args.place in
    let content = (g.F.FileStore.state c.args.store.now).content in
    let bytes = bytes_of content place.directory in
    let whole = c.requires.whole in
    let entry : Entry = (c.in-Some.number, c.in-Some.name.now) in
    let behind = by_block bytes place.index whole.whole (subst (λ n. place.index < n) whole.counted c.requires.within)
    in
    let p = err_from_is_err_and c.from_residual.result c.from_residual.ensures.1 in
    let fault = subst
    (λ (x : Content). IsEntryFault x c.loop-number.walk c.loop-number.names place.directory entry
    c.in_err-enter.field-0.0)
    (same_content c.loop-number.invariant.state) c.in_err-enter.ensures.fault in
    let is = part_fault content c.args.walk.now c.loop-number.walk c.loop-number.names place.directory
    (entries_below bytes (place.index + 1))
    c.loop-number.number-iterator c.next.new.self behind.0 entry c.loop-number.invariant.part
    c.in-Some.ensures.steps behind.1 c.in_err-enter.field-0.0 fault in
    subst (λ r. IfErr r (IsTreeFaultOf content)) (sym p.1) (subst (IsTreeFaultOf content) (sym p.2) is)
