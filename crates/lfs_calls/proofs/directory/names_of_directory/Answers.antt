use Rattle.std.proofs.Common.{◌≡◌, ◌++◌, ◌/◌, length, map, refl, sym, ap, ◌∙◌, arith}
use Rattle.lfs_types.specs.Stored.{bytes_of}
use Rattle.lfs_dirs.specs.Directory.{Entry}
use Rattle.lfs_dirs.specs.Reading.{entries_of}
use Rattle.lfs_calls.specs.Content.{block_at, entries_below}
use Rattle.lfs_calls.specs.declared.directory.DirBlocks.{DirBlocks}
use Rattle.lfs_calls.proofs.DirBlockLemmas.{blocks_still, read_still, still_behind, still_first}
use Rattle.lfs_calls.proofs.ListLemmas.{names_further, no_names_at_first}
use Rattle.lfs_calls.proofs.directory.names_of_directory.Goals as goal

pub next-requires : goal.next-requires
next-requires g c = blocks_still c.loop-stored.invariant.still c.requires.stored

pub loop-stored-init : goal.loop-stored-init
loop-stored-init g c =
    let first = ap (λ (b : DirBlocks). b.next) c.new-blocks.ensures in
    let bytes = bytes_of (g.F.FileStore.state c.args.store.now).content c.args.dir in
    record {
      names = c.new-names.ensures.items
          ∙ sym (ap (λ n. map (λ (e : Entry). e.1) (entries_below bytes n)) first ∙ no_names_at_first bytes);
      within = omega (arith, first);
      still = still_first c.new-blocks.ensures refl;
    }

pub loop-stored-preserved : goal.loop-stored-preserved
loop-stored-preserved g c =
    let bytes = bytes_of (g.F.FileStore.state c.args.store.now).content c.args.dir in
    let k = c.loop-stored.blocks.next in
    let still = c.loop-stored.invariant.still in
    let read = read_still still c.in-Some.ensures.next in
    record {
      names = c.in_ok-push_names.ensures
          ∙ ap (λ b. c.loop-stored.names.items ++ map (λ (e : Entry). e.1) (entries_of b)) read.is
          ∙ ap (λ ns. ns ++ map (λ (e : Entry). e.1) (entries_of (block_at bytes k))) c.loop-stored.invariant.names
          ∙ sym (ap (λ n. map (λ (e : Entry). e.1) (entries_below bytes n)) read.next ∙ names_further bytes k);
      within = omega (arith, read.next, read.within);
      still = still_behind still c.in-Some.ensures.next c.next.ensures.state;
    }

pub returns-clause-names : goal.returns-clause-names
returns-clause-names g c =
    let bytes = bytes_of (g.F.FileStore.state c.args.store.now).content c.args.dir in
    let invariant = c.loop-stored.invariant in
    let past = c.in_default.ensures.next.0 in
    let all : c.loop-stored.blocks.next ≡ length bytes / 512 =
    omega (arith, c.requires.stored.sized, invariant.within, invariant.still.sized, past) in
    invariant.names ∙ ap (λ n. map (λ (e : Entry). e.1) (entries_below bytes n)) all
