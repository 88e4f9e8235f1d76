use Rattle.std.proofs.Common.{◌<◌, ◌/◌, length, sym, ap, subst, ◌∙◌, arith}
use Rattle.lfs_types.specs.Stored.{bytes_of}
use Rattle.lfs_dirs.specs.Directory.{number_in}
use Rattle.lfs_dirs.specs.Reading.{entries_of}
use Rattle.lfs_calls.specs.declared.directory.DirBlocks.{DirBlocks}
use Rattle.lfs_calls.proofs.DirBlockLemmas.{absent_behind, absent_to_end, absent_until, blocks_still}
use Rattle.lfs_calls.proofs.DirBlockLemmas.{read_still, still_behind, still_first, still_moved}
use Rattle.lfs_calls.proofs.directory.search.Goals as goal
use Rattle.lfs_calls.proofs.Listings.{found_in_block}
use Rattle.lfs_calls.proofs.SearchLemmas.{absent_below}

pub next_of-requires : goal.next_of-requires
next_of-requires g c = blocks_still c.loop-stored.invariant.still c.requires

pub loop-stored-init : goal.loop-stored-init
loop-stored-init g c =
    let first = ap (λ (b : DirBlocks). b.next) c.new-blocks.ensures in
    record {
      absent = λ j low. absurd (omega (arith, low, first));
      still = still_first c.new-blocks.ensures c.learn_names.ensures;
    }

pub returns-in-Some-find-clause-found : goal.returns-in-Some-find-clause-found
returns-in-Some-find-clause-found g c =
    let bytes = bytes_of (g.F.FileStore.state c.args.store.now).content c.args.dir in
    let still = c.loop-stored.invariant.still in
    let k = c.in-Some.ensures.next.0 in
    let next = c.in-Some.ensures.next.1 in
    let read = read_still (still_moved k still) next.next in
    let within : k < length bytes / 512 = subst (λ n. k < n / 512) c.requires.sized read.within in
    sym (found_in_block c.args.name.now bytes k c.in-Some-find.number within
    (absent_below c.args.name.now bytes k (absent_until c.args.name.now still next c.loop-stored.invariant.absent))
    (ap (λ b. number_in c.args.name.now (entries_of b)) (sym read.is) ∙ sym c.in-Some-find.ensures))

pub loop-stored-preserved : goal.loop-stored-preserved
loop-stored-preserved g c =
    let still = c.loop-stored.invariant.still in
    let next = c.in-Some.ensures.next.1 in
    record {
      absent = absent_behind c.args.name.now still next (sym c.in_default-find.ensures) c.loop-stored.invariant.absent;
      still = still_behind (still_moved c.in-Some.ensures.next.0 still) next.next c.next_of.ensures.state;
    }

pub returns-clause-found : goal.returns-clause-found
returns-clause-found g c = sym (absent_to_end c.args.name.now c.loop-stored.invariant.still c.in_default.ensures.next
    c.requires.sized c.loop-stored.invariant.absent)
