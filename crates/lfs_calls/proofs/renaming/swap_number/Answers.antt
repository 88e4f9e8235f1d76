use Rattle.std.proofs.Common.{◌≡◌, ℕ, ◌/◌, ◌%◌, ◌<◌, true, List, length, Option, None, Some, is_some, refl, sym, ap, subst}
use Rattle.std.proofs.Common.{◌∙◌, arith}
use Rattle.std.specs.Prelude.{IsSome}
use Rattle.lfs_types.specs.Stored.{bytes_of}
use Rattle.lfs_dirs.specs.Directory.{IsDirectoryBlock, number_in, renumbered}
use Rattle.lfs_dirs.specs.Reading.{entries_of}
use Rattle.lfs_calls.specs.Content.{block_at}
use Rattle.lfs_calls.specs.Makes.{with_block}
use Rattle.lfs_calls.proofs.HintLemmas.{absent_seen, block_seen, swap_in}
use Rattle.lfs_calls.proofs.SearchLemmas.{absent_in_all, absent_passed}
use Rattle.lfs_calls.proofs.StateLemmas.{same_content}
use Rattle.lfs_calls.proofs.WithBlock.{length-with_block}
use Rattle.lfs_calls.proofs.renaming.swap_number.Goals as goal
use Rattle.lfs_calls.proofs.renaming.swap_number.Goals.{After-see_block}
use Rattle.lfs_types.proofs.Somewhere.{not_some, there_of}

some_there : (o : Option ℕ) → is_some o ≡ true → IsSome o
some_there None h = absurd (cc)
some_there (Some n) h = refl

-- the bytes in which the name is looked for
abbrev bytes : (g : _) (c : After-see_block g) → List ℕ
bytes g c = with_block (bytes_of (g.F.FileStore.state c.args.store.now).content c.args.dir.now.number) c.args.taken

-- the block that is read is one of them
block_is : (g : _) (c : After-see_block g) → c.see_block.new.block ≡ block_at (bytes g c) c.loop-k.k
block_is g c = c.see_block.ensures.block
    ∙ ap (λ x. block_at (with_block (bytes_of x c.args.dir.now.number) c.args.taken) c.loop-k.k)
    (same_content c.loop-k.invariant.state)

within : (g : _) (c : After-see_block g) → c.loop-k.k < length (bytes g c) / 512
within g c =
    let size : length (bytes g c) ≡ c.args.dir.now.attrs.size =
    length-with_block (bytes_of (g.F.FileStore.state c.args.store.now).content c.args.dir.now.number) c.args.taken c.args.dir.now.attrs.size
    c.requires.stands c.requires.stored.sized c.requires.stored.whole in
    subst (λ n. c.loop-k.k < n / 512) (sym size) c.loop-k-test.true

pub swap_taken-requires-clause-block : goal.swap_taken-requires-clause-block
swap_taken-requires-clause-block g c =
    block_seen (bytes_of (g.F.FileStore.state c.args.store.now).content c.args.dir.now.number) c.args.taken c.requires.stands
    (ap (λ n. n % 512) (sym c.requires.stored.sized) ∙ c.requires.stored.whole) c.requires.blocks

pub returns-then-swap_taken-clause-room : goal.returns-then-swap_taken-clause-room
returns-then-swap_taken-clause-room g c =
    swap_in (bytes_of (g.F.FileStore.state c.args.store.now).content c.args.dir.now.number) c.args.taken c.args.listed.name.now
    c.args.listed.number c.swap_taken.new.room c.requires.stands
    (ap (λ n. n % 512) (sym c.requires.stored.sized) ∙ c.requires.stored.whole) (c.swap_taken.ensures.room c.if-swap_taken.true)

pub loop-k-init : goal.loop-k-init
loop-k-init g c = record {
  absent = λ j low.
      absent_seen (bytes_of (g.F.FileStore.state c.args.store.now).content c.args.dir.now.number) c.args.taken c.args.listed.name.now
      c.requires.stands (c.swap_taken.ensures.absent c.if-swap_taken.false) j (c.next_block-k.ensures.absent j (omega arith) low);
  taken = c.swap_taken.ensures.absent c.if-swap_taken.false;
  state = refl;
}

pub replaced-room-requires-clause-directory : goal.replaced-room-requires-clause-directory
replaced-room-requires-clause-directory g c =
    let k = (goal.at.replaced-room-requires-clause-directory g c).After-see_block in
    subst (λ b. IsDirectoryBlock b (entries_of b)) (sym (block_is g k)) (c.requires.blocks c.loop-k.k (within g k))

pub returns-then-is_some-clause-room : goal.returns-then-is_some-clause-room
returns-then-is_some-clause-room g c =
    let k = (goal.at.returns-then-is_some-clause-room g c).After-see_block in (
      c.loop-k.k,
      record {
        off = refl;
        within = within g k;
        listed = subst (λ b. IsSome (number_in c.args.listed.name.now (entries_of b))) (block_is g k)
            (subst IsSome c.find.ensures (some_there c.find.result (sym c.is_some.ensures ∙ c.if-is_some.true)));
        block = subst (IsDirectoryBlock c.replaced-room.result)
            (sym c.replaced-room.ensures.listed) c.replaced-room.ensures.block;
        swaps = c.replaced-room.ensures.listed ∙ ap (λ b. renumbered c.args.listed.name.now c.args.listed.number (entries_of b))
            (block_is g k);
      },
    )

pub loop-k-preserved : goal.loop-k-preserved
loop-k-preserved g c =
    let k = (goal.at.loop-k-preserved g c).After-see_block in
    let stored = bytes_of (g.F.FileStore.state c.args.store.now).content c.args.dir.now.number in
    let state = c.see_block.ensures.state ∙ c.loop-k.invariant.state in
    record {
      absent = absent_passed c.args.listed.name.now (bytes g k) c.loop-k.k c.next_block-k-in-loop-k.result
          c.loop-k.invariant.absent
          (ap (λ b. number_in c.args.listed.name.now (entries_of b)) (sym (block_is g k)) ∙ sym c.find.ensures
          ∙ not_some c.find.result (sym c.if-is_some.ensures))
          (λ j past low. absent_seen stored c.args.taken c.args.listed.name.now c.requires.stands c.loop-k.invariant.taken j
          (ap (λ x. number_in c.args.listed.name.now (entries_of (block_at (bytes_of x c.args.dir.now.number) j))) (sym (same_content state))
          ∙ c.next_block-k-in-loop-k.ensures.absent j past low));
      taken = c.loop-k.invariant.taken;
      state = state;
    }

pub unreachable-requires : goal.unreachable-requires
unreachable-requires g c =
    let stored = bytes_of (g.F.FileStore.state c.args.store.now).content c.args.dir.now.number in
    let size : length (with_block stored c.args.taken)
    ≡ c.args.dir.now.attrs.size = length-with_block stored c.args.taken c.args.dir.now.attrs.size c.requires.stands c.requires.stored.sized
    c.requires.stored.whole in
    let none = absent_in_all c.args.listed.name.now (with_block stored c.args.taken) c.args.dir.now.attrs.size c.loop-k.k (sym size)
    c.loop-k-test.false c.loop-k.invariant.absent in
    let found = (there_of _ c.requires.listed).is in
    absurd (cc)
