use Rattle.std.proofs.Common.{◌≡◌, ◌<◌, ◌/◌, ◌%◌, [], ◌∷◌, ◌++◌, length, refl, sym, ap, subst, ◌∙◌, arith}
use Rattle.std.proofs.lemmas.Grind.{common_steps}
use Rattle.lfs_calls.proofs.StateLemmas.{same_content}
use Rattle.lfs_types.specs.Stored.{bytes_of}
use Rattle.lfs_dirs.specs.Directory.{number_in, IsDirectoryBlock}
use Rattle.lfs_dirs.specs.Reading.{entries_of}
use Rattle.lfs_calls.specs.Content.{block_at}
use Rattle.lfs_calls.specs.Makes.{with_block}
use Rattle.lfs_known.specs.Full.{IsFullBefore}
use Rattle.lfs_calls.proofs.HintLemmas.{free_there, full_before, full_seen, room_in}
use Rattle.lfs_calls.proofs.Listings.{absent_in_block, none_at_end}
use Rattle.lfs_calls.proofs.WithBlock.{length-with_block}
use Rattle.lfs_calls.proofs.directory.find_room.Goals as goal

pub taken_room-requires-clause-free : goal.taken_room-requires-clause-free
taken_room-requires-clause-free g c =
    let stored = bytes_of (g.F.FileStore.state c.args.store.now).content c.args.dir.now.number in
    free_there stored c.args.taken c.args.listed.name.now c.requires.stands
    (ap (λ n. n % 512) (sym c.requires.stored.sized) ∙ c.requires.stored.whole) c.requires.blocks c.requires.free

pub returns-then-taken_room-clause-room : goal.returns-then-taken_room-clause-room
returns-then-taken_room-clause-room g c = λ found.
    let stored = bytes_of (g.F.FileStore.state c.args.store.now).content c.args.dir.now.number in
    room_in stored c.args.taken c.first_to_try-first.result c.args.listed.number c.args.listed.name.now c.taken_room.new.room
    c.requires.stands (ap (λ n. n % 512) (sym c.requires.stored.sized) ∙ c.requires.stored.whole)
    (omega (arith, c.requires.stored.sized, c.requires.bounded)) c.first_to_try-first.ensures
    (c.taken_room.ensures.room c.if-taken_room.true)

pub loop-k-init : goal.loop-k-init
loop-k-init g c =
    let stored = bytes_of (g.F.FileStore.state c.args.store.now).content c.args.dir.now.number in
    record {
      full = full_seen stored c.args.taken c.first_to_try-first.result (length c.args.listed.name.now) c.requires.stands
          c.first_to_try-first.ensures (c.taken_room.ensures.full c.if-taken_room.false);
      state = refl;
    }

pub keep_hint-requires : goal.keep_hint-requires
keep_hint-requires g c =
    let stored = bytes_of (g.F.FileStore.state c.args.store.now).content c.args.dir.now.number in
    let size : length (with_block stored c.args.taken)
    ≡ c.args.dir.now.attrs.size = length-with_block stored c.args.taken c.args.dir.now.attrs.size c.requires.stands c.requires.stored.sized
    c.requires.stored.whole in
    let within = c.loop-k-test.true in
    subst (λ x. IsFullBefore (with_block (bytes_of x c.args.dir.now.number) c.args.taken)
    (record { block = c.loop-k.k; length = length c.args.listed.name.now }))
    (sym (same_content (c.see_block.ensures.state ∙ c.loop-k.invariant.state)))
    (full_before (with_block stored c.args.taken) c.loop-k.k c.args.dir.now.attrs.size (length c.args.listed.name.now) size
    (omega arith) c.loop-k.invariant.full)

pub keep_hint-requires-2 : goal.keep_hint-requires-2
keep_hint-requires-2 g c =
    let stored = bytes_of (g.F.FileStore.state c.args.store.now).content c.args.dir.now.number in
    let size : length (with_block stored c.args.taken)
    ≡ c.args.dir.now.attrs.size = length-with_block stored c.args.taken c.args.dir.now.attrs.size c.requires.stands c.requires.stored.sized
    c.requires.stored.whole in
    subst (λ x. IsFullBefore (with_block (bytes_of x c.args.dir.now.number) c.args.taken)
    (record { block = c.args.dir.now.attrs.size / 512; length = length c.args.listed.name.now }))
    (sym (same_content c.loop-k.invariant.state))
    (full_before (with_block stored c.args.taken) (c.args.dir.now.attrs.size / 512) c.args.dir.now.attrs.size (length c.args.listed.name.now) size
    (omega arith) (λ j before. c.loop-k.invariant.full j (omega (arith, before, c.loop-k-test.false))))

pub add-requires-clause-new_name : goal.add-requires-clause-new_name
add-requires-clause-new_name g c =
    let stored = bytes_of (g.F.FileStore.state c.args.store.now).content c.args.dir.now.number in
    let bytes = with_block stored c.args.taken in
    let size : length bytes ≡ c.args.dir.now.attrs.size = length-with_block stored c.args.taken c.args.dir.now.attrs.size c.requires.stands
    c.requires.stored.sized c.requires.stored.whole in
    let block : c.see_block.new.block ≡ block_at bytes c.loop-k.k = c.see_block.ensures.block
    ∙ ap (λ x. block_at (with_block (bytes_of x c.args.dir.now.number) c.args.taken) c.loop-k.k)
    (same_content c.loop-k.invariant.state) in
    let within : c.loop-k.k < length bytes / 512 = subst (λ n. c.loop-k.k < n / 512) (sym size) c.loop-k-test.true in
    ap (λ b. number_in c.args.listed.name.now (entries_of b)) block
    ∙ absent_in_block c.args.listed.name.now bytes c.loop-k.k within c.requires.free

pub returns-clause-room : goal.returns-clause-room
returns-clause-room g c = λ found.
    let stored = bytes_of (g.F.FileStore.state c.args.store.now).content c.args.dir.now.number in
    let bytes = with_block stored c.args.taken in
    let size : length bytes ≡ c.args.dir.now.attrs.size = length-with_block stored c.args.taken c.args.dir.now.attrs.size c.requires.stands
    c.requires.stored.sized c.requires.stored.whole in
    let whole : length bytes % 512 ≡ 0 = ap (λ n. n % 512) size ∙ c.requires.stored.whole in (
      length bytes / 512,
      record {
        off = omega (arith, size, whole);
        within = omega arith;
        fits = let apart = c.if-size-eq-FILE_BYTES.false in
            omega (arith, size, c.requires.bounded, c.requires.stored.whole);
        block = subst (IsDirectoryBlock c.lone_entry.new.block)
            (sym c.lone_entry.ensures.listed) c.lone_entry.ensures.block;
        adds = c.lone_entry.ensures.listed
            ∙ ap (λ es. es ++ (c.args.listed.number, c.args.listed.name.now) ∷ []) (sym (none_at_end bytes whole));
        first = λ j before. let within : j < c.args.dir.now.attrs.size / 512 = subst (λ n. j < n / 512) size before in
            c.loop-k.invariant.full j (omega (arith, within, c.loop-k-test.false));
      },
    )

pub returns-then-size-eq-FILE_BYTES-clause-full : goal.returns-then-size-eq-FILE_BYTES-clause-full
returns-then-size-eq-FILE_BYTES-clause-full g c = λ full.
    let stored = bytes_of (g.F.FileStore.state c.args.store.now).content c.args.dir.now.number in
    let size : length (with_block stored c.args.taken)
    ≡ c.args.dir.now.attrs.size = length-with_block stored c.args.taken c.args.dir.now.attrs.size c.requires.stands c.requires.stored.sized
    c.requires.stored.whole in
    record {
      whole = size ∙ c.if-size-eq-FILE_BYTES.true;
      full = λ j before. let whole = c.if-size-eq-FILE_BYTES.true in
          c.loop-k.invariant.full j (omega (arith, before, whole, c.loop-k-test.false));
    }

pub add-requires-clause-directory : goal.add-requires-clause-directory
add-requires-clause-directory g c = grind (arith, common_steps)

pub returns-then-add-clause-room : goal.returns-then-add-clause-room
returns-then-add-clause-room g c = grind (arith, common_steps)
