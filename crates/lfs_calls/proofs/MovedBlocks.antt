-- A store may be asked for the two blocks of a Rename, with a removal behind them: `can_put_blocks`, `can_swap_blocks`
-- and `can_put_one`, for `put_blocks`. The first block stays within its directory, so all lengths are
-- the same when the second is checked (`same_length`), also where both are of one directory. If both are one block,
-- only the second is written, which comes to the same (`splice_twice`, `writes_one`); CanApply bounds how many changes
-- and bytes there may be, so a third block would need new sums.
use Rattle.std.proofs.Common.{◌≡◌, ℕ, ◌+◌, ◌%◌, ◌<◌, ◌≤◌, List, [], ◌∷◌, ◌++◌, length, take, drop, Option, None, Some}
use Rattle.std.proofs.Common.{sym, ap, subst, ◌∙◌, ⊎_elim, arith, length-append}
use Rattle.std.proofs.lemmas.Bool.{cases_eq}
use Rattle.std.specs.Prelude.{IsSome, IsSomeAnd}
use Rattle.std.specs.Borrow.{Bor}
use Rattle.std.proofs.lemmas.Slice.{drop-append-drop}
use Rattle.std.specs.FinMap as map
use Rattle.lfs_types.specs.Changes.{IsLength, CanApply, changed_at}
use Rattle.lfs_types.specs.Splicing.{splice}
use Rattle.lfs_types.specs.Stored.{bytes_of, bytes_of_file}
use Rattle.lfs_types.specs.Tree.{File, Content}
use Rattle.lfs_types.specs.declared.attrs.Kind.TheVariants.{Directory}
use Rattle.lfs_types.specs.declared.store.Change.TheVariants.{Put, Remove}
use Rattle.lfs_calls.specs.declared.directory.DirBlock.{DirBlock}
use Rattle.lfs_calls.specs.Makes.{IsBlockOf}
use Rattle.lfs_calls.specs.Renames.{block_put, WritesBlocks, without_file}
use Rattle.lfs_calls.proofs.MakeLemmas.{grown_length}
use Rattle.lfs_calls.proofs.MovedStore.{block_there, block_others}
use Rattle.lfs_types.proofs.Maps.{get-insert_same, get-insert_other, get-remove_same, get-remove_other}
use Rattle.lfs_types.proofs.Pieces.{put_over, splice-put_over, length-put_over, front_length, piece-before}
use Rattle.lfs_types.specs.declared.limits.TheConstants.{FILE_BYTES}
use Rattle.lfs_types.proofs.Somewhere.{Some_and, some_and, is_some_and, present}

-- ---- a block that is written over another

module _ (old : List ℕ) (off : ℕ) (a b : List ℕ) (within : off ≤ length old) (same : length a ≡ length b) where
  behind_same : drop (off + length a) (put_over old off a) ≡ drop (off + length a) old
  behind_same =
      let ends : length (take off old ++ a) ≡ off
      + length a = simp length-append (omega (arith, front_length old off a within)) in
      drop-append-drop (off + length a) old (take off old ++ a) (off + length a) (omega arith) ends

  put_twice : put_over (put_over old off a) off b ≡ put_over old off b
  put_twice =
      let front : take off (put_over old off a) ≡ take off old = piece-before old off a within off 0 (omega arith) in
      let back : drop (off + length b) (put_over old off a)
      ≡ drop (off + length b) old = subst (λ n. drop (off + n) (put_over old off a)
      ≡ drop (off + n) old) same behind_same in
      ap (λ x. (x ++ b) ++ drop (off + length b) (put_over old off a)) front ∙ ap (λ x. (take off old ++ b) ++ x) back

  -- of two blocks put over one another the second stays
  pub splice_twice : 0 < length a → splice (splice old off a) off b ≡ splice old off b
  splice_twice some =
      let first = splice-put_over old off a some within in
      let long = length-put_over old off a within in
      ap (λ bs. splice bs off b) first ∙ splice-put_over (put_over old off a) off b (omega (arith, same))
      (omega (arith, long)) ∙ put_twice ∙ sym (splice-put_over old off b (omega (arith, same)) within)

-- ---- the two blocks

-- a file that is there still is after another was changed
changed_kept : (c : Content) (d : ℕ) (o : Option File) (change : File → File) (n : ℕ) → IsSome (map.get c n)
    → IsSome (map.get (changed_at o d change c) n)
changed_kept c d None change n some = some
changed_kept c d (Some f) change n some = ⊎_elim
    (λ e. present (ap (map.get (map.insert c d (change f))) e ∙ get-insert_same c d (change f)))
    (λ apart. subst IsSome (sym (get-insert_other c d (change f) n apart)) some)
    (cases_eq n d)

-- contents that have the same files do so without one of them
remove_alike : (a b : Content) (gone : ℕ) → ((q : ℕ) → map.get a q ≡ map.get b q) → (q : ℕ)
    → map.get (map.remove a gone) q ≡ map.get (map.remove b gone) q
remove_alike a b gone same q = ⊎_elim
    (λ e. ap (map.get (map.remove a gone)) e ∙ get-remove_same a gone
    ∙ sym (ap (map.get (map.remove b gone)) e ∙ get-remove_same b gone))
    (λ apart. get-remove_other a gone q apart ∙ same q ∙ sym (get-remove_other b gone q apart))
    (cases_eq q gone)

module _ (c : Content) (p : ℕ) (taken : DirBlock) (old : IsBlockOf c p taken) where
  abbrev f : Some_and (map.get c p) (λ f. (f.kind ≡ Directory) × (length f.bytes % 512 ≡ 0)
      × (length f.bytes ≤ FILE_BYTES) × (taken.off ≤ length f.bytes))
  f = some_and (map.get c p) _ old.directory

  long_block : IsLength f.value.kind (length (splice f.value.bytes taken.off taken.block))
  long_block = grown_length f.value.kind f.value.bytes taken.off taken.block f.holds.0 f.holds.1 f.holds.3 old.aligned
      old.fits old.size f.holds.2

  module _ (room : DirBlock) (off : taken.off ≡ room.off) (size : length room.block ≡ 512) where
    bytes_once : splice (splice f.value.bytes taken.off taken.block) room.off room.block
        ≡ splice f.value.bytes room.off room.block
    bytes_once = ap (λ n. splice (splice f.value.bytes n taken.block) room.off room.block) off
        ∙ splice_twice f.value.bytes room.off taken.block room.block
        (subst (λ n. n ≤ length f.value.bytes) off f.holds.3) (old.size ∙ sym size) (omega (arith, old.size))

    -- a block is written over another as if that had not been
    written_once : (q : ℕ) → map.get (block_put p room c) q ≡ map.get (block_put p room (block_put p taken c)) q
    written_once q = ⊎_elim
        (λ e. ap (map.get (block_put p room c)) e ∙ block_there c p f.value f.is f.holds.0 room
        ∙ ap (λ bs. Some (record f.value { bytes = bs })) (sym bytes_once)
        ∙ sym (block_there (block_put p taken c) p
        (record f.value { bytes = splice f.value.bytes taken.off taken.block })
        (block_there c p f.value f.is f.holds.0 taken) f.holds.0 room)
        ∙ sym (ap (map.get (block_put p room (block_put p taken c))) e))
        (λ apart. block_others c p f.value f.is f.holds.0 room q apart
        ∙ sym (block_others c p f.value f.is f.holds.0 taken q apart)
        ∙ sym (block_others (block_put p taken c) p
        (record f.value { bytes = splice f.value.bytes taken.off taken.block })
        (block_there c p f.value f.is f.holds.0 taken) f.holds.0 room q apart))
        (cases_eq q p)

    -- also where a file gives way then
    pub writes_one : (gone : Option ℕ) (new : Content) → new ≡ without_file gone (block_put p room c)
        → WritesBlocks c new p taken p room gone
    writes_one None new is q = ap (λ x. map.get x q) is ∙ written_once q
    writes_one (Some gone) new is q = ap (λ x. map.get x q) is
        ∙ remove_alike (block_put p room c) (block_put p room (block_put p taken c)) gone written_once q

  -- a store may be asked for a block and a removal
  pub can_put_one : (numbers : ℕ) (pointed : Bor (List ℕ)) → pointed.now ≡ taken.block → (gone : ℕ)
      → IsSome (map.get c gone) → CanApply numbers (Put p taken.off pointed ∷ Remove gone ∷ []) c
  can_put_one numbers pointed e gone used = record {
    few = omega arith;
    few_puts = omega arith;
    few_lengths = omega arith;
    few_bytes = omega (arith, ap (λ (bs : List ℕ). length bs) e, old.size);
    each = (
      is_some_and _ f.is (subst (λ bs. IsLength f.value.kind (length (splice f.value.bytes taken.off bs)))
          (sym e) long_block),
      (changed_kept c p (map.get c p) _ gone used, tt),
    );
  }

  module _ (inside : taken.off + 512 ≤ length (bytes_of c p)) (q : ℕ) (room : DirBlock) (new : IsBlockOf c q room) where
    abbrev h : Some_and (map.get c q) (λ f. (f.kind ≡ Directory) × (length f.bytes % 512 ≡ 0)
        × (length f.bytes ≤ FILE_BYTES) × (room.off ≤ length f.bytes))
    h = some_and (map.get c q) _ new.directory

    -- the directory has its length after the first block too
    same_length : (g : File) → map.get (block_put p taken c) q ≡ Some g → (g.kind ≡ Directory)
        × (length g.bytes ≡ length h.value.bytes)
    same_length g e = ⊎_elim
        (λ same.
        let is : record f.value { bytes = splice f.value.bytes taken.off taken.block }
        ≡ g = (let there = block_there c p f.value f.is f.holds.0 taken in
        cc (ap (map.get (block_put p taken c)) same)) in
        let one : h.value ≡ f.value = cc (h.is, f.is, ap (map.get c) same) in
        let room_for : taken.off + 512 ≤ length f.value.bytes =
        subst (λ o. taken.off + 512 ≤ length (bytes_of_file o)) f.is inside in
        let count : length (splice f.value.bytes taken.off taken.block) ≡ length f.value.bytes =
        ap (λ (bs : List ℕ). length bs) (splice-put_over f.value.bytes taken.off taken.block
        (omega (arith, old.size)) f.holds.3)
        ∙ length-put_over f.value.bytes taken.off taken.block f.holds.3 ∙ omega (arith, old.size, room_for) in (
          ap (λ (x : File). x.kind) (sym is) ∙ f.holds.0,
          ap (λ (x : File). length x.bytes) (sym is) ∙ count
              ∙ ap (λ (x : File). length x.bytes) (sym one),
        ))
        (λ apart.
        let is : h.value ≡ g = cc (h.is, block_others c p f.value f.is f.holds.0 taken q apart) in
        (ap (λ (x : File). x.kind) (sym is) ∙ h.holds.0, ap (λ (x : File). length x.bytes) (sym is)))
        (cases_eq q p)

    still_there : IsSomeAnd (map.get (block_put p taken c) q) (λ g. (g.kind ≡ Directory)
        × (length g.bytes ≡ length h.value.bytes))
    still_there = ⊎_elim
        (λ same.
        let e = ap (map.get (block_put p taken c)) same ∙ block_there c p f.value f.is f.holds.0 taken in
        is_some_and _ e (same_length _ e))
        (λ apart.
        let e = block_others c p f.value f.is f.holds.0 taken q apart ∙ h.is in
        is_some_and _ e (same_length _ e))
        (cases_eq q p)

    second_fits : IsSomeAnd (map.get (block_put p taken c) q)
        (λ g. IsLength g.kind (length (splice g.bytes room.off room.block)))
    second_fits =
        let g = some_and (map.get (block_put p taken c) q) _ still_there in
        is_some_and _ g.is (grown_length g.value.kind g.value.bytes room.off room.block g.holds.0
        (ap (λ n. n % 512) g.holds.1 ∙ h.holds.1) (omega (arith, g.holds.1, h.holds.3)) new.aligned new.fits new.size
        (omega (arith, g.holds.1, h.holds.2)))

    -- a store may be asked for both blocks
    pub can_put_blocks : (numbers : ℕ) (first second : Bor (List ℕ)) → first.now ≡ taken.block → second.now ≡ room.block
        → CanApply numbers (Put p taken.off first ∷ Put q room.off second ∷ []) c
    can_put_blocks numbers first second e1 e2 = record {
      few = omega arith;
      few_puts = omega arith;
      few_lengths = omega arith;
      few_bytes = omega (
        arith,
        ap (λ (bs : List ℕ). length bs) e1,
        ap (λ (bs : List ℕ). length bs) e2,
        old.size,
        new.size,
      );
      each = (
        is_some_and _ f.is (subst (λ bs. IsLength f.value.kind (length (splice f.value.bytes taken.off bs)))
            (sym e1) long_block),
        (
          subst (λ bs. IsSomeAnd (map.get (block_put p (record taken { block = bs }) c) q)
              (λ g. IsLength g.kind (length (splice g.bytes room.off second.now)))) (sym e1)
              (subst (λ bs. IsSomeAnd (map.get (block_put p taken c) q)
              (λ g. IsLength g.kind (length (splice g.bytes room.off bs)))) (sym e2) second_fits),
          tt,
        ),
      );
    }

    -- and for a removal behind them
    pub can_swap_blocks : (numbers : ℕ) (first second : Bor (List ℕ)) → first.now ≡ taken.block → second.now
        ≡ room.block → (gone : ℕ) → IsSome (map.get c gone)
        → CanApply numbers (Put p taken.off first ∷ Put q room.off second ∷ Remove gone ∷ []) c
    can_swap_blocks numbers first second e1 e2 gone used =
        let two = can_put_blocks numbers first second e1 e2 in
        record {
          few = omega arith;
          few_puts = omega arith;
          few_lengths = omega arith;
          few_bytes = two.few_bytes;
          each = (
            two.each.0,
            (
              two.each.1.0,
              (
                changed_kept _ q _ _ gone (changed_kept c p (map.get c p) _ gone used),
                tt,
              ),
            ),
          );
        }
