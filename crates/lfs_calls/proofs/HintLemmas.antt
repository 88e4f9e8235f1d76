-- Where directories have no room, by their hints: what a hint says of the stored blocks goes for those that are seen, but
-- for the one that is read in place of a stored one (`full_apart`), which is asked itself (`full_seen`, `room_in`). So it
-- is with a name that isn't listed (`absent_seen`, `swap_in`).
-- Behind a Rename the blocks before that of the new name have no room for it still (`full_written`).
use Rattle.std.proofs.Common.{◌≡◌, ◌≢◌, ℕ, ◌+◌, ◌*◌, ◌/◌, ◌%◌, ◌<◌, ◌≤◌, List, [], ◌∷◌, ◌++◌, length, take, drop, Option, None}
use Rattle.std.proofs.Common.{Some, sym, ap, subst, ◌∙◌, ⊎_elim, arith}
use Rattle.std.specs.Prelude.{IfSome, IsSome, IsSomeAnd}
use Rattle.std.specs.Borrow.{Bor}
use Rattle.std.proofs.lemmas.Bool.{cases_eq}
use Rattle.lfs_types.specs.Splicing.{splice}
use Rattle.lfs_types.specs.Stored.{bytes_of, bytes_of_file}
use Rattle.lfs_types.specs.Tree.{Content}
use Rattle.lfs_types.specs.declared.limits.TheConstants.{FILE_BYTES}
use Rattle.lfs_dirs.specs.Directory.{IsDirectoryBlock, number_in, renumbered, used_of}
use Rattle.lfs_dirs.specs.Reading.{entries_of}
use Rattle.lfs_known.specs.Full.{IsFullBefore}
use Rattle.lfs_known.specs.declared.hints.Hint.{Hint}
use Rattle.lfs_known.proofs.FullLemmas.{changed-bytes, full_spliced}
use Rattle.lfs_calls.specs.Content.{AreBlocks, all_entries, block_at}
use Rattle.lfs_calls.specs.Makes.{IsRoom, IsRoomIn, StandsIn, with_block}
use Rattle.lfs_calls.specs.Renames.{IsSwap, IsSwapIn, WritesBlocks, block_put}
use Rattle.lfs_calls.specs.declared.directory.DirBlock.{DirBlock}
use Rattle.lfs_calls.proofs.Listings.{absent_in_block}
use Rattle.lfs_calls.proofs.WithBlock.{length-stood, stood-here, stood-other}

-- the first blocks have no room, so many of them as the bytes have
pub full_before : (bytes : List ℕ) (block size long : ℕ) → length bytes ≡ size → 512 * block ≤ size
    → ((k : ℕ) → k < block → 512 < used_of (entries_of (block_at bytes k)) + 5 + long)
    → IsFullBefore bytes (record { block = block; length = long })
full_before bytes block size long same within full = record { within = omega (arith, same, within); full = full }

-- ---- a block that is read in place of a stored one

module _ (bytes : List ℕ) (room : DirBlock) (stands : StandsIn bytes room) where
  -- it is the block of its index
  pub block_there : (k : ℕ) → 512 * k ≡ room.off → block_at (splice bytes room.off room.block) k ≡ room.block
  block_there k same = ap (λ n. take 512 (drop n (splice bytes room.off room.block))) same ∙ stood-here bytes room stands

  -- the others have no room still
  pub full_apart : (first long : ℕ) → IsFullBefore bytes (record { block = first; length = long }) → (j : ℕ) → j < first
      → 512 * j ≢ room.off → 512 < used_of (entries_of (block_at (splice bytes room.off room.block) j)) + 5 + long
  full_apart first long was j before apart = subst (λ b. 512 < used_of (entries_of b) + 5 + long)
      (sym (stood-other bytes room stands (512 * j) (omega arith) apart)) (was.full j before)

-- where it has no room either, no block that is seen before one has
pub full_seen : (bytes : List ℕ) (taken : Option (Bor DirBlock)) (first long : ℕ)
    → IfSome taken (λ room. StandsIn bytes room.now) → IsFullBefore bytes (record { block = first; length = long })
    → IfSome taken (λ room. room.now.off / 512 < first → 512 < used_of (entries_of room.now.block) + 5 + long)
    → (j : ℕ) → j < first → 512 < used_of (entries_of (block_at (with_block bytes taken) j)) + 5 + long
full_seen bytes None first long stands was here j before = was.full j before
full_seen bytes (Some room) first long stands was here j before = ⊎_elim
    (λ same. subst (λ b. 512 < used_of (entries_of b) + 5 + long) (sym (block_there bytes room.now stands j same))
    (here (omega (arith, same, before))))
    (λ apart. full_apart bytes room.now stands first long was j before apart)
    (cases_eq (512 * j) room.now.off)

-- it is a directory block
pub block_seen : (bytes : List ℕ) (taken : Option (Bor DirBlock)) → IfSome taken (λ room. StandsIn bytes room.now)
    → length bytes % 512 ≡ 0 → AreBlocks (with_block bytes taken)
    → IfSome taken (λ room. IsDirectoryBlock room.now.block (entries_of room.now.block))
block_seen bytes None stands whole blocks = tt
block_seen bytes (Some room) stands whole blocks =
    let seen = splice bytes room.now.off room.now.block in
    let k = room.now.off / 512 in
    let is : block_at seen k ≡ room.now.block = block_there bytes room.now stands k (omega (arith, stands.aligned)) in
    let within : k < length seen / 512 = omega (
      arith,
      stands.aligned,
      stands.within,
      whole,
      length-stood bytes room.now stands whole,
    ) in
    subst (λ b. IsDirectoryBlock b (entries_of b)) is (blocks k within)

-- where it doesn't list a name, and a stored block doesn't, the block that is seen doesn't
pub absent_seen : (bytes : List ℕ) (taken : Option (Bor DirBlock)) (name : List ℕ)
    → IfSome taken (λ room. StandsIn bytes room.now)
    → IfSome taken (λ room. number_in name (entries_of room.now.block) ≡ None)
    → (j : ℕ) → number_in name (entries_of (block_at bytes j)) ≡ None
    → number_in name (entries_of (block_at (with_block bytes taken) j)) ≡ None
absent_seen bytes None name stands here j absent = absent
absent_seen bytes (Some room) name stands here j absent = ⊎_elim
    (λ same. ap (λ b. number_in name (entries_of b)) (block_there bytes room.now stands j same) ∙ here)
    (λ apart. ap (λ b. number_in name (entries_of b)) (stood-other bytes room.now stands (512 * j) (omega arith) apart)
    ∙ absent)
    (cases_eq (512 * j) room.now.off)

-- with another number for the name it is the block that lists the name
pub swap_in : (bytes : List ℕ) (taken : Option (Bor DirBlock)) (name : List ℕ) (number : ℕ) (room : DirBlock)
    → IfSome taken (λ room. StandsIn bytes room.now) → length bytes % 512 ≡ 0
    → IsSomeAnd taken (λ block. IsSwapIn block.now name number room)
    → (k : ℕ) × IsSwap (with_block bytes taken) name number room k
swap_in bytes None name number room stands whole there = absurd there
swap_in bytes (Some block) name number room stands whole there =
    let seen = splice bytes block.now.off block.now.block in
    let k = block.now.off / 512 in
    let same : 512 * k ≡ block.now.off = omega (arith, stands.aligned) in
    let is : block_at seen k ≡ block.now.block = block_there bytes block.now stands k same in (
      k,
      record {
        off = there.off ∙ sym same;
        within = omega (arith, stands.aligned, stands.within, whole, length-stood bytes block.now stands whole);
        listed = subst (λ b. IsSome (number_in name (entries_of b))) (sym is) there.listed;
        block = there.block;
        swaps = there.swaps ∙ ap (λ b. renumbered name number (entries_of b)) (sym is);
      },
    )

-- it is a directory block, in which the name is free
pub free_there : (bytes : List ℕ) (taken : Option (Bor DirBlock)) (name : List ℕ)
    → IfSome taken (λ room. StandsIn bytes room.now) → length bytes % 512 ≡ 0 → AreBlocks (with_block bytes taken)
    → number_in name (all_entries (with_block bytes taken)) ≡ None
    → IfSome taken (λ room. IsDirectoryBlock room.now.block (entries_of room.now.block)
    × (number_in name (entries_of room.now.block) ≡ None))
free_there bytes None name stands whole blocks free = tt
free_there bytes (Some room) name stands whole blocks free =
    let seen = splice bytes room.now.off room.now.block in
    let k = room.now.off / 512 in
    let is : block_at seen k ≡ room.now.block = block_there bytes room.now stands k (omega (arith, stands.aligned)) in
    let within : k < length seen / 512 = omega (
      arith,
      stands.aligned,
      stands.within,
      whole,
      length-stood bytes room.now stands whole,
    ) in (
      block_seen bytes (Some room) stands whole blocks,
      ap (λ b. number_in name (entries_of b)) (sym is) ∙ absent_in_block name seen k within free,
    )

-- with an entry more it is the first block where the name fits
pub room_in : (bytes : List ℕ) (taken : Option (Bor DirBlock)) (first number : ℕ) (name : List ℕ) (room : DirBlock)
    → IfSome taken (λ room. StandsIn bytes room.now) → length bytes % 512 ≡ 0 → length bytes ≤ FILE_BYTES
    → IsFullBefore bytes (record { block = first; length = length name })
    → IsSomeAnd taken (λ block. IsRoomIn block.now first number name room)
    → (k : ℕ) × IsRoom (with_block bytes taken) number name room k
room_in bytes None first number name room stands whole bounded was there = absurd there
room_in bytes (Some block) first number name room stands whole bounded was there =
    let seen = splice bytes block.now.off block.now.block in
    let k = block.now.off / 512 in
    let same : 512 * k ≡ block.now.off = omega (arith, stands.aligned) in
    let size = length-stood bytes block.now stands whole in (
      k,
      record {
        off = there.off ∙ sym same;
        within = omega (arith, stands.within, size);
        fits = omega (arith, stands.aligned, stands.within, bounded);
        block = there.block;
        adds = there.adds ∙ ap (λ b. entries_of b ++ (number, name) ∷ []) (sym (block_there bytes block.now stands k same));
        first = λ j before. full_apart bytes block.now stands first (length name) was j
            (omega (arith, before, there.before)) (λ e. absurd (omega (arith, e, same, before)));
      },
    )

-- ---- a Rename

-- once it has written its blocks, the new name fits in none before its own
pub full_written : (old after : Content) (from : ℕ) (taken : DirBlock) (to : ℕ) (room : DirBlock) (number : ℕ) (name : List ℕ)
    (k : ℕ) → IsRoom (bytes_of (block_put from taken old) to) number name room k
    → WritesBlocks old after from taken to room None
    → IsFullBefore (bytes_of after to) (record { block = room.off / 512; length = length name })
full_written old after from taken to room number name k is writes =
    let mid = block_put from taken old in
    let hint : Hint = record { block = room.off / 512; length = length name } in
    let behind : 512 * (room.off / 512) ≤ room.off = omega arith in
    let before : IsFullBefore (bytes_of mid to) hint = record {
      within = omega (arith, is.off, is.within);
      full = λ j low. is.first j (omega (arith, is.off, low));
    } in
    subst (λ bs. IsFullBefore bs hint) (sym (ap bytes_of_file (writes to)))
    (changed-bytes mid to (λ f. record f { bytes = splice f.bytes room.off room.block }) (λ bs. IsFullBefore bs hint)
    (λ f e. full_spliced f.bytes hint room.off room.block behind
    (subst (λ o. IsFullBefore (bytes_of_file o) hint) e before))
    (λ e. subst (λ o. IsFullBefore (bytes_of_file o) hint) e before))
