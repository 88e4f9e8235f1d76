-- A loop over a directory's blocks: the blocks are still that directory's, and the store's state is what it was
-- (`AreStill`). So the next one may be asked for (`blocks_still`), and what is read is a block of the bytes that the
-- directory had (`read_still`); where a name is looked for, it is in none of those that are passed over
-- (`absent_until`, `absent_behind`, `absent_to_end`, for the loops of `search` and `take_name`).
use Rattle.std.proofs.Common.{◌≡◌, ℕ, ◌+◌, ◌*◌, ◌/◌, ◌<◌, ◌≤◌, List, length, None, sym, ap, subst, ◌∙◌}
use Rattle.std.proofs.Common.{⊎_elim, arith, nat_lt}
use Rattle.std.proofs.lemmas.Bool.{cases_Bool, ltb-true, ltb-false}
use Rattle.lfs_dirs.specs.Directory.{number_in}
use Rattle.lfs_dirs.specs.Reading.{entries_of}
use Rattle.lfs_types.specs.StoreStates.{StoreState}
use Rattle.lfs_types.specs.Stored.{bytes_of}
use Rattle.lfs_calls.specs.Content.{HasBlocks, all_entries, block_at}
use Rattle.lfs_calls.specs.DirBlocks.{IsNext, IsNextOf, PassesOver}
use Rattle.lfs_calls.specs.declared.directory.DirBlock.{DirBlock}
use Rattle.lfs_calls.specs.declared.directory.DirBlocks.{DirBlocks}
use Rattle.lfs_calls.proofs.SearchLemmas.{IsAbsentBefore, absent_in_all, absent_passed}

-- the blocks are those of a directory, and the state is what it was
pub record AreStill (blocks : DirBlocks) (now was : StoreState) (dir size : ℕ) : Type 0 where
  pub at : blocks.dir ≡ dir
  pub sized : blocks.size ≡ size
  pub state : now ≡ was

-- so are they at first, and behind a block that was read
pub still_first : {blocks : DirBlocks} {now was : StoreState} {dir size : ℕ}
    → blocks ≡ record { dir = dir; size = size; next = 0 } → now ≡ was → AreStill blocks now was dir size
still_first is same = record {
  at = ap (λ (b : DirBlocks). b.dir) is;
  sized = ap (λ (b : DirBlocks). b.size) is;
  state = same;
}

pub still_behind : {bytes : List ℕ} {blocks left : DirBlocks} {stored : DirBlock} {behind now was : StoreState}
    {dir size : ℕ} → AreStill blocks now was dir size → IsNext bytes blocks stored left → behind ≡ now
    → AreStill left behind was dir size
still_behind still next same = record {
  at = ap (λ (b : DirBlocks). b.dir) next.behind ∙ still.at;
  sized = ap (λ (b : DirBlocks). b.size) next.behind ∙ still.sized;
  state = same ∙ still.state;
}

-- the next one may be asked for
pub blocks_still : {blocks : DirBlocks} {now was : StoreState} {dir size : ℕ} → AreStill blocks now was dir size
    → HasBlocks was.content dir size → HasBlocks now.content blocks.dir blocks.size
blocks_still {blocks} {now} {was} {dir} {size} still has =
    subst (λ (s : StoreState). HasBlocks s.content blocks.dir blocks.size) (sym still.state)
    (subst (λ d. HasBlocks was.content d blocks.size) (sym still.at)
    (subst (HasBlocks was.content dir) (sym still.sized) has))

-- the directory's bytes are what they were
pub bytes_still : {blocks : DirBlocks} {now was : StoreState} {dir size : ℕ} → AreStill blocks now was dir size
    → bytes_of now.content blocks.dir ≡ bytes_of was.content dir
bytes_still {blocks} {was = was} still =
    ap (λ (s : StoreState). bytes_of s.content blocks.dir) still.state ∙ ap (bytes_of was.content) still.at

-- what is read is a block of them
pub record IsRead (bytes : List ℕ) (size : ℕ) (blocks : DirBlocks) (stored : DirBlock) (left : DirBlocks) : Type 0 where
  pub within : blocks.next < size / 512
  pub off : stored.off ≡ 512 * blocks.next
  pub is : stored.block ≡ block_at bytes blocks.next
  pub next : left.next ≡ blocks.next + 1

pub read_still : {blocks left : DirBlocks} {stored : DirBlock} {now was : StoreState} {dir size : ℕ}
    → AreStill blocks now was dir size → IsNext (bytes_of now.content blocks.dir) blocks stored left
    → IsRead (bytes_of was.content dir) size blocks stored left
read_still {blocks} still next = record {
  within = subst (λ n. blocks.next < n / 512) still.sized next.within;
  off = next.off;
  is = next.is ∙ ap (λ b. block_at b blocks.next) (bytes_still still);
  next = ap (λ (b : DirBlocks). b.next) next.behind;
}

-- ---- a name that is looked for

-- blocks that were passed over
pub still_moved : {blocks : DirBlocks} {now was : StoreState} {dir size : ℕ} (k : ℕ) → AreStill blocks now was dir size
    → AreStill (record blocks { next = k }) now was dir size
still_moved k still = record { at = still.at; sized = still.sized; state = still.state }

-- the name is in none of the blocks before one to which others are passed over
absent_over : (name bytes : List ℕ) (from to : ℕ) → IsAbsentBefore name bytes from → PassesOver name bytes from to
    → IsAbsentBefore name bytes to
absent_over name bytes from to before passed j low = ⊎_elim
    (λ h. before j (ltb-true j from h))
    (λ h. passed j (ltb-false j from h) low)
    (cases_Bool (nat_lt j from))

pub absent_until : (name : List ℕ) {blocks left : DirBlocks} {stored : DirBlock} {now was : StoreState}
    {dir size k : ℕ} → AreStill blocks now was dir size
    → IsNextOf name (bytes_of now.content blocks.dir) blocks k stored left
    → IsAbsentBefore name (bytes_of was.content dir) blocks.next → IsAbsentBefore name (bytes_of was.content dir) k
absent_until name {blocks} {was = was} {dir = dir} {k = k} still next before =
    absent_over name (bytes_of was.content dir) blocks.next k before
    (subst (λ b. PassesOver name b blocks.next k) (bytes_still still) next.passed)

-- nor in those up to the one that is read, where that doesn't list it
pub absent_behind : (name : List ℕ) {blocks left : DirBlocks} {stored : DirBlock} {now was : StoreState}
    {dir size k : ℕ} → AreStill blocks now was dir size
    → IsNextOf name (bytes_of now.content blocks.dir) blocks k stored left
    → number_in name (entries_of stored.block) ≡ None
    → IsAbsentBefore name (bytes_of was.content dir) blocks.next
    → IsAbsentBefore name (bytes_of was.content dir) left.next
absent_behind name {was = was} {dir = dir} {k = k} still next here before =
    let bytes = bytes_of was.content dir in
    let read = read_still (still_moved k still) next.next in
    subst (IsAbsentBefore name bytes) (sym read.next)
    (absent_passed name bytes k (k + 1) (absent_until name still next before)
    (ap (λ b. number_in name (entries_of b)) (sym read.is) ∙ here)
    (λ j past low. absurd (omega (arith, past, low))))

-- nor in any, where all are passed over
pub absent_to_end : (name : List ℕ) {blocks : DirBlocks} {now was : StoreState} {dir size : ℕ}
    → AreStill blocks now was dir size
    → PassesOver name (bytes_of now.content blocks.dir) blocks.next (blocks.size / 512)
    → size ≡ length (bytes_of was.content dir)
    → IsAbsentBefore name (bytes_of was.content dir) blocks.next
    → number_in name (all_entries (bytes_of was.content dir)) ≡ None
absent_to_end name {blocks} {was = was} {dir = dir} {size = size} still passed sized before =
    let bytes = bytes_of was.content dir in
    let past : size / 512 ≤ blocks.size / 512 = omega (arith, still.sized) in
    absent_in_all name bytes size (blocks.size / 512) sized past
    (absent_over name bytes blocks.next (blocks.size / 512) before
    (subst (λ b. PassesOver name b blocks.next (blocks.size / 512)) (bytes_still still) passed))
