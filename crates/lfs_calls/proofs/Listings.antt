-- If one block of a directory's bytes is written, or one at their end, the directory lists what it listed, with the
-- entries that the block got or lost: `old_listed` and `new_listed` for ListingsTaken and ListingsSwapped,
-- `ListsRows-added` for CreateLemmas and MovedStore. Entries are listed block by block, so the list is the blocks
-- before, the one written and those behind, and a write of 512 bytes at a multiple of 512 leaves the others
-- (`block_other`). The lemmas on look-ups (`found_in_block`, `absent_further`) carry the loops of `search` and
-- `find_room`; all stands on `entries_below`, so entries that crossed a block's end would break it.
use Rattle.std.proofs.Common.{◌≡◌, ◌≢◌, ℕ, zero, suc, ◌+◌, ◌-◌, ◌*◌, ◌/◌, ◌%◌, ◌<◌, ◌≤◌, List, [], ◌∷◌, ◌++◌, length}
use Rattle.std.proofs.Common.{take, drop, None, Some, refl, sym, ap, subst, ◌∙◌, ⊎_elim, arith, append_assoc}
use Rattle.std.proofs.Common.{append-nil, add-zero, add-suc, add-one, nat_lt, length-take, length-drop}
use Rattle.std.proofs.lemmas.Bool.{cases_Bool, ltb-true, ltb-false, both_ways, cases_eq}
use Rattle.std.specs.Prelude.{bytes_eq}
use Rattle.std.proofs.lemmas.Option.{none-some}
use Rattle.std.proofs.lemmas.Slice.Eq.{bytes_eq-Decides}
use Rattle.lfs_dirs.proofs.Changes.{number_in-append, number_in-here, number_in-later, number_in-nil, number_in-none}
use Rattle.lfs_dirs.proofs.Changes.{number_in-both, has_name-same, has_name-other, has_name-false, number_in-after}
use Rattle.lfs_dirs.specs.Directory.{Entry, AreEntries, IsEntry, IsDirectoryBlock, has_name, number_in}
use Rattle.lfs_dirs.proofs.Laws.{entries_of-short}
use Rattle.lfs_dirs.specs.Reading.{entries_of}
use Rattle.lfs_model.specs.World.{Rows, child}
use Rattle.lfs_calls.specs.Content.{block_at, entries_below, all_entries, AreBlocks, ListsRows}
use Rattle.lfs_types.proofs.Pieces.{put_over, piece-before, piece-here, piece-behind, length-put_over}

-- ---- an entry put between others

-- another name has the number that it had
pub inserted_other : (name : List ℕ) (e : Entry) (xs ys : List Entry) → e.1 ≢ name → number_in name (xs ++ e ∷ ys)
    ≡ number_in name (xs ++ ys)
inserted_other name e [] ys h = number_in-later name e ys (has_name-other name e h)
inserted_other name e (x ∷ xs) ys h = number_in-after name x (xs ++ e ∷ ys) (xs ++ ys) (inserted_other name e xs ys h)

-- an entry's name has its number
pub inserted_here : (e : Entry) (xs ys : List Entry) → number_in e.1 (xs ++ ys) ≡ None → number_in e.1 (xs ++ e ∷ ys)
    ≡ Some e.0
inserted_here e xs ys h =
    number_in-append e.1 xs (e ∷ ys) (number_in-both e.1 xs ys h).0 ∙ number_in-here e.1 e ys (has_name-same e.1 e refl)

-- entries with one more under a new name are entries
pub AreEntries-inserted : (e : Entry) (xs ys : List Entry) → AreEntries (xs ++ ys) → IsEntry e
    → number_in e.1 (xs ++ ys) ≡ None → AreEntries (xs ++ e ∷ ys)
AreEntries-inserted e [] ys a is none = (is, none, a)
AreEntries-inserted e (x ∷ xs) ys a is none =
    let apart = number_in-none e.1 x (xs ++ ys) none in
    let unlike : e.1 ≢ x.1 = λ same. has_name-false e.1 x apart.0 (sym same) in
    (a.0, inserted_other x.1 e xs ys unlike ∙ a.1, AreEntries-inserted e xs ys a.2 is apart.1)

-- ---- the entries of the blocks from one on

-- the entries of some blocks, from one on
pub entries_from : List ℕ → ℕ → ℕ → List Entry
entries_from bytes j zero = []
entries_from bytes j (suc d) = entries_from bytes j d ++ entries_of (block_at bytes (j + d))

below_from : (bytes : List ℕ) (j d : ℕ) → entries_below bytes (j + d) ≡ entries_below bytes j ++ entries_from bytes j d
unfolding entries_below entries_from
below_from bytes j zero = simp (add-zero, append-nil)
below_from bytes j (suc d) = rw add-suc (ap (λ es. es ++ entries_of (block_at bytes (j + d))) (below_from bytes j d)
    ∙ append_assoc (entries_below bytes j) _ _)

below_next : (bytes : List ℕ) (k : ℕ) → entries_below bytes (k + 1) ≡ entries_below bytes k
    ++ entries_of (block_at bytes k)
unfolding entries_below
below_next bytes k = rw add-one refl

module _ (bytes : List ℕ) (k : ℕ) (new : List ℕ) (size : length new ≡ 512) (within : 512 * k ≤ length bytes) where
  -- the other blocks stay
  pub block_other : (j : ℕ) → j ≢ k → block_at (put_over bytes (512 * k) new) j ≡ block_at bytes j
  block_other j apart = ⊎_elim
      (λ h. let before : j < k = ltb-true j k h in piece-before bytes (512 * k) new within 512 (512 * j) (omega arith))
      (λ h. let behind : k ≤ j = ltb-false j k h in piece-behind bytes (512 * k) new within 512 (512 * j) (omega arith))
      (cases_Bool (nat_lt j k))

  -- the block is the new one
  pub block_new : block_at (put_over bytes (512 * k) new) k ≡ new
  block_new = subst (λ n. take n (drop (512 * k) (put_over bytes (512 * k) new)) ≡ new) size
      (piece-here bytes (512 * k) new within)

  below_same : (m : ℕ) → m ≤ k → entries_below (put_over bytes (512 * k) new) m ≡ entries_below bytes m
  unfolding entries_below
  below_same zero h = refl
  below_same (suc m) h =
      let one : entries_of (block_at (put_over bytes (512 * k) new) m)
      ≡ entries_of (block_at bytes m) = ap entries_of (block_other m (omega arith)) in
      let front = below_same m (omega arith) in
      rw (front, one)

  from_same : (d : ℕ) → entries_from (put_over bytes (512 * k) new) (k + 1) d ≡ entries_from bytes (k + 1) d
  unfolding entries_from
  from_same zero = refl
  from_same (suc d) =
      let one : entries_of (block_at (put_over bytes (512 * k) new) (k + 1 + d))
      ≡ entries_of (block_at bytes (k + 1 + d)) = ap entries_of (block_other (k + 1 + d) (omega arith)) in
      let front = from_same d in
      rw (front, one)

-- A directory's bytes with one of its blocks written, or a block at their end. The entries that the new block adds
-- are put behind those of the old one.
module _ (bytes : List ℕ) (k : ℕ) (new : List ℕ) (size : length new ≡ 512) (whole : length bytes % 512 ≡ 0)
    (within : k ≤ length bytes / 512) where
  inside : 512 * k ≤ length bytes
  inside = omega arith

  -- the count of the blocks behind it
  abbrev pub behind : ℕ
  behind = length bytes / 512 - (k + 1)

  nothing_at_end : k ≡ length bytes / 512 → entries_of (block_at bytes k) ≡ []
  nothing_at_end e = entries_of-short (block_at bytes k) (simp (length-take, length-drop) (omega arith))

  old_whole : entries_below bytes (k + 1 + behind) ≡ (entries_below bytes k ++ entries_of (block_at bytes k))
      ++ entries_from bytes (k + 1) behind
  old_whole = below_from bytes (k + 1) behind ∙ ap (λ es. es ++ entries_from bytes (k + 1) behind) (below_next bytes k)

  old_count : all_entries bytes ≡ entries_below bytes (k + 1 + behind)
  unfolding entries_below
  old_count = ⊎_elim
      (λ h. let before : k < length bytes / 512 = ltb-true k (length bytes / 512) h in
      let count : length bytes / 512 ≡ k + 1 + behind = omega arith in ap (entries_below bytes) count)
      (λ h. let after : length bytes / 512 ≤ k = ltb-false k (length bytes / 512) h in
      let at_end : k ≡ length bytes / 512 = omega arith in
      let count : k + 1 + behind ≡ suc k = omega arith in
      let empty = nothing_at_end at_end in
      rw (count, ← at_end, empty, append-nil))
      (cases_Bool (nat_lt k (length bytes / 512)))

  -- the entries by those before the block, in it and behind it
  pub old_listed : all_entries bytes ≡ (entries_below bytes k ++ entries_of (block_at bytes k))
      ++ entries_from bytes (k + 1) behind
  old_listed = old_count ∙ old_whole

  -- and so with the new block
  pub new_listed : all_entries (put_over bytes (512 * k) new) ≡ (entries_below bytes k ++ entries_of new)
      ++ entries_from bytes (k + 1) behind
  unfolding entries_below
  new_listed =
      let put = put_over bytes (512 * k) new in
      let long : length put ≡ 512 * k + length new
      + (length bytes - (512 * k + length new)) = length-put_over bytes (512 * k) new inside in
      let count : length put / 512 ≡ k + 1 + behind = omega arith in
      let pre = below_same bytes k new size inside k (omega arith) in
      let tail = from_same bytes k new size inside behind in
      let here = ap entries_of (block_new bytes k new size inside) in
      ap (entries_below put) count ∙ below_from put (k + 1) behind ∙ ap (λ t. entries_below put (k + 1) ++ t) tail
      ∙ ap (λ es. es ++ entries_from bytes (k + 1) behind) (below_next put k ∙ rw (pre, here) refl)

  count_new : length (put_over bytes (512 * k) new) / 512 ≡ k + 1 + behind
  count_new =
      let long : length (put_over bytes (512 * k) new) ≡ 512 * k + length new
      + (length bytes - (512 * k + length new)) = length-put_over bytes (512 * k) new inside in
      omega arith

  -- each block is still a directory block
  pub blocks_after : AreBlocks bytes → IsDirectoryBlock new (entries_of new) → AreBlocks (put_over bytes (512 * k) new)
  blocks_after old block j h = ⊎_elim
      (λ e. subst (λ i. IsDirectoryBlock (block_at (put_over bytes (512 * k) new) i)
      (entries_of (block_at (put_over bytes (512 * k) new) i))) (sym e)
      (subst (λ b. IsDirectoryBlock b (entries_of b)) (sym (block_new bytes k new size inside)) block))
      (λ other. subst (λ b. IsDirectoryBlock b (entries_of b)) (sym (block_other bytes k new size inside j other))
      (old j (omega (arith, count_new))))
      (cases_eq j k)

  -- the directory lists what it listed, and one row more
  module _ (rows changed : Rows) (parent number : ℕ) (name : List ℕ)
      (old : ListsRows rows parent bytes)
      (block : IsDirectoryBlock new (entries_of new))
      (adds : entries_of new ≡ entries_of (block_at bytes k) ++ (number, name) ∷ [])
      (entry : IsEntry (number, name))
      (free : child rows parent name ≡ None)
      (here : child changed parent name ≡ Some number)
      (others : (q : List ℕ) → q ≢ name → child changed parent q ≡ child rows parent q) where
    before : List Entry
    before = entries_below bytes k ++ entries_of (block_at bytes k)

    after : List Entry
    after = entries_from bytes (k + 1) behind

    was_listed : all_entries bytes ≡ before ++ after
    unfolding before after
    was_listed = old_listed

    is_listed : all_entries (put_over bytes (512 * k) new) ≡ before ++ (number, name) ∷ after
    unfolding before after
    is_listed = new_listed ∙ rw adds (simp append_assoc)

    absent : number_in name (before ++ after) ≡ None
    absent = sym (ap (number_in name) was_listed) ∙ old.names name ∙ free

    names_after : (q : List ℕ) → number_in q (all_entries (put_over bytes (512 * k) new)) ≡ child changed parent q
    names_after q = ap (number_in q) is_listed ∙ ⊎_elim
        (λ t.
        let same : q ≡ name = (bytes_eq-Decides q name).0 t in
        rw same (inserted_here (number, name) before after absent ∙ sym here))
        (λ t.
        let other : q ≢ name = λ e. both_ways _ t ((bytes_eq-Decides q name).1 e) in
        inserted_other q (number, name) before after (λ e. other (sym e)) ∙ sym (ap (number_in q) was_listed)
        ∙ old.names q ∙ sym (others q other))
        (cases_Bool (bytes_eq q name))

    -- the bytes with the block list the rows with the new one
    pub ListsRows-added : ListsRows changed parent (put_over bytes (512 * k) new)
    ListsRows-added = record {
      blocks = blocks_after old.blocks block;
      distinct = subst AreEntries (sym is_listed)
          (AreEntries-inserted (number, name) before after (subst AreEntries was_listed old.distinct) entry absent);
      names = names_after;
    }

-- ---- a look-up, block by block

-- no blocks have no name
pub absent_at_first : (name : List ℕ) (bytes : List ℕ) → number_in name (entries_below bytes 0) ≡ None
unfolding entries_below
absent_at_first name bytes = number_in-nil name

-- a name that is in none of the first blocks isn't in the next
pub absent_further : (name : List ℕ) (bytes : List ℕ) (k : ℕ) → number_in name (entries_below bytes k) ≡ None
    → number_in name (entries_of (block_at bytes k)) ≡ None → number_in name (entries_below bytes (k + 1)) ≡ None
absent_further name bytes k before here =
    ap (number_in name) (below_next bytes k) ∙ number_in-append name (entries_below bytes k) _ before ∙ here

-- what stands in front is found first
found_first : (name : List ℕ) (n : ℕ) (xs ys : List Entry) → number_in name xs ≡ Some n → number_in name (xs ++ ys)
    ≡ Some n
found_first name n [] ys h = absurd (none-some n (sym (number_in-nil name) ∙ h))
found_first name n (x ∷ xs) ys h = ⊎_elim
    (λ t. number_in-here name x (xs ++ ys) t ∙ sym (number_in-here name x xs t) ∙ h)
    (λ t. number_in-later name x (xs ++ ys) t ∙ found_first name n xs ys (sym (number_in-later name x xs t) ∙ h))
    (cases_Bool (has_name name x))

-- a name that is in a block and in none before it is found there
pub found_in_block : (name : List ℕ) (bytes : List ℕ) (k n : ℕ) → k < length bytes / 512
    → number_in name (entries_below bytes k) ≡ None → number_in name (entries_of (block_at bytes k)) ≡ Some n
    → number_in name (all_entries bytes) ≡ Some n
found_in_block name bytes k n h before here =
    let count : length bytes / 512 ≡ k + 1 + (length bytes / 512 - (k + 1)) = omega arith in
    ap (λ m. number_in name (entries_below bytes m)) count
    ∙ ap (number_in name) (below_from bytes (k + 1) (length bytes / 512 - (k + 1)))
    ∙ found_first name n (entries_below bytes (k + 1)) _ (ap (number_in name) (below_next bytes k)
    ∙ number_in-append name (entries_below bytes k) _ before ∙ here)

-- a name that isn't listed is in no block
pub absent_in_block : (name : List ℕ) (bytes : List ℕ) (k : ℕ) → k < length bytes / 512
    → number_in name (all_entries bytes) ≡ None → number_in name (entries_of (block_at bytes k)) ≡ None
absent_in_block name bytes k h none =
    let count : length bytes / 512 ≡ k + 1 + (length bytes / 512 - (k + 1)) = omega arith in
    let all = ap (number_in name) (sym (ap (entries_below bytes) count
    ∙ below_from bytes (k + 1) (length bytes / 512 - (k + 1)))) ∙ none in
    let front = (number_in-both name (entries_below bytes (k + 1)) _ all).0 in
    (number_in-both name (entries_below bytes k) (entries_of (block_at bytes k))
    (sym (ap (number_in name) (below_next bytes k)) ∙ front)).1

-- behind the last block of a directory's bytes there is no entry
pub none_at_end : (bytes : List ℕ) → length bytes % 512 ≡ 0 → entries_of (block_at bytes (length bytes / 512)) ≡ []
none_at_end bytes h = entries_of-short (block_at bytes (length bytes / 512))
    (simp (length-take, length-drop) (omega arith))

-- ---- a directory that lists nothing

append_nothing : {A : Type 0} (xs ys : List A) → xs ++ ys ≡ [] → (xs ≡ []) × (ys ≡ [])
append_nothing [] ys h = (refl, h)
append_nothing (x ∷ xs) ys h = absurd (cc)

-- no blocks have no entries
pub nothing_at_first : (bytes : List ℕ) → entries_below bytes 0 ≡ []
unfolding entries_below
nothing_at_first bytes = refl

-- where the first blocks have no entry and the next has none, the blocks up to it have none
pub nothing_further : (bytes : List ℕ) (k : ℕ) → entries_below bytes k ≡ [] → entries_of (block_at bytes k) ≡ []
    → entries_below bytes (k + 1) ≡ []
nothing_further bytes k before here = below_next bytes k ∙ rw (before, here) refl

-- where nothing is listed, no block has an entry
pub nothing_in_block : (bytes : List ℕ) (k : ℕ) → k < length bytes / 512 → all_entries bytes ≡ []
    → entries_of (block_at bytes k) ≡ []
nothing_in_block bytes k h none =
    let behind = length bytes / 512 - (k + 1) in
    let count : length bytes / 512 ≡ k + 1 + behind = omega arith in
    let all = sym (ap (entries_below bytes) count ∙ below_from bytes (k + 1) behind) ∙ none in
    let front = (append_nothing (entries_below bytes (k + 1)) (entries_from bytes (k + 1) behind) all).0 in
    (append_nothing (entries_below bytes k) (entries_of (block_at bytes k)) (sym (below_next bytes k) ∙ front)).1
