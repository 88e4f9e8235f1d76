-- `collecting::to_land` lists an entry for each block that waits, turn by turn, and then one for each four records:
-- `collected_more`, `collected`, with `collected_room` and `all_entries`. Each key is in just one of three turns, as
-- its rank is below 3 (`rank_of-few`), so the order is as long as the list of keys (`in_order-length`, by induction on
-- it). They fit one summary: 24 frames and the 16 blocks of 64 records are its 40 entries; a higher limit of either
-- needs a second one.
use Rattle.std.proofs.Common.{◌≡◌, ◌≢◌, ℕ, zero, suc, ◌+◌, ◌<◌, ◌≤◌, List, [], ◌∷◌, ◌++◌, All, Bool, true, false}
use Rattle.std.proofs.Common.{length, map, replicate, take, drop, get_or, cond, refl, sym, ap, ◌∙◌, subst, inl, inr}
use Rattle.std.proofs.Common.{arith, length-append}
use Rattle.std.specs.List.{filter}
use Rattle.std.proofs.lemmas.Bool.{cases_eq, cases_lt, eq-eqb, false≢true, ne_eqb}
use Rattle.std.proofs.lemmas.List.{length-map, map-append, length-replicate, take-append-drop}
use Rattle.std.proofs.lemmas.List.Elements.{All-append, All-filter, All-map, All-replicate, filter-append}
use Rattle.std.proofs.lemmas.List.Filters.{length-filter_more}
use Rattle.lfs_segments.specs.declared.entry.SummaryEntry.{SummaryEntry}
use Rattle.lfs_cache.specs.declared.key.Key.{Key}
use Rattle.lfs_segments.specs.Entry.{IsEntry, IsFileNumber}
use Rattle.lfs_ifile.specs.Inode.{fresh_row}
use Rattle.lfs_ifile.specs.Tables.{row_of}
use Rattle.lfs_cache.specs.Contents.{IsLocked, keys_of}
use Rattle.lfs_cache.proofs.CallerLemmas.{listed_has_block}
use Rattle.lfs_cache.proofs.Entries.{same_self}
use Rattle.lfs_bmap.specs.declared.blocks.FileBlock.{FileBlock}
use Rattle.lfs_bmap.specs.declared.blocks.FileBlock.TheVariants.{Record, Single, Double, Child, Data}
use Rattle.lfs_bmap.specs.Blocks.{IsFileBlock, block_with, code_of, logical_of}
use Rattle.lfs_bmap.specs.Tables.{rank_of}
use Rattle.lfs_bmap.proofs.BlockLemmas.{block_with-code_of}
use Rattle.lfs_bmap.proofs.TableLemmas.{rank_of-few}
use Rattle.lfs_parts.specs.Store.{AreFiles, IsBlockCode}
use Rattle.lfs_parts.specs.declared.parts.Parts.{Parts}
use Rattle.lfs_segwrite.specs.Collecting.{entries_of, entry_of, in_order, in_turns, inode_blocks, is_of}
use Rattle.lfs_parts.specs.Opening.{inodes_entry}
use Rattle.lfs_parts.proofs.SameLogLemmas.{used_low}

-- ---- the order
pub filter_yes : (p : Key → Bool) (n : Key) (ns : List Key) → p n ≡ true → filter p (n ∷ ns) ≡ n ∷ filter p ns
filter_yes p n ns holds = ap (λ b. cond b (n ∷ filter p ns) (filter p ns)) holds

pub filter_no : (p : Key → Bool) (n : Key) (ns : List Key) → p n ≡ false → filter p (n ∷ ns) ≡ filter p ns
filter_no p n ns fails = ap (λ b. cond b (n ∷ filter p ns) (filter p ns)) fails

pub in_turns-none : (keys : List Key) → in_turns 0 keys ≡ []
unfolding in_turns
in_turns-none keys = refl

pub in_turns-more : (n : ℕ) (keys : List Key) → in_turns (suc n) keys ≡ in_turns n keys ++ filter (is_of n) keys
unfolding in_turns
in_turns-more n keys = refl

-- one key more is in the turns behind its own, once
turns_length : (n : ℕ) (keys : List Key) → length (in_turns (suc n) keys) ≡ length (in_turns n keys)
    + length (filter (is_of n) keys)
turns_length n keys = ap (λ (ks : List Key). length ks) (in_turns-more n keys)
    ∙ length-append (in_turns n keys) (filter (is_of n) keys)

turns_without : (n : ℕ) (k : Key) (keys : List Key) → n ≤ rank_of k.lbn.0 → length (in_turns n (k ∷ keys))
    ≡ length (in_turns n keys)
turns_without zero k keys past = ap (λ (ks : List Key). length ks) (in_turns-none (k ∷ keys)
    ∙ sym (in_turns-none keys))
turns_without (suc n) k keys past =
    let before = turns_without n k keys (omega arith) in
    let same = ap (λ (ks : List Key). length ks)
    (filter_no (is_of n) k keys (ne_eqb (rank_of k.lbn.0) n (λ e. omega arith))) in
    let first = turns_length n (k ∷ keys) in
    let second = turns_length n keys in
    omega arith

turns_with : (n : ℕ) (k : Key) (keys : List Key) → rank_of k.lbn.0 < n → length (in_turns n (k ∷ keys))
    ≡ length (in_turns n keys) + 1
turns_with zero k keys low = absurd (omega arith)
turns_with (suc n) k keys low =
    let first = turns_length n (k ∷ keys) in
    let second = turns_length n keys in
    elim (cases_eq (rank_of k.lbn.0) n) [
      | inl is ↦
          let before = turns_without n k keys (omega arith) in
          let more = ap (λ (ks : List Key). length ks) (filter_yes (is_of n) k keys (eq-eqb (rank_of k.lbn.0) n is)) in
          omega arith
      | inr other ↦
          let before = turns_with n k keys (omega arith) in
          let same = ap (λ (ks : List Key). length ks) (filter_no (is_of n) k keys (ne_eqb (rank_of k.lbn.0) n other)) in
          omega arith
    ]

pub in_order-length : (keys : List Key) → length (in_order keys) ≡ length keys
in_order-length [] = turns_empty 3
  where
    turns_empty : (n : ℕ) → length (in_turns n []) ≡ 0
    turns_empty zero = ap (λ (ks : List Key). length ks) (in_turns-none [])
    turns_empty (suc n) = let before = turns_empty n in let more = turns_length n [] in omega arith
in_order-length (k ∷ keys) = let more = turns_with 3 k keys (rank_of-few k.lbn.0) in let rest = in_order-length keys in
    omega arith

-- as far as a turn there are no more than in all
turns_grow : (keys : List Key) (n m : ℕ) → n ≤ m → length (in_turns n keys) ≤ length (in_turns m keys)
turns_grow keys n zero less = let none : n
    ≡ 0 = omega arith in subst (λ k. length (in_turns k keys) ≤ length (in_turns 0 keys)) (sym none) (omega arith)
turns_grow keys n (suc m) less = elim (cases_eq n (suc m)) [
  | inl is ↦ subst (λ k. length (in_turns k keys) ≤ length (in_turns (suc m) keys)) (sym is) (omega arith)
  | inr other ↦ let before = turns_grow keys n m (omega arith) in let more = turns_length m keys in omega arith
]

pub turns_most : (n : ℕ) (keys : List Key) → n ≤ 3 → length (in_turns n keys) ≤ length keys
turns_most n keys few = let whole = in_order-length keys in let grows = turns_grow keys n 3 few in omega arith

-- what holds of the keys holds of them in order
pub in_turns-each : (P : Key → Type 0) (n : ℕ) (keys : List Key) → All P keys → All P (in_turns n keys)
in_turns-each P zero keys all = subst (All P) (sym (in_turns-none keys)) (λ k d low. absurd (omega arith))
in_turns-each P (suc n) keys all =
    subst (All P) (sym (in_turns-more n keys))
    (All-append P (in_turns n keys) (filter (is_of n) keys) (in_turns-each P n keys all)
    (All-filter (is_of n) P keys all))

-- how many entries there are
pub entries_of-length : (p : Parts) → length (entries_of p) ≡ length p.cache.locked + inode_blocks (length p.waiting)
unfolding entries_of
entries_of-length p =
    let keys = keys_of p.cache.locked in
    let blocks = inode_blocks (length p.waiting) in
    let whole = length-append (map entry_of (in_order keys)) (replicate blocks inodes_entry) in
    let mapped = length-map (in_order keys) entry_of in
    let ordered = in_order-length keys in
    let locked = length-map p.cache.locked (λ e. e.0) in
    let last = length-replicate blocks inodes_entry in
    omega arith

-- a part of a list has no more that pass
pub filter_part : {X : Type 0} (p : X → Bool) (xs : List X) (n : ℕ)
    → length (filter p (take n xs)) ≤ length (filter p xs)
filter_part p xs n =
    let split = ap (λ ys. length (filter p ys)) (take-append-drop n xs) in
    let parts = ap length (filter-append p (take n xs) (drop n xs)) in
    let whole = length-append (filter p (take n xs)) (filter p (drop n xs)) in
    omega arith

-- room for a key of the turn that is still to come
pub turn_room : (n : ℕ) (keys : List Key) (i : ℕ) (key : Key) → i < length keys → is_of n (get_or keys i key) ≡ true
    → length (filter (is_of n) (take i keys)) + 1 ≤ length (filter (is_of n) keys)
turn_room n keys i key low is =
    let more = length-filter_more (is_of n) keys i key low in
    let one : cond {A = ℕ} (is_of n (get_or keys i key)) 1 0 ≡ 1 = ap (λ b. cond {A = ℕ} b 1 0) is in
    let part = filter_part (is_of n) keys (i + 1) in
    omega arith

-- one turn more is collected
pub collected_more : (l m : List SummaryEntry) (n : ℕ) (keys : List Key) → l ≡ map entry_of (in_turns n keys) → m ≡ l
    ++ map entry_of (filter (is_of n) keys)
    → m ≡ map entry_of (in_turns (n + 1) keys)
collected_more l m n keys before more =
    let next : suc n ≡ n + 1 = omega arith in
    more ∙ ap (λ es. es ++ map entry_of (filter (is_of n) keys)) before
    ∙ sym (map-append entry_of (in_turns n keys) (filter (is_of n) keys))
    ∙ ap (map entry_of) (sym (in_turns-more n keys)) ∙ ap (λ k. map entry_of (in_turns k keys)) next

-- and fits
pub collected_room : (l : List SummaryEntry) (n : ℕ) (keys : List Key) → l ≡ map entry_of (in_turns n keys) → n < 3
    → length keys ≤ 24
    → length l + length (filter (is_of n) keys) ≤ 40
collected_room l n keys is low few =
    let many = ap (λ (es : List SummaryEntry). length es) is in
    let mapped = length-map (in_turns n keys) entry_of in
    let more = turns_length n keys in
    let most = turns_most (suc n) keys (omega arith) in
    omega arith

pub collected_none : (keys : List Key) → map entry_of (in_turns 0 keys) ≡ []
collected_none keys = ap (map entry_of) (in_turns-none keys)

-- with the records that is all
pub collected : (p : Parts) (l m : List SummaryEntry) (keys : List Key) (blocks : ℕ) → l ≡ map entry_of (in_order keys)
    → m ≡ l ++ replicate blocks inodes_entry
    → keys ≡ keys_of p.cache.locked → blocks ≡ inode_blocks (length p.waiting) → m ≡ entries_of p
unfolding entries_of
collected p l m keys blocks before more is many =
    more ∙ ap (λ es. es ++ replicate blocks inodes_entry) before
    ∙ ap (λ (ks : List Key). map entry_of (in_order ks) ++ replicate blocks inodes_entry) is
    ∙ ap (λ n. map entry_of (in_order (keys_of p.cache.locked)) ++ replicate n inodes_entry) many

-- ---- each entry is one that a summary can have
number_of : (p : Parts) (number : ℕ) → AreFiles p → (row_of p.log.tables number).used ≡ true → IsFileNumber number
number_of p number files used = record {
  above = elim (cases_lt number 2) [
    | inl low ↦ absurd (false≢true (sym (files.reserved number (omega arith) (λ e. omega arith)) ∙ used))
    | inr high ↦ high
  ];
  not_three = λ e. false≢true (sym (files.reserved number (omega arith) (λ two. omega arith)) ∙ used);
  below = let most = files.parts.formed.inodes_most in let low = used_low p number used in omega arith;
}

version_from : (p : Parts) (number : ℕ) → AreFiles p → (row_of p.log.tables number).used ≡ true
    → 1 ≤ (row_of p.log.tables number).version
version_from p number files used = (files.parts.formed.each_row number fresh_row (used_low p number used)).given_out
    used

-- what a summary says of a key that waits names a block that a file can have
pub coded_entry : (key : Key) → (h : IsBlockCode key.lbn.0) → block_with key.lbn.0 ≡ h.block
coded_entry key h = ap block_with (sym h.coded) ∙ block_with-code_of h.block h.is

entry_block : (b : FileBlock) → IsFileBlock b → code_of b ≢ 0 → (number version : ℕ) → IsFileNumber number → 1 ≤ version
    → IsEntry (record { number = number; version = version; block = logical_of b })
entry_block Record is other number version named given = absurd (other refl)
entry_block Single is other number version named given = record { block = tt; owner = (named, given) }
entry_block Double is other number version named given = record { block = tt; owner = (named, given) }
entry_block (Child k) is other number version named given = record { block = is; owner = (named, given) }
entry_block (Data k) is other number version named given = record { block = is; owner = (named, given) }

key_entry : (p : Parts) (key : Key) → AreFiles p → IsLocked key p.cache → IsEntry (entry_of key)
key_entry p key files locked =
    let there = files.frames key locked in
    let number = number_of p key.ino files there.in_use in
    let version : 1 ≤ key.version = subst (λ v. 1 ≤ v) (sym there.at_version)
    (version_from p key.ino files there.in_use) in
    let h = files.coded key locked in
    subst (λ b. IsEntry (record { number = key.ino; version = key.version; block = logical_of b }))
    (sym (coded_entry key h))
    (entry_block h.block h.is (λ e. h.other (sym h.coded ∙ e)) key.ino key.version number version)

pub all_entries : (p : Parts) → AreFiles p → All IsEntry (entries_of p)
unfolding entries_of
all_entries p files =
    let keys = keys_of p.cache.locked in
    let each : All (λ (key : Key). IsEntry (entry_of key)) keys =
    λ k d low. key_entry p (get_or keys k d) files
    (listed_has_block (get_or keys k d) p.cache.locked k d low (same_self (get_or keys k d))) in
    All-append IsEntry (map entry_of (in_order keys)) (replicate (inode_blocks (length p.waiting)) inodes_entry)
    (All-map IsEntry entry_of (in_order keys) (in_turns-each (λ (key : Key). IsEntry (entry_of key)) 3 keys each))
    (All-replicate IsEntry (inode_blocks (length p.waiting)) inodes_entry (record { block = tt; owner = (refl, refl) }))
