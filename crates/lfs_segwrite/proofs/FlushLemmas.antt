-- `flushing::flush` writes all that waits, blocks first and then records: `keys_more` for `land_blocks`,
-- `remains_fewer` for `land_all_records`, `flush_moves` for the whole. Of the keys in order the first k are written, the
-- others wait, and the log expects the entries from k on (`LandsKeys`); then come the records by four (`Remains`). The
-- hard part is that no block waits whose address the next one holds (`IsNext`): such a block has a lower rank, and so
-- came before; by another order an indirect block would be written without an address.
use Rattle.std.proofs.Common.{◌≡◌, ◌≢◌, ℕ, zero, suc, ◌+◌, ◌-◌, ◌*◌, ◌<◌, ◌≤◌, List, [], ◌∷◌, ◌++◌, length, map}
use Rattle.std.proofs.Common.{replicate, take, drop, get_or, IsSome, is_some, true, false, refl, sym, ap, ◌∙◌, subst, inl, inr}
use Rattle.std.proofs.Common.{⊎_elim, length-append, arith}
use Rattle.std.specs.Prelude.{◌==◌, Bool, if◌then◌else◌}
use Rattle.std.proofs.lemmas.Bool.Decides.{nat_tests}
use Rattle.std.proofs.lemmas.Bool.{cases_eq, cases_lt, cond-true, cond-false, eq-eqb, ne_eqb, false≢true}
use Rattle.std.proofs.lemmas.List.{drop_at, drop_more, get_or-append_right, get_or-replicate, get_or-take, get_or_default}
use Rattle.std.proofs.lemmas.List.{length-map, length-replicate, length-take-le}
use Rattle.lfs_cache.specs.declared.key.Key.{Key}
use Rattle.lfs_cache.specs.Contents.{AreApart, Contents, IsLocked, Lacks, block_in, keys_of}
use Rattle.lfs_cache.specs.Keys.{same_key}
use Rattle.lfs_cache.proofs.Entries.{same_cases, same_is, same_self}
use Rattle.lfs_segments.specs.declared.entry.SummaryEntry.{SummaryEntry}
use Rattle.lfs_segments.specs.Entry.{unused}
use Rattle.lfs_segments.specs.Log.{Expects, Extends, IsOlder}
use Rattle.lfs_segments.specs.Memory.{block_at, next_address}
use Rattle.lfs_segments.proofs.LogLemmas.{entry_at-same}
use Rattle.lfs_inodes.specs.declared.inode.Inode.{Inode}
use Rattle.lfs_recovery.specs.Whole.{ends_in_inodes, has_record, is_inodes}
use Rattle.lfs_found.specs.Written.{IsRecoverable, WritesEntries}
use Rattle.lfs_bmap.specs.declared.blocks.FileBlock.{FileBlock}
use Rattle.lfs_bmap.specs.Blocks.{IsFileBlock, block_with, code_of, file_block_of, logical_of, table_of, way_to}
use Rattle.lfs_bmap.specs.Tables.{rank_of}
use Rattle.lfs_bmap.proofs.HolderLemmas.{table_of-is, table_of-way}
use Rattle.lfs_bmap.proofs.TableLemmas.{rank_of-table}
use Rattle.lfs_parts.specs.declared.parts.Parts.{Parts}
use Rattle.lfs_segwrite.specs.Collecting.{blocks_of_entries, entries_of, entry_of, in_order, inode_blocks}
use Rattle.lfs_segwrite.specs.Flushing.{Flushes, Waits}
use Rattle.lfs_parts.specs.Opening.{inodes_entry}
use Rattle.lfs_segwrite.specs.Ordered.{IsOrdered}
use Rattle.lfs_segwrite.specs.Recording.{Advances, AreNoted, entry_at_version}
use Rattle.lfs_staging.specs.Staging.{IsStaged}
use Rattle.lfs_parts.specs.Store.{AreFiles, IsBlockCode, IsFlushed}
use Rattle.lfs_parts.specs.View.{key_of, version_of, waiting_in}
use Rattle.lfs_bmap.proofs.BlockLemmas.{file_block_of-logical, logical_of-file_block}
use Rattle.lfs_segwrite.proofs.CollectingLemmas.{coded_entry, entries_of-length, in_order-length}
use Rattle.lfs_segwrite.proofs.OrderLemmas.{entries_of-block, in_order-after, in_order-locked}
use Rattle.lfs_segwrite.proofs.PlacedLemmas.{noted_more}
use Rattle.lfs_segwrite.proofs.AdvanceLemmas.{Advances-refl, Advances-trans}
use Rattle.lfs_parts.proofs.HeldLemmas.{locked_apart}
use Rattle.lfs_staging.proofs.KeptLemmas.{staged_store}
use Rattle.lfs_bmap.proofs.WayLemmas.{same_code, way_of-code_of}
use Rattle.lfs_bmap.specs.Ways.{way_of}

-- ---- the records
-- how many blocks are to come, and one of them less
pub record Remains (old p : Parts) : Type 0 where
  pub staged : IsStaged p 0
  pub no_frame : p.cache.locked ≡ []
  pub expected : Expects p.log.memory (replicate (inode_blocks (length p.waiting)) inodes_entry)
  pub advances : (from : ℕ) → from ≤ next_address old.log.memory → Advances from old p
  pub next : next_address p.log.memory + inode_blocks (length p.waiting) ≡ next_address old.log.memory
      + inode_blocks (length old.waiting)
  pub last : length p.waiting < length old.waiting → has_record p.log.memory (next_address p.log.memory - 1) ≡ true
  pub noted : AreNoted p (next_address old.log.memory)

pub one_block : (n : ℕ) → 0 < n → replicate (inode_blocks n) inodes_entry ≡ inodes_entry
    ∷ replicate (inode_blocks (n - 4)) inodes_entry
one_block n some = ap (λ m. replicate m inodes_entry) (let e : inode_blocks n
    ≡ suc (inode_blocks (n - 4)) = omega arith in e)

pub remains_fewer : (old p q : Parts) → Remains old p → 0 < length p.waiting → IsStaged q 0
    → ((from : ℕ) → from ≤ next_address p.log.memory → Advances from p q)
    → length q.waiting ≡ length p.waiting - 4 → q.cache ≡ p.cache
    → ((rest : List SummaryEntry) → Expects p.log.memory (inodes_entry ∷ rest) → Expects q.log.memory rest)
    → next_address q.log.memory ≡ next_address p.log.memory + 1
    → has_record q.log.memory (next_address p.log.memory) ≡ true → AreNoted q (next_address p.log.memory)
    → Remains old q
remains_fewer old p q h some staged advances count cache expects next first noted = record {
  staged = staged;
  no_frame = ap (λ (c : Contents). c.locked) cache ∙ h.no_frame;
  expected = subst (λ n. Expects q.log.memory (replicate (inode_blocks n) inodes_entry)) (sym count)
      (expects (replicate (inode_blocks (length p.waiting - 4)) inodes_entry)
      (subst (Expects p.log.memory) (one_block (length p.waiting) some) h.expected));
  advances = λ from low. Advances-trans from old p q (h.advances from low)
      (advances from (let next = (h.advances from low).next in omega arith));
  next = let before = h.next in omega arith;
  last = λ less.
      let at : next_address q.log.memory - 1 ≡ next_address p.log.memory = omega arith in
      ap (has_record q.log.memory) at ∙ first;
  noted = noted_more p q (next_address old.log.memory) h.noted (advances (next_address p.log.memory) (omega arith)) noted;
}

-- a list that is not empty
pub some_left : (len n : ℕ) {b : Bool} → len ≡ n → b ≡ (len == 0) → b ≡ false → 0 < n
some_left len n same test fails = grind (arith, nat_tests)

-- ---- the blocks
apart_turned : (a b : Key) → same_key a b ≡ false → same_key b a ≡ false
apart_turned a b apart = elim (same_cases b a) [
  | inl same ↦ absurd (false≢true (sym apart ∙ subst (λ k. same_key a k ≡ true) (sym (same_is b a same)) (same_self a)))
  | inr other ↦ other
]

lacks_at : (k : Key) (ns : List Key) (i : ℕ) (d : Key) → Lacks k ns → i < length ns → same_key (get_or ns i d) k ≡ false
lacks_at k [] i d lacks low = absurd (omega arith)
lacks_at k (n ∷ ns) zero d lacks low = lacks.0
lacks_at k (n ∷ ns) (suc i) d lacks low = lacks_at k ns i d lacks.1 (omega arith)

apart_at : (ns : List Key) (j i : ℕ) (d e : Key) → AreApart ns → j < i → i < length ns
    → same_key (get_or ns j d) (get_or ns i e) ≡ false
apart_at [] j i d e apart before low = absurd (omega arith)
apart_at (n ∷ ns) j zero d e apart before low = absurd (omega arith)
apart_at (n ∷ ns) zero (suc i) d e apart before low =
    apart_turned (get_or ns i e) n (lacks_at n ns i e apart.0 (omega arith))
apart_at (n ∷ ns) (suc j) (suc i) d e apart before low = apart_at ns j i d e apart.1 (omega arith) (omega arith)

-- the keys that wait, in the order in which they are written
abbrev pub ordered : Parts → List Key
ordered p = in_order (keys_of p.cache.locked)

pub ordered-length : (p : Parts) → length (ordered p) ≡ length p.cache.locked
ordered-length p = in_order-length (keys_of p.cache.locked) ∙ length-map p.cache.locked (λ e. e.0)

-- the first ones of them are written, and the others wait
pub record LandsKeys (old p : Parts) (k : ℕ) : Type 0 where
  pub apart : AreApart (ordered old)
  pub staged : IsStaged p 0
  pub each : (key : Key) → IsLocked key p.cache → (i : ℕ) × (k ≤ i) × (i < length (ordered old))
      × (get_or (ordered old) i key ≡ key)
  pub only : (i : ℕ) (d : Key) → k ≤ i → i < length (ordered old) → IsLocked (get_or (ordered old) i d) p.cache
  pub expected : Expects p.log.memory (drop k (entries_of old))
  pub advances : (from : ℕ) → from ≤ next_address old.log.memory → Advances from old p
  pub count : length p.waiting ≡ length old.waiting
  pub next : next_address p.log.memory ≡ next_address old.log.memory + k

pub keys_first : (p : Parts) → IsStaged p 0 → Expects p.log.memory (entries_of p) → LandsKeys p p 0
keys_first p staged expected =
    let locked = in_order-locked p.cache (locked_apart p.cache staged.whole.cache) in
    record {
      apart = locked.once;
      staged = staged;
      each = λ key waits. let there = locked.each key waits in (there.0, omega arith, there.1, there.2);
      only = λ i d _ low. locked.only i d low;
      expected = expected;
      advances = λ from low. Advances-refl from p;
      count = refl;
      next = omega arith;
    }

-- a key as a block of a file
record NamesKey (key : Key) (block : FileBlock) : Type 0 where
  pub can : IsFileBlock block
  pub other : code_of block ≢ 0
  pub code : code_of block ≡ key.lbn.0

names_key : (p : Parts) (key : Key) → AreFiles p → IsLocked key p.cache
    → NamesKey key (file_block_of (entry_of key).block)
names_key p key files locked =
    let h = files.coded key locked in
    subst (NamesKey key) (sym (file_block_of-logical (block_with key.lbn.0) ∙ coded_entry key h))
    (record { can = h.is; other = λ e. h.other (sym h.coded ∙ e); code = h.coded })

-- the next entry is of a key that waits, of this block of its number
pub record IsNext (old p : Parts) (k : ℕ) (entry : SummaryEntry) (block : FileBlock) : Type 0 where
  pub can : IsFileBlock block
  pub other : code_of block ≢ 0
  pub waits : IsLocked (key_of entry.number (version_of p entry.number) (code_of block)) p.cache
  pub free : (key : Key) → IsLocked key p.cache → key.ino ≡ entry.number → (i : ℕ) → way_of key.lbn.0 ≡ i ∷ way_to block
      → ⊥
  pub same : entry_at_version p entry.number block ≡ entry
  pub split : drop k (entries_of old) ≡ entry ∷ drop (k + 1) (entries_of old)
  pub key : (d : Key) → get_or (ordered old) k d ≡ key_of entry.number (version_of p entry.number) (code_of block)

-- a block that holds the address of another one has a later turn
later_turn : (block : FileBlock) (code i : ℕ) → IsFileBlock block → IsBlockCode code → code_of block ≢ 0 → way_of code
    ≡ i ∷ way_to block → rank_of code < rank_of (code_of block)
later_turn block code i can h other way =
    let up : way_to (table_of h.block) ≡ way_to block =
    table_of-way h.block h.is i (way_to block) (sym (way_of-code_of h.block h.is) ∙ ap way_of h.coded ∙ way) in
    let same : code_of (table_of h.block) ≡ code_of block =
    same_code (code_of (table_of h.block)) (code_of block)
    (way_of-code_of (table_of h.block) (table_of-is h.block h.is) ∙ up ∙ sym (way_of-code_of block can)) in
    let less = rank_of-table h.block h.is (λ e. other (sym same ∙ e)) in
    let first = ap rank_of h.coded in
    let second = ap rank_of same in
    omega arith

next_key : (old p : Parts) (k : ℕ) (entry : SummaryEntry) → LandsKeys old p k → k < length old.cache.locked → entry
    ≡ get_or (entries_of old) k entry
    → IsNext old p k entry (file_block_of entry.block)
next_key old p k entry h low at =
    let d : Key = key_of 0 0 0 in
    let key = get_or (ordered old) k d in
    let many = ordered-length old in
    let whole = entries_of-length old in
    let locked : IsLocked key p.cache = h.only k d (omega arith) (omega arith) in
    let is : entry ≡ entry_of key = at ∙ entries_of-block old k d entry low in
    let present = h.staged.whole.frames key locked in
    let names = names_key p key h.staged.whole locked in
    let block : FileBlock = file_block_of (entry_of key).block in
    let here : key_of key.ino (version_of p key.ino) (code_of block) ≡ key
    = ap (λ m. key_of key.ino m (code_of block)) (sym present.at_version)
    ∙ ap (λ c. key_of key.ino key.version c) names.code in
    let made : IsNext old p k (entry_of key) block = record {
      can = names.can;
      other = names.other;
      waits = subst (λ x. IsLocked x p.cache) (sym here) locked;
      free = λ other waits number i way.
          let there = h.each other waits in
          let less = later_turn block other.lbn.0 i names.can (h.staged.whole.coded other waits) names.other way in
          let after = in_order-after (keys_of old.cache.locked) k there.0 d there.1 there.2 in
          let at = ap (λ (x : Key). rank_of x.lbn.0) (get_or_default (ordered old) there.0 d other there.2 ∙ there.3) in
          let own = ap rank_of names.code in
          omega arith;
      same = ap (λ m. record { number = key.ino; version = m; block = logical_of block }) (sym present.at_version)
          ∙ ap (λ b. record { number = key.ino; version = key.version; block = b })
          (logical_of-file_block (entry_of key).block);
      split = drop_more (entries_of old) k entry (omega arith)
          ∙ ap (λ e. e ∷ drop (k + 1) (entries_of old)) (sym at ∙ is);
      key = λ e. get_or_default (ordered old) k e d (omega arith) ∙ sym here;
    } in
    subst (λ (e : SummaryEntry). IsNext old p k e (file_block_of e.block)) (sym is) made

-- how many entries are of blocks
pub taken_count : (p : Parts) (n : ℕ) (entries : List SummaryEntry) → entries ≡ entries_of p → n ≡ length p.cache.locked
    → length (take n entries) ≡ n
taken_count p n entries all many =
    let whole = entries_of-length p in
    let same = ap (λ (es : List SummaryEntry). length es) all in
    length-take-le n entries (omega arith)

pub next_at : (old p : Parts) (n k : ℕ) (entries : List SummaryEntry) (d : SummaryEntry) (block : FileBlock)
    → LandsKeys old p k → entries ≡ entries_of old → n ≡ length old.cache.locked → k < n
    → block ≡ file_block_of (get_or (take n entries) k d).block → IsNext old p k (get_or (take n entries) k d) block
next_at old p n k entries d block h all many low is =
    let entry = get_or (take n entries) k d in
    let whole = entries_of-length old in
    let at : entry ≡ get_or (entries_of old) k entry
    = get_or-take n entries k d low ∙ ap (λ es. get_or es k d) all
    ∙ get_or_default (entries_of old) k d entry (omega arith) in
    subst (IsNext old p k entry) (sym is) (next_key old p k entry h (omega arith) at)

pub keys_more : (old p q : Parts) (k : ℕ) (entry : SummaryEntry) (block : FileBlock) → LandsKeys old p k
    → k < length old.cache.locked → IsNext old p k entry block → IsStaged q 0
    → ((from : ℕ) → from ≤ next_address p.log.memory → Advances from p q)
    → ((rest : List SummaryEntry) → Expects p.log.memory (entry_at_version p entry.number block ∷ rest)
    → Expects q.log.memory rest)
    → (IsLocked (key_of entry.number (version_of p entry.number) (code_of block)) q.cache → ⊥)
    → ((key : Key) → same_key (key_of entry.number (version_of p entry.number) (code_of block)) key ≡ false
    → IsLocked key p.cache → IsLocked key q.cache)
    → ((key : Key) → IsLocked key q.cache → IsLocked key p.cache) → length q.waiting ≡ length p.waiting
    → next_address q.log.memory ≡ next_address p.log.memory + 1 → LandsKeys old q (k + 1)
keys_more old p q k entry block h low next staged advances expects gone others only count further =
    let many = ordered-length old in
    record {
      apart = h.apart;
      staged = staged;
      each = λ key locked.
          let there = h.each key (only key locked) in
          let later : k + 1 ≤ there.0 = elim (cases_eq there.0 k) [
            | inl e ↦ absurd (gone (subst (λ x. IsLocked x q.cache) (sym there.3
                ∙ ap (λ i. get_or (ordered old) i key) e ∙ next.key key) locked))
            | inr ne ↦ let from = there.1 in omega arith
          ] in
          (there.0, later, there.2, there.3);
      only = λ i d later inside.
          others (get_or (ordered old) i d) (subst (λ x. same_key x (get_or (ordered old) i d) ≡ false) (next.key d)
          (apart_at (ordered old) k i d d h.apart (omega arith) inside))
          (h.only i d (omega arith) inside);
      expected = expects (drop (k + 1) (entries_of old))
          (subst (λ e. Expects p.log.memory (e ∷ drop (k + 1) (entries_of old))) (sym next.same)
          (subst (Expects p.log.memory) next.split h.expected));
      advances = λ from first. Advances-trans from old p q (h.advances from first)
          (advances from (let later = (h.advances from first).next in omega arith));
      count = count ∙ h.count;
      next = let before = h.next in omega arith;
    }

-- at the end none waits
none_locked : (es : List (Key × List ℕ)) → ((key : Key) → IsSome (block_in key es) → ⊥) → es ≡ []
none_locked [] none = refl
none_locked (e ∷ es) none = absurd (none e.0 (ap is_some (cond-true _ _ _ (same_self e.0))))

pub keys_end : (old p : Parts) (k : ℕ) → LandsKeys old p k → length old.cache.locked ≤ k → p.cache.locked ≡ []
keys_end old p k h end = none_locked p.cache.locked
    (λ key locked. let there = h.each key locked in let many = ordered-length old in let from = there.1 in let inside =
    there.2 in absurd (omega arith))

entries_left : (p : Parts) (k : ℕ) → k ≡ length p.cache.locked → drop k (entries_of p)
    ≡ replicate (inode_blocks (length p.waiting)) inodes_entry
unfolding entries_of
entries_left p k end =
    drop_at (map entry_of (ordered p)) (replicate (inode_blocks (length p.waiting)) inodes_entry) k
    (length-map (ordered p) entry_of ∙ ordered-length p ∙ sym end)

pub keys_left : (old p : Parts) (k : ℕ) → LandsKeys old p k → k ≡ length old.cache.locked
    → Expects p.log.memory (replicate (inode_blocks (length p.waiting)) inodes_entry)
keys_left old p k h end =
    subst (λ n. Expects p.log.memory (replicate (inode_blocks n) inodes_entry)) (sym h.count)
    (subst (Expects p.log.memory) (entries_left old k end) h.expected)

-- ---- the whole
pub none_waits : (q : Parts) → IsFlushed q → (n c : ℕ) → Waits q n c → ⊥
none_waits q flushed n zero waits = false≢true (sym (ap (λ vs. is_some (waiting_in vs n)) flushed.no_record) ∙ waits)
none_waits q flushed n (suc c) waits = false≢true
    (sym (ap (λ es. is_some (block_in (key_of n (version_of q n) (suc c)) es)) flushed.no_frame) ∙ waits)

-- something is written with a summary before it
pub blocks_some : (n : ℕ) → (if n == 0 then 0 else n + 1) ≢ 0 → (if n == 0 then 0 else n + 1) ≡ n + 1
blocks_some n some = elim (cases_eq n 0) [
  | inl is ↦ absurd (some (cond-true _ _ _ (eq-eqb n 0 is)))
  | inr other ↦ cond-false _ _ _ (ne_eqb n 0 other)
]

pub entries_more : (n : ℕ) → (if n == 0 then 0 else n + 1) ≢ 0 → 0 < n
entries_more n some = elim (cases_eq n 0) [
  | inl is ↦ absurd (some (cond-true _ _ _ (eq-eqb n 0 is)))
  | inr other ↦ omega arith
]

-- a block that waits has its record wait
pub records_some : (p : Parts) → IsStaged p 0 → 0 < length (entries_of p) → 0 < length p.waiting
records_some p staged some = elim (cases_lt 0 (length p.waiting)) [
  | inl more ↦ more
  | inr none ↦
      let many = entries_of-length p in
      let all = ordered-length p in
      let d : Key = key_of 0 0 0 in
      let key = get_or (ordered p) 0 d in
      let locked : IsLocked key p.cache =
      (in_order-locked p.cache (locked_apart p.cache staged.whole.cache)).only 0 d (omega arith) in
      let empty : p.waiting ≡ [] = empty_list p.waiting (omega arith) in
      absurd (false≢true (sym (ap (λ vs. is_some (waiting_in vs key.ino)) empty) ∙ staged.parents.records key locked))
]
  where
    empty_list : (vs : List Inode) → length vs ≡ 0 → vs ≡ []
    empty_list [] none = refl
    empty_list (v ∷ vs) none = absurd (omega arith)

-- the last block that is written is one of records
pub records_last : (p : Parts) → 0 < length p.waiting → ends_in_inodes (entries_of p) ≡ true
unfolding entries_of
records_last p some =
    let blocks : List SummaryEntry = map entry_of (ordered p) in
    let records : ℕ = inode_blocks (length p.waiting) in
    let whole = length-append blocks (replicate records inodes_entry) in
    let many = length-replicate records inodes_entry in
    let last : ℕ = length (blocks ++ replicate records inodes_entry) - 1 in
    let is : get_or (blocks ++ replicate records inodes_entry) last unused ≡ inodes_entry =
    get_or-append_right blocks (replicate records inodes_entry) (length blocks) last unused refl (omega arith)
    ∙ get_or-replicate records (last - length blocks) inodes_entry unused (omega arith) in
    ap (λ (e : SummaryEntry). is_inodes e.block) is

-- the log went on, and what was there stays
pub advanced_extends : (p q : Parts) → Advances (next_address p.log.memory) p q → Extends p.log.memory q.log.memory
advanced_extends p q h =
    let m = p.log.memory in
    let n = q.log.memory in
    let active = h.active in
    let next = h.next in
    let stays : (a : ℕ) → IsOlder m a → block_at n a ≡ block_at m a = λ a older. h.blocks a (⊎_elim
    (λ (before : a < next_address m). inl before)
    (λ (beyond : m.active * 64 + 64 ≤ a). inr (omega arith))
    older) in
    record {
      segments = h.segments;
      active = active;
      fill = omega arith;
      serials = h.serials;
      blocks = stays;
      entries = λ a older. entry_at-same m n a h.serials (λ b from below. stays b (⊎_elim
          (λ (before : a < next_address m). inl (omega arith))
          (λ (beyond : m.active * 64 + 64 ≤ a). inr (omega arith))
          older));
    }

pub flush_moves : (p q : Parts) → IsStaged q 0 → Expects q.log.memory [] → IsFlushed q
    → Advances (next_address p.log.memory) p q
    → next_address q.log.memory ≡ next_address p.log.memory + blocks_of_entries (entries_of p)
    → (0 < length p.waiting → WritesEntries p.log.memory q.log.memory (entries_of p))
    → (IsRecoverable p.log.memory → IsRecoverable q.log.memory)
    → (IsRecoverable p.log.memory → IsOrdered p.log → IsOrdered q.log) → Flushes p q
flush_moves p q staged ready flushed h grown written whole order = record {
  store = staged_store q staged ready;
  flushed = flushed;
  content = h.content;
  segments = h.segments;
  serials = h.serials;
  rising = h.rising;
  active = h.active;
  states = h.states;
  clean = h.clean;
  numbers = h.numbers;
  used = h.used;
  versions = h.versions;
  still = h.still;
  moved = λ n c low below waits. h.moved n c low below waits (none_waits q flushed n c);
  blocks = h.blocks;
  held = h.held;
  grown = grown;
  written = written;
  whole = whole;
  ordered = order;
}
