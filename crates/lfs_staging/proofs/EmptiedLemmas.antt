-- The data blocks of an indirect block and then it go as if each were given back alone (`emptied_more`, `emptied_all`,
-- for `clear_whole`), though their addresses stay in the block until it goes. `Emptied` holds of parts that no
-- code makes: in these the block waits with bytes that lack the addresses of what went (OtherBytesLemmas); once it goes
-- too, its bytes are nowhere, and the made-up parts and the true ones are the same (`given_table`). So `clear_whole`
-- may not return before the block itself went.
use Rattle.std.proofs.Common.{◌≡◌, ◌≢◌, ℕ, ◌+◌, ◌-◌, ◌*◌, ◌/◌, ◌%◌, ◌<◌, ◌≤◌, List, [], ◌∷◌, length, slice_index, Some}
use Rattle.std.proofs.Common.{IsSome, is_some, false, refl, sym, ap, ◌∙◌, subst, inl, inr, arith}
use Rattle.std.specs.Prelude.{All, slice_set}
use Rattle.std.proofs.lemmas.List.{get_or-set_other}
use Rattle.std.proofs.lemmas.List.Elements.{All-weaker}
use Rattle.lfs_ifile.specs.Tables.{row_of}
use Rattle.lfs_inodes.specs.declared.inode.Inode.{Inode}
use Rattle.lfs_inodes.specs.Addresses.{cells}
use Rattle.lfs_inodes.specs.Reading.{fields_of}
use Rattle.lfs_cache.specs.declared.key.Key.{Key}
use Rattle.lfs_cache.specs.Changes.{IsContents}
use Rattle.lfs_cache.specs.Contents.{Contents, IsLocked, block_in, or_else}
use Rattle.lfs_log.specs.Parts.{LogParts, MayMoveLive}
use Rattle.lfs_cache.specs.Keys.{same_key}
use Rattle.lfs_cache.proofs.Entries.{same_cases, same_is}
use Rattle.lfs_bmap.specs.declared.blocks.FileBlock.{FileBlock}
use Rattle.lfs_bmap.specs.declared.blocks.FileBlock.TheVariants.{Data}
use Rattle.lfs_bmap.specs.Blocks.{IsFileBlock, code_of, first_under, table_of, way_to}
use Rattle.lfs_bmap.specs.Reading.{address, read, table}
use Rattle.lfs_bmap.specs.Ways.{IsBlockWay, code_at, way_of}
use Rattle.lfs_bmap.proofs.HolderLemmas.{data_table}
use Rattle.lfs_bmap.proofs.ReadingLemmas.{address-cell, read-waits}
use Rattle.lfs_bmap.proofs.WayLemmas.{data_way-double, data_way-single, known_way_of, up_known, way_of-code_of}
use Rattle.lfs_parts.specs.declared.parts.Parts.{Parts}
use Rattle.lfs_staging.specs.Addressing.{IsWaiting, Sets, SetsEntry, StaysWaiting}
use Rattle.lfs_staging.specs.Cutting.{ClearsBlock, ClearsBlocks, ClearsTable, MayClear, MayClearTable}
use Rattle.lfs_parts.specs.Store.{HolderWaits, IsPresent, IsWithin}
use Rattle.lfs_parts.specs.View.{key_of, record_of, root_in, tree_of, version_of, waiting_in}
use Rattle.lfs_staging.proofs.ClearingLemmas.{clears_more, clears_none, may_clear, rest_used, rest_version}
use Rattle.lfs_staging.proofs.ForgettingLemmas.{stays_landed, way_some}
use Rattle.lfs_staging.proofs.GivenBackLemmas.{Gives, given_back, may_lose}
use Rattle.lfs_staging.proofs.GivingLemmas.{parent_of}
use Rattle.lfs_parts.proofs.SameLogLemmas.{block_known}
use Rattle.lfs_staging.proofs.OtherBytesLemmas.{bytes_formed, bytes_here, bytes_locked, bytes_only, bytes_other}
use Rattle.lfs_staging.proofs.OtherBytesLemmas.{bytes_same, cells-four_zeros, four_zeros, length-bytes_at}
use Rattle.lfs_staging.proofs.OtherBytesLemmas.{length-four_zeros, with_bytes}
use Rattle.lfs_staging.proofs.SettingLemmas.{held_table, held_waits, holder_locked, holder_waits}
use Rattle.lfs_parts.proofs.SameLogLemmas.{record_same}
use Rattle.lfs_staging.proofs.SettingLemmas.{sets_entry, some_there, stays_entry, waiting_record}
use Rattle.lfs_staging.proofs.TableLemmas.{apart_code, longer, table_same}
use Rattle.lfs_parts.proofs.ViewLemmas.{code_at-way_to, way_to-some}

-- ---- where an address stands
pub cell_of : (t : FileBlock) (index : ℕ) → table_of (Data index) ≡ t → code_of t ≢ 0
    → (way_to (Data index) ≡ (index - first_under t) ∷ way_to t) × (index - first_under t < 128)
cell_of t index held other =
    subst (λ x. code_of x ≢ 0 → (way_to (Data index) ≡ (index - first_under x) ∷ way_to x)
    × (index - first_under x < 128)) held
    (data_table (λ x. code_of x ≢ 0 → (way_to (Data index) ≡ (index - first_under x) ∷ way_to x)
    × (index - first_under x < 128)) index
    (λ low some. absurd (some refl))
    (λ past low some. (data_way-single index past low, omega arith))
    (λ far some.
    let same : (index - 140) % 128 ≡ index - (140 + 128 * ((index - 140) / 128)) = omega arith in
    (data_way-double index far ∙ ap (λ j. j ∷ ((index - 140) / 128) ∷ 13 ∷ []) same, omega arith)))
    other

-- ---- the parts with other bytes for a block of a file that waits
abbrev pub table_key : Inode → FileBlock → Key
table_key v t = key_of v.number v.version (code_of t)

abbrev with_cache : Parts → Contents → Parts
with_cache p c = record { log = p.log; cache = c; waiting = p.waiting }

abbrev pub parts_with : Inode → FileBlock → List ℕ → Parts → Parts
parts_with v t b p = record { log = p.log; cache = with_bytes (table_key v t) b p.cache; waiting = p.waiting }

pub waiting_with : (v : Inode) (t : FileBlock) (b : List ℕ) (p : Parts) → IsWaiting p v
    → IsWaiting (parts_with v t b p) v
waiting_with v t b p is = record { waits = is.waits; in_use = is.in_use; at_version = is.at_version }

pub present_without : (v : Inode) (t : FileBlock) (b : List ℕ) (p : Parts)
    → All (λ (w : Inode). IsPresent (parts_with v t b p) w.number w.version) p.waiting
    → All (λ (w : Inode). IsPresent p w.number w.version) p.waiting
present_without v t b p present =
    All-weaker (λ (w : Inode). IsPresent (parts_with v t b p) w.number w.version)
    (λ (w : Inode). IsPresent p w.number w.version)
    (λ w h. record { in_use = h.in_use; at_version = h.at_version }) p.waiting present

-- an address less in it
pub sets_less : (p : Parts) (v : Inode) (t : FileBlock) (b : List ℕ) (j : ℕ) → IsLocked (table_key v t) p.cache
    → IsContents p.cache → length b ≡ 512 → j < 128
    → SetsEntry (with_bytes (table_key v t) b p.cache) (with_bytes (table_key v t) (four_zeros (4 * j) b) p.cache)
    (table_key v t) j 0 b
sets_less p v t b j here formed whole low =
    let k = table_key v t in
    let less = four_zeros (4 * j) b in
    let long = length-four_zeros (4 * j) b ∙ whole in
    record {
      after = less;
      changed = cells-four_zeros j b low whole;
      rewritten = record {
        here = bytes_here k less p.cache here;
        others = λ other apart. bytes_other k other less p.cache apart ∙ sym (bytes_other k other b p.cache apart);
        clean = record { each = λ key bytes there. there };
        formed = bytes_formed k less p.cache formed here long;
        many = length-bytes_at k less p.cache.locked ∙ sym (length-bytes_at k b p.cache.locked);
      };
    }

-- ---- a block that is given back
-- another block than the one with other bytes
pub gives_with : (s q : Parts) (v : Inode) (t : FileBlock) (b : List ℕ) (code from : ℕ) → Gives s q v code from
    → code ≢ code_of t → IsLocked (table_key v t) s.cache → length b ≡ 512
    → Gives (parts_with v t b s) (parts_with v t b q) v code from
gives_with s q v t b code from g other here whole =
    let k = table_key v t in
    let far : same_key k (key_of v.number v.version code)
    ≡ false = apart_code v.number v.number v.version v.version (code_of t) code other in
    let near : same_key (key_of v.number v.version code) k
    ≡ false = apart_code v.number v.number v.version v.version code (code_of t) (λ e. other (sym e)) in
    let still : IsLocked k q.cache = subst IsSome (sym (g.kept k near)) here in
    record {
      memory = g.memory;
      rows = g.rows;
      states = g.states;
      clean_count = g.clean_count;
      parts = g.parts;
      step = g.step;
      waiting = g.waiting;
      formed = bytes_formed k b q.cache g.formed still whole;
      gone = bytes_other k (key_of v.number v.version code) b q.cache far ∙ g.gone;
      kept = λ key apart. elim (same_cases k key) [
        | inl same ↦ subst (λ z. block_in z (with_bytes k b q.cache).locked
            ≡ block_in z (with_bytes k b s.cache).locked) (same_is k key same)
            (bytes_here k b q.cache still ∙ sym (bytes_here k b s.cache here))
        | inr out ↦ bytes_other k key b q.cache out ∙ g.kept key apart ∙ sym (bytes_other k key b s.cache out)
      ];
      clean = record { each = λ key bytes there. g.clean.each key bytes there };
      unclean = g.unclean;
    }

-- that block itself
pub gives_own : (s q : Parts) (v : Inode) (t : FileBlock) (b : List ℕ) (from : ℕ) → Gives s q v (code_of t) from
    → Gives (parts_with v t b s) q v (code_of t) from
gives_own s q v t b from g =
    let k = table_key v t in
    record {
      memory = g.memory;
      rows = g.rows;
      states = g.states;
      clean_count = g.clean_count;
      parts = g.parts;
      step = g.step;
      waiting = g.waiting;
      formed = g.formed;
      gone = g.gone;
      kept = λ key apart. g.kept key apart ∙ sym (bytes_other k key b s.cache apart);
      clean = record { each = λ key bytes there. g.clean.each key bytes there };
      unclean = g.unclean;
    }

-- ---- an address is set in what holds the block's
module _ (p s : Parts) (v : Inode) (t : FileBlock) (b : List ℕ) (i : ℕ) (up : List ℕ) (can : IsFileBlock t)
    (way : way_to t ≡ i ∷ up) (is : IsWaiting p v)
    (here : IsLocked (table_key v t) p.cache) (holder : up ≢ []
    → IsLocked (key_of v.number v.version (code_at up)) p.cache) (set : Sets p s v i up 0)
    (stays : StaysWaiting p s v) where
  abbrev k : Key
  k = table_key v t

  up_apart : code_at up ≢ code_of t
  up_apart e = longer i up (sym (known_way_of up (up_known i up (subst IsBlockWay way (block_known t can))))
      ∙ ap way_of e ∙ way_of-code_of t can ∙ way)

  here_after : IsLocked k s.cache
  here_after = subst IsSome (sym (set.waits k
      (apart_code v.number v.number v.version v.version (code_at up) (code_of t) (λ e. up_apart (sym e))))) here

  version_after : v.version ≡ version_of s v.number
  version_after = is.at_version ∙ sym (ap (λ (l : LogParts). (row_of l.tables v.number).version) set.log)

  record_with : (q : Parts) (n : ℕ) → record_of (parts_with v t b q) n ≡ record_of q n
  record_with q n = record_same q (parts_with v t b q) n refl refl

  table_with : (q : Parts) → v.version ≡ version_of q v.number
      → (up ≢ [] → IsLocked (key_of v.number v.version (code_at up)) q.cache)
      → table (tree_of (parts_with v t b q) v.number) up ≡ table (tree_of q v.number) up
  table_with q version waits =
      table_same (tree_of q v.number) (tree_of (parts_with v t b q) v.number) up (ap root_in (record_with q v.number))
      (λ some. (
        bytes_other k (key_of v.number (version_of q v.number) (code_at up)) b q.cache
            (apart_code v.number v.number v.version (version_of q v.number) (code_of t) (code_at up) up_apart),
        subst (λ n. IsLocked (key_of v.number n (code_at up)) q.cache) version (waits some),
      ))

  sets_with : Sets (parts_with v t b p) (parts_with v t b s) v i up 0
  sets_with = record {
    log = set.log;
    parent = table_with s version_after (λ some. holder_locked s.cache v.number v.version up some set.still)
        ∙ set.parent
        ∙ ap (λ ys. slice_set ys i 0) (sym (table_with p is.at_version holder));
    root = λ some. record_with s v.number ∙ set.root some ∙ sym (record_with p v.number);
    records = λ n other. record_with s n ∙ set.records n other ∙ sym (record_with p n);
    waits = λ key out. elim (same_cases k key) [
      | inl same ↦ subst (λ z. block_in z (with_bytes k b s.cache).locked ≡ block_in z (with_bytes k b p.cache).locked)
          (same_is k key same)
          (bytes_here k b s.cache here_after ∙ sym (bytes_here k b p.cache here))
      | inr apart ↦ bytes_other k key b s.cache apart ∙ set.waits key out ∙ sym (bytes_other k key b p.cache apart)
    ];
    record_only = λ none. ap (with_bytes k b) (set.record_only none);
    many = length-bytes_at k b s.cache.locked ∙ set.many ∙ sym (length-bytes_at k b p.cache.locked);
    clean = record { each = λ key bytes there. set.clean.each key bytes there };
    still = holder_waits (with_bytes k b s.cache) v.number v.version up (λ some.
        bytes_locked k (key_of v.number v.version (code_at up)) b s.cache here_after
        (holder_locked s.cache v.number v.version up some set.still));
  }

  stays_with : length b ≡ 512 → StaysWaiting (parts_with v t b p) (parts_with v t b s) v
  stays_with whole = stays_landed (parts_with v t b p) p s (parts_with v t b s) v stays refl refl refl
      (bytes_formed k b s.cache stays.cache here_after whole)

  pub given_table : (q : Parts) (from : ℕ) → length b ≡ 512 → MayClear (parts_with v t b p) v.number t
      → address (tree_of (parts_with v t b p) v.number) (way_to t) ≡ from
      → Gives s q v (code_of t) from → ClearsBlock v.number t (parts_with v t b p) q
  given_table q from whole may there g =
      given_back (parts_with v t b p) (parts_with v t b s) q v t i up from (waiting_with v t b p is) may way sets_with
      (stays_with whole) there (gives_own s q v t b from g)

-- ---- one block after another
-- The blocks up to before one were given back, but for their addresses in the indirect block: with other bytes in it
-- they were.
pub record Emptied (v : Inode) (t : FileBlock) (held : List ℕ) (index : ℕ) (old new : Parts) : Type 0 where
  pub left : List ℕ
  pub whole : length left ≡ 512
  pub cleared : ClearsBlocks v.number (first_under t) index old (parts_with v t left new)
  pub rest : (j : ℕ) → index ≤ first_under t + j → slice_index (cells left) j ≡ slice_index (cells held) j
  pub here : IsLocked (table_key v t) new.cache
  pub formed : IsContents new.cache
  pub waiting : new.waiting ≡ old.waiting
  pub place : address (tree_of (parts_with v t left new) v.number) (way_to t)
      ≡ address (tree_of old v.number) (way_to t)

pub emptied_none : (p : Parts) (v : Inode) (t : FileBlock) (held : List ℕ) (end : ℕ) → MayClearTable p v.number t end
    → block_in (table_key v t) p.cache.locked ≡ Some held → Emptied v t held (first_under t) p p
emptied_none p v t held end may is =
    let k = table_key v t in
    let formed = may.blocks.staged.whole.cache in
    let same : parts_with v t held p ≡ p = ap (with_cache p) (bytes_same k held p.cache formed is) in
    record {
      left = held;
      whole = formed.sized k held (ap (λ o. or_else o (block_in k p.cache.lru)) is);
      cleared = subst (ClearsBlocks v.number (first_under t) (first_under t) p) (sym same)
          (clears_none p v.number (first_under t) end may.blocks);
      rest = λ j past. refl;
      here = ap is_some is;
      formed = formed;
      waiting = refl;
      place = ap (λ r. address (tree_of r v.number) (way_to t)) same;
    }

-- what is read of the block is what waits for it
pub held_now : (p : Parts) (v : Inode) (t : FileBlock) (held : List ℕ) (end : ℕ) → MayClearTable p v.number t end
    → IsWaiting p v → held ≡ read (tree_of p v.number) (way_to t)
    → block_in (table_key v t) p.cache.locked ≡ Some held
held_now p v t held end may is reads =
    let here : IsLocked (table_key v t) p.cache =
    subst (λ n. IsLocked (key_of v.number n (code_of t)) p.cache) (sym is.at_version) may.waits in
    let b = some_there (block_in (table_key v t) p.cache.locked) here in
    let own : held ≡ b.0 = reads ∙ read-waits (tree_of p v.number) (way_to t) b.0 (held_waits p v t (Some b.0) is b.1)
    in
    b.1 ∙ ap Some (sym own)

module _ (a b : Parts) (v : Inode) (t : FileBlock) (held : List ℕ) (index end : ℕ)
    (may : MayClearTable a v.number t end) (is : IsWaiting a v)
    (e : Emptied v t held index a b) where
  abbrev shown : Parts
  shown = parts_with v t e.left b

  -- what waits of the number
  pub waiting_still : IsWaiting b v
  waiting_still = record {
    waits = ap (λ ws. waiting_in ws v.number) e.waiting ∙ is.waits;
    in_use = rest_used v.number a shown e.cleared.rest is.in_use;
    at_version = is.at_version ∙ sym (rest_version v.number a shown e.cleared.rest v.number);
  }

  pub present_still : All (λ (w : Inode). IsPresent b w.number w.version) b.waiting
  present_still = present_without v t e.left b e.cleared.staged.whole.records

  module _ (from : first_under t ≤ index) (low : index < end) where
    abbrev j : ℕ
    j = index - first_under t

    pub cell : (way_to (Data index) ≡ j ∷ way_to t) × (j < 128)
    cell = cell_of t index (may.under index from low) may.other

    pub may_next : MayClear shown v.number (Data index)
    may_next = may_clear a shown v.number (first_under t) index end may.blocks e.cleared from low

    pub next_place : (a0 : ℕ) → a0 ≡ slice_index (cells held) j → address (tree_of shown v.number) (way_to (Data index))
        ≡ a0
    next_place a0 read =
        let k = table_key v t in
        ap (address (tree_of shown v.number)) cell.0 ∙ address-cell (tree_of shown v.number) j (way_to t)
        ∙ ap (λ ys. slice_index ys j) (held_table shown v t e.left (way_to-some t may.other)
        (waiting_with v t e.left b waiting_still) (bytes_here k e.left b.cache e.here))
        ∙ e.rest j (omega arith) ∙ sym read

    -- the live bytes of the next one may go
    pub next_loses : (a0 : ℕ) → a0 ≡ slice_index (cells held) j → MayMoveLive b.log (131 + index) a0 0
    next_loses a0 read = may_lose shown v.number
        (Data index) a0 may_next.staged may_next.in_use may_next.can may_next.other (next_place a0 read)

    pub emptied_more : (q : Parts) (a0 : ℕ) → a0 ≡ slice_index (cells held) j → Gives b q v (131 + index) a0
        → Emptied v t held (index + 1) a q
    emptied_more q a0 read g =
        let k = table_key v t in
        let bounded = may.blocks.bounded in let holds = may.holds in
        let some = way_to-some t may.other in
        let is_shown = waiting_with v t e.left b waiting_still in
        let was = bytes_here k e.left b.cache e.here in
        let less = four_zeros (4 * j) e.left in
        let long = length-four_zeros (4 * j) e.left ∙ e.whole in
        let s = parts_with v t less b in
        let one = sets_less b v t e.left j e.here e.formed e.whole cell.1 in
        let set : Sets shown s v j (way_to t) 0 = sets_entry shown s v t j 0 e.left some is_shown refl refl was one in
        let stays : StaysWaiting shown s v = stays_entry shown s v t j 0 e.left some is_shown refl refl was one
        e.cleared.staged.whole.records in
        let near : same_key (key_of v.number v.version (131 + index)) k
        ≡ false = apart_code v.number v.number v.version v.version (131 + index) (code_of t) (λ e. omega arith) in
        let next : ClearsBlock v.number (Data index) shown (parts_with v t less q) =
        given_back shown s (parts_with v t less q) v (Data index) j (way_to t) a0 is_shown may_next cell.0 set stays
        (next_place a0 read)
        (gives_with b q v t less (131 + index) a0 g (λ e. omega arith) e.here long) in
        record {
          left = less;
          whole = long;
          cleared = clears_more a shown (parts_with v t less q) v.number (first_under t) index from
              (omega arith) e.cleared next;
          rest = λ i past.
              ap (λ ns. slice_index ns i) (cells-four_zeros j e.left cell.1 e.whole)
              ∙ get_or-set_other (cells e.left) j i 0 0 (λ same. omega arith) ∙ e.rest i (omega arith);
          here = subst IsSome (sym (g.kept k near)) e.here;
          formed = g.formed;
          waiting = g.waiting ∙ e.waiting;
          place = next.addresses (way_to t) (block_known t may.can)
              (λ same. let codes : code_of t ≡ 131 + index = sym (code_at-way_to t) ∙ ap code_at same
              ∙ code_at-way_to (Data index) in omega arith) ∙ e.place;
        }

-- and then the block itself
module _ (a b : Parts) (v : Inode) (t : FileBlock) (held : List ℕ) (end : ℕ) (may : MayClearTable a v.number t end)
    (is : IsWaiting a v) (e : Emptied v t held end a b) where
  pub may_last : MayClear (parts_with v t e.left b) v.number t
  may_last = may.last (parts_with v t e.left b) e.cleared

  -- it lies within the file
  pub table_within : IsWithin t v.size
  table_within =
      may_last.within (fields_of v) (waiting_record (parts_with v t e.left b) v
      (waiting_with v t e.left b (waiting_still a b v t held end end may is e)))

  -- its live bytes may go, where its address was set
  pub table_loses : (s : Parts) (from : ℕ) → from ≡ address (tree_of a v.number) (way_to t)
      → ((i : ℕ) (up : List ℕ) → way_to t ≡ i ∷ up → Sets b s v i up 0)
      → MayMoveLive s.log (code_of t) from 0
  table_loses s from reads set =
      let w = way_some t may.can may.other in
      subst (λ (l : LogParts). MayMoveLive l (code_of t) from 0) (sym (set w.0 w.1 w.2).log)
      (may_lose (parts_with v t e.left b) v.number t from may_last.staged may_last.in_use may.can may.other (e.place
      ∙ sym reads))

  holder_still : (i : ℕ) (up : List ℕ) → way_to t ≡ i ∷ up → up ≢ []
      → IsLocked (key_of v.number v.version (code_at up)) b.cache
  holder_still i up way some =
      let at = is.at_version ∙ sym (rest_version v.number a (parts_with v t e.left b) e.cleared.rest v.number) in
      bytes_only (table_key v t) (key_of v.number v.version (code_at up)) e.left b.cache e.here
      (holder_locked (with_bytes (table_key v t) e.left b.cache) v.number v.version up some
      (parent_of (parts_with v t e.left b) v t may_last at i up way))

  pub parent_still : (i : ℕ) (up : List ℕ) → way_to t ≡ i ∷ up → HolderWaits b.cache v.number v.version up
  parent_still i up way = holder_waits b.cache v.number v.version up (holder_still i up way)

  pub emptied_all : (s q : Parts) (from : ℕ) → from ≡ address (tree_of a v.number) (way_to t)
      → ((i : ℕ) (up : List ℕ) → way_to t ≡ i ∷ up → Sets b s v i up 0)
      → StaysWaiting b s v → Gives s q v (code_of t) from → ClearsTable v.number t end a q
  emptied_all s q from read set stays g =
      let w = way_some t may.can may.other in
      record {
        between = parts_with v t e.left b;
        blocks = e.cleared;
        last = given_table b s v t e.left w.0 w.1 may.can w.2 (waiting_still a b v t held end end may is e) e.here
            (holder_still w.0 w.1 w.2) (set w.0 w.1 w.2) stays
            q from e.whole may_last (e.place ∙ sym read) g;
      }
