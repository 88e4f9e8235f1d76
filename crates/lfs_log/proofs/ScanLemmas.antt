-- `infos::scan` keeps two facts at each address: the infos so far are those of the names before it, and what it still
-- has of the last summary is what the log expects (`scan_named`, `scan_next`, `scan_summary`, `scan_ended`). An address
-- that is expected gives its block's infos, one that isn't is a summary or the end, behind which nothing is named.
-- `scan_room` says why 248 infos are enough: 62 names with four each; it falls with another `ENTRY_LIMIT` or more slots
-- in an inode block.
use Rattle.std.proofs.Common.{◌≡◌, ◌≢◌, ℕ, suc, ◌+◌, ◌-◌, ◌*◌, ◌<◌, ◌≤◌, ◌⊎◌, inl, inr, List, [], ◌∷◌, ◌++◌, Option}
use Rattle.std.proofs.Common.{Some, None, option_map, length, get_or, take, drop, append-nil, refl, sym, ap, ◌∙◌, arith}
use Rattle.std.specs.List.{cons_option, filter_map, flat_map}
use Rattle.std.proofs.lemmas.Bool.{cases_eq}
use Rattle.std.proofs.lemmas.List.{drop_all, drop_more, get_or-take, length-append, length-take, length-take-le}
use Rattle.std.proofs.lemmas.List.{take_more}
use Rattle.std.proofs.lemmas.List.Concat.{flat_map-append}
use Rattle.std.proofs.lemmas.List.Elements.{filter_map-append}
use Rattle.lfs_inodes.specs.declared.inode.Inode.{Inode}
use Rattle.lfs_inodes.specs.Reading.{fields_in, fields_of}
use Rattle.lfs_inodes.specs.Slots.{slot_of, slots}
use Rattle.lfs_segments.specs.declared.entry.LogicalBlock.{LogicalBlock}
use Rattle.lfs_segments.specs.declared.entry.LogicalBlock.TheVariants.{Data, Single, Double, Child, Inodes}
use Rattle.lfs_segments.specs.declared.entry.SummaryEntry.{SummaryEntry}
use Rattle.lfs_segments.specs.declared.summary.Summary.{Summary}
use Rattle.lfs_segments.specs.Entry.{unused}
use Rattle.lfs_segments.specs.Log.{entry_at, expected_at, first_of, named_one, names_from}
use Rattle.lfs_segments.specs.Memory.{SegmentMemory, block_at, has_serials, log_start}
use Rattle.lfs_segments.specs.Reading.{named_by}
use Rattle.lfs_segments.specs.Serial.{entries_in}
use Rattle.lfs_segments.proofs.LogLemmas.{entry_at-ended, entry_at-in, expected_at-more, names_from-append}
use Rattle.lfs_segments.proofs.LogLemmas.{names_from-more, names_from-none, next_entry}
use Rattle.lfs_segments.proofs.MemoryLemmas.{log_start-le}
use Rattle.lfs_segments.proofs.NamesLemmas.{names_from-at_most}
use Rattle.lfs_types.specs.declared.cleaner.BlockInfo.{BlockInfo}
use Rattle.lfs_log.specs.Infos.{block_infos, entry_infos, info_of, infos_from, infos_of, slot_info}
use Rattle.lfs_inodes.proofs.FourSlots.{get_or-slots}

-- A list that is filtered grows by no item.
pub length-filter_map : (f : List ℕ → Option BlockInfo) (xs : List (List ℕ)) → length (filter_map f xs) ≤ length xs
length-filter_map f [] = omega arith
length-filter_map f (x ∷ xs) = let rest = length-filter_map f xs in one_more (f x) f xs rest
  where
    one_more : (o : Option BlockInfo) (f : List ℕ → Option BlockInfo) (xs : List (List ℕ))
        → length (filter_map f xs) ≤ length xs
        → length (cons_option o (filter_map f xs)) ≤ suc (length xs)
    one_more None f xs rest = omega arith
    one_more (Some i) f xs rest = omega arith

-- the info of a slot is that of the inode that is read there
pub slot_info-read : (address : ℕ) (bytes : List ℕ) (o : Option Inode) → option_map fields_of o ≡ fields_in bytes
    → slot_info address bytes ≡ option_map (λ (v : Inode). info_of address v.number v.version Inodes) o
unfolding slot_info
slot_info-read address bytes None e = rw (← e) refl
slot_info-read address bytes (Some v) e = rw (← e) refl

-- which kinds of block are a file's
pub file_kind : (block : LogicalBlock) → ((index : ℕ) × (block ≡ Data index))
    ⊎ ((block ≡ Single) ⊎ ((block ≡ Double) ⊎ ((index : ℕ) × (block ≡ Child index)))) → block ≢ Inodes
file_kind block (inl d) e = absurd (let bad : Data d.0 ≡ Inodes = sym d.1 ∙ e in cc)
file_kind block (inr (inl s)) e = absurd (let bad : Single ≡ Inodes = sym s ∙ e in cc)
file_kind block (inr (inr (inl s))) e = absurd (let bad : Double ≡ Inodes = sym s ∙ e in cc)
file_kind block (inr (inr (inr d))) e = absurd (let bad : Child d.0 ≡ Inodes = sym d.1 ∙ e in cc)

-- a file's block has one info
pub block_infos-file : (address number version : ℕ) (block : LogicalBlock) (bytes : List ℕ) → block ≢ Inodes
    → block_infos address number version block bytes ≡ info_of address number version block ∷ []
unfolding block_infos
block_infos-file address number version (Data index) bytes other = refl
block_infos-file address number version Single bytes other = refl
block_infos-file address number version Double bytes other = refl
block_infos-file address number version (Child index) bytes other = refl
block_infos-file address number version Inodes bytes other = absurd (other refl)

-- the infos of one slot more
pub slots_more : (address : ℕ) (block : List ℕ) (k : ℕ) → k < 4
    → filter_map (slot_info address) (take (k + 1) (slots block))
    ≡ filter_map (slot_info address) (take k (slots block)) ++ filter_map (slot_info address) (slot_of block k ∷ [])
slots_more address block k below =
    ap (filter_map (slot_info address)) (take_more (slots block) k [] below
    ∙ ap (λ (x : List ℕ). take k (slots block) ++ x ∷ []) (get_or-slots block k below))
    ∙ filter_map-append (slot_info address) (take k (slots block)) (slot_of block k ∷ [])

-- a block has at most four infos
block_infos-at_most : (address number version : ℕ) (block : LogicalBlock) (bytes : List ℕ)
    → length (block_infos address number version block bytes) ≤ 4
unfolding block_infos
block_infos-at_most address number version (Data index) bytes = omega arith
block_infos-at_most address number version Single bytes = omega arith
block_infos-at_most address number version Double bytes = omega arith
block_infos-at_most address number version (Child index) bytes = omega arith
block_infos-at_most address number version Inodes bytes = length-filter_map (slot_info address) (slots bytes)

-- and so has each of some names
infos-at_most : (m : SegmentMemory) (names : List (ℕ × SummaryEntry))
    → length (flat_map (entry_infos m) names) ≤ 4 * length names
unfolding entry_infos
infos-at_most m [] = omega arith
infos-at_most m (x ∷ names) =
    let rest = infos-at_most m names in
    let first = block_infos-at_most x.0 x.1.number x.1.version x.1.block (block_at m x.0) in
    let both = length-append (entry_infos m x) (flat_map (entry_infos m) names) in
    omega arith

-- the entries of a summary from one on
pub expected_more : (entries : List SummaryEntry) (next count : ℕ) → next < count → count ≤ length entries
    → drop next (take count entries) ≡ get_or entries next unused ∷ drop (next + 1) (take count entries)
expected_more entries next count below fits =
    let long : length (take count entries) ≡ count = length-take-le count entries fits in
    drop_more (take count entries) next unused (omega arith)
    ∙ ap (λ (e : SummaryEntry). e ∷ drop (next + 1) (take count entries)) (get_or-take count entries next unused below)

pub expected_none : (entries : List SummaryEntry) (next count : ℕ) → count ≤ next → drop next (take count entries) ≡ []
expected_none entries next count past = drop_all next (take count entries) (simp length-take (omega arith))

-- An address of a segment's log.
module _ (m : SegmentMemory) (segment address : ℕ) (from : first_of segment ≤ address) (below : address < segment * 64
    + 64) where
  one_more : infos_from m (first_of segment) (address + 1 - first_of segment)
      ≡ infos_from m (first_of segment) (address - first_of segment)
      ++ flat_map (entry_infos m) (named_one address (entry_at m address))
  one_more =
      let k : ℕ = address - first_of segment in
      let more : address + 1 - first_of segment ≡ k + 1 = omega arith in
      let at : first_of segment + k ≡ address = omega arith in
      ap (infos_from m (first_of segment)) more
      ∙ ap (flat_map (entry_infos m)) (names_from-more m (first_of segment) k
      ∙ ap (λ (a : ℕ). names_from m (first_of segment) k ++ named_one a (entry_at m a)) at)
      ∙ flat_map-append (entry_infos m) (names_from m (first_of segment) k) (named_one address (entry_at m address))

  entry_is : (entries : List SummaryEntry) → expected_at m segment address ≡ Some entries → entry_at m address
      ≡ next_entry (Some entries)
  entry_is entries pending = let low = log_start-le segment in entry_at-in m segment address (omega arith)
      ∙ ap next_entry pending

  -- the names before an address that has one are at most 61
  few_names : (e : SummaryEntry) → entry_at m address ≡ Some e
      → length (names_from m (first_of segment) (address - first_of segment)) < 62
  few_names e named =
      let low = log_start-le segment in
      let k : ℕ = address - first_of segment in
      let rest : ℕ = segment * 64 + 63 - address in
      let all : k + 1 + rest ≡ 64 - log_start segment = omega arith in
      let at : first_of segment + k ≡ address = omega arith in
      let most = names_from-at_most m segment in
      let split : length (names_from m (first_of segment) (64 - log_start segment))
      ≡ length (names_from m (first_of segment) (k + 1)) + length (names_from m (first_of segment + (k + 1)) rest) =
      ap (λ (n : ℕ). length (names_from m (first_of segment) n)) (sym all)
      ∙ ap (λ xs. length xs) (names_from-append m (first_of segment) (k + 1) rest)
      ∙ length-append (names_from m (first_of segment) (k + 1)) (names_from m (first_of segment + (k + 1)) rest) in
      let more : length (names_from m (first_of segment) (k + 1)) ≡ length (names_from m (first_of segment) k) + 1 =
      ap (λ xs. length xs) (names_from-more m (first_of segment) k)
      ∙ length-append (names_from m (first_of segment) k)
      (named_one (first_of segment + k) (entry_at m (first_of segment + k)))
      ∙ ap (λ (o : Option SummaryEntry). length (names_from m (first_of segment) k)
      + length (named_one (first_of segment + k) o)) (ap (entry_at m) at ∙ named) in
      omega arith

  -- so there is room for the infos of one more
  pub scan_room : (infos : List BlockInfo) (entries : List SummaryEntry) (next count : ℕ) → next < count
      → count ≤ length entries
      → expected_at m segment address ≡ Some (drop next (take count entries)) → infos
      ≡ infos_from m (first_of segment) (address - first_of segment) → length infos + 4 ≤ 248
  scan_room infos entries next count room held pending so_far =
      let named = entry_is (drop next (take count entries)) pending
      ∙ ap (λ xs. next_entry (Some xs)) (expected_more entries next count room held) in
      let few = few_names (get_or entries next unused) named in
      let most = infos-at_most m (names_from m (first_of segment) (address - first_of segment)) in
      let long = ap (λ xs. length xs) so_far in
      omega arith

  -- the block of an entry is read
  pub scan_named : (old new : List BlockInfo) (entries : List SummaryEntry) (next count : ℕ) (block : List ℕ)
      → next < count → count ≤ length entries → block ≡ block_at m address
      → (let e = get_or entries next unused in new ≡ old ++ block_infos address e.number e.version e.block block)
      → expected_at m segment address ≡ Some (drop next (take count entries)) → old
      ≡ infos_from m (first_of segment) (address - first_of segment)
      → new ≡ infos_from m (first_of segment) (address + 1 - first_of segment)
  unfolding entry_infos
  scan_named old new entries next count block room held at added pending so_far =
      let e = get_or entries next unused in
      let named : entry_at m address ≡ Some e = entry_is (drop next (take count entries)) pending
      ∙ ap (λ xs. next_entry (Some xs)) (expected_more entries next count room held) in
      let before = infos_from m (first_of segment) (address - first_of segment) in
      added ∙ ap (λ (b : List ℕ). old ++ block_infos address e.number e.version e.block b) at
      ∙ ap (λ (infos : List BlockInfo). infos ++ entry_infos m (address, e)) so_far
      ∙ ap (λ (infos : List BlockInfo). before ++ infos) (sym (append-nil (entry_infos m (address, e))))
      ∙ ap (λ (o : Option SummaryEntry). before ++ flat_map (entry_infos m) (named_one address o)) (sym named)
      ∙ sym one_more

  pub scan_next : (entries : List SummaryEntry) (next count : ℕ) → next < count → count ≤ length entries
      → expected_at m segment address ≡ Some (drop next (take count entries)) → expected_at m segment (address + 1)
      ≡ Some (drop (next + 1) (take count entries))
  scan_next entries next count room held pending =
      expected_at-more m segment address (get_or entries next unused ∷ drop (next + 1) (take count entries)) from
      (pending ∙ ap (λ xs. Some xs) (expected_more entries next count room held))

  -- a summary is read, or the log has ended
  module _ (infos : List BlockInfo) (entries : List SummaryEntry) (next count : ℕ) (block : List ℕ)
      (past : count ≤ next) (at : block ≡ block_at m address)
      (pending : expected_at m segment address ≡ Some (drop next (take count entries))) (so_far : infos
      ≡ infos_from m (first_of segment) (address - first_of segment)) where
    nothing : expected_at m segment address ≡ Some []
    nothing = pending ∙ ap (λ xs. Some xs) (expected_none entries next count past)

    pub scan_unnamed : infos ≡ infos_from m (first_of segment) (address + 1 - first_of segment)
    scan_unnamed =
        so_far
        ∙ sym (append-nil (infos_from m (first_of segment) (address - first_of segment)))
        ∙ ap (λ (o : Option SummaryEntry). infos_from m (first_of segment) (address - first_of segment)
        ++ flat_map (entry_infos m) (named_one address o)) (sym (entry_is [] nothing))
        ∙ sym one_more

    pub scan_summary : (s : Summary) → Some (named_by s) ≡ entries_in (has_serials m) block
        → expected_at m segment (address + 1) ≡ Some (drop 0 (take s.count s.entries))
    scan_summary s read = expected_at-more m segment address [] from nothing
        ∙ ap (entries_in (has_serials m)) (sym at) ∙ sym read

    pub scan_ended : entries_in (has_serials m) block ≡ None → infos ≡ infos_of m segment
    unfolding infos_of
    scan_ended none =
        let low = log_start-le segment in
        let k : ℕ = address - first_of segment in
        let rest : ℕ = segment * 64 + 64 - address in
        let all : k + rest ≡ 64 - log_start segment = omega arith in
        let here : first_of segment + k ≡ address = omega arith in
        let ended : expected_at m segment (address + 1) ≡ None = expected_at-more m segment address [] from nothing
        ∙ ap (entries_in (has_serials m)) (sym at) ∙ none in
        let unnamed : names_from m (first_of segment + k) rest
        ≡ [] = names_from-none m (first_of segment + k) rest (λ a least most. elim (cases_eq a address) [
          | inl e ↦ ap (entry_at m) e ∙ entry_is [] nothing
          | inr ne ↦ entry_at-ended m segment (address + 1) a ended (omega arith) (omega arith) (omega arith)
        ]) in
        so_far
        ∙ ap (flat_map (entry_infos m))
        (sym (append-nil (names_from m (first_of segment) k))
        ∙ ap (λ xs. names_from m (first_of segment) k ++ xs) (sym unnamed)
        ∙ sym (names_from-append m (first_of segment) k rest)
        ∙ ap (names_from m (first_of segment)) all)

-- nothing is read at the start
pub scan_begins : (m : SegmentMemory) (segment : ℕ)
    → infos_from m (first_of segment) (first_of segment - first_of segment) ≡ []
unfolding names_from
scan_begins m segment = let none : first_of segment - first_of segment ≡ 0 = omega arith in rw none refl

-- and all at the end
pub scan_done : (m : SegmentMemory) (segment address : ℕ) (infos : List BlockInfo) → address ≡ segment * 64 + 64 → infos
    ≡ infos_from m (first_of segment) (address - first_of segment) → infos ≡ infos_of m segment
unfolding infos_of
scan_done m segment address infos at so_far =
    let low = log_start-le segment in
    let all : address - first_of segment ≡ 64 - log_start segment = omega arith in
    so_far ∙ ap (infos_from m (first_of segment)) all
