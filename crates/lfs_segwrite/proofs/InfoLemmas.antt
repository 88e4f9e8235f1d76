-- Each key that has a place in a segment has an info there that names it (`placed_listed`, `live_kept`), for
-- GainLemmas; the live infos are of that segment (`live_here`), for `gaining::empty_segment`, and each info's logical
-- number is that of a block (`info_block`). `IsLog` says that the log names the key at its place, and `lfs_log` that
-- the infos are those of what the log names (`infos_of-named`, `infos_of-only`). A key at whose place the log named
-- something else would be passed over, and lost when its segment is opened anew.
use Rattle.std.proofs.Common.{◌≡◌, ◌≢◌, ℕ, zero, suc, ◌-◌, ◌/◌, ◌<◌, List, [], ◌∷◌, get_or, None, Option, Some, Bool}
use Rattle.std.proofs.Common.{true, refl, sym, ap, ◌∙◌, subst, inl, inr, arith}
use Rattle.std.specs.Prelude.{◌==◌, All, not, option_map}
use Rattle.std.specs.List.{Contains, cons_option, filter, filter_map, flat_map}
use Rattle.std.proofs.lemmas.Bool.{cases_Bool, cases_eq, cond-true, cond-false, eq-eqb, ne_eqb}
use Rattle.std.proofs.lemmas.Bool.Decides.{Decides-and, Decides-eqb, Decides-like, Decides-not}
use Rattle.std.specs.Bool.{Decides}
use Rattle.std.proofs.lemmas.List.Elements.{All-filter, Contains-append_cases, Contains-get_or}
use Rattle.lfs_types.specs.declared.cleaner.BlockInfo.{BlockInfo}
use Rattle.lfs_inodes.specs.Reading.{Fields, fields_in}
use Rattle.lfs_inodes.specs.Slots.{slots}
use Rattle.lfs_segments.specs.declared.entry.LogicalBlock.{LogicalBlock}
use Rattle.lfs_segments.specs.declared.entry.LogicalBlock.TheVariants as logical
use Rattle.lfs_segments.specs.Entry.{IsLogicalBlock, block_number}
use Rattle.lfs_segments.specs.Log.{first_of, names_from}
use Rattle.lfs_segments.specs.Memory.{SegmentMemory, block_at, log_start}
use Rattle.lfs_segments.proofs.NamesLemmas.{IsEntry-named, names_from-named}
use Rattle.lfs_bmap.specs.declared.blocks.FileBlock.{FileBlock}
use Rattle.lfs_bmap.specs.declared.blocks.FileBlock.TheVariants.{Record, Single, Double, Child, Data}
use Rattle.lfs_bmap.specs.declared.blocks.TheConstants.{BLOCK_CODES}
use Rattle.lfs_bmap.specs.Blocks.{IsFileBlock, code_of, logical_of}
use Rattle.lfs_bmap.specs.Counting.{seg_of}
use Rattle.lfs_bmap.specs.Log.{IsPlaced, LogState}
use Rattle.lfs_bmap.specs.Moves.{present_address}
use Rattle.lfs_bmap.proofs.BlockLemmas.{file_block_of-logical}
use Rattle.lfs_bmap.proofs.MoveLemmas.{present_address-key}
use Rattle.lfs_log.specs.Infos.{block_infos, entry_infos, info_of, infos_of, slot_info}
use Rattle.lfs_log.specs.Parts.{record_place}
use Rattle.lfs_log.proofs.FoundLemmas.{infos_of-named, infos_of-only}
use Rattle.lfs_ifile.specs.Tables.{row_of}
use Rattle.lfs_parts.specs.declared.parts.Parts.{Parts}
use Rattle.lfs_parts.specs.Keys.{log_state}
use Rattle.lfs_parts.specs.Store.{IsStore}
use Rattle.lfs_parts.proofs.KeyLemmas.{place-block, place-record}
use Rattle.lfs_segwrite.specs.Gaining.{live_infos, names_block}
use Rattle.lfs_segwrite.specs.Marking.{IsNamed, code_named}
use Rattle.lfs_segwrite.proofs.NamedLemmas.{code_named-block}

-- ---- lists
joined_from : {X Y : Type 0} (f : X → List Y) (xs : List X) (y : Y) → Contains (flat_map f xs) y → (x : X)
    × (Contains xs x) × (Contains (f x) y)
joined_from f [] y h = absurd (let below = h.1 in omega arith)
joined_from f (z ∷ xs) y h = elim (Contains-append_cases (f z) (flat_map f xs) y h) [
  | inl first ↦ (z, (zero, omega arith, refl), first)
  | inr later ↦
      let found = joined_from f xs y later in
      let there = found.1 in
      (found.0, (suc there.0, let low = there.1 in omega arith, there.2), found.2)
]

-- what passes a test is kept
pub kept : {X : Type 0} (p : X → Bool) (xs : List X) (x : X) → Contains xs x → p x ≡ true → Contains (filter p xs) x
kept p [] x has t = absurd (let none = has.1 in omega arith)
kept p (y ∷ xs) x (zero, low, e) t = subst (λ (zs : List _). Contains zs x)
    (sym (cond-true (p y) (y ∷ filter p xs) (filter p xs) (ap p e ∙ t))) (zero, omega arith, e)
kept p (y ∷ xs) x (suc k, low, e) t =
    let rest = kept p xs x (k, omega arith, e) t in
    elim (cases_Bool (p y)) [
      | inl passes ↦ subst (λ (zs : List _). Contains zs x)
          (sym (cond-true (p y) (y ∷ filter p xs) (filter p xs) passes)) (
            suc rest.0,
            let inside = rest.1 in omega arith,
            rest.2,
          )
      | inr fails ↦ subst (λ (zs : List _). Contains zs x)
          (sym (cond-false (p y) (y ∷ filter p xs) (filter p xs) fails)) rest
    ]

-- ---- the number of the block that an info names
abbrev pub NamesBlock : ℕ → Type 0
NamesBlock lbn = (block : LogicalBlock) × IsLogicalBlock block × (block_number block ≡ lbn)

one_block : (a number version : ℕ) (b : LogicalBlock) (i : BlockInfo) → IsLogicalBlock b
    → Contains (info_of a number version b ∷ []) i → NamesBlock i.lbn
one_block a number version b i is (zero, low, e) = (b, is, ap (λ (x : BlockInfo). x.lbn) e)
one_block a number version b i is (suc k, low, e) = absurd (omega arith)

slot_block : (a : ℕ) (o : Option Fields) (slot : List ℕ) → fields_in slot ≡ o → (rest : List BlockInfo) (i : BlockInfo)
    → (Contains rest i → NamesBlock i.lbn) → Contains (cons_option (slot_info a slot) rest) i → NamesBlock i.lbn
unfolding slot_info
slot_block a None slot is rest i before has =
    before (subst (λ (o : Option Fields). Contains
    (cons_option (option_map (λ (f : Fields). info_of a f.attributes.number f.attributes.version logical.Inodes) o)
    rest) i) is has)
slot_block a (Some f) slot is rest i before has =
    by (subst (λ (o : Option Fields). Contains
    (cons_option (option_map (λ (g : Fields). info_of a g.attributes.number g.attributes.version logical.Inodes) o)
    rest) i) is has)
  where
    by : Contains (info_of a f.attributes.number f.attributes.version logical.Inodes ∷ rest) i → NamesBlock i.lbn
    by (zero, low, e) = (logical.Inodes, tt, ap (λ (x : BlockInfo). x.lbn) e)
    by (suc k, low, e) = before (k, omega arith, e)

slots_block : (a : ℕ) (ss : List (List ℕ)) (i : BlockInfo) → Contains (filter_map (slot_info a) ss) i → NamesBlock i.lbn
slots_block a [] i has = absurd (let none = has.1 in omega arith)
slots_block a (s ∷ ss) i has = slot_block a (fields_in s) s refl (filter_map (slot_info a) ss) i
    (slots_block a ss i) has

entry_block : (a number version : ℕ) (b : LogicalBlock) (bytes : List ℕ) (i : BlockInfo) → IsLogicalBlock b
    → Contains (block_infos a number version b bytes) i → NamesBlock i.lbn
unfolding block_infos
entry_block a number version (logical.Data index) bytes i is has =
    one_block a number version (logical.Data index) i is has
entry_block a number version logical.Single bytes i is has = one_block a number version logical.Single i is has
entry_block a number version logical.Double bytes i is has = one_block a number version logical.Double i is has
entry_block a number version (logical.Child index) bytes i is has =
    one_block a number version (logical.Child index) i is has
entry_block a number version logical.Inodes bytes i is has = slots_block a (slots bytes) i has

pub info_block : (m : SegmentMemory) (segment : ℕ) (i : BlockInfo) → Contains (infos_of m segment) i → NamesBlock i.lbn
unfolding infos_of entry_infos
info_block m segment i has =
    let found = joined_from (entry_infos m) (names_from m (first_of segment) (64 - log_start segment)) i has in
    let a = found.0.0 in
    let e = found.0.1 in
    let named = names_from-named m (first_of segment) (64 - log_start segment) a e found.1 in
    entry_block a e.number e.version e.block (block_at m a) i (IsEntry-named m a e named.2).block found.2

-- a block of a file that has the number of a block
same_number : (block : FileBlock) → code_of block < BLOCK_CODES → NamesBlock (block_number (logical_of block))
    → IsFileBlock block
same_number Record low h = tt
same_number Single low h = tt
same_number Double low h = tt
same_number (Child index) low (logical.Data n, is, e) = absurd (omega arith)
same_number (Child index) low (logical.Single, is, e) = absurd (omega arith)
same_number (Child index) low (logical.Double, is, e) = absurd (omega arith)
same_number (Child index) low (logical.Child n, is, e) = omega arith
same_number (Child index) low (logical.Inodes, is, e) = absurd (omega arith)
same_number (Data index) low h = omega arith

logical_is : (block : FileBlock) → IsFileBlock block → IsLogicalBlock (logical_of block)
logical_is Record h = tt
logical_is Single h = tt
logical_is Double h = tt
logical_is (Child index) h = h
logical_is (Data index) h = h

pub code_listed : (block : FileBlock) → code_of block < BLOCK_CODES → NamesBlock (block_number (logical_of block))
    → code_named (block_number (logical_of block)) ≡ code_of block
code_listed block low names =
    code_named-block (logical_of block) (logical_is block (same_number block low names))
    ∙ ap code_of (file_block_of-logical block)

-- ---- whether an info names a block
pub names_decides : (l : LogState) (info : BlockInfo) → Decides (names_block l info) (IsNamed l info)
names_decides l info =
    let at = present_address l info.ino info.version (code_named info.lbn) in
    Decides-like (names_block l info) (λ h. record { somewhere = h.0; present = h.1 }) (λ h. (h.somewhere, h.present))
    (Decides-and (not (info.addr == 0)) (at == info.addr) (Decides-not (info.addr == 0) (Decides-eqb info.addr 0))
    (Decides-eqb at info.addr))

-- ---- the keys that have a place in a segment
-- a place is at an address
address_some : (p : Parts) (number code : ℕ) → (log_state p).at number code ≢ 0 → (log_state p).at number code / 4 ≢ 0
unfolding record_place
address_some p number code some none = elim (cases_eq code 0) [
  | inl record_ ↦
      let row = row_of p.log.tables number in
      let at : (log_state p).at number code ≡ record_place p.log.tables number = ap ((log_state p).at number) record_
      ∙ place-record p number in
      elim (cases_eq row.address 0) [
        | inl nowhere ↦ some (at ∙ cond-true _ _ _ (eq-eqb row.address 0 nowhere))
        | inr there ↦
            let is = at ∙ cond-false _ _ _ (ne_eqb row.address 0 there) in
            there (omega (arith, is, none))
      ]
  | inr other ↦
      let at = place-block p number code other in
      some (omega (arith, at, none))
]

-- its info
pub record Listed (p : Parts) (segment number code : ℕ) : Type 0 where
  pub info : BlockInfo
  pub there : Contains (infos_of p.log.memory segment) info
  pub number_is : info.ino ≡ number
  pub code_is : code_named info.lbn ≡ code
  pub named : IsNamed (log_state p) info

pub placed_listed : (p : Parts) (segment number code : ℕ) → IsStore p → IsPlaced (log_state p) number code
    → seg_of ((log_state p).at number code) ≡ segment
    → Listed p segment number code
placed_listed p segment number code store placed here =
    let l = log_state p in
    let place = l.at number code in
    let has = infos_of-named p.log.memory segment place
    (record { number = number; version = l.version number; code = code }) here
    (store.log.keys number code placed).owned in
    let info = info_of (place / 4) number (l.version number) (logical_of has.block) in
    let code_is : code_named info.lbn ≡ code =
    code_listed has.block (subst (λ c. c < BLOCK_CODES) (sym has.code) placed.code_below)
    (info_block p.log.memory segment info has.there) ∙ has.code in
    record {
      info = info;
      there = has.there;
      number_is = refl;
      code_is = code_is;
      named = record {
        somewhere = address_some p number code placed.somewhere;
        present = ap (present_address l number (l.version number)) code_is
            ∙ present_address-key l number code placed.number_below placed.code_below;
      };
    }

-- where they lie
info_here : (m : SegmentMemory) (segment : ℕ) (i : BlockInfo) → Contains (infos_of m segment) i → i.addr / 64 ≡ segment
info_here m segment i has =
    let only = infos_of-only m segment i has in
    let here = only.here in
    let at : only.place / 4 ≡ i.addr = ap (λ (x : BlockInfo). x.addr) only.same in
    omega arith

pub live_here : (p : Parts) (segment : ℕ) → All (λ (i : BlockInfo). i.addr / 64 ≡ segment) (live_infos p segment)
unfolding live_infos
live_here p segment =
    All-filter (names_block (log_state p)) (λ (i : BlockInfo). i.addr / 64 ≡ segment) (infos_of p.log.memory segment)
    (λ k d low. info_here p.log.memory segment (get_or (infos_of p.log.memory segment) k d)
    (Contains-get_or (infos_of p.log.memory segment) k d low))

pub live_kept : (p : Parts) (segment : ℕ) (i : BlockInfo) → Contains (infos_of p.log.memory segment) i
    → IsNamed (log_state p) i → Contains (live_infos p segment) i
unfolding live_infos
live_kept p segment i has named = kept (names_block (log_state p)) (infos_of p.log.memory segment) i has
    ((names_decides (log_state p) i).1 named)
