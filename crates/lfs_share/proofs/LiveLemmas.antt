-- How many infos of a segment name a block, by its live bytes (`live_weighs`), for ShareLemmas. Each address of the
-- segment whose infos name a block is that of a key's place, and no other address is; so these keys are as many as such
-- addresses, and their bytes are among the live ones. A block has one info. A block of records has four at most, though
-- it be that one of its records is live and the others say the same number.
use Rattle.std.proofs.Common.{◌≡◌, ◌≢◌, ◌⊎◌, ℕ, zero, suc, ◌+◌, ◌-◌, ◌*◌, ◌/◌, ◌<◌, ◌≤◌, List, [], ◌∷◌, ◌++◌, length}
use Rattle.std.proofs.Common.{Option, Some, None, option_map, Bool, refl, sym, ap, ◌∙◌, subst, inl, inr, arith}
use Rattle.std.proofs.Common.{append-nil}
use Rattle.std.specs.List.{AllByRecursion, cons_option, filter, filter_map, flat_map}
use Rattle.std.proofs.lemmas.Bool.{cases_Bool, cases_eq, cond-true, cond-false, eq-eqb, ne_eqb}
use Rattle.std.proofs.lemmas.Grind.{flat_map-append}
use Rattle.std.proofs.lemmas.List.{length-append}
use Rattle.std.proofs.lemmas.List.Elements.{filter-append}
use Rattle.lfs_types.specs.declared.cleaner.BlockInfo.{BlockInfo}
use Rattle.lfs_inodes.specs.Reading.{Fields, fields_in}
use Rattle.lfs_inodes.specs.Slots.{slots}
use Rattle.lfs_segments.specs.declared.entry.LogicalBlock.{LogicalBlock}
use Rattle.lfs_segments.specs.declared.entry.LogicalBlock.TheVariants as logical
use Rattle.lfs_segments.specs.declared.entry.SummaryEntry.{SummaryEntry}
use Rattle.lfs_segments.specs.Entry.{block_number}
use Rattle.lfs_segments.specs.Log.{entry_at, first_of, named_one, names_from}
use Rattle.lfs_segments.specs.Memory.{SegmentMemory, block_at, log_start}
use Rattle.lfs_segments.proofs.MemoryLemmas.{log_start-le}
use Rattle.lfs_bmap.specs.declared.blocks.TheConstants.{BLOCK_CODES}
use Rattle.lfs_bmap.specs.Counting.{live_bytes, placed, seg_of, units}
use Rattle.lfs_bmap.specs.Log.{IsPlaced, LogState}
use Rattle.lfs_bmap.proofs.CountingLemmas.{live-placed, placed-cases, weight-here, weight-none}
use Rattle.lfs_log.specs.Infos.{block_infos, entry_infos, info_of, infos_from, infos_of, slot_info}
use Rattle.lfs_log.specs.Parts.{live_of}
use Rattle.lfs_log.proofs.ScanLemmas.{length-filter_map}
use Rattle.lfs_parts.specs.declared.parts.Parts.{Parts}
use Rattle.lfs_parts.specs.Keys.{log_state}
use Rattle.lfs_parts.specs.Store.{IsStore}
use Rattle.lfs_segwrite.specs.Gaining.{live_infos, names_block}
use Rattle.lfs_segwrite.specs.Marking.{IsNamed, code_named}
use Rattle.lfs_segwrite.proofs.GainLemmas.{length_filter}
use Rattle.lfs_segwrite.proofs.InfoLemmas.{names_decides}
use Rattle.lfs_segwrite.proofs.NamedLemmas.{code_named-block, named_place, named_there}
use Rattle.lfs_share.proofs.PassLemmas.{blocks_in, blocks_in-append}

-- ---- the infos of one address
abbrev LieAt : ℕ → List BlockInfo → Type 0
LieAt a infos = AllByRecursion (λ (info : BlockInfo). info.addr ≡ a) infos

-- one info, or those of a block of records
abbrev AreOfOne : List BlockInfo → Type 0
AreOfOne infos = (length infos ≤ 1) ⊎ ((length infos ≤ 4) × (blocks_in infos ≡ 0))

inodes_code : code_named (block_number logical.Inodes) ≡ 0
inodes_code = code_named-block logical.Inodes tt

slot_of_records : (a : ℕ) (o : Option Fields) (slot : List ℕ) → fields_in slot ≡ o → (rest : List BlockInfo)
    → LieAt a rest × (blocks_in rest ≡ 0)
    → LieAt a (cons_option (slot_info a slot) rest) × (blocks_in (cons_option (slot_info a slot) rest) ≡ 0)
unfolding slot_info
slot_of_records a None slot is rest before = subst (λ (o : Option Fields).
    LieAt a (cons_option (option_map (λ (f : Fields). info_of a f.attributes.number f.attributes.version logical.Inodes) o)
    rest) × (blocks_in (cons_option (option_map (λ (f : Fields). info_of a f.attributes.number f.attributes.version
    logical.Inodes) o) rest) ≡ 0)) (sym is) before
slot_of_records a (Some f) slot is rest before = subst (λ (o : Option Fields).
    LieAt a (cons_option (option_map (λ (g : Fields). info_of a g.attributes.number g.attributes.version logical.Inodes) o)
    rest) × (blocks_in (cons_option (option_map (λ (g : Fields). info_of a g.attributes.number g.attributes.version
    logical.Inodes) o) rest) ≡ 0)) (sym is) (
      (refl, before.0),
      let none = before.1 in
          let unit = cond-true {A = ℕ} _ 0 1 (eq-eqb (code_named (block_number logical.Inodes)) 0 inodes_code) in
          omega arith,
    )

slots_of_records : (a : ℕ) (ss : List (List ℕ)) → LieAt a (filter_map (slot_info a) ss)
    × (blocks_in (filter_map (slot_info a) ss) ≡ 0)
slots_of_records a [] = (tt, refl)
slots_of_records a (s ∷ ss) =
    slot_of_records a (fields_in s) s refl (filter_map (slot_info a) ss) (slots_of_records a ss)

entry_of_one : (a number version : ℕ) (b : LogicalBlock) (bytes : List ℕ)
    → LieAt a (block_infos a number version b bytes) × AreOfOne (block_infos a number version b bytes)
unfolding block_infos
entry_of_one a number version (logical.Data index) bytes = ((refl, tt), inl (omega arith))
entry_of_one a number version logical.Single bytes = ((refl, tt), inl (omega arith))
entry_of_one a number version logical.Double bytes = ((refl, tt), inl (omega arith))
entry_of_one a number version (logical.Child index) bytes = ((refl, tt), inl (omega arith))
entry_of_one a number version logical.Inodes bytes =
    let records = slots_of_records a (slots bytes) in
    let few = length-filter_map (slot_info a) (slots bytes) in
    (records.0, inr (omega arith, records.1))

-- ---- those of them that name a block
filtered_blocks : (p : BlockInfo → Bool) (xs : List BlockInfo) → blocks_in (filter p xs) ≤ blocks_in xs
filtered_blocks p [] = omega arith
filtered_blocks p (x ∷ xs) =
    let rest = filtered_blocks p xs in
    elim (cases_Bool (p x)) [
      | inl t ↦ let is = ap blocks_in (cond-true (p x) (x ∷ filter p xs) (filter p xs) t) in omega arith
      | inr f ↦ let is = ap blocks_in (cond-false (p x) (x ∷ filter p xs) (filter p xs) f) in omega arith
    ]

filtered_one : (p : BlockInfo → Bool) (xs : List BlockInfo) → AreOfOne xs → AreOfOne (filter p xs)
filtered_one p xs one =
    let fewer = length_filter p xs in
    let blocks = filtered_blocks p xs in
    elim one [
      | inl few ↦ inl (omega arith)
      | inr records ↦ let few = records.0 in let none = records.1 in inr (omega arith, omega arith)
    ]

-- an info that names a block at an address
abbrev NamesAt : LogState → ℕ → BlockInfo → Type 0
NamesAt l a info = (info.addr ≡ a) × IsNamed l info

filtered_named : (l : LogState) (a : ℕ) (xs : List BlockInfo) → LieAt a xs
    → AllByRecursion (NamesAt l a) (filter (names_block l) xs)
filtered_named l a [] lie = tt
filtered_named l a (x ∷ xs) lie =
    let rest = filtered_named l a xs lie.1 in
    elim (cases_Bool (names_block l x)) [
      | inl t ↦ subst (AllByRecursion (NamesAt l a))
          (sym (cond-true (names_block l x) (x ∷ filter (names_block l) xs) (filter (names_block l) xs) t))
          ((lie.0, (names_decides l x).0 t), rest)
      | inr f ↦ subst (AllByRecursion (NamesAt l a))
          (sym (cond-false (names_block l x) (x ∷ filter (names_block l) xs) (filter (names_block l) xs) f)) rest
    ]

-- Infos of one address that name a block: a key has its place there, and they are no more than its kind has.
record AreHeld (l : LogState) (a : ℕ) (infos : List BlockInfo) : Type 0 where
  number : ℕ
  code : ℕ
  key : IsPlaced l number code
  there : l.at number code / 4 ≡ a
  few : ((code ≡ 0) × (blocks_in infos ≡ 0) × (length infos ≤ 4))
      ⊎ ((code ≢ 0) × (blocks_in infos ≤ 1) × (length infos ≤ 1))

few_of_kind : (info : BlockInfo) (infos : List BlockInfo) → AreOfOne (info ∷ infos)
    → ((code_named info.lbn ≡ 0) × (blocks_in (info ∷ infos) ≡ 0) × (length (info ∷ infos) ≤ 4))
    ⊎ ((code_named info.lbn ≢ 0) × (blocks_in (info ∷ infos) ≤ 1) × (length (info ∷ infos) ≤ 1))
few_of_kind info (next ∷ infos) (inl few) = absurd (omega arith)
few_of_kind info [] (inl few) = elim (cases_eq (code_named info.lbn) 0) [
  | inl none ↦
      let unit = cond-true {A = ℕ} _ 0 1 (eq-eqb (code_named info.lbn) 0 none) in
      inl (none, omega arith, omega arith)
  | inr some ↦
      let unit = cond-false {A = ℕ} _ 0 1 (ne_eqb (code_named info.lbn) 0 some) in
      inr (some, omega arith, omega arith)
]
few_of_kind info infos (inr (few, none)) = elim (cases_eq (code_named info.lbn) 0) [
  | inl is ↦ inl (is, none, few)
  | inr some ↦
      let unit = cond-false {A = ℕ} _ 0 1 (ne_eqb (code_named info.lbn) 0 some) in
      absurd (omega arith)
]

held : (l : LogState) (a : ℕ) (infos : List BlockInfo) → AllByRecursion (NamesAt l a) infos → AreOfOne infos
    → (infos ≡ []) ⊎ AreHeld l a infos
held l a [] each one = inl refl
held l a (info ∷ infos) each one = inr (record {
  number = info.ino;
  code = code_named info.lbn;
  key = (named_there l info each.0.1).0;
  there = named_place l info each.0.1 ∙ each.0.0;
  few = few_of_kind info infos one;
})

-- those of an address of the log
abbrev named_there_by : SegmentMemory → LogState → ℕ → Option SummaryEntry → List BlockInfo
named_there_by m l a entry = filter (names_block l) (flat_map (entry_infos m) (named_one a entry))

held_there : (m : SegmentMemory) (l : LogState) (a : ℕ) (entry : Option SummaryEntry)
    → (named_there_by m l a entry ≡ []) ⊎ AreHeld l a (named_there_by m l a entry)
unfolding entry_infos
held_there m l a None = inl refl
held_there m l a (Some e) =
    let infos = block_infos a e.number e.version e.block (block_at m a) in
    let one = entry_of_one a e.number e.version e.block (block_at m a) in
    subst (λ (xs : List BlockInfo). (filter (names_block l) xs ≡ []) ⊎ AreHeld l a (filter (names_block l) xs))
    (sym (append-nil infos))
    (held l a (filter (names_block l) infos) (filtered_named l a infos one.0) (filtered_one (names_block l) infos one.1))

-- ---- those of a segment
-- So many infos weigh no more than some bytes: each of a block 512 of them, and each four of records 128.
pub record Weighs (infos : List BlockInfo) (bytes : ℕ) : Type 0 where
  pub blocks : ℕ
  pub records : ℕ
  pub weight : 512 * blocks + 128 * records ≤ bytes
  pub few_blocks : blocks_in infos ≤ blocks
  pub few : length infos ≤ blocks + 4 * records

-- some more at an address, where one key more has its place
weighs_more : (l : LogState) (a bytes more : ℕ) (xs ys : List BlockInfo) (h : AreHeld l a ys) → Weighs xs bytes
    → more ≡ bytes + 128 * units h.code
    → Weighs (xs ++ ys) more
weighs_more l a bytes more xs ys h w is =
    let long = length-append xs ys in
    let blocks = blocks_in-append xs ys in
    let weight = w.weight in
    let before = w.few_blocks in
    let few = w.few in
    elim h.few [
      | inl records ↦
          let unit : units h.code ≡ 1 = cond-true _ _ _ (eq-eqb h.code 0 records.0) in
          let none = records.1 in
          let some = records.2 in
          record {
            blocks = w.blocks;
            records = w.records + 1;
            weight = omega arith;
            few_blocks = omega arith;
            few = omega arith;
          }
      | inr block ↦
          let unit : units h.code ≡ 4 = cond-false _ _ _ (ne_eqb h.code 0 block.0) in
          let one = block.1 in
          let some = block.2 in
          record {
            blocks = w.blocks + 1;
            records = w.records;
            weight = omega arith;
            few_blocks = omega arith;
            few = omega arith;
          }
    ]

module _ (p : Parts) (segment : ℕ) where
  abbrev l : LogState
  l = log_state p

  abbrev live_from : ℕ → List BlockInfo
  live_from n = filter (names_block l) (infos_from p.log.memory (first_of segment) n)

  abbrev bytes_at : (ℕ → ℕ → ℕ) → ℕ
  bytes_at at = live_bytes l.numbers BLOCK_CODES at segment

  -- places that are those of the log for the keys below an address
  abbrev Agrees : (ℕ → ℕ → ℕ) → ℕ → Type 0
  Agrees at a = (number code : ℕ) → IsPlaced l number code → l.at number code / 4 < a
      → at number code ≡ l.at number code

  live_from-more : (n : ℕ) → live_from (suc n) ≡ live_from n
      ++ named_there_by p.log.memory l (first_of segment + n) (entry_at p.log.memory (first_of segment + n))
  unfolding names_from
  live_from-more n =
      let m = p.log.memory in
      let a = first_of segment + n in
      ap (filter (names_block l))
      (flat_map-append (entry_infos m) (names_from m (first_of segment) n) (named_one a (entry_at m a)))
      ∙ filter-append (names_block l) (flat_map (entry_infos m) (names_from m (first_of segment) n))
      (flat_map (entry_infos m) (named_one a (entry_at m a)))

  none_from : live_from 0 ≡ []
  unfolding names_from
  none_from = refl

  -- without the key that is there the places agree below the address
  agrees_below : (at : ℕ → ℕ → ℕ) (a number code : ℕ) → Agrees at (suc a) → l.at number code / 4 ≡ a
      → Agrees (placed at number code 0) a
  agrees_below at a number code agrees there n c key low = elim (placed-cases at number code 0 n c) [
    | inl same ↦
        let is : l.at n c ≡ l.at number code = ap (λ m. l.at m c) same.0 ∙ ap (l.at number) same.1 in
        absurd (omega arith)
    | inr other ↦ other.1 ∙ agrees n c key (omega arith)
  ]

  weighs : (n : ℕ) (at : ℕ → ℕ → ℕ) → n + log_start segment ≤ 64 → Agrees at (first_of segment + n)
      → Weighs (live_from n) (bytes_at at)
  weighs zero at low agrees = subst (λ (xs : List BlockInfo). Weighs xs (bytes_at at)) (sym none_from)
      (record { blocks = 0; records = 0; weight = omega arith; few_blocks = omega arith; few = omega arith })
  weighs (suc n) at low agrees =
      let a = first_of segment + n in
      let next : first_of segment + suc n ≡ suc a = omega arith in
      elim (held_there p.log.memory l a (entry_at p.log.memory a)) [
        | inl none ↦ subst (λ (xs : List BlockInfo). Weighs xs (bytes_at at))
            (sym (live_from-more n ∙ ap (λ (xs : List BlockInfo). live_from n ++ xs) none ∙ append-nil (live_from n)))
            (weighs n at (omega arith) (λ number code key below. agrees number code key (omega arith)))
        | inr h ↦
            let there = h.there in
            let same : at h.number h.code ≡ l.at h.number h.code = agrees h.number h.code h.key (omega arith) in
            let seg : seg_of (at h.number h.code) ≡ segment = omega arith in
            let rest = weighs n (placed at h.number h.code 0) (omega arith)
            (agrees_below at a h.number h.code (subst (Agrees at) next agrees) there) in
            let change = live-placed l.numbers BLOCK_CODES at h.number h.code 0 segment h.key.number_below
            h.key.code_below in
            let none = weight-none segment h.code in
            let full = weight-here (at h.number h.code) segment h.code (λ e. h.key.somewhere (sym same ∙ e)) seg in
            subst (λ (xs : List BlockInfo). Weighs xs (bytes_at at)) (sym (live_from-more n))
            (weighs_more l a (bytes_at (placed at h.number h.code 0)) (bytes_at at) (live_from n) _ h rest
            (omega arith))
      ]

-- The infos of a segment that name a block weigh no more than its live bytes.
pub live_weighs : (p : Parts) (segment : ℕ) → IsStore p → segment < p.log.memory.segments
    → Weighs (live_infos p segment) (live_of p.log.tables segment)
unfolding live_infos infos_of
live_weighs p segment store inside =
    let low = log_start-le segment in
    subst (Weighs (filter (names_block (log_state p)) (infos_of p.log.memory segment)))
    (sym (store.log.counted segment inside))
    (weighs p segment (64 - log_start segment) (log_state p).at (omega arith) (λ number code key below. refl))
