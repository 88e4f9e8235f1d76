-- When a block landed, its key waits no more, every other one does still, and no other has another place:
-- `landed_staged`, `landed_advances`, `landed_gone`, for `flushing::land_waiting`. The frame of one key is made clean
-- and its place alone changes (`GetsPlace`), so it is a matter of telling keys apart. The hard clause is `ParentsWait`:
-- the block that landed may not hold the address of one that waits (`free` of `LandsKey`), which is why FlushLemmas
-- goes by ranks.
use Rattle.std.proofs.Common.{◌≡◌, ◌≢◌, ℕ, zero, suc, ◌*◌, ◌/◌, ◌<◌, ◌≤◌, ◌⊎◌, List, [], ◌∷◌, length, Some, is_some}
use Rattle.std.proofs.Common.{false, refl, sym, ap, ◌∙◌, subst, inl, inr, arith}
use Rattle.std.proofs.lemmas.Bool.{cases_eq, false≢true}
use Rattle.std.specs.Prelude.{All}
use Rattle.std.proofs.lemmas.List.Elements.{All-head, All-tail}
use Rattle.std.proofs.lemmas.List.{length-map}
use Rattle.std.proofs.lemmas.Option.{none-some, same_Some}
use Rattle.lfs_ifile.specs.declared.inode.InodeRow.{InodeRow}
use Rattle.lfs_ifile.specs.Tables.{row_at}
use Rattle.lfs_inodes.specs.declared.inode.Inode.{Inode}
use Rattle.lfs_inodes.specs.Attributes.{Attributes}
use Rattle.lfs_inodes.specs.Reading.{Fields, fields_of}
use Rattle.lfs_cache.specs.declared.key.Key.{Key}
use Rattle.lfs_cache.specs.Contents.{IsLocked}
use Rattle.lfs_cache.specs.Keys.{same_key}
use Rattle.lfs_cache.proofs.Entries.{same_cases, same_is}
use Rattle.lfs_segments.specs.Memory.{next_address, room_of}
use Rattle.lfs_bmap.specs.declared.blocks.TheConstants.{BLOCK_CODES}
use Rattle.lfs_bmap.specs.declared.blocks.FileBlock.{FileBlock}
use Rattle.lfs_bmap.specs.Blocks.{IsFileBlock, code_of, logical_of, way_to}
use Rattle.lfs_bmap.specs.Log.{IsLog}
use Rattle.lfs_bmap.specs.Ways.{IsBlockWay, code_at, way_of}
use Rattle.lfs_bmap.proofs.CountingLemmas.{placed-cases}
use Rattle.lfs_bmap.proofs.WayLemmas.{known_way_of, up_known, way_of-code_of, way_of-known}
use Rattle.lfs_parts.specs.declared.parts.Parts.{Parts}
use Rattle.lfs_parts.specs.Files.{content_of}
use Rattle.lfs_segwrite.specs.Flushing.{Waits}
use Rattle.lfs_parts.specs.Keys.{log_state}
use Rattle.lfs_staging.specs.Addressing.{IsWaiting, StaysWaiting}
use Rattle.lfs_parts.specs.Waiting.{numbers_of}
use Rattle.lfs_segwrite.specs.Landing.{entry_of, LandsBlock, MayLand, GetsPlace}
use Rattle.lfs_segwrite.specs.Recording.{Advances, entry_at_version}
use Rattle.lfs_staging.specs.Staging.{IsStaged}
use Rattle.lfs_parts.specs.Store.{AreFiles, HolderWaits, IsPresent, IsWithin}
use Rattle.lfs_parts.specs.View.{key_of, record_of, version_of, waiting_in}
use Rattle.lfs_staging.proofs.SettingLemmas.{waiting_record}
use Rattle.lfs_parts.proofs.WaitingLemmas.{waiting-head, waiting-tail}
use Rattle.lfs_parts.proofs.CleanLemmas.{coded_below}
use Rattle.lfs_parts.proofs.FrameLemmas.{once_numbers, waiting_number}
use Rattle.lfs_segwrite.proofs.AgainLemmas.{waits_block}

-- what waits of a number rests on the numbers
waits_numbers : (vs ws : List Inode) (n : ℕ) → numbers_of ws ≡ numbers_of vs → is_some (waiting_in ws n)
    ≡ is_some (waiting_in vs n)
waits_numbers [] [] n same = refl
waits_numbers [] (w ∷ ws) n same = absurd (cc)
waits_numbers (v ∷ vs) [] n same = absurd (cc)
waits_numbers (v ∷ vs) (w ∷ ws) n same =
    let first : w.number ≡ v.number = cc in
    let rest : numbers_of ws ≡ numbers_of vs = cc in
    elim (cases_eq v.number n) [
      | inl here ↦ ap is_some (waiting-head w ws n (first ∙ here)) ∙ sym (ap is_some (waiting-head v vs n here))
      | inr ne ↦ ap is_some (waiting-tail w ws n (λ e. ne (sym first ∙ e))) ∙ waits_numbers vs ws n rest
          ∙ sym (ap is_some (waiting-tail v vs n ne))
    ]

-- the record that waits of a number is the number's
waiting_each : (P : Inode → Type 0) (vs : List Inode) (n : ℕ) (v : Inode) → All P vs → waiting_in vs n ≡ Some v → P v
waiting_each P [] n v all is = absurd (none-some v is)
waiting_each P (w ∷ vs) n v all is = elim (cases_eq w.number n) [
  | inl here ↦ subst P (same_Some w v (sym (waiting-head w vs n here) ∙ is)) (All-head P w vs all)
  | inr ne ↦ waiting_each P vs n v (All-tail P w vs all) (sym (waiting-tail w vs n ne) ∙ is)
]

pub found_waiting : (p : Parts) (n : ℕ) (v : Inode) → AreFiles p → waiting_in p.waiting n ≡ Some v → IsWaiting p v
found_waiting p n v files is =
    let present = waiting_each (λ (w : Inode). IsPresent p w.number w.version) p.waiting n v files.records is in
    record {
      waits = ap (waiting_in p.waiting) (waiting_number p.waiting n v is) ∙ is;
      in_use = present.in_use;
      at_version = present.at_version;
    }

-- so its key is the number's
pub key_here : (p : Parts) (n c : ℕ) (v : Inode) → IsWaiting p v → v.number ≡ n → key_of n (version_of p n) c
    ≡ key_of v.number v.version c
key_here p n c v is e = ap (λ m. key_of m (version_of p m) c) (sym e)
    ∙ ap (λ m. key_of v.number m c) (sym is.at_version)

pub entry_here : (p : Parts) (n : ℕ) (block : FileBlock) (v : Inode) → IsWaiting p v → v.number ≡ n
    → entry_at_version p n block ≡ entry_of v block
entry_here p n block v is e =
    ap (λ m. entry_at_version p m block) (sym e)
    ∙ ap (λ m. record { number = v.number; version = m; block = logical_of block }) (sym is.at_version)

-- ---- what lets a block land
pub may_land : (p : Parts) (v : Inode) (block : FileBlock) → IsStaged p 0 → IsWaiting p v → IsFileBlock block
    → code_of block ≢ 0
    → IsLocked (key_of v.number v.version (code_of block)) p.cache → MayLand p v block
may_land p v block staged is can other locked = record {
  is = is;
  waits = locked;
  can = can;
  other = other;
  within = staged.within v.number block (fields_of v) (waiting_record p v is) can
      (subst (λ n. IsLocked (key_of v.number n (code_of block)) p.cache) is.at_version locked);
  parent = λ i up way. staged.parents.holders (key_of v.number v.version (code_of block)) locked i up
      (way_of-code_of block can ∙ way);
}

-- ---- what it makes when it landed
pub record LandsKey (p q : Parts) (v : Inode) (block : FileBlock) (a : ℕ) : Type 0 where
  pub staged : IsStaged p 0
  pub is : IsWaiting p v
  pub can : IsFileBlock block
  pub other : code_of block ≢ 0
  pub waits : IsLocked (key_of v.number v.version (code_of block)) p.cache
  pub free : (key : Key) → IsLocked key p.cache → key.ino ≡ v.number → (i : ℕ) → way_of key.lbn.0 ≡ i ∷ way_to block → ⊥
  pub room : 1 ≤ room_of p.log.memory
  pub landed : LandsBlock p q v block a
  pub place : GetsPlace p q v.number (code_of block) a (4 * a)
  pub log : IsLog (log_state q) 0
  pub stays : StaysWaiting p q v
  pub files : AreFiles q
  pub content : content_of q ≡ content_of p
  pub frames : (key : Key) → same_key (key_of v.number v.version (code_of block)) key ≡ false → IsLocked key p.cache
      → IsLocked key q.cache
  pub only : (key : Key) → IsLocked key q.cache → IsLocked key p.cache

module _ (p q : Parts) (v : Inode) (block : FileBlock) (a : ℕ) (h : LandsKey p q v block a) where
  version_kept : (n : ℕ) → version_of q n ≡ version_of p n
  version_kept n = ap (λ (rs : List InodeRow). (row_at rs n).version) h.landed.rows

  pub landed_count : length q.waiting ≡ length p.waiting
  landed_count =
      sym (length-map q.waiting (λ (w : Inode). w.number)) ∙ ap (λ (ns : List ℕ). length ns) h.stays.numbers
      ∙ length-map p.waiting (λ (w : Inode). w.number)

  same_waits : (n : ℕ) → is_some (waiting_in q.waiting n) ≡ is_some (waiting_in p.waiting n)
  same_waits n = waits_numbers p.waiting q.waiting n h.stays.numbers

  pub landed_gone : IsLocked (key_of v.number v.version (code_of block)) q.cache → ⊥
  landed_gone locked = false≢true (sym (ap is_some h.landed.flushed) ∙ locked)

  -- what holds the address of a block that waits still does
  holders_stay : (key : Key) → IsLocked key q.cache → (i : ℕ) (up : List ℕ) → way_of key.lbn.0 ≡ i ∷ up
      → HolderWaits q.cache key.ino key.version up
  holders_stay key locked i [] way = tt
  holders_stay key locked i (j ∷ above) way =
      let before = h.only key locked in
      let holder = key_of key.ino key.version (code_at (j ∷ above)) in
      elim (same_cases (key_of v.number v.version (code_of block)) holder) [
        | inl same ↦
            let e = same_is (key_of v.number v.version (code_of block)) holder same in
            let known = subst IsBlockWay way (way_of-known key.lbn.0
            (coded_below key.lbn.0 (h.staged.whole.coded key before))) in
            let to : way_to block ≡ j ∷ above = sym (way_of-code_of block h.can) ∙ ap way_of (ap (λ (k : Key). k.lbn.0) e)
            ∙ known_way_of (j ∷ above) (up_known i (j ∷ above) known) in
            absurd (h.free key before (sym (ap (λ (k : Key). k.ino) e)) i (way ∙ ap (λ w. i ∷ w) (sym to)))
        | inr apart ↦ h.frames holder apart (h.staged.parents.holders key before i (j ∷ above) way)
      ]

  number_after : h.stays.after.number ≡ v.number
  number_after = ap (λ (x : Attributes). x.number) h.stays.same

  record_after : record_of q v.number ≡ Some (fields_of h.stays.after)
  record_after = ap (record_of q) (sym number_after) ∙ waiting_record q h.stays.after h.stays.here

  within_after : (n : ℕ) (b : FileBlock) (f : Fields) → record_of q n ≡ Some f → IsFileBlock b
      → IsLocked (key_of n (version_of q n) (code_of b)) q.cache → IsWithin b f.attributes.size
  within_after n b f is can locked =
      let before = subst (λ m. IsLocked (key_of n m (code_of b)) p.cache) (version_kept n)
      (h.only (key_of n (version_of q n) (code_of b)) locked) in
      elim (cases_eq n v.number) [
        | inl e ↦
            let same : fields_of h.stays.after ≡ f = same_Some _ f (sym record_after ∙ ap (record_of q) (sym e) ∙ is) in
            let was : IsWithin b v.size = h.staged.within n b (fields_of v) (ap (record_of p) e
            ∙ waiting_record p v h.is) can before in
            subst (λ (x : Fields). IsWithin b x.attributes.size) same
            (subst (λ (x : Attributes). IsWithin b x.size) (sym h.stays.same) was)
        | inr ne ↦ h.staged.within n b f (sym (h.landed.records n ne) ∙ is) can before
      ]

  pub landed_staged : IsStaged q 0
  landed_staged = record {
    whole = h.files;
    log = h.log;
    parents = record {
      records = λ key locked. same_waits key.ino ∙ h.staged.parents.records key (h.only key locked);
      holders = holders_stay;
    };
    once = once_numbers p.waiting q.waiting h.stays.numbers h.staged.once;
    few = let few = h.staged.few in let count = landed_count in omega arith;
    within = within_after;
  }

  -- the key of the block waited
  here_waits : Waits p v.number (code_of block)
  here_waits = waits_block p v.number (code_of block) h.other
      (subst (λ n. IsLocked (key_of v.number n (code_of block)) p.cache) h.is.at_version h.waits)

  waits_before : (n c : ℕ) → Waits q n c → Waits p n c
  waits_before n zero waits = sym (same_waits n) ∙ waits
  waits_before n (suc c) waits = subst (λ m. IsLocked (key_of n m (suc c)) p.cache) (version_kept n)
      (h.only (key_of n (version_of q n) (suc c)) waits)

  waits_after : (n c : ℕ) → (n ≢ v.number) ⊎ (c ≢ code_of block) → Waits p n c → Waits q n c
  waits_after n zero apart waits = same_waits n ∙ waits
  waits_after n (suc c) apart waits =
      subst (λ m. IsLocked (key_of n m (suc c)) q.cache) (sym (version_kept n))
      (h.frames (key_of n (version_of p n) (suc c))
      (elim (same_cases (key_of v.number v.version (code_of block)) (key_of n (version_of p n) (suc c))) [
        | inl same ↦
            let e = same_is (key_of v.number v.version (code_of block)) (key_of n (version_of p n) (suc c)) same in
            absurd (elim apart [
              | inl ne ↦ ne (sym (ap (λ (k : Key). k.ino) e))
              | inr ne ↦ ne (sym (ap (λ (k : Key). k.lbn.0) e))
            ])
        | inr other ↦ other
      ]) waits)

  still_there : (n c : ℕ) → n < length p.log.tables.rows → c < BLOCK_CODES → (Waits p n c → ⊥) → (log_state q).at n c
      ≡ (log_state p).at n c
  still_there n c low below none =
      h.place.places n c low below ∙ (elim (placed-cases (log_state p).at v.number (code_of block) (4 * a) n c) [
        | inl e ↦ absurd (none (subst (λ m. Waits p m c) (sym e.0) (subst (Waits p v.number) (sym e.1) here_waits)))
        | inr e ↦ e.1
      ])

  moved_there : (from : ℕ) → from ≤ next_address p.log.memory → (n c : ℕ) → n < length p.log.tables.rows
      → c < BLOCK_CODES → Waits p n c → (Waits q n c → ⊥)
      → (from ≤ (log_state q).at n c / 4) × ((log_state q).at n c / 4 < next_address q.log.memory)
  moved_there from first n c low below waits gone =
      elim (placed-cases (log_state p).at v.number (code_of block) (4 * a) n c) [
        | inl e ↦
            let at : (log_state q).at n c ≡ 4 * a = h.place.places n c low below ∙ e.2 in
            let quarter : (log_state q).at n c / 4 ≡ a = ap (λ m. m / 4) at
            ∙ (let e : 4 * a / 4 ≡ a = omega arith in e) in
            let end = h.place.end in
            let next = h.place.next in (
              subst (λ m. from ≤ m) (sym quarter) (omega arith),
              subst (λ m. m < next_address q.log.memory) (sym quarter) (omega arith),
            )
        | inr e ↦ absurd (gone (waits_after n c e.0 waits))
      ]

  pub landed_advances : (from : ℕ) → from ≤ next_address p.log.memory → Advances from p q
  landed_advances from first = record {
    content = h.content;
    segments = h.place.segments;
    serials = h.place.serials;
    rising = h.place.rising;
    active = h.place.active;
    states = h.place.states;
    clean = h.place.clean;
    numbers = ap length h.landed.rows;
    used = λ n. ap (λ (rs : List InodeRow). (row_at rs n).used) h.landed.rows;
    versions = version_kept;
    next = let next = h.place.next in omega arith;
    only = λ n c low below waits. waits_before n c waits;
    still = still_there;
    moved = moved_there from first;
    blocks = λ b apart. h.place.blocks b (let end = h.place.end in let room = h.room in
        elim apart [ inl low ↦ λ e. omega arith | inr high ↦ λ e. omega arith ]);
    held = h.landed.held;
  }
