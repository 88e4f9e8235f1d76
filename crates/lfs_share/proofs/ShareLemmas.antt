-- Where a segment is clean, a dirty one with few live bytes is gainful (`worth`); where three are not clean, there is
-- one, or more bytes are live than the share (`past`), for `restoring::restore`. All that are dirty having more, they
-- have more than the share together: at most two are clean, and one is active.
use Rattle.std.proofs.Common.{◌≡◌, ℕ, zero, suc, ◌+◌, ◌-◌, ◌*◌, ◌<◌, ◌≤◌, List, length, Result, Ok, Err, refl, ap, ◌∙◌}
use Rattle.std.proofs.Common.{inl, inr, arith}
use Rattle.std.proofs.lemmas.Bool.{cases_eq, cases_lt}
use Rattle.std.specs.Prelude.{if◌then◌else◌, ◌==◌, OnErr, OnOk}
use Rattle.lfs_inodes.specs.declared.inode.Inode.{Inode}
use Rattle.lfs_ifile.specs.declared.segment.SegState.{SegState}
use Rattle.lfs_ifile.specs.declared.segment.SegState.TheVariants.{Clean, Dirty, Active}
use Rattle.lfs_segments.specs.Memory.{room_of}
use Rattle.lfs_log.specs.Parts.{LogParts, live_of, state_of}
use Rattle.lfs_bmap.specs.Counting.{total}
use Rattle.lfs_bmap.specs.Log.{clean_unit}
use Rattle.lfs_parts.specs.declared.parts.Parts.{Parts}
use Rattle.lfs_parts.specs.Store.{IsFlushed, IsStore}
use Rattle.lfs_segwrite.specs.Applying.{WritesWaiting, waiting_blocks}
use Rattle.lfs_segwrite.specs.Collecting.{entries_of}
use Rattle.lfs_segwrite.proofs.CollectingLemmas.{entries_of-length}
use Rattle.lfs_segwrite.specs.Gaining.{IsGainful, NoneIsGainful, live_infos, space}
use Rattle.lfs_logstore.specs.Gaining.{GainsRoom, GainsSpace}
use Rattle.lfs_share.specs.Answering.{WritesThenCleans}
use Rattle.lfs_share.specs.Share.{IsWithinShare, KeepsOne, LacksShare, taken}
use Rattle.lfs_share.proofs.LiveLemmas.{live_weighs}
use Rattle.lfs_share.proofs.TakenLemmas.{live_few}
use Rattle.lfs_logstore.specs.States as state
use Rattle.lfs_logstore.proofs.RoomLemmas.{same_waiting}
use Rattle.lfs_parts.specs.Filling.{SameButClean}
use Rattle.lfs_types.specs.Cleaned.{with_clean_segment}
use Rattle.lfs_types.specs.StoreStates.{Follows, Shape, StoreState}
use Rattle.lfs_types.specs.declared.cleaner.CleanFault.{CleanFault}
use Rattle.lfs_parts.specs.Files.{content_of}
use Rattle.lfs_share.proofs.PassLemmas.{blocks_bound, widest_bound}

pub worth : (p : Parts) (segment : ℕ) → IsStore p → segment < p.log.memory.segments
    → state_of p.log.tables segment ≡ Dirty → 0 < p.log.clean → live_of p.log.tables segment ≤ 4608
    → IsGainful p segment
worth p segment store inside dirty some few =
    let infos = live_infos p segment in
    let w = live_weighs p segment store inside in
    let weight = w.weight in
    let blocks = w.few_blocks in
    let long = w.few in
    let pass = blocks_bound infos in
    let most = widest_bound infos in
    record {
      inside = inside;
      dirty = dirty;
      worth = (omega arith, inr (some, omega arith));
    }

-- ---- what is done where segments were few
-- Where fewer than three segments are clean now, fewer were once what waited was written: so anything may have followed.
pub still_idle : (old between new : Parts) → WritesThenCleans old between → between.log.clean < 3
    → WritesThenCleans old new
still_idle old between new w few = record {
  written = w.written;
  writes = w.writes;
  idle = λ enough. let same = ap (λ (p : Parts). p.log.clean) (w.idle enough) in absurd (omega arith);
}

-- ---- the live bytes of all, where each dirty one has more than these
-- Of the first n segments: so much is live at least, but for those that are clean and, behind it, the active one.
record HasMore (p : Parts) (n : ℕ) : Type 0 where
  before : n ≤ p.log.memory.active → 4609 * n ≤ total (live_of p.log.tables) n
      + 4609 * total (λ s. clean_unit (state_of p.log.tables s)) n
  behind : 4609 * n ≤ total (live_of p.log.tables) n
      + 4609 * total (λ s. clean_unit (state_of p.log.tables s)) n + 4609

module _ (p : Parts) (store : IsStore p) (much : (s : ℕ) → s < p.log.memory.segments
    → state_of p.log.tables s ≡ Dirty → 4608 < live_of p.log.tables s) where
  more_next : (n : ℕ) (state : SegState) → state_of p.log.tables n ≡ state → n < p.log.memory.segments → HasMore p n
      → HasMore p (suc n)
  unfolding total
  more_next n Clean is low h =
      let unit : clean_unit (state_of p.log.tables n) ≡ 1 = ap clean_unit is in
      let behind = h.behind in
      record {
        before = λ more. let before = h.before (omega arith) in omega arith;
        behind = omega arith;
      }
  more_next n Dirty is low h =
      let unit : clean_unit (state_of p.log.tables n) ≡ 0 = ap clean_unit is in
      let live = much n low is in
      let behind = h.behind in
      record {
        before = λ more. let before = h.before (omega arith) in omega arith;
        behind = omega arith;
      }
  more_next n Active is low h =
      let unit : clean_unit (state_of p.log.tables n) ≡ 0 = ap clean_unit is in
      let here : n ≡ p.log.memory.active = store.log.segments.no_other n low is in
      let before = h.before (omega arith) in
      record {
        before = λ more. absurd (omega arith);
        behind = omega arith;
      }

  more : (n : ℕ) → n ≤ p.log.memory.segments → HasMore p n
  unfolding total
  more zero low = record { before = λ le. omega arith; behind = omega arith }
  more (suc n) low = more_next n (state_of p.log.tables n) refl (omega arith) (more n (omega arith))

pub past : (p : Parts) → IsStore p → p.log.clean ≤ 2 → NoneIsGainful p → LacksShare p
past p store few none = elim (cases_eq p.log.clean 0) [
  | inl empty ↦ inl empty
  | inr some ↦
      let much : (s : ℕ) → s < p.log.memory.segments → state_of p.log.tables s ≡ Dirty
      → 4608 < live_of p.log.tables s =
      λ s inside dirty. elim (cases_lt 4608 (live_of p.log.tables s)) [
        | inl large ↦ large
        | inr small ↦ absurd (none s (worth p s store inside dirty (omega arith) small))
      ] in
      let all = (more p store much p.log.memory.segments (omega arith)).behind in
      let clean = store.log.segments.clean_count in
      let least = store.whole.parts.laid_out.at_least in
      inr (omega arith)
]

-- ---- there is no more space than segments have blocks
clean_few : (state : SegState) → clean_unit state ≤ 1
clean_few Clean = omega arith
clean_few Dirty = omega arith
clean_few Active = omega arith

few_clean : (p : Parts) (n : ℕ) → total (λ s. clean_unit (state_of p.log.tables s)) n ≤ n
unfolding total
few_clean p zero = omega arith
few_clean p (suc n) = let one = clean_few (state_of p.log.tables n) in let rest = few_clean p n in omega arith

pub space_most : (p : Parts) → IsStore p → space p ≤ 63 * p.log.memory.segments + 64
space_most p store =
    let clean = store.log.segments.clean_count in
    let few = few_clean p p.log.memory.segments in
    omega arith

-- ---- each gain adds to the space
flushed_blocks : (p : Parts) → IsFlushed p → waiting_blocks p ≡ 0
flushed_blocks p flushed =
    let frames : length p.cache.locked ≡ 0 = ap length flushed.no_frame in
    let records : length p.waiting ≡ 0 = ap (λ (vs : List Inode). length vs) flushed.no_record in
    let many : length (entries_of p) ≡ 0 = let all = entries_of-length p in omega arith in
    ap (λ n. if n == 0 then 0 else n + 1) many

pub gained_more : (old new : Parts) → IsFlushed old → GainsSpace old new
    → new.log.memory.segments ≡ old.log.memory.segments
    → 63 * new.log.memory.segments + 65 - space new < 63 * old.log.memory.segments + 65 - space old
gained_more old new flushed g same =
    let none = flushed_blocks old flushed in
    let most = space_most g.between g.written.store in
    let segments = g.written.log.segments in
    let more = g.more in
    elim g.written.left [
      | inl here ↦ let left = here.1 in let clean = here.2 in omega arith
      | inr opened ↦ let short = opened.2 in absurd (omega arith)
    ]

-- ---- a segment stays clean
pub kept_written : (old new : Parts) → WritesWaiting old new → KeepsOne old → 0 < new.log.clean
kept_written old new w kept = elim w.left [
  | inl here ↦ let same = here.2 in elim kept [
    | inl two ↦ omega arith
    | inr fits ↦ let some = fits.0 in omega arith
  ]
  | inr opened ↦ let less = opened.1 in let short = opened.2 in elim kept [
    | inl two ↦ omega arith
    | inr fits ↦ let room = fits.1 in absurd (omega arith)
  ]
]

pub kept_flushed : (p : Parts) → IsFlushed p → 0 < p.log.clean → KeepsOne p
kept_flushed p flushed some = let none = flushed_blocks p flushed in inr (some, omega arith)

pub kept_behind_gain : (old new : Parts) → GainsSpace old new → KeepsOne old → 0 < new.log.clean
kept_behind_gain old new g kept =
    let between = kept_written old g.between g.written kept in
    let clean = g.reclaimed.clean in
    omega arith

pub kept_gained : (old new : Parts) → IsFlushed old → GainsSpace old new → 0 < old.log.clean → 0 < new.log.clean
kept_gained old new flushed g some = kept_behind_gain old new g (kept_flushed old flushed some)

pub kept_room : (old new : Parts) (result : Result (Unit {0}) CleanFault) → GainsRoom old result new → KeepsOne old
    → KeepsOne new
kept_room old new (Ok done) g kept = kept_flushed new g.flushed (kept_behind_gain old new g.gained kept)
kept_room old new (Err fault) g kept = kept_flushed new g.flushed (kept_written old new g.written kept)

-- nor does it change how many numbers and segments there are
pub room_shape : (old new : StoreState) (result : Result (Unit {0}) CleanFault)
    → OnOk result (Follows (with_clean_segment old) new) → OnErr result (Follows old new) → new.shape ≡ old.shape
room_shape old new (Ok done) gained failed = gained.shape
room_shape old new (Err fault) gained failed = failed.shape

-- ---- within the share nothing is lacking
pub never : (old new : Parts) → IsStore new → (state.state_of new).content ≡ (state.state_of old).content
    → (state.state_of new).shape ≡ (state.state_of old).shape
    → IsWithinShare (state.state_of old) → 0 < new.log.clean → LacksShare new → ⊥
never old new store content shape within some (inl none) = omega arith
never old new store content shape within some (inr large) =
    let few = live_few new store in
    let numbers : length new.log.tables.rows ≡ length old.log.tables.rows = ap (λ (s : Shape). s.numbers) shape in
    let segments : new.log.memory.segments ≡ old.log.memory.segments = ap (λ (s : Shape). s.segments) shape in
    let same : taken (length new.log.tables.rows) (content_of new) ≡ taken (length old.log.tables.rows) (content_of old) =
    ap (λ n. taken n (content_of new)) numbers ∙ ap (taken (length old.log.tables.rows)) content in
    omega arith

-- a read may fill frames, and moves nothing
pub kept_read : (p q : Parts) → SameButClean p q → KeepsOne p → KeepsOne q
kept_read p q h kept =
    let waits = same_waiting p q h in
    let left : room_of q.log.memory ≡ room_of p.log.memory = ap (λ (l : LogParts). room_of l.memory) h.log in
    let clean : q.log.clean ≡ p.log.clean = ap (λ (l : LogParts). l.clean) h.log in
    elim kept [
      | inl two ↦ inl (omega arith)
      | inr fits ↦ let some = fits.0 in let room = fits.1 in inr (omega arith, omega arith)
    ]
