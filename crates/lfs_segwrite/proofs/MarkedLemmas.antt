-- The blocks that some infos name were written again, and keys that are on no way to them stayed: `marks_again` for
-- `marking::mark_flushed`, `marks_after` for `mark`. They were staged with the bytes that they had and then flush_moves: so
-- the content is the same, and a key that waited lies behind the old end of the log, elsewhere than before
-- (`elsewhere`) and in no dirty segment (`outside`). Where nothing waited before, what waits is on those ways
-- (`on_way`); a mark over waiting changes would move other keys too.
use Rattle.std.proofs.Common.{◌≡◌, ◌≢◌, ℕ, zero, suc, ◌+◌, ◌/◌, ◌<◌, ◌≤◌, List, All, get_or, length, refl}
use Rattle.std.proofs.Common.{sym, ap, ◌∙◌, subst, inl, inr, arith}
use Rattle.std.specs.Prelude.{Contains, if◌then◌else◌, ◌==◌, ⊤}
use Rattle.std.specs.List.{flat_map}
use Rattle.std.proofs.lemmas.Bool.{cases_eq, cases_lt, cond-true, cond-false, eq-eqb, ne_eqb}
use Rattle.lfs_types.specs.declared.cleaner.BlockInfo.{BlockInfo}
use Rattle.lfs_ifile.specs.declared.inode.InodeRow.{InodeRow}
use Rattle.lfs_ifile.specs.declared.segment.SegState.TheVariants.{Dirty}
use Rattle.lfs_ifile.specs.Tables.{row_at}
use Rattle.lfs_cache.specs.Contents.{Contents}
use Rattle.lfs_segments.specs.Memory.{next_address, room_of}
use Rattle.lfs_log.specs.Parts.{LogParts, state_of}
use Rattle.lfs_bmap.specs.declared.blocks.TheConstants.{BLOCK_CODES}
use Rattle.lfs_bmap.specs.Counting.{seg_of}
use Rattle.lfs_bmap.specs.Log.{IsPlaced}
use Rattle.lfs_bmap.specs.Moves.{DirtyIn}
use Rattle.lfs_bmap.proofs.MoveLemmas.{StaysDirty-trans, moves-same, moves-trans}
use Rattle.lfs_segwrite.specs.Applying.{WritesWaiting}
use Rattle.lfs_bmap.proofs.LogLemmas.{dirty_not_active, dirty_not_clean}
use Rattle.lfs_parts.specs.declared.parts.Parts.{Parts}
use Rattle.lfs_segwrite.specs.Collecting.{blocks_of_entries, entries_of}
use Rattle.lfs_parts.specs.Files.{content_of}
use Rattle.lfs_segwrite.specs.Flushing.{Flushes, Waits}
use Rattle.lfs_parts.specs.Keys.{log_state}
use Rattle.lfs_segwrite.specs.Finishing.{HasRoomToMark, MarksAgain}
use Rattle.lfs_segwrite.specs.Marking.{AreNamed, IsOnWay, IsRewritten, MarksFlushed}
use Rattle.lfs_segwrite.specs.Marking.{SameShown, StagesNamed, blocks_to_mark, code_named, keys_to_mark}
use Rattle.lfs_segwrite.specs.Room.{KeepsFiles, MadeReady}
use Rattle.lfs_parts.specs.Store.{IsFlushed, IsStore}
use Rattle.lfs_parts.specs.View.{key_of, version_of}
use Rattle.lfs_segwrite.proofs.CollectingLemmas.{entries_of-length}
use Rattle.lfs_staging.specs.Changing.{StaysInLog}
use Rattle.lfs_parts.proofs.SameLogLemmas.{keys_kept}
use Rattle.lfs_segwrite.proofs.PutLemmas.{next_some}
use Rattle.lfs_segwrite.proofs.NamedLemmas.{named_there}
use Rattle.lfs_parts.proofs.SameContentLemmas.{content_of-same, file_at-kept}
use Rattle.lfs_segwrite.proofs.AheadLemmas.{writes_ahead}

-- what shows the same has the same content
pub shown_content : (old new : Parts) → SameShown old new → content_of new ≡ content_of old
shown_content old new h =
    content_of-same old new (ap (λ (l : LogParts). length l.tables.rows) h.log)
    (λ n low. file_at-kept old new n (h.records n) (h.blocks n))

-- and nothing was written
stays_shown : (old new : Parts) → SameShown old new → StaysInLog old new
stays_shown old new h = record {
  memory = ap (λ (l : LogParts). l.memory) h.log;
  states = ap (λ (l : LogParts). l.tables.states) h.log;
  clean = ap (λ (l : LogParts). l.clean) h.log;
  numbers = ap (λ (l : LogParts). length l.tables.rows) h.log;
  moves = moves-same (λ segment. ⊤) (log_state old) (log_state new) (keys_kept old new h.log h.addresses);
}

-- nothing waits still where a segment was opened
pub flushed_still : (old new : Parts) → KeepsFiles old new → IsFlushed old → IsFlushed new
flushed_still old new h flushed = record {
  no_record = h.waiting ∙ flushed.no_record;
  no_frame = ap (λ (s : Contents). s.locked) h.cache ∙ flushed.no_frame;
}

-- what was staged fits into the room that was made
entries_most : (n : ℕ) → (if n == 0 then 0 else n + 1) ≤ n + 1
entries_most n = elim (cases_eq n 0) [
  | inl is ↦ let e : (if n == 0 then 0 else n + 1) ≡ 0 = cond-true _ _ _ (eq-eqb n 0 is) in omega arith
  | inr some ↦ let e : (if n == 0 then 0 else n + 1) ≡ n + 1 = cond-false _ _ _ (ne_eqb n 0 some) in omega arith
]

staged_most : (mid staged : Parts) (named : List BlockInfo) → StagesNamed named mid staged
    → blocks_of_entries (entries_of staged) ≤ blocks_to_mark named
staged_most mid staged named h =
    let most = entries_most (length (entries_of staged)) in
    let many = entries_of-length staged in
    let frames = h.frames in
    let records = h.records in
    omega arith

pub staged_fits : (mid staged : Parts) (named : List BlockInfo) → StagesNamed named mid staged
    → blocks_to_mark named ≤ room_of mid.log.memory
    → blocks_of_entries (entries_of staged) ≤ room_of staged.log.memory
staged_fits mid staged named h room =
    let most = staged_most mid staged named h in
    let same : room_of staged.log.memory ≡ room_of mid.log.memory =
    ap (λ (l : LogParts). room_of l.memory) h.same.log in
    omega arith

module _ (old mid staged new : Parts) (marks named : List BlockInfo) (keeps : KeepsFiles old mid)
    (stages : StagesNamed named mid staged) (flushes : Flushes staged new)
    (are : AreNamed (log_state old) marks named) (fewer : mid.log.clean ≤ old.log.clean) where
  log : staged.log ≡ mid.log
  log = stages.same.log

  numbers : length staged.log.tables.rows ≡ length old.log.tables.rows
  numbers = ap (λ (l : LogParts). length l.tables.rows) log ∙ ap length keeps.rows

  segments : staged.log.memory.segments ≡ old.log.memory.segments
  segments = ap (λ (l : LogParts). l.memory.segments) log ∙ keeps.keys.segments

  rows : staged.log.tables.rows ≡ old.log.tables.rows
  rows = ap (λ (l : LogParts). l.tables.rows) log ∙ keeps.rows

  -- each key had its place still when all was staged
  place_staged : (n c : ℕ) → n < length old.log.tables.rows → c < BLOCK_CODES → (log_state staged).at n c
      ≡ (log_state old).at n c
  place_staged n c low below =
      (keys_kept mid staged log stages.same.addresses).places n c
      (subst (λ (m : ℕ). n < m) (sym (ap length keeps.rows)) low) below
      ∙ keeps.keys.places n c low below

  -- one that waited has a place in the segment that is written
  module _ (n c : ℕ) (low : n < length old.log.tables.rows) (below : c < BLOCK_CODES) (waits : Waits staged n c) where
    ends : (next_address staged.log.memory ≤ (log_state new).at n c / 4)
        × ((log_state new).at n c / 4 < next_address new.log.memory)
    ends = flushes.moved n c (subst (λ m. n < m) (sym numbers) low) below waits

    in_active : seg_of ((log_state new).at n c) ≡ staged.log.memory.active
    in_active =
        let from = stages.staged.log.segments.from in
        let to = flushes.store.log.segments.to in
        let same = flushes.active in
        let first = ends.0 in
        let last = ends.1 in
        omega arith

    pub outside : DirtyIn (log_state old) (seg_of ((log_state new).at n c)) → ⊥
    outside dirty =
        let active = staged.log.memory.active in
        let inside : active < old.log.memory.segments =
        subst (λ m. active < m) segments stages.staged.log.segments.inside in
        let was : state_of old.log.tables active ≡ Dirty = ap (state_of old.log.tables) (sym in_active) ∙ dirty in
        let still : state_of mid.log.tables active ≡ Dirty = keeps.dirty.dirty active inside was in
        dirty_not_active (sym (ap (λ (l : LogParts). state_of l.tables active) log ∙ still)
        ∙ stages.staged.log.segments.is_active)

    pub elsewhere : IsPlaced (log_state old) n c → (log_state new).at n c ≢ (log_state old).at n c
    elsewhere there same =
        let at : (log_state new).at n c ≡ (log_state staged).at n c = same ∙ sym (place_staged n c low below) in
        let had : IsPlaced (log_state staged) n c = record {
          number_below = subst (λ m. n < m) (sym numbers) low;
          code_below = below;
          somewhere = λ none. there.somewhere (sym (place_staged n c low below) ∙ none);
        } in
        let written = (stages.staged.log.keys n c had).written (ap seg_of (sym at) ∙ in_active) in
        let first = ends.0 in
        absurd (omega arith)

    pub somewhere : (log_state new).at n c ≢ 0
    somewhere none =
        let first = ends.0 in
        let some = next_some staged.log.memory stages.staged.whole.parts.laid_out in
        absurd (omega arith)

  -- the named blocks were written again
  rewritten : All (IsRewritten (log_state old) (log_state new)) named
  rewritten k d inside =
      let info = get_or named k d in
      let there = (named_there (log_state old) info (are.only k d inside)).0 in
      let waits = stages.waits k d inside in
      record {
        somewhere = somewhere info.ino (code_named info.lbn) there.number_below there.code_below waits;
        elsewhere = elsewhere info.ino (code_named info.lbn) there.number_below there.code_below waits there;
        outside = outside info.ino (code_named info.lbn) there.number_below there.code_below waits;
      }

  version_all : (n : ℕ) → version_of new n ≡ version_of old n
  version_all n = flushes.versions n ∙ ap (λ (rs : List InodeRow). (row_at rs n).version) rows

  -- what waited was on a way to a named block
  on_way : (n c : ℕ) → Waits staged n c → IsOnWay named old n c
  on_way n zero waits = stages.only_records n waits
  on_way n (suc c) waits =
      let version : version_of staged n ≡ version_of old n = ap (λ (rs : List InodeRow). (row_at rs n).version) rows in
      subst (λ v. Contains (flat_map keys_to_mark named) (key_of n v (suc c))) version
      (stages.only_frames (key_of n (version_of staged n) (suc c)) waits)

  pub marks_again : 0 < length named → (blocks_to_mark named ≤ room_of old.log.memory → mid ≡ old)
      → (room_of old.log.memory < blocks_to_mark named → mid.log.clean + 1 ≡ old.log.clean)
      → (room_of old.log.memory < blocks_to_mark named → 64 ≤ room_of mid.log.memory + 1)
      → MarksFlushed marks (length named) old new
  marks_again some enough opened fresh = record {
    named = named;
    are_named = are;
    counted = refl;
    rewritten = rewritten;
    log = writes_ahead old mid staged new keeps fewer (stays_shown mid staged stages.same) stages.staged flushes;
    flush = inr (record {
      ready = staged;
      end = subst (MadeReady old.log) (sym (ap (λ (l : LogParts). l.memory) log)) keeps.end;
      flushes = flushes;
    });
    used = λ n. flushes.used n ∙ ap (λ (rs : List InodeRow). (row_at rs n).used) rows;
    versions = version_all;
    opened =
        let same : staged.log.clean ≡ mid.log.clean = ap (λ (l : LogParts). l.clean) log in
        let kept = flushes.clean in
        elim (cases_lt (room_of old.log.memory) (blocks_to_mark named)) [
          | inl short ↦ let one = opened short in omega arith
          | inr fits ↦ let none : mid.log.clean ≡ old.log.clean = ap (λ (p : Parts). p.log.clean) (enough fits) in
              omega arith
        ];
    enough = λ fits. flushes.clean ∙ ap (λ (l : LogParts). l.clean) log ∙ ap (λ (p : Parts). p.log.clean) (enough fits);
    none = λ is. absurd (omega arith);
    still = λ n c low below other.
        flushes.still n c (subst (λ m. n < m) (sym numbers) low) below (λ waits. other (on_way n c waits))
        ∙ place_staged n c low below;
    left =
        let most = staged_most mid staged named stages in
        let grown = flushes.grown in
        let active = flushes.active in
        let kept = flushes.clean in
        let same : staged.log.clean ≡ mid.log.clean = ap (λ (l : LogParts). l.clean) log in
        let room : room_of staged.log.memory ≡ room_of mid.log.memory = ap (λ (l : LogParts). room_of l.memory) log in
        let within = stages.staged.whole.parts.laid_out.within in
        elim (cases_lt (room_of old.log.memory) (blocks_to_mark named)) [
          | inl short ↦
              let one = opened short in
              let whole = fresh short in
              inr (omega arith, omega arith, short)
          | inr fits ↦
              let nothing = enough fits in
              let first : room_of mid.log.memory ≡ room_of old.log.memory =
              ap (λ (p : Parts). room_of p.log.memory) nothing in
              let clean : mid.log.clean ≡ old.log.clean = ap (λ (p : Parts). p.log.clean) nothing in
              inl (
                active ∙ ap (λ (l : LogParts). l.memory.active) log
                    ∙ ap (λ (p : Parts). p.log.memory.active) nothing,
                omega arith,
                omega arith,
              )
        ];
  }

  pub marked_content : content_of new ≡ content_of old
  marked_content = flushes.content ∙ shown_content mid staged stages.same ∙ keeps.content

-- what waits was written, and then the blocks were
pub marks_after : (marks : List BlockInfo) (count : ℕ) (old mid new : Parts) → IsStore old → IsStore mid → IsStore new
    → WritesWaiting old mid → MarksFlushed marks count mid new
    → (old.log.clean ≤ 1 → 0 < count → HasRoomToMark marks mid) → MarksAgain marks count old new
marks_after marks count old mid new first before store w m last =
    let still : (s : ℕ) → s < old.log.memory.segments → DirtyIn (log_state old) s
    → DirtyIn (log_state mid) s = w.log.dirty.dirty in
    let all : new.log.memory.segments ≡ old.log.memory.segments = m.log.segments ∙ w.log.segments in
    let inside : (n c : ℕ) → IsPlaced (log_state new) n c → seg_of ((log_state new).at n c) < old.log.memory.segments
    = λ n c there. let place = (store.log.keys n c there).in_volume in omega arith in
    record {
      between = mid;
      written = w;
      again = m;
      last = last;
      opened =
          let second = m.opened in
          elim w.left [
            | inl here ↦ let first = here.2 in omega arith
            | inr one ↦ let first = one.1 in omega arith
          ];
      moves = moves-trans (DirtyIn (log_state old)) (log_state old) (log_state mid) (log_state new) w.log.moves
          (record {
            numbers = m.log.moves.numbers;
            places = λ n c there dirty. m.log.moves.places n c there (still _ (inside n c there) dirty);
            versions = λ n c there dirty. m.log.moves.versions n c there (still _ (inside n c there) dirty);
          });
      dirty = StaysDirty-trans (log_state old) (log_state mid) (log_state new) w.log.dirty m.log.dirty;
      blocks = λ a low dirty.
          let was = still (a / 64) low dirty in
          m.log.blocks a (λ clean. dirty_not_clean (sym was ∙ clean))
          (λ here. absurd (dirty_not_active (sym was ∙ ap (state_of mid.log.tables) here
          ∙ before.log.segments.is_active)))
          ∙ w.log.blocks a (λ clean. dirty_not_clean (sym dirty ∙ clean))
          (λ here. absurd (dirty_not_active (sym dirty ∙ ap (state_of old.log.tables) here
          ∙ first.log.segments.is_active)));
    }
