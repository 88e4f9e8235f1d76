-- Between any two block writes of a flush the blocks are what a crash leaves (`flush_crashes`): the last block of its
-- partial segment is zeros still, so none is whole there (`none_whole`).
use Rattle.std.proofs.Common.{◌≡◌, ◌≢◌, ◌⊎◌, ℕ, zero, suc, ◌+◌, ◌-◌, ◌*◌, ◌/◌, ◌<◌, ◌≤◌, inl, inr, List, [], length}
use Rattle.std.proofs.Common.{get_or, replicate, take, sym, ap, subst, ◌∙◌, ⊎_elim, arith}
use Rattle.std.proofs.lemmas.Bool.{cases_eq, cases_lt}
use Rattle.std.proofs.lemmas.List.{get_or-replicate, get_or-take, length-replicate, length-take-le}
use Rattle.std.proofs.lemmas.Option.{none-some, same_Some}
use Rattle.lfs_types.specs.Blocks.{zero_block}
use Rattle.lfs_segments.specs.Memory.{IsLaidOut, SegmentMemory, appended, block_at, log_start, next_address, opened, room_of}
use Rattle.lfs_segments.specs.Memory.{seen_with, written}
use Rattle.lfs_segments.specs.Log.{first_of}
use Rattle.lfs_ifile.specs.declared.segment.SegState.{SegState}
use Rattle.lfs_ifile.specs.declared.segment.SegState.TheVariants.{Clean}
use Rattle.std.specs.Prelude.{slice_index_or}
use Rattle.lfs_log.specs.Parts.{state_of}
use Rattle.lfs_segments.specs.Serial.{Told, told_in}
use Rattle.lfs_segments.proofs.MemoryLemmas.{get_or-written_after, get_or-written_before, get_or-written_inside}
use Rattle.lfs_segments.proofs.MemoryLemmas.{log_start-le, opened_laid_out}
use Rattle.lfs_segments.proofs.WritingLemmas.{block_at-opened, block_at-opened_apart, block_at-opened_other, opened_is}
use Rattle.lfs_segments.proofs.WritingLemmas.{block_at-appended_behind, block_at-appended_new, block_at-appended_older}
use Rattle.lfs_recovery.specs.Logs.{log_place}
use Rattle.lfs_parts.specs.declared.parts.Parts.{Parts}
use Rattle.lfs_durable.specs.Crashes.{FlushCrashes, IsCrashOf, IsInFlush, IsInOpenedFlush, IsInOpening, IsMidway, IsNoneWhole}
use Rattle.lfs_durable.specs.Crashes.{StagedCrashes}
use Rattle.lfs_durable.specs.Names.{IsDurable}
use Rattle.lfs_durable.proofs.ChainLemmas.{zeros_last, zeros_tell}

-- zeros stand where the next blocks of a memory are put
abbrev pub AreZeros : SegmentMemory → Type 0
AreZeros m = (a : ℕ) → next_address m ≤ a → a < m.active * 64 + 64 → block_at m a ≡ zero_block

module _ (m n : SegmentMemory) (laid : IsLaidOut m) (zeros : AreZeros m) (f : IsInFlush m n) where
  abbrev landed : List (List ℕ)
  landed = take f.landed f.wanted

  long : length landed ≡ f.landed
  long = let some = f.not_all in length-take-le f.landed f.wanted (omega arith)

  fits : length landed ≤ room_of m
  fits = let size = long in let some = f.not_all in let room = f.whole.fits in omega arith

  pub older : (a : ℕ) → (a < next_address m) ⊎ (m.active * 64 + 64 ≤ a) → block_at n a ≡ block_at m a
  older a before = ap (λ (bs : List (List ℕ)). get_or bs a []) f.blocks ∙ block_at-appended_older m landed laid fits a before

  behind : (a : ℕ) → next_address m + f.landed ≤ a → block_at n a ≡ block_at m a
  behind a past =
      let size = long in
      ap (λ (bs : List (List ℕ)). get_or bs a []) f.blocks ∙ block_at-appended_behind m landed laid fits a (omega arith)

  first_landed : 0 < f.landed → block_at n (next_address m) ≡ get_or f.wanted 0 []
  first_landed some =
      let size = long in
      let here : next_address m ≡ next_address m + 0 = omega arith in
      ap (λ (bs : List (List ℕ)). get_or bs (next_address m) []) f.blocks
      ∙ ap (block_at (appended m landed)) here ∙ block_at-appended_new m landed laid fits 0 (omega arith)
      ∙ get_or-take f.landed f.wanted 0 [] some

  pub none_whole : IsNoneWhole n (next_address m)
  none_whole s whole at =
      let w = f.whole in
      let count = w.count in
      let room = w.fits in
      let within = laid.within in
      let not_all = f.not_all in
      ⊎_elim
      (λ (none : f.landed < 1).
      let first : block_at n s.address ≡ zero_block =
      ap (block_at n) at ∙ behind (next_address m) (omega arith) ∙ zeros (next_address m) (omega arith) (omega arith) in
      absurd (none-some whole.told (sym zeros_tell ∙ ap told_in (sym first) ∙ whole.spelled)))
      (λ (some : 1 ≤ f.landed).
      let told : w.told ≡ whole.told = same_Some w.told whole.told
      (sym w.summary ∙ ap told_in (sym (ap (block_at n) at ∙ first_landed (omega arith))) ∙ whole.spelled) in
      let entries : length w.told.entries ≡ s.count = ap (λ (t : Told). length t.entries) told ∙ whole.count in
      let last : block_at n (s.address + s.count) ≡ zero_block =
      behind (s.address + s.count) (omega arith) ∙ zeros (s.address + s.count) (omega arith) (omega arith) in
      absurd (zeros_last n (s.address + s.count) last whole.record_there))
      (cases_lt f.landed 1)

first_used : (active fill : ℕ) → log_start active ≤ fill → 0 < active * 64 + fill
first_used zero fill from = omega arith
first_used (suc active) fill from = omega arith

seen_is : (m : SegmentMemory) → IsLaidOut m → seen_with m.serial m.blocks m.active m.fill ≡ m
seen_is m laid =
    let whole = laid.whole in
    let size : length m.blocks / 64 ≡ m.segments = omega arith in
    λ i. record { segments = size i; active = m.active; fill = m.fill; serial = m.serial; blocks = m.blocks }

opened_laid : (m : SegmentMemory) (segment : ℕ) → IsLaidOut m → segment < m.segments → IsLaidOut (opened m segment)
opened_laid m segment laid inside =
    let whole = laid.whole in
    let low : segment < length m.blocks / 64 = omega arith in
    let seen : IsLaidOut (seen_with m.serial m.blocks m.active m.fill) = subst IsLaidOut (sym (seen_is m laid)) laid in
    subst (λ (x : SegmentMemory). IsLaidOut (opened x segment)) (seen_is m laid)
    (subst IsLaidOut (opened_is m.serial m.blocks m.active m.fill segment seen low)
    (opened_laid_out m.serial m.blocks m.active m.fill segment seen low))

module _ (p : Parts) (n : SegmentMemory) (d : IsDurable p) where
  abbrev m : SegmentMemory
  m = p.log.memory

  in_flush : IsInFlush m n → IsCrashOf p n
  in_flush f =
      let laid = d.store.whole.parts.laid_out in
      let begun = laid.begun in
      let zeros : AreZeros m = d.store.ready.zeros in
      let label : 0 < next_address m = first_used m.active m.fill begun in
      record {
        segments = f.segments;
        label = older m n laid zeros f 0 (inl label);
        each = λ segment below. elim (cases_eq segment m.active) [
          | inl active ↦ inr (inl (record {
            active = active;
            before = λ a here low. older m n laid zeros f a (inl low);
            torn = none_whole m n laid zeros f;
          }))
          | inr other ↦ inl (record {
            each = λ a here. older m n laid zeros f a (⊎_elim
                (λ (low : a / 64 < m.active). inl (omega arith))
                (λ (high : m.active ≤ a / 64). inr (omega arith))
                (cases_lt (a / 64) m.active));
          })
        ];
      }

  module _ (o : IsInOpenedFlush p n) where
    abbrev k : SegmentMemory
    k = opened m o.segment

    laid : IsLaidOut k
    laid = opened_laid m o.segment d.store.whole.parts.laid_out o.inside

    zeros : AreZeros k
    zeros = λ a from below. block_at-opened m o.segment d.store.whole.parts.laid_out o.inside a from below

    label : 0 < first_of o.segment
    label = first_used o.segment (log_start o.segment) (omega arith)

    -- all blocks of the others stay
    apart : (a : ℕ) → a / 64 ≢ o.segment → block_at n a ≡ block_at m a
    apart a other =
        older k n laid zeros o.flush a (⊎_elim
        (λ (low : a / 64 < o.segment). inl (omega arith))
        (λ (high : o.segment ≤ a / 64). inr (omega arith))
        (cases_lt (a / 64) o.segment))
        ∙ block_at-opened_apart m o.segment d.store.whole.parts.laid_out o.inside a other

    in_opened : IsCrashOf p n
    in_opened = record {
      segments = o.flush.segments;
      label = older k n laid zeros o.flush 0 (inl label)
          ∙ block_at-opened_other m o.segment d.store.whole.parts.laid_out o.inside 0 (inl label);
      each = λ segment below. elim (cases_eq segment o.segment) [
        | inl here ↦ inr (inr (inr (record {
          clean = subst (λ (x : ℕ). state_of p.log.tables x ≡ Clean) (sym here) o.clean;
          torn = subst (λ (x : ℕ). IsNoneWhole n (log_place x)) (sym here) (none_whole k n laid zeros o.flush);
        })))
        | inr other ↦ inl (record { each = λ a there. apart a (λ same. other (sym there ∙ same)) })
      ];
    }

  module _ (o : IsInOpening p n) where
    abbrev wiped : List (List ℕ)
    wiped = replicate o.landed zero_block

    size : length wiped ≡ o.landed
    size = length-replicate o.landed zero_block

    room : log_place o.segment + length wiped ≤ length m.blocks
    room =
        let whole = d.store.whole.parts.laid_out.whole in
        let inside = o.inside in
        let few = o.few in
        let start = log_start-le o.segment in
        let count = size in
        omega arith

    stays : (a : ℕ) → (a < log_place o.segment) ⊎ (log_place o.segment + o.landed ≤ a) → block_at n a ≡ block_at m a
    stays a at =
        ap (λ (bs : List (List ℕ)). get_or bs a []) o.blocks
        ∙ ⊎_elim
        (λ (low : a < log_place o.segment). get_or-written_before m.blocks (log_place o.segment) wiped room a [] low)
        (λ (high : log_place o.segment + o.landed ≤ a). let count = size in
        get_or-written_after m.blocks (log_place o.segment) wiped room a [] (omega arith))
        at

    zero_there : (a : ℕ) → log_place o.segment ≤ a → a < log_place o.segment + o.landed → block_at n a ≡ zero_block
    zero_there a low high =
        let j : ℕ = a - log_place o.segment in
        let at : a ≡ log_place o.segment + j = omega arith in
        let count = size in
        ap (λ (bs : List (List ℕ)). get_or bs a []) o.blocks
        ∙ ap (λ (x : ℕ). get_or (written m.blocks (log_place o.segment) wiped) x []) at
        ∙ get_or-written_inside m.blocks (log_place o.segment) wiped room j [] (omega arith)
        ∙ get_or-replicate o.landed j zero_block [] (omega arith)

    in_opening : IsCrashOf p n
    in_opening = record {
      segments = o.segments;
      label = stays 0 (inl (first_used o.segment (log_start o.segment) (omega arith)));
      each = λ segment below. elim (cases_eq segment o.segment) [
        | inl here ↦ inr (inr (inl (record {
          clean = subst (λ (x : ℕ). state_of p.log.tables x ≡ Clean) (sym here) o.clean;
          each = λ a there. ⊎_elim
              (λ (low : a < log_place o.segment). inl (stays a (inl low)))
              (λ (from : log_place o.segment ≤ a). ⊎_elim
              (λ (inner : a < log_place o.segment + o.landed). inr (zero_there a from inner))
              (λ (past : log_place o.segment + o.landed ≤ a). inl (stays a (inr past)))
              (cases_lt a (log_place o.segment + o.landed)))
              (cases_lt a (log_place o.segment));
        })))
        | inr other ↦ inl (record {
          each = λ a there.
              let few = o.few in
              let start = log_start-le o.segment in
              stays a (⊎_elim
              (λ (low : segment < o.segment). inl (omega arith))
              (λ (high : o.segment ≤ segment). inr (omega arith))
              (cases_lt segment o.segment));
        })
      ];
    }

pub flush_crashes : FlushCrashes
flush_crashes p n d (inl f) = in_flush p n d f
flush_crashes p n d (inr (inl o)) = in_opening p n d o
flush_crashes p n d (inr (inr o)) = in_opened p n d o

-- what waits doesn't change the log
pub staged_crashes : StagedCrashes
staged_crashes p q n d stays midway = flush_crashes p n d (back midway)
  where
    clean_before : (segment : ℕ) → state_of q.log.tables segment ≡ Clean → state_of p.log.tables segment ≡ Clean
    clean_before segment clean =
        sym (ap (λ (xs : List SegState). slice_index_or xs segment Clean) stays.states) ∙ clean

    back : IsMidway q n → IsMidway p n
    back (inl f) = inl (subst (λ (k : SegmentMemory). IsInFlush k n) stays.memory f)
    back (inr (inl o)) =
        let inside = o.inside in
        let size = ap (λ (k : SegmentMemory). k.segments) stays.memory in
        inr (inl (record {
          segment = o.segment;
          inside = omega arith;
          clean = clean_before o.segment o.clean;
          landed = o.landed;
          few = o.few;
          segments = o.segments ∙ size;
          blocks = o.blocks ∙ ap (λ (k : SegmentMemory). written k.blocks (log_place o.segment) (replicate o.landed zero_block))
              stays.memory;
        }))
    back (inr (inr o)) =
        let inside = o.inside in
        let size = ap (λ (k : SegmentMemory). k.segments) stays.memory in
        inr (inr (record {
          segment = o.segment;
          inside = omega arith;
          clean = clean_before o.segment o.clean;
          flush = subst (λ (k : SegmentMemory). IsInFlush (opened k o.segment) n) stays.memory o.flush;
        }))
