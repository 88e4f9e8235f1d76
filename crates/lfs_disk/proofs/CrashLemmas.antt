-- What is on the disk on the way is what a crash leaves of a store that had the old memory (`old_or_new`): where the
-- log is to go on zeros stand, so no whole partial segment does (`none_whole`), and all other segments are as they
-- were.
use Rattle.std.proofs.Common.{◌≡◌, ◌≢◌, ◌⊎◌, ℕ, zero, suc, ◌+◌, ◌*◌, ◌/◌, ◌<◌, ◌≤◌, inl, inr, List, [], get_or}
use Rattle.std.proofs.Common.{refl, sym, ap, subst, ◌∙◌, ⊎_elim, arith}
use Rattle.std.proofs.lemmas.Bool.{cases_eq, cases_lt}
use Rattle.std.proofs.lemmas.Option.{none-some}
use Rattle.lfs_types.specs.Blocks.{zero_block}
use Rattle.lfs_segments.specs.Log.{first_of}
use Rattle.lfs_segments.specs.Memory.{IsLaidOut, SegmentMemory, block_at, log_start, next_address}
use Rattle.lfs_segments.specs.Serial.{told_in}
use Rattle.lfs_segments.proofs.MemoryLemmas.{log_start-le}
use Rattle.lfs_ifile.specs.declared.segment.SegState.TheVariants.{Clean}
use Rattle.lfs_log.specs.Parts.{state_of}
use Rattle.lfs_parts.specs.declared.parts.Parts.{Parts}
use Rattle.lfs_durable.specs.Crashes.{IsCrashOf, IsLeft, IsNoneWhole, IsUntouched}
use Rattle.lfs_durable.proofs.ChainLemmas.{zeros_tell}
use Rattle.lfs_durable.proofs.CrashLemmas.{finds_after_crash}
use Rattle.lfs_disk.specs.Flushing.{FindsOldOrNew}
use Rattle.lfs_disk.specs.Mirroring.{FollowsOn, IsElsewhere, IsLonger, IsOldOrNew}
use Rattle.lfs_disk.specs.Writing.{IsOnTheWay, IsWithoutFirst}

-- where a log begins, or goes on, block 0 is before it
pub behind_label : (active fill : ℕ) → log_start active ≤ fill → 0 < active * 64 + fill
behind_label zero fill from = omega arith
behind_label (suc active) fill from = omega arith

-- the blocks of another segment are not among those of a segment from some address on
apart : (active first end segment a : ℕ) → active * 64 ≤ first → end ≤ active * 64 + 64 → a / 64 ≡ segment
    → segment ≢ active → (a < first) ⊎ (end ≤ a)
apart active first end segment a low high inside other = ⊎_elim
    (λ (before : a < first). inl before)
    (λ (from : first ≤ a). inr (⊎_elim
    (λ (less : a < end). absurd (other (omega arith)))
    (λ (past : end ≤ a). past)
    (cases_lt a end)))
    (cases_lt a first)

none_whole : (n : SegmentMemory) (address : ℕ) → block_at n address ≡ zero_block → IsNoneWhole n address
none_whole n address zeros s whole at =
    let first : block_at n s.address ≡ zero_block = ap (block_at n) at ∙ zeros in
    absurd (none-some whole.told (sym zeros_tell ∙ ap told_in (sym first) ∙ whole.spelled))

module _ (p : Parts) (n : SegmentMemory) (segments : n.segments ≡ p.log.memory.segments) where
  abbrev m : SegmentMemory
  m = p.log.memory

  -- nothing was written
  pub crash_before : n.blocks ≡ m.blocks → IsCrashOf p n
  crash_before blocks = record {
    segments = segments;
    label = ap (λ (bs : List (List ℕ)). get_or bs 0 []) blocks;
    each = λ segment below. inl (record { each = λ a here. ap (λ (bs : List (List ℕ)). get_or bs a []) blocks });
  }

  -- blocks of one segment were, from an address on where zeros stand
  module _ (active first end : ℕ) (low : active * 64 ≤ first) (high : end ≤ active * 64 + 64) (some : 0 < first)
      (u : IsWithoutFirst first end m.blocks n.blocks) where
    rest_same : (a : ℕ) → (a < first) ⊎ (end ≤ a) → block_at n a ≡ block_at m a
    rest_same a out = u.same.outside a out

    untouched : (segment : ℕ) → segment ≢ active → IsUntouched m n segment
    untouched segment other = record {
      each = λ a here. rest_same a (apart active first end segment a low high here other);
    }

    pub crash_within : ((segment : ℕ) → segment ≡ active → IsLeft p n segment) → IsCrashOf p n
    crash_within its = record {
      segments = segments;
      label = rest_same 0 (inl some);
      each = λ segment below. ⊎_elim (its segment) (λ (other : segment ≢ active). inl (untouched segment other))
          (cases_eq segment active);
    }

  -- behind the log's end
  pub crash_behind : (new : SegmentMemory) → IsLaidOut m → IsLaidOut new → IsLonger m new
      → IsWithoutFirst (next_address m) (next_address new) m.blocks n.blocks → IsCrashOf p n
  crash_behind new was is longer u =
      let begun = was.begun in
      let within = is.within in
      let same_active = longer.active in
      let ordered = longer.ordered in
      crash_within m.active (next_address m) (next_address new) (omega arith) (omega arith)
      (behind_label m.active m.fill begun) u (λ segment here. inr (inl (record {
        active = here;
        before = λ a inside less. u.same.outside a (inl less);
        torn = none_whole n (next_address m) u.zeros;
      })))

  -- in a segment that was opened
  pub crash_opened : (active : ℕ) → state_of p.log.tables active ≡ Clean
      → IsWithoutFirst (first_of active) (active * 64 + 64) m.blocks n.blocks → IsCrashOf p n
  crash_opened active clean u =
      let start = log_start-le active in
      crash_within active (first_of active) (active * 64 + 64) (omega arith) (omega arith)
      (behind_label active (log_start active) (omega arith)) u (λ segment here. inr (inr (inr (record {
        clean = ap (state_of p.log.tables) here ∙ clean;
        torn = subst (λ (x : ℕ). IsNoneWhole n (first_of x)) (sym here) (none_whole n (first_of active) u.zeros);
      }))))

-- one of the two ways
pub left_behind : (old new : SegmentMemory) (c : List (List ℕ)) → IsLaidOut old → IsLaidOut new → IsLonger old new
    → IsOnTheWay (next_address old) (next_address new) old.blocks new.blocks c → IsOldOrNew old new c
left_behind old new c was is longer (inl here) =
    inr (λ p n at clean segments blocks.
    crash_before p n (segments ∙ ap (λ (m : SegmentMemory). m.segments) (sym at))
    (blocks ∙ here ∙ ap (λ (m : SegmentMemory). m.blocks) (sym at)))
left_behind old new c was is longer (inr (inl on)) =
    inr (λ p n at clean segments blocks.
    let claim : (m : SegmentMemory) → Type 0 = λ m. n.segments ≡ m.segments → IsLaidOut m → IsLonger m new
    → IsWithoutFirst (next_address m) (next_address new) m.blocks n.blocks → IsCrashOf p n in
    let proved : claim p.log.memory = λ same laid more u. crash_behind p n same new laid is more u in
    subst claim at proved segments was longer
    (subst (IsWithoutFirst (next_address old) (next_address new) old.blocks) (sym blocks) on))
left_behind old new c was is longer (inr (inr done)) = inl done

-- the other
pub left_opened : (old new : SegmentMemory) (c : List (List ℕ)) → IsElsewhere old new
    → IsOnTheWay (first_of new.active) (new.active * 64 + 64) old.blocks new.blocks c → IsOldOrNew old new c
left_opened old new c elsewhere (inl here) =
    inr (λ p n at clean segments blocks.
    crash_before p n (segments ∙ ap (λ (m : SegmentMemory). m.segments) (sym at))
    (blocks ∙ here ∙ ap (λ (m : SegmentMemory). m.blocks) (sym at)))
left_opened old new c elsewhere (inr (inl on)) =
    inr (λ p n at clean segments blocks.
    let claim : (m : SegmentMemory) → Type 0 = λ m. n.segments ≡ m.segments
    → IsWithoutFirst (first_of new.active) (new.active * 64 + 64) m.blocks n.blocks → IsCrashOf p n in
    let proved : claim p.log.memory = λ same u. crash_opened p n same new.active (clean elsewhere.active) u in
    subst claim at proved segments
    (subst (IsWithoutFirst (first_of new.active) (new.active * 64 + 64) old.blocks) (sym blocks) on))
left_opened old new c elsewhere (inr (inr done)) = inl done

-- where the log went on in the same segment
pub behind_way : (old new : SegmentMemory) (seen : List (List ℕ)) (next : ℕ) → seen ≡ old.blocks
    → next ≡ next_address old → IsLaidOut old → IsLaidOut new → FollowsOn old new → new.active ≡ old.active
    → (c : List (List ℕ)) → IsOnTheWay next (next_address new) seen new.blocks c → IsOldOrNew old new c
behind_way old new seen next blocks at was is on same c way =
    let moved : IsOnTheWay (next_address old) (next_address new) old.blocks new.blocks c =
    subst (λ (k : ℕ). IsOnTheWay k (next_address new) old.blocks new.blocks c) at
    (subst (λ (bs : List (List ℕ)). IsOnTheWay next (next_address new) bs new.blocks c) blocks way) in
    ⊎_elim
    (λ (longer : IsLonger old new). left_behind old new c was is longer moved)
    (λ (elsewhere : IsElsewhere old new). absurd (elsewhere.active same))
    on.either

-- where it went on in another
pub opened_way : (old new : SegmentMemory) (seen : List (List ℕ)) → seen ≡ old.blocks → FollowsOn old new
    → new.active ≢ old.active → (c : List (List ℕ))
    → IsOnTheWay (first_of new.active) (new.active * 64 + 64) seen new.blocks c → IsOldOrNew old new c
opened_way old new seen blocks on other c way =
    let moved : IsOnTheWay (first_of new.active) (new.active * 64 + 64) old.blocks new.blocks c =
    subst (λ (bs : List (List ℕ)). IsOnTheWay (first_of new.active) (new.active * 64 + 64) bs new.blocks c) blocks way
    in
    ⊎_elim
    (λ (longer : IsLonger old new). absurd (other longer.active))
    (λ (elsewhere : IsElsewhere old new). left_opened old new c elsewhere moved)
    on.either

-- what is found there
pub finds_old_or_new : FindsOldOrNew
finds_old_or_new old new q n from was to is follows clean segments (inl done) made store flushed =
    let crash : IsCrashOf new n = crash_before new n (segments ∙ sym follows.segments) done in
    inr (finds_after_crash new q is.world n to is.shows is.tree crash made store flushed)
finds_old_or_new old new q n from was to is follows clean segments (inr left) made store flushed =
    let crash : IsCrashOf old n = left old n refl clean segments refl in
    inl (finds_after_crash old q was.world n from was.shows was.tree crash made store flushed)
