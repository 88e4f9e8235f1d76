-- From one durable store to another the disk can follow (`IsStep`): where nothing was written (`same_step`), what waited
-- was (`settled_step`), way was made (`way_step`), what waits was written behind changes (`behind_step`), and where blocks
-- were written again (`again_step`).
use Rattle.std.proofs.Common.{◌≡◌, ◌≢◌, ℕ, ◌<◌, ◌∙◌, List, Result, Ok, Err, inl, inr, refl, sym, ap, subst, get_or}
use Rattle.lfs_types.specs.declared.cleaner.BlockInfo.{BlockInfo}
use Rattle.lfs_types.specs.declared.cleaner.CleanFault.{CleanFault}
use Rattle.lfs_types.specs.declared.store.Change.{Change}
use Rattle.lfs_types.specs.declared.store.Reserve.{Reserve}
use Rattle.lfs_types.specs.declared.store.StoreRefusal.{StoreRefusal}
use Rattle.lfs_segments.specs.Memory.{SegmentMemory}
use Rattle.lfs_ifile.specs.declared.segment.SegState.{SegState}
use Rattle.lfs_ifile.specs.declared.segment.SegState.TheVariants.{Clean}
use Rattle.lfs_log.specs.Parts.{state_of}
use Rattle.lfs_parts.specs.declared.parts.Parts.{Parts}
use Rattle.lfs_parts.specs.Store.{IsFlushed, IsStore}
use Rattle.lfs_segwrite.specs.Applying.{WritesWaiting}
use Rattle.lfs_segwrite.specs.Finishing.{MarksAgain}
use Rattle.lfs_segwrite.specs.Flushing.{FlushesAhead}
use Rattle.lfs_segwrite.specs.Marking.{MarksFlushed}
use Rattle.lfs_disk.specs.Mirroring.{FollowsOn}
use Rattle.lfs_disk.proofs.FlushLemmas.{flushing_ahead_follows_on, opens_clean_only}
use Rattle.lfs_durable_store.specs.Answering.{ComesTo, SettlesInPlace, WritesFirst}
use Rattle.lfs_durable_store.specs.CleanerCalls.{WritesAgain}
use Rattle.lfs_durable_store.specs.Keeping.{Durably, settled}
use Rattle.lfs_disk_store.proofs.FollowLemmas.{none_clean, none_follows, same_follows, stays_active}

-- the disk can follow, and a segment that was opened was clean when nothing waited
pub record IsStep (s t : Durably) : Type 0 where
  pub follows : FollowsOn s.store.log.memory t.store.log.memory
  pub clean : t.store.log.memory.active ≢ s.store.log.memory.active
      → state_of s.base.log.tables t.store.log.memory.active ≡ Clean

pub same_step : (s t : Durably) → t.store.log.memory ≡ s.store.log.memory → IsStep s t
same_step s t same = record {
  follows = same_follows s.store.log.memory t.store.log.memory same;
  clean = λ other. absurd (other (ap (λ (m : SegmentMemory). m.active) same));
}

pub settled_step : (s t : Durably) → IsStore s.store → SettlesInPlace s t → IsStep s t
settled_step s t store here = record {
  follows = flushing_ahead_follows_on s.store t.store store here.settles.written.flush;
  clean = λ other. absurd (other (here.settles.written.stays here.clean));
}

pub way_step : (changes : List Change) (s t : Durably) → IsStore s.store → WritesFirst changes s t → IsStep s t
way_step changes s t store (inl nothing) =
    same_step s t (ap (λ (d : Durably). d.store.log.memory) nothing.1)
way_step changes s t store (inr wrote) = settled_step s t store wrote.1

-- behind changes
module _ (old new : Durably) (changes : List Change) (by : Reserve) where
  pub behind_step : (result : Result (Unit {0}) StoreRefusal) (c : ComesTo old changes by result new)
      → IsStep c.before new
  behind_step (Err refusal) c = same_step c.before new (ap (λ (d : Durably). d.store.log.memory) c.refused)
  behind_step (Ok done) c = elim c.behind [
    | inl fits ↦ same_step c.before new
        (ap (λ (d : Durably). d.store.log.memory) fits.1 ∙ c.stays.memory)
    | inr behind ↦
        let store : IsStore c.staged = c.comes.makes.store in
        let flush : FlushesAhead c.staged new.store = behind.settles.written.flush in
        let memory : c.staged.log.memory ≡ c.before.store.log.memory = c.stays.memory in
        let active : c.staged.log.memory.active ≡ c.before.store.log.memory.active =
        ap (λ (m : SegmentMemory). m.active) memory in
        let own : c.before.base ≡ c.before.store = ap (λ (d : Durably). d.base) behind.own in
        let opened : ℕ = new.store.log.memory.active in
        record {
          follows = subst (λ (m : SegmentMemory). FollowsOn m new.store.log.memory) memory
              (flushing_ahead_follows_on c.staged new.store store flush);
          clean = λ other.
              ap (λ (p : Parts). state_of p.log.tables opened) own
              ∙ sym (ap (λ (ss : List SegState). get_or ss opened Clean) c.stays.states)
              ∙ opens_clean_only c.staged new.store flush (λ same. other (same ∙ active));
        }
  ]

-- blocks that are written again, where nothing waited
module _ (s : Durably) (marks : List BlockInfo) (own : s ≡ settled s.mark.turn s.store) (store : IsStore s.store)
    (flushed : IsFlushed s.store) where
  own_base : s.base ≡ s.store
  own_base = ap (λ (d : Durably). d.base) own

  -- one flush, behind one that had nothing to write
  marked_step : (t : Durably) (between : Parts) → WritesWaiting s.store between
      → (t.store ≡ between) → IsStep s t
  marked_step t between w same =
      let first = flushing_ahead_follows_on s.store between store w.flush in
      record {
        follows = subst (λ (p : Parts). FollowsOn s.store.log.memory p.log.memory) (sym same) first;
        clean = λ other.
            ap (λ (p : Parts). state_of p.log.tables t.store.log.memory.active) own_base
            ∙ subst (λ (p : Parts). state_of s.store.log.tables p.log.memory.active ≡ Clean) (sym same)
            (opens_clean_only s.store between w.flush
            (λ here. other (ap (λ (p : Parts). p.log.memory.active) same ∙ here)));
      }

  moved_step : (t : Durably) (between : Parts) → WritesWaiting s.store between → FlushesAhead between t.store → IsStep s t
  moved_step t between w flush =
      let opened : ℕ = t.store.log.memory.active in
      let segments = flush.flushes.store.whole.parts.laid_out.active in
      let on = flushing_ahead_follows_on between t.store w.store flush in
      let count : t.store.log.memory.segments ≡ between.log.memory.segments = on.segments in
      record {
        follows = none_follows s.store between store flushed w t.store.log.memory on;
        clean = λ other.
            let away : opened ≢ between.log.memory.active =
            λ same. other (same ∙ stays_active s.store between store flushed w) in
            ap (λ (p : Parts). state_of p.log.tables opened) own_base
            ∙ none_clean s.store between store flushed w opened (subst (λ n. opened < n) count segments) away
            (opens_clean_only between t.store flush away);
      }

  pub again_step : (result : Result ℕ CleanFault) (t : Durably) → WritesAgain s marks result t → IsStep s t
  again_step (Err fault) t a =
      let w : WritesWaiting s.store t.store = a.log.refused in marked_step t t.store w refl
  again_step (Ok count) t a =
      let m : MarksAgain marks count s.store t.store = a.log.marked in
      let again : MarksFlushed marks count m.between t.store = m.again in
      elim again.flush [
        | inl same ↦ marked_step t m.between m.written same
        | inr flush ↦ moved_step t m.between m.written flush
      ]
