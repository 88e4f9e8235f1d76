-- What calls of markv lead to that are made one after another (`turns_more`, `turns_leave`), and so what a call for room
-- comes to (`gains_on_disk`).
use Rattle.std.proofs.Common.{◌≡◌, ◌⊎◌, ◌<◌, ℕ, zero, suc, ◌∙◌, false, List, None, IsSome, Result, Ok, Err, IfErr, OnErr, OnOk}
use Rattle.std.proofs.Common.{inl, inr, refl, sym, ap, subst, arith}
use Rattle.std.proofs.lemmas.Bool.{false≢true}
use Rattle.lfs_types.specs.StoreStates.{Follows, MovesBase, Shape, StoreState}
use Rattle.lfs_types.specs.Tree.{Content}
use Rattle.lfs_types.specs.declared.cleaner.BlockInfo.{BlockInfo}
use Rattle.lfs_types.specs.declared.cleaner.CleanFault.{CleanFault}
use Rattle.lfs_types.specs.declared.cleaner.CleanFault.TheVariants.{Active, Live, NoSpace, NoSuchSegment, NotDirty}
use Rattle.lfs_types.specs.declared.cleaner.CleanFault.TheVariants.{NotGainful}
use Rattle.lfs_segments.specs.Memory.{SegmentMemory}
use Rattle.lfs_parts.specs.declared.parts.Parts.{Parts}
use Rattle.lfs_parts.specs.Files.{content_of}
use Rattle.lfs_segwrite.specs.Applying.{WritesWaiting}
use Rattle.lfs_segwrite.specs.Finishing.{MarksAgain}
use Rattle.lfs_segwrite.specs.Gaining.{IsGainful, NoneIsGainful}
use Rattle.lfs_logstore.specs.Cleaning.{GivesInfos, IsListingFaultOf}
use Rattle.lfs_durable.specs.Runs.{IsCounted, ShowsTree}
use Rattle.lfs_disk.specs.Disk.{LeavesOnly}
use Rattle.lfs_disk.proofs.MomentLemmas.{followed, widened}
use Rattle.lfs_durable_store.specs.declared.mark.Mark.{Mark}
use Rattle.lfs_durable_store.specs.CleanerCalls as calls
use Rattle.lfs_durable_store.specs.Keeping.{Durably, durable_state, settled}
use Rattle.lfs_durable_store.proofs.CallLemmas.{own_base, own_told}
use Rattle.lfs_disk_store.specs.Answering.{SettlesInPlace, Syncs}
use Rattle.lfs_disk_store.specs.CleanerCalls.{AreCounted, GainsOut, GainsRoom, IsCountedBetween, MarksEights}
use Rattle.lfs_disk_store.specs.CleanerCalls.{MarksInTurn, Reclaims, WritesAgain}
use Rattle.lfs_disk_store.specs.Finding.{Finds, FindsOneOf, IsOneOf, ShowTrees}
use Rattle.lfs_disk_store.specs.Keeping.{KeepsDisk, OnDisk, disk_state}
use Rattle.lfs_disk_store.proofs.FindLemmas.{same_tree}
use Rattle.lfs_disk_store.proofs.FollowLemmas.{dirty_not_active, dirty_not_clean}

pub follows_same : (s : StoreState) → Follows s s
follows_same s = record { clean = λ none. omega arith; shape = refl }

pub follows_on : (a b c : StoreState) → Follows a b → Follows b c → Follows a c
follows_on a b c first next = record {
  clean = λ none.
      let low = first.clean none in
      let high = next.clean (share none) in
      omega arith;
  shape = next.shape ∙ first.shape;
}
  where
    share : a.shape.has_share ≡ false → b.shape.has_share ≡ false
    share none = ap (λ (s : Shape). s.has_share) first.shape ∙ none

-- the segments are as many
again_segments : (s t : Durably) (marks : List BlockInfo) (result : Result ℕ CleanFault)
    → calls.WritesAgain s marks result t → t.store.log.memory.segments ≡ s.store.log.memory.segments
again_segments s t marks (Ok count) a =
    let m : MarksAgain marks count s.store t.store = a.log.marked in m.again.log.segments ∙ m.written.log.segments
again_segments s t marks (Err fault) a = let w : WritesWaiting s.store t.store = a.log.refused in w.log.segments

module _ {D : Type 0} (time : D → ℕ) (left_since : D → ℕ → List (List ℕ) → Type 0) where
  pub turns_none : (old : OnDisk D) → MarksInTurn time left_since 0 old old
  unfolding MarksInTurn
  turns_none old = refl

  pub turns_more : (k : ℕ) (old last new : OnDisk D) (marks : List BlockInfo) (result : Result ℕ CleanFault)
      → MarksInTurn time left_since k old last → WritesAgain time left_since last marks result new
      → MarksInTurn time left_since (suc k) old new
  unfolding MarksInTurn
  turns_more k old last new marks result before again =
      record { last = last; before = before; marks = marks; result = result; again = again }

  -- the store is its own base
  again_own : (old new : OnDisk D) (marks : List BlockInfo) (result : Result ℕ CleanFault)
      → old.store ≡ settled old.store.mark.turn old.store.store → WritesAgain time left_since old marks result new
      → new.store ≡ settled new.store.mark.turn new.store.store
  again_own old new marks result own (inl refused) =
      subst (λ (s : OnDisk D). s.store ≡ settled s.store.mark.turn s.store.store) (sym refused.0.same) own
  again_own old new marks result own (inr out) = out.again.base

  again_content : (old new : OnDisk D) (marks : List BlockInfo) (result : Result ℕ CleanFault)
      → WritesAgain time left_since old marks result new → content_of new.store.store ≡ content_of old.store.store
  again_content old new marks result (inl refused) = ap (λ (s : OnDisk D). content_of s.store.store) refused.0.same
  again_content old new marks result (inr out) = out.content

  again_base : (old new : OnDisk D) (marks : List BlockInfo) (result : Result ℕ CleanFault)
      → content_of old.store.base ≡ content_of old.store.store → WritesAgain time left_since old marks result new
      → content_of new.store.base ≡ content_of new.store.store
  again_base old new marks result own (inl refused) =
      subst (λ (s : OnDisk D). content_of s.store.base ≡ content_of s.store.store) (sym refused.0.same) own
  again_base old new marks result own (inr out) = own_base new.store out.again.base

  again_count : (old new : OnDisk D) (marks : List BlockInfo) (result : Result ℕ CleanFault)
      → WritesAgain time left_since old marks result new
      → new.store.store.log.memory.segments ≡ old.store.store.log.memory.segments
  again_count old new marks result (inl refused) =
      ap (λ (s : OnDisk D). s.store.store.log.memory.segments) refused.0.same
  again_count old new marks result (inr out) =
      again_segments out.between new.store marks result out.again ∙ out.settles.settles.written.log.segments

  pub eights_none : (old : OnDisk D) → old.store ≡ settled old.store.mark.turn old.store.store
      → MarksEights time left_since old old
  eights_none old own = record {
    turns = 0;
    marks = turns_none old;
    own = own;
    content = refl;
    follows = follows_same (disk_state old);
  }

  pub eights_more : (old last new : OnDisk D) (marks : List BlockInfo) (result : Result ℕ CleanFault)
      → MarksEights time left_since old last → WritesAgain time left_since last marks result new
      → Follows (disk_state last) (disk_state new) → MarksEights time left_since old new
  eights_more old last new marks result e again follows = record {
    turns = suc e.turns;
    marks = turns_more e.turns old last new marks result e.marks again;
    own = again_own last new marks result e.own again;
    content = again_content last new marks result again ∙ e.content;
    follows = follows_on (disk_state old) (disk_state last) (disk_state new) e.follows follows;
  }

  pub eights_some : (old last new : OnDisk D) (marks : List BlockInfo) (result : Result ℕ CleanFault)
      → MarksEights time left_since old last → WritesAgain time left_since last marks result new
      → Follows (disk_state last) (disk_state new)
      → (e : MarksEights time left_since old new) × (0 < e.turns)
  unfolding eights_more
  eights_some old last new marks result e again follows =
      (eights_more old last new marks result e again follows, omega arith)

  -- what stays in these calls
  record Stays (old new : OnDisk D) : Type 0 where
    own : content_of new.store.base ≡ content_of new.store.store
    content : content_of new.store.store ≡ content_of old.store.store
    segments : new.store.store.log.memory.segments ≡ old.store.store.log.memory.segments

  turns_stay : (k : ℕ) (old new : OnDisk D) → content_of old.store.base ≡ content_of old.store.store
      → MarksInTurn time left_since k old new → Stays old new
  unfolding MarksInTurn
  turns_stay zero old new own turn = subst (Stays old) (sym turn) (record { own = own; content = refl; segments = refl })
  turns_stay (suc k) old new own turn =
      let first = turns_stay k old turn.last own turn.before in
      record {
        own = again_base turn.last new turn.marks turn.result first.own turn.again;
        content = again_content turn.last new turn.marks turn.result turn.again ∙ first.content;
        segments = again_count turn.last new turn.marks turn.result turn.again ∙ first.segments;
      }

  module _ (from : D) (is : Content → Type 0) where
    -- a crash leaves what is allowed, of each the one content
    turns_leave : (k : ℕ) (old new : OnDisk D) (turn : MarksInTurn time left_since k old new)
        → content_of old.store.base ≡ content_of old.store.store → ShowsTree old.store.store
        → is (content_of old.store.store) → AreCounted time left_since k old new turn → IsCounted new.store.store
        → LeavesOnly time left_since from old.disk (Finds old.store.store.log.memory.segments is)
        → LeavesOnly time left_since from new.disk (Finds old.store.store.log.memory.segments is)
    unfolding MarksInTurn AreCounted
    turns_leave zero old new turn own tree one counted last run =
        subst (λ d. LeavesOnly time left_since from d (Finds old.store.store.log.memory.segments is))
        (sym (ap (λ (s : OnDisk D). s.disk) turn)) run
    turns_leave (suc k) old new turn own tree one counted last run =
        let stays : Stays old turn.last = turns_stay k old turn.last own turn.before in
        once_more old turn.last new turn.marks turn.result stays tree one turn.again counted.1 counted.2 last
        (turns_leave k old turn.last turn.before own tree one counted.0 counted.1 run)
      where
        allowed : (s t : Durably) (c d : Content) → content_of s.base ≡ c → content_of s.store ≡ c → content_of t.store ≡ c
            → is c → IsOneOf s t d → is d
        allowed s t c d base was now one (inl same) = subst is (sym (same ∙ base)) one
        allowed s t c d base was now one (inr (inl same)) = subst is (sym (same ∙ was)) one
        allowed s t c d base was now one (inr (inr same)) = subst is (sym (same ∙ now)) one

        once_more : (old mid new : OnDisk D) (marks : List BlockInfo) (result : Result ℕ CleanFault) → Stays old mid
            → ShowsTree old.store.store → is (content_of old.store.store)
            → (again : WritesAgain time left_since mid marks result new) → IsCounted mid.store.store
            → IsCountedBetween time left_since mid marks result new again → IsCounted new.store.store
            → LeavesOnly time left_since from mid.disk (Finds old.store.store.log.memory.segments is)
            → LeavesOnly time left_since from new.disk (Finds old.store.store.log.memory.segments is)
        once_more old mid new marks result stays tree one (inl refused) first way last so_far =
            subst (λ d. LeavesOnly time left_since from d (Finds old.store.store.log.memory.segments is))
            (sym (ap (λ (s : OnDisk D). s.disk) refused.0.same)) so_far
        once_more old mid new marks result stays tree one (inr out) first way last so_far =
            let P : List (List ℕ) → Type 0 = Finds old.store.store.log.memory.segments is in
            let was : content_of mid.store.store ≡ content_of old.store.store = stays.content in
            let now : content_of new.store.store ≡ content_of old.store.store = out.content ∙ was in
            let base : content_of mid.store.base ≡ content_of old.store.store = stays.own ∙ was in
            let trees : ShowTrees mid.store new.store = record {
              base = same_tree old.store.store mid.store.base base tree;
              before = same_tree old.store.store mid.store.store was tree;
              now = same_tree old.store.store new.store.store now tree;
            } in
            let next : LeavesOnly time left_since mid.disk new.disk P =
            widened time left_since mid.disk new.disk P (FindsOneOf mid.store new.store)
            (out.crash.only trees first way last)
            (λ c finds n found segments same on.
            allowed mid.store new.store (content_of old.store.store) (content_of found) base was now one
            (finds n found (segments ∙ sym stays.segments) same on)) in
            followed time left_since from mid.disk new.disk P P so_far next (λ c p. p)

  -- behind such a call the base contains what the store does
  pub gains_own : (old : OnDisk D) (result : Result (Unit {0}) CleanFault) (new : OnDisk D)
      → GainsOut time left_since old result new → content_of new.store.base ≡ content_of new.store.store
  gains_own old (Ok done) new g =
      let stays = turns_stay g.turns g.synced g.emptied (own_base g.synced.store g.settles.settles.settles.base) g.marks in
      let r = g.gained.2.reclaims in
      ap content_of r.base ∙ stays.own ∙ sym r.log.ok.content
  gains_own old (Err fault) new g =
      let stays = turns_stay g.turns g.synced g.emptied (own_base g.synced.store g.settles.settles.settles.base) g.marks in
      subst (λ (s : OnDisk D). content_of s.store.base ≡ content_of s.store.store) (sym g.full) stays.own

  -- what waited was written, then blocks were written again, and then no block changed
  module _ (old synced emptied new : OnDisk D) (settles : SettlesInPlace time left_since old synced)
      (e : MarksEights time left_since synced emptied) (keeps : KeepsDisk emptied new)
      (memory : new.store.store.log.memory ≡ emptied.store.store.log.memory) where
    was : content_of synced.store.store ≡ content_of old.store.store
    was = settles.settles.settles.written.content

    same_count : synced.store.store.log.memory.segments ≡ old.store.store.log.memory.segments
    same_count = settles.settles.settles.written.log.segments

    one_kept : (d : Content) → IsOneOf old.store synced.store d → IsOneOf old.store new.store d
    one_kept d (inl base) = inl base
    one_kept d (inr (inl before)) = inr (inl before)
    one_kept d (inr (inr now)) = inr (inl (now ∙ was))

    leaves : ShowTrees old.store new.store → IsCounted old.store.store → IsCounted synced.store.store
        → AreCounted time left_since e.turns synced emptied e.marks → IsCounted new.store.store
        → LeavesOnly time left_since old.disk new.disk (FindsOneOf old.store new.store)
    leaves trees counted first turns last =
        let tree = same_tree old.store.store synced.store.store was trees.before in
        let is : Content → Type 0 = IsOneOf old.store new.store in
        let start : LeavesOnly time left_since old.disk synced.disk (Finds synced.store.store.log.memory.segments is) =
        widened time left_since old.disk synced.disk (Finds synced.store.store.log.memory.segments is)
        (FindsOneOf old.store synced.store)
        (settles.crash.only (record { base = trees.base; before = trees.before; now = tree }) counted tt first)
        (λ c finds n found segments same on.
        one_kept (content_of found) (finds n found (segments ∙ same_count) same on)) in
        let end : IsCounted emptied.store.store = record {
          next = last.next;
          serial = ap (λ (m : SegmentMemory). m.serial) (sym memory) ∙ last.serial;
          bound = last.bound;
        } in
        let run : LeavesOnly time left_since old.disk emptied.disk (Finds synced.store.store.log.memory.segments is) =
        turns_leave old.disk is e.turns synced emptied e.marks (own_base synced.store settles.settles.settles.base) tree
        (inr (inl was)) turns end start in
        subst (λ d. LeavesOnly time left_since old.disk d (FindsOneOf old.store new.store)) (sym keeps.disk)
        (widened time left_since old.disk emptied.disk (FindsOneOf old.store new.store)
        (Finds synced.store.store.log.memory.segments is) run
        (λ c finds n found segments same on. finds n found (segments ∙ sym same_count) same on))

    pub gains_on_disk : (result : Result (Unit {0}) CleanFault)
        → OnOk result ((segment : ℕ) × IsGainful synced.store.store segment × Reclaims emptied segment result new)
        → OnErr result (new ≡ emptied)
        → OnErr result (IsSome synced.fault ⊎ (NoneIsGainful synced.store.store ⊎ (0 < e.turns)))
        → GainsOut time left_since old result new
    gains_on_disk result gained full tried = record {
      synced = synced;
      settles = settles;
      turns = e.turns;
      emptied = emptied;
      marks = e.marks;
      gained = gained;
      full = full;
      tried = tried;
      crash = record {
        only = λ trees counted way last. leaves trees counted way.0 way.1 last;
      };
    }

-- a Sync that was served
pub served : {D : Type 0} (time : D → ℕ) (left_since : D → ℕ → List (List ℕ) → Type 0) (old new : OnDisk D)
    → Syncs time left_since old new → new.fault ≡ None → SettlesInPlace time left_since old new
served time left_since old new (inl refused) none =
    absurd (false≢true (subst IsSome (ap (λ (s : OnDisk _). s.fault) (sym refused.same) ∙ none) refused.failed))
served time left_since old new (inr settles) none = settles

pub same_disk : {D : Type 0} (s : OnDisk D) → KeepsDisk s s
same_disk s = record { disk = refl; fault = refl }

-- a Sync that was not
pub gains_none : {D : Type 0} (time : D → ℕ) (left_since : D → ℕ → List (List ℕ) → Type 0) (old new : OnDisk D)
    → Syncs time left_since old new → IsSome new.fault → GainsRoom time left_since old (Err NotGainful) new
gains_none time left_since old new (inl refused) some = inl (refused, refl)
gains_none time left_since old new (inr settles) some =
    inr (gains_on_disk time left_since old new new new settles
    (eights_none time left_since new settles.settles.settles.base) (same_disk new) refl (Err NotGainful) tt refl (inl some))

-- ---- the base
pub own_moves : (old new : Durably) → new ≡ settled new.mark.turn new.store
    → MovesBase (durable_state old) (durable_state new)
own_moves old new own = inr (inr (own_told new own))

-- also where a segment was made clean behind that
pub reclaimed_moves : (old s t : Durably) → s ≡ settled s.mark.turn s.store → t.base ≡ s.base → t.mark ≡ s.mark
    → content_of t.store ≡ content_of s.store → MovesBase (durable_state old) (durable_state t)
reclaimed_moves old s t own base mark same =
    let told = own_told s own in
    inr (inr (ap content_of base ∙ told.0 ∙ sym same, ap (λ (m : Mark). m.is_whole) mark ∙ told.1))

-- a gainful segment has infos
pub listing_not_gainful : (p : Parts) (segment : ℕ) (fault : CleanFault) → IsGainful p segment
    → IsListingFaultOf p segment fault → ⊥
listing_not_gainful p segment NoSuchSegment g past = let inside = g.inside in omega arith
listing_not_gainful p segment Active g active = dirty_not_active (sym g.dirty ∙ active.1)
listing_not_gainful p segment NotDirty g clean = dirty_not_clean (sym g.dirty ∙ clean.1)
listing_not_gainful p segment (Live bytes) g none = none
listing_not_gainful p segment NoSpace g none = none
listing_not_gainful p segment NotGainful g none = none

pub gainful_listed : (p : Parts) (segment : ℕ) (result : Result (Unit {0}) CleanFault) (infos : List BlockInfo)
    (fault : CleanFault) → IsGainful p segment → GivesInfos p segment result infos → result ≡ Err fault → ⊥
gainful_listed p segment result infos fault g gives same =
    let err : IfErr result (IsListingFaultOf p segment) = gives.err in
    listing_not_gainful p segment fault g
    (subst (λ (r : Result (Unit {0}) CleanFault). IfErr r (IsListingFaultOf p segment)) same err)
