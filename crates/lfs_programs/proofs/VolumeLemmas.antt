-- Talks over the volume that was asked for: `talked_alone`, `talked_filed`, `talked_so_far` and `still_closed` for
-- `filming::hear`, `heard_shown` and `so_far_shown` for `hear_over`, `pieces_left` for `shell::run`. A volume that
-- begins as was asked, laid out or of an image, has no entries (`begun_empty`), so lfs_live's promise of a talk holds
-- of it. Whether a file of the journal is asked for decides which of two claims is made, and the other is absurd; with
-- one, the sink's bytes are the file's and its next line is number 1, so the lines are a journal's. The look for the
-- film changes nothing, so the talk behind it is one from the beginning.
use Rattle.std.proofs.Common.{◌≡◌, ℕ, Bool, true, false, List, [], ◌++◌, Option, inl, inr, refl, sym}
use Rattle.std.proofs.Common.{ap}
use Rattle.std.proofs.Common.{subst, ◌∙◌, ◌==◌, is_some}
use Rattle.std.specs.Io.Buffered.{reader_buffer, reader_capacity, reader_inner, reader_remaining}
use Rattle.std.proofs.KnownBytes.{prepend_known-nil}
use Rattle.std.specs.declared.io.buffered.BufReader.{BufReader}
use Rattle.lfs_volume.specs.Seen.{Seen}
use Rattle.lfs_live.specs.Held.{HasBegun, Held, Sink, course_of}
use Rattle.lfs_live.specs.Scripts.{IsJournalOf, Manner, begins_with}
use Rattle.lfs_live.specs.Talkers.{Talker}
use Rattle.lfs_live.specs.declared.framing.Framing.{Framing}
use Rattle.lfs_live.specs.Talking.{HasHeardSoFar, HasKeptSoFar, IsKeptTalk}
use Rattle.lfs_live.proofs.StartLemmas.{begun}
use Rattle.lfs_programs.specs.Talks.{BeginsAs, HasHeard, HasTalked, HasTalkedSoFar, IsKept, manner_of}
use Rattle.lfs_programs.specs.Volumes.{Kind}
use Rattle.lfs_programs.specs.declared.filming.Ending.{Ending}
use Rattle.lfs_programs.specs.declared.options.ShellOptions.{ShellOptions}

-- the journal of a volume with which a talk begins is empty
begun_empty : {S : Type 0} (kind : Kind S) (options : ShellOptions) (v : Seen S) → BeginsAs kind options v → v.journal ≡ []
begun_empty kind options v begin = elim begin.1 [
  | inl fresh ↦ fresh.empty
  | inr other ↦ elim other [
    | inl image ↦ image.1.empty
    | inr disk ↦ elim disk.1 [
      | inl laid_out ↦ laid_out.empty
      | inr found ↦ found.empty
    ]
  ]
]

never_both : (b : Bool) → b ≡ true → b ≡ false → ⊥
never_both b holds fails = absurd (cc)

heard_since : {F J S : Type 0} (contents : F → Option (List ℕ)) (kind : Kind S) (sink : Sink J) (options : ShellOptions)
    (ending : Ending) (volume : Seen S) (j : J) (manner : Manner) (old new : Held S J)
    (known left start out : Option (List ℕ))
    → old ≡ begun volume j manner → BeginsAs kind options volume
    → (HasBegun old → HasHeard contents kind sink options ending old new known left start out)
    → HasHeard contents kind sink options ending (begun volume j manner) new known left start out
heard_since {F} {J} {S} contents kind sink options ending volume j manner old new known left start out is begin heard =
    subst (λ (h : Held S J). HasBegun h → HasHeard contents kind sink options ending h new known left start out) is
    heard (refl, begun_empty kind options volume begin)

-- a talk behind a look at the store, which changes nothing, and what is kept of it
pub heard_shown : {F J S : Type 0} (contents : F → Option (List ℕ)) (kind : Kind S) (sink : Sink J) (options : ShellOptions)
    (ending : Ending) (old shown after new : Held S J) (known left start out : Option (List ℕ)) → shown ≡ old
    → (HasBegun shown → IsKeptTalk kind.talker options.framing sink shown after ending.has_fault known left start out)
    → IsKept contents kind options ending.is_saved after.volume new.volume → new ≡ record after { volume = new.volume }
    → HasBegun old → HasHeard contents kind sink options ending old new known left start out
heard_shown {F} {J} {S} contents kind sink options ending old shown after new known left start out is talk saved same =
    λ begun. record {
      after = after;
      talk = subst (λ (h : Held S J). HasBegun h
          → IsKeptTalk kind.talker options.framing sink h after ending.has_fault known left start out) is talk begun;
      saved = saved;
      same = same;
    }

-- the same up to a read that failed
pub so_far_shown : {J S : Type 0} (r : Talker S) (framing : Framing) (sink : Sink J) (old shown new : Held S J)
    (known left start out : Option (List ℕ)) → shown ≡ old
    → (HasBegun shown → HasKeptSoFar r framing sink shown new known left start out)
    → HasBegun old → HasKeptSoFar r framing sink old new known left start out
so_far_shown {J} {S} r framing sink old shown new known left start out is so_far =
    subst (λ (h : Held S J). HasBegun h → HasKeptSoFar r framing sink h new known left start out) is so_far

-- a talk without a file for its journal
pub talked_alone : {F J S : Type 0} (contents : F → Option (List ℕ)) (kind : Kind S) (sink : Sink J) (options : ShellOptions)
    (ending : Ending) (volume : Seen S) (j : J) (old new : Held S J)
    (known left start out : Option (List ℕ))
    → is_some options.journal_out ≡ false
    → old ≡ begun volume j (manner_of options false) → BeginsAs kind options volume
    → (HasBegun old → HasHeard contents kind sink options ending old new known left start out)
    → HasTalked contents kind options ending known start out
talked_alone {F} {J} {S} contents kind sink options ending volume j old new known left start out none is begin heard =
    let manner = manner_of options false in
    let h = heard_since contents kind sink options ending volume j manner old new known left start out is begin heard in
    record {
      left = left;
      alone = λ _. record {
        old = volume;
        new = course_of h.after h.talk.handed h.talk.answers;
        begun = begin;
        talk = h.talk.talk;
        end = new.volume;
        saved = h.saved;
        faulty = h.talk.faulty;
      };
      filed = λ some. absurd (never_both (is_some options.journal_out) some none);
    }

-- a talk with one
pub talked_filed : {F J S : Type 0} (contents : F → Option (List ℕ)) (kind : Kind S) (sink : Sink J) (of : J → F)
    (options : ShellOptions) (is_kept : Bool) (ending : Ending) (volume : Seen S) (j : J) (old new : Held S J)
    (known left start out : Option (List ℕ))
    → is_some options.journal_out ≡ true
    → ((k : J) → sink.contents k ≡ contents (of k)) → sink.next j ≡ 1 → is_kept ≡ new.is_open
    → old ≡ begun volume j (manner_of options true) → BeginsAs kind options volume
    → (HasBegun old → HasHeard contents kind sink options ending old new known left start out)
    → HasTalked contents kind options (record ending { is_kept = is_kept }) known start out
talked_filed {F} {J} {S} contents kind sink of options is_kept ending volume j old new known left start
    out some holds first kept is begin heard =
    let manner = manner_of options true in
    let h = heard_since contents kind sink options ending volume j manner old new known left start out is begin heard in
    let entries = h.talk.handed ++ h.after.volume.journal in
    let taking_on : is_kept ≡ h.after.is_open = kept ∙ ap (λ (x : Held S J). x.is_open) h.same in
    record {
      left = left;
      alone = λ none. absurd (never_both (is_some options.journal_out) some none);
      filed = λ _. record {
        old = volume;
        new = course_of h.after h.talk.handed h.talk.answers;
        begun = begin;
        talk = h.talk.talk;
        before = of j;
        after = of h.after.sink;
        kept = λ taking. subst (λ (n : ℕ). IsJournalOf n (contents (of j)) (contents (of h.after.sink)) entries) first
            (subst (λ (b : Option (List ℕ)). IsJournalOf (sink.next j) b (contents (of h.after.sink)) entries)
            (holds j)
            (subst (λ (b : Option (List ℕ)). IsJournalOf (sink.next j) (sink.contents j) b entries)
            (holds h.after.sink)
            (h.talk.kept (sym taking_on ∙ taking)).lines));
        end = new.volume;
        saved = h.saved;
        faulty = h.talk.faulty;
      };
    }

-- up to a read that failed
pub talked_so_far : {F J S : Type 0} (contents : F → Option (List ℕ)) (kind : Kind S) (sink : Sink J) (options : ShellOptions)
    (is_open : Bool) (volume : Seen S) (j : J)
    (old new : Held S J) (known left start out : Option (List ℕ))
    → is_open ≡ is_some options.journal_out
    → old ≡ begun volume j (manner_of options is_open) → BeginsAs kind options volume
    → (HasBegun old → HasKeptSoFar kind.talker options.framing sink old new known left start out)
    → HasTalkedSoFar contents kind options known start out
talked_so_far {F} {J} {S} contents kind sink options is_open volume j old new known left start out filed is begin heard =
    let so_far = subst (λ (h : Held S J). HasBegun h
    → HasKeptSoFar kind.talker options.framing sink h new known left start out) is heard
    (refl, begun_empty kind options volume begin) in
    let course = course_of new so_far.handed so_far.answers in
    record {
      left = left;
      old = volume;
      new = course;
      begun = begin;
      heard = subst (λ (b : Bool). HasHeardSoFar kind.talker options.framing (begins_with volume (manner_of options b)) course
          known left start out) filed so_far.so_far;
    }

-- a sink that takes none takes none
pub still_closed : (old new : Bool) → old ≡ false → (new ≡ true → old ≡ true) → new ≡ old
still_closed old true closed opened = absurd (never_both old (opened refl) closed)
still_closed old false closed opened = sym closed

-- what a reader has left, read in pieces, of which none is filled yet
pub pieces_left : {R A : Type 0} (remaining : R → Option (List ℕ)) (pieces : BufReader R A) (reader : R)
    → reader_inner pieces ≡ reader → reader_buffer pieces ≡ [] → (reader_capacity pieces == 0) ≡ false
    → reader_remaining remaining pieces ≡ remaining reader
pieces_left {R} remaining pieces reader inner empty some =
    rw (some, empty) (prepend_known-nil (remaining pieces.inner) ∙ ap remaining inner)
