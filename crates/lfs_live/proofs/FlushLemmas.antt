-- Entries that are let go before a Sync, and a Sync that is not done: `let_go_gone`, `let_go_room` and `let_go_same`
-- for `Tended::make_room`, `done_is` and `sync_refused` for `sync`, `gone_on` and `flush_refused` for `flush`. A
-- drained journal begins at the world to which the old one led, so what holds at present of the new volume held of the
-- old one (`gone_on`); the store and the limit stay. It has room for an entry, so an answer of the Sync that isn't Done
-- has its cause in the tree of then, which is the tree that the old volume showed.
use Rattle.std.proofs.Common.{◌≡◌, ◌≢◌, ℕ, ◌<◌, ◌≤◌, true, false, length, inl, inr, refl, sym, ap}
use Rattle.std.proofs.Common.{subst, ◌∙◌, arith, OnErr, OnOk, Result, Ok, Err}
use Rattle.lfs_types.specs.Caller.{Caller}
use Rattle.lfs_types.specs.StoreStates.{StoreState}
use Rattle.lfs_types.specs.Tree.{World}
use Rattle.lfs_types.specs.declared.answer.Answer.{Answer}
use Rattle.lfs_types.specs.declared.answer.Answer.TheVariants.{Served, Denied, Refused}
use Rattle.lfs_types.specs.declared.answer.Served.TheVariants.{Done, Stat, Bytes, Names}
use Rattle.lfs_types.specs.declared.request.Request.TheVariants.{Sync}
use Rattle.lfs_model.specs.Steps.{world_after}
use Rattle.lfs_volume.specs.Journals.{AtPresent, Begins}
use Rattle.lfs_volume.specs.Seen.{Seen}
use Rattle.lfs_calls.specs.Outcomes.{IsOutcome}
use Rattle.lfs_audit.specs.Filing.{drained}
use Rattle.lfs_live.specs.Held.{Held, IsLetGo, MayEnter}
use Rattle.lfs_live.specs.Flushing.{IsSyncRefused, is_done}
use Rattle.lfs_live.specs.Talking.{first_speaker}
use Rattle.lfs_live.proofs.KeepingLemmas.{never_both}

-- ---- entries that were let go

-- what holds at present where entries may have been let go, held at present before
pub gone_on : {F : Type 0} (state : F → StoreState) (old new : Seen F) (P : World → Type 0) → IsLetGo state old new
    → AtPresent state new P → AtPresent state old P
gone_on {F} state old new P (inl same) holds = subst (λ (v : Seen F). AtPresent state v P) same holds
gone_on {F} state old new P (inr gone) holds =
    let shown = subst (λ (v : Seen F). AtPresent state v P) gone.0 holds in
    let begins = subst (λ (v : Seen F). AtPresent state old (Begins (state v.since) v.since_level)) gone.0 gone.1 in
    λ from here. shown (world_after (state old.store).shape.numbers old.journal from) (begins from here)

gone_store : {F : Type 0} (state : F → StoreState) (old new : Seen F) → IsLetGo state old new → new.store ≡ old.store
gone_store {F} state old new (inl same) = ap (λ (v : Seen F). v.store) same
gone_store {F} state old new (inr gone) = ap (λ (v : Seen F). v.store) gone.0

gone_limit : {F : Type 0} (state : F → StoreState) (old new : Seen F) → IsLetGo state old new → new.limit ≡ old.limit
gone_limit {F} state old new (inl same) = ap (λ (v : Seen F). v.limit) same
gone_limit {F} state old new (inr gone) = ap (λ (v : Seen F). v.limit) gone.0

-- a result of letting them go
pub let_go_gone : {A E F J : Type 0} (state : F → StoreState) (old new : Held F J) (result : Result A E)
    → OnOk result (new ≡ record old { volume = drained old.volume })
    → OnOk result (AtPresent state old.volume (Begins (state new.volume.since) new.volume.since_level))
    → OnOk result (IsLetGo state old.volume new.volume)
let_go_gone {A} {E} {F} {J} state old new (Ok a) is begins = inr (ap (λ (h : Held F J). h.volume) is, begins)
let_go_gone state old new (Err e) is begins = tt

-- a drained journal takes an entry
pub let_go_room : {A E F J : Type 0} (old new : Held F J) (result : Result A E)
    → OnOk result (new ≡ record old { volume = drained old.volume }) → OnOk result (MayEnter new.volume)
let_go_room {A} {E} {F} {J} old new (Ok a) is =
    subst (λ (h : Held F J). MayEnter h.volume) (sym is) (λ some. omega (arith, some))
let_go_room old new (Err e) is = tt

-- nothing but the volume changed
pub let_go_same : {A E F J : Type 0} (old new : Held F J) (result : Result A E)
    → OnOk result (new ≡ record old { volume = drained old.volume }) → OnErr result (new ≡ old)
    → new ≡ record old { volume = new.volume }
let_go_same {A} {E} {F} {J} old new (Ok a) is same =
    is ∙ ap (λ (v : Seen F). record old { volume = v }) (sym (ap (λ (h : Held F J). h.volume) is))
let_go_same {A} {E} {F} {J} old new (Err e) is same =
    same ∙ ap (λ (v : Seen F). record old { volume = v }) (sym (ap (λ (h : Held F J). h.volume) same))

-- nor twice
pub same_twice : {F J : Type 0} (old middle new : Held F J) → middle ≡ record old { volume = middle.volume }
    → new ≡ record middle { volume = new.volume } → new ≡ record old { volume = new.volume }
same_twice {F} {J} old middle new first then =
    then ∙ ap (λ (h : Held F J). record h { volume = new.volume }) first

-- ---- a Sync that is not done

-- an answer that is no other than that a call is done
pub done_is : (answer : Answer) → is_done answer ≡ true → answer ≡ Served Done
done_is (Served Done) is = refl
done_is (Served (Stat number attrs)) is = absurd (cc)
done_is (Served (Bytes bytes)) is = absurd (cc)
done_is (Served (Names names)) is = absurd (cc)
done_is (Denied denial) is = absurd (cc)
done_is (Refused resource) is = absurd (cc)

undone_is : (answer : Answer) → is_done answer ≡ false → answer ≢ Served Done
undone_is answer undone same = never_both (is_done answer) (ap is_done same) undone

-- a Sync that found room in the journal was refused
pub sync_refused : {F : Type 0} (state : F → StoreState) (old inside : Seen F) (caller : Caller) (answer : Answer)
    → inside ≡ old → caller ≡ first_speaker.cred → is_done answer ≡ false
    → (length inside.journal < inside.limit
    → AtPresent state inside (λ w. IsOutcome (state inside.store) w caller Sync answer))
    → length old.journal < old.limit → IsSyncRefused state old
sync_refused {F} state old inside caller answer same who undone outcome = λ room. record {
  why = answer;
  undone = undone_is answer undone;
  caused = subst (λ (v : Seen F). length v.journal < v.limit
      → AtPresent state v (λ w. IsOutcome (state v.store) w first_speaker.cred Sync answer)) same
      (subst (λ (c : Caller). length inside.journal < inside.limit
      → AtPresent state inside (λ w. IsOutcome (state inside.store) w c Sync answer)) who outcome) room;
}

-- the same where entries may have been let go before
pub flush_refused : {F : Type 0} (state : F → StoreState) (old middle : Seen F) → IsLetGo state old middle
    → MayEnter middle → (length middle.journal < middle.limit → IsSyncRefused state middle) → 1 ≤ old.limit
    → IsSyncRefused state old
flush_refused {F} state old middle gone may refused some =
    let why = refused (may (subst (λ (n : ℕ). 1 ≤ n) (sym (gone_limit state old middle gone)) some)) in
    record {
      why = why.why;
      undone = why.undone;
      caused = gone_on state old middle (λ w. IsOutcome (state old.store) w first_speaker.cred Sync why.why) gone
          (subst (λ (s : F). AtPresent state middle (λ w. IsOutcome (state s) w first_speaker.cred Sync why.why))
          (gone_store state old middle gone) why.caused);
    }
