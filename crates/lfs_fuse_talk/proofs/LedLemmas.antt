-- All entries since a mount began are a legal run, those that were handed out, or let go, and those that its journal has.
-- What was handed out is a legal run to where the journal begins now, and the journal is one from there to the tree that is
-- shown, as each message and each rest keep it so. Where entries are handed out, the two are joined, and the next begins
-- where they end.
use Rattle.std.proofs.Common.{◌≡◌, ℕ, ◌⊎◌, inl, inr, List, [], ◌∷◌, ◌++◌, Option, None, Some, refl, sym}
use Rattle.std.proofs.Common.{subst, ◌∙◌, arith}
use Rattle.lfs_types.specs.StoreStates.{Shape, StoreState}
use Rattle.lfs_types.specs.Tree.{World}
use Rattle.lfs_types.specs.declared.level.Level.{Level}
use Rattle.lfs_model.specs.declared.journal.Entry.{Entry}
use Rattle.lfs_model.specs.Steps.{IsLegal, world_after}
use Rattle.lfs_model.proofs.RunLemmas.{world_after-append}
use Rattle.lfs_volume.specs.Journals.{Begins, IsJournal, Since}
use Rattle.lfs_volume.specs.Seen.{Seen}
use Rattle.lfs_sinks.proofs.LegalLemmas.{legal_joined}
use Rattle.lfs_fuse_wire.specs.Header.{header_in}
use Rattle.lfs_fuse_wire.specs.declared.header.Header.{Header}
use Rattle.lfs_mount.specs.Runs.{GoesOn, IsRun, LeadTo}
use Rattle.lfs_mount.specs.Tending.{closed, let_go}
use Rattle.lfs_fuse_talk.specs.Filing.{MovesOn}
use Rattle.lfs_fuse_talk.specs.Serving.{Course, HasRested, IsKeptWith, IsLostWith, IsServedOf, Server, serving}
use Rattle.lfs_fuse_talk.specs.Talking.{AreAnswered}

-- Entries that were handed out are a legal run from where the journal of a volume began to where that of another begins,
-- which is a legal run from there.
pub record HasLed {F : Type 0} (state : F → StoreState) (base now : Seen F) (handed : List Entry) : Type 0 where
  pub led : Since (state base.since) base.since_level (λ from.
      let shape = (state base.store).shape in
      IsLegal shape.numbers shape.segments handed from
      × Begins (state now.since) now.since_level (world_after shape.numbers handed from))
  pub shape : (state now.store).shape ≡ (state base.store).shape
  pub run : IsRun state now

module _ {F : Type 0} (state : F → StoreState) where
  -- a journal without entries, which began as the volume is now
  empty_run : (v : Seen F) → v.journal ≡ [] → v.since ≡ v.store → v.since_level ≡ v.level → IsRun state v
  empty_run v empty since since_level = λ from begins.
      let here = subst (λ (s : F). Begins (state s) v.level from) since
      (subst (λ (l : Level). Begins (state v.since) l from) since_level begins) in
      subst (λ (es : List Entry). IsJournal from (state v.store) v.level es v.limit) (sym empty) (record {
        legal = tt;
        shown = here.shown;
        at_level = here.at_level;
        within = omega arith;
        space = λ none. tt;
      })

  pub led_first : (base : Seen F) → base.journal ≡ [] → base.since ≡ base.store → base.since_level ≡ base.level
      → HasLed state base base []
  led_first base empty since since_level = record {
    led = λ from begins. (tt, begins);
    shape = refl;
    run = empty_run base empty since since_level;
  }

  led_on : (base now passing : Seen F) (handed : List Entry) → HasLed state base now handed → GoesOn state now passing
      → HasLed state base passing handed
  led_on base now passing handed has goes = record {
    led = λ from begins.
        let shape = (state base.store).shape in
        let before = has.led from begins in
        let here = world_after shape.numbers handed from in (
          before.0,
          subst (λ (s : F). Begins (state s) passing.since_level here) (sym goes.since)
              (subst (λ (l : Level). Begins (state now.since) l here) (sym goes.since_level) before.1),
        );
    shape = goes.shape ∙ has.shape;
    run = goes.legal has.run;
  }

  -- the entries that were handed out and those of the journal
  pub led_to : (base now : Seen F) (handed : List Entry) → HasLed state base now handed
      → LeadTo state base (handed ++ now.journal) now
  led_to base now handed has = λ from begins.
      let numbers = (state base.store).shape.numbers in
      let segments = (state base.store).shape.segments in
      let before = has.led from begins in
      let here = world_after numbers handed from in
      let journal = has.run here before.1 in (
        legal_joined numbers segments handed now.journal from before.0
            (subst (λ (s : Shape). IsLegal s.numbers s.segments now.journal here) has.shape journal.legal),
        subst (λ (w : World). Begins (state now.store) now.level w) (sym (world_after-append numbers handed now.journal from))
            (subst (λ (s : Shape). Begins (state now.store) now.level (world_after s.numbers now.journal here)) has.shape
            (record { shown = journal.shown; at_level = journal.at_level })),
      )

  led_moved : (base passing after : Seen F) (handed then : List Entry) → HasLed state base passing handed
      → MovesOn handed passing then after → HasLed state base after then
  led_moved base passing after handed then has (inl stays) =
      subst (λ (v : Seen F). HasLed state base v then) (sym stays.1)
      (subst (λ (es : List Entry). HasLed state base passing es) (sym stays.0) has)
  led_moved base passing after handed then has (inr out) =
      subst (λ (v : Seen F). HasLed state base v then) (sym out.1)
      (subst (λ (es : List Entry). HasLed state base (let_go passing) es) (sym out.0) (record {
        led = led_to base passing handed has;
        shape = has.shape;
        run = empty_run (let_go passing) refl refl refl;
      }))

  led_shut : (base passing after : Seen F) (handed then : List Entry) → HasLed state base passing handed → then ≡ handed
      → after ≡ closed passing → HasLed state base after then
  led_shut base passing after handed then has same shut =
      subst (λ (v : Seen F). HasLed state base v then) (sym shut)
      (subst (λ (es : List Entry). HasLed state base (closed passing) es) (sym same) (record {
        led = has.led;
        shape = has.shape;
        run = λ from begins.
            let journal = has.run from begins in
            record {
              legal = journal.legal;
              shown = journal.shown;
              at_level = journal.at_level;
              within = omega arith;
              space = journal.space;
            };
      }))

-- ---- a talk

module _ {F P W : Type 0} (contents : W → Option (List ℕ)) (first : Option (List ℕ)) (r : Server F P)
    (base : Seen F) where
  abbrev pub IsLed : Course F P W → Type 0
  IsLed course = HasLed r.state base course.served.mount.tree.volume course.handed

  led_either : (header : Header) (old new : Course F P W) (passing : Seen F) (made reply : List ℕ)
      → HasLed r.state base passing old.handed
      → IsKeptWith old passing made reply new ⊎ IsLostWith header.unique old passing made reply new → IsLed new
  led_either header old new passing made reply has (inl kept) =
      led_moved r.state base passing new.served.mount.tree.volume old.handed new.handed has kept.moves
  led_either header old new passing made reply has (inr lost) =
      led_shut r.state base passing new.served.mount.tree.volume old.handed new.handed has lost.handed lost.volume

  led_served : (o : Option Header) (old new : Course F P W) (message reply : List ℕ)
      → IsServedOf contents first r o old message reply new → IsLed old → IsLed new
  led_served None old new message reply served stays = subst IsLed (sym served.1) stays
  led_served (Some header) old new message reply entered stays =
      led_either header old new entered.passing entered.made reply
      (led_on r.state base old.served.mount.tree.volume entered.passing old.handed stays entered.goes_on) entered.kept

  led_or_shut : (old new : Course F P W) (passed : Seen F) → HasLed r.state base passed old.handed
      → MovesOn old.handed passed new.handed new.served.mount.tree.volume
      ⊎ ((new.handed ≡ old.handed) × (new.served.mount.tree.volume ≡ closed passed)) → IsLed new
  led_or_shut old new passed has (inl moves) =
      led_moved r.state base passed new.served.mount.tree.volume old.handed new.handed has moves
  led_or_shut old new passed has (inr shut) =
      led_shut r.state base passed new.served.mount.tree.volume old.handed new.handed has shut.0 shut.1

  led_rested : (old new : Course F P W) → HasRested contents first r.state old new → IsLed old → IsLed new
  led_rested old new rested stays =
      led_or_shut old new rested.passed
      (led_on r.state base old.served.mount.tree.volume rested.passed old.handed stays rested.goes_on) rested.moves

  pub led_all : (old new : Course F P W) (messages replies : List (List ℕ))
      → AreAnswered (serving contents first r) old messages replies new → IsLed old → IsLed new
  led_all old new [] [] same stays = subst IsLed (sym same) stays
  led_all old new [] (reply ∷ replies) none stays = absurd none
  led_all old new (message ∷ messages) [] none stays = absurd none
  led_all old new (message ∷ messages) (reply ∷ replies) answered stays =
      led_all answered.1 new messages replies answered.5
      (led_rested answered.0 answered.1 answered.4
      (led_served (header_in message) old answered.0 message reply answered.3 stays))
