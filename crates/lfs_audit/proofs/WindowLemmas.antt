-- A run whose entries are dropped by and by: `windowed_none`, `windowed_more` and `windowed_run` for `run_windowed`. A
-- line is done on a journal that lost its first entries, and is to be answered as behind all entries so far: both lead
-- to the same world, and both are full together, or neither gets full by this line (`window_agrees`, ShiftLemmas).
-- `dropped_here` tells what `drop_entries` did.
use Rattle.std.proofs.Common.{◌≡◌, ℕ, ◌+◌, ◌<◌, ◌≤◌, inl, inr, List, [], ◌∷◌, ◌++◌, length, Option}
use Rattle.std.proofs.Common.{refl, sym, ap, subst, ◌∙◌, arith, append_assoc, append-nil, length-append}
use Rattle.std.specs.Io.KnownBytes.{Appends, Keeps, append_known}
use Rattle.std.proofs.KnownBytes.{Appends-kept, Appends-trans}
use Rattle.lfs_types.specs.StoreStates.{Shape, StoreState}
use Rattle.lfs_types.specs.Tree.{World}
use Rattle.lfs_model.specs.Counts.{counts_of}
use Rattle.lfs_model.specs.Runs.{kept_step, kept_steps, step_event}
use Rattle.lfs_model.specs.Steps.{IsLegal, world_after}
use Rattle.lfs_model.specs.declared.counts.Counts.{Counts}
use Rattle.lfs_model.specs.declared.journal.Entry.{Entry}
use Rattle.lfs_model.specs.declared.steps.Step.{Step as Made}
use Rattle.lfs_model.specs.declared.steps.StepAnswer.{StepAnswer}
use Rattle.lfs_model.proofs.RunLemmas.{world_after-append}
use Rattle.lfs_sinks.specs.Refusals.{refusals_of, run_report}
use Rattle.lfs_sinks.specs.Sums.{counts_sum}
use Rattle.lfs_sinks.specs.declared.refusals.Refusals.{Refusals}
use Rattle.lfs_sinks.proofs.LegalLemmas.{legal_joined}
use Rattle.lfs_sinks.proofs.SumLemmas.{counts_joined}
use Rattle.lfs_script.specs.declared.plan.Step.{Step}
use Rattle.lfs_volume.specs.Cleanings.{Cleaner}
use Rattle.lfs_volume.specs.Journals.{Begins, IsJournal, Since}
use Rattle.lfs_volume.specs.Seen.{Seen}
use Rattle.lfs_volume.specs.StepRuns.{AreSteps}
use Rattle.lfs_volume.proofs.JournalLemmas.{journal_begins}
use Rattle.lfs_audit.specs.Output.{IsRun}
use Rattle.lfs_audit.specs.Runs.{CountsLine, lines_text}
use Rattle.lfs_audit.specs.Windows.{HasLineRoom, IsDropped, IsWindowed, DropsEntries}
use Rattle.lfs_audit.proofs.RunLemmas.{asked-more, collected, from_start, kept-joined, lines-joined, steps-joined}
use Rattle.lfs_audit.proofs.RunLemmas.{still-begins}
use Rattle.lfs_audit.proofs.FiledLemmas.{asked_few}
use Rattle.lfs_audit.proofs.ShiftLemmas.{Agree, journaled_few, steps_shifted}

-- ---- room

-- steps make one entry each at most
kept_few : (made : List Made) (answers : List StepAnswer) → length (kept_steps made answers) ≤ length made
kept_few [] answers = omega arith
kept_few (s ∷ made) [] = omega arith
kept_few (s ∷ made) (a ∷ answers) =
    omega (
      arith,
      length-append (kept_step s a) (kept_steps made answers),
      journaled_few s.session s.cred (step_event s.act a),
      kept_few made answers,
    )

-- the journal gets full with the one that keeps all entries, or neither does by this line
window_agrees : (limit before entries most left steps more : ℕ) → HasLineRoom entries most left → limit ≡ before + left
    → steps ≤ 105 → more ≤ steps → Agree most limit before entries steps more
window_agrees limit before entries most left steps more (inl exact) whole few fewer =
    inl (omega (arith, exact, whole))
window_agrees limit before entries most left steps more (inr room) whole few fewer =
    inr (omega (arith, room.0, few), omega (arith, room.0, room.1, whole, few, fewer))

-- a journal that has room for a line has it without entries too
pub room_least : (entries limit left : ℕ) → HasLineRoom entries limit left → HasLineRoom 0 limit left
room_least entries limit left (inl exact) = inl exact
room_least entries limit left (inr room) = inr (omega (arith, room.0), room.1)

-- ---- a line

-- no line was done
pub windowed_none : {F : Type 0} (r : Cleaner F) (limit : ℕ) (v : Seen F) (told : Counts) (refusals : Refusals)
    (start : Option (List ℕ)) → v.journal ≡ [] → told ≡ counts_of [] → refusals ≡ refusals_of []
    → Appends start start [] → IsWindowed r limit v v told refusals limit [] start start
windowed_none r limit v told refusals start empty none untold printed = record {
  made = [];
  answers = [];
  dropped = [];
  count = refl;
  asked = (refl, refl);
  entered = sym empty;
  answered = λ from begins. refl;
  leads = λ from begins. (tt, begins);
  shape = refl;
  counted = none;
  refused = untold;
  left_of = omega arith;
  printed = printed;
}

-- a further line was done, its answers' lines were collected, and perhaps a piece was written
windowed_line : {F : Type 0} (r : Cleaner F) (limit : ℕ) (old now new : Seen F) (told : Counts)
    (refusals then : Refusals) (left : ℕ) (steps : List Step) (step : Step) (start known out : Option (List ℕ))
    (text after : List ℕ) → IsWindowed r limit old now told refusals left steps start (append_known known text)
    → HasLineRoom (length now.journal) now.limit left
    → CountsLine r now new refusals then step.session step.cred step.act text after
    → Keeps (append_known known after) out
    → IsWindowed r limit old new told then left (steps ++ step ∷ []) start out
windowed_line {F} r limit old now new told refusals then left steps step start known out text after f room line keeps =
    let tells = line.tells in
    let more = tells.made in
    let others = tells.answers in
    let ran = tells.ran in
    let lines = lines_text f.made f.answers in
    let shape = (r.state old.store).shape in
    let agree : Agree now.limit limit (length f.dropped) (length now.journal) (length more)
    (length (kept_steps more others)) =
    window_agrees limit (length f.dropped) (length now.journal) now.limit left (length more)
    (length (kept_steps more others)) room f.left_of
    (asked_few step.session step.cred step.act more others tells.asked) (kept_few more others) in
    record {
      made = f.made ++ more;
      answers = f.answers ++ others;
      dropped = f.dropped;
      count = length-append f.answers others ∙ ap (λ (n : ℕ). n + length others) f.count
          ∙ ap (λ (n : ℕ). length f.made + n) ran.count ∙ sym (length-append f.made more);
      asked = asked-more steps f.made f.answers step more others f.asked tells.asked;
      entered = kept-joined f.made f.answers more others f.count
          ∙ ap (λ (l : List Entry). l ++ kept_steps more others) f.entered
          ∙ append_assoc f.dropped now.journal (kept_steps more others)
          ∙ ap (λ (l : List Entry). f.dropped ++ l) (sym ran.entered);
      answered = λ from begins.
          steps-joined r limit from [] old.store now.store new.store f.made f.answers more others
          (f.answered from begins)
          (subst (λ (j : List Entry). AreSteps r limit from j now.store more others new.store) (sym f.entered)
          (steps_shifted r now.limit limit from f.dropped now.journal now.store new.store more others shape f.shape
          agree (ran.answered (world_after shape.numbers f.dropped from) (f.leads from begins).1)));
      leads = λ from begins. (
        (f.leads from begins).0,
        still-begins r.state (world_after shape.numbers f.dropped from) now.since new.since now.since_level
            new.since_level ran.since ran.since_level (f.leads from begins).1,
      );
      shape = ran.shape ∙ f.shape;
      counted = f.counted;
      refused = line.counted f.answers f.refused;
      left_of = f.left_of;
      printed = subst (λ (l : List ℕ). Appends start out l) (sym (lines-joined f.made f.answers more others f.count))
          (Appends-kept start (append_known known after) out (lines ++ lines_text more others)
          (collected start known text after lines (lines_text more others) f.printed tells.printed) keeps);
    }

-- the entries were dropped
windowed_dropped : {F : Type 0} (r : Cleaner F) (limit : ℕ) (old now new : Seen F) (told then : Counts)
    (refusals : Refusals) (left rest : ℕ) (steps : List Step) (start known : Option (List ℕ))
    → IsWindowed r limit old now told refusals left steps start known
    → IsDropped r.state now new told then left rest
    → IsWindowed r limit old new then refusals rest steps start known
windowed_dropped {F} r limit old now new told then refusals left rest steps start known f d =
    let all = f.dropped ++ now.journal in
    record {
      made = f.made;
      answers = f.answers;
      dropped = all;
      count = f.count;
      asked = f.asked;
      entered = f.entered ∙ sym (append-nil all) ∙ ap (λ (l : List Entry). all ++ l) (sym d.empty);
      answered = λ from begins.
          subst (λ (s : F). AreSteps r limit from [] old.store f.made f.answers s) (sym d.store)
          (f.answered from begins);
      leads = λ from begins.
          let shape = (r.state old.store).shape in
          let here = world_after shape.numbers f.dropped from in
          let before = f.leads from begins in
          let then = subst (λ (s : Shape). IsLegal s.numbers s.segments now.journal here
          × Begins (r.state new.since) new.since_level (world_after s.numbers now.journal here)) f.shape
          (d.leads here before.1) in (
            legal_joined shape.numbers shape.segments f.dropped now.journal from before.0 then.0,
            subst (λ (w : World). Begins (r.state new.since) new.since_level w)
                (sym (world_after-append shape.numbers f.dropped now.journal from)) then.1,
          );
      shape = ap (λ (s : F). (r.state s).shape) d.store ∙ f.shape;
      counted = d.counted ∙ ap (λ (c : Counts). counts_sum c (counts_of now.journal)) f.counted
          ∙ counts_joined f.dropped now.journal;
      refused = f.refused;
      left_of = omega (arith, f.left_of, d.parted, length-append f.dropped now.journal);
      printed = f.printed;
    }

windowed_moved : {F : Type 0} (r : Cleaner F) (limit : ℕ) (old now new : Seen F) (told then : Counts)
    (refusals : Refusals) (left rest : ℕ) (steps : List Step) (start known : Option (List ℕ))
    → IsWindowed r limit old now told refusals left steps start known → DropsEntries r.state now new told then left rest
    → IsWindowed r limit old new then refusals rest steps start known
windowed_moved r limit old now new told then refusals left rest steps start known f (inl dropped) =
    windowed_dropped r limit old now new told then refusals left rest steps start known f dropped
windowed_moved {F} r limit old now new told then refusals left rest steps start known f (inr same) =
    subst (λ (v : Seen F). IsWindowed r limit old v then refusals rest steps start known) (sym same.0)
    (subst (λ (c : Counts). IsWindowed r limit old now c refusals rest steps start known) (sym same.1)
    (subst (λ (n : ℕ). IsWindowed r limit old now told refusals n steps start known) (sym same.2) f))

-- a further line was done, and what it entered moved on
pub windowed_more : {F : Type 0} (r : Cleaner F) (limit : ℕ) (old now middle new : Seen F) (told later : Counts)
    (refusals then last : Refusals) (left rest : ℕ) (steps : List Step) (step : Step)
    (start known out : Option (List ℕ)) (text after : List ℕ)
    → IsWindowed r limit old now told refusals left steps start (append_known known text)
    → HasLineRoom (length now.journal) now.limit left
    → CountsLine r now middle refusals then step.session step.cred step.act text after
    → DropsEntries r.state middle new told later left rest → last ≡ then → Keeps (append_known known after) out
    → IsWindowed r limit old new later last rest (steps ++ step ∷ []) start out
windowed_more r limit old now middle new told later refusals then last left rest steps step start known out text after f
    room line moves same keeps =
    subst (λ (c : Refusals). IsWindowed r limit old new later c rest (steps ++ step ∷ []) start out) (sym same)
    (windowed_moved r limit old middle new told later then left rest (steps ++ step ∷ []) start out
    (windowed_line r limit old now middle told refusals then left steps step start known out text after f room line
    keeps) moves)

-- the lines that were done are all of the plan
pub windowed_all : {F : Type 0} (r : Cleaner F) (limit : ℕ) (old now : Seen F) (told : Counts) (refusals : Refusals)
    (left : ℕ) (steps all : List Step) (start known : Option (List ℕ)) → steps ≡ all
    → IsWindowed r limit old now told refusals left steps start known
    → IsWindowed r limit old now told refusals left all start known
windowed_all r limit old now told refusals left steps all start known is f =
    subst (λ (l : List Step). IsWindowed r limit old now told refusals left l start known) is f

-- ---- the whole run

-- the lines of a plan were done, and all is written
pub windowed_run : {F : Type 0} (r : Cleaner F) (limit : ℕ) (old now : Seen F) (told : Counts) (refusals : Refusals)
    (left : ℕ) (steps : List Step) (empty text : List ℕ) (start known out : Option (List ℕ)) → empty ≡ []
    → IsWindowed r limit old now told refusals left steps (append_known start empty) (append_known known text)
    → Since (r.state now.since) now.since_level
    (λ from. IsLegal (r.state now.store).shape.numbers (r.state now.store).shape.segments now.journal from)
    → ((dropped : List Entry) (answers : List StepAnswer) → told ≡ counts_of dropped → refusals ≡ refusals_of answers
    → Appends (append_known known text) out (run_report (dropped ++ now.journal) answers))
    → (all : List ℕ) × IsRun r (Begins (r.state old.since) old.since_level) limit old.store steps all
    × Appends start out all
windowed_run {F} r limit old now told refusals left steps empty text start known out nothing f legal reported =
    let shape = (r.state old.store).shape in
    let entries = kept_steps f.made f.answers in
    let lines = lines_text f.made f.answers in
    let from_empty : Appends (append_known start []) (append_known known text) lines =
    subst (λ (e : List ℕ). Appends (append_known start e) (append_known known text) lines) nothing f.printed in
    let report : Appends (append_known known text) out (run_report entries f.answers) =
    subst (λ (l : List Entry). Appends (append_known known text) out (run_report l f.answers)) (sym f.entered)
    (reported f.dropped f.answers f.counted f.refused) in (
      lines ++ run_report entries f.answers,
      record {
        made = f.made;
        answers = f.answers;
        after = now.store;
        asked = f.asked;
        answered = f.answered;
        legal = λ from begins.
            let leads = f.leads from begins in
            let here = world_after shape.numbers f.dropped from in
            subst (λ (l : List Entry). IsLegal shape.numbers shape.segments l from) (sym f.entered)
            (legal_joined shape.numbers shape.segments f.dropped now.journal from leads.0
            (subst (λ (s : Shape). IsLegal s.numbers s.segments now.journal here) f.shape (legal here leads.1)));
        printed = refl;
      },
      from_start start out (lines ++ run_report entries f.answers)
          (Appends-trans (append_known start []) (append_known known text) out lines (run_report entries f.answers)
          from_empty report),
    )

-- ---- what moving on does

-- a drained volume, whose journal may then have as many as before or fewer, has dropped its entries
pub dropped_here : {F : Type 0} (state : F → StoreState) (old new : Seen F) (told then : Counts) (left rest : ℕ)
    → new.store ≡ old.store → new.journal ≡ [] → new.since ≡ old.store → new.since_level ≡ old.level
    → Since (state old.since) old.since_level (λ from. IsJournal from (state old.store) old.level old.journal old.limit)
    → then ≡ counts_sum told (counts_of old.journal) → left ≡ length old.journal + rest
    → IsDropped state old new told then left rest
dropped_here state old new told then left rest store empty since level kept counted whole = record {
  store = store;
  empty = empty;
  leads = λ from begins. (
    (kept from begins).legal,
    still-begins state (world_after (state old.store).shape.numbers old.journal from) old.store new.since old.level
        new.since_level since level
        (journal_begins from (state old.store) old.level old.journal old.limit (kept from begins)),
  );
  counted = counted;
  parted = whole;
}
