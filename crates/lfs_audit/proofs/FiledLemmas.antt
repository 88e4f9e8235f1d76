-- A run whose entries go to a sink grows line by line: `filing_none`, `filing_more` and `filed_run` for
-- `FiledVolume::run_plan`; `handed_on`, `shut_on` and `stays_on` for `move_on`. `IsFiling` parts the lines in those
-- that were done while the sink took entries, whose entries are those handed out and those still in the journal, and
-- those behind. The hard part is that each line is done on a journal that begins anew, and is to be answered as behind
-- all entries so far (`answered_more`): both lead to the same world, and a line makes at most 105 calls, for which the
-- new journal has room (`Agree` of ShiftLemmas). Once the sink takes no more the journal is at its limit, so nothing is
-- entered behind (`none_more`).
use Rattle.std.proofs.Common.{◌≡◌, ℕ, ◌+◌, ◌<◌, ◌≤◌, ◌⊎◌, inl, inr, Bool, true, false, List, [], ◌∷◌, ◌++◌, length}
use Rattle.std.proofs.Common.{Result, Ok, Err, OnOk, Option, None, Some, refl, sym, ap, subst, ◌∙◌, arith, append_assoc, append-nil}
use Rattle.std.proofs.Common.{length-append}
use Rattle.std.specs.Io.KnownBytes.{Appends, Keeps, append_known}
use Rattle.std.proofs.KnownBytes.{Appends-kept, Appends-nil, Appends-trans}
use Rattle.lfs_types.specs.Caller.{Caller}
use Rattle.lfs_types.specs.StoreStates.{Shape, StoreState}
use Rattle.lfs_types.specs.Tree.{World}
use Rattle.lfs_model.specs.Counts.{counts_of}
use Rattle.lfs_model.specs.Runs.{kept_steps}
use Rattle.lfs_model.specs.Steps.{IsLegal, world_after}
use Rattle.lfs_model.specs.declared.counts.Counts.{Counts}
use Rattle.lfs_model.specs.declared.journal.Entry.{Entry}
use Rattle.lfs_model.specs.declared.steps.Step.{Step as Made}
use Rattle.lfs_model.specs.declared.steps.StepAnswer.{StepAnswer}
use Rattle.lfs_model.proofs.RunLemmas.{world_after-append}
use Rattle.lfs_sinks.specs.Refusals.{AddsUp, refusals_of, run_report}
use Rattle.lfs_sinks.specs.declared.refusals.Refusals.{Refusals}
use Rattle.lfs_script.specs.declared.plan.Act.{Act}
use Rattle.lfs_script.specs.declared.plan.Act.TheVariants as plan
use Rattle.lfs_script.specs.declared.plan.Step.{Step}
use Rattle.lfs_sinks.specs.Numbered.{numbered_text}
use Rattle.lfs_sinks.specs.Sums.{counts_sum}
use Rattle.lfs_sinks.proofs.NumberedLemmas.{numbered-joined}
use Rattle.lfs_sinks.proofs.SumLemmas.{counts_joined}
use Rattle.lfs_volume.specs.Cleanings.{Cleaner}
use Rattle.lfs_volume.specs.Journals.{Begins, Since}
use Rattle.lfs_volume.specs.Seen.{Seen}
use Rattle.lfs_volume.specs.StepRuns.{AreSteps}
use Rattle.lfs_audit.specs.FiledRuns.{IsFiledRun}
use Rattle.lfs_audit.specs.Filing.{Filed, FilesLine, IsBegun, IsHandedOut, IsShut, LeadsOn, MovesOn, Takes, closed, drained}
use Rattle.lfs_audit.specs.Runs.{AreAsked, CountsLine, IsAsked, Runs, TellsLine, lines_text}
use Rattle.lfs_audit.proofs.RunLemmas.{asked-more, collected, kept-joined, lines-joined, runs_joined, runs_none}
use Rattle.lfs_audit.proofs.RunLemmas.{steps-joined, still-begins}
use Rattle.lfs_audit.proofs.ShiftLemmas.{Agree, none_entered, steps_shifted}
use Rattle.lfs_sinks.proofs.LegalLemmas.{legal_joined}

-- ---- what a sink took

-- a sink that took nothing
pub takes_none : {J : Type 0} (contents : J → Option (List ℕ)) (next : J → ℕ) (j : J) → Takes contents next j j []
takes_none contents next j = record { lines = Appends-nil (contents j); numbered = omega arith }

-- a sink that took more
pub takes_more : {J : Type 0} (contents : J → Option (List ℕ)) (next : J → ℕ) (old middle new : J)
    (entries more : List Entry) → Takes contents next old middle entries → Takes contents next middle new more
    → Takes contents next old new (entries ++ more)
takes_more contents next old middle new entries more first then = record {
  lines = subst (λ (l : List ℕ). Appends (contents old) (contents new) l)
      (sym (numbered-joined (next old) entries more))
      (Appends-trans (contents old) (contents middle) (contents new) (numbered_text (next old) entries)
      (numbered_text (next old + length entries) more) first.lines
      (subst (λ (n : ℕ). Appends (contents middle) (contents new) (numbered_text n more)) first.numbered then.lines));
  numbered = omega (arith, first.numbered, then.numbered, length-append entries more);
}

-- ---- where a run stands

-- a run whose sink takes more: all lines so far are done, the journal is empty, and the sink took what was handed out
pub record IsOpen {F J : Type 0} (contents : J → Option (List ℕ)) (next : J → ℕ) (old now : Filed F J)
    (steps first rest : List Step) (refused : List Made) (refusals : List StepAnswer) (middle : Seen F)
    (handed : List Entry) : Type 0 where
  pub only : first ≡ steps
  pub none : rest ≡ []
  pub no_calls : refused ≡ []
  pub no_answers : refusals ≡ []
  pub here : now.volume ≡ middle
  pub empty : middle.journal ≡ []
  pub room : 105 ≤ middle.limit
  pub taken : Takes contents next old.sink now.sink handed

-- Lines were done: the first while the sink took entries, which led to this volume, the rest behind that. These entries
-- were handed out.
pub record IsFiling {F J : Type 0} (r : Cleaner F) (contents : J → Option (List ℕ)) (next : J → ℕ)
    (old now : Filed F J) (steps : List Step) (start known : Option (List ℕ)) : Type 0 where
  pub first : List Step
  pub rest : List Step
  pub made : List Made
  pub answers : List StepAnswer
  pub refused : List Made
  pub refusals : List StepAnswer
  pub middle : Seen F
  pub handed : List Entry
  pub parted : steps ≡ first ++ rest
  pub count : length answers ≡ length made
  pub asked : AreAsked first made answers
  pub asked_then : AreAsked rest refused refusals
  pub entered : kept_steps made answers ≡ handed ++ middle.journal
  pub answered : (limit : ℕ) → length (kept_steps made answers) < limit
      → Since (r.state old.volume.since) old.volume.since_level
      (λ from. AreSteps r limit from [] old.volume.store made answers middle.store)
  pub leads : Since (r.state old.volume.since) old.volume.since_level (λ from.
      let shape = (r.state old.volume.store).shape in
      IsLegal shape.numbers shape.segments handed from
      × Begins (r.state middle.since) middle.since_level (world_after shape.numbers handed from))
  pub shape : (r.state middle.store).shape ≡ (r.state old.volume.store).shape
  pub ran : Runs r middle now.volume refused refusals
  pub counted : now.told ≡ counts_of handed
  pub refused_so : now.refusals ≡ refusals_of (answers ++ refusals)
  pub opened : now.is_open ≡ true → IsOpen contents next old now steps first rest refused refusals middle handed
  pub shut : now.is_open ≡ false → middle.limit ≡ length middle.journal
  pub printed : Appends start known (lines_text made answers ++ lines_text refused refusals)

both : (b : Bool) → b ≡ true → b ≡ false → ⊥
both b is not = absurd (cc)

-- nothing was collected
pub nothing_yet : (start : Option (List ℕ)) (text : List ℕ) → text ≡ [] → Appends start (append_known start text) []
nothing_yet None text none = tt
nothing_yet (Some x) text none = ap (λ (l : List ℕ). x ++ l) none

-- no line was done
pub filing_none : {F J : Type 0} (r : Cleaner F) (contents : J → Option (List ℕ)) (next : J → ℕ) (old : Filed F J)
    (start known : Option (List ℕ)) → IsBegun r.state old → Appends start known []
    → IsFiling r contents next old old [] start known
filing_none r contents next old start known begun printed = record {
  first = [];
  rest = [];
  made = [];
  answers = [];
  refused = [];
  refusals = [];
  middle = old.volume;
  handed = [];
  parted = refl;
  count = refl;
  asked = (refl, refl);
  asked_then = (refl, refl);
  entered = sym begun.empty;
  answered = λ limit less from begins. refl;
  leads = λ from begins. (tt, begins);
  shape = refl;
  ran = runs_none r old.volume;
  counted = begun.untold;
  refused_so = begun.unrefused;
  opened = λ _. record {
    only = refl;
    none = refl;
    no_calls = refl;
    no_answers = refl;
    here = refl;
    empty = begun.empty;
    room = begun.room;
    taken = takes_none contents next old.sink;
  };
  shut = λ not. absurd (both old.is_open begun.opened not);
  printed = printed;
}

-- ---- a line while the sink takes entries

-- a line makes few calls
pub asked_few : (session : ℕ) (caller : Caller) (act : Act) (made : List Made) (answers : List StepAnswer)
    → IsAsked session caller act made answers → length made ≤ 105
asked_few session caller (plan.User request) made answers asked = omega (arith, ap length asked.1)
asked_few session caller (plan.Cleaner call) made answers asked = omega (arith, ap length asked.1)
asked_few session caller plan.Pass made answers asked = asked.few

-- what a further line leaves, before its entries move on
record IsGrown {F J : Type 0} (r : Cleaner F) (old : Filed F J) (steps : List Step) (middle : Seen F)
    (handed : List Entry) (made : List Made) (answers : List StepAnswer)
    (start left : Option (List ℕ)) : Type 0 where
  pub count : length answers ≡ length made
  pub asked : AreAsked steps made answers
  pub entered : kept_steps made answers ≡ handed ++ middle.journal
  pub answered : (limit : ℕ) → length (kept_steps made answers) < limit
      → Since (r.state old.volume.since) old.volume.since_level
      (λ from. AreSteps r limit from [] old.volume.store made answers middle.store)
  pub leads : Since (r.state old.volume.since) old.volume.since_level (λ from.
      let shape = (r.state old.volume.store).shape in
      IsLegal shape.numbers shape.segments handed from
      × Begins (r.state middle.since) middle.since_level (world_after shape.numbers handed from))
  pub shape : (r.state middle.store).shape ≡ (r.state old.volume.store).shape
  pub room : 105 ≤ middle.limit
  pub printed : Appends start left (lines_text made answers)

-- the further calls are answered as behind all entries so far
answered_more : {F J : Type 0} (r : Cleaner F) (contents : J → Option (List ℕ)) (next : J → ℕ) (old now : Filed F J)
    (steps : List Step) (start known : Option (List ℕ)) (f : IsFiling r contents next old now steps start known)
    (v : Seen F) (more : List Made) (others : List StepAnswer) → f.middle.journal ≡ [] → 105 ≤ f.middle.limit
    → length more ≤ 105 → Runs r f.middle v more others → (limit : ℕ)
    → length (kept_steps (f.made ++ more) (f.answers ++ others)) < limit
    → Since (r.state old.volume.since) old.volume.since_level
    (λ from. AreSteps r limit from [] old.volume.store (f.made ++ more) (f.answers ++ others) v.store)
answered_more {F} r contents next old now steps start known f v more others empty room few ran limit less =
    λ from begins.
    let shape = (r.state old.volume.store).shape in
    let whole : length (kept_steps (f.made ++ more) (f.answers ++ others)) ≡ length (kept_steps f.made f.answers)
    + length (kept_steps more others) =
    ap length (kept-joined f.made f.answers more others f.count)
    ∙ length-append (kept_steps f.made f.answers) (kept_steps more others) in
    let count : length (kept_steps f.made f.answers) ≡ length f.handed + length f.middle.journal =
    ap length f.entered ∙ length-append f.handed f.middle.journal in
    let none : length f.middle.journal ≡ 0 = ap length empty in
    let before : length (kept_steps f.made f.answers) < limit = omega (arith, less, whole) in
    let agree : Agree f.middle.limit limit (length f.handed) (length f.middle.journal) (length more)
    (length (kept_steps more others)) =
    inr (omega (arith, none, few, room), omega (arith, less, whole, count)) in
    steps-joined r limit from [] old.volume.store f.middle.store v.store f.made f.answers more others
    (f.answered limit before from begins)
    (subst (λ (j : List Entry). AreSteps r limit from j f.middle.store more others v.store) (sym f.entered)
    (steps_shifted r f.middle.limit limit from f.handed f.middle.journal f.middle.store v.store more others shape
    f.shape agree (ran.answered (world_after shape.numbers f.handed from) (f.leads from begins).1)))

grown : {F J : Type 0} (r : Cleaner F) (contents : J → Option (List ℕ)) (next : J → ℕ) (old now : Filed F J)
    (steps : List Step) (step : Step) (start known left : Option (List ℕ)) (text after : List ℕ)
    (f : IsFiling r contents next old now steps start (append_known known text))
    (v : Seen F) (tells : TellsLine r now.volume v step.session step.cred step.act text after)
    → IsOpen contents next old now steps f.first f.rest f.refused f.refusals f.middle f.handed
    → Keeps (append_known known after) left
    → IsGrown r old (steps ++ step ∷ []) v f.handed (f.made ++ tells.made) (f.answers ++ tells.answers) start left
grown {F} r contents next old now steps step start known left text after f v tells taking keeps =
    let more = tells.made in
    let others = tells.answers in
    let ran : Runs r f.middle v more others = subst (λ (u : Seen F). Runs r u v more others) taking.here tells.ran in
    let few = asked_few step.session step.cred step.act more others tells.asked in
    let lines = lines_text f.made f.answers in
    let so_far : Appends start (append_known known text) lines =
    subst (λ (l : List ℕ). Appends start (append_known known text) l) (append-nil lines)
    (subst (λ (m : List Made). Appends start (append_known known text) (lines ++ lines_text m [])) taking.no_calls
    (subst (λ (a : List StepAnswer). Appends start (append_known known text) (lines ++ lines_text f.refused a))
    taking.no_answers f.printed)) in
    record {
      count = length-append f.answers others ∙ ap (λ (n : ℕ). n + length others) f.count
          ∙ ap (λ (n : ℕ). length f.made + n) ran.count ∙ sym (length-append f.made more);
      asked = asked-more steps f.made f.answers step more others
          (subst (λ (l : List Step). AreAsked l f.made f.answers) taking.only f.asked) tells.asked;
      entered = kept-joined f.made f.answers more others f.count
          ∙ ap (λ (l : List Entry). l ++ kept_steps more others) f.entered
          ∙ append_assoc f.handed f.middle.journal (kept_steps more others)
          ∙ ap (λ (l : List Entry). f.handed ++ l) (sym ran.entered);
      answered = answered_more r contents next old now steps start (append_known known text) f v more others taking.empty
          taking.room few ran;
      leads = λ from begins. (
        (f.leads from begins).0,
        still-begins r.state (world_after (r.state old.volume.store).shape.numbers f.handed from) f.middle.since
            v.since f.middle.since_level v.since_level ran.since ran.since_level (f.leads from begins).1,
      );
      shape = ran.shape ∙ f.shape;
      room = subst (λ (n : ℕ). 105 ≤ n) (sym ran.limit) taking.room;
      printed = subst (λ (l : List ℕ). Appends start left l)
          (sym (lines-joined f.made f.answers more others f.count))
          (Appends-kept start (append_known known after) left (lines ++ lines_text more others)
          (collected start known text after lines (lines_text more others) so_far tells.printed) keeps);
    }

-- the entries of the line were handed out
filing_handed : {F J : Type 0} (r : Cleaner F) (contents : J → Option (List ℕ)) (next : J → ℕ)
    (old now new : Filed F J) (steps : List Step) (v : Seen F) (handed : List Entry) (made : List Made)
    (answers : List StepAnswer) (counts : Refusals) (start left : Option (List ℕ)) → now.is_open ≡ true
    → now.told ≡ counts_of handed → counts ≡ refusals_of (answers ++ [])
    → Takes contents next old.sink now.sink handed → IsGrown r old steps v handed made answers start left
    → IsHandedOut r.state contents next (record now { volume = v; refusals = counts }) new
    → IsFiling r contents next old new steps start left
filing_handed {F} {J} r contents next old now new steps v handed made answers counts start left taking counted refused
    taken g out =
    let all = handed ++ v.journal in
    let volume : new.volume ≡ drained v = ap (λ (f : Filed F J). f.volume) out.is in
    let opened : new.is_open ≡ true = ap (λ (f : Filed F J). f.is_open) out.is ∙ taking in
    record {
      first = steps;
      rest = [];
      made = made;
      answers = answers;
      refused = [];
      refusals = [];
      middle = drained v;
      handed = all;
      parted = sym (append-nil steps);
      count = g.count;
      asked = g.asked;
      asked_then = (refl, refl);
      entered = g.entered ∙ sym (append-nil all);
      answered = g.answered;
      leads = λ from begins.
          let shape = (r.state old.volume.store).shape in
          let here = world_after shape.numbers handed from in
          let before = g.leads from begins in
          let then = subst (λ (s : Shape). IsLegal s.numbers s.segments v.journal here
          × Begins (r.state new.volume.since) new.volume.since_level (world_after s.numbers v.journal here)) g.shape
          (out.leads here before.1) in
          let begun = subst (λ (u : Seen F). Begins (r.state u.since) u.since_level
          (world_after shape.numbers v.journal here)) volume then.1 in (
            legal_joined shape.numbers shape.segments handed v.journal from before.0 then.0,
            subst (λ (w : World). Begins (r.state v.store) v.level w)
                (sym (world_after-append shape.numbers handed v.journal from)) begun,
          );
      shape = g.shape;
      ran = subst (λ (u : Seen F). Runs r (drained v) u [] []) (sym volume) (runs_none r (drained v));
      counted = ap (λ (f : Filed F J). f.told) out.is
          ∙ ap (λ (c : Counts). counts_sum c (counts_of v.journal)) counted ∙ counts_joined handed v.journal;
      refused_so = ap (λ (f : Filed F J). f.refusals) out.is ∙ refused;
      opened = λ _. record {
        only = refl;
        none = refl;
        no_calls = refl;
        no_answers = refl;
        here = volume;
        empty = refl;
        room = g.room;
        taken = takes_more contents next old.sink now.sink new.sink handed v.journal taken out.taken;
      };
      shut = λ not. absurd (both new.is_open opened not);
      printed = subst (λ (l : List ℕ). Appends start left l) (sym (append-nil (lines_text made answers))) g.printed;
    }

-- the sink takes no more
filing_shut : {F J : Type 0} (r : Cleaner F) (contents : J → Option (List ℕ)) (next : J → ℕ)
    (old now new : Filed F J) (steps : List Step) (v : Seen F) (handed : List Entry) (made : List Made)
    (answers : List StepAnswer) (counts : Refusals) (start left : Option (List ℕ)) → now.told ≡ counts_of handed
    → counts ≡ refusals_of (answers ++ [])
    → IsGrown r old steps v handed made answers start left
    → IsShut (record now { volume = v; refusals = counts }) new
    → IsFiling r contents next old new steps start left
filing_shut {F} {J} r contents next old now new steps v handed made answers counts start left counted refused g is =
    let volume : new.volume ≡ closed v = ap (λ (f : Filed F J). f.volume) is in
    let shuts : new.is_open ≡ false = ap (λ (f : Filed F J). f.is_open) is in
    record {
      first = steps;
      rest = [];
      made = made;
      answers = answers;
      refused = [];
      refusals = [];
      middle = closed v;
      handed = handed;
      parted = sym (append-nil steps);
      count = g.count;
      asked = g.asked;
      asked_then = (refl, refl);
      entered = g.entered;
      answered = g.answered;
      leads = g.leads;
      shape = g.shape;
      ran = subst (λ (u : Seen F). Runs r (closed v) u [] []) (sym volume) (runs_none r (closed v));
      counted = ap (λ (f : Filed F J). f.told) is ∙ counted;
      refused_so = ap (λ (f : Filed F J). f.refusals) is ∙ refused;
      opened = λ taking. absurd (both new.is_open taking shuts);
      shut = λ _. refl;
      printed = subst (λ (l : List ℕ). Appends start left l) (sym (append-nil (lines_text made answers))) g.printed;
    }

-- ---- a line behind that

filing_on : {F J : Type 0} (r : Cleaner F) (contents : J → Option (List ℕ)) (next : J → ℕ) (old now : Filed F J)
    (steps : List Step) (step : Step) (start known left : Option (List ℕ)) (text after : List ℕ) (v : Seen F)
    (counts : Refusals) → now.is_open ≡ false → IsFiling r contents next old now steps start (append_known known text)
    → (tells : TellsLine r now.volume v step.session step.cred step.act text after)
    → AddsUp now.refusals counts tells.answers → Keeps (append_known known after) left
    → IsFiling r contents next old (record now { volume = v; refusals = counts }) (steps ++ step ∷ []) start left
filing_on {F} {J} r contents next old now steps step start known left text after v counts shuts f tells counted keeps =
    let more = tells.made in
    let others = tells.answers in
    let lines = lines_text f.made f.answers in
    let refusals = lines_text f.refused f.refusals in
    record {
      first = f.first;
      rest = f.rest ++ step ∷ [];
      made = f.made;
      answers = f.answers;
      refused = f.refused ++ more;
      refusals = f.refusals ++ others;
      middle = f.middle;
      handed = f.handed;
      parted = ap (λ (l : List Step). l ++ step ∷ []) f.parted ∙ append_assoc f.first f.rest (step ∷ []);
      count = f.count;
      asked = f.asked;
      asked_then = asked-more f.rest f.refused f.refusals step more others f.asked_then tells.asked;
      entered = f.entered;
      answered = f.answered;
      leads = f.leads;
      shape = f.shape;
      ran = runs_joined r f.middle now.volume v f.refused f.refusals more others f.ran tells.ran;
      counted = f.counted;
      refused_so = counted (f.answers ++ f.refusals) f.refused_so
          ∙ ap refusals_of (append_assoc f.answers f.refusals others);
      opened = λ taking. absurd (both now.is_open taking shuts);
      shut = f.shut;
      printed = subst (λ (l : List ℕ). Appends start left l)
          (append_assoc lines refusals (lines_text more others)
          ∙ ap (λ (l : List ℕ). lines ++ l) (sym (lines-joined f.refused f.refusals more others f.ran.count)))
          (Appends-kept start (append_known known after) left ((lines ++ refusals) ++ lines_text more others)
          (collected start known text after (lines ++ refusals) (lines_text more others) f.printed tells.printed)
          keeps);
    }

-- ---- a line

-- the answers to a further line are counted while the sink takes entries
counted_more : {F J : Type 0} (r : Cleaner F) (contents : J → Option (List ℕ)) (next : J → ℕ) (old now new : Filed F J)
    (steps : List Step) (step : Step) (start known : Option (List ℕ)) (text after : List ℕ)
    (f : IsFiling r contents next old now steps start known)
    (line : FilesLine r contents next now new step.session step.cred step.act text after)
    → IsOpen contents next old now steps f.first f.rest f.refused f.refusals f.middle f.handed
    → line.counts ≡ refusals_of ((f.answers ++ line.tells.answers) ++ [])
counted_more r contents next old now new steps step start known text after f line o =
    line.counted f.answers (f.refused_so ∙ ap (λ (l : List StepAnswer). refusals_of (f.answers ++ l)) o.no_answers
    ∙ ap refusals_of (append-nil f.answers)) ∙ ap refusals_of (sym (append-nil (f.answers ++ line.tells.answers)))

moved_on : {F J : Type 0} (r : Cleaner F) (contents : J → Option (List ℕ)) (next : J → ℕ) (old now new : Filed F J)
    (steps : List Step) (step : Step) (start known left : Option (List ℕ)) (text after : List ℕ)
    (f : IsFiling r contents next old now steps start (append_known known text))
    (line : FilesLine r contents next now new step.session step.cred step.act text after)
    → Keeps (append_known known after) left → now.is_open ≡ true
    → IsHandedOut r.state contents next (record now { volume = line.middle; refusals = line.counts }) new
    ⊎ IsShut (record now { volume = line.middle; refusals = line.counts }) new
    → IsFiling r contents next old new (steps ++ step ∷ []) start left
moved_on r contents next old now new steps step start known left text after f line keeps taking (inl out) =
    let o = f.opened taking in
    filing_handed r contents next old now new (steps ++ step ∷ []) line.middle f.handed _ _ line.counts start left taking
    f.counted (counted_more r contents next old now new steps step start (append_known known text) text after f line o)
    o.taken (grown r contents next old now steps step start known left text after f line.middle line.tells o keeps) out
moved_on r contents next old now new steps step start known left text after f line keeps taking (inr is) =
    let o = f.opened taking in
    filing_shut r contents next old now new (steps ++ step ∷ []) line.middle f.handed _ _ line.counts start left f.counted
    (counted_more r contents next old now new steps step start (append_known known text) text after f line o)
    (grown r contents next old now steps step start known left text after f line.middle line.tells o keeps) is

filed_so : {F J : Type 0} (r : Cleaner F) (contents : J → Option (List ℕ)) (next : J → ℕ) (old now new : Filed F J)
    (steps : List Step) (step : Step) (start known left : Option (List ℕ)) (text after : List ℕ) (is_open : Bool)
    → now.is_open ≡ is_open → IsFiling r contents next old now steps start (append_known known text)
    → FilesLine r contents next now new step.session step.cred step.act text after
    → Keeps (append_known known after) left → IsFiling r contents next old new (steps ++ step ∷ []) start left
filed_so r contents next old now new steps step start known left text after true is f line keeps =
    moved_on r contents next old now new steps step start known left text after f line keeps is (line.moves.opened is)
filed_so {F} {J} r contents next old now new steps step start known left text after false is f line keeps =
    subst (λ (n : Filed F J). IsFiling r contents next old n (steps ++ step ∷ []) start left)
    (sym (line.moves.stays is))
    (filing_on r contents next old now steps step start known left text after line.middle line.counts is f line.tells
    line.counted keeps)

-- a further line was done, its answers' lines were collected, and perhaps a piece was written
pub filing_more : {F J : Type 0} (r : Cleaner F) (contents : J → Option (List ℕ)) (next : J → ℕ)
    (old now new : Filed F J) (steps : List Step) (step : Step) (start known left : Option (List ℕ))
    (text after : List ℕ) → IsFiling r contents next old now steps start (append_known known text)
    → FilesLine r contents next now new step.session step.cred step.act text after
    → Keeps (append_known known after) left → IsFiling r contents next old new (steps ++ step ∷ []) start left
filing_more r contents next old now new steps step start known left text after f line keeps =
    filed_so r contents next old now new steps step start known left text after now.is_open refl f line keeps

-- the lines that were done are all of the plan
pub filing_of : {F J : Type 0} (r : Cleaner F) (contents : J → Option (List ℕ)) (next : J → ℕ) (old now : Filed F J)
    (steps all : List Step) (start known : Option (List ℕ)) → steps ≡ all
    → IsFiling r contents next old now steps start known → IsFiling r contents next old now all start known
filing_of r contents next old now steps all start known is f =
    subst (λ (l : List Step). IsFiling r contents next old now l start known) is f

-- a sink that takes more took entries before
opened_so : {F J : Type 0} (state : F → StoreState) (contents : J → Option (List ℕ)) (next : J → ℕ)
    (now new : Filed F J) (is_open : Bool) → now.is_open ≡ is_open → MovesOn state contents next now new
    → new.is_open ≡ true → now.is_open ≡ true
opened_so state contents next now new true is moves opened = is
opened_so {F} {J} state contents next now new false is moves opened =
    sym (ap (λ (f : Filed F J). f.is_open) (moves.stays is)) ∙ opened

-- what a line of a plan asks for was done, and what it entered moved on
pub files_line : {F J : Type 0} (r : Cleaner F) (contents : J → Option (List ℕ)) (next : J → ℕ) (old new : Filed F J)
    (session : ℕ) (caller : Caller) (act : Act) (text after : List ℕ) (middle : Seen F) (counts : Refusals)
    → CountsLine r old.volume middle old.refusals counts session caller act text after
    → MovesOn r.state contents next (record old { volume = middle; refusals = counts }) new
    → FilesLine r contents next old new session caller act text after
files_line r contents next old new session caller act text after middle counts line moves =
    record { middle = middle; counts = counts; tells = line.tells; counted = line.counted; moves = moves }

pub was_open : {F J : Type 0} (r : Cleaner F) (contents : J → Option (List ℕ)) (next : J → ℕ) (now new : Filed F J)
    (session : ℕ) (caller : Caller) (act : Act) (text after : List ℕ)
    → FilesLine r contents next now new session caller act text after → new.is_open ≡ true → now.is_open ≡ true
was_open r contents next now new session caller act text after line opened =
    opened_so r.state contents next (record now { volume = line.middle; refusals = line.counts }) new now.is_open refl line.moves opened

-- ---- the whole run

-- behind the lines that were done while the sink took entries nothing is entered
none_more : {F J : Type 0} (r : Cleaner F) (contents : J → Option (List ℕ)) (next : J → ℕ) (old now : Filed F J)
    (steps : List Step) (start known : Option (List ℕ)) (from : World)
    (f : IsFiling r contents next old now steps start known) (is_open : Bool) → now.is_open ≡ is_open
    → Begins (r.state old.volume.since) old.volume.since_level from → kept_steps f.refused f.refusals ≡ []
none_more r contents next old now steps start known from f true is begins =
    let taking = f.opened is in
    ap (λ (m : List Made). kept_steps m f.refusals) taking.no_calls
none_more r contents next old now steps start known from f false is begins =
    let here = world_after (r.state old.volume.store).shape.numbers f.handed from in
    none_entered r f.middle.limit here f.middle.journal f.middle.store now.volume.store f.refused f.refusals
    (sym (f.shut is)) (f.ran.answered here (f.leads from begins).1)

-- they are answered as behind a journal that has its limit
full_then : {F J : Type 0} (r : Cleaner F) (contents : J → Option (List ℕ)) (next : J → ℕ) (old now : Filed F J)
    (steps : List Step) (start known : Option (List ℕ)) (from : World)
    (f : IsFiling r contents next old now steps start known) (is_open : Bool) → now.is_open ≡ is_open
    → Begins (r.state old.volume.since) old.volume.since_level from
    → AreSteps r (length (kept_steps f.made f.answers)) from (kept_steps f.made f.answers) f.middle.store f.refused
    f.refusals now.volume.store
full_then {F} r contents next old now steps start known from f true is begins =
    let taking = f.opened is in
    let entries = kept_steps f.made f.answers in
    subst (λ (m : List Made). AreSteps r (length entries) from entries f.middle.store m f.refusals now.volume.store)
    (sym taking.no_calls)
    (subst (λ (a : List StepAnswer). AreSteps r (length entries) from entries f.middle.store [] a now.volume.store)
    (sym taking.no_answers) (ap (λ (v : Seen F). v.store) taking.here))
full_then r contents next old now steps start known from f false is begins =
    let shape = (r.state old.volume.store).shape in
    let here = world_after shape.numbers f.handed from in
    let entries = kept_steps f.made f.answers in
    let count : length entries ≡ length f.handed + length f.middle.journal =
    ap length f.entered ∙ length-append f.handed f.middle.journal in
    let apart : length entries ≡ length f.handed + f.middle.limit = omega (arith, count, f.shut is) in
    subst (λ (j : List Entry). AreSteps r (length entries) from j f.middle.store f.refused f.refusals now.volume.store)
    (sym f.entered)
    (steps_shifted r f.middle.limit (length entries) from f.handed f.middle.journal f.middle.store now.volume.store
    f.refused f.refusals shape f.shape (inl apart) (f.ran.answered here (f.leads from begins).1))

-- the lines of a plan were done, and all is written
pub filed_run : {F J : Type 0} (r : Cleaner F) (contents : J → Option (List ℕ)) (next : J → ℕ) (old now : Filed F J)
    (steps : List Step) (start known left : Option (List ℕ)) (text : List ℕ) → IsBegun r.state old
    → IsFiling r contents next old now steps start (append_known known text)
    → Since (r.state now.volume.since) now.volume.since_level
    (λ from. IsLegal (r.state now.volume.store).shape.numbers (r.state now.volume.store).shape.segments
    now.volume.journal from)
    → ((handed : List Entry) (answers : List StepAnswer) → now.told ≡ counts_of handed
    → now.refusals ≡ refusals_of answers
    → Appends (append_known known text) left (run_report (handed ++ now.volume.journal) answers))
    → (all : List ℕ) × (entries : List Entry)
    × IsFiledRun r (Begins (r.state old.volume.since) old.volume.since_level) old.volume.store steps now.is_open
    entries all × Appends start left all × (now.is_open ≡ true → Takes contents next old.sink now.sink entries)
filed_run {F} {J} r contents next old now steps start known left text begun f legal reported =
    let shape = (r.state old.volume.store).shape in
    let entries = kept_steps f.made f.answers in
    let lines = lines_text f.made f.answers ++ lines_text f.refused f.refusals in
    let none : kept_steps f.refused f.refusals ≡ [] =
    none_more r contents next old now steps start (append_known known text) begun.tree.0 f now.is_open refl
    begun.tree.1 in
    let still : now.volume.journal ≡ f.middle.journal =
    f.ran.entered ∙ ap (λ (l : List Entry). f.middle.journal ++ l) none ∙ append-nil f.middle.journal in
    let whole : entries ≡ f.handed ++ now.volume.journal =
    f.entered ∙ ap (λ (l : List Entry). f.handed ++ l) (sym still) in
    let all = f.answers ++ f.refusals in
    let report : Appends (append_known known text) left (run_report entries all) =
    subst (λ (l : List Entry). Appends (append_known known text) left (run_report l all)) (sym whole)
    (reported f.handed all f.counted f.refused_so) in (
      lines ++ run_report entries all,
      entries,
      record {
        first = f.first;
        rest = f.rest;
        parted = f.parted;
        whole = λ is. (f.opened is).none;
        made = f.made;
        answers = f.answers;
        refused = f.refused;
        refusals = f.refusals;
        middle = f.middle.store;
        after = now.volume.store;
        asked = f.asked;
        asked_then = f.asked_then;
        answered = λ limit less from begins. f.answered limit less from begins;
        full = λ from begins. full_then r contents next old now steps start (append_known known text) from f now.is_open
            refl begins;
        entered = refl;
        legal = λ from begins.
            let leads = f.leads from begins in
            let here = world_after shape.numbers f.handed from in
            subst (λ (l : List Entry). IsLegal shape.numbers shape.segments l from) (sym whole)
            (legal_joined shape.numbers shape.segments f.handed now.volume.journal from leads.0
            (subst (λ (s : Shape). IsLegal s.numbers s.segments now.volume.journal here) (f.ran.shape ∙ f.shape)
            (legal here (still-begins r.state here f.middle.since now.volume.since f.middle.since_level
            now.volume.since_level f.ran.since f.ran.since_level leads.1))));
        printed = refl;
      },
      Appends-trans start (append_known known text) left lines (run_report entries all) f.printed report,
      λ is.
          let taking = f.opened is in
          subst (λ (l : List Entry). Takes contents next old.sink now.sink l)
          (sym (append-nil f.handed) ∙ ap (λ (l : List Entry). f.handed ++ l) (sym taking.empty) ∙ sym f.entered)
          taking.taken,
    )

-- ---- what a volume whose entries go to a sink does

abbrev handed_out : {F J : Type 0} → Filed F J → J → Filed F J
handed_out old sink = record {
  volume = drained old.volume;
  sink = sink;
  told = counts_sum old.told (counts_of old.volume.journal);
  refusals = old.refusals;
  is_open = old.is_open;
}

-- a volume whose entries were handed out, part by part
pub handed_view : {F J : Type 0} (old inside : Filed F J) (volume : Seen F) (told : Counts)
    → inside ≡ old → volume ≡ drained inside.volume
    → told ≡ counts_sum inside.told (counts_of inside.volume.journal)
    → ◌≡◌ {A = Filed F J} (record inside { volume = volume; told = told }) (handed_out old old.sink)
handed_view {F} {J} old inside volume told same is counted =
    rw (is, counted) (ap (λ (h : Filed F J). handed_out h h.sink) same)

-- the sink took the entries, and then they were handed out
pub handed_if : {A E F J : Type 0} (state : F → StoreState) (contents : J → Option (List ℕ)) (next : J → ℕ)
    (old middle new : Filed F J) (result : Result A E) → middle ≡ record old { sink = middle.sink }
    → Takes contents next old.sink middle.sink old.volume.journal
    → OnOk result (new ≡ handed_out middle middle.sink) → OnOk result (LeadsOn state middle.volume new.volume)
    → OnOk result (IsHandedOut state contents next old new)
handed_if {A} {E} {F} {J} state contents next old middle new (Ok a) same takes is leads =
    let sunk : new.sink ≡ middle.sink = ap (λ (h : Filed F J). h.sink) is in
    record {
      is = is ∙ ap (λ (h : Filed F J). handed_out h middle.sink) same ∙ ap (handed_out old) (sym sunk);
      taken = subst (λ (j : J). Takes contents next old.sink j old.volume.journal) (sym sunk) takes;
      leads = subst (λ (h : Filed F J). LeadsOn state h.volume new.volume) same leads;
    }
handed_if state contents next old middle new (Err e) same takes is leads = tt

-- a sink that takes no more, part by part
pub closed_view : {F J : Type 0} (old middle new : Filed F J) → middle ≡ record old { sink = middle.sink }
    → new ≡ record middle { volume = closed middle.volume; is_open = false } → IsShut old new
closed_view {F} {J} old middle new same is =
    is
    ∙ ap (λ (h : Filed F J). record h { volume = closed h.volume; sink = middle.sink; is_open = false }) same
    ∙ ap (λ (j : J). record old { volume = closed old.volume; sink = j; is_open = false })
    (sym (ap (λ (h : Filed F J). h.sink) is))

pub handed_on : {F J : Type 0} (state : F → StoreState) (contents : J → Option (List ℕ)) (next : J → ℕ)
    (old new : Filed F J) → old.is_open ≡ true → IsHandedOut state contents next old new
    → MovesOn state contents next old new
handed_on state contents next old new taking out =
    record { opened = λ _. inl out; stays = λ shuts. absurd (both old.is_open taking shuts) }

pub shut_on : {F J : Type 0} (state : F → StoreState) (contents : J → Option (List ℕ)) (next : J → ℕ)
    (old new : Filed F J) → old.is_open ≡ true → IsShut old new → MovesOn state contents next old new
shut_on state contents next old new taking is =
    record { opened = λ _. inr is; stays = λ shuts. absurd (both old.is_open taking shuts) }

pub stays_on : {F J : Type 0} (state : F → StoreState) (contents : J → Option (List ℕ)) (next : J → ℕ)
    (old : Filed F J) → old.is_open ≡ false → MovesOn state contents next old old
stays_on state contents next old shuts =
    record { opened = λ taking. absurd (both old.is_open taking shuts); stays = λ _. refl }
