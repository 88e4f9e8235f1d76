-- What was handed out, and what the sink has, line by line: `kept_none`, `kept_moved` and `kept_tidied` for TalkLemmas,
-- `moves_none`, `moves_given`, `moves_closed` and `moves_if_out` for `Tended::move_on` and `keep_up`. Whatever a line
-- asks, it leaves the entries of the journal and puts others behind them (`line_follows`), so the sink lacks just
-- these, and behind each line it has all that were handed out and all of the journal (`HasKept`). Handing out empties
-- the journal, and it begins anew where its entries led, so all of them together stay legal from where the talk began.
-- Of a sink that takes no more nothing is claimed, and it takes no more ever after (`on_opened`).
use Rattle.std.proofs.Common.{◌≡◌, ℕ, zero, suc, ◌+◌, ◌≤◌, ◌⊎◌, Bool, true, false, OnErr, OnOk, Result, Ok, Err, List, [], ◌∷◌, ◌++◌}
use Rattle.std.proofs.Common.{length, drop, inl, inr, refl, sym, ap, subst, ◌∙◌, arith, append_assoc}
use Rattle.std.proofs.Common.{append-nil}
use Rattle.lfs_types.specs.Caller.{Caller}
use Rattle.lfs_types.specs.StoreStates.{StoreState}
use Rattle.lfs_types.specs.Tree.{World}
use Rattle.lfs_types.specs.declared.level.Level.{Level}
use Rattle.lfs_model.specs.Counts.{counts_of}
use Rattle.lfs_model.specs.Steps.{IsLegal, world_after}
use Rattle.lfs_model.proofs.RunLemmas.{world_after-append}
use Rattle.lfs_model.specs.declared.counts.Counts.{Counts}
use Rattle.lfs_model.specs.declared.journal.Entry.{Entry}
use Rattle.lfs_model.specs.declared.steps.StepAnswer.{StepAnswer}
use Rattle.lfs_sinks.specs.Refusals.{tally_of}
use Rattle.lfs_sinks.specs.declared.totals.Tally.{Tally}
use Rattle.lfs_volume.specs.Cleanings.{Cleaner}
use Rattle.lfs_volume.specs.Journals.{Begins, Since}
use Rattle.lfs_volume.specs.Seen.{Seen}
use Rattle.lfs_live.specs.Held.{Course, HasKept, HasRoom, Held, IsHanded, IsShut, Moves, MovesOn, Sink, Takes, course_of}
use Rattle.lfs_live.specs.Saving.{Saves}
use Rattle.lfs_live.specs.Steps.{HasTidied}
use Rattle.lfs_audit.specs.Filing.{LeadsOn, closed, drained}
use Rattle.lfs_audit.specs.Runs.{TellsLine}
use Rattle.lfs_sinks.specs.Sums.{counts_sum}
use Rattle.lfs_live.specs.Talkers.{Talker}
use Rattle.lfs_live.specs.Talking.{Hears, Tidies, is_due}
use Rattle.lfs_hearing.specs.declared.hearing.Heard.{Heard}
use Rattle.lfs_hearing.specs.declared.hearing.Heard.TheVariants as heard
use Rattle.lfs_audit.specs.declared.asker.Asker.{Asker}
use Rattle.lfs_script.specs.declared.plan.Act.{Act}
use Rattle.lfs_script.specs.declared.plan.Line.TheVariants as says
use Rattle.lfs_audit.proofs.FiledLemmas.{takes_more as takes_behind, takes_none}
use Rattle.lfs_sinks.proofs.LegalLemmas.{legal_joined}
use Rattle.lfs_sinks.proofs.SumLemmas.{counts_joined}

-- ---- what a sink took

drop_none : {A : Type 0} (n : ℕ) (xs : List A) → length xs ≤ 0 → drop n xs ≡ xs
drop_none zero xs none = refl
drop_none (suc n) [] none = refl
drop_none (suc n) (x ∷ xs) none = absurd (omega (arith, none))

no_entries : {A : Type 0} (xs : List A) → length xs ≤ 0 → xs ≡ []
no_entries [] none = refl
no_entries (x ∷ xs) none = absurd (omega (arith, none))

-- a sink that was not asked to take the entries of an empty journal
pub takes_empty : {J : Type 0} (sink : Sink J) (j : J) (before : ℕ) (entries : List Entry) → length entries ≤ 0
    → Takes sink j j (drop before entries)
takes_empty {J} sink j before entries none =
    subst (λ (l : List Entry). Takes sink j j l) (sym (drop_none before entries none ∙ no_entries entries none))
    (takes_none sink.contents sink.next j)

-- a sink that took more
pub takes_more : {J : Type 0} (sink : Sink J) (old middle new : J) (entries more all : List Entry) → all ≡ entries
    ++ more → Takes sink old middle entries → Takes sink middle new more
    → Takes sink old new all
takes_more {J} sink old middle new entries more all whole first then =
    subst (λ (l : List Entry). Takes sink old new l) (sym whole)
    (takes_behind sink.contents sink.next old middle new entries more first then)

-- ---- a line

-- what a line leaves of a volume: where its journal began, and its entries, behind which further ones may stand
pub record Follows {F : Type 0} (state : F → StoreState) (old new : Seen F) : Type 0 where
  pub more : List Entry
  pub entered : new.journal ≡ old.journal ++ more
  pub since : new.since ≡ old.since
  pub since_level : new.since_level ≡ old.since_level
  pub shape : (state new.store).shape ≡ (state old.store).shape

follows_same : {F : Type 0} (state : F → StoreState) (old new : Seen F) → new ≡ old → Follows state old new
follows_same {F} state old new same =
    subst (λ (v : Seen F). Follows state old v) (sym same)
    (record { more = []; entered = sym (append-nil old.journal); since = refl; since_level = refl; shape = refl })

run_follows : {F : Type 0} (r : Cleaner F) (old new : Seen F) (session : ℕ) (caller : Caller) (act : Act)
    (told : List ℕ) → TellsLine r old new session caller act [] told → Follows r.state old new
run_follows r old new session caller act told tells =
    let ran = tells.ran in
    record { more = _; entered = ran.entered; since = ran.since; since_level = ran.since_level; shape = ran.shape }

save_follows : {F : Type 0} (r : Talker F) (number : ℕ) (old new : Seen F) (told : List ℕ)
    → Saves r number old new told → Follows r.cleaner.state old new
save_follows r number old new told (inl (same, none)) = follows_same r.cleaner.state old new same
save_follows r number old new told (inr (answer, syncs, comes)) =
    let ran = syncs.ran in
    record { more = _; entered = ran.entered; since = ran.since; since_level = ran.since_level; shape = ran.shape }

pub line_follows : {F : Type 0} (r : Talker F) (number : ℕ) (handed : List Entry) (answers given : List StepAnswer)
    (old new : Seen F) (speaker then : Asker) (said : Heard) (told : List ℕ)
    → Hears r number handed answers old speaker said told new then given → Follows r.cleaner.state old new
line_follows r number handed answers given old new speaker then (heard.Line says.Nothing) told h =
    follows_same r.cleaner.state old new h.0
line_follows r number handed answers given old new speaker then (heard.Line (says.Session session)) told h =
    follows_same r.cleaner.state old new h.0
line_follows r number handed answers given old new speaker then (heard.Line (says.Caller cred)) told h =
    follows_same r.cleaner.state old new h.0
line_follows r number handed answers given old new speaker then (heard.Line (says.Act act)) told h =
    run_follows r.cleaner old new speaker.session speaker.cred act told h.0
line_follows r number handed answers given old new speaker then (heard.Asks inquiry request) told h =
    let looks = h.0 in
    record {
      more = [];
      entered = looks.journal ∙ sym (append-nil old.journal);
      since = looks.since;
      since_level = looks.since_level;
      shape = ap (λ (s : StoreState). s.shape) looks.state;
    }
line_follows r number handed answers given old new speaker then (heard.Looks look path) told h =
    let ran = h.0.asks.ran in
    record { more = _; entered = ran.entered; since = ran.since; since_level = ran.since_level; shape = ran.shape }
line_follows r number handed answers given old new speaker then (heard.Dot dot) told h =
    follows_same r.cleaner.state old new h.0
line_follows r number handed answers given old new speaker then heard.Check told h =
    follows_same r.cleaner.state old new h.0
line_follows r number handed answers given old new speaker then heard.Save told h = save_follows r number old new told h.0
line_follows r number handed answers given old new speaker then (heard.Fault fault place) told h =
    follows_same r.cleaner.state old new h.0

true-false : false ≡ true → ⊥
true-false e = absurd (cc)

pub never_both : (b : Bool) → b ≡ true → b ≡ false → ⊥
never_both b holds fails = absurd (cc)

-- ---- what was kept

-- nothing was handed out by then
pub kept_none : {F J : Type 0} (state : F → StoreState) (sink : Sink J) (old : Held F J)
    → old.tally ≡ tally_of [] [] → old.volume.journal ≡ [] → HasKept state sink old old [] []
kept_none {F} {J} state sink old told empty = record {
  counted = told;
  caught = λ taking. subst (λ (l : List Entry). Takes sink old.sink old.sink l) (sym empty)
      (takes_none sink.contents sink.next old.sink);
  opened = λ taking. taking;
  legal = λ from begins. (tt, begins);
  shape = refl;
}

-- ---- how a talk goes on

left_opened : {F : Type 0} (now after : Course F) → (after ≡ now) ⊎ (IsHanded now after ⊎ IsShut now after)
    → after.is_open ≡ true → now.is_open ≡ true
left_opened {F} now after (inl stays) taking = sym (ap (λ (c : Course F). c.is_open) stays) ∙ taking
left_opened now after (inr (inl out)) taking = out.opened
left_opened now after (inr (inr shut)) taking = shut.opened

-- a sink that takes more took entries before
pub on_opened : {F : Type 0} (now after : Course F) → MovesOn now after → after.is_open ≡ true → now.is_open ≡ true
on_opened {F} now after moves taking = left_opened now after moves.left taking

-- the store is what it was
left_store : {F : Type 0} (now after : Course F) → (after ≡ now) ⊎ (IsHanded now after ⊎ IsShut now after)
    → after.volume.store ≡ now.volume.store
left_store {F} now after (inl stays) = ap (λ (c : Course F). c.volume.store) stays
left_store {F} now after (inr (inl out)) = ap (λ (c : Course F). c.volume.store) out.is
left_store {F} now after (inr (inr shut)) = ap (λ (c : Course F). c.volume.store) shut.is

-- where a sink takes more, no entry is gone
left_whole : {F : Type 0} (now after : Course F) → (after ≡ now) ⊎ (IsHanded now after ⊎ IsShut now after)
    → after.is_open ≡ true → after.handed ++ after.volume.journal ≡ now.handed ++ now.volume.journal
left_whole {F} now after (inl stays) taking = ap (λ (c : Course F). c.handed ++ c.volume.journal) stays
left_whole {F} now after (inr (inl out)) taking =
    ap (λ (c : Course F). c.handed ++ c.volume.journal) out.is ∙ append-nil (now.handed ++ now.volume.journal)
left_whole {F} now after (inr (inr shut)) taking =
    absurd (true-false (sym (ap (λ (c : Course F). c.is_open) shut.is) ∙ taking))

-- a talk with what was handed out and told before
abbrev since_handed : {F : Type 0} → List Entry → List StepAnswer → Course F → Course F
since_handed handed answers c = record c { handed = handed ++ c.handed; answers = answers }

left_behind : {F : Type 0} (handed : List Entry) (answers : List StepAnswer) (now after : Course F)
    → (after ≡ now) ⊎ (IsHanded now after ⊎ IsShut now after)
    → let now = since_handed handed answers now in let after = since_handed handed answers after in
    (after ≡ now) ⊎ (IsHanded now after ⊎ IsShut now after)
left_behind handed answers now after (inl stays) = inl (ap (since_handed handed answers) stays)
left_behind {F} handed answers now after (inr (inl out)) = inr (inl (record {
  opened = out.opened;
  is = ap (since_handed handed answers) out.is
      ∙ ap (λ (l : List Entry). record now { volume = drained now.volume; handed = l; answers = answers })
      (sym (append_assoc handed now.handed now.volume.journal));
}))
left_behind handed answers now after (inr (inr shut)) =
    inr (inr (record { opened = shut.opened; some = shut.some; is = ap (since_handed handed answers) shut.is }))

-- the same of how a volume that is talked to moved on, with what was handed out and told before
pub moves_on : {F J : Type 0} (state : F → StoreState) (sink : Sink J) (before : ℕ) (now new : Held F J)
    (handed more : List Entry) (answers : List StepAnswer) → Moves state sink before now new more
    → MovesOn (course_of now handed answers) (course_of new (handed ++ more) answers)
moves_on {F} {J} state sink before now new handed more answers moves =
    subst (λ (l : List Entry). MovesOn (course_of now l answers) (course_of new (handed ++ more) answers))
    (append-nil handed)
    (record {
      left = left_behind handed answers (course_of now [] []) (course_of new more []) moves.moves.left;
      room = moves.moves.room;
    })

-- ---- a line

-- what is behind the first entries
drop_entered : (before more : List Entry) → drop (length before) (before ++ more) ≡ more
drop_entered [] more = refl
drop_entered (e ∷ before) more = drop_entered before more

-- all entries behind a line, those that were there before and those that it made
all_entered : (handed more kept before entered middle : List Entry) → more ++ kept ≡ middle → middle ≡ before ++ entered
    → (handed ++ more) ++ kept ≡ (handed ++ before) ++ entered
all_entered handed more kept before entered middle whole grown =
    append_assoc handed more kept ∙ ap (λ (l : List Entry). handed ++ l) (whole ∙ grown)
    ∙ sym (append_assoc handed before entered)

-- a line, or a pass, was done
pub kept_moved : {F J : Type 0} (state : F → StoreState) (sink : Sink J) (old now new : Held F J) (middle : Seen F)
    (tally : Tally) (handed more : List Entry) (answers told : List StepAnswer)
    → HasKept state sink old now handed answers → tally ≡ tally_of handed told → Follows state now.volume middle
    → Moves state sink (length now.volume.journal) (record now { volume = middle; tally = tally }) new more
    → HasKept state sink old new (handed ++ more) told
kept_moved {F} {J} state sink old now new middle tally handed more answers told kept counted follows moves =
    let done : Held F J = record now { volume = middle; tally = tally } in
    let left = moves.moves.left in
    record {
      counted = moves.counted handed told counted;
      caught = λ taking.
          let journal = now.volume.journal in
          let lacked : drop (length journal) middle.journal ≡ follows.more =
          ap (drop (length journal)) follows.entered ∙ drop_entered journal follows.more in
          takes_more sink old.sink now.sink new.sink (handed ++ journal) follows.more _
          (all_entered handed more new.volume.journal journal follows.more middle.journal
          (left_whole (course_of done [] []) (course_of new more []) left taking) follows.entered)
          (kept.caught (left_opened (course_of done [] []) (course_of new more []) left taking))
          (subst (λ (l : List Entry). Takes sink now.sink new.sink l) lacked (moves.caught taking));
      opened = λ taking. kept.opened (left_opened (course_of done [] []) (course_of new more []) left taking);
      legal = λ from begins.
          let shape = (state old.volume.store).shape in
          let before = kept.legal from begins in
          let here = world_after shape.numbers handed from in
          let starts = subst (λ (s : F). Begins (state s) middle.since_level here) (sym follows.since)
          (subst (λ (l : Level). Begins (state now.volume.since) l here) (sym follows.since_level) before.1) in
          let then = subst (λ s. IsLegal s.numbers s.segments more here
          × Begins (state new.volume.since) new.volume.since_level (world_after s.numbers more here))
          (follows.shape ∙ kept.shape) (moves.legal here starts) in (
            legal_joined shape.numbers shape.segments handed more from before.0 then.0,
            subst (λ (w : World). Begins (state new.volume.since) new.volume.since_level w)
                (sym (world_after-append shape.numbers handed more from)) then.1,
          );
      shape = ap (λ (s : F). (state s).shape) (left_store (course_of done [] []) (course_of new more []) left)
          ∙ follows.shape ∙ kept.shape;
    }

-- all entries are legal from where the journal began
pub all_legal : {F J : Type 0} (state : F → StoreState) (sink : Sink J) (old now : Held F J) (handed : List Entry)
    (answers : List StepAnswer) → HasKept state sink old now handed answers
    → Since (state now.volume.since) now.volume.since_level
    (λ from. IsLegal (state now.volume.store).shape.numbers
    (state now.volume.store).shape.segments now.volume.journal from)
    → Since (state old.volume.since) old.volume.since_level
    (λ from. IsLegal (state old.volume.store).shape.numbers (state old.volume.store).shape.segments (handed
    ++ now.volume.journal) from)
all_legal state sink old now handed answers kept legal = λ from begins.
    let shape = (state old.volume.store).shape in
    let before = kept.legal from begins in
    legal_joined shape.numbers shape.segments handed now.volume.journal from before.0
    (subst (λ s. IsLegal s.numbers s.segments now.volume.journal (world_after shape.numbers handed from)) kept.shape
    (legal (world_after shape.numbers handed from) before.1))

-- ---- what a volume that is tended does

-- nothing, where the sink takes no more
pub moves_none : {F J : Type 0} (state : F → StoreState) (sink : Sink J) (before : ℕ) (old : Held F J)
    → old.is_open ≡ false → Moves state sink before old old []
moves_none state sink before old shut = record {
  moves = record { left = inl refl; room = λ taking. absurd (true-false (sym shut ∙ taking)) };
  counted = λ handed answers told. told ∙ ap (λ (l : List Entry). tally_of l answers) (sym (append-nil handed));
  caught = λ taking. absurd (true-false (sym shut ∙ taking));
  legal = λ from begins. (tt, begins);
}

-- the sink got what it lacked
pub moves_given : {F J : Type 0} (state : F → StoreState) (sink : Sink J) (before : ℕ) (old new : Held F J) → new
    ≡ record old { sink = new.sink }
    → Takes sink old.sink new.sink (drop before old.volume.journal) → HasRoom new.volume
    → Moves state sink before old new []
moves_given {F} {J} state sink before old new is takes room =
    subst (λ (h : Held F J). Moves state sink before old h []) (sym is)
    (record {
      moves = record { left = inl refl; room = λ taking. subst (λ (h : Held F J). HasRoom h.volume) is room };
      counted = λ handed answers told. told ∙ ap (λ (l : List Entry). tally_of l answers) (sym (append-nil handed));
      caught = λ taking. takes;
      legal = λ from begins. (tt, begins);
    })

-- the sink takes no more
pub moves_closed : {F J : Type 0} (state : F → StoreState) (sink : Sink J) (before : ℕ) (old new : Held F J)
    → old.is_open ≡ true → 1 ≤ length old.volume.journal
    → new ≡ record old { volume = closed old.volume; sink = new.sink; is_open = false }
    → Moves state sink before old new []
moves_closed {F} {J} state sink before old new taking some is =
    subst (λ (h : Held F J). Moves state sink before old h []) (sym is)
    (record {
      moves = record {
        left = inr (inr (record { opened = taking; some = some; is = refl }));
        room = λ more. absurd (true-false more);
      };
      counted = λ handed answers told. told ∙ ap (λ (l : List Entry). tally_of l answers) (sym (append-nil handed));
      caught = λ more. absurd (true-false more);
      legal = λ from begins. (tt, begins);
    })

-- the same, part by part
pub closed_view : {F J : Type 0} (old middle new : Held F J) → middle ≡ record old { sink = middle.sink }
    → new ≡ record middle { volume = closed middle.volume; is_open = false }
    → new ≡ record old { volume = closed old.volume; sink = new.sink; is_open = false }
closed_view {F} {J} old middle new same is =
    is
    ∙ ap (λ (h : Held F J). record h { volume = closed h.volume; sink = middle.sink; is_open = false }) same
    ∙ ap (λ (j : J). record old { volume = closed old.volume; sink = j; is_open = false })
    (sym (ap (λ (h : Held F J). h.sink) is))

-- a drained journal has room
drained_room : {F : Type 0} (v : Seen F) → HasRoom (drained v)
drained_room v = λ least. omega (arith, least)

-- what a volume is whose entries were handed out
abbrev pub handed_out : {F J : Type 0} → Held F J → J → Held F J
handed_out old sink = record {
  volume = drained old.volume;
  sink = sink;
  tally = record old.tally { totals = counts_sum old.tally.totals (counts_of old.volume.journal) };
  is_open = old.is_open;
  cleans = old.cleans;
}

-- the entries were handed out
pub moves_out : {F J : Type 0} (state : F → StoreState) (sink : Sink J) (before : ℕ) (old new : Held F J)
    → old.is_open ≡ true → new ≡ handed_out old new.sink
    → Takes sink old.sink new.sink (drop before old.volume.journal) → LeadsOn state old.volume new.volume
    → Moves state sink before old new old.volume.journal
moves_out {F} {J} state sink before old new taking is takes legal =
    let journal = old.volume.journal in
    record {
      moves = record {
        left = inr (inl (record {
          opened = taking;
          is = ap (λ (h : Held F J). course_of h journal []) is;
        }));
        room = λ more. subst (λ (h : Held F J). HasRoom h.volume) (sym is) (drained_room old.volume);
      };
      counted = λ handed answers told. ap (λ (h : Held F J). h.tally) is
          ∙ ap (λ (t : Tally). record t { totals = counts_sum t.totals (counts_of journal) }) told
          ∙ ap (λ (c : Counts). record (tally_of [] answers) { totals = c }) (counts_joined handed journal);
      caught = λ more. takes;
      legal = legal;
    }

-- the same of a result
pub moves_if_out : {A E F J : Type 0} (state : F → StoreState) (sink : Sink J) (before : ℕ) (old middle new : Held F J)
    (result : Result A E) → old.is_open ≡ true → middle ≡ record old { sink = middle.sink }
    → Takes sink old.sink middle.sink (drop before old.volume.journal)
    → OnOk result (new ≡ handed_out middle middle.sink) → OnOk result (LeadsOn state middle.volume new.volume)
    → OnOk result ((more : List Entry) × Moves state sink before old new more)
moves_if_out {A} {E} {F} {J} state sink before old middle new (Ok a) taking same takes is legal =
    let sunk : new.sink ≡ middle.sink = ap (λ (h : Held F J). h.sink) is in
    let whole : new ≡ handed_out old new.sink =
    is ∙ ap (λ (h : Held F J). handed_out h middle.sink) same ∙ ap (handed_out old) (sym sunk) in (
      old.volume.journal,
      moves_out state sink before old new taking whole
          (subst (λ (j : J). Takes sink old.sink j (drop before old.volume.journal)) (sym sunk) takes)
          (subst (λ (h : Held F J). LeadsOn state h.volume new.volume) same legal),
    )
moves_if_out state sink before old middle new (Err e) taking same takes is legal = tt

-- a volume whose entries were handed out, part by part
pub handed_view : {F J : Type 0} (old inside : Held F J) (volume : Seen F) (totals : Counts)
    → inside ≡ old → volume ≡ drained inside.volume
    → totals ≡ counts_sum inside.tally.totals (counts_of inside.volume.journal)
    → ◌≡◌ {A = Held F J} (record inside { volume = volume; tally = record inside.tally { totals = totals } })
    (handed_out old old.sink)
handed_view {F} {J} old inside volume totals same is counted =
    rw (is, counted) (ap (λ (h : Held F J). handed_out h h.sink) same)

-- which of three was open, where the last is only where the second was, and the second only where the first was
pub same_open : (old middle new : Bool) → (middle ≡ true → old ≡ true) → (new ≡ true → middle ≡ true) → new ≡ old
    → (middle ≡ old) × (new ≡ middle)
same_open true true true first then same = (refl, refl)
same_open true true false first then same = absurd (cc)
same_open true false true first then same = absurd (true-false (then refl))
same_open true false false first then same = absurd (cc)
same_open false true true first then same = absurd (cc)
same_open false true false first then same = absurd (true-false (first refl))
same_open false false true first then same = absurd (cc)
same_open false false false first then same = (refl, refl)

-- ---- a pass that is made where one is due

tidied_so : {F J : Type 0} (r : Cleaner F) (sink : Sink J) (old now new : Held F J) (handed more : List Entry)
    (answers : List StepAnswer) (due : Bool) → is_due r.state (course_of now [] []) ≡ due
    → HasKept r.state sink old now handed answers → HasTidied r sink now new more
    → HasKept r.state sink old new (handed ++ more) answers
tidied_so r sink old now new handed more answers true is kept tidied =
    let pass = tidied.passes is in
    kept_moved r.state sink old now new pass.0 now.tally handed more answers answers kept kept.counted
    (run_follows r now.volume pass.0 _ _ _ pass.1 pass.2) pass.3
tidied_so r sink old now new handed more answers false is kept tidied =
    let stays = tidied.stays is in
    rw (stays.0, stays.1, append-nil handed) kept

-- what is handed out and what the sink has, behind it
pub kept_tidied : {F J : Type 0} (r : Cleaner F) (sink : Sink J) (old now new : Held F J) (handed more : List Entry)
    (answers : List StepAnswer) → HasKept r.state sink old now handed answers → HasTidied r sink now new more
    → HasKept r.state sink old new (handed ++ more) answers
kept_tidied r sink old now new handed more answers kept tidied =
    tidied_so r sink old now new handed more answers (is_due r.state (course_of now [] [])) refl kept tidied

-- the talk goes on
pub tidies_on : {F J : Type 0} (r : Cleaner F) (sink : Sink J) (now new : Held F J) (handed more : List Entry)
    (answers : List StepAnswer) → HasTidied r sink now new more
    → Tidies r (course_of now handed answers) (course_of new (handed ++ more) answers)
tidies_on {F} {J} r sink now new handed more answers tidied = record {
  passes = λ due.
      let pass = tidied.passes due in
      record {
        passed = pass.0;
        untold = pass.1;
        makes = pass.2;
        moves = moves_on r.state sink (length now.volume.journal) (record now { volume = pass.0 }) new handed more answers
            pass.3;
      };
  stays = λ none.
      let stays = tidied.stays none in
      rw (stays.0, stays.1, append-nil handed) refl;
}

tidied_opened_so : {F J : Type 0} (r : Cleaner F) (sink : Sink J) (now new : Held F J) (more : List Entry)
    (due : Bool) → is_due r.state (course_of now [] []) ≡ due
    → HasTidied r sink now new more → new.is_open ≡ true → now.is_open ≡ true
tidied_opened_so r sink now new more true is tidied taking =
    let pass = tidied.passes is in
    on_opened (course_of (record now { volume = pass.0 }) [] []) (course_of new more []) pass.3.moves taking
tidied_opened_so {F} {J} r sink now new more false is tidied taking =
    sym (ap (λ (h : Held F J). h.is_open) (tidied.stays is).0) ∙ taking

-- a sink that takes more took entries before
pub tidied_opened : {F J : Type 0} (r : Cleaner F) (sink : Sink J) (now new : Held F J) (more : List Entry)
    → HasTidied r sink now new more → new.is_open ≡ true → now.is_open ≡ true
tidied_opened {F} {J} r sink now new more tidied taking =
    tidied_opened_so r sink now new more (is_due r.state (course_of now [] [])) refl tidied taking

-- ---- results

-- what holds anyhow, holds where a result is an Err
pub on_any_err : {A E P : Type 0} (result : Result A E) → P → OnErr result P
on_any_err (Ok a) p = tt
on_any_err (Err e) p = p
