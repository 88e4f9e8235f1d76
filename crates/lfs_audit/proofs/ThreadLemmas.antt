-- What a run on threads prints, line by line and session by session: `transcript_grows` for `print_transcript`,
-- `vectors_grow` for `print_transcripts`, `closed_written` for `print_closed`, and `adds_setup`, `adds_transcript` and
-- `adds_transcripts` for `refusals_of`. The first k + 1 answers are the first k and one more, so a text of the first k
-- grows by one line, and counts by one answer; of sessions likewise. `threads_run` and `filed_threads` put this with
-- what serving said of the journal into the promises of `run_threads` and `run_sessions`. There are no more lists of
-- answers than scripts, since each agrees with one (`transcripts_few`).
use Rattle.std.proofs.Common.{◌≡◌, ℕ, zero, suc, ◌+◌, ◌-◌, ◌<◌, ◌≤◌, Bool, List, [], ◌∷◌}
use Rattle.std.proofs.Common.{◌++◌, length, map, take, get_or, Option, IfSome, refl, sym, ap, subst, ◌∙◌, arith}
use Rattle.std.proofs.Common.{append_assoc, append-nil, false}
use Rattle.std.proofs.lemmas.Grind.{flat_map-append}
use Rattle.std.proofs.lemmas.List.{length-map, take_all, take_more}
use Rattle.std.specs.Io.KnownBytes.{Appends, Keeps, append_known}
use Rattle.std.specs.Global.{Vec}
use Rattle.std.specs.List.{flat_map, list_any, slice_get}
use Rattle.std.proofs.KnownBytes.{Appends-kept, Appends-trans}
use Rattle.lfs_types.specs.Caller.{Caller}
use Rattle.lfs_types.specs.StoreStates.{Shape}
use Rattle.lfs_types.specs.Tree.{opening_world}
use Rattle.lfs_types.specs.declared.answer.Answer.{Answer}
use Rattle.lfs_types.specs.declared.request.Request.{Request}
use Rattle.lfs_logstore.specs.States.{shape_of}
use Rattle.lfs_model.specs.Steps.{IsLegal}
use Rattle.lfs_model.specs.declared.journal.Entry.{Entry}
use Rattle.lfs_model.specs.declared.steps.StepAnswer.{StepAnswer}
use Rattle.lfs_model.specs.declared.steps.StepAnswer.TheVariants.{User}
use Rattle.lfs_settle.specs.Interleaving.{Agrees, IsInterleaving, Run, is_full, later_entries, run_of}
use Rattle.lfs_print.specs.AnswerText.{answer_line}
use Rattle.lfs_script.specs.PlanTypes.{Planned}
use Rattle.lfs_print.specs.ReportText.{report_text}
use Rattle.lfs_sinks.specs.Refusals.{AddsUp, refusals_of, refusals_text, run_report}
use Rattle.lfs_sinks.specs.declared.refusals.Refusals.{Refusals}
use Rattle.lfs_sinks.proofs.RefusalLemmas.{adds_joined}
use Rattle.lfs_script.specs.Splitting.{Sorts, is_of_cleaner}
use Rattle.lfs_audit.specs.Faults.{IsRead}
use Rattle.lfs_audit.specs.FiledRuns.{IsFiledThreads}
use Rattle.lfs_audit.specs.Threads.{IsClosedText, IsSplit, IsThreadsOutput, answers_of}
use Rattle.lfs_audit.specs.Threads.{closed_text}
use Rattle.lfs_audit.specs.Threads.{transcript_text, transcripts_text}
use Rattle.lfs_audit.proofs.FaultLemmas.{if_some}
use Rattle.lfs_audit.proofs.RunLemmas.{collected, from_start}

-- the lines of one more answer
transcript-more : (session : ℕ) (answers : List Answer) (k : ℕ) (d : Answer) → k < length answers
    → transcript_text session (take (k + 1) answers) ≡ transcript_text session (take k answers)
    ++ answer_line session (get_or answers k d)
transcript-more session answers k d lt =
    let line = answer_line session (get_or answers k d) in
    ap (transcript_text session) (take_more answers k d lt)
    ∙ flat_map-append (answer_line session) (take k answers) (get_or answers k d ∷ [])
    ∙ ap (λ (l : List ℕ). transcript_text session (take k answers) ++ l) (append-nil line)

-- the line of one more answer is collected, and perhaps a piece is written
pub transcript_grows : (session : ℕ) (answers : List Answer) (k : ℕ) (answer : Answer)
    (start known left : Option (List ℕ)) (text after : List ℕ) → k < length answers → get_or answers k answer ≡ answer
    → Appends start (append_known known text) (transcript_text session (take k answers)) → after ≡ text
    ++ answer_line session answer
    → Keeps (append_known known after) left → Appends start left (transcript_text session (take (k + 1) answers))
transcript_grows session answers k answer start known left text after lt here printed grown keeps =
    let lines = transcript_text session (take k answers) in
    let more : transcript_text session (take (k + 1) answers) ≡ lines ++ answer_line session answer =
    transcript-more session answers k answer lt ∙ ap (λ (a : Answer). lines ++ answer_line session a) here in
    subst (λ (l : List ℕ). Appends start left l) (sym more)
    (Appends-kept start (append_known known after) left (lines ++ answer_line session answer)
    (collected start known text after lines (answer_line session answer) printed grown) keeps)

-- the lines of one more session
transcripts-more : (session : ℕ) (transcripts : List (List Answer)) (k : ℕ) (d : List Answer) → k < length transcripts
    → transcripts_text session (take (suc k) transcripts) ≡ transcripts_text session (take k transcripts)
    ++ transcript_text (session + k) (get_or transcripts k d)
transcripts-more session [] k d lt = absurd (omega (arith, lt))
transcripts-more session (t ∷ ts) zero d lt =
    let same : session + 0 ≡ session = omega arith in
    append-nil (transcript_text session t) ∙ ap (λ (n : ℕ). transcript_text n t) (sym same)
transcripts-more session (t ∷ ts) (suc k) d lt =
    let same : session + 1 + k ≡ session + suc k = omega arith in
    ap (λ (l : List ℕ). transcript_text session t ++ l) (transcripts-more (session + 1) ts k d (omega (arith, lt))
    ∙ ap (λ (n : ℕ). transcripts_text (session + 1) (take k ts) ++ transcript_text n (get_or ts k d)) same)
    ∙ sym (append_assoc (transcript_text session t) (transcripts_text (session + 1) (take k ts))
    (transcript_text (session + suc k) (get_or ts k d)))

-- a further session's lines are collected or written
transcripts_grow : (transcripts : List (List Answer)) (k : ℕ) (answers : List Answer)
    (start known left : Option (List ℕ)) → k < length transcripts → get_or transcripts k [] ≡ answers
    → Appends start known (transcripts_text 1 (take k transcripts))
    → Appends known left (transcript_text (k + 1) answers)
    → Appends start left (transcripts_text 1 (take (k + 1) transcripts))
transcripts_grow transcripts k answers start known left lt here printed then =
    let lines = transcripts_text 1 (take k transcripts) in
    let one : k + 1 ≡ suc k = omega arith in
    let number : 1 + k ≡ k + 1 = omega arith in
    let more : transcripts_text 1 (take (k + 1) transcripts) ≡ lines ++ transcript_text (k + 1) answers =
    ap (λ (n : ℕ). transcripts_text 1 (take n transcripts)) one
    ∙ transcripts-more 1 transcripts k [] lt
    ∙ ap (λ (n : ℕ). lines ++ transcript_text n (get_or transcripts k [])) number
    ∙ ap (λ (a : List Answer). lines ++ transcript_text (k + 1) a) here in
    subst (λ (l : List ℕ). Appends start left l) (sym more)
    (Appends-trans start known left lines (transcript_text (k + 1) answers) printed then)

-- the answers of a vector in a list of them
item-answers : (transcripts : List (Vec Answer)) (k : ℕ) (transcript : Vec Answer) → k < length transcripts
    → get_or transcripts k transcript ≡ transcript
    → get_or (map (λ (t : Vec Answer). t.items) transcripts) k [] ≡ transcript.items
item-answers [] k transcript lt here = absurd (omega (arith, lt))
item-answers (t ∷ ts) zero transcript lt here = ap (λ (v : Vec Answer). v.items) here
item-answers (t ∷ ts) (suc k) transcript lt here = item-answers ts k transcript (omega (arith, lt)) here

-- the same, of a vector's answers
pub vectors_grow : (transcripts : List (Vec Answer)) (k : ℕ) (transcript : Vec Answer) (told : List Answer)
    (start known left : Option (List ℕ)) → k < length transcripts → get_or transcripts k transcript ≡ transcript
    → told ≡ transcript.items → Appends start known
    (transcripts_text 1 (take k (map (λ (t : Vec Answer). t.items) transcripts)))
    → Appends known left (transcript_text (k + 1) told)
    → Appends start left (transcripts_text 1 (take (k + 1) (map (λ (t : Vec Answer). t.items) transcripts)))
vectors_grow transcripts k transcript told start known left lt here tells printed then =
    let lists = map (λ (t : Vec Answer). t.items) transcripts in
    let within : k < length lists = subst (λ (n : ℕ). k < n)
    (sym (length-map transcripts (λ (t : Vec Answer). t.items))) lt in
    transcripts_grow lists k told start known left within (item-answers transcripts k transcript lt here
    ∙ sym tells) printed then

-- the answers of the setup were counted
pub adds_setup : (none new : Refusals) (setup : List Answer) → none ≡ refusals_of [] → AddsUp none new (map User setup)
    → AddsUp (refusals_of []) new (answers_of setup [])
adds_setup none new setup is adds =
    subst (λ (l : List StepAnswer). AddsUp (refusals_of []) new l) (sym (append-nil (map User setup)))
    (subst (λ (n : Refusals). AddsUp n new (map User setup)) is adds)

-- those of all sessions were counted
pub adds_transcripts : (new : Refusals) (setup : List Answer) (transcripts : List (Vec Answer)) (k : ℕ)
    → length transcripts ≤ k
    → AddsUp (refusals_of []) new (answers_of setup (take k (map (λ (t : Vec Answer). t.items) transcripts)))
    → new ≡ refusals_of (answers_of setup (map (λ (t : Vec Answer). t.items) transcripts))
adds_transcripts new setup transcripts k le adds =
    let lists = map (λ (t : Vec Answer). t.items) transcripts in
    let within : length lists ≤ k = subst (λ (n : ℕ). n ≤ k)
    (sym (length-map transcripts (λ (t : Vec Answer). t.items))) le in
    adds [] refl ∙ ap (λ (l : List (List Answer)). refusals_of (answers_of setup l)) (take_all k lists within)

-- the answers to a further session's calls were counted
pub adds_transcript : (old middle new : Refusals) (setup told : List Answer) (transcripts : List (Vec Answer)) (k : ℕ)
    (transcript : Vec Answer) → k < length transcripts → get_or transcripts k transcript ≡ transcript
    → told ≡ transcript.items
    → AddsUp old middle (answers_of setup (take k (map (λ (t : Vec Answer). t.items) transcripts)))
    → AddsUp middle new (map User told)
    → AddsUp old new (answers_of setup (take (k + 1) (map (λ (t : Vec Answer). t.items) transcripts)))
adds_transcript old middle new setup told transcripts k transcript lt here tells before one =
    let lists = map (λ (t : Vec Answer). t.items) transcripts in
    let within : k < length lists = subst (λ (n : ℕ). k < n)
    (sym (length-map transcripts (λ (t : Vec Answer). t.items))) lt in
    let last : get_or lists k [] ≡ told = item-answers transcripts k transcript lt here ∙ sym tells in
    let so_far = take k lists in
    let all : answers_of setup (take (k + 1) lists) ≡ answers_of setup so_far ++ map User told =
    ap (answers_of setup) (take_more lists k [] within)
    ∙ ap (λ (l : List StepAnswer). map User setup ++ l)
    (flat_map-append (map User) so_far (get_or lists k [] ∷ [])
    ∙ ap (λ (l : List StepAnswer). flat_map (map User) so_far ++ l) (append-nil (map User (get_or lists k []))))
    ∙ sym (append_assoc (map User setup) (flat_map (map User) so_far) (map User (get_or lists k [])))
    ∙ ap (λ (l : List Answer). answers_of setup so_far ++ map User l) last in
    subst (λ (l : List StepAnswer). AddsUp old new l) (sym all)
    (adds_joined old middle new (answers_of setup so_far) (map User told) before one)

-- the setup's lines, those of the sessions and the report are all written
pub closed_written : (journal : List Entry) (setup told : List Answer) (transcripts : List (List Answer))
    (counts : Refusals) (start known more left : Option (List ℕ)) (empty text after : List ℕ) (first : ℕ)
    → told ≡ setup → empty ≡ [] → Appends (append_known start empty) (append_known known text)
    (transcript_text first told) → first ≡ 0
    → Appends (append_known known text) (append_known more after) (transcripts_text 1 transcripts)
    → counts ≡ refusals_of (answers_of setup transcripts)
    → Appends (append_known more after) left (report_text journal ++ refusals_text counts)
    → Appends start left (closed_text journal setup transcripts)
closed_written journal setup told transcripts counts start known more left empty text after first tells nothing printed
    is_first then counted last =
    let a = transcript_text 0 setup in
    let b = transcripts_text 1 transcripts in
    let report = run_report journal (answers_of setup transcripts) in
    let told_last : Appends (append_known more after) left report =
    subst (λ (c : Refusals). Appends (append_known more after) left (report_text journal ++ refusals_text c)) counted
    last in
    let from_empty : Appends (append_known start []) (append_known known text) a =
    subst (λ (t : List Answer). Appends (append_known start []) (append_known known text) (transcript_text 0 t)) tells
    (subst (λ (e : List ℕ). Appends (append_known start e) (append_known known text) (transcript_text 0 told)) nothing
    (subst (λ (n : ℕ). Appends (append_known start empty) (append_known known text) (transcript_text n told)) is_first
    printed)) in
    let both : Appends (append_known start []) (append_known more after) (a ++ b) =
    Appends-trans (append_known start []) (append_known known text) (append_known more after) a b from_empty then in
    from_start start left (a ++ b ++ report)
    (Appends-trans (append_known start []) (append_known more after) left (a ++ b) report both told_last)

-- there are no more lists of answers than of calls where each agrees with its partner
few-lists : (is_full : Bool) (entries : List Entry) (scripts : List (List (Caller × Request)))
    (transcripts : List (List Answer))
    → ((k : ℕ) → (session : ℕ) × Agrees is_full entries session (slice_get scripts k) (slice_get transcripts k))
    → length transcripts ≤ length scripts
few-lists is_full entries [] [] agree = omega arith
few-lists is_full entries [] (t ∷ ts) agree = absurd (agree 0).1
few-lists is_full entries (s ∷ ss) [] agree = omega arith
few-lists is_full entries (s ∷ ss) (t ∷ ts) agree =
    let few = few-lists is_full entries ss ts (λ k. agree (suc k)) in omega (arith, few)

-- a run that is an interleaving has no more lists of answers than scripts
pub transcripts_few : (run : Run) → IsInterleaving run → length run.transcripts ≤ length run.scripts
transcripts_few run interleaved =
    few-lists (is_full run) (later_entries run) run.scripts run.transcripts (λ k.
    let back : suc k - 1 ≡ k = omega arith in (
      suc k,
      subst (λ (n : ℕ). Agrees (is_full run) (later_entries run) (suc k) (slice_get run.scripts n)
          (slice_get run.transcripts n)) back (interleaved.sessions (suc k) (omega arith)),
    ))

-- a plan was split
pub plan_split : (known : Option (List ℕ)) (plan : Planned) (setup : List (Caller × Request))
    (scripts : List (List (Caller × Request)))
    → IfSome known (λ script. IsRead script plan) → list_any is_of_cleaner plan.steps ≡ false → length scripts
    ≡ plan.sessions
    → Sorts plan.steps (plan.sessions + 1) (setup ∷ scripts) → IfSome known (λ script. IsSplit script setup scripts)
plan_split known plan setup scripts parsed users count sorted =
    if_some known (λ script. IsRead script plan) (λ script. IsSplit script setup scripts) parsed
    (λ script is. record {
      plan = plan;
      read = is;
      users = users;
      count = count;
      sorted = sorted;
    })

-- a run on threads was settled, and its text is written
pub threads_run : (known : Option (List ℕ)) (shape : Shape) (segments inodes : ℕ) (journal : List Entry)
    (limit after_limit : ℕ) (setup : List (Caller × Request)) (sessions : List (List (Caller × Request)))
    (answers : List Answer) (transcripts : List (Vec Answer)) (start left : Option (List ℕ))
    → IfSome known (λ script. IsSplit script setup sessions)
    → IsInterleaving (run_of journal after_limit setup answers sessions transcripts)
    → after_limit ≡ limit → shape ≡ shape_of inodes segments
    → IsLegal shape.numbers shape.segments journal opening_world
    → IsClosedText journal answers transcripts start left
    → IfSome known (λ script. (text : List ℕ) × IsThreadsOutput script segments inodes limit text
    × Appends start left text)
threads_run known shape segments inodes journal limit after_limit setup sessions answers transcripts start left split
    interleaved same shaped legal closed =
    if_some known (λ script. IsSplit script setup sessions) (λ script. (text : List ℕ)
    × IsThreadsOutput script segments inodes limit text × Appends start left text) split
    (λ script is. (
      closed_text journal answers (map (λ (transcript : Vec Answer). transcript.items) transcripts),
      record {
        run = run_of journal after_limit setup answers sessions transcripts;
        split = is;
        limited = same;
        legal = subst (λ (s : Shape). IsLegal s.numbers s.segments journal opening_world) shaped legal;
        interleaved = interleaved;
        printed = refl;
      },
      closed,
    ))

-- a run on threads was settled: its text, and the entries of its journal
pub filed_threads : (known : Option (List ℕ)) (shape : Shape) (segments inodes : ℕ) (journal : List Entry)
    (limit after_limit : ℕ) (setup : List (Caller × Request)) (sessions : List (List (Caller × Request)))
    (answers : List Answer) (transcripts : List (Vec Answer))
    → IfSome known (λ script. IsSplit script setup sessions)
    → IsInterleaving (run_of journal after_limit setup answers sessions transcripts)
    → after_limit ≡ limit → shape ≡ shape_of inodes segments
    → IsLegal shape.numbers shape.segments journal opening_world
    → IfSome known (λ script. IsFiledThreads script segments inodes limit journal
    (closed_text journal answers (map (λ (transcript : Vec Answer). transcript.items) transcripts)))
filed_threads known shape segments inodes journal limit after_limit setup sessions answers transcripts split
    interleaved same shaped legal =
    if_some known (λ script. IsSplit script setup sessions) (λ script. IsFiledThreads script segments inodes limit
    journal (closed_text journal answers (map (λ (transcript : Vec Answer). transcript.items) transcripts))) split
    (λ script is. record {
      output = record {
        run = run_of journal after_limit setup answers sessions transcripts;
        split = is;
        limited = same;
        legal = subst (λ (s : Shape). IsLegal s.numbers s.segments journal opening_world) shaped legal;
        interleaved = interleaved;
        printed = refl;
      };
      entered = refl;
    })
