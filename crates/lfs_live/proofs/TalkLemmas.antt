-- Lines are heard one after another: `heard_none`, `heard_next`, `heard_last`, `heard_failed` and `heard_enough` for
-- the loop of `hear_all`, `talk_ended` and `talk_failed` for `talk`. `HasHeard` has the lines so far with the text of
-- each; a further line has the number behind theirs, is heard by the volume and the speaker that they left, and goes to
-- the end of both lists (`hears-more`), while KeepingLemmas says what became of its entries. That there was a fault is
-- a disjunction over all lines (`faulty-more`). What is behind the last line feed is no line: if it has no bytes
-- nothing is told of it, else that it is cut off (`cut_silent`, `cut_told`).
use Rattle.std.proofs.Common.{◌≡◌, ◌==◌, ◌≢◌, ℕ, ◌+◌, List, [], ◌∷◌, ◌++◌, length, Bool, true, false, ◌||◌, Result, Ok, Err}
use Rattle.std.proofs.Common.{IfOk, Option, inl, inr, refl, sym, ap, subst, ◌∙◌, append-nil, arith, length-append}
use Rattle.std.specs.Io.KnownBytes.{Appends, Consumes, Keeps}
use Rattle.std.proofs.KnownBytes.{Appends-kept, Appends-nil, Appends-trans, Consumes-nil, Consumes-trans}
use Rattle.std.proofs.lemmas.Grind.{flat_map-append}
use Rattle.std.proofs.lemmas.Bool.{eqb-true}
use Rattle.std.proofs.lemmas.List.Elements.{All-nil}
use Rattle.lfs_model.specs.Steps.{IsLegal}
use Rattle.lfs_model.specs.declared.journal.Entry.{Entry}
use Rattle.lfs_model.specs.declared.steps.StepAnswer.{StepAnswer}
use Rattle.lfs_sinks.specs.Refusals.{run_report, tally_of}
use Rattle.lfs_sinks.specs.declared.totals.Tally.{Tally}
use Rattle.lfs_volume.specs.Journals.{Since}
use Rattle.lfs_volume.specs.Seen.{Seen}
use Rattle.lfs_live.specs.Held.{Course, HasKept, Held, MovesOn, Sink, course_of}
use Rattle.lfs_live.proofs.KeepingLemmas.{all_legal, kept_moved, kept_none, kept_tidied, line_follows, moves_on}
use Rattle.lfs_live.proofs.KeepingLemmas.{on_opened, tidied_opened, tidies_on}
use Rattle.lfs_words.specs.Lines.{HasNoLineFeed}
use Rattle.lfs_live.specs.Faulty.{have_fault, is_faulty, is_told}
use Rattle.lfs_live.specs.Frames.{framed, frames}
use Rattle.lfs_hearing.specs.Hearing.{heard_of}
use Rattle.lfs_live.specs.Steps.{FailsHere, HeardAll, HeardSoFar, HearsLast, HearsNext, IsTended, IsTold}
use Rattle.lfs_live.specs.Talkers.{Talker}
use Rattle.lfs_live.specs.Talking.{HasKeptSoFar, Hears, HearsAll, IsKeptTalk, IsLast, Tidies}
use Rattle.lfs_live.specs.Talking.{ended, first_speaker}
use Rattle.lfs_live.specs.Telling.{cut_texts, cut_line}
use Rattle.lfs_live.specs.declared.framing.Framing.{Framing}
use Rattle.lfs_live.specs.declared.talk.Standing.{Standing}
use Rattle.lfs_live.specs.Pieces.{IsPiece, ended_line}
use Rattle.lfs_hearing.specs.declared.hearing.Dot.TheVariants.{Quit}
use Rattle.lfs_hearing.specs.declared.hearing.Heard.{Heard}
use Rattle.lfs_hearing.specs.declared.hearing.Heard.TheVariants as heard
use Rattle.lfs_live.proofs.LineLemmas.{cut_kept, heard_kept}
use Rattle.lfs_audit.specs.declared.asker.Asker.{Asker}

-- A volume and who speaks became these by so many lines that were read, one after another, of which one had a fault or
-- none; and what is told of them is written, and nothing else.
pub record HasHeard {F J : Type 0} (r : Talker F) (framing : Framing) (sink : Sink J) (old new : Held F J)
    (then : Asker) (count : ℕ) (has_fault : Bool) (known left start out : Option (List ℕ)) : Type 0 where
  pub handed : List Entry
  pub answers : List StepAnswer
  pub lines : List (List ℕ)
  pub texts : List (List ℕ)
  pub heard : HearsAll r 1 (course_of old [] []) first_speaker lines texts (course_of new handed answers) then
  pub counted : length lines ≡ count
  pub faulty : has_fault ≡ have_fault lines texts
  pub kept : HasKept r.cleaner.state sink old new handed answers
  pub taken : Consumes known left (ended lines)
  pub printed : Appends start out (frames framing texts)

-- no line was heard
pub heard_none : {F J : Type 0} (r : Talker F) (framing : Framing) (sink : Sink J) (v : Held F J) (speaker : Asker)
    (has_fault : Bool) (known start : Option (List ℕ)) → speaker ≡ first_speaker → has_fault ≡ false
    → v.tally ≡ tally_of [] [] → v.volume.journal ≡ []
    → HasHeard r framing sink v v speaker 0 has_fault known known start start
heard_none r framing sink v speaker has_fault known start first faultless told empty = record {
  handed = [];
  answers = [];
  lines = [];
  texts = [];
  heard = (refl, first, refl);
  counted = refl;
  faulty = faultless;
  kept = kept_none r.cleaner.state sink v told empty;
  taken = Consumes-nil known;
  printed = Appends-nil start;
}

-- one more line, whose number is behind those of the others
hears-more : {F : Type 0} (r : Talker F) (from number : ℕ) (old middle : Course F) (volume : Seen F)
    (given : List StepAnswer) (after new : Course F) (first speaker
    then : Asker) (lines texts : List (List ℕ)) (line more : List ℕ) → number ≡ from + length lines
    → HearsAll r from old first lines texts middle speaker → HasNoLineFeed line
    → Hears r number middle.handed middle.answers middle.volume speaker (heard_of line) more volume then given
    → MovesOn (record middle { volume = volume; answers = middle.answers ++ given }) after → Tidies r.cleaner after new
    → HearsAll r from old first (lines ++ line ∷ []) (texts ++ more ∷ []) new then
hears-more {F} r from number old middle volume given after new first speaker
    then [] texts line more place heard unended next moves tidies =
    let here : number ≡ from = omega (arith, place) in (
      more,
      [],
      volume,
      after,
      new,
      then,
      given,
      ap (λ (l : List (List ℕ)). l ++ more ∷ []) heard.2,
      unended,
      subst (λ (n : ℕ). Hears r n old.handed old.answers old.volume first (heard_of line) more volume then given) here
          (subst (λ (c : Course F). Hears r number c.handed c.answers c.volume first (heard_of line) more volume
          then given) heard.0
          (subst (λ (s : Asker). Hears r number middle.handed middle.answers middle.volume s (heard_of line) more
          volume then given) heard.1 next)),
      subst (λ (c : Course F). MovesOn (record c { volume = volume; answers = c.answers ++ given }) after) heard.0 moves,
      tidies,
      (refl, refl, refl),
    )
hears-more r from number old middle volume given after new first speaker
    then (l ∷ lines) texts line more place heard unended next moves tidies = (
      heard.0,
      heard.1 ++ more ∷ [],
      heard.2,
      heard.3,
      heard.4,
      heard.5,
      heard.6,
      ap (λ (l : List (List ℕ)). l ++ more ∷ []) heard.7,
      heard.8,
      heard.9,
      heard.10,
      heard.11,
      hears-more r (from + 1) number heard.4 middle volume given after new heard.5 speaker
          then lines heard.1 line more (omega (arith, place)) heard.12 unended next moves tidies,
    )

ended-more : (lines : List (List ℕ)) (line : List ℕ) → ended (lines ++ line ∷ []) ≡ ended lines ++ ended_line line
ended-more lines line = flat_map-append ended_line lines (line ∷ [])
    ∙ ap (λ (l : List ℕ). ended lines ++ l) (append-nil (ended_line line))

frames-more : (framing : Framing) (texts : List (List ℕ)) (told : List ℕ)
    → frames framing (texts ++ told ∷ []) ≡ frames framing texts ++ framed framing told
frames-more framing texts told = flat_map-append (framed framing) texts (told ∷ [])
    ∙ ap (λ (l : List ℕ). frames framing texts ++ l) (append-nil (framed framing told))

or-false : (b : Bool) → (b || false) ≡ b
or-false true = refl
or-false false = refl

or-assoc : (a b c : Bool) → (a || (b || c)) ≡ ((a || b) || c)
or-assoc true b c = refl
or-assoc false b c = refl

-- whether there is a fault, with one more line
faulty-more : {F : Type 0} (r : Talker F) (from : ℕ) (old new : Course F) (first
    then : Asker) (lines texts : List (List ℕ)) (line told : List ℕ)
    → HearsAll r from old first lines texts new then
    → have_fault (lines ++ line ∷ []) (texts ++ told ∷ [])
    ≡ (have_fault lines texts || is_faulty (heard_of line) told)
faulty-more r from old new first then [] texts line told heard =
    ap (λ (l : List (List ℕ)). have_fault (line ∷ []) (l ++ told ∷ [])) heard.2
    ∙ or-false (is_faulty (heard_of line) told)
faulty-more r from old new first then (l ∷ lines) texts line told heard =
    let here = is_faulty (heard_of l) heard.0 in
    let more = is_faulty (heard_of line) told in
    ap (λ (a : List (List ℕ)). have_fault (l ∷ (lines ++ line ∷ [])) (a ++ told ∷ [])) heard.7
    ∙ ap (λ (b : Bool). here || b) (faulty-more r (from + 1) heard.4 new heard.5
    then lines heard.1 line told heard.12)
    ∙ or-assoc here (have_fault lines heard.1) more
    ∙ ap (λ (a : List (List ℕ)). have_fault (l ∷ lines) a || more) (sym heard.7)

-- one more line was heard
pub heard_next : {F J : Type 0} (r : Talker F) (framing : Framing) (sink : Sink J) (old middle new : Held F J)
    (was now : Standing) (count : ℕ) (known left rest start out more : Option (List ℕ))
    → HasHeard r framing sink old middle was.speaker count was.has_fault known left start out
    → was.number ≡ count + 1 → was.setting.framing ≡ framing
    → HearsNext r sink middle new was now left rest out more
    → HasHeard r framing sink old new now.speaker (count + 1) now.has_fault known rest start more
heard_next {F} {J} r framing sink old middle new was now count known left rest start out more heard place same next =
    let told = next.heard in
    let volume = told.middle in
    let tended = told.tended in
    let done : Held F J = record middle { volume = volume; tally = told.tally } in
    let given = told.answered.given in
    let answers = heard.answers ++ given in
    let hears = told.answered.heard heard.handed heard.answers heard.kept.counted in
    let follows = line_follows r was.number heard.handed heard.answers given middle.volume volume was.speaker
    now.speaker (heard_of next.line) told.told hears in
    let handed = heard.handed ++ tended.first in
    let longer : length (heard.lines ++ next.line ∷ []) ≡ length heard.lines + 1 =
    length-append heard.lines (next.line ∷ []) in
    let kept = kept_moved r.cleaner.state sink old middle tended.between volume told.tally heard.handed tended.first
    heard.answers answers heard.kept (told.answered.counted heard.handed heard.answers heard.kept.counted) follows
    tended.moves in
    record {
      handed = handed ++ tended.then;
      answers = answers;
      lines = heard.lines ++ next.line ∷ [];
      texts = heard.texts ++ told.told ∷ [];
      heard = hears-more r 1 was.number (course_of old [] []) (course_of middle heard.handed heard.answers) volume given
          (course_of tended.between handed answers) (course_of new (handed ++ tended.then) answers) first_speaker
          was.speaker now.speaker heard.lines heard.texts next.line told.told (omega (arith, place, heard.counted))
          heard.heard next.unended hears (moves_on r.cleaner.state sink (length middle.volume.journal) done
          tended.between heard.handed tended.first answers tended.moves)
          (tidies_on r.cleaner sink tended.between new handed tended.then answers tended.tidies);
      counted = omega (arith, longer, heard.counted);
      faulty = told.faulty ∙ ap (λ (b : Bool). b || is_faulty (heard_of next.line) told.told) heard.faulty
          ∙ sym (faulty-more r 1 (course_of old [] []) (course_of middle heard.handed heard.answers) first_speaker
          was.speaker heard.lines heard.texts next.line told.told heard.heard);
      kept = kept_tidied r.cleaner sink old tended.between new handed tended.then answers kept tended.tidies;
      taken = subst (λ (l : List ℕ). Consumes known rest l) (sym (ended-more heard.lines next.line))
          (Consumes-trans known left rest (ended heard.lines) (ended_line next.line) heard.taken next.taken);
      printed = subst (λ (l : List ℕ). Appends start more l) (sym (frames-more framing heard.texts told.told))
          (Appends-trans start out more (frames framing heard.texts) (framed framing told.told) heard.printed
          (subst (λ (f : Framing). Appends out more (framed f told.told)) same told.printed));
    }

-- the last was heard
pub heard_last : {F J : Type 0} (r : Talker F) (framing : Framing) (sink : Sink J) (old middle new : Held F J)
    (was now : Standing) (count : ℕ) (known left rest start out more : Option (List ℕ))
    → HasHeard r framing sink old middle was.speaker count was.has_fault known left start out
    → was.number ≡ count + 1 → was.setting.framing ≡ framing → new ≡ middle
    → HearsLast was now left rest out more
    → HeardAll r framing sink old new now.has_fault known rest start more
heard_last {F} {J} r framing sink old middle new was now count known left rest start out more heard place same still
    last =
    let behind : was.number ≡ length heard.lines + 1 = omega (arith, place, heard.counted) in
    subst (λ (v : Held F J). HeardAll r framing sink old v now.has_fault known rest start more) (sym still)
    (record {
      handed = heard.handed;
      answers = heard.answers;
      heard = record {
        then = was.speaker;
        lines = heard.lines;
        last = last.last;
        texts = heard.texts;
        last_texts = last.texts;
        heard = heard.heard;
        ends = subst (λ (n : ℕ). IsLast n last.last last.texts rest) behind last.ends;
        taken = Consumes-trans known left rest (ended heard.lines) last.last heard.taken last.taken;
        printed = subst (λ (l : List ℕ). Appends start more l)
            (sym (flat_map-append (framed framing) heard.texts last.texts))
            (Appends-trans start out more (frames framing heard.texts) (frames framing last.texts) heard.printed
            (subst (λ (f : Framing). Appends out more (frames f last.texts)) same last.printed));
      };
      faulty = last.faulty ∙ ap (λ (b : Bool). b || is_told last.texts) heard.faulty;
      kept = heard.kept;
    })

-- a read failed
pub heard_failed : {F J : Type 0} (r : Talker F) (framing : Framing) (sink : Sink J) (old middle new : Held F J)
    (speaker : Asker) (count : ℕ) (has_fault : Bool) (known left rest start out more : Option (List ℕ))
    → HasHeard r framing sink old middle speaker count has_fault known left start out → new ≡ middle
    → FailsHere left rest out more → HeardSoFar r framing sink old new known rest start more
heard_failed {F} {J} r framing sink old middle new speaker count has_fault known left rest start
    out more heard same fails =
    subst (λ (v : Held F J). HeardSoFar r framing sink old v known rest start more) (sym same)
    (record {
      handed = heard.handed;
      answers = heard.answers;
      heard = record {
        then = speaker;
        lines = heard.lines;
        part = fails.part;
        texts = heard.texts;
        heard = heard.heard;
        unended = fails.unended;
        taken = Consumes-trans known left rest (ended heard.lines) fails.part heard.taken fails.taken;
        printed = Appends-kept start out more (frames framing heard.texts) heard.printed fails.silent;
      };
      kept = heard.kept;
    })

-- no more lines are read
pub heard_enough : {F J : Type 0} (r : Talker F) (framing : Framing) (sink : Sink J) (old new : Held F J)
    (speaker : Asker) (count : ℕ) (has_fault : Bool) (known left start out : Option (List ℕ))
    → HasHeard r framing sink old new speaker count has_fault known left start out
    → HeardSoFar r framing sink old new known left start out
heard_enough r framing sink old new speaker count has_fault known left start out heard = record {
  handed = heard.handed;
  answers = heard.answers;
  heard = record {
    then = speaker;
    lines = heard.lines;
    part = [];
    texts = heard.texts;
    heard = heard.heard;
    unended = All-nil (λ (b : ℕ). b ≢ 10);
    taken = subst (λ (l : List ℕ). Consumes known left l) (sym (append-nil (ended heard.lines))) heard.taken;
    printed = heard.printed;
  };
  kept = heard.kept;
}

-- a sink that takes more behind a line took entries before it
pub tended_opened : {F J : Type 0} (r : Talker F) (sink : Sink J) (old : Held F J) (middle : Seen F) (tally : Tally)
    (new : Held F J) → IsTended r.cleaner sink old middle tally new → new.is_open ≡ true → old.is_open ≡ true
tended_opened r sink old middle tally new tended taking =
    on_opened (course_of (record old { volume = middle; tally = tally }) [] []) (course_of tended.between tended.first [])
    tended.moves.moves (tidied_opened r.cleaner sink tended.between new tended.then tended.tidies taking)

-- ---- the end

-- the report is written
pub talk_ended : {F J : Type 0} (r : Talker F) (framing : Framing) (sink : Sink J) (old new : Held F J)
    (has_fault : Bool) (known left start before out : Option (List ℕ))
    → HeardAll r framing sink old new has_fault known left start before
    → ((handed : List Entry) (answers : List StepAnswer) → new.tally ≡ tally_of handed answers
    → Appends before out (framed framing (run_report (handed ++ new.volume.journal) answers)))
    → Since (r.cleaner.state new.volume.since) new.volume.since_level
    (λ from. IsLegal (r.cleaner.state new.volume.store).shape.numbers
    (r.cleaner.state new.volume.store).shape.segments new.volume.journal from)
    → IsKeptTalk r framing sink old new has_fault known left start out
talk_ended r framing sink old new has_fault known left start before out heard reported legal = record {
  handed = heard.handed;
  answers = heard.answers;
  talk = record {
    before = before;
    heard = heard.heard;
    legal = all_legal r.cleaner.state sink old new heard.handed heard.answers heard.kept legal;
    reported = reported heard.handed heard.answers heard.kept.counted;
  };
  faulty = heard.faulty;
  kept = heard.kept.caught;
}

-- the same up to a read that failed
pub talk_failed : {F J : Type 0} (r : Talker F) (framing : Framing) (sink : Sink J) (old new : Held F J)
    (known left start out : Option (List ℕ))
    → HeardSoFar r framing sink old new known left start out
    → HasKeptSoFar r framing sink old new known left start out
talk_failed r framing sink old new known left start out heard =
    record { handed = heard.handed; answers = heard.answers; so_far = heard.heard; kept = heard.kept.caught }

-- ---- one line

-- a line was read, and is told
pub next_told : {F J : Type 0} (r : Talker F) (sink : Sink J) (old new : Held F J) (was now : Standing)
    (known left start out : Option (List ℕ)) (is_ended : Bool) (kept line : List ℕ)
    → IsPiece known left is_ended kept → is_ended ≡ true → line ≡ kept
    → IsTold r sink old new was now (heard_of line) start out
    → HearsNext r sink old new was now known left start out
next_told r sink old new was now known left start out is_ended kept line piece whole same told = record {
  line = piece.line;
  unended = piece.unended;
  heard = subst (λ (h : Heard). IsTold r sink old new was now h start out)
      (ap heard_of same ∙ heard_kept piece.line kept piece.kept_of) told;
  taken = piece.ended whole;
}

-- a line was read that quits
pub last_quits : (was now : Standing) (known left start out : Option (List ℕ)) (is_ended : Bool)
    (kept line : List ℕ) → IsPiece known left is_ended kept → is_ended ≡ true → line ≡ kept
    → now.has_fault ≡ was.has_fault → heard_of line ≡ heard.Dot Quit → Keeps start out
    → HearsLast was now known left start out
last_quits was now known left start out is_ended kept line piece whole same faultless quits silent = record {
  last = ended_line piece.line;
  texts = [];
  ends = inl (
    piece.line,
    piece.unended,
    sym (ap heard_of same ∙ heard_kept piece.line kept piece.kept_of) ∙ quits,
    refl,
    refl,
  );
  taken = piece.ended whole;
  printed = Appends-kept start start out [] (Appends-nil start) silent;
  faulty = faultless ∙ sym (or-false was.has_fault);
}

-- what is behind the last line feed was read, and is told
pub last_told : (was now : Standing) (known left start out : Option (List ℕ)) (is_ended : Bool) (kept line : List ℕ)
    → IsPiece known left is_ended kept → is_ended ≡ false → line ≡ kept
    → Appends start out (frames was.setting.framing (cut_texts was.number line))
    → now.has_fault ≡ (was.has_fault || is_told (cut_texts was.number line))
    → HearsLast was now known left start out
last_told was now known left start out is_ended kept line piece cut same written faulty =
    let is : cut_texts was.number line ≡ cut_texts was.number piece.line =
    ap (cut_texts was.number) same ∙ cut_kept was.number piece.line kept piece.kept_of in
    record {
      last = piece.line;
      texts = cut_texts was.number piece.line;
      ends = inr (piece.unended, (piece.last cut).1, refl);
      taken = (piece.last cut).0;
      printed = subst (λ (a : List (List ℕ)). Appends start out (frames was.setting.framing a)) is written;
      faulty = faulty ∙ ap (λ (a : List (List ℕ)). was.has_fault || is_told a) is;
    }

-- nothing is told of no bytes
pub cut_none : (number : ℕ) (bytes : List ℕ) → (length bytes == 0) ≡ true → cut_texts number bytes ≡ []
cut_none number [] none = refl
cut_none number (c ∷ cs) none =
    let no : length (c ∷ cs) ≡ 0 = eqb-true (length (c ∷ cs)) 0 none in absurd (omega (arith, no))

pub cut_some : (number : ℕ) (bytes : List ℕ) → (length bytes == 0) ≡ false
    → cut_texts number bytes ≡ cut_line number bytes ∷ []
cut_some number [] some = absurd (cc)
cut_some number (c ∷ cs) some = refl

-- of which there is no fault
pub cut_faultless : (number : ℕ) (bytes : List ℕ) (has_fault : Bool) → (length bytes == 0) ≡ true
    → has_fault ≡ (has_fault || is_told (cut_texts number bytes))
cut_faultless number bytes has_fault none =
    sym (ap (λ (a : List (List ℕ)). has_fault || is_told a) (cut_none number bytes none) ∙ or-false has_fault)

pub cut_silent : (framing : Framing) (number : ℕ) (bytes : List ℕ) (start : Option (List ℕ))
    → (length bytes == 0) ≡ true → Appends start start (frames framing (cut_texts number bytes))
cut_silent framing number bytes start none =
    subst (λ (a : List (List ℕ)). Appends start start (frames framing a)) (sym (cut_none number bytes none))
    (Appends-nil start)

-- of others a fault is told
pub cut_told : (framing : Framing) (number : ℕ) (bytes text : List ℕ) (start out : Option (List ℕ))
    → (length bytes == 0) ≡ false → text ≡ cut_line number bytes → Appends start out (framed framing text)
    → Appends start out (frames framing (cut_texts number bytes))
cut_told framing number bytes text start out some is told =
    subst (λ (a : List (List ℕ)). Appends start out (frames framing a)) (sym (cut_some number bytes some))
    (subst (λ (l : List ℕ). Appends start out l) (sym (append-nil (framed framing (cut_line number bytes))))
    (subst (λ (t : List ℕ). Appends start out (framed framing t)) is told))

pub cut_faulty : (number : ℕ) (bytes : List ℕ) (was now : Standing) → (length bytes == 0) ≡ false
    → now ≡ record was { has_fault = was.has_fault || true }
    → now.has_fault ≡ (was.has_fault || is_told (cut_texts number bytes))
cut_faulty number bytes was now some noted =
    ap (λ (s : Standing). s.has_fault) noted
    ∙ ap (λ (a : List (List ℕ)). was.has_fault || is_told a) (sym (cut_some number bytes some))

-- ---- results

-- what follows from the value of a result that is Ok
pub if_ok : {A E : Type 0} (P Q : A → Type 0) (result : Result A E) → IfOk result P → ((a : A) → P a → Q a)
    → IfOk result Q
if_ok P Q (Ok a) p next = next a p
if_ok P Q (Err e) p next = tt
