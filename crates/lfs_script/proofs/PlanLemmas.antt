-- A plan is read line by line, and what was read with what is left is the plan of the whole text: `plan_step`,
-- `plan_end` and `plan_cut` for `take_line` and `parse_script`, `verb_first` for `parse_words`; SameLemmas of
-- `lfs_live` reads streams by them. `lines_of` splits at line feeds, so a text with a first line is that line and the
-- lines of the rest (`lines_first`), and one without a feed is cut off, unless it's empty. The hard part is that the
-- fault told is the first: no line before the one in hand is at fault (`plan_least`), so a check that could fail a line
-- by what stands behind it would break this.
use Rattle.std.proofs.Common.{◌≡◌, ℕ, zero, suc, ◌+◌, ◌-◌, ◌<◌, ◌≤◌, ◌==◌, Bool, true, false, cond, List, [], ◌∷◌}
use Rattle.std.proofs.Common.{length, map, take, drop, get_or, None, Some, Result, Ok, Err, refl, sym, ap, subst, ◌∙◌}
use Rattle.std.proofs.Common.{arith}
use Rattle.std.specs.List.{All, count_by}
use Rattle.std.specs.Result.{IfErr}
use Rattle.std.proofs.lemmas.Bool.{ne_eqb}
use Rattle.std.proofs.lemmas.List.{length-drop, take_all}
use Rattle.std.proofs.lemmas.List.Splits.{slice_split_at, slice_split_none, length-slice_split}
use Rattle.lfs_words.specs.Lines.{HasNoLineFeed, IsFirstLine}
use Rattle.lfs_words.specs.Lines.{is_printable}
use Rattle.lfs_script.specs.Parsing.{BeginsReadable, IsReadable}
use Rattle.lfs_script.specs.PlanTypes.{Drafted, Planned}
use Rattle.lfs_script.specs.Plans.{added, at_line, line_said, lines_of, plan_from, planned, text_said, verb_said}
use Rattle.lfs_script.specs.Plans.{words_said}
use Rattle.lfs_script.specs.Verbs.{verb_of}
use Rattle.lfs_script.specs.declared.verb.Verb.{Verb}
use Rattle.lfs_words.specs.Faults.{ReadsAs}
use Rattle.lfs_words.specs.Wording.{is_bare}
use Rattle.lfs_words.specs.declared.fault.FaultKind.{FaultKind}
use Rattle.lfs_words.specs.declared.fault.FaultKind.TheVariants.{Cut, Words}
use Rattle.lfs_script.specs.declared.fault.ScriptFault.{ScriptFault}
use Rattle.lfs_script.specs.declared.plan.Line.{Line}

abbrev pub feed : ℕ → Bool
feed b = b == 10

abbrev fault_at : ℕ → FaultKind → ScriptFault
fault_at n kind = record { line = n; kind = kind }

positive : (n : ℕ) → (n == 0) ≡ false → 0 < n
positive zero e = absurd (cc)
positive (suc n) e = omega arith

pub no_feeds : (line : List ℕ) → HasNoLineFeed line → All (λ b. feed b ≡ false) line
no_feeds line none = λ k d lt. ne_eqb _ _ (none k d lt)

pub lines_first : (text line rest : List ℕ) → IsFirstLine text line rest → lines_of text ≡ line ∷ lines_of rest
lines_first text line rest cut = rw cut.whole (slice_split_at feed line 10 rest (no_feeds line cut.first) refl)

pub lines_some : (text : List ℕ) → (length (lines_of text) == 0) ≡ false
lines_some text = rw (length-slice_split feed text) (ne_eqb (count_by feed text + 1) 0 (λ e. omega arith))

-- the first line of a text that is printable
pub begins : (text line rest : List ℕ) → IsFirstLine text line rest → is_printable line ≡ true → BeginsReadable text
begins text line rest cut printable =
    let some : (length (lines_of rest) == 0) ≡ false = lines_some rest in
    record {
      first = line;
      more = lines_of rest;
      lines = lines_first text line rest cut;
      ended = positive (length (lines_of rest)) some;
      printable = printable;
    }

behind_first : (all : List (List ℕ)) (n : ℕ) (first : List ℕ) (rest : List (List ℕ)) → drop n all ≡ first ∷ rest
    → drop (suc n) all ≡ rest
behind_first all zero first rest e = rw e refl
behind_first [] (suc n) first rest e = absurd (cc)
behind_first (x ∷ all) (suc n) first rest e = behind_first all n first rest e

-- the lines behind the first of those that are left
pub next_lines : (text rest behind first : List ℕ) (n : ℕ) → drop n (lines_of text) ≡ lines_of rest → lines_of rest
    ≡ first ∷ lines_of behind → drop (n + 1) (lines_of text) ≡ lines_of behind
next_lines text rest behind first n left split =
    let one : n + 1 ≡ suc n = omega arith in
    rw one (behind_first (lines_of text) n first (lines_of behind) (left ∙ split))

at_drop : (all : List (List ℕ)) (n : ℕ) (first : List ℕ) (rest : List (List ℕ)) → drop n all ≡ first ∷ rest
    → get_or all n [] ≡ first
at_drop all zero first rest e = rw e refl
at_drop [] (suc n) first rest e = absurd (cc)
at_drop (x ∷ all) (suc n) first rest e = at_drop all n first rest e

-- the first line of what is left is a line of the text
pub readable : (text rest : List ℕ) (n : ℕ) → drop n (lines_of text) ≡ lines_of rest → BeginsReadable rest
    → IsReadable text (n + 1)
readable text rest n left begun =
    let behind : drop n (lines_of text) ≡ begun.first ∷ begun.more = left ∙ begun.lines in
    let here : n + 1 - 1 ≡ n = omega arith in
    let count : length (lines_of text) - n ≡ suc (length begun.more) = sym (length-drop n (lines_of text))
    ∙ ap length behind in
    record {
      counted = omega arith;
      ended = omega (arith, count, begun.ended);
      printable = rw (here, at_drop (lines_of text) n begun.first begun.more behind) begun.printable;
    }

-- the first line is taken
pub plan_step : (n : ℕ) (draft : Drafted) (text line rest : List ℕ) → IsFirstLine text line rest
    → plan_from n draft (lines_of text) ≡ at_line n (line_said line)
    (λ said. plan_from (n + 1) (added draft said) (lines_of rest))
unfolding plan_from
plan_step n draft text line rest cut = rw (lines_first text line rest cut, lines_some rest) refl

-- nothing is left
pub plan_end : (n : ℕ) (draft : Drafted) → plan_from n draft (lines_of []) ≡ Ok (planned draft)
unfolding plan_from
plan_end n draft = refl

-- the last line has no line feed
pub plan_cut : (n : ℕ) (draft : Drafted) (text : List ℕ) → HasNoLineFeed text → 0 < length text
    → plan_from n draft (lines_of text) ≡ Err (record { line = n; kind = Cut })
unfolding plan_from
plan_cut n draft text none some =
    let bytes : is_bare text ≡ false = ne_eqb (length text) 0 (λ e. omega arith) in
    rw (slice_split_none feed text (no_feeds text none), bytes) refl

least_here : (last bare : Bool) (n : ℕ) (plan : Planned) (said : Result Line FaultKind) (next : Line
    → Result Planned ScriptFault) (fault : ScriptFault) → ((line : Line) → next line ≡ Err fault → n ≤ fault.line)
    → cond last (cond bare (Ok plan) (Err (record { line = n; kind = Cut }))) (at_line n said next) ≡ Err fault
    → n ≤ fault.line
least_here true true n plan said next fault later e = absurd (cc)
least_here true false n plan said next fault later e =
    let here : fault_at n Cut ≡ fault = cc in omega (arith, ap (λ (f : ScriptFault). f.line) here)
least_here false bare n plan (Ok line) next fault later e = later line e
least_here false bare n plan (Err kind) next fault later e =
    let here : fault_at n kind ≡ fault = cc in omega (arith, ap (λ (f : ScriptFault). f.line) here)

-- no line before the first is at fault
least : (n : ℕ) (draft : Drafted) (texts : List (List ℕ)) (fault : ScriptFault) → plan_from n draft texts ≡ Err fault
    → n ≤ fault.line
unfolding plan_from
least n draft [] fault e = absurd (cc)
least n draft (text ∷ texts) fault e =
    least_here (length texts == 0) (is_bare text) n (planned draft) (line_said text)
    (λ line. plan_from (n + 1) (added draft line) texts) fault
    (λ line later. let above : n + 1 ≤ fault.line = least (n + 1) (added draft line) texts fault later in omega arith) e

least_of : (result : Result Planned ScriptFault) (n : ℕ) → ((fault : ScriptFault) → result ≡ Err fault → n ≤ fault.line)
    → IfErr result (λ first. n ≤ first.line)
least_of (Ok plan) n at = tt
least_of (Err fault) n at = at fault refl

pub plan_least : (n : ℕ) (draft : Drafted) (texts : List (List ℕ))
    → IfErr (plan_from n draft texts) (λ first. n ≤ first.line)
plan_least n draft texts = least_of (plan_from n draft texts) n (λ fault e. least n draft texts fault e)

-- words of which the first is a verb
pub verb_first : {A : Type 0} (f : A → List ℕ) (words : List A) (d : A) (verb : Verb) (result : Result Line FaultKind)
    → 1 ≤ length words → verb_of (f (get_or words 0 d)) ≡ Some verb
    → ReadsAs (verb_said verb (map f (take (length words - 1) (drop 1 words)))) result
    → ReadsAs (words_said (map f words)) result
verb_first f [] d verb result least is reads = absurd (omega arith)
verb_first f (a ∷ words) d verb result least is reads =
    let whole : take (length (a ∷ words) - 1) words
    ≡ words = take_all (length (a ∷ words) - 1) words (omega arith) in rw is (rw whole at reads)

-- words of which the first is none
pub verb_missed : {A : Type 0} (f : A → List ℕ) (words : List A) (d : A) → 1 ≤ length words
    → verb_of (f (get_or words 0 d)) ≡ None → words_said (map f words) ≡ Err Words
verb_missed f [] d least is = absurd (omega arith)
verb_missed f (a ∷ words) d least is = rw is refl

-- no words
pub no_words : {A : Type 0} (f : A → List ℕ) (words : List A) → length words < 1 → words_said (map f words) ≡ Err Words
no_words f [] most = refl
no_words f (a ∷ words) most = absurd (omega arith)

-- a printable line says what its text says
pub said_there : (line text : List ℕ) (result : Result Line FaultKind) → is_printable line ≡ true → text ≡ line
    → ReadsAs (text_said text) result → ReadsAs (line_said line) result
unfolding line_said
said_there line text result printable same reads = rw printable (subst (λ t. ReadsAs (text_said t) result) same reads)
