-- The line of an entry is read as that entry: `entry_back`, for the law `reads_back`. The line's words are the session
-- and caller, a bar, the call, a bar and the answer; none is empty or has a space, so the line is split into just these
-- (`line_back`), and no word of the first two fields is a bar, so it's cut where it was joined (`cut_back`). Each field
-- is then read back by its own lemma (CallerBack, BackCalls, BackAnswers); a verb that is a bar would break `verb_bar`.
use Rattle.std.proofs.Common.{◌≡◌, ℕ, suc, ◌^◌, ◌<◌, ◌≤◌, Bool, true, false, List, [], ◌∷◌, ◌++◌, length, codes, Ok}
use Rattle.std.proofs.Common.{refl, ap, ◌∙◌, inl, inr, arith, append_assoc, length-append}
use Rattle.std.proofs.Math.Seq.{drop-append-add, take-append_seam}
use Rattle.std.specs.Prelude.{decimal, nat_lt, not}
use Rattle.std.specs.List.{flat_map, list_all, list_any, position_or_len}
use Rattle.std.specs.Str.{bytes_eq}
use Rattle.std.proofs.lemmas.Bool.{and_parts, cases_Bool, lt-ltb}
use Rattle.std.proofs.lemmas.Fmt.{decimal_is_IsNumeral}
use Rattle.std.proofs.lemmas.List.Concat.{flat_map-append}
use Rattle.std.proofs.lemmas.List.Folds.{list_all-append}
use Rattle.std.proofs.lemmas.Slice.Eq.{bytes_eq-Decides}
use Rattle.lfs_types.specs.Caller.{Caller}
use Rattle.lfs_model.specs.declared.journal.Entry.{Entry}
use Rattle.lfs_model.specs.declared.journal.Event.{Event}
use Rattle.lfs_model.specs.declared.journal.Event.TheVariants.{User, Cleaner}
use Rattle.lfs_model.specs.Cleaning.{kind_of as cleaner_kind}
use Rattle.lfs_print.specs.CleanerWords.{cleaner_word}
use Rattle.lfs_script.proofs.SpellingLemmas.{is_verb, line_printable, words_split}
use Rattle.lfs_script.specs.CleanerSpelling.{handed_in}
use Rattle.lfs_script.specs.Spelling.{kind_of, operands}
use Rattle.lfs_script.specs.Verbs.{request_word}
use Rattle.lfs_script.specs.declared.verb.RequestKind.{RequestKind}
use Rattle.lfs_script.specs.declared.verb.RequestKind.TheVariants as kind
use Rattle.lfs_words.proofs.CallerBack.{caller_read_back, groups_back, groups_joined}
use Rattle.lfs_words.proofs.WordBytes.{decimal_word, word_there}
use Rattle.lfs_words.specs.CallerText.{AreShort, caller_words, groups_text, marked_words}
use Rattle.lfs_words.specs.Callers.{decimals_fault, groups_of}
use Rattle.lfs_words.specs.Wording.{is_bare, is_word, is_word_byte, spaced}
use Rattle.lfs_journal_lines.proofs.BackAnswers.{octet_back, tells_answer, tells_outcome}
use Rattle.lfs_journal_lines.proofs.BackCalls.{tells}
use Rattle.lfs_journal_lines.proofs.BackCleaning.{tells_act}
use Rattle.lfs_journal_lines.proofs.BackWords.{AreField, field_more, field_none, long_operand}
use Rattle.lfs_journal_lines.specs.Asked.{asked_told}
use Rattle.lfs_journal_lines.specs.EntryText.{asked_text, came_words, entry_text}
use Rattle.lfs_journal_lines.specs.Ranges.{IsCaller, IsEvent, IsTold}
use Rattle.lfs_journal_lines.specs.Reading.{cut_at_bar, entry_told, event_told, fields_told, is_bar, who_told}
use Rattle.lfs_journal_lines.specs.Reading.{words_told}
use Rattle.lfs_journal_lines.specs.declared.asked.Asked.{Asked}
use Rattle.lfs_journal_lines.specs.declared.asked.Asked.TheVariants as asked

-- ---- who called

visible_groups : (gs : List ℕ) → AreShort gs → list_all is_word_byte (flat_map (λ group. 44 ∷ decimal group) gs) ≡ true
visible_groups [] short = refl
visible_groups (g ∷ gs) short =
    let here = decimal_word g (omega (arith, short 0)) in
    let bytes = (and_parts (not (is_bare (decimal g))) (list_all is_word_byte (decimal g)) here).1 in
    list_all-append is_word_byte (decimal g) (flat_map (λ group. 44 ∷ decimal group) gs)
    ∙ rw (bytes, visible_groups gs (λ k. short (suc k))) refl

groups_word : (gs : List ℕ) → 1 ≤ length gs → AreShort gs → is_word (groups_text gs) ≡ true
groups_word [] some short = absurd (omega arith)
groups_word (g ∷ gs) some short =
    let here = decimal_word g (omega (arith, short 0)) in
    let parts = and_parts (not (is_bare (decimal g))) (list_all is_word_byte (decimal g)) here in
    let rest = flat_map (λ group. 44 ∷ decimal group) gs in
    let full : 0 < length (decimal g) = long_some g (omega (arith, short 0)) in
    let all : list_all is_word_byte (decimal g ++ rest) ≡ true =
    list_all-append is_word_byte (decimal g) rest ∙ rw (parts.1, visible_groups gs (λ k. short (suc k))) refl in
    rw (groups_joined g gs) (word_there (decimal g ++ rest) (omega (arith, length-append (decimal g) rest)) all)
  where
    long_some : (n : ℕ) → n < 2 ^ 64 → 0 < length (decimal n)
    long_some n lt = (decimal_is_IsNumeral n lt).0.0

groups_bar : (gs : List ℕ) → 1 ≤ length gs → AreShort gs → is_bar (groups_text gs) ≡ false
groups_bar gs some short =
    elim (cases_Bool (bytes_eq (groups_text gs) (codes "|"))) [
      | inl same ↦
          let e : groups_text gs ≡ codes "|" = (bytes_eq-Decides (groups_text gs) (codes "|")).0 same in
          let f : decimals_fault (groups_of (groups_text gs))
          ≡ decimals_fault (groups_of (codes "|")) = ap (λ w. decimals_fault (groups_of w)) e in
          let g = (groups_back gs some short).0 in
          absurd (cc)
      | inr differs ↦ differs
    ]

marked_field : (uid : ℕ) (groups : List ℕ) (init : Bool) → uid < 2 ^ 32 → is_word (groups_text groups) ≡ true
    → is_bar (groups_text groups) ≡ false
    → AreField (marked_words (decimal uid) (groups_text groups) init)
marked_field uid groups true lt word bar =
    let user = long_operand uid (omega arith) in
    field_more (decimal uid) _ user.word_is user.bar
    (field_more (groups_text groups) _ word bar (field_more (codes "init") [] refl refl field_none))
marked_field uid groups false lt word bar =
    let user = long_operand uid (omega arith) in
    field_more (decimal uid) _ user.word_is user.bar (field_more (groups_text groups) [] word bar field_none)

caller_field : (cred : Caller) → IsCaller cred → AreField (caller_words cred)
caller_field cred is =
    marked_field cred.uid cred.groups cred.init is.user (groups_word cred.groups is.some is.groups)
    (groups_bar cred.groups is.some is.groups)

who_back : (session : ℕ) (cred : Caller) → session < 256 → IsCaller cred
    → who_told (decimal session ∷ codes "as" ∷ caller_words cred) ≡ Ok (session, cred)
who_back session cred lt is =
    let back = caller_read_back cred (record {
      user = is.user;
      groups = is.groups;
      some = is.some;
      few = is.few;
      root = is.root;
    }) in
    rw (octet_back session lt, back) refl

-- ---- what was asked

abbrev asked_first : Event → List ℕ
asked_first (User request answer) = request_word (kind_of request)
asked_first (Cleaner act came) = cleaner_word (cleaner_kind act)

abbrev asked_rest : Event → List (List ℕ)
asked_rest (User request answer) = operands request
asked_rest (Cleaner act came) = handed_in act

abbrev asked_of : Event → Asked
asked_of (User request answer) = asked.User request
asked_of (Cleaner act came) = asked.Cleaner act

verb_bar : (k : RequestKind) → is_bar (request_word k) ≡ false
verb_bar kind.Stat = refl
verb_bar kind.Read = refl
verb_bar kind.Write = refl
verb_bar kind.List = refl
verb_bar kind.SetLength = refl
verb_bar kind.Create = refl
verb_bar kind.Mkdir = refl
verb_bar kind.Unlink = refl
verb_bar kind.Rmdir = refl
verb_bar kind.Rename = refl
verb_bar kind.Chmod = refl
verb_bar kind.Chown = refl
verb_bar kind.Chflags = refl
verb_bar kind.SetLevel = refl
verb_bar kind.Sync = refl

-- the words of an event may stand in a line, and are read as it
record TellsEvent (event : Event) : Type 0 where
  pub call : AreField (asked_first event ∷ asked_rest event)
  pub call_back : asked_told (asked_first event ∷ asked_rest event) ≡ Ok (asked_of event)
  pub came : list_all is_word (came_words event) ≡ true
  pub came_back : event_told (asked_of event) (came_words event) ≡ Ok event

tells_event : (event : Event) → IsEvent event → IsTold event → TellsEvent event
tells_event (User request answer) is told =
    let call = tells request is.0 in
    let came = tells_answer answer is.1 told in
    record {
      call = field_more (request_word (kind_of request)) (operands request)
          (is_verb (kind_of request)).word (verb_bar (kind_of request)) call.words;
      call_back = call.back;
      came = came.words;
      came_back = rw came.back refl;
    }
tells_event (Cleaner act outcome) is told =
    let call = tells_act act is.0 in
    let came = tells_outcome outcome is.1 in
    record { call = call.words; call_back = call.back; came = came.words; came_back = rw came.back refl }

-- ---- the line

none_bare : (words : List (List ℕ)) → list_all is_word words ≡ true → list_any is_bare words ≡ false
none_bare [] all = refl
none_bare (word ∷ words) all =
    let parts = and_parts (is_word word) (list_all is_word words) all in
    let inner = and_parts (not (is_bare word)) (list_all is_word_byte word) parts.0 in
    rw (bare_not (is_bare word) inner.0, none_bare words parts.1) refl
  where
    bare_not : (b : Bool) → not b ≡ true → b ≡ false
    bare_not true h = absurd (cc)
    bare_not false h = refl

first_bar : (words more : List (List ℕ)) → list_any is_bar words ≡ false
    → position_or_len is_bar (words ++ codes "|" ∷ more) ≡ length words
first_bar [] more none = refl
first_bar (word ∷ words) more none =
    elim (cases_Bool (is_bar word)) [
      | inl bar ↦ absurd (let h : list_any is_bar (word ∷ words) ≡ true = rw bar refl in cc)
      | inr differs ↦
          let rest : list_any is_bar words ≡ false = rw differs at none in
          rw differs (omega (arith, first_bar words more rest))
    ]

-- words are cut at a bar behind others
cut_back : (words more : List (List ℕ)) → list_any is_bar words ≡ false → cut_at_bar (words ++ codes "|" ∷ more)
    ≡ Ok (words, more)
cut_back words more none =
    let at = first_bar words more none in
    let within : nat_lt (length words) (length (words ++ codes "|" ∷ more)) ≡ true =
    lt-ltb (length words) (length (words ++ codes "|" ∷ more)) (omega (arith, length-append words (codes "|" ∷ more)))
    in
    rw (at, within, take-append_seam words (codes "|" ∷ more), drop-append-add words (codes "|" ∷ more) 1) refl

fields_back : (who call came : List (List ℕ)) (session : ℕ) (cred : Caller) (is : Asked) (event : Event)
    → list_any is_bar who ≡ false → list_any is_bar call ≡ false
    → who_told who ≡ Ok (session, cred) → asked_told call ≡ Ok is → event_told is came ≡ Ok event
    → fields_told (who ++ codes "|" ∷ (call ++ codes "|" ∷ came))
    ≡ Ok (record { session = session; cred = cred; event = event })
fields_back who call came session cred is event one two first second third =
    rw (cut_back who (call ++ codes "|" ∷ came) one, cut_back call came two, first, second, third) refl

-- a line of words is read as they are
line_back : (first : List ℕ) (words : List (List ℕ)) → list_all is_word (first ∷ words) ≡ true
    → words_told (first ++ spaced words) ≡ Ok (first ∷ words)
line_back first words all =
    let parts = and_parts (is_word first) (list_all is_word words) all in
    rw (
      line_printable first words parts.0 parts.1,
      words_split first words parts.0 parts.1,
      none_bare (first ∷ words) all,
    ) refl

joined : (session : List ℕ) (who : List (List ℕ)) (first : List ℕ) (rest came : List (List ℕ))
    → session ++ spaced who ++ 32 ∷ codes "|" ++ 32 ∷ (first ++ spaced rest) ++ 32 ∷ codes "|" ++ spaced came
    ≡ session ++ spaced (who ++ codes "|" ∷ (first ∷ rest ++ codes "|" ∷ came))
joined session who first rest came =
    rw (
      flat_map-append (λ (word : List ℕ). 32 ∷ word) who (codes "|" ∷ (first ∷ rest ++ codes "|" ∷ came)),
      flat_map-append (λ (word : List ℕ). 32 ∷ word) rest (codes "|" ∷ came),
    )
    (simp append_assoc)

asked_words : (event : Event) → asked_text event ≡ asked_first event ++ spaced (asked_rest event)
asked_words (User request answer) = refl
asked_words (Cleaner act came) = refl

all_words : (who call came : List (List ℕ)) → list_all is_word who ≡ true → list_all is_word call ≡ true
    → list_all is_word came ≡ true
    → list_all is_word (who ++ codes "|" ∷ (call ++ codes "|" ∷ came)) ≡ true
all_words who call came one two three =
    list_all-append is_word who (codes "|" ∷ (call ++ codes "|" ∷ came))
    ∙ rw (one, list_all-append is_word call (codes "|" ∷ came), two, three) refl

-- the line of an entry tells it
pub entry_back : (entry : Entry) → entry.session < 256 → IsCaller entry.cred → IsEvent entry.event → IsTold entry.event
    → entry_told (entry_text entry) ≡ Ok entry
unfolding entry_told entry_text
entry_back entry session caller is told =
    let event = tells_event entry.event is told in
    let as_words = caller_field entry.cred caller in
    let number = long_operand entry.session (omega arith) in
    let who = decimal entry.session ∷ codes "as" ∷ caller_words entry.cred in
    let call = asked_first entry.event ∷ asked_rest entry.event in
    let came = came_words entry.event in
    let who_field : AreField who = field_more (decimal entry.session) _ number.word_is number.bar
    (field_more (codes "as") (caller_words entry.cred) refl refl as_words) in
    let words : words_told (decimal entry.session
    ++ spaced ((codes "as" ∷ caller_words entry.cred) ++ codes "|" ∷ (call ++ codes "|" ∷ came)))
    ≡ Ok (who ++ codes "|" ∷ (call ++ codes "|" ∷ came)) =
    line_back (decimal entry.session) ((codes "as" ∷ caller_words entry.cred) ++ codes "|" ∷ (call ++ codes "|" ∷ came))
    (all_words who call came who_field.word event.call.word event.came) in
    let read = fields_back who call came entry.session entry.cred
    (asked_of entry.event) entry.event who_field.bars event.call.bars
    (who_back entry.session entry.cred session caller) event.call_back event.came_back in
    rw (
      asked_words entry.event,
      joined (decimal entry.session) (codes "as" ∷ caller_words entry.cred)
          (asked_first entry.event) (asked_rest entry.event) came,
      words,
    )
    read
