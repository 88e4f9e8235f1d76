-- A script is taken piece by piece: `taken_start`, `taken_line`, `taken_fault` and `taken_more` for LineParser and
-- ScriptParser, and `ends_whole`, `ends_cut` and `ends_fault` for `finish`. What is known of a text is said of whatever
-- comes behind it, so a further piece is only joined to what comes (`taken_more`), and a line of what is left is a step
-- of PlanLemmas.
use Rattle.std.proofs.Common.{◌≡◌, ◌≢◌, ℕ, ◌+◌, ◌<◌, ◌==◌, true, false, List, [], ◌∷◌, ◌++◌, drop, length, Option, None, Some, Ok, is_some}
use Rattle.std.proofs.Common.{Err, refl, sym, ap, subst, ◌∙◌, arith, append_assoc, append-nil}
use Rattle.std.proofs.lemmas.Bool.{eqb-true}
use Rattle.std.proofs.lemmas.List.{nil_from_length}
use Rattle.std.proofs.lemmas.List.Elements.{All-append, All-nil}
use Rattle.lfs_words.specs.Lines.{HasNoLineFeed, IsFirstLine, is_printable}
use Rattle.lfs_words.specs.declared.fault.FaultKind.{FaultKind}
use Rattle.lfs_words.specs.declared.fault.FaultKind.TheVariants.{Cut, Memory}
use Rattle.lfs_script.specs.Parsing.{ParsesScript}
use Rattle.lfs_script.specs.PlanTypes.{Drafted}
use Rattle.lfs_script.specs.Plans.{added, first_draft, line_said, lines_of, plan_from, plan_of, planned}
use Rattle.lfs_script.specs.Taking.{GoesOn, HasTaken, IsTaken, IsTakenTo}
use Rattle.lfs_script.specs.declared.fault.ScriptFault.{ScriptFault}
use Rattle.lfs_script.specs.declared.parser.ScriptParser.{ScriptParser}
use Rattle.lfs_script.specs.declared.plan.Line.{Line}
use Rattle.lfs_script.proofs.PlanLemmas.{begins, lines_first, next_lines, plan_cut, plan_end, plan_least, plan_step}
use Rattle.lfs_script.proofs.PlanLemmas.{readable}

abbrev fault_at : ℕ → FaultKind → ScriptFault
fault_at n kind = record { line = n; kind = kind }

-- nothing is parsed
pub taken_start : (text : List ℕ) → GoesOn text text 0 first_draft
taken_start text = record { plan = λ more. refl; lines = λ more. refl }

-- a further piece
goes_more : (text left piece : List ℕ) (n : ℕ) (draft : Drafted) → GoesOn text left n draft
    → GoesOn (text ++ piece) (left ++ piece) n draft
goes_more text left piece n draft g = record {
  plan = λ more. ap plan_of (append_assoc text piece more) ∙ g.plan (piece ++ more)
      ∙ ap (λ (l : List ℕ). plan_from (n + 1) draft (lines_of l)) (sym (append_assoc left piece more));
  lines = λ more. ap (λ (l : List ℕ). drop n (lines_of l)) (append_assoc text piece more) ∙ g.lines (piece ++ more)
      ∙ ap lines_of (sym (append_assoc left piece more));
}

-- the first fault stays the first
pub fault_more : (text piece : List ℕ) (fault : ScriptFault)
    → ((more : List ℕ) → ParsesScript (text ++ more) (Err fault))
    → (more : List ℕ) → ParsesScript ((text ++ piece) ++ more) (Err fault)
fault_more text piece fault first =
    λ more. subst (λ (l : List ℕ). ParsesScript l (Err fault)) (sym (append_assoc text piece more))
    (first (piece ++ more))

pub taken_more : (text left piece : List ℕ) (n : ℕ) (draft : Drafted) (fault : Option FaultKind)
    → IsTakenTo text left n draft fault → IsTakenTo (text ++ piece) (left ++ piece) n draft fault
taken_more text left piece n draft None g = goes_more text left piece n draft g
taken_more text left piece n draft (Some kind) first = fault_more text piece (fault_at n kind) first

-- where no line has a fault
pub taken_goes : (text left : List ℕ) (n : ℕ) (draft : Drafted) (fault : Option FaultKind) → fault ≡ None
    → IsTakenTo text left n draft fault → GoesOn text left n draft
taken_goes text left n draft None none g = g
taken_goes text left n draft (Some kind) none first = absurd (cc)

-- where one has
pub taken_fails : (text left : List ℕ) (n : ℕ) (draft : Drafted) (fault : Option FaultKind) (kind : FaultKind)
    → fault ≡ Some kind → IsTakenTo text left n draft fault
    → (more : List ℕ) → ParsesScript (text ++ more) (Err (record { line = n; kind = kind }))
taken_fails text left n draft fault kind is taken =
    subst (λ (f : Option FaultKind). IsTakenTo text left n draft f) is taken

-- where one has, what is left says nothing
taken_past : (text left other : List ℕ) (n : ℕ) (draft : Drafted) (fault : Option FaultKind) → is_some fault ≡ true
    → IsTakenTo text left n draft fault → IsTakenTo text other n draft fault
taken_past text left other n draft None some g = absurd (cc)
taken_past text left other n draft (Some kind) some first = first

pub no_fault : (fault : Option FaultKind) → is_some fault ≡ false → fault ≡ None
no_fault None none = refl
no_fault (Some kind) none = absurd (cc)

first_line : (line behind more : List ℕ) → HasNoLineFeed line
    → IsFirstLine ((line ++ 10 ∷ behind) ++ more) line (behind ++ more)
first_line line behind more unended = record { whole = append_assoc line (10 ∷ behind) more; first = unended }

-- a line more
pub taken_line : (text line behind : List ℕ) (n : ℕ) (draft : Drafted) (said : Line) → HasNoLineFeed line
    → line_said line ≡ Ok said → GoesOn text (line ++ 10 ∷ behind) n draft
    → GoesOn text behind (n + 1) (added draft said)
taken_line text line behind n draft said unended is g = record {
  plan = λ more. let rest = (line ++ 10 ∷ behind) ++ more in
      g.plan more ∙ plan_step (n + 1) draft rest line (behind ++ more) (first_line line behind more unended)
      ∙ rw is refl;
  lines = λ more. let rest = (line ++ 10 ∷ behind) ++ more in
      next_lines (text ++ more) rest (behind ++ more) line n (g.lines more)
      (lines_first rest line (behind ++ more) (first_line line behind more unended));
}

pub taken_next : (text line behind : List ℕ) (n : ℕ) (draft next : Drafted) (said : Line) (fault : Option FaultKind)
    → fault ≡ None → HasNoLineFeed line → line_said line ≡ Ok said → next ≡ added draft said
    → IsTakenTo text (line ++ 10 ∷ behind) n draft fault → IsTakenTo text behind (n + 1) next fault
taken_next text line behind n draft next said None none unended is grown g =
    subst (λ (d : Drafted). GoesOn text behind (n + 1) d) (sym grown)
    (taken_line text line behind n draft said unended is g)
taken_next text line behind n draft next said (Some kind) none unended is grown first = absurd (cc)

-- a further piece ends the line that was carried over
pub taken_joined : (text carry piece end rest line : List ℕ) (n : ℕ) (draft : Drafted) (fault : Option FaultKind)
    → line ≡ carry ++ end → IsFirstLine piece end rest → IsTakenTo text carry n draft fault
    → IsTakenTo (text ++ piece) (line ++ 10 ∷ rest) n draft fault
taken_joined text carry piece end rest line n draft fault joined cut taken =
    let same : carry ++ piece ≡ line ++ 10 ∷ rest =
    ap (λ (l : List ℕ). carry ++ l) cut.whole ∙ sym (append_assoc carry end (10 ∷ rest))
    ∙ ap (λ (l : List ℕ). l ++ 10 ∷ rest) (sym joined) in
    subst (λ (l : List ℕ). IsTakenTo (text ++ piece) l n draft fault) same
    (taken_more text carry piece n draft fault taken)

pub joined_unended : (carry end line : List ℕ) → line ≡ carry ++ end → HasNoLineFeed carry → HasNoLineFeed end
    → HasNoLineFeed line
joined_unended carry end line joined first then =
    subst HasNoLineFeed (sym joined) (All-append (λ (b : ℕ). b ≢ 10) carry end first then)

-- a line that has a fault
pub taken_fault : (text line behind : List ℕ) (n : ℕ) (draft : Drafted) (kind : FaultKind) → HasNoLineFeed line
    → (kind ≢ Memory → line_said line ≡ Err kind) → (kind ≡ Memory → is_printable line ≡ true)
    → GoesOn text (line ++ 10 ∷ behind) n draft → (more : List ℕ)
    → ParsesScript (text ++ more) (Err (record { line = n + 1; kind = kind }))
taken_fault text line behind n draft kind unended said printable g more =
    let rest = (line ++ 10 ∷ behind) ++ more in
    let cut : IsFirstLine rest line (behind ++ more) = first_line line behind more unended in (
      λ other. g.plan more ∙ plan_step (n + 1) draft rest line (behind ++ more) cut ∙ rw (said other) refl,
      λ memory. readable (text ++ more) rest n (g.lines more) (begins rest line (behind ++ more) cut (printable memory)),
      rw (g.plan more) (plan_least (n + 1) draft (lines_of rest)),
    )

-- ---- the whole parser

-- what is left is carried over
pub has_carried : (text left : List ℕ) (parser : ScriptParser) → parser.carry.items ≡ left → HasNoLineFeed left
    → IsTaken text left parser.lines → HasTaken text parser
has_carried text left parser is unended taken = record {
  taken = subst (λ (l : List ℕ). IsTaken text l parser.lines) (sym is) taken;
  unended = subst HasNoLineFeed (sym is) unended;
}

-- nothing is carried over behind a fault
pub has_failed : (text left : List ℕ) (parser : ScriptParser) → parser.carry.items ≡ []
    → is_some parser.lines.fault ≡ true → IsTaken text left parser.lines → HasTaken text parser
has_failed text left parser is some taken =
    let lines = parser.lines in
    has_carried text [] parser is (All-nil (λ (b : ℕ). b ≢ 10))
    (taken_past text left [] lines.line lines.draft lines.fault some taken)

-- ---- the end of the text

pub ends_whole : (text left : List ℕ) (n : ℕ) (draft : Drafted) → (length left == 0) ≡ true → GoesOn text left n draft
    → plan_of text ≡ Ok (planned draft)
ends_whole text left n draft none g =
    let empty : left ≡ [] = nil_from_length left (eqb-true (length left) 0 none) in
    ap plan_of (sym (append-nil text)) ∙ g.plan []
    ∙ ap (λ (l : List ℕ). plan_from (n + 1) draft (lines_of (l ++ []))) empty ∙ plan_end (n + 1) draft

some_left : (left : List ℕ) → (length left == 0) ≡ false → 0 < length left
some_left [] e = absurd (cc)
some_left (c ∷ left) e = omega arith

pub ends_cut : (text left : List ℕ) (n : ℕ) (draft : Drafted) → HasNoLineFeed left → (length left == 0) ≡ false
    → GoesOn text left n draft → ParsesScript text (Err (record { line = n + 1; kind = Cut }))
ends_cut text left n draft unended some g =
    let is : plan_of text ≡ Err (fault_at (n + 1) Cut) =
    ap plan_of (sym (append-nil text)) ∙ g.plan []
    ∙ ap (λ (l : List ℕ). plan_from (n + 1) draft (lines_of l)) (append-nil left)
    ∙ plan_cut (n + 1) draft left unended (some_left left some) in (λ _. is, λ memory. absurd (cc), rw is (omega arith))

pub ends_fault : (text : List ℕ) (fault : ScriptFault)
    → ((more : List ℕ) → ParsesScript (text ++ more) (Err fault)) → ParsesScript text (Err fault)
ends_fault text fault first = subst (λ (l : List ℕ). ParsesScript l (Err fault)) (append-nil text) (first [])
