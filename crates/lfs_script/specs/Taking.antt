-- How far a script is parsed whose text comes piece by piece.
use Rattle.std.specs.Prelude.{◌≡◌, ℕ, ◌+◌, List, ◌++◌, drop, length, Option, None, Some, Err}
use Rattle.lfs_words.specs.Lines.{HasNoLineFeed}
use Rattle.lfs_words.specs.declared.fault.FaultKind.{FaultKind}
use Rattle.lfs_script.specs.Parsing.{ParsesScript}
use Rattle.lfs_script.specs.PlanTypes.{Drafted}
use Rattle.lfs_script.specs.Plans.{lines_of, plan_from, plan_of}
use Rattle.lfs_script.specs.declared.lines.LineParser.{LineParser}
use Rattle.lfs_script.specs.declared.parser.ScriptParser.{ScriptParser}

-- A text has so many lines without a fault, which make this draft, and `left` behind them. So whatever comes behind the
-- text, its plan is the one that the draft grows to by the lines of what is left and of what comes.
pub record GoesOn (text left : List ℕ) (line : ℕ) (draft : Drafted) : Type 0 where
  pub plan : (more : List ℕ) → plan_of (text ++ more) ≡ plan_from (line + 1) draft (lines_of (left ++ more))
  pub lines : (more : List ℕ) → drop line (lines_of (text ++ more)) ≡ lines_of (left ++ more)

-- the same; or this is the fault of line `line`, and whatever comes behind the text, it is the first
abbrev pub IsTakenTo : List ℕ → List ℕ → ℕ → Drafted → Option FaultKind → Type 0
IsTakenTo text left line draft None = GoesOn text left line draft
IsTakenTo text left line draft (Some kind) =
    (more : List ℕ) → ParsesScript (text ++ more) (Err (record { line = line; kind = kind }))

-- of a text all was parsed but what is left; or its first fault was found
abbrev pub IsTaken : List ℕ → List ℕ → LineParser → Type 0
IsTaken text left parser = IsTakenTo text left parser.line parser.draft parser.fault

-- a text was taken: its lines are parsed, and what is behind the last of them is carried over; or its first fault was
-- found
pub record HasTaken (text : List ℕ) (parser : ScriptParser) : Type 0 where
  pub taken : IsTaken text parser.carry.items parser.lines
  pub unended : HasNoLineFeed parser.carry.items

-- no line that was begun has a higher number
abbrev pub most_lines : ScriptParser → ℕ
most_lines parser = parser.lines.line + length parser.carry.items
