-- What parsing a script may answer.
use Rattle.std.specs.Prelude.{◌≡◌, ◌≢◌, ℕ, ◌-◌, ◌<◌, ◌≤◌, true, List, [], ◌∷◌, length, slice_index_or, Result, Ok, Err}
use Rattle.std.specs.Prelude.{IfErr}
use Rattle.lfs_words.specs.Lines.{is_printable}
use Rattle.lfs_words.specs.declared.fault.FaultKind.TheVariants.{Memory}
use Rattle.lfs_script.specs.PlanTypes.{Planned}
use Rattle.lfs_script.specs.Plans.{lines_of, plan_of}
use Rattle.lfs_script.specs.declared.fault.ScriptFault.{ScriptFault}

-- the first line of a text is ended by a line feed, and its bytes are printable
pub record BeginsReadable (text : List ℕ) : Type 0 where
  pub first : List ℕ
  pub more : List (List ℕ)
  pub lines : lines_of text ≡ first ∷ more
  pub ended : 0 < length more
  pub printable : is_printable first ≡ true

-- the same of line `number`; lines count from 1
pub record IsReadable (text : List ℕ) (number : ℕ) : Type 0 where
  pub counted : 1 ≤ number
  pub ended : number < length (lines_of text)
  pub printable : is_printable (slice_index_or (lines_of text) (number - 1) []) ≡ true

-- The plan, or the first fault. Memory may run out at a line that is ended and printable, and before which there is no
-- fault.
abbrev pub ParsesScript : List ℕ → Result Planned ScriptFault → Type 0
ParsesScript text (Ok plan) = plan_of text ≡ Ok plan
ParsesScript text (Err fault) =
    (fault.kind ≢ Memory → plan_of text ≡ Err fault)
    × (fault.kind ≡ Memory → IsReadable text fault.line)
    × IfErr (plan_of text) (λ first. fault.line ≤ first.line)
