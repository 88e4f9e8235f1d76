-- A script is parsed while it is read: `read_more` for the loop of `read_plan`, `read_done`, `read_fault_of_line` and
-- `read_failed` for its ends. What was taken is what the reader had and has no more, so where it's at its end that is the
-- whole script, and where it gave too much the script has more bytes than it may.
use Rattle.std.proofs.Common.{◌≡◌, ℕ, ◌+◌, ◌<◌, ◌≤◌, true, false, List, ◌++◌, length, Option, None, Some, Ok, Err}
use Rattle.std.proofs.Common.{IfSome, refl, sym, ap, subst, ◌∙◌, arith, append-nil, length-append}
use Rattle.std.specs.Io.KnownBytes.{Consumes}
use Rattle.std.proofs.KnownBytes.{Consumes-trans, Consumes-whole}
use Rattle.lfs_io.specs.Pieces.{Pieced, ReadsNext}
use Rattle.lfs_io.specs.declared.read.ReadFault.{ReadFault}
use Rattle.lfs_io.specs.declared.read.ReadFault.TheVariants as read
use Rattle.lfs_script.specs.Parsing.{ParsesScript}
use Rattle.lfs_script.specs.PlanTypes.{Planned}
use Rattle.lfs_script.specs.Taking.{HasTaken, most_lines}
use Rattle.lfs_script.specs.declared.fault.ScriptFault.{ScriptFault}
use Rattle.lfs_script.specs.declared.parser.ScriptParser.{ScriptParser}
use Rattle.lfs_audit.specs.Faults.{IsRead, IsReadingFault, read_fault}
use Rattle.lfs_audit.specs.declared.fault.RunFault.{RunFault}
use Rattle.lfs_audit.specs.declared.fault.RunFault.TheVariants.{Script}

-- so many bytes were read of a script, and taken
pub record IsReadSoFar (known left : Option (List ℕ)) (total : ℕ) (parser : ScriptParser) : Type 0 where
  pub text : List ℕ
  pub taken : HasTaken text parser
  pub consumed : Consumes known left text
  pub count : length text ≡ total
  pub short : total ≤ 1048576
  pub lines : most_lines parser ≤ total

pub read_more : (known left rest : Option (List ℕ)) (total : ℕ) (old new : ScriptParser) (next : Pieced)
    → IsReadSoFar known left total old → ReadsNext left rest total next true → next.total ≤ 1048576
    → ((text : List ℕ) → HasTaken text old → HasTaken (text ++ next.piece) new)
    → most_lines new ≤ most_lines old + length next.piece → IsReadSoFar known rest next.total new
read_more known left rest total old new next so_far is short takes lines = record {
  text = so_far.text ++ next.piece;
  taken = takes so_far.text so_far.taken;
  consumed = Consumes-trans known left rest so_far.text next.piece so_far.consumed is.0.0;
  count = length-append so_far.text next.piece ∙ ap (λ (n : ℕ). n + length next.piece) so_far.count ∙ sym is.0.1;
  short = short;
  lines = omega (arith, lines, so_far.lines, is.0.1);
}

-- what holds of all that was read
whole : (known left rest : Option (List ℕ)) (total : ℕ) (parser : ScriptParser) (next : Pieced) (P : List ℕ → Type 0)
    → IsReadSoFar known left total parser → ReadsNext left rest total next false
    → ((text : List ℕ) → length text ≤ 1048576 → HasTaken text parser → P text) → IfSome known P
whole known left rest total parser next P so_far is holds =
    let none : so_far.text ++ next.piece ≡ so_far.text =
    ap (λ (l : List ℕ). so_far.text ++ l) is.1 ∙ append-nil so_far.text in
    let consumed : Consumes known rest so_far.text =
    subst (λ (l : List ℕ). Consumes known rest l) none
    (Consumes-trans known left rest so_far.text next.piece so_far.consumed is.0.0) in
    Consumes-whole known rest so_far.text P consumed is.2
    (holds so_far.text (omega (arith, so_far.count, so_far.short)) so_far.taken)

pub read_done : (known left rest : Option (List ℕ)) (total : ℕ) (parser : ScriptParser) (next : Pieced)
    (plan : Planned) → IsReadSoFar known left total parser → ReadsNext left rest total next false
    → ((text : List ℕ) → HasTaken text parser → ParsesScript text (Ok plan))
    → IfSome known (λ script. IsRead script plan)
read_done known left rest total parser next plan so_far is parses =
    whole known left rest total parser next (λ script. IsRead script plan) so_far is
    (λ text short taken. record { short = short; parsed = parses text taken })

pub read_fault_of_line : (known left rest : Option (List ℕ)) (total : ℕ) (parser : ScriptParser) (next : Pieced)
    (fault : ScriptFault) → IsReadSoFar known left total parser → ReadsNext left rest total next false
    → ((text : List ℕ) → HasTaken text parser → ParsesScript text (Err fault)) → IsReadingFault known (Script fault)
read_fault_of_line known left rest total parser next fault so_far is parses =
    whole known left rest total parser next
    (λ script. (length script ≤ 1048576) × ParsesScript script (Err fault)) so_far is
    (λ text short taken. (short, parses text taken))

too_long : (known left rest : Option (List ℕ)) (text more : List ℕ) (total : ℕ) → Consumes known left text
    → length text ≡ total → Consumes left rest more → 1048576 < total + length more
    → IfSome known (λ bytes. 1048576 < length bytes)
too_long None left rest text more total first count then long = tt
too_long (Some xs) None rest text more total first count then long = absurd first
too_long (Some xs) (Some ys) None text more total first count then long = absurd then
too_long (Some xs) (Some ys) (Some zs) text more total first count then long =
    omega (arith, length-append text ys, length-append more zs, ap length first, ap length then)

-- a reader that failed, or gave too much
pub read_failed : (known left rest : Option (List ℕ)) (total : ℕ) (parser : ScriptParser) (fault : ReadFault)
    (run : RunFault) → IsReadSoFar known left total parser
    → (fault ≡ read.TooLong → (more : List ℕ) × Consumes left rest more × (1048576 < total + length more))
    → run ≡ read_fault fault → IsReadingFault known run
read_failed known left rest total parser read.Read run so_far long is = rw is tt
read_failed known left rest total parser read.TooLong run so_far long is =
    let gave = long refl in
    rw is (too_long known left rest so_far.text gave.0 total so_far.consumed so_far.count gave.1 gave.2)
read_failed known left rest total parser read.Memory run so_far long is = rw is tt
