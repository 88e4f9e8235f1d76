use Rattle.std.proofs.Common.{◌≡◌, ◌++◌, ◌∙◌, List, ℕ, ap, sym}
use Rattle.lfs_script.specs.declared.parser.ScriptParser.{ScriptParser}
use Rattle.lfs_script.proofs.TakingLemmas.{has_carried, has_failed, no_fault}
use Rattle.lfs_script.proofs.parser.ScriptParser.take.Goals as goal

pub returns-in_ok-extend_from_slice-clause-taken : goal.returns-in_ok-extend_from_slice-clause-taken
returns-in_ok-extend_from_slice-clause-taken c =
    let left = c.take_lines-left.result.now in
    let none = no_fault c.take_lines-left.new.self.fault (sym c.has_fault-2.ensures ∙ c.if-not-has_fault.true) in
    let parser : ScriptParser = record { lines = c.take_lines-left.new.self; carry = c.extend_from_slice.new.self } in
    let empty = rw c.in-Some.is at c.in_ok-rest.ensures.carry in
    let carried : parser.carry.items ≡ left =
    c.in_ok-extend_from_slice.ensures.items ∙ ap (λ (l : List ℕ). l ++ left) empty.0 in
    λ text has.
    let taken = rw c.in-Some.is at (c.in_ok-rest.ensures.taken text has) in
    has_carried (text ++ c.args.piece.now) left parser carried (c.take_lines-left.ensures.unended none)
    (c.take_lines-left.ensures.taken (text ++ c.args.piece.now) taken)

pub returns-else-not-has_fault-clause-taken : goal.returns-else-not-has_fault-clause-taken
returns-else-not-has_fault-clause-taken c =
    let left = c.take_lines-left.result.now in
    let parser : ScriptParser = record { lines = c.take_lines-left.new.self; carry = c.end_carried.new.self.carry } in
    let empty = rw c.in-Some.is at c.in_ok-rest.ensures.carry in
    λ text has.
    let taken = rw c.in-Some.is at (c.in_ok-rest.ensures.taken text has) in
    has_failed (text ++ c.args.piece.now) left parser empty.0 (sym c.has_fault-2.ensures ∙ c.if-not-has_fault.false)
    (c.take_lines-left.ensures.taken (text ++ c.args.piece.now) taken)
