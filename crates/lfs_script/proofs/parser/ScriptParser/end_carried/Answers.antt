use Rattle.std.proofs.Common.{◌≡◌, ◌++◌, ◌∙◌}
use Rattle.lfs_script.proofs.TakingLemmas.{joined_unended, taken_joined}
use Rattle.lfs_script.proofs.parser.ScriptParser.end_carried.Goals as goal

pub returns-clause-taken : goal.returns-clause-taken
returns-clause-taken c =
    let lines = c.args.self.now.lines in
    let carry = c.args.self.now.carry.items in
    let piece = c.args.piece.now in
    let end = c.in-Some.end.now in
    let rest = c.in-Some.rest.now in
    let line = c.as_slice.result.now in
    let joined : line ≡ carry ++ end = c.as_slice.ensures.value ∙ c.in_ok-extend_from_slice-2.ensures.items in
    λ text has. c.take_line.ensures.taken (text ++ piece) rest
    (joined_unended carry end line joined has.unended c.in-Some.ensures.first)
    (taken_joined text carry piece end rest line lines.line lines.draft lines.fault joined c.in-Some.ensures has.taken)
