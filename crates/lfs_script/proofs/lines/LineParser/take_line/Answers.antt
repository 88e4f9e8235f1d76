use Rattle.std.proofs.Common.{◌∷◌, ◌++◌}
use Rattle.lfs_script.proofs.TakingLemmas.{taken_fault, taken_goes, taken_next}
use Rattle.lfs_script.proofs.lines.LineParser.take_line.Goals as goal

pub returns-in-Err-clause-taken : goal.returns-in-Err-clause-taken
returns-in-Err-clause-taken c =
    let self = c.args.self.now in
    let line = c.args.line.now in
    λ whole behind unended taken. taken_fault whole line behind self.line self.draft c.in-Err.kind unended
    c.in-Err.ensures.0 c.in-Err.ensures.1
    (taken_goes whole (line ++ 10 ∷ behind) self.line self.draft self.fault c.requires.faultless taken)

pub returns-in_default-clause-taken : goal.returns-in_default-clause-taken
returns-in_default-clause-taken c =
    let self = c.args.self.now in
    let line = c.args.line.now in
    let grown = c.in_default.ensures in
    λ whole behind unended taken. taken_next whole line behind self.line self.draft c.add_line.new.draft grown.0
    self.fault c.requires.faultless unended grown.1 grown.2 taken
