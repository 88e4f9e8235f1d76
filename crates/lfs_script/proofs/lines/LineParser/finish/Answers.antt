use Rattle.std.proofs.Common.{Ok, sym, ap, ◌∙◌}
use Rattle.lfs_script.proofs.TakingLemmas.{ends_cut, ends_fault, ends_whole, taken_fails, taken_goes}
use Rattle.lfs_script.proofs.lines.LineParser.finish.Goals as goal

pub returns-in-Some : goal.returns-in-Some
returns-in-Some c =
    let self = c.args.self in
    λ text taken unended. ends_fault text (record { line = self.line; kind = c.in-Some.kind })
    (taken_fails text c.args.left.now self.line self.draft self.fault c.in-Some.kind c.in-Some.is taken)

pub returns-then-is_empty : goal.returns-then-is_empty
returns-then-is_empty c =
    let self = c.args.self in
    λ text taken unended. ends_whole text c.args.left.now self.line self.draft (sym c.is_empty.ensures ∙ c.if-is_empty.true)
    (taken_goes text c.args.left.now self.line self.draft self.fault c.in-None.is taken) ∙ ap Ok (sym c.finish.ensures)

pub returns-else-is_empty : goal.returns-else-is_empty
returns-else-is_empty c =
    let self = c.args.self in
    λ text taken unended. ends_cut text c.args.left.now self.line self.draft (unended c.in-None.is)
    (sym c.is_empty.ensures ∙ c.if-is_empty.false)
    (taken_goes text c.args.left.now self.line self.draft self.fault c.in-None.is taken)
