use Rattle.std.proofs.Common.{arith, ◌≡◌, ◌+◌, ◌-◌, length, take, drop, sym}
use Rattle.std.proofs.lemmas.Grind.{common_steps}
use Rattle.lfs_words.proofs.LineCuts.{cut_some, cut_none}
use Rattle.lfs_words.proofs.line.cut_line.Goals as goal

pub returns-in-Some : goal.returns-in-Some
returns-in-Some c =
    let whole : take (length c.args.text.now - (c.in-Some.at + 1)) (drop (c.in-Some.at + 1) c.args.text.now)
    ≡ drop (c.in-Some.at + 1) c.args.text.now = grind (arith, common_steps) in
    rw whole (cut_some c.args.text.now c.in-Some.at (sym c.in-Some.ensures))

pub returns-in-None : goal.returns-in-None
returns-in-None c = cut_none c.args.text.now (sym c.in-None.ensures)
