use Rattle.std.proofs.Common.{ℕ, List, sym, subst}
use Rattle.lfs_words.specs.Lines.{HasNoLineFeed}
use Rattle.lfs_script.specs.Taking.{IsTaken}
use Rattle.lfs_script.proofs.parser.ScriptParser.finish.Goals as goal

pub returns : goal.returns
returns c =
    let same = sym c.as_slice.ensures.value in
    λ text has. c.finish.ensures text (subst (λ (l : List ℕ). IsTaken text l c.args.self.lines) same has.taken)
    (λ _. subst HasNoLineFeed same has.unended)
