use Rattle.std.proofs.Common.{◌≡◌, ◌++◌, ◌∷◌, drop}
use Rattle.std.specs.Prelude.{codes, decimal}
use Rattle.lfs_who.specs.WhoText.{act_text, lines_text, named_text}
use Rattle.lfs_who.proofs.telling.push_one.Given as goal

abbrev pub invariant-loop-line : goal.invariant-loop-line
invariant-loop-line l =
    l.out.items ++ lines_text (act_text l.word ++ (codes "user" ++ 32 ∷ decimal l.named.uid))
    (drop l.line-index l.named.lines.items) ≡ l.fn.out.items ++ named_text l.word l.named
