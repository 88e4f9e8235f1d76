use Rattle.std.proofs.Common.{◌≡◌, ◌++◌, drop}
use Rattle.std.specs.Prelude.{codes}
use Rattle.lfs_who.specs.WhoText.{act_text, lines_text}
use Rattle.lfs_who.proofs.telling.push_others.Given as goal

abbrev pub invariant-loop-line : goal.invariant-loop-line
invariant-loop-line l =
    l.out.items ++ lines_text (act_text l.word ++ codes "others") (drop l.line-index l.others)
    ≡ l.fn.out.items ++ lines_text (act_text l.word ++ codes "others") l.others
