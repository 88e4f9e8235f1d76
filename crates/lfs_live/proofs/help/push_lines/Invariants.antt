use Rattle.std.proofs.Common.{◌≡◌, ◌++◌, drop}
use Rattle.std.specs.List.{flat_map}
use Rattle.lfs_live.specs.Pieces.{ended_line}
use Rattle.lfs_live.proofs.help.push_lines.Given as goal

abbrev pub invariant-loop-line : goal.invariant-loop-line
invariant-loop-line l =
    l.out.items ++ flat_map (λ line. ended_line line.now) (drop l.line-index l.lines)
    ≡ l.fn.out.items ++ flat_map (λ line. ended_line line.now) l.lines
