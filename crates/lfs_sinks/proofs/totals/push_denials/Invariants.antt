use Rattle.std.proofs.Common.{◌≡◌, ◌++◌, take}
use Rattle.std.specs.List.{flat_map, zip}
use Rattle.lfs_print.specs.ReportText.{denials_line}
use Rattle.lfs_sinks.proofs.totals.push_denials.Given as goal

abbrev pub invariant-loop-place : goal.invariant-loop-place
invariant-loop-place l = l.out.items ≡ l.fn.out.items ++ flat_map denials_line (take l.place (zip l.rules l.numbers))
