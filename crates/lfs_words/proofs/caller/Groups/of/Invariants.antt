use Rattle.std.proofs.Common.{◌≡◌, true, length, map, take}
use Rattle.std.specs.List.{list_all}
use Rattle.lfs_words.specs.Callers.{groups_of, decimal_value, is_short}
use Rattle.lfs_words.proofs.caller.Groups.of.Given as goal

abbrev pub invariant-loop-group : goal.invariant-loop-group
invariant-loop-group l = record {
  kept : l.groups ≡ take 17 (map decimal_value (take (length l.yielded) (groups_of l.fn.word)));
  short : list_all is_short (take (length l.yielded) (groups_of l.fn.word)) ≡ true;
}
