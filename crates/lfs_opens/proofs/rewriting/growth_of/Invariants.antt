use Rattle.std.proofs.Common.{◌+◌, ◌≤◌, length}
use Rattle.lfs_opens.specs.Rewritten.{growth_of}
use Rattle.lfs_opens.proofs.rewriting.growth_of.Given as goal

abbrev pub invariant-loop-first : goal.invariant-loop-first
invariant-loop-first l = record {
  most : l.growth + growth_of l.node l.more l.rest ≤ growth_of l.node l.more l.files;
  all : l.growth ≤ 33554432 → growth_of l.node l.more l.files ≤ l.growth + growth_of l.node l.more l.rest;
}

abbrev pub decreases-loop-first : goal.decreases-loop-first
decreases-loop-first l = length l.rest
