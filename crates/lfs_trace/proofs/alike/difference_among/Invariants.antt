use Rattle.std.proofs.Common.{◌≡◌, ◌≤◌, ◌<◌, ℕ}
use Rattle.lfs_trace.specs.Alike.{IsAlikeAt}
use Rattle.lfs_trace.specs.Checking.{plain_state}
use Rattle.lfs_trace.proofs.alike.difference_among.Given as goal

-- the numbers so far are alike
abbrev pub invariant-loop-number : goal.invariant-loop-number
invariant-loop-number g l = record {
  alike : (n : ℕ) → l.low ≤ n → n < l.number
      → IsAlikeAt (plain_state l.fn.plain).content (g.F.FileStore.state l.fn.store).content n;
  plain : plain_state l.plain ≡ plain_state l.fn.plain;
  state : g.F.FileStore.state l.store ≡ g.F.FileStore.state l.fn.store;
}
