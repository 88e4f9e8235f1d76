use Rattle.std.proofs.Common.{◌≡◌, ℕ, ◌<◌, false}
use Rattle.lfs_cache.specs.Keys.{same_key}
use Rattle.lfs_cache.proofs.names.drop_name.Given as goal
use Rattle.lfs_cache.proofs.KeyLists.{key_in}

abbrev pub invariant-loop-place : goal.invariant-loop-place
invariant-loop-place l = record {
  same : l.names ≡ l.fn.names;
  others : (p : ℕ) → p < l.place
      → same_key (key_in l.names.items p) l.key ≡ false;
}
