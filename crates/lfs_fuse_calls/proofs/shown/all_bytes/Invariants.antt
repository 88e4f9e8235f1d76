use Rattle.std.proofs.Common.{◌≡◌, take}
use Rattle.lfs_fuse_calls.specs.Shown.{all_bytes}
use Rattle.lfs_fuse_calls.proofs.shown.all_bytes.Given as goal

abbrev pub invariant-loop-answer : goal.invariant-loop-answer
invariant-loop-answer l = l.bytes.items ≡ all_bytes (take l.answer-index l.answers)
