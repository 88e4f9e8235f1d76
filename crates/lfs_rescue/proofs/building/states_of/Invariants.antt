use Rattle.std.proofs.Common.{◌≡◌, ◌<◌, ℕ, get_or, length}
use Rattle.lfs_ifile.specs.declared.segment.SegState.TheVariants.{Clean}
use Rattle.lfs_rescue.specs.Building.{state_told}
use Rattle.lfs_rescue.proofs.building.states_of.Given as goal

-- those so far are told
abbrev pub invariant-loop-segment : goal.invariant-loop-segment
invariant-loop-segment l = record {
  many : length l.states.items ≡ length l.live;
  told : (s : ℕ) → s < l.segment → get_or l.states.items s Clean ≡ state_told l.active s (get_or l.live s 0);
}
