use Rattle.std.proofs.Common.{◌≡◌, ◌≤◌, [], ◌∷◌, length, sym, ap, subst, arith}
use Rattle.lfs_segments.specs.Memory.{SegmentMemory, room_of}
use Rattle.lfs_file_disk.specs.declared.tests.TheConstants.{DATA, SUMMARY}
use Rattle.lfs_disk.specs.Mirroring.{FollowsOn}
use Rattle.lfs_disk.proofs.FollowLemmas.{append_follows}
use Rattle.lfs_file_disk.proofs.tests.blocks_stand_at_their_places.Goals as goal

pub write_out-requires-clause-goes_on : goal.write_out-requires-clause-goes_on
write_out-requires-clause-goes_on g c =
    let m = c.in_ok-memory.memory in
    let fill : m.fill ≡ 1 = ap (λ (x : SegmentMemory). x.fill) c.in_ok-memory.ensures.fresh in
    let others = SUMMARY ∷ DATA ∷ DATA ∷ [] in
    let fits : length others ≤ room_of m = omega arith in
    subst (λ (x : SegmentMemory). FollowsOn x c.append.new.self) (sym c.over-mirror.ensures.memory)
    (append_follows m c.append.new.self others c.append.ensures.appended c.in_ok-memory.ensures.laid_out
    c.append.ensures.laid_out fits)
