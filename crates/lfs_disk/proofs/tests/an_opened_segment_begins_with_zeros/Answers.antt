use Rattle.std.proofs.Common.{◌≡◌, ◌≢◌, ◌<◌, ◌≤◌, [], ◌∷◌, length, sym, ap, subst, arith}
use Rattle.lfs_segments.specs.Memory.{SegmentMemory, room_of}
use Rattle.lfs_disk.specs.declared.tests.TheConstants.{DATA, SUMMARY}
use Rattle.lfs_disk.specs.Mirroring.{FollowsOn}
use Rattle.lfs_disk.proofs.FollowLemmas.{open_follows}
use Rattle.lfs_disk.proofs.tests.an_opened_segment_begins_with_zeros.Goals as goal

pub write_out-requires-clause-goes_on : goal.write_out-requires-clause-goes_on
write_out-requires-clause-goes_on g c =
    let m = c.in_ok-memory.memory in
    let active : m.active ≡ 0 = ap (λ (x : SegmentMemory). x.active) c.in_ok-memory.ensures.fresh in
    let segments : m.segments ≡ 6 = ap (λ (x : SegmentMemory). x.segments) c.in_ok-memory.ensures.fresh in
    let fill : c.open_next.new.self.fill ≡ 0 = ap (λ (x : SegmentMemory). x.fill) c.open_next.ensures.opened in
    let inside : 3 < m.segments = omega arith in
    let other : 3 ≢ m.active = λ same. omega arith in
    let others = SUMMARY ∷ DATA ∷ [] in
    let fits : length others ≤ room_of c.open_next.new.self = omega arith in
    subst (λ (x : SegmentMemory). FollowsOn x c.append.new.self) (sym c.over-mirror.ensures.memory)
    (open_follows m c.open_next.new.self c.append.new.self 3 others c.open_next.ensures.opened c.append.ensures.appended
    c.in_ok-memory.ensures.laid_out c.open_next.ensures.laid_out c.append.ensures.laid_out inside other fits)
