use Rattle.std.proofs.Common.{◌≡◌, ap, subst, ◌∙◌}
use Rattle.lfs_segments.specs.Memory.{SegmentMemory}
use Rattle.lfs_parts.specs.declared.parts.Parts.{Parts}
use Rattle.lfs_disk.proofs.MomentLemmas.{widened}
use Rattle.lfs_disk_start.specs.Finding.{IsOnTheWayBack}
use Rattle.lfs_disk_start.specs.Mixing.{IsMixtureOf}
use Rattle.lfs_disk_start.proofs.FoundLemmas.{way_mixed}
use Rattle.lfs_disk_start.proofs.finding.find.Goals as goal

pub returns-in-Ok-write_back-clause-crash : goal.returns-in-Ok-write_back-clause-crash
returns-in-Ok-write_back-clause-crash g c =
    let d = g.D.BlockDisk in
    let blocks = c.args.blocks.items in
    let m = c.in-Some.memory in
    let p = c.in-Ok.store in
    let at : c.memory-2.result.now ≡ p.log.memory =
    c.memory-2.ensures ∙ ap (λ (q : Parts). q.log.memory) c.parts.ensures.parts in
    widened d.time d.left_since c.args.disk.now c.write_back.new.disk (IsOnTheWayBack blocks c.args.frames)
    (IsMixtureOf m.blocks c.memory-2.result.now.blocks) c.write_back.ensures.crash
    (λ l mix. way_mixed m blocks c.args.frames p c.in-Some.ensures.over c.in-Ok.ensures.found l
    (subst (λ (n : SegmentMemory). IsMixtureOf m.blocks n.blocks l) at mix))

pub returns-clause-crash : goal.returns-clause-crash
returns-clause-crash g c =
    let d = g.D.BlockDisk in
    let blocks = c.args.blocks.items in
    let m = c.in-Some.memory in
    let p = c.in-Ok.store in
    let at : c.memory-2.result.now ≡ p.log.memory =
    c.memory-2.ensures ∙ ap (λ (q : Parts). q.log.memory) c.parts.ensures.parts in
    widened d.time d.left_since c.args.disk.now c.write_back.new.disk (IsOnTheWayBack blocks c.args.frames)
    (IsMixtureOf m.blocks c.memory-2.result.now.blocks) c.write_back.ensures.crash
    (λ l mix. way_mixed m blocks c.args.frames p c.in-Some.ensures.over c.in-Ok.ensures.found l
    (subst (λ (n : SegmentMemory). IsMixtureOf m.blocks n.blocks l) at mix))
