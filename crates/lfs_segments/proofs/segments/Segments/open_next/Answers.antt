use Rattle.std.proofs.Common.{◌≡◌, ◌+◌, ◌-◌, ◌*◌, ◌/◌, ◌<◌, [], length, subst, sym, arith}
use Rattle.lfs_segments.specs.Log.{Expects}
use Rattle.lfs_segments.specs.Memory.{SegmentMemory, log_start, seen_with}
use Rattle.lfs_segments.specs.Rising.{IsRising}
use Rattle.lfs_segments.proofs.RisingLemmas.{rising-opened}
use Rattle.lfs_segments.proofs.MemoryLemmas.{opened_laid_out}
use Rattle.lfs_segments.proofs.WritingLemmas.{Expects-opened, opened_is}
use Rattle.lfs_segments.proofs.segments.Segments.open_next.Goals as goal

pub invariant_of-self : goal.invariant_of-self
invariant_of-self c =
    let old = c.self.inside in
    let segment = c.args.segment in
    let inside = c.requires in
    let view = c.self.view_is in
    let count : segment * 64 + 64 - (segment * 64 + log_start segment) ≡ 64 - log_start segment = omega arith in
    rw (c.clear.ensures, c.log_start-self-inside.ensures, count)
    (opened_laid_out old.serial old.blocks old.active old.fill segment c.self.invariant (rw (← view) at inside))

pub returns-clause-laid_out : goal.returns-clause-laid_out
returns-clause-laid_out c = invariant_of-self c

pub returns-clause-ready : goal.returns-clause-ready
returns-clause-ready c =
    let old = c.self.inside in
    let segment = c.args.segment in
    let given = c.requires in
    let view = c.self.view_is in
    let inside : segment < length old.blocks / 64 = rw (← view) at given in
    let count : segment * 64 + 64 - (segment * 64 + log_start segment) ≡ 64 - log_start segment = omega arith in
    let ready : Expects (seen_with old.serial c.clear.new.self segment c.log_start-self-inside.result) [] =
    rw (c.clear.ensures, c.log_start-self-inside.ensures, count)
    (subst (λ (m : SegmentMemory). Expects m [])
    (sym (opened_is old.serial old.blocks old.active old.fill segment c.self.invariant inside))
    (Expects-opened (seen_with old.serial old.blocks old.active old.fill) segment c.self.invariant inside)) in
    ready

pub returns-clause-rising : goal.returns-clause-rising
returns-clause-rising c =
    let old = c.self.inside in
    let segment = c.args.segment in
    let given = c.requires in
    let view = c.self.view_is in
    let inside : segment < length old.blocks / 64 = rw (← view) at given in
    let count : segment * 64 + 64 - (segment * 64 + log_start segment) ≡ 64 - log_start segment = omega arith in
    let rising : IsRising (seen_with old.serial old.blocks old.active old.fill)
    → IsRising (seen_with old.serial c.clear.new.self segment c.log_start-self-inside.result) =
    rw (c.clear.ensures, c.log_start-self-inside.ensures, count)
    (subst (λ (m : SegmentMemory). IsRising (seen_with old.serial old.blocks old.active old.fill) → IsRising m)
    (sym (opened_is old.serial old.blocks old.active old.fill segment c.self.invariant inside))
    (rising-opened (seen_with old.serial old.blocks old.active old.fill) segment c.self.invariant inside)) in
    subst (λ (m : SegmentMemory). IsRising m
    → IsRising (seen_with old.serial c.clear.new.self segment c.log_start-self-inside.result)) view rising
