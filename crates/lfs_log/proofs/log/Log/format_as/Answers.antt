use Rattle.std.proofs.Common.{rules, arith, ◌≤◌, ap, subst, ◌∙◌}
use Rattle.std.proofs.lemmas.Grind.{common_steps}
use Rattle.lfs_ifile.specs.Tables.{IsIfile, Tables, with_state}
use Rattle.lfs_ifile.specs.declared.segment.SegState.TheVariants.{Active}
use Rattle.lfs_segments.specs.Memory.{IsLaidOut, SegmentMemory}
use Rattle.lfs_log.proofs.PartsLemmas.{IsParts-fresh}
use Rattle.lfs_log.proofs.log.Log.format_as.Goals as goal

pub invariant_of-result : goal.invariant_of-result
invariant_of-result c =
    let after = c.set_state.ensures.after in
    let made = c.in_ok-ifile.ensures.ok in
    let fresh = c.in_ok-memory.ensures.fresh in
    let laid = c.in_ok-memory.ensures.laid_out in
    let some : 6 ≤ c.args.segments = subst (λ (m : SegmentMemory). 6 ≤ m.segments) fresh laid.at_least in
    rw (fresh, after, made) (IsParts-fresh c.args.segments c.args.inodes some c.args.serial (subst IsLaidOut fresh laid)
    (subst IsIfile (after ∙ ap (λ (t : Tables). with_state t 0 Active) made) c.set_state.ensures.formed))

pub returns-clause-kept : goal.returns-clause-kept
returns-clause-kept c = invariant_of-result c

pub returns-clause-fresh : goal.returns-clause-fresh
returns-clause-fresh c = search rules

pub returns-clause-empty : goal.returns-clause-empty
returns-clause-empty c = grind (arith, common_steps)
