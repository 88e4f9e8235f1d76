use Rattle.std.proofs.Common.{rules, ◌≡◌, ◌<◌, sym, subst, arith}
use Rattle.lfs_ifile.specs.declared.segment.SegState.TheVariants.{Dirty}
use Rattle.lfs_ifile.specs.Tables.{IsIfile}
use Rattle.lfs_log.specs.Parts.{LogParts, state_of}
use Rattle.lfs_log.proofs.PartsLemmas.{clean_count-most}
use Rattle.lfs_log.proofs.LiveLemmas.{IsParts-reclaimed}
use Rattle.lfs_log.proofs.log.Log.reclaim.Goals as goal

pub overflow_add-self : goal.overflow_add-self
overflow_add-self c =
    let most = clean_count-most c.self.inside.ifile c.self.inside.segments.segments in
    let counted = c.self.invariant.counted in
    let few = c.self.invariant.laid_out.at_most in
    omega arith

pub invariant_of-self : goal.invariant_of-self
invariant_of-self c =
    let p : LogParts = record {
      memory = c.self.inside.segments;
      tables = c.self.inside.ifile;
      clean = c.self.inside.clean;
    } in
    let inside = subst (λ (q : LogParts). c.args.segment < q.memory.segments) (sym c.self.view_is) c.requires.inside in
    let dirty = subst (λ (q : LogParts). state_of q.tables c.args.segment ≡ Dirty) (sym c.self.view_is) c.requires.dirty
    in
    rw c.set_state.ensures.after (IsParts-reclaimed p c.args.segment c.self.invariant inside dirty
    (subst IsIfile c.set_state.ensures.after c.set_state.ensures.formed))

pub returns-clause-kept : goal.returns-clause-kept
returns-clause-kept c = invariant_of-self c

pub returns-clause-clean : goal.returns-clause-clean
returns-clause-clean c = search rules

pub returns-clause-step : goal.returns-clause-step
returns-clause-step c = search rules
