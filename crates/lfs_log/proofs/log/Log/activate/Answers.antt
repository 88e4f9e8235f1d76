use Rattle.std.proofs.Common.{rules, ◌≡◌, ◌<◌, ap, sym, subst, ◌∙◌}
use Rattle.lfs_ifile.specs.declared.segment.SegState.TheVariants.{Active, Clean, Dirty}
use Rattle.lfs_ifile.specs.Tables.{IsIfile, Tables, with_state}
use Rattle.lfs_segments.specs.Memory.{IsLaidOut}
use Rattle.lfs_segments.specs.Rising.{IsRising}
use Rattle.lfs_log.specs.Parts.{LogParts, opened_tables, state_of}
use Rattle.lfs_log.proofs.PartsLemmas.{IsParts-opened, opened_some}
use Rattle.lfs_log.proofs.log.Log.activate.Goals as goal

pub overflow_sub-self : goal.overflow_sub-self
overflow_sub-self c =
    let p : LogParts = record {
      memory = c.self.inside.segments;
      tables = c.self.inside.ifile;
      clean = c.self.inside.clean;
    } in
    let inside = subst (λ (q : LogParts). c.args.segment < q.memory.segments) (sym c.self.view_is) c.requires.inside in
    let clean = subst (λ (q : LogParts). state_of q.tables c.args.segment ≡ Clean) (sym c.self.view_is) c.requires.clean
    in
    opened_some p c.args.segment c.self.invariant inside clean

pub invariant_of-self : goal.invariant_of-self
invariant_of-self c =
    let p : LogParts = record {
      memory = c.self.inside.segments;
      tables = c.self.inside.ifile;
      clean = c.self.inside.clean;
    } in
    let segment = c.args.segment in
    let inside = subst (λ (q : LogParts). segment < q.memory.segments) (sym c.self.view_is) c.requires.inside in
    let clean = subst (λ (q : LogParts). state_of q.tables segment ≡ Clean) (sym c.self.view_is) c.requires.clean in
    let tables : c.set_state-2.new.self ≡ opened_tables p.tables p.memory.active segment =
    c.set_state-2.ensures.after
    ∙ ap (λ (t : Tables). with_state t segment Active) (c.set_state.ensures.after
    ∙ ap (λ a. with_state p.tables a Dirty) c.active-active.ensures.active) in
    rw (c.open_next.ensures.opened, tables)
    (IsParts-opened p segment c.self.invariant inside clean
    (subst IsLaidOut c.open_next.ensures.opened c.open_next.ensures.laid_out)
    (subst IsIfile tables c.set_state-2.ensures.formed))

pub returns-clause-kept : goal.returns-clause-kept
returns-clause-kept c = invariant_of-self c

pub returns-clause-opened : goal.returns-clause-opened
returns-clause-opened c = search rules

pub returns-clause-rising : goal.returns-clause-rising
returns-clause-rising c =
    subst (λ (p : LogParts). IsRising p.memory → IsRising c.open_next.new.self) c.self.view_is c.open_next.ensures.rising
