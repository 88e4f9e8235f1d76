use Rattle.std.proofs.Common.{◌<◌, ℕ, length, sym, ap, subst, ◌∙◌}
use Rattle.lfs_log.specs.Parts.{LogParts}
use Rattle.lfs_parts.specs.declared.parts.Parts.{Parts}
use Rattle.lfs_logstore.specs.States.{state_of}
use Rattle.lfs_calls.specs.Volumes.{HasWorld}
use Rattle.lfs_fsck.specs.Stored.{flushed}
use Rattle.lfs_checking.proofs.VolumeLemmas.{below_rows}
use Rattle.lfs_rescue.proofs.BuildLemmas.{built_one}
use Rattle.lfs_rescue.proofs.FoundLemmas.{names_fault, shows_tree}
use Rattle.lfs_rescue.proofs.naming.check_names.Goals as goal

pub store_over-requires-clause-stored : goal.store_over-requires-clause-stored
store_over-requires-clause-stored c = c.requires.stored c.in_ok-log.log c.in_ok-log.ensures

pub walk-requires : goal.walk-requires
walk-requires c = λ n used.
    subst (λ (k : ℕ). n < k) (ap (λ (p : Parts). length p.log.tables.rows) c.in_ok-store.ensures ∙ c.in_ok-log.ensures.many)
    (below_rows c.in_ok-store.store n used)

pub returns-in-Ok-clause-world : goal.returns-in-Ok-clause-world
returns-in-Ok-clause-world c = λ l is.
    let found = c.args.found in
    subst (λ (k : LogParts). HasWorld (state_of (flushed k)))
    (built_one found.memory.now found.last found.places.now found.marks.now
    found.inodes c.requires.found c.args.live.now c.in_ok-log.log l c.in_ok-log.ensures is)
    (subst (λ (p : Parts). HasWorld (state_of p)) c.in_ok-store.ensures c.in-Ok.ensures.world)

pub returns : goal.returns
returns c = record {
  world = tt;
  fault =
      let found = c.args.found in
      names_fault found.memory.now found.last found.places.now found.marks.now
      found.inodes c.requires.found (state_of c.in_ok-store.store)
      (λ p d shown crash.
      let world = shows_tree found.memory.now found.last found.places.now found.marks.now
      found.inodes c.requires.found p d shown crash c.args.live.now c.in_ok-log.log c.in_ok-log.ensures
      (c.requires.content c.in_ok-log.log c.in_ok-log.ensures) in
      subst (λ (q : Parts). HasWorld (state_of q)) (sym c.in_ok-store.ensures) world)
      c.in-Err.fault c.in-Err.ensures.fault;
}
