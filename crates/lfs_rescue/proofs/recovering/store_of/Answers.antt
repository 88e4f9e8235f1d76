use Rattle.std.proofs.Common.{sym, subst, ◌∙◌}
use Rattle.lfs_parts.specs.declared.parts.Parts.{Parts}
use Rattle.lfs_logstore.specs.States.{state_of}
use Rattle.lfs_calls.specs.Volumes.{HasWorld}
use Rattle.lfs_fsck.specs.Stored.{IsStored}
use Rattle.lfs_image.specs.Image.{IsLabelled}
use Rattle.lfs_checking.proofs.VolumeLemmas.{same_world}
use Rattle.lfs_rescue.specs.Recovering.{IsRecovered}
use Rattle.lfs_rescue.specs.Contents.{FindsAllOf}
use Rattle.lfs_rescue.proofs.BuildLemmas.{built_as, labelled, recovered_of}
use Rattle.lfs_rescue.proofs.WipedLemmas.{content_frames}
use Rattle.lfs_rescue.proofs.recovering.store_of.Goals as goal

pub check_names-requires-clause-stored : goal.check_names-requires-clause-stored
check_names-requires-clause-stored c = λ l is.
    let found = c.args.found in
    c.in_ok-live.ensures.stored l
    (built_as found.memory.now found.last found.places.now found.marks.now
    found.inodes c.requires.found c.deref.result.now c.in_ok-live.live.items l c.deref.ensures.value is)

pub check_names-requires-clause-content : goal.check_names-requires-clause-content
check_names-requires-clause-content c = λ l is.
    let found = c.args.found in
    c.in_ok-live.ensures.content l
    (built_as found.memory.now found.last found.places.now found.marks.now
    found.inodes c.requires.found c.deref.result.now c.in_ok-live.live.items l c.deref.ensures.value is)

pub store_over-requires-clause-stored : goal.store_over-requires-clause-stored
store_over-requires-clause-stored c =
    let found = c.args.found in
    c.in_ok-live.ensures.stored c.in_ok-log.log
    (built_as found.memory.now found.last found.places.now found.marks.now
    found.inodes c.requires.found c.deref-2.result.now c.in_ok-live.live.items c.in_ok-log.log c.deref-2.ensures.value
    c.in_ok-log.ensures)

pub returns-clause-recovered : goal.returns-clause-recovered
returns-clause-recovered c =
    let found = c.args.found in
    subst (λ (p : Parts). IsRecovered found.memory.now p.log) (sym c.in_ok-store.ensures)
    (recovered_of found.memory.now found.last found.places.now found.marks.now
    found.inodes c.requires.found c.deref-2.result.now c.in_ok-log.log c.in_ok-log.ensures
    c.in_ok-check_records.ensures.recorded)

pub returns-clause-labelled : goal.returns-clause-labelled
returns-clause-labelled c =
    let found = c.args.found in
    subst (λ (p : Parts). IsLabelled p.log) (sym c.in_ok-store.ensures)
    (labelled found.memory.now found.last found.places.now found.marks.now
    found.inodes c.requires.found c.deref-2.result.now c.in_ok-log.log c.in_ok-log.ensures)

pub returns-clause-stored : goal.returns-clause-stored
returns-clause-stored c =
    let found = c.args.found in
    subst (λ (p : Parts). IsStored p.log) (sym c.in_ok-store.ensures)
    (c.in_ok-live.ensures.stored c.in_ok-log.log
    (built_as found.memory.now found.last found.places.now found.marks.now
    found.inodes c.requires.found c.deref-2.result.now c.in_ok-live.live.items c.in_ok-log.log c.deref-2.ensures.value
    c.in_ok-log.ensures))

pub returns-clause-world : goal.returns-clause-world
returns-clause-world c =
    let found = c.args.found in
    let world = c.in_ok-check_names.ensures.world c.in_ok-log.log
    (built_as found.memory.now found.last found.places.now found.marks.now
    found.inodes c.requires.found c.deref-2.result.now c.deref.result.now c.in_ok-log.log
    (c.deref-2.ensures.value ∙ sym c.deref.ensures.value) c.in_ok-log.ensures) in
    subst (λ (p : Parts). HasWorld (state_of p)) (sym c.in_ok-store.ensures)
    (same_world c.in_ok-log.log c.args.frames world)

pub returns-clause-content : goal.returns-clause-content
returns-clause-content c =
    let found = c.args.found in
    let l = c.in_ok-log.log in
    let finds = c.in_ok-live.ensures.content l
    (built_as found.memory.now found.last found.places.now found.marks.now
    found.inodes c.requires.found c.deref-2.result.now c.in_ok-live.live.items l c.deref-2.ensures.value
    c.in_ok-log.ensures) in
    subst (FindsAllOf found.memory.now) (sym c.in_ok-store.ensures)
    (λ p d shown spares. content_frames l c.args.frames ∙ finds p d shown spares)
