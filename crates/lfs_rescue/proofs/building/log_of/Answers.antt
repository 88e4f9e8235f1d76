use Rattle.std.proofs.Common.{◌≡◌, ◌<◌, ℕ, List, get_or, length, sym, ap, subst, ◌∙◌}
use Rattle.lfs_ifile.specs.declared.inode.InodeRow.{InodeRow}
use Rattle.lfs_ifile.specs.declared.segment.SegState.{SegState}
use Rattle.lfs_ifile.specs.declared.segment.SegState.TheVariants.{Clean}
use Rattle.lfs_ifile.specs.Tables.{IsIfile, Tables}
use Rattle.lfs_log.specs.Parts.{IsParts, clean_count}
use Rattle.lfs_rescue.specs.Building.{state_told, tables_of}
use Rattle.lfs_rescue.proofs.BuildLemmas.{formed, joined, stands_within}
use Rattle.lfs_rescue.proofs.building.log_of.Goals as goal

pub segments_of-requires-clause-inside : goal.segments_of-requires-clause-inside
segments_of-requires-clause-inside c =
    (stands_within c.args.found.memory.now c.args.found.last c.requires.found.logged).below

pub segments_of-requires-clause-end : goal.segments_of-requires-clause-end
segments_of-requires-clause-end c =
    (stands_within c.args.found.memory.now c.args.found.last c.requires.found.logged).high

pub ifile_of-requires : goal.ifile_of-requires
ifile_of-requires c =
    let found = c.args.found in
    let live = c.args.live.now in
    let states = c.in_ok-states.states.items in
    let rows = c.in_ok-rows.rows.items in
    let is = formed found.memory.now found.last found.places.now found.marks.now
    found.inodes c.requires.found live states rows
    c.requires.many c.requires.few c.in_ok-states.ensures.many c.in_ok-rows.ensures.many c.in_ok-rows.ensures.told
    c.in_ok-rows.ensures.fits in
    subst (λ (xs : List InodeRow). IsIfile (tables_of live c.deref.result.now xs)) (sym c.deref-2.ensures.value)
    (subst (λ (xs : List SegState). IsIfile (tables_of live xs rows)) (sym c.deref.ensures.value) is)

pub unreachable-requires : goal.unreachable-requires
unreachable-requires c =
    let found = c.args.found in
    let live = c.args.live.now in
    let states = c.in_ok-states.states.items in
    let rows = c.in_ok-rows.rows.items in
    let memory = c.in_ok-segments.segments in
    let is = formed found.memory.now found.last found.places.now found.marks.now
    found.inodes c.requires.found live states rows
    c.requires.many c.requires.few c.in_ok-states.ensures.many c.in_ok-rows.ensures.many c.in_ok-rows.ensures.told
    c.in_ok-rows.ensures.fits in
    let ifile : c.in_ok-ifile.ifile ≡ tables_of live states rows =
    c.in_ok-ifile.ensures ∙ ap (λ (xs : List SegState). tables_of live xs c.deref-2.result.now) c.deref.ensures.value
    ∙ ap (tables_of live states) c.deref-2.ensures.value in
    let told : (s : ℕ) → s < length live → get_or states s Clean ≡ state_told memory.active s (get_or live s 0) =
    λ s low. c.in_ok-states.ensures.told s low
    ∙ ap (λ (a : ℕ). state_told a s (get_or live s 0)) (sym c.in_ok-segments.ensures.ends.active) in
    let parts = joined found.memory.now found.last found.places.now found.marks.now
    found.inodes c.requires.found memory live states rows c.in_ok-segments.ensures.laid_out
    c.in_ok-segments.ensures.segments c.requires.many told is in
    subst (λ (t : Tables). (clean : ℕ) → IsParts (record { memory = memory; tables = t; clean = clean }) → ⊥) ifile
    c.in_default.ensures.none (clean_count (tables_of live states rows) memory.segments) parts
