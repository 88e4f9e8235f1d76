use Rattle.std.proofs.Common.{◌≡◌, ◌∷◌, [], Some, None, refl, sym, ap, ◌∙◌}
use Rattle.std.specs.Prelude.{option_copied}
use Rattle.lfs_cache.specs.Contents.{block_in}
use Rattle.lfs_bmap.specs.Blocks.{code_of, way_to}
use Rattle.lfs_bmap.specs.Reading.{address}
use Rattle.lfs_bmap.proofs.ReadingLemmas.{address-root, via-waits}
use Rattle.lfs_parts.specs.View.{tree_from}
use Rattle.lfs_parts.proofs.KeyLemmas.{code-other}
use Rattle.lfs_parts.proofs.ViewLemmas.{held_cell, root_cell, tree_dirty, via-free, way_to-some}
use Rattle.lfs_parts.proofs.parts.Parts.+address_of.Goals as goal

pub returns-in_default : goal.returns-in_default
returns-in_default t c =
    let tree = tree_from c.args.self.now c.args.inode.now in
    sym (ap (address tree) c.in_default.ensures.way ∙ address-root tree)

pub returns-in-Record : goal.returns-in-Record
returns-in-Record t c =
    let tree = tree_from c.args.self.now c.args.inode.now in
    let way : way_to c.args.block ≡ c.in-Some.field-0.index ∷ [] = c.in-Some.ensures.way
    ∙ ap (λ b. c.in-Some.field-0.index ∷ way_to b) c.in-Record.is in
    c.root_address.ensures ∙ sym (ap (address tree) way
    ∙ root_cell c.args.self.now c.args.inode.now c.in-Some.field-0.index)

pub returns-in-Some-dirty : goal.returns-in-Some-dirty
returns-in-Some-dirty t c =
    let p = c.args.self.now in let v = c.args.inode.now in let table = c.in-Some.field-0.table in
    let tree = tree_from p v in
    let some = way_to-some table (code-other table c.in-Single.is) in
    let held = ap option_copied (sym c.in-Some-dirty.is) ∙ c.dirty.ensures.value
    ∙ ap (λ k. block_in k p.cache.locked) c.key_of.ensures in
    let waits = tree_dirty p v table (code_of table) (Some c.in-Some-dirty.waiting.now) refl held in
    c.entry.ensures.read
    ∙ held_cell tree c.in-Some.field-0.index (way_to table) c.in-Some-dirty.waiting.now (address tree (way_to table)) some
    refl (sym (via-waits tree (way_to table) (address tree (way_to table)) c.in-Some-dirty.waiting.now waits))
    ∙ ap (address tree) (sym c.in-Some.ensures.way)

pub returns-in_default-dirty : goal.returns-in_default-dirty
returns-in_default-dirty t c =
    let p = c.args.self.now in let v = c.args.inode.now in let table = c.in-Some.field-0.table in
    let tree = tree_from p v in
    let some = way_to-some table (code-other table c.in-Single.is) in
    let held = ap option_copied (sym c.in_default-dirty.is) ∙ c.dirty.ensures.value
    ∙ ap (λ k. block_in k p.cache.locked) c.key_of.ensures in
    let waits = tree_dirty p v table (code_of table) None refl held in
    c.entry-in-Single.ensures.read
    ∙ held_cell tree c.in-Some.field-0.index (way_to table) c.in_log-held.result.now c.address_of.result some
    c.address_of.ensures
    (c.in_log-held.ensures ∙ sym (via-free tree (way_to table) c.address_of.result waits))
    ∙ ap (address tree) (sym c.in-Some.ensures.way)
