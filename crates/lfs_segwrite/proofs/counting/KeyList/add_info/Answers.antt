use Rattle.std.proofs.Common.{◌≡◌, [], List, ℕ, map, sym, ap, ◌∙◌, subst, inl, inr, arith}
use Rattle.lfs_bmap.specs.Blocks.{file_block_of}
use Rattle.lfs_bmap.proofs.BlockLemmas.{file_block_of-is}
use Rattle.lfs_parts.specs.View.{key_of}
use Rattle.lfs_segwrite.specs.Counting.{AddsKeys}
use Rattle.lfs_segwrite.specs.Marking.{code_named, codes_to_mark}
use Rattle.lfs_segwrite.proofs.CountingLemmas.{adds_none}
use Rattle.lfs_segwrite.proofs.NamedLemmas.{code_named-block, code_named-none, codes-block, codes-none, named_cases}
use Rattle.lfs_bmap.proofs.TableLemmas.{block_way_length}
use Rattle.lfs_segwrite.proofs.counting.KeyList.add_info.Goals as goal

pub add_way-requires-clause-room : goal.add_way-requires-clause-room
add_way-requires-clause-room c =
    let most = block_way_length c.in-Some.block c.in-Some.ensures.found.0 in
    let room = c.requires.room in
    omega arith

pub returns-in-Some : goal.returns-in-Some
returns-in-Some c =
    let info = c.args.info.now in
    let found = c.in-Some.ensures.found in
    subst (λ (cs : List ℕ). AddsKeys (map (key_of info.ino info.version) cs) c.args.self.now c.add_way.new.self)
    (sym (codes-block c.in-Some.block found.0) ∙ ap codes_to_mark (found.1 ∙ c.code_named.ensures)) c.add_way.ensures

-- a number of no block
pub returns-in_default : goal.returns-in_default
returns-in_default c =
    let info = c.args.info.now in
    let none : codes_to_mark (code_named info.lbn) ≡ [] = elim (named_cases info.lbn) [
      | inl h ↦
          let b = file_block_of h.0 in
          let code = sym (code_named-block h.0 h.1) ∙ ap code_named h.2 ∙ sym c.code_named.ensures in
          absurd (c.in_default.not-Some b (c.from_code.ensures.only b (file_block_of-is h.0 h.1) code))
      | inr other ↦ ap codes_to_mark (code_named-none info.lbn other) ∙ codes-none
    ] in
    subst (λ (cs : List ℕ). AddsKeys (map (key_of info.ino info.version) cs) c.args.self.now c.args.self.now) (sym none)
    (adds_none c.args.self.now)
