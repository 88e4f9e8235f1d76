use Rattle.std.proofs.Common.{◌≡◌, ◌≢◌, [], ◌∷◌, List, ℕ, map, sym, ap, ◌∙◌, subst, arith}
use Rattle.lfs_bmap.specs.Blocks.{code_of, way_to}
use Rattle.lfs_bmap.specs.Ways.{codes_on}
use Rattle.lfs_bmap.proofs.HolderLemmas.{codes_on-block, codes_on-none}
use Rattle.lfs_parts.specs.View.{key_of}
use Rattle.lfs_segwrite.specs.Counting.{AddsKeys}
use Rattle.lfs_segwrite.proofs.CountingLemmas.{adds_both, adds_none}
use Rattle.lfs_segwrite.proofs.counting.KeyList.+add_way.Goals as goal

-- the block's key, and then those of what leads to it
pub returns-in-Some : goal.returns-in-Some
returns-in-Some t c =
    let key = key_of c.args.ino c.args.version in
    let above = map key (codes_on (way_to c.in-Some.cell.table)) in
    let other : code_of c.args.block ≢ 0 = λ e. let less = c.in-Some.ensures.less in absurd (omega arith) in
    let codes : codes_on (way_to c.args.block) ≡ code_of c.args.block ∷ codes_on (way_to c.in-Some.cell.table)
    = codes_on-block c.args.block c.requires.block other
    ∙ ap (λ b. code_of c.args.block ∷ codes_on (way_to b)) (sym c.in-Some.ensures.table) in
    let first : AddsKeys (key (code_of c.args.block) ∷ []) c.args.self.now c.add.new.self
    = subst (λ code. AddsKeys (key code ∷ []) c.args.self.now c.add.new.self) c.code-lbn.ensures c.add.ensures in
    subst (λ (cs : List ℕ). AddsKeys (map key cs) c.args.self.now c.add_way.new.self) (sym codes)
    (adds_both (key (code_of c.args.block) ∷ []) above c.args.self.now c.add.new.self c.add_way.new.self first
    c.add_way.ensures)

-- nothing leads to a record
pub returns-in_default : goal.returns-in_default
returns-in_default t c =
    subst (λ (cs : List ℕ). AddsKeys (map (key_of c.args.ino c.args.version) cs) c.args.self.now c.args.self.now)
    (sym (ap codes_on c.in_default.ensures.way ∙ codes_on-none)) (adds_none c.args.self.now)
