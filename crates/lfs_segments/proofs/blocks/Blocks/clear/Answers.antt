use Rattle.std.proofs.Common.{ℕ, List, ◌+◌, ◌-◌, ◌≤◌, length, replicate, ap, ◌∙◌, arith}
use Rattle.std.proofs.lemmas.List.{length-append, length-replicate}
use Rattle.lfs_types.specs.Blocks.{zero_block}
use Rattle.lfs_segments.specs.Blocks.{filled_up}
use Rattle.lfs_segments.specs.Memory.{written}
use Rattle.lfs_segments.proofs.FilledLemmas.{length-filled_up, put_behind, reached}
use Rattle.lfs_segments.proofs.blocks.Blocks.clear.Goals as goal

pub returns : goal.returns
returns c =
    let begun = c.self.inside.begun.items in let count = c.self.inside.count in
    let start = c.args.start in let end = c.args.end in
    let zeros = replicate (end - start) zero_block in
    let ordered = c.requires.ordered in
    let fits : length begun ≤ count = omega (arith, c.self.inside.begun.ok.0, c.self.invariant.0) in
    let given = rw (← c.self.view_is) at c.requires.inside in
    let inside : end ≤ count = omega (arith, given, length-filled_up begun count fits) in
    let zeros_long = length-replicate (end - start) zero_block in
    let reaches : start + length zeros ≤ length (reached begun end) = simp (length-append, length-replicate) (omega arith) in
    ap (λ (blocks : List (List ℕ)). filled_up blocks count)
    (c.clear.ensures.written ∙ ap (λ (blocks : List (List ℕ)). written blocks start zeros) c.reach.ensures.reached)
    ∙ put_behind begun start zeros end count fits inside reaches
    ∙ ap (λ (blocks : List (List ℕ)). written blocks start zeros) c.self.view_is
