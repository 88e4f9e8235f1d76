use Rattle.std.proofs.Common.{ℕ, List, ◌+◌, ◌≤◌, length, ap, ◌∙◌, arith}
use Rattle.std.proofs.lemmas.List.{length-append, length-replicate}
use Rattle.lfs_segments.specs.Blocks.{filled_up}
use Rattle.lfs_segments.specs.Memory.{written}
use Rattle.lfs_segments.proofs.FilledLemmas.{length-filled_up, put_behind, reached}
use Rattle.lfs_segments.proofs.blocks.Blocks.put.Goals as goal

pub returns : goal.returns
returns c =
    let begun = c.self.inside.begun.items in let count = c.self.inside.count in
    let place = c.args.place in let others = c.args.others.now in
    let end = place + length others in
    let fits : length begun ≤ count = omega (arith, c.self.inside.begun.ok.0, c.self.invariant.0) in
    let given = rw (← c.self.view_is) at c.requires in
    let inside : end ≤ count = omega (arith, given, length-filled_up begun count fits) in
    let reaches : end ≤ length (reached begun end) = simp (length-append, length-replicate) (omega arith) in
    ap (λ (blocks : List (List ℕ)). filled_up blocks count)
    (c.put.ensures.written ∙ ap (λ (blocks : List (List ℕ)). written blocks place others) c.reach.ensures.reached)
    ∙ put_behind begun place others end count fits inside reaches
    ∙ ap (λ (blocks : List (List ℕ)). written blocks place others) c.self.view_is
