use Rattle.std.proofs.Common.{ℕ, List, ◌≤◌, [], length, get_or, sym, ap, ◌∙◌, arith}
use Rattle.lfs_types.specs.Blocks.{zero_block}
use Rattle.lfs_segments.proofs.FilledLemmas.{get_or-beyond}
use Rattle.lfs_segments.proofs.blocks.Blocks.get.Goals as goal

pub returns-else-place-len : goal.returns-else-place-len
unfolding zero_block
returns-else-place-len c =
    let begun = c.self.inside.begun in let count = c.self.inside.count in let place = c.args.place in
    let behind : length begun.items ≤ place = omega (arith, begun.ok.0, c.len.ensures, c.if-place-len.false) in
    sym (get_or-beyond begun.items count place behind (rw (← c.self.view_is) at c.requires))
    ∙ ap (λ (blocks : List (List ℕ)). get_or blocks place []) c.self.view_is
