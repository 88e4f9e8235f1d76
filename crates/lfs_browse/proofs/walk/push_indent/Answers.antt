use Rattle.std.proofs.Common.{◌≡◌, ℕ, ◌+◌, ◌*◌, List, [], ◌∷◌, ◌++◌, ap, ◌∙◌, append_assoc, arith}
use Rattle.std.specs.Prelude.{replicate}
use Rattle.std.proofs.lemmas.List.{replicate-append-replicate}
use Rattle.lfs_browse.specs.Trees.{indent}
use Rattle.lfs_browse.proofs.walk.push_indent.Goals as goal

indent-next : (n : ℕ) → indent n ++ 32 ∷ 32 ∷ [] ≡ indent (n + 1)
indent-next n =
    let more : 2 * n + 2 ≡ 2 * (n + 1) = omega arith in
    replicate-append-replicate (2 * n) 2 32 ∙ ap (λ (k : ℕ). replicate k 32) more

pub loop-preserved : goal.loop-preserved
loop-preserved c =
    let out = c.args.out.now.items in
    c.in_ok-extend_from_slice.ensures.items ∙ ap (λ (l : List ℕ). l ++ 32 ∷ 32 ∷ []) c.loop.invariant
    ∙ append_assoc out (indent c.loop.counter) (32 ∷ 32 ∷ [])
    ∙ ap (λ (l : List ℕ). out ++ l) (indent-next c.loop.counter)
