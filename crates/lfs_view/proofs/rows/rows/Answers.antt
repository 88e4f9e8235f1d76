use Rattle.std.proofs.Common.{◌≡◌, ℕ, suc, ◌+◌, List, [], ◌∷◌, ◌++◌, refl, arith}
use Rattle.lfs_parts.specs.declared.parts.Parts.{Parts}
use Rattle.lfs_view.specs.MapText.{row_text}
use Rattle.lfs_view.specs.Rows.{first_rows}
use Rattle.lfs_view.proofs.rows.rows.Goals as goal

-- one more row
rows_more : (p : Parts) (done new : List (List ℕ)) (n : ℕ) (row : List ℕ) → done ≡ first_rows p n → row ≡ row_text p n
    → new ≡ done ++ row ∷ []
    → new ≡ first_rows p (n + 1)
unfolding first_rows
rows_more p done new n row so_far is grown =
    let one : n + 1 ≡ suc n = omega arith in
    rw (grown, so_far, is, one) refl

pub loop-segment-init : goal.loop-segment-init
unfolding first_rows
loop-segment-init c = c.new-rows.ensures.items

pub loop-segment-preserved : goal.loop-segment-preserved
loop-segment-preserved c =
    rows_more c.parts-parts.result.now c.loop-segment.rows.items c.push.new.self.items c.loop-segment.segment
    c.in_ok-row_of.field-0 c.loop-segment.invariant
    c.in_ok-row_of.ensures.row c.in_ok-push.ensures.items
