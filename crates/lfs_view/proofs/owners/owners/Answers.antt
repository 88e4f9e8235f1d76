use Rattle.std.proofs.Common.{◌≡◌, ℕ, suc, ◌+◌, List, [], ◌∷◌, ◌++◌, refl, arith}
use Rattle.lfs_parts.specs.declared.parts.Parts.{Parts}
use Rattle.lfs_view.specs.Owners.{first_owners, owners_text}
use Rattle.lfs_view.proofs.owners.owners.Goals as goal

-- one more segment
owners_more : (p : Parts) (done new : List (List ℕ)) (n : ℕ) (text : List ℕ) → done ≡ first_owners p n
    → text ≡ owners_text p n → new ≡ done ++ text ∷ []
    → new ≡ first_owners p (n + 1)
unfolding first_owners
owners_more p done new n text so_far is grown =
    let one : n + 1 ≡ suc n = omega arith in
    rw (grown, so_far, is, one) refl

pub loop-segment-init : goal.loop-segment-init
unfolding first_owners
loop-segment-init c = c.new-owners.ensures.items

pub loop-segment-preserved : goal.loop-segment-preserved
loop-segment-preserved c =
    owners_more c.parts-parts.result.now c.loop-segment.owners.items c.push.new.self.items c.loop-segment.segment
    c.in_ok-owners_in.field-0 c.loop-segment.invariant
    c.in_ok-owners_in.ensures.owners c.in_ok-push.ensures.items
