-- Stores that were just made show the opening tree.
use Rattle.std.proofs.Common.{◌≡◌, Result, Ok, IfOk, subst, sym}
use Rattle.lfs_types.specs.StoreStates.{StoreState}
use Rattle.lfs_types.specs.Tree.{opening_content, opening_world}
use Rattle.lfs_calls.specs.Content.{Shows}
use Rattle.lfs_volume.proofs.OpeningLemmas.{shows_opening_state}

-- a store that is one which was expected of a call that makes it in an opening state
pub shows_expected : {F E : Type 0} (state : F → StoreState) (opening : StoreState) (made : Result F E)
    (store given : F) → made ≡ Ok store → given ≡ store
    → IfOk made (λ s. state s ≡ opening) → opening.content ≡ opening_content → Shows (state given).content opening_world
shows_expected {F} {E} state opening made store given expected same opened content =
    let of_store : state store ≡ opening = subst (λ (r : Result F E). IfOk r (λ s. state s ≡ opening)) expected opened
    in
    shows_opening_state (state given) opening (subst (λ (s : F). state s ≡ opening) (sym same) of_store) content
