-- What states that are the same have in common, and what follows a state.
use Rattle.std.proofs.Common.{◌≡◌, refl, sym, ap, subst, arith}
use Rattle.lfs_types.specs.StoreStates.{Follows, StoreState}

pub same_content : {s t : StoreState} → s ≡ t → s.content ≡ t.content
same_content e = ap (λ (x : StoreState). x.content) e

pub same_numbers : {s t : StoreState} → s ≡ t → s.shape.numbers ≡ t.shape.numbers
same_numbers e = ap (λ (x : StoreState). x.shape.numbers) e

-- what follows a state that is the same follows the state
pub follows_same : {s mid new : StoreState} → mid ≡ s → Follows mid new → Follows s new
follows_same {new = new} e f = subst (λ (x : StoreState). Follows x new) e f

-- a state follows itself
pub follows_itself : {s new : StoreState} → new ≡ s → Follows s new
follows_itself {s} {new} e = subst (λ (x : StoreState). Follows s x) (sym e)
    (record { clean = λ none. omega arith; shape = refl })
