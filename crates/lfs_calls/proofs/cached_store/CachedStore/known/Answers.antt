use Rattle.std.proofs.Common.{◌≡◌, ℕ, Option, None, Some, refl, sym, subst, ◌∙◌}
use Rattle.std.specs.Prelude.{IfSome}
use Rattle.lfs_calls.specs.Names.{IsFound}
use Rattle.lfs_calls.proofs.ListedNames.{is_found, number-child}
use Rattle.lfs_calls.proofs.cached_store.CachedStore.known.Goals as goal
use Rattle.lfs_calls.proofs.cached_store.CachedStore.known.Goals.{After-look}

if_some : (P : Option ℕ → Type 0) (o : Option (Option ℕ)) → ((found : Option ℕ) → o ≡ Some found → P found) → IfSome o P
if_some P None h = tt
if_some P (Some found) h = h found refl

-- what is known is found
known : (g : _) (c : After-look g) (found : Option ℕ) → c.look.result ≡ Some found
    → IsFound (g.F.FileStore.state c.args.self.now).content c.args.dir c.args.name.now found
known g c found e = subst (λ x. IsFound (g.F.FileStore.state x).content c.args.dir c.args.name.now found) c.self.view_is
    (c.self.invariant.listed c.args.dir c.args.name.now found (sym c.look.ensures ∙ e))

pub returns-clause-found : goal.returns-clause-found
returns-clause-found g c =
    let k = (goal.at.returns-clause-found g c).After-look in
    if_some _ c.look.result (λ found e. sym (is_found
    (g.F.FileStore.state c.args.self.now).content c.args.dir c.args.name.now found c.requires (known g k found e)))

pub returns-clause-hangs : goal.returns-clause-hangs
returns-clause-hangs g c =
    let k = (goal.at.returns-clause-hangs g c).After-look in
    if_some _ c.look.result (λ found e w v.
    sym (number-child (g.F.FileStore.state c.args.self.now).content w v.shows c.args.dir c.requires c.args.name.now)
    ∙ is_found (g.F.FileStore.state c.args.self.now).content c.args.dir c.args.name.now found c.requires
    (known g k found e))
