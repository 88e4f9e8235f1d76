-- Where a path leads, name by name: `leads_by_names` and `shows_by_names`, for the law `paths_by_names`. The walk of a
-- path looks each name up in the row of before; no two rows hang under one name, so what hangs there is what is found
-- (`child_of_hangs`). By induction on the names the walk leads to a number just where each name's row hangs in the one
-- before, and a Stat shows the row there.
use Rattle.std.proofs.Common.{◌≡◌, ℕ, false, List, [], ◌∷◌, Option, None, Some, refl, sym, ap, ◌∙◌}
use Rattle.lfs_types.specs.Caller.{Caller}
use Rattle.lfs_types.specs.Tree.{attrs_of, root}
use Rattle.lfs_types.specs.declared.answer.Served.TheVariants as served
use Rattle.lfs_model.specs.World.{Rows, child, file_at, IsChild, IsTree}
use Rattle.lfs_model.specs.Rules.{attrs_at}
use Rattle.lfs_laws.specs.LawDenied.{led}
use Rattle.lfs_laws.specs.LawLeads.{Leads, LeadsByNames, ShowsByNames}
use Rattle.lfs_model.proofs.Children.{child-is, child-none}
use Rattle.lfs_laws.proofs.ServedLemmas.{led_none, led_reached}

abbrev nobody : Caller
nobody = record { uid = 0; groups = []; init = false }

module _ (rows : Rows) (tree : IsTree rows) where
  the_child : (at : ℕ) (name : List ℕ) (m : ℕ) → IsChild rows at name m → (o : Option ℕ) → child rows at name ≡ o
      → child rows at name ≡ Some m
  the_child at name m hangs None e = absurd (child-none rows at name e m hangs)
  the_child at name m hangs (Some k) e = e ∙ ap Some (tree.unique at name k m (child-is rows at name k e) hangs)

  -- what hangs in a directory under a name is what the name leads to
  pub child_of_hangs : (at : ℕ) (name : List ℕ) (m : ℕ) → IsChild rows at name m → child rows at name ≡ Some m
  child_of_hangs at name m hangs = the_child at name m hangs _ refl

  leads_on : (at n : ℕ) (name : List ℕ) (names : List (List ℕ))
      → ((m : ℕ) → led rows (Some m) names ≡ Some n → Leads rows m names n) → (o : Option ℕ)
      → child rows at name ≡ o
      → led rows o names ≡ Some n → Leads rows at (name ∷ names) n
  leads_on at n name names rest None e h = absurd (cc (sym (led_none rows nobody tree names) ∙ h))
  leads_on at n name names rest (Some m) e h = (m, child-is rows at name m e, rest m h)

  pub leads_of : (at n : ℕ) (path : List (List ℕ)) → led rows (Some at) path ≡ Some n → Leads rows at path n
  leads_of at n [] h = cc
  leads_of at n (name ∷ names) h = leads_on at n name names (λ m. leads_of m n names) (child rows at name) refl h

  pub led_of : (at n : ℕ) (path : List (List ℕ)) → Leads rows at path n → led rows (Some at) path ≡ Some n
  led_of at n [] h = ap Some h
  led_of at n (name ∷ names) h = ap (λ o. led rows o names) (child_of_hangs at name h.0 h.1) ∙ led_of h.0 n names h.2

pub leads_by_names : LeadsByNames
leads_by_names w path n tree = (leads_of w.rows tree root n path, led_of w.rows tree root n path)

pub shows_by_names : ShowsByNames
shows_by_names w path n r tree leads there =
    ap (λ m. served.Stat m (attrs_at w.rows m))
    (led_reached w.rows nobody tree root n path (led_of w.rows tree root n path leads))
    ∙ ap (λ o. served.Stat n (attrs_of (file_at o))) there
