-- What holds a node, and what is left where one that nothing holds is dropped: `step_held`, `step_left`, `none_stays`
-- and `measured` for the loop of `Parts::release`, `unheld_childless` for `drop_unheld`. A drop leaves each other node,
-- and drops only one that neither the kernel nor a child holds; so what the kernel holds stays, and what is left was
-- there. The loop ends as with each turn a node is gone, or there is none to look at next (`measured`).
use Rattle.std.proofs.Common.{◌≡◌, ◌≢◌, ℕ, Bool, Option, None, Some, true, false, refl, sym, ap, subst, ◌∙◌, ⊎_elim}
use Rattle.std.proofs.Common.{arith}
use Rattle.std.specs.Prelude.{◌||◌, nat_lt, ◌+◌, ◌<◌, ◌≤◌, OnSome, is_some, if◌then◌else◌}
use Rattle.std.specs.Option.{option_map}
use Rattle.std.proofs.lemmas.Bool.{or_parts, or_left, cases_eq, cases_Bool, ltb-false}
use Rattle.lfs_nodes.specs.declared.node.Hang.{Hang}
use Rattle.lfs_nodes.specs.declared.node.Hang.TheVariants.{Root, At, Gone}
use Rattle.lfs_nodes.specs.declared.node.Node.{Node}
use Rattle.lfs_nodes.specs.Holds.{node_is_held, is_held, is_known_held}
use Rattle.lfs_nodes.specs.Nodes.{shown, live_row}
use Rattle.lfs_nodes.specs.Reads.{hang_in, number_in, children_in}

pub hang_shown : (o : Option Node) → hang_in (option_map shown o) ≡ hang_in o
hang_shown None = refl
hang_shown (Some n) = refl

pub number_shown : (o : Option Node) → number_in (option_map shown o) ≡ number_in o
number_shown None = refl
number_shown (Some n) = refl

-- the row of a node that hangs is its row
pub live_number : (o : Option Node) (n : ℕ) → live_row o ≡ Some n → number_in o ≡ Some n
live_number None n e = absurd (cc)
live_number (Some m) n e = live m.hang m n refl e
  where
    live : (h : Hang) (m : Node) (n : ℕ) → m.hang ≡ h → live_row (Some m) ≡ Some n → number_in (Some m) ≡ Some n
    live Root m n is e = subst (λ h. live_row (Some (record m { hang = h })) ≡ Some n) is e
    live (At place) m n is e = subst (λ h. live_row (Some (record m { hang = h })) ≡ Some n) is e
    live Gone m n is e = let wrong : live_row (Some (record m { hang = Gone }))
        ≡ Some n = subst (λ h. live_row (Some (record m { hang = h })) ≡ Some n) is e in absurd (cc)

none_above : (n : ℕ) → nat_lt 0 n ≡ false → n ≡ 0
none_above n e = let low = ltb-false 0 n e in omega (arith, low)

pub unheld_childless : (n : Node) → node_is_held n ≡ false → n.children ≡ 0
unheld_childless n e = none_above n.children (or_parts _ _ e).1

known_held : (o : Option Node) → is_known_held (option_map shown o) ≡ true → is_held o ≡ true
known_held None e = absurd (cc)
known_held (Some n) e = or_left _ _ e

module _ (K L : ℕ → Option Node) (o : Option Node) (id : ℕ) (is : K id ≡ option_map shown o) (dropped : is_held o
    ≡ false → L id ≡ None)
    (held : is_held o ≡ true → L id ≡ K id) (others : (q : ℕ) → q ≢ id → L q ≡ K q) where
  -- what the kernel holds stays
  pub step_held : (q : ℕ) → is_known_held (K q) ≡ true → L q ≡ K q
  step_held q e = ⊎_elim
      (λ same. ap L same ∙ held (known_held o (sym (ap is_known_held is) ∙ ap (λ x. is_known_held (K x)) (sym same)
      ∙ e)) ∙ ap K (sym same))
      (λ ne. others q ne)
      (cases_eq q id)

  -- what is left was there
  pub step_left : (q : ℕ) (n : Node) → L q ≡ Some n → K q ≡ Some n
  step_left q n e = ⊎_elim
      (λ same. ⊎_elim
      (λ t. ap K same ∙ sym (held t) ∙ ap L (sym same) ∙ e)
      (λ f. let wrong : None ≡ Some n = sym (dropped f) ∙ ap L (sym same) ∙ e in absurd (cc))
      (cases_Bool (is_held o)))
      (λ ne. sym (others q ne) ∙ e)
      (cases_eq q id)

pub none_stays : (a b : Option Node) → ((n : Node) → b ≡ Some n → a ≡ Some n) → a ≡ None → b ≡ None
none_stays a None h e = refl
none_stays a (Some n) h e = let wrong : Some n ≡ None = sym (h n refl) ∙ e in absurd (cc)

-- the measure of dropping node by node: how many there are, and one more where another is to be looked at
pub measured : (before after : ℕ) (a b : Option ℕ) (x : ℕ) → a ≡ Some x → OnSome b (after + 1 ≡ before) → after ≤ before
    → after + (if is_some b then 1 else 0) < before + (if is_some a then 1 else 0)
measured before after a None x e fewer no_more = rw e (omega (arith, no_more))
measured before after a (Some y) x e fewer no_more = rw e (omega (arith, fewer))
