-- An id that was given out leads to no other row: `ids_taken` and `ids_rehung` for `Parts::rehang`, `ids_equal` and
-- `ids_then` for what is put together of changes. The node that a rename took from its old place keeps its row, and the
-- one that hung at the new place is gone.
use Rattle.std.proofs.Common.{◌≡◌, ℕ, Option, None, Some, refl, sym, ap, subst, ◌∙◌, ⊎_elim, arith}
use Rattle.std.specs.Prelude.{IfNone, IfSome}
use Rattle.std.specs.Option.{option_map}
use Rattle.std.proofs.lemmas.Bool.{cases_eq}
use Rattle.lfs_nodes.specs.declared.place.Place.{Place}
use Rattle.lfs_nodes.specs.declared.node.Hang.{Hang}
use Rattle.lfs_nodes.specs.declared.node.Hang.TheVariants.{Root, At, Gone}
use Rattle.lfs_nodes.specs.declared.node.Node.{Node}
use Rattle.lfs_nodes.specs.declared.parts.Parts.{Parts}
use Rattle.lfs_nodes.specs.Changes.{hung}
use Rattle.lfs_nodes.specs.Maps.{changed_at, id_at}
use Rattle.lfs_nodes.specs.Nodes.{known, live_row}
use Rattle.lfs_nodes.specs.Places.{place_of}
use Rattle.lfs_nodes.specs.Reads.{hang_in, number_in}
use Rattle.lfs_nodes.specs.Staying.{IdsStay}
use Rattle.lfs_nodes.specs.Whole.{IsWhole}
use Rattle.lfs_nodes.proofs.ChangeLemmas.{named_known}
use Rattle.lfs_nodes.proofs.NodesLemmas.{place_in}
use Rattle.lfs_nodes.proofs.TableLemmas.{changed_here, changed_else, changed_keeps}

-- nothing of any node changed
pub ids_same : (before after : Parts) → after.next ≡ before.next → ((q : ℕ) → known after q ≡ known before q)
    → IdsStay before after
ids_same before after next same = record {
  given = omega (arith, next);
  rows = λ q n low e. sym (ap live_row (same q)) ∙ e;
}

pub ids_equal : (before after : Parts) → after ≡ before → IdsStay before after
ids_equal before after e =
    ids_same before after (ap (λ (p : Parts). p.next) e) (λ q. ap (λ (p : Parts). known p q) e)

-- one change, and then another
pub ids_then : (first second third : Parts) → IdsStay first second → IdsStay second third → IdsStay first third
ids_then first second third one two =
    let up = one.given in
    let on = two.given in
    record {
      given = omega (arith, up, on);
      rows = λ q n low e. one.rows q n low (two.rows q n (omega (arith, low, up)) e);
    }

gone_none : (o : Option Node) → live_row (option_map (hung Gone) o) ≡ None
gone_none None = refl
gone_none (Some n) = refl

-- a node, if there is one, was taken from its place
pub ids_taken : (before after : Parts) (o : Option ℕ) → after.next ≡ before.next
    → IfSome o (λ id. (q : ℕ) → known after q ≡ changed_at id (hung Gone) (known before) q)
    → IfNone o ((q : ℕ) → known after q ≡ known before q) → IdsStay before after
ids_taken before after None next some none = ids_same before after next none
ids_taken before after (Some k) next some none = record {
  given = omega (arith, next);
  rows = λ q n low e. ⊎_elim
      (λ same.
      let wrong : None ≡ Some n = sym (ap (λ x. live_row (known after x)) same
      ∙ ap live_row (some k ∙ changed_here (known before) k (hung Gone)) ∙ gone_none (known before k)) ∙ e in
      absurd (cc))
      (λ ne. sym (ap live_row (some q ∙ changed_else (known before) k (hung Gone) q ne)) ∙ e)
      (cases_eq q k);
}

-- and each has its row's number still
pub taken_number : (before after : Parts) (o : Option ℕ)
    → IfSome o (λ id. (q : ℕ) → known after q ≡ changed_at id (hung Gone) (known before) q)
    → IfNone o ((q : ℕ) → known after q ≡ known before q) → (q : ℕ)
    → number_in (known after q) ≡ number_in (known before q)
taken_number before after None some none q = ap number_in (none q)
taken_number before after (Some k) some none q =
    ap number_in (some q) ∙ changed_keeps (known before) k (hung Gone) (λ n. n.row) (λ n. refl) q

hung_number : (place : Place) (o : Option Node) (n : ℕ) → live_row (option_map (hung (At place)) o) ≡ Some n
    → number_in o ≡ Some n
hung_number place None n e = absurd (cc)
hung_number place (Some m) n e = e

-- what hangs at a place is of its row
placed_row : (o : Option Node) (place : Place) (n : ℕ) → place_in o ≡ Some place → number_in o ≡ Some n
    → live_row o ≡ Some n
placed_row None place n at e = absurd (cc)
placed_row (Some m) place n at e = by_hang m.hang m refl at e
  where
    by_hang : (h : Hang) (m : Node) → m.hang ≡ h → place_in (Some m) ≡ Some place → number_in (Some m) ≡ Some n
        → live_row (Some m) ≡ Some n
    by_hang Root m is at e = let none : place_in (Some m) ≡ None = ap (λ h. place_of (Some h)) is in absurd (cc)
    by_hang (At p) m is at e = subst (λ h. live_row (Some (record m { hang = h })) ≡ Some n) (sym is) e
    by_hang Gone m is at e = let none : place_in (Some m) ≡ None = ap (λ h. place_of (Some h)) is in absurd (cc)

-- the node that was taken from a place got another
pub ids_rehung : (old taken new : Parts) (whole : IsWhole old) (id : ℕ) (from to : Place)
    → id_at old.index from ≡ Some id → IdsStay old taken
    → ((q : ℕ) → number_in (known taken q) ≡ number_in (known old q))
    → ((q : ℕ) → known new q ≡ changed_at id (hung (At to)) (known taken) q) → new.next ≡ taken.next
    → IdsStay old new
ids_rehung old taken new whole id from to at stays numbers changed next =
    let up = stays.given in
    record {
      given = omega (arith, up, next);
      rows = λ q n low e. ⊎_elim
          (λ same.
          let now : live_row (option_map (hung (At to)) (known taken id)) ≡ Some n =
          sym (ap (λ x. live_row (known new x)) same
          ∙ ap live_row (changed id ∙ changed_here (known taken) id (hung (At to)))) ∙ e in
          ap (λ x. live_row (known old x)) same
          ∙ placed_row (known old id) from n (named_known old whole from id at)
          (sym (numbers id) ∙ hung_number to (known taken id) n now))
          (λ ne. stays.rows q n low
          (sym (ap live_row (changed q ∙ changed_else (known taken) id (hung (At to)) q ne)) ∙ e))
          (cases_eq q id);
    }
