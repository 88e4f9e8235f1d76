use Rattle.std.proofs.Common.{◌≡◌, ℕ, suc, ◌+◌, List, ◌++◌, append_assoc, append-nil, arith, refl, sym}
use Rattle.std.proofs.lemmas.Grind.{flat_map-append}
use Rattle.std.specs.List.{flat_map}
use Rattle.lfs_film.specs.Frames.{changed_owner, first_changed_owners, item, row_at}
use Rattle.lfs_film.proofs.owners.push_owners.Goals as goal

-- one more segment
owners_more : (old new : List (List ℕ)) (start so_far grown : List ℕ) (n : ℕ) (before now : List ℕ)
    → so_far ≡ start ++ flat_map item (first_changed_owners old new n) → before ≡ row_at old n → now ≡ row_at new n
    → grown ≡ so_far ++ flat_map item (changed_owner n before now)
    → grown ≡ start ++ flat_map item (first_changed_owners old new (n + 1))
unfolding first_changed_owners
owners_more old new start so_far grown n before now is one two more =
    let next : n + 1 ≡ suc n = omega arith in
    rw (
      more,
      is,
      one,
      two,
      next,
      flat_map-append item (first_changed_owners old new n)
          (changed_owner n (row_at old n) (row_at new n)),
      append_assoc,
    ) refl

pub loop-number-init : goal.loop-number-init
unfolding first_changed_owners
loop-number-init c = sym (append-nil c.args.out.now.items)

pub loop-number-preserved : goal.loop-number-preserved
loop-number-preserved c =
    owners_more c.args.old.now c.args.new.now c.args.out.now.items c.loop-number.out.items c.push_changed.new.out.items
    c.loop-number.number c.row_at.result.now c.row_at-in-loop-number.result.now
    c.loop-number.invariant c.row_at.ensures c.row_at-in-loop-number.ensures c.in_ok-push_changed.ensures
