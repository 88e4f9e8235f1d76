use Rattle.std.proofs.Common.{◌≡◌, ◌↔◌, ℕ, Bool, List, Option, true, false, get_or, sym, subst}
use Rattle.lfs_recovery.specs.declared.places.RecordPlace.{RecordPlace}
use Rattle.lfs_reach.specs.Reach.{Reaches}
use Rattle.lfs_rescue.specs.Building.{IsFoundOf}
use Rattle.lfs_rescue.proofs.recovering.store_behind.Goals as goal

pub store_of-requires-clause-found : goal.store_of-requires-clause-found
store_of-requires-clause-found c =
    let m = c.args.memory.now in
    let places = c.in_ok-places.places.items in
    let marks = c.in_ok-marks.marks.items in
    let is : IsFoundOf m c.args.last places marks c.in_ok-inodes.inodes = record {
      laid_out = c.in_ok-inodes.ensures.laid_out;
      logged = c.requires.logged;
      latest = c.requires.latest;
      counted = c.requires.counted;
      places_long = c.in_ok-places.ensures.long;
      newest = c.in_ok-places.ensures.newest;
      marks_long = c.in_ok-marks.ensures.long;
      reached = subst
          (λ (xs : List (Option RecordPlace)). (n : ℕ) → (get_or marks n false ≡ true) ↔ Reaches m xs n)
          c.deref.ensures.value c.in_ok-marks.ensures.reached;
      least = c.in_ok-inodes.ensures.least;
      most = c.in_ok-inodes.ensures.most;
      labelled = c.in_ok-inodes.ensures.labelled;
    } in
    subst (λ (bs : List Bool). IsFoundOf m c.args.last c.deref-2.result.now bs c.in_ok-inodes.inodes)
    (sym c.deref-3.ensures.value)
    (subst (λ (xs : List (Option RecordPlace)). IsFoundOf m c.args.last xs marks c.in_ok-inodes.inodes)
    (sym c.deref-2.ensures.value) is)
