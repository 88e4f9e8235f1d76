use Rattle.std.proofs.Common.{Bool, List, sym, subst}
use Rattle.std.specs.List.{All}
use Rattle.lfs_findable.specs.Judging.{AreFirstMarked, IsNextMarked}
use Rattle.lfs_findable.proofs.OrderLemmas.{listed_next, marked_listed}
use Rattle.lfs_findable.proofs.listing.are_listed.Goals as goal

pub returns : goal.returns
returns c =
    let m = c.args.memory.now in
    let ps = c.args.partials.now in
    let marks = c.in_ok-marks.marks.items in
    let are = c.in_ok-marks.ensures.marks in (
      λ yes. marked_listed m ps marks are
          (subst (λ (bs : List Bool). AreFirstMarked m bs) c.deref.ensures.value
          (c.are_first_marked.ensures.0 c.if-not-are_first_marked.false))
          (subst (λ (bs : List Bool). All (IsNextMarked m bs) ps) c.deref-2.ensures.value
          (c.are_next_marked.ensures.0 yes)),
      λ l. c.are_next_marked.ensures.1 (subst (λ (bs : List Bool). All (IsNextMarked m bs) ps)
          (sym c.deref-2.ensures.value) (listed_next m ps marks are l)),
    )
