use Rattle.std.proofs.Common.{get_or, sym, ◌∙◌}
use Rattle.std.proofs.lemmas.Bool.{false≢true}
use Rattle.std.proofs.lemmas.List.Elements.{Contains-get_or}
use Rattle.std.proofs.lemmas.Result.{IfOk-weaker}
use Rattle.lfs_findable.proofs.OrderLemmas.{each_in_order, in_order}
use Rattle.lfs_findable.proofs.ordering.are_ordered.Goals as goal

pub returns-then-not-are_in_order : goal.returns-then-not-are_in_order
returns-then-not-are_in_order c =
    let a = c.args in
    let ps = a.partials.now in (
      λ e. absurd (false≢true e),
      λ o. absurd (false≢true (sym c.if-not-are_in_order.true ∙ c.are_in_order.ensures.1
          (λ k d below. each_in_order a.active a.next c.highest_outside-highest.result ps
          c.highest_outside-highest.ensures c.requires o (get_or ps k d) (Contains-get_or ps k d below)))),
    )

pub returns : goal.returns
returns c =
    let a = c.args in
    IfOk-weaker c.have_one_place.result _ _
    (λ is one. (
      λ yes. in_order a.active a.next c.highest_outside-highest.result a.partials.now c.highest_outside-highest.ensures
          (c.are_in_order.ensures.0 c.if-not-are_in_order.false) (one.0 yes),
      λ o. one.1 o.apart,
    ))
    c.have_one_place.ensures
