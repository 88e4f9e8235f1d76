use Rattle.std.proofs.Common.{ℕ, List, [], ◌++◌, ap, ◌∙◌}
use Rattle.lfs_who.specs.WhoText.{who_text}
use Rattle.lfs_who.proofs.telling.tell_who_along.Goals as goal

pub returns : goal.returns
returns c w tree at first second = record {
  who = c.in_ok-who.who;
  is = c.in_ok-who.ensures w tree at first second;
  told = c.in_ok-push_who.ensures
      ∙ ap (λ (xs : List ℕ). xs ++ who_text [] c.in_ok-who.who) c.new-text.ensures.items;
}
