use Rattle.std.proofs.Common.{ap, sym, ◌∙◌, ◌≡◌, [], ◌∷◌, ◌++◌, List, Some}
use Rattle.lfs_who.specs.Lines.{Told, left, told_to}
use Rattle.lfs_who.proofs.GroupLemmas.{outside_denied}
use Rattle.lfs_who.proofs.lines.Groups.deny_outside.Goals as goal

pub returns : goal.returns
returns c who rest =
    let made : c.push.new.self.items ≡ c.args.lines.now.items
    ++ record {
      inside = c.args.self.now.inside.items;
      outside = (c.args.self.now.outside.items ++ c.args.gid ∷ []);
      denial = Some c.args.denial;
    } ∷ [] =
    c.in_ok-push.ensures.items ∙ ap (λ (l : Told). c.args.lines.now.items ++ l ∷ []) (c.new.ensures
    ∙ (λ k. record {
      inside = c.in_ok-inside.ensures k;
      outside = c.in_ok-outside.ensures k;
      denial = Some c.args.denial;
    })) in
    outside_denied who c.args.self.now.inside.items c.args.self.now.outside.items c.args.gid c.args.lines.now.items
    (Some c.args.denial) rest
    ∙ ap (λ (ls : List Told). told_to who ls
    ++ left who (c.args.self.now.inside.items ++ c.args.gid ∷ []) c.args.self.now.outside.items rest) (sym made)
    ∙ ap (λ gs. told_to who c.push.new.self.items ++ left who gs c.args.self.now.outside.items rest)
    (sym c.in_ok-push-2.ensures.items)
