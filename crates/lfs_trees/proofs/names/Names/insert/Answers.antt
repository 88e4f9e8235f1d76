use Rattle.std.proofs.Common.{ℕ, ap, ◌∙◌}
use Rattle.std.specs.Prelude.{◌||◌, not, bytes_eq}
use Rattle.std.specs.Global.{Vec}
use Rattle.std.specs.List.{list_any}
use Rattle.std.proofs.lemmas.Map.Text.{is_eq-slice_cmp}
use Rattle.lfs_trees.specs.Walks.{has}
use Rattle.lfs_trees.proofs.NameLemmas.{contained, with_key}
use Rattle.lfs_trees.proofs.names.Names.insert.Goals as goal

pub returns-clause-added : goal.returns-clause-added
returns-clause-added c =
    c.in_ok-insert.ensures.added
    ∙ ap not (contained _ (λ a b. is_eq-slice_cmp a.items b.items) c.in_ok-name.name c.args.self.now.names.keys
    ∙ ap (has c.args.self.now) c.in_ok-name.ensures.items)

pub returns-clause-others : goal.returns-clause-others
returns-clause-others c = λ other.
    ap (list_any (λ (k : Vec ℕ). bytes_eq k.items other)) c.in_ok-insert.ensures.keys
    ∙ with_key _ (λ a b. is_eq-slice_cmp a.items b.items) other c.in_ok-name.name c.args.self.now.names.keys
    ∙ ap (λ bs. bytes_eq bs other || has c.args.self.now other) c.in_ok-name.ensures.items
