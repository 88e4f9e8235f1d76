-- Stores whose content is that of a fresh volume's show its world: `shows_opening` and `shows_opening_state`, for
-- whoever lays a volume out. The content has the root alone, an empty directory, and the opening tree has the root's
-- row alone, so both say the same at each number; nothing is listed in the root, and nothing hangs there
-- (`nothing_listed`).
use Rattle.std.proofs.Common.{◌≡◌, [], length, None, sym, ap, subst, ◌∙◌, ⊎_elim, arith}
use Rattle.std.proofs.lemmas.Bool.{cases_eq}
use Rattle.std.specs.Prelude.{option_map}
use Rattle.std.specs.FinMap as map
use Rattle.lfs_types.specs.Changes.{IsLength}
use Rattle.lfs_types.specs.StoreStates.{StoreState}
use Rattle.lfs_types.specs.Tree.{File, Row, root, fresh_root, opening_content, opening_world}
use Rattle.lfs_dirs.proofs.Changes.{number_in-nil}
use Rattle.lfs_model.proofs.Children.{child-answer}
use Rattle.lfs_model.proofs.RunLemmas.{root_row, only_fresh, no_child, opening_rows, opening_tree}
use Rattle.lfs_types.proofs.Maps.{get-insert_same, get-insert_other}
use Rattle.lfs_calls.specs.Content.{visible, Shows, ListsRows, entries_below}

nothing_listed : ListsRows opening_rows root []
unfolding entries_below
nothing_listed = record {
  blocks = λ k h. absurd (omega arith);
  distinct = tt;
  names = λ name. number_in-nil name ∙ sym
      (child-answer opening_rows opening_tree.unique root name None (no_child root name));
}

opening_shows : Shows opening_content opening_world
opening_shows = record {
  files = λ n. ⊎_elim
      (λ same. subst (λ k. option_map visible (map.get opening_content k)
      ≡ option_map (λ (r : Row). r.file) (map.get opening_rows k)) (sym same)
      (ap (option_map visible) (get-insert_same map.empty root fresh_root)
      ∙ sym (ap (option_map (λ (r : Row). r.file)) (get-insert_same map.empty root root_row))))
      (λ other. ap (option_map visible) (get-insert_other map.empty root fresh_root n other ∙ map.get-empty _ n)
      ∙ sym (ap (option_map (λ (r : Row). r.file)) (get-insert_other map.empty root root_row n other
      ∙ map.get-empty _ n)))
      (cases_eq n root);
  sizes = λ n f e. let is = only_fresh n f e in
      subst (λ (x : File). IsLength x.kind (length x.bytes)) is.1 (omega arith, omega arith);
  listings = λ n f e k. let is = only_fresh n f e in
      subst (λ m. ListsRows opening_rows m f.bytes) (sym is.0)
      (subst (λ (x : File). ListsRows opening_rows root x.bytes) is.1 nothing_listed);
}

-- a store with the content of a fresh volume's
pub shows_opening : (s : StoreState) → s.content ≡ opening_content → Shows s.content opening_world
shows_opening s same = subst (λ c. Shows c opening_world) (sym same) opening_shows

-- a store in this state, whose content is that of a fresh volume's
pub shows_opening_state : (s opening : StoreState) → s ≡ opening → opening.content ≡ opening_content
    → Shows s.content opening_world
shows_opening_state s opening same content = shows_opening s (ap (λ (t : StoreState). t.content) same ∙ content)
