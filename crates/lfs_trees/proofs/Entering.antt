-- An entry whose number is new and has a file is a new row in the tree that the walk reached: `entered`, for Parts. The
-- rows so far are a tree, the number isn't among those reached and the name none of the directory's, so the tree grows
-- by one row; in the directory hangs now what was read of it and this (`hangs_here`). Nothing hangs in the new row yet,
-- as its own entries weren't read; numbers reached twice are refused before, or a directory could hang in itself.
use Rattle.std.proofs.Common.{◌≡◌, ◌≢◌, ◌≤◌, ℕ, true, false, List, [], ◌∷◌, ◌++◌, None, Some, refl, sym, ap, subst, ◌∙◌}
use Rattle.std.proofs.Common.{⊎_elim}
use Rattle.std.specs.Prelude.{IsSomeAnd, is_some, bytes_eq}
use Rattle.std.proofs.lemmas.Bool.{cases_eq, cases_Bool, both_ways}
use Rattle.std.proofs.lemmas.Slice.Eq.{bytes_eq-Decides}
use Rattle.std.specs.FinMap as map
use Rattle.lfs_types.specs.declared.attrs.Kind.TheVariants.{Directory}
use Rattle.lfs_types.specs.declared.limits.TheConstants.{FIRST_INODE}
use Rattle.lfs_types.specs.Tree.{Content, File, Row, root}
use Rattle.lfs_types.proofs.Maps.{each_value, get-insert_same, get-insert_other}
use Rattle.lfs_types.proofs.Somewhere.{some_and, is_some_and, not_some, there_of, There}
use Rattle.lfs_dirs.specs.Directory.{Entry, number_in}
use Rattle.lfs_model.specs.World.{Rows, child, IsTree}
use Rattle.lfs_model.proofs.Changed.{IsTree-changed}
use Rattle.lfs_model.proofs.Children.{child-new, child-new_other, child-stays}
use Rattle.lfs_model.proofs.Grown.{IsTree-grown}
use Rattle.lfs_calls.specs.Content.{IsDirectoryAt, visible}
use Rattle.lfs_calls.specs.Names.{Lists}
use Rattle.lfs_trees.specs.Marks.{is_among}
use Rattle.lfs_trees.specs.Walks.{IsReached, so_far}
use Rattle.lfs_trees.proofs.Listing.{found_behind, other_behind}
use Rattle.lfs_trees.proofs.Numbers.{among-same, among-other}
use Rattle.lfs_trees.proofs.Rooting.{visible-empty}
use Rattle.lfs_trees.proofs.Turning.{so_far-here, so_far-other}

module _ (c : Content) (order before : List ℕ) (dir : ℕ) (es : List Entry) (rows : Rows)
    (h : IsReached c order before dir es rows)
    (directory : IsDirectoryAt c dir) (reached : is_among order dir ≡ true) (apart : is_among before dir ≡ false)
    (e : Entry) (f : File) (stored : map.get c e.0 ≡ Some f) (first : FIRST_INODE ≤ e.0) (below : e.0 ≡ root → ⊥)
    (new_number : is_among order e.0 ≡ false) (new_name : number_in e.1 es ≡ None)
    (lists : Lists c dir e.1 e.0) where
  abbrev bare : Row
  bare = record { parent = dir; name = e.1; file = record f { bytes = [] } }

  abbrev row : Row
  row = record { parent = dir; name = e.1; file = visible f }

  abbrev middle : Rows
  middle = map.insert rows e.0 bare

  abbrev grown : Rows
  grown = map.insert middle e.0 row

  absent : map.get rows e.0 ≡ None
  absent = not_some _ (h.reached e.0 ∙ new_number)

  free : child rows dir e.1 ≡ None
  free = h.later dir apart e.1 ∙ ap (number_in e.1) (so_far-here dir es) ∙ new_name

  above : There (map.get rows dir)
  above = there_of (map.get rows dir) (h.reached dir ∙ reached)

  above_directory : above.value.file.kind ≡ Directory
  above_directory =
      let seen = some_and (map.get c dir) _ (h.shown dir above.value above.is) in
      let g = some_and (map.get c dir) (λ (x : File). x.kind ≡ Directory) directory in
      let same : seen.value ≡ g.value = (let x = seen.is in let y = g.is in cc) in
      ap (λ (x : File). x.kind) (sym seen.holds) ∙ ap (λ (x : File). x.kind) same ∙ g.holds

  middle_tree : IsTree middle
  middle_tree = IsTree-grown rows h.tree e.0 bare above.value absent below free above.is above_directory refl first

  grown_tree : IsTree grown
  grown_tree = IsTree-changed middle middle_tree e.0 bare (get-insert_same rows e.0 bare) (visible f) refl
      (visible-empty f)

  here : map.get grown e.0 ≡ Some row
  here = get-insert_same middle e.0 row

  others : (n : ℕ) → n ≢ e.0 → map.get grown n ≡ map.get rows n
  others n other = get-insert_other middle e.0 row n other ∙ get-insert_other rows e.0 bare n other

  stays : (parent : ℕ) (name : List ℕ) → child grown parent name ≡ child middle parent name
  stays = child-stays middle e.0 bare row (get-insert_same rows e.0 bare) refl refl middle_tree.unique

  child_here : child grown dir e.1 ≡ Some e.0
  child_here = stays dir e.1 ∙ child-new rows e.0 bare absent below free h.tree.unique

  child_other : (parent : ℕ) (name : List ℕ) → (dir ≡ parent → e.1 ≡ name → ⊥) → child grown parent name
      ≡ child rows parent name
  child_other parent name far = stays parent name
      ∙ child-new_other rows e.0 bare absent below free h.tree.unique parent name far

  -- what hangs in the directory is what was read of it
  hangs_here : (name : List ℕ) → child grown dir name ≡ number_in name (es ++ e ∷ [])
  hangs_here name = ⊎_elim
      (λ t.
      let same : e.1 ≡ name = (bytes_eq-Decides e.1 name).0 t in
      subst (λ q. child grown dir q ≡ number_in q (es ++ e ∷ [])) same (child_here
      ∙ sym (found_behind e es [] new_name)))
      (λ t.
      let far : e.1 ≡ name → ⊥ = λ same. both_ways _ t ((bytes_eq-Decides e.1 name).1 same) in
      child_other dir name (λ _. far) ∙ h.later dir apart name ∙ ap (number_in name) (so_far-here dir es)
      ∙ sym (other_behind name e es far))
      (cases_Bool (bytes_eq e.1 name))

  -- with the row too the walk reaches what it did
  pub entered : IsReached c (order ++ e.0 ∷ []) before dir (es ++ e ∷ []) grown
  entered = record {
    tree = grown_tree;
    reached = λ n. ⊎_elim
        (λ same. subst (λ k. is_some (map.get grown k) ≡ is_among (order ++ e.0 ∷ []) k) (sym same) (ap is_some here
        ∙ sym (among-same order e.0)))
        (λ other. ap is_some (others n other) ∙ h.reached n ∙ sym (among-other order e.0 n other))
        (cases_eq n e.0);
    shown = each_value rows grown e.0 row here others (λ n r. IsSomeAnd (map.get c n) (λ g. visible g ≡ r.file))
        (is_some_and (λ g. visible g ≡ visible f) stored refl) (λ n r far there. h.shown n r there);
    listed = each_value rows grown e.0 row here others (λ n r. n ≢ root → Lists c r.parent r.name n)
        (λ _. lists) (λ n r far there. h.listed n r there);
    complete = λ d among g there kind.
        let was = h.complete d among g there kind in
        let far : dir ≡ d → ⊥ = λ same. both_ways _ apart (subst (λ k. is_among before k ≡ true) (sym same) among) in
        record {
          blocks = was.blocks;
          distinct = was.distinct;
          names = λ name. was.names name ∙ sym (child_other d name (λ same. absurd (far same)));
        };
    later = λ d none name. ⊎_elim
        (λ same. subst (λ k. child grown k name ≡ number_in name (so_far dir (es ++ e ∷ []) k)) (sym same)
        (hangs_here name ∙ sym (ap (number_in name) (so_far-here dir (es ++ e ∷ [])))))
        (λ other. child_other d name (λ same. absurd (other (sym same))) ∙ h.later d none name
        ∙ ap (number_in name) (so_far-other dir es d other ∙ sym (so_far-other dir (es ++ e ∷ []) d other)))
        (cases_eq d dir);
  }
