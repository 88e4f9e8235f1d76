-- A walk that read all that it reached: `has_world` and `left_out`, for `check_tree`. When nothing is left to be read,
-- each directory that was reached lists all its rows, so whatever names lead to was reached, by induction on the way
-- (`leads_there`). If all files were reached, the rows that were made are a tree that the store shows (`same_file`: a
-- number has a file and a row, or neither); else a file is left that no names lead to, which is the fault.
use Rattle.std.proofs.Common.{◌≡◌, ℕ, true, false, List, [], Option, None, Some, refl, sym, ap, subst, ◌∙◌}
use Rattle.std.specs.Prelude.{IsSome, is_some, option_map}
use Rattle.std.specs.FinMap as map
use Rattle.lfs_types.specs.declared.attrs.Kind.TheVariants.{Directory}
use Rattle.lfs_types.specs.declared.level.Level.TheVariants.{Insecure}
use Rattle.lfs_types.specs.Stored.{bytes_of_file}
use Rattle.lfs_types.specs.StoreStates.{StoreState}
use Rattle.lfs_types.specs.Tree.{Content, File, Row, root}
use Rattle.lfs_types.proofs.Somewhere.{none_there, present, some_and, there_of}
use Rattle.lfs_dirs.specs.Directory.{number_in}
use Rattle.lfs_model.specs.World.{Rows, child}
use Rattle.lfs_model.proofs.Children.{child-is}
use Rattle.lfs_calls.specs.Content.{Shows, all_entries, visible}
use Rattle.lfs_calls.specs.Volumes.{HasWorld}
use Rattle.lfs_trees.specs.declared.fault.TreeFault.{TreeFault}
use Rattle.lfs_trees.specs.declared.walk.Walk.{Walk}
use Rattle.lfs_trees.specs.Faults.{Leads, begins, goes, IsTreeFaultOf}
use Rattle.lfs_trees.specs.Files.{AreFiles}
use Rattle.lfs_trees.specs.Marks.{is_among}
use Rattle.lfs_trees.specs.Walks.{HasRead, IsLeftOut, IsReached, Reaches}

module _ (c : Content) (order : List ℕ) (rows : Rows) (h : IsReached c order order 0 [] rows) where
  -- each number that names lead to was reached
  leads_there : (n : ℕ) → Leads c n → is_among order n ≡ true
  leads_there _ begins =
      let r = some_and (map.get rows root) _ h.tree.rooted in
      sym (h.reached root) ∙ ap is_some r.is
  leads_there _ (goes dir name n leads lists) =
      let f = some_and (map.get c dir) (λ (x : File). x.kind ≡ Directory) lists.directory in
      let listing = h.complete dir (leads_there dir leads) f.value f.is f.holds in
      let found : child rows dir name ≡ Some n =
      sym (listing.names name) ∙ ap (λ o. number_in name (all_entries (bytes_of_file o))) (sym f.is) ∙ lists.listed in
      let hangs = child-is rows dir name n found in
      sym (h.reached n) ∙ ap is_some hangs.there

  module _ (files : AreFiles c) (all : (n : ℕ) → IsSome (map.get c n) → is_among order n ≡ true) where
    same_file : (n : ℕ) (stored : Option File) → map.get c n ≡ stored → (seen : Option Row) → map.get rows n ≡ seen
        → option_map visible stored ≡ option_map (λ (r : Row). r.file) seen
    same_file n None at None is = refl
    same_file n None at (Some r) is =
        let f = some_and (map.get c n) _ (h.shown n r is) in none_there (map.get c n) f.value at f.is
    same_file n (Some f) at None is =
        let there = h.reached n ∙ all n (present at) in
        none_there (map.get rows n) (there_of (map.get rows n) there).value is (there_of (map.get rows n) there).is
    same_file n (Some f) at (Some r) is =
        let g = some_and (map.get c n) _ (h.shown n r is) in
        let same : g.value ≡ f = (let x = g.is in cc) in
        ap Some (ap visible (sym same) ∙ g.holds)

    shows : Shows c (record { level = Insecure; rows = rows })
    shows = record {
      files = λ n. same_file n (map.get c n) refl (map.get rows n) refl;
      sizes = λ n f there. (files n f there).sized;
      listings = λ n f there kind. h.complete n (all n (present there)) f there kind;
    }

-- a number that a walk didn't reach is one that no names lead to
pub no_names : (c : Content) (order : List ℕ) (n : ℕ) → Reaches c order order 0 [] → is_among order n ≡ false
    → Leads c n → ⊥
no_names c order n (rows, h) none leads = let there = leads_there c order rows h n leads in absurd (cc)

-- where it reached all numbers in use, there is a world
pub has_world : (s : StoreState) (order : List ℕ) → Reaches s.content order order 0 [] → AreFiles s.content
    → ((n : ℕ) → IsSome (map.get s.content n) → is_among order n ≡ true) → HasWorld s
has_world s order (rows, h) files all =
    (record { level = Insecure; rows = rows }, record { shows = shows s.content order rows h files all; tree = h.tree })

-- a number that a walk left out is one that no names lead to
pub left_out : (c : Content) (w : Walk) (fault : TreeFault) → HasRead c w → IsLeftOut c w fault → IsTreeFaultOf c fault
left_out c w fault read h = subst (IsTreeFaultOf c) (sym h.1) (h.2, no_names c w.order.items h.0 read h.3)
