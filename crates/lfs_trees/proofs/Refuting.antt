-- A content with a fault shows no tree: `no_world`, for `check_tree` and VolumeLemmas of `lfs_checking`, so what the
-- checker tells is never wrong. Fault by fault: in a tree what is listed hangs there and what hangs is listed (`hangs`,
-- `lists_row`), each row has one place and one way from the root (`climbs`), and Shows gives lengths and blocks. Want
-- of memory says nothing; a new fault needs its line in `wrong`, and a condition added to Shows or IsTree can become a
-- fault but needn't.
use Rattle.std.proofs.Common.{◌≡◌, ◌<◌, ◌≤◌, ℕ, zero, suc, List, Some, refl, sym, ap, subst, ◌∙◌, ⊎_elim, arith}
use Rattle.std.proofs.lemmas.Bool.{cases_eq}
use Rattle.std.specs.FinMap as map
use Rattle.lfs_types.specs.declared.attrs.Kind.TheVariants.{Directory}
use Rattle.lfs_types.specs.declared.limits.TheConstants.{FIRST_INODE}
use Rattle.lfs_types.specs.Stored.{bytes_of, bytes_of_file}
use Rattle.lfs_types.specs.StoreStates.{StoreState}
use Rattle.lfs_types.specs.Tree.{Content, File, Row, World, root}
use Rattle.lfs_types.proofs.Somewhere.{none_there, some_and, is_some_and, there_of}
use Rattle.lfs_model.specs.World.{ancestor, parent_of, IsChild, IsTree}
use Rattle.lfs_model.proofs.Children.{child-answer, child-is}
use Rattle.lfs_calls.specs.Content.{IsDirectoryAt, ListsRows, Shows}
use Rattle.lfs_calls.specs.Names.{Lists}
use Rattle.lfs_calls.specs.Volumes.{HasWorld}
use Rattle.lfs_calls.proofs.ListedNames.{lists_child, number-child}
use Rattle.lfs_calls.proofs.Visible.{shown_of, stored_of}
use Rattle.lfs_trees.specs.declared.fault.TreeFault.{TreeFault}
use Rattle.lfs_trees.specs.declared.fault.TreeFault.TheVariants.{Root, Reserved, Length, Block, NameTwice, RootListed}
use Rattle.lfs_trees.specs.declared.fault.TreeFault.TheVariants.{Unused, NumberTwice, Unreached, Memory}
use Rattle.lfs_trees.specs.Faults.{Leads, begins, goes, IsTreeFaultOf}
use Rattle.lfs_trees.proofs.Listing.{again_twice}

module _ (c : Content) (w : World) (shows : Shows c w) (tree : IsTree w.rows) where
  -- a row of a directory is stored as one
  stored_directory : (n : ℕ) (r : Row) → map.get w.rows n ≡ Some r → r.file.kind ≡ Directory → IsDirectoryAt c n
  stored_directory n r there kind =
      let seen = stored_of c w shows n r there in
      is_some_and (λ (f : File). f.kind ≡ Directory) seen.stored (ap (λ (f : File). f.kind) seen.same ∙ kind)

  -- what is listed hangs there
  hangs : (d : ℕ) (name : List ℕ) (n : ℕ) → Lists c d name n → IsChild w.rows d name n
  hangs d name n lists = child-is w.rows d name n (lists_child c w shows d name n lists)

  -- what hangs is listed
  lists_row : (n : ℕ) (r : Row) → map.get w.rows n ≡ Some r → (n ≡ root → ⊥) → Lists c r.parent r.name n
  lists_row n r there below =
      let up = some_and (map.get w.rows r.parent) _ (tree.parents n r there) in
      let directory = stored_directory r.parent up.value up.is up.holds in
      record {
        directory = directory;
        listed = number-child c w shows r.parent directory r.name
            ∙ child-answer w.rows tree.unique r.parent r.name (Some n)
            (record { row = r; there = there; below = below; hangs = refl; named = refl });
      }

  -- names lead to each row
  climbs : (k n : ℕ) (r : Row) → map.get w.rows n ≡ Some r → ancestor w.rows k n ≡ root → Leads c n
  unfolding ancestor
  climbs zero n r there way = subst (Leads c) (sym way) begins
  climbs (suc k) n r there way = ⊎_elim
      (λ same. subst (Leads c) (sym same) begins)
      (λ below.
      let up = some_and (map.get w.rows r.parent) _ (tree.parents n r there) in
      let above : ancestor w.rows k r.parent ≡ root = subst (λ o. ancestor w.rows k (parent_of o) ≡ root) there way in
      goes r.parent r.name n (climbs k r.parent up.value up.is above) (lists_row n r there below))
      (cases_eq n root)

  -- the listing of a directory
  listing_of : (d : ℕ) → IsDirectoryAt c d → ListsRows w.rows d (bytes_of c d)
  listing_of d directory =
      let f = some_and (map.get c d) (λ (x : File). x.kind ≡ Directory) directory in
      subst (λ o. ListsRows w.rows d (bytes_of_file o)) (sym f.is) (shows.listings d f.value f.is f.holds)

  wrong : (fault : TreeFault) → IsTreeFaultOf c fault → (fault ≡ Memory → ⊥) → ⊥
  wrong Root h real =
      let r = some_and (map.get w.rows root) _ tree.rooted in
      h (stored_directory root r.value r.is r.holds.2)
  wrong (Reserved n) h real =
      let f = there_of (map.get c n) h.0 in
      let row = shown_of c w shows n f.value f.is in
      let first : FIRST_INODE ≤ n = tree.numbers n row.row row.there h.1 in
      let least : n < FIRST_INODE = h.2 in
      absurd (omega arith)
  wrong (Length n) h real =
      let f = some_and (map.get c n) _ h in f.holds (shows.sizes n f.value f.is)
  wrong (Block d k) h real = h.2 ((listing_of d h.0).blocks k h.1)
  wrong (NameTwice d n) h real = again_twice _ n h.1 (listing_of d h.0).distinct
  wrong (RootListed d) h real = (hangs d h.0 root h.1).below refl
  wrong (Unused d n) h real =
      let row = hangs d h.0.0 n h.0.1 in
      let seen = stored_of c w shows n row.row row.there in
      none_there (map.get c n) seen.file h.1 seen.stored
  wrong (NumberTwice n) h real =
      let a = hangs h.one h.one_name n h.first in
      let b = hangs h.other h.other_name n h.second in
      let same : a.row ≡ b.row = (let x = a.there in let y = b.there in cc) in
      h.apart (sym a.hangs ∙ ap (λ (r : Row). r.parent) same ∙ b.hangs) (sym a.named ∙ ap (λ (r : Row). r.name) same
      ∙ b.named)
  wrong (Unreached n) h real =
      let f = there_of (map.get c n) h.0 in
      let row = shown_of c w shows n f.value f.is in
      let way = tree.reached n row.row row.there in
      h.1 (climbs way.0 n row.row row.there way.1)
  wrong Memory h real = real refl

-- where a content has a fault, it shows no tree
pub no_world : (s : StoreState) (fault : TreeFault) → IsTreeFaultOf s.content fault → (fault ≡ Memory → ⊥) → HasWorld s
    → ⊥
no_world s fault h real world = wrong s.content world.0 world.1.shows world.1.tree fault h real
