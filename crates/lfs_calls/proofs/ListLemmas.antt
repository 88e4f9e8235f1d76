-- A List answers the names of the rows, in byte order: `list_answer`, for `list`; `names_further` carries the loop of
-- `names_of_directory`. The entries list just the rows that hang there, and the names that they have differ, so sorted
-- they are the one list in order of these names (ByteOrder of `lfs_model`). It holds for any permutation of the entries
-- that is sorted; if a directory listed `.` and `..`, the answer would have to leave them out.
use Rattle.std.proofs.Common.{◌≡◌, ◌≢◌, ℕ, ◌+◌, ◌<◌, true, List, [], ◌++◌, length, map, Some, refl, sym, ap, subst, ◌∙◌}
use Rattle.std.proofs.Common.{arith, add-one}
use Rattle.std.specs.Prelude.{AllPairs, Contains}
use Rattle.std.specs.Cmp.Lexicographic.{slice_cmp}
use Rattle.std.specs.List.Sorted.{IsPermutation, IsSorted}
use Rattle.std.specs.Ordering.{nat_cmp}
use Rattle.std.proofs.lemmas.Cmp.{eq_by_cmp_equiv, nat_list_cmp_total}
use Rattle.std.proofs.lemmas.List.{get_or-map, length-map, map-append}
use Rattle.std.proofs.lemmas.List.Sorted.{Contains-permutation, IsPermutation-sym}
use Rattle.std.proofs.lemmas.Map.Keys.{IsDistinct-IsPermutation}
use Rattle.std.proofs.lemmas.Map.Made.{IsDistinct-from_AllPairs}
use Rattle.lfs_types.specs.Kinds.{is_directory_kind}
use Rattle.lfs_types.specs.Stored.{shown_attrs, bytes_of}
use Rattle.lfs_types.specs.Tree.{World, Content, root}
use Rattle.lfs_types.specs.declared.answer.Served.TheVariants as served
use Rattle.lfs_types.specs.declared.request.Request.TheVariants.{List as Names}
use Rattle.lfs_dirs.proofs.Changes.{AreEntries-distinct, Contains-number_in, number_in-Contains}
use Rattle.lfs_dirs.specs.Directory.{Entry}
use Rattle.lfs_dirs.specs.Reading.{entries_of}
use Rattle.lfs_calls.specs.declared.walking.Reached.{Reached}
use Rattle.lfs_model.specs.World.{Rows, IsTree}
use Rattle.lfs_model.specs.Rules.{reached}
use Rattle.lfs_model.specs.Effects.{answer_of, in_byte_order, names_in}
use Rattle.lfs_calls.specs.Content.{block_at, entries_below, all_entries, ListsRows, Shows}
use Rattle.lfs_model.proofs.ByteOrder.{same_name, same_name-Decides, sorted-is-in_byte_order}
use Rattle.lfs_model.proofs.Children.{IsUnique, child-is, child-answer}
use Rattle.lfs_calls.proofs.Directories.{bytes_listing}
use Rattle.lfs_model.proofs.Members.{Contains-map, Contains-from_map, names_in-has, names_in-hang, names_in-apart}

-- ---- the names that a directory's bytes list

-- one more block
pub names_further : (bytes : List ℕ) (k : ℕ) → map (λ (e : Entry). e.1) (entries_below bytes (k + 1))
    ≡ map (λ (e : Entry). e.1) (entries_below bytes k) ++ map (λ (e : Entry). e.1) (entries_of (block_at bytes k))
unfolding entries_below
names_further bytes k = rw add-one (map-append (λ (e : Entry). e.1) (entries_below bytes k)
    (entries_of (block_at bytes k)))

-- no blocks list no names
pub no_names_at_first : (bytes : List ℕ) → map (λ (e : Entry). e.1) (entries_below bytes 0) ≡ []
unfolding entries_below
no_names_at_first bytes = refl

module _ (rows : Rows) (parent : ℕ) (bytes : List ℕ) (is : ListsRows rows parent bytes) (unique : IsUnique rows) where
  abbrev names : List (List ℕ)
  names = map (λ (e : Entry). e.1) (all_entries bytes)

  names-apart : AllPairs (λ (p q : List ℕ). p ≢ q) names
  names-apart i j d before within = λ same.
      let es = all_entries bytes in
      let inside : j < length es = omega (arith, length-map es (λ (e : Entry). e.1)) in
      AreEntries-distinct es is.distinct i j (0, d) before inside
      (sym (get_or-map (λ (e : Entry). e.1) es i (0, d) d (omega arith)) ∙ same
      ∙ get_or-map (λ (e : Entry). e.1) es j (0, d) d inside)

  names-hang : (q : List ℕ) → Contains names q → Contains (names_in rows parent) q
  names-hang q c =
      let from = Contains-from_map (λ (e : Entry). e.1) (all_entries bytes) (0, q) q c in
      let found = sym (is.names from.0.1) ∙ number_in-Contains from.0 (all_entries bytes) is.distinct from.1 in
      subst (Contains (names_in rows parent)) from.2
      (names_in-has rows parent from.0.1 from.0.0 (child-is rows parent from.0.1 from.0.0 found))

  names-listed : (q : List ℕ) → Contains (names_in rows parent) q → Contains names q
  names-listed q c =
      let hangs = names_in-hang rows parent q c in
      let found = is.names q ∙ child-answer rows unique parent q (Some hangs.0) hangs.1 in
      Contains-map (λ (e : Entry). e.1) (all_entries bytes) (hangs.0, q)
      (Contains-number_in q hangs.0 (all_entries bytes) found)

  -- the listed names, when they are sorted, are those of the rows in byte order
  pub names_sorted : (sorted : List (List ℕ)) → IsPermutation names sorted → IsSorted (slice_cmp nat_cmp) sorted
      → sorted ≡ in_byte_order (names_in rows parent)
  names_sorted sorted moved order =
      sorted-is-in_byte_order sorted (names_in rows parent) order
      (IsDistinct-IsPermutation same_name (eq_by_cmp_equiv nat_list_cmp_total).symm names sorted moved
      (IsDistinct-from_AllPairs same_name-Decides names names-apart))
      (IsDistinct-from_AllPairs same_name-Decides (names_in rows parent) (names_in-apart rows parent unique))
      (λ q c. names-hang q (Contains-permutation sorted names q (IsPermutation-sym names sorted moved) c))
      (λ q c. Contains-permutation names sorted q moved (names-listed q c))

-- ---- a List that is allowed

-- it shows the listed names, sorted
pub list_answer : (c : Content) (w : World) → Shows c w → IsTree w.rows → (path : List (List ℕ)) (dir : Reached)
    → reached w.rows root path ≡ dir.number → Some dir.attrs ≡ shown_attrs c dir.number
    → is_directory_kind dir.attrs.kind ≡ true
    → (sorted : List (List ℕ)) → IsPermutation (map (λ (e : Entry). e.1) (all_entries (bytes_of c dir.number))) sorted
    → IsSorted (slice_cmp nat_cmp) sorted
    → served.Names sorted ≡ answer_of w (Names path)
list_answer c w shows tree path dir object shown directory sorted moved order =
    ap served.Names (names_sorted w.rows dir.number (bytes_of c dir.number)
    (bytes_listing shows dir.number dir.attrs shown directory) tree.unique sorted moved order)
    ∙ ap (λ n. served.Names (in_byte_order (names_in w.rows n))) (sym object)
