-- Where a name fits in no block of a directory that has all its blocks, at least as many rows hang there as it has
-- blocks: `crowded`, for CreateLemmas and RenameEffects, so for the answer DirectoryFull. A block without room for 255
-- bytes has an entry at least, entries have differing numbers (`listed-apart`), and each is a row that hangs there, so
-- rows are no fewer than entries (`listed-le-children`). By this the rules, which know no blocks, can bound the
-- refusal; a smaller block or a longer name could leave a block full without an entry.
use Rattle.std.proofs.Common.{◌≡◌, ◌≢◌, ℕ, zero, suc, ◌/◌, ◌<◌, ◌≤◌, List, length, get_or, Option, None, Some, sym, ap}
use Rattle.std.proofs.Common.{◌∙◌, subst, arith, length-append}
use Rattle.std.specs.Prelude.{All, AllPairs, Contains}
use Rattle.std.specs.Cmp.{nat_cmp_total, eq_by_cmp_equiv}
use Rattle.std.specs.Map.{keys_of}
use Rattle.std.specs.FinMap as map
use Rattle.std.proofs.lemmas.List.{get_or-map}
use Rattle.std.proofs.lemmas.List.Elements.{All-contains, All-map, Contains-get_or}
use Rattle.std.proofs.lemmas.Map.Entries.{length-keys_of}
use Rattle.std.proofs.lemmas.Map.Made.{is_member-Decides, IsDistinct-from_AllPairs, length-le_from_is_member}
use Rattle.lfs_types.specs.Tree.{Row}
use Rattle.lfs_dirs.proofs.Changes.{AreEntries-distinct, number_in-Contains, used_of-without_le, entries-where_full}
use Rattle.lfs_dirs.specs.Directory.{Entry, used_of}
use Rattle.lfs_dirs.specs.Reading.{entries_of}
use Rattle.lfs_model.specs.World.{Rows, child, children, IsChild}
use Rattle.lfs_calls.specs.Content.{block_at, entries_below, all_entries, ListsRows, left_of, FitsNowhere}
use Rattle.lfs_model.proofs.Children.{child-is}
use Rattle.lfs_types.specs.declared.limits.TheConstants.{FILE_BLOCKS}
use Rattle.lfs_model.proofs.Members.{number_eq-Decides, children-has}

-- ---- counting

-- numbers that differ, each of them in another list, are no more than that list has
length-le_from_apart : (xs ys : List ℕ) → AllPairs (λ x y. x ≢ y) xs → All (Contains ys) xs → length xs ≤ length ys
length-le_from_apart xs ys apart each =
    length-le_from_is_member (eq_by_cmp_equiv nat_cmp_total) xs ys (IsDistinct-from_AllPairs number_eq-Decides xs apart)
    (λ q has. (is_member-Decides number_eq-Decides ys q).1
    (All-contains (Contains ys) xs q each ((is_member-Decides number_eq-Decides xs q).0 has)))

-- where each of the first blocks has an entry, they have at least as many entries as there are blocks
entries_below-many : (bytes : List ℕ) (m : ℕ) → ((k : ℕ) → k < m → 0 < length (entries_of (block_at bytes k)))
    → m ≤ length (entries_below bytes m)
unfolding entries_below
entries_below-many bytes zero h = omega arith
entries_below-many bytes (suc m) h =
    let before = entries_below-many bytes m (λ k below. h k (omega arith)) in
    let here = h m (omega arith) in
    simp length-append (omega (arith, before, here))

-- ---- the rows that hang in a directory

-- one row has one name
named_once : (rows : Rows) (parent : ℕ) (p q : List ℕ) (m n : ℕ) → IsChild rows parent p m → IsChild rows parent q n → m
    ≡ n → p ≡ q
named_once rows parent p q m n c d same =
    let one : c.row ≡ d.row = cc (c.there, d.there, ap (map.get rows) same) in
    sym c.named ∙ ap (λ (r : Row). r.name) one ∙ d.named

module _ (rows : Rows) (parent : ℕ) (bytes : List ℕ) (is : ListsRows rows parent bytes) where
  -- an entry's number is that of the row that hangs there under its name
  listed-child : All (λ (e : Entry). child rows parent e.1 ≡ Some e.0) (all_entries bytes)
  listed-child k d within =
      let e = get_or (all_entries bytes) k d in
      sym (is.names e.1) ∙ number_in-Contains e (all_entries bytes) is.distinct
      (Contains-get_or (all_entries bytes) k d within)

  -- no two entries have one number
  listed-apart : AllPairs (λ (m n : ℕ). m ≢ n) (keys_of (all_entries bytes))
  listed-apart i j d before within = λ same.
      let es = all_entries bytes in
      let inside : j < length es = omega (arith, length-keys_of es) in
      let e = get_or es i (d, bytes) in
      let f = get_or es j (d, bytes) in
      let number_e = get_or-map (λ (x : Entry). x.0) es i (d, bytes) d (omega arith) in
      let number_f = get_or-map (λ (x : Entry). x.0) es j (d, bytes) d inside in
      AreEntries-distinct es is.distinct i j (d, bytes) before inside
      (named_once rows parent e.1 f.1 e.0 f.0
      (child-is rows parent e.1 e.0 (listed-child i (d, bytes) (omega arith)))
      (child-is rows parent f.1 f.0 (listed-child j (d, bytes) inside))
      (sym number_e ∙ same ∙ number_f))

  -- a directory lists no more entries than rows hang there
  pub listed-le-children : length (all_entries bytes) ≤ length (children rows parent)
  listed-le-children =
      let each = All-map (Contains (children rows parent)) (λ (e : Entry). e.0) (all_entries bytes)
      (λ k d within. let e = get_or (all_entries bytes) k d in
      children-has rows parent e.1 e.0 (child-is rows parent e.1 e.0 (listed-child k d within))) in
      let fewer = length-le_from_apart (keys_of (all_entries bytes)) (children rows parent) listed-apart each in
      omega (arith, length-keys_of (all_entries bytes), fewer)

-- a block has no more bytes of entries once a name was taken away
used_of-left_le : (taken : Option (List ℕ)) (es : List Entry) → used_of (left_of taken es) ≤ used_of es
used_of-left_le None es = omega arith
used_of-left_le (Some name) es = used_of-without_le name es

-- where a new name fits nowhere, each of the 140 blocks has an entry, and each entry its row
pub crowded : (rows : Rows) (parent : ℕ) (bytes : List ℕ) (taken : Option (List ℕ)) (name : List ℕ)
    → ListsRows rows parent bytes → FitsNowhere bytes taken name → length name ≤ 255
    → FILE_BLOCKS ≤ length (children rows parent)
crowded rows parent bytes taken name is nowhere short =
    let count : length bytes / 512 ≡ FILE_BLOCKS = omega (arith, nowhere.whole) in
    let many = entries_below-many bytes FILE_BLOCKS (λ k below.
    entries-where_full (entries_of (block_at bytes k)) (length name) short
    (omega (arith, nowhere.full k below, used_of-left_le taken (entries_of (block_at bytes k))))) in
    let fewer = listed-le-children rows parent bytes is in
    let all : FILE_BLOCKS ≤ length (all_entries bytes) =
    subst (λ m. FILE_BLOCKS ≤ length (entries_below bytes m)) (sym count) many in
    omega (arith, all, fewer)
