-- The names in a directory are one list in byte order: `are_names` for RefusedLemmas and CallLaws, `names_alike` for
-- ViewLaw. Sorting neither adds a name nor drops one, and no two rows hang under one name, so the list rises strictly.
-- A list that rises strictly is told by what it contains (`one_list`), so two directories in which the same names hang
-- have one list.
use Rattle.std.proofs.Common.{◌≡◌, ◌↔◌, ℕ, List, sym, ◌∙◌}
use Rattle.std.specs.Prelude.{Contains}
use Rattle.std.specs.Cmp.Lexicographic.{slice_cmp}
use Rattle.std.specs.List.{list_any}
use Rattle.std.specs.List.Sorted.{IsStrictlySortedBy}
use Rattle.std.specs.Ordering.{nat_cmp}
use Rattle.std.proofs.lemmas.Bool.Decides.{same_from_decides, Decides-like}
use Rattle.std.proofs.lemmas.Cmp.{nat_list_cmp_total}
use Rattle.std.proofs.lemmas.Map.Lookups.{btree_set_from_contains, exact_bytes}
use Rattle.std.proofs.lemmas.Map.Made.{is_member-Decides, IsDistinct-from_AllPairs}
use Rattle.lfs_model.specs.World.{Rows, IsChild, IsTree}
use Rattle.lfs_model.specs.Effects.{in_byte_order, names_in}
use Rattle.lfs_laws.specs.LawShown.{AreNames}
use Rattle.lfs_model.proofs.ByteOrder.{any-in_byte_order, same_name, same_name-Decides, sorted-in_byte_order}
use Rattle.lfs_model.proofs.Members.{names_in-apart, names_in-hang, names_in-has}

-- names in order are the same names
in_order-has : (names : List (List ℕ)) (q : List ℕ) → Contains names q → Contains (in_byte_order names) q
in_order-has names q c = (is_member-Decides same_name-Decides (in_byte_order names) q).0
    (any-in_byte_order (same_name q) names ∙ (is_member-Decides same_name-Decides names q).1 c)

in_order-from : (names : List (List ℕ)) (q : List ℕ) → Contains (in_byte_order names) q → Contains names q
in_order-from names q c = (is_member-Decides same_name-Decides names q).0 (sym (any-in_byte_order (same_name q) names)
    ∙ (is_member-Decides same_name-Decides (in_byte_order names) q).1 c)

-- what a List shows are the names in its directory
pub are_names : (rows : Rows) → IsTree rows → (dir : ℕ) → AreNames rows dir (in_byte_order (names_in rows dir))
are_names rows tree dir = record {
  ordered = sorted-in_byte_order (names_in rows dir)
      (IsDistinct-from_AllPairs same_name-Decides (names_in rows dir) (names_in-apart rows dir tree.unique));
  each = λ name. (
    λ c. names_in-hang rows dir name (in_order-from (names_in rows dir) name c),
    λ child. in_order-has (names_in rows dir) name (names_in-has rows dir name child.0 child.1),
  );
}

-- sorted lists of the same names are one
one_list : (names others : List (List ℕ)) → IsStrictlySortedBy (slice_cmp nat_cmp) names
    → IsStrictlySortedBy (slice_cmp nat_cmp) others
    → ((q : List ℕ) → Contains names q → Contains others q) → ((q : List ℕ) → Contains others q → Contains names q)
    → names ≡ others
one_list names others sorted ordered there back =
    btree_set_from_contains nat_list_cmp_total (record { keys = names }) (record { keys = others }) sorted ordered
    (λ q. same_from_decides (list_any (same_name q) names) (list_any (same_name q) others)
    (Decides-like _ (there q) (back q) (is_member-Decides same_name-Decides names q))
    (is_member-Decides same_name-Decides others q))
    exact_bytes

-- where the same names hang in two directories, they have one list
pub names_alike : (rows others : Rows) → IsTree rows → IsTree others → (dir : ℕ)
    → ((name : List ℕ) → ((n : ℕ) × IsChild rows dir name n) ↔ ((n : ℕ) × IsChild others dir name n))
    → in_byte_order (names_in rows dir) ≡ in_byte_order (names_in others dir)
names_alike rows others tree other dir same =
    let one = are_names rows tree dir in
    let two = are_names others other dir in
    one_list _ _ one.ordered two.ordered
    (λ q c. (two.each q).1 ((same q).0 ((one.each q).0 c)))
    (λ q c. (one.each q).1 ((same q).1 ((two.each q).0 c)))
