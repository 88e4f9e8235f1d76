-- When a walk ends alike for every caller of a user: `moded_alike` for `grants_alike`, `goes_alike` and `ended_alike` for
-- `ends_alike`. A step asks of the caller only whether he is granted search. His groups decide that only where the
-- directory isn't his, and then between the group's bit and the others'. Where these agree, so do the steps of two
-- callers of one user, and their walks go on from the same child.
use Rattle.std.proofs.Common.{◌≡◌, ℕ, ◌+◌, Bool, true, false, cond, List, [], ◌∷◌, Some, Result, Ok, Err, refl, sym, ap, ◌∙◌}
use Rattle.std.proofs.Common.{◌==◌}
use Rattle.lfs_types.specs.Caller.{Caller}
use Rattle.lfs_types.specs.Stored.{shown_attrs}
use Rattle.lfs_types.specs.Tree.{Content, World}
use Rattle.lfs_types.specs.declared.attrs.Attrs.{Attrs}
use Rattle.lfs_types.specs.declared.attrs.Bit.TheVariants as bits
use Rattle.lfs_types.specs.declared.rule.Denial.{Denial}
use Rattle.lfs_types.specs.declared.rule.Rule.TheVariants.{IsDirectory, GrantsSearch}
use Rattle.std.specs.Bool.{beq}
use Rattle.std.specs.FinMap as map
use Rattle.lfs_rules.specs.Bits.{has_bit}
use Rattle.lfs_rules.specs.Grants.{owner_mask, group_mask, other_mask}
use Rattle.lfs_rules.specs.Owners.{is_in_group}
use Rattle.lfs_model.specs.World.{Rows, child}
use Rattle.lfs_model.specs.Rules.{is_directory_row}
use Rattle.lfs_model.specs.Walks.{and_then, found, stepped, walked}
use Rattle.lfs_model.proofs.WalkLemmas.{stepped-child, walked_end, walked_on}
use Rattle.lfs_calls.specs.Content.{Shows}
use Rattle.lfs_calls.specs.Reaches.{GrantsAlike}
use Rattle.lfs_calls.proofs.StepLemmas.{grants_reads}

-- two tests with one answer
pub same_of : (a b : Bool) → beq a b ≡ true → a ≡ b
same_of true true h = refl
same_of true false h = absurd (cc)
same_of false true h = absurd (cc)
same_of false false h = refl

-- what is granted a user who is in the group, or isn't
abbrev granted : Attrs → ℕ → Bool → Bool
granted attrs uid member =
    cond (uid == 0) true (cond (uid == attrs.uid) (has_bit attrs.mode (owner_mask bits.Search))
    (cond member (has_bit attrs.mode (group_mask bits.Search)) (has_bit attrs.mode (other_mask bits.Search))))

member_cond : (b c g o : Bool) → g ≡ o → cond b g o ≡ cond c g o
member_cond true true g o h = refl
member_cond true false g o h = h
member_cond false true g o h = sym h
member_cond false false g o h = refl

alike_of : (attrs : Attrs) (uid : ℕ) → ((m n : Bool) → granted attrs uid m ≡ granted attrs uid n) → GrantsAlike attrs uid
alike_of attrs uid same c d cu du =
    ap (λ u. granted attrs u (is_in_group c attrs.gid)) cu
    ∙ same (is_in_group c attrs.gid) (is_in_group d attrs.gid)
    ∙ ap (λ u. granted attrs u (is_in_group d attrs.gid)) (sym du)

-- its group is granted what others are
pub moded_alike : (attrs : Attrs) (uid : ℕ) → has_bit attrs.mode (group_mask bits.Search)
    ≡ has_bit attrs.mode (other_mask bits.Search) → GrantsAlike attrs uid
moded_alike attrs uid same = alike_of attrs uid
    (λ m n. ap (λ x. cond (uid == 0) true (cond (uid == attrs.uid) (has_bit attrs.mode (owner_mask bits.Search)) x))
    (member_cond m n _ _ same))

-- ---- a walk

-- the rest of a walk ends alike
abbrev pub GoesAlike : Rows → ℕ → ℕ → ℕ → List (List ℕ) → Type 0
GoesAlike rows uid k at names =
    (c d : Caller) → c.uid ≡ uid → d.uid ≡ uid → walked rows c 0 k at names ≡ walked rows d 0 k at names

-- along no names
pub ended_alike : (rows : Rows) (uid k at : ℕ) → GoesAlike rows uid k at []
ended_alike rows uid k at c d cu du = walked_end rows c 0 k at ∙ sym (walked_end rows d 0 k at)

and_then_same : (r : Result ℕ Denial) (f g : ℕ → Result ℕ Denial) → ((n : ℕ) → Ok n ≡ r → f n ≡ g n)
    → and_then r f ≡ and_then r g
and_then_same (Ok n) f g same = same n refl
and_then_same (Err denial) f g same = refl

-- along a name more, from the row to which it leads it goes on alike
pub goes_alike : (c : Content) (w : World) → Shows c w → (uid k at : ℕ) (name : List ℕ) (names : List (List ℕ)) (a : Attrs)
    → Some a ≡ shown_attrs c at → GrantsAlike a uid
    → ((n : ℕ) → child w.rows at name ≡ Some n → GoesAlike w.rows uid (k + 1) n names)
    → GoesAlike w.rows uid k at (name ∷ names)
goes_alike c w shows uid k at name names a shown grants rest one two same also =
    let grant = grants_reads c w shows at a shown one bits.Search ∙ grants one two same also
    ∙ sym (grants_reads c w shows at a shown two bits.Search) in
    let step : stepped w.rows one 0 k at name ≡ stepped w.rows two 0 k at name =
    ap (λ b. cond (is_directory_row (map.get w.rows at))
    (cond b (found 0 (k + 1) (child w.rows at name)) (Err (record { rule = GrantsSearch; path = 0; at = k })))
    (Err (record { rule = IsDirectory; path = 0; at = k }))) grant in
    walked_on w.rows one 0 k at name names (stepped w.rows two 0 k at name) (sym step)
    ∙ and_then_same (stepped w.rows two 0 k at name) _ _
    (λ n is. rest n (stepped-child w.rows two 0 k at name n is) one two same also)
    ∙ sym (walked_on w.rows two 0 k at name names (stepped w.rows two 0 k at name) refl)
