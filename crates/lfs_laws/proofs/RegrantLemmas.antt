-- Who gave or took a right on a row changed its mode or its owner: `right_between`, for the law `regranted_between`;
-- `cleared_grants` is for UnreadRuns too. What a row grants rests on owner, group and mode (`granted`), so where it
-- differs one of them does, and BetweenLemmas finds the call. A write clears set-id bits for ordinary callers, but none
-- of the nine bits that grant (`cleared_grants`); a right that hung on another bit of the mode would need its line
-- there.
use Rattle.std.proofs.Common.{◌≡◌, ◌⊎◌, ℕ, ◌==◌, Bool, true, false, cond, Some, inl, inr, refl, ap, ◌∙◌, ⊎_elim, arith}
use Rattle.std.proofs.lemmas.Bool.{cases_eq}
use Rattle.std.specs.FinMap as map
use Rattle.lfs_types.specs.Caller.{Caller}
use Rattle.lfs_types.specs.Tree.{Row, World, attrs_of}
use Rattle.lfs_types.specs.declared.answer.Answer.{Answer}
use Rattle.lfs_types.specs.declared.attrs.Bit.{Bit}
use Rattle.lfs_types.specs.declared.attrs.Bit.TheVariants.{Read, Write, Search}
use Rattle.lfs_types.specs.declared.request.Request.{Request}
use Rattle.lfs_rules.specs.Bits.{has_bit}
use Rattle.lfs_rules.specs.Grants.{owner_mask, group_mask, other_mask, grants_of}
use Rattle.lfs_rules.specs.Owners.{is_the_superuser, is_in_group}
use Rattle.lfs_rules.specs.SetId.{set_id_cleared}
use Rattle.lfs_model.specs.World.{IsTree}
use Rattle.lfs_laws.specs.LawMode.{LosesSetId}
use Rattle.lfs_laws.specs.LawOwner.{SameOwner}
use Rattle.lfs_laws.specs.LawRegranted.{GrantsAlike, MayRegrant, RightBetween}
use Rattle.lfs_model.specs.Steps.{IsAnswer, after_answer}
use Rattle.lfs_laws.proofs.BetweenLemmas.{between}
use Rattle.lfs_laws.proofs.RowLaws.{remoded_law, given_law}

-- what an owner, a group and a mode grant
abbrev pub granted : Caller → ℕ → ℕ → ℕ → Bit → Bool
granted other uid gid mode bit =
    cond (is_the_superuser other) true (cond (other.uid == uid) (has_bit mode (owner_mask bit))
    (cond (is_in_group other gid) (has_bit mode (group_mask bit)) (has_bit mode (other_mask bit))))

kept_400 : (m : ℕ) → has_bit (set_id_cleared m) 0o400 ≡ has_bit m 0o400
kept_400 m = ap (λ x. x == 1) (omega arith)

kept_200 : (m : ℕ) → has_bit (set_id_cleared m) 0o200 ≡ has_bit m 0o200
kept_200 m = ap (λ x. x == 1) (omega arith)

kept_100 : (m : ℕ) → has_bit (set_id_cleared m) 0o100 ≡ has_bit m 0o100
kept_100 m = ap (λ x. x == 1) (omega arith)

kept_40 : (m : ℕ) → has_bit (set_id_cleared m) 0o40 ≡ has_bit m 0o40
kept_40 m = ap (λ x. x == 1) (omega arith)

kept_20 : (m : ℕ) → has_bit (set_id_cleared m) 0o20 ≡ has_bit m 0o20
kept_20 m = ap (λ x. x == 1) (omega arith)

kept_10 : (m : ℕ) → has_bit (set_id_cleared m) 0o10 ≡ has_bit m 0o10
kept_10 m = ap (λ x. x == 1) (omega arith)

kept_4 : (m : ℕ) → has_bit (set_id_cleared m) 0o4 ≡ has_bit m 0o4
kept_4 m = ap (λ x. x == 1) (omega arith)

kept_2 : (m : ℕ) → has_bit (set_id_cleared m) 0o2 ≡ has_bit m 0o2
kept_2 m = ap (λ x. x == 1) (omega arith)

kept_1 : (m : ℕ) → has_bit (set_id_cleared m) 0o1 ≡ has_bit m 0o1
kept_1 m = ap (λ x. x == 1) (omega arith)

three : (other : Caller) (uid gid : ℕ) (a b c x y z : Bool) → a ≡ x → b ≡ y → c ≡ z
    → cond (is_the_superuser other) true (cond (other.uid == uid) a (cond (is_in_group other gid) b c))
    ≡ cond (is_the_superuser other) true (cond (other.uid == uid) x (cond (is_in_group other gid) y z))
three other uid gid a b c x y z p q r = λ i. cond (is_the_superuser other) true
    (cond (other.uid == uid) (p i) (cond (is_in_group other gid) (q i) (r i)))

-- without its set-id bits a mode grants the same
pub cleared_grants : (other : Caller) (uid gid mode : ℕ) (bit : Bit) → granted other uid gid (set_id_cleared mode) bit
    ≡ granted other uid gid mode bit
cleared_grants other uid gid mode Read = three other uid gid _ _ _ _ _ _ (kept_400 mode) (kept_40 mode) (kept_4 mode)
cleared_grants other uid gid mode Write = three other uid gid _ _ _ _ _ _ (kept_200 mode) (kept_20 mode) (kept_2 mode)
cleared_grants other uid gid mode Search = three other uid gid _ _ _ _ _ _ (kept_100 mode) (kept_10 mode) (kept_1 mode)

cases_owner : (r s : Row) → SameOwner r.file s.file ⊎ (SameOwner r.file s.file → ⊥)
cases_owner r s = ⊎_elim
    (λ u. ⊎_elim (λ g. inl (record { uid = u; gid = g })) (λ g. inr (λ (h : SameOwner r.file s.file). g h.gid))
    (cases_eq s.file.gid r.file.gid))
    (λ u. inr (λ (h : SameOwner r.file s.file). u h.uid))
    (cases_eq s.file.uid r.file.uid)

cases_two : (x y : Bool) → (x ≡ y) ⊎ (x ≡ y → ⊥)
cases_two true true = inl refl
cases_two true false = inr (λ e. cc (e))
cases_two false true = inr (λ e. cc (e))
cases_two false false = inl refl

module _ (numbers n : ℕ) (other : Caller) (bit : Bit) where
  regrants : (w : World) (caller : Caller) (request : Request) (answer : Answer) → IsTree w.rows
      → IsAnswer numbers w caller request answer
      → (r s : Row) → map.get w.rows n ≡ Some r → map.get (after_answer numbers w caller request answer).rows n ≡ Some s
      → (GrantsAlike other bit r s → ⊥) → MayRegrant n w caller request r s
  regrants w caller request answer tree is r s there after differs = ⊎_elim
      (λ (same : SameOwner r.file s.file). ⊎_elim
      (λ m. absurd (differs (λ i. granted other (same.uid i) (same.gid i) (m i) bit)))
      (λ apart. ⊎_elim
      (λ chmod. inl chmod)
      (λ (lost : LosesSetId w caller request n r s). absurd
      (differs ((λ i. granted other (same.uid i) (same.gid i) (lost.cleared i) bit)
      ∙ cleared_grants other r.file.uid r.file.gid r.file.mode bit)))
      (remoded_law numbers w caller request answer tree is n r s there after apart))
      (cases_eq s.file.mode r.file.mode))
      (λ apart. inr (given_law numbers w caller request answer tree is n r s there after apart))
      (cases_owner r s)

pub right_between : RightBetween
right_between other bit numbers segments entries w n r s tree legal there after differs =
    between numbers segments n (GrantsAlike other bit)
    (λ v caller request row new. MayRegrant n v caller request row new)
    (λ x. refl) (λ x y z a b. b ∙ a) (λ x y. cases_two (grants_of other (attrs_of y.file) bit)
    (grants_of other (attrs_of x.file) bit))
    (λ v caller request answer below is x y at next apart. regrants numbers n other bit v caller request answer below is
    x y at next apart)
    entries w r s tree legal there after differs
