-- Levels are read from their numbers: `level_read`, `level_refused` and `minus_refused`, all for `level`. A number
-- above 2 is no level with either sign (`none_above`, `none_below`), so the reader's limit of 2 refuses just those,
-- with the same fault; eight bits hold the others and their negations (`kept`, `negated`). A level above 2 or below -2
-- would need another limit, and all cases of `negated`.
use Rattle.std.proofs.Common.{◌≡◌, ℕ, zero, suc, ◌<◌, ◌≤◌, Bool, true, false, cond, List, [], ◌∷◌, ℤ, pos, neg_ℤ}
use Rattle.std.proofs.Common.{Option, None, Some, Ok, Err, refl, ap, arith, to_z, of_z, w8}
use Rattle.std.specs.Prelude.{nat_le, ◌-ℤ◌}
use Rattle.std.specs.Option.{ok_or}
use Rattle.std.specs.Result.{result_map_both}
use Rattle.std.specs.Str.Parse.{digits_value, starts_with_minus}
use Rattle.std.proofs.lemmas.Bool.{leb-true, leb-false, eqb-true}
use Rattle.lfs_types.specs.Levels.{level_of}
use Rattle.lfs_types.specs.declared.level.Level.{Level}
use Rattle.lfs_words.specs.Numbers.{is_numeral, number_of}
use Rattle.lfs_words.specs.LevelText.{or_range, level_signed, level_word}
use Rattle.lfs_words.specs.declared.fault.FaultKind.{FaultKind}
use Rattle.lfs_words.specs.declared.fault.FaultKind.TheVariants.{Number, Range}

-- no number above 2 is a level
none_above : (v : ℕ) → 2 < v → level_of (pos v) ≡ None
none_above zero lt = absurd (omega arith)
none_above (suc zero) lt = absurd (omega arith)
none_above (suc (suc zero)) lt = absurd (omega arith)
none_above (suc (suc (suc n))) lt = refl

-- nor is one that many below zero
none_below : (v : ℕ) → 2 < v → level_of (neg_ℤ (pos v)) ≡ None
none_below zero lt = absurd (omega arith)
none_below (suc zero) lt = absurd (omega arith)
none_below (suc (suc zero)) lt = absurd (omega arith)
none_below (suc (suc (suc n))) lt = refl

refused : (sign : ℤ → ℤ) (n s : Bool) (v : ℕ) (kind : FaultKind) → (2 < v → level_of (sign (pos v)) ≡ None) → nat_le v 2
    ≡ s
    → result_map_both pos (λ kind. kind) (cond n (cond s (Ok v) (Err Range)) (Err Number)) ≡ Err kind
    → cond n (or_range (level_of (sign (pos v)))) (Err Number) ≡ Err kind
refused sign true true v kind past le e = absurd (cc)
refused sign true false v kind past le e = rw (past (leb-false v 2 le)) (cc)
refused sign false s v kind past le e = cc

-- a word whose number is refused is no level, for the same fault
pub level_refused : (digits : List ℕ) (kind : FaultKind) → result_map_both pos (λ kind. kind) (number_of 10 20 2 digits)
    ≡ Err kind → level_signed (λ n. n) digits ≡ Err kind
level_refused digits kind e =
    refused (λ n. n) (is_numeral 10 20 digits) (nat_le (digits_value 10 digits) 2) (digits_value 10 digits) kind
    (none_above (digits_value 10 digits)) refl e

-- and so is one behind a minus
pub minus_refused : (digits : List ℕ) (kind : FaultKind) → result_map_both pos (λ kind. kind) (number_of 10 20 2 digits)
    ≡ Err kind → level_signed neg_ℤ digits ≡ Err kind
minus_refused digits kind e =
    refused neg_ℤ (is_numeral 10 20 digits) (nat_le (digits_value 10 digits) 2) (digits_value 10 digits) kind
    (none_below (digits_value 10 digits)) refl e

read : (sign : ℤ → ℤ) (n s : Bool) (v : ℕ) (z : ℤ) → nat_le v 2 ≡ s
    → result_map_both pos (λ kind. kind) (cond n (cond s (Ok v) (Err Range)) (Err Number)) ≡ Ok z → (z ≡ pos v)
    × (v ≤ 2) × (cond n (or_range (level_of (sign (pos v)))) (Err Number) ≡ or_range (level_of (sign z)))
read sign true true v z le e =
    let same : z ≡ pos v = cc in
    (same, leb-true v 2 le, rw same refl)
read sign true false v z le e = absurd (cc)
read sign false s v z le e = absurd (cc)

-- a word whose number is read is that number's level
pub level_read : (sign : ℤ → ℤ) (digits : List ℕ) (z : ℤ)
    → result_map_both pos (λ kind. kind) (number_of 10 20 2 digits) ≡ Ok z → (z ≡ pos (digits_value 10 digits))
    × (digits_value 10 digits ≤ 2) × (level_signed sign digits ≡ or_range (level_of (sign z)))
level_read sign digits z e = read sign (is_numeral 10 20 digits) (nat_le (digits_value 10 digits) 2)
    (digits_value 10 digits) z refl e

negated_at : (v : ℕ) → v ≤ 2 → to_z w8 (of_z w8 (pos 0 -ℤ to_z w8 (of_z w8 (pos v)))) ≡ neg_ℤ (pos v)
negated_at zero le = refl
negated_at (suc zero) le = refl
negated_at (suc (suc zero)) le = refl
negated_at (suc (suc (suc n))) le = absurd (omega arith)

-- a number up to 2 is negated in eight bits
pub negated : (v : ℕ) (z : ℤ) → v ≤ 2 → z ≡ pos v → to_z w8 (of_z w8 (pos 0 -ℤ to_z w8 (of_z w8 z))) ≡ neg_ℤ z
negated v z le e = rw e (negated_at v le)

kept_at : (v : ℕ) → v ≤ 2 → to_z w8 (of_z w8 (pos v)) ≡ pos v
kept_at zero le = refl
kept_at (suc zero) le = refl
kept_at (suc (suc zero)) le = refl
kept_at (suc (suc (suc n))) le = absurd (omega arith)

-- and is kept in them
pub kept : (v : ℕ) (z : ℤ) → v ≤ 2 → z ≡ pos v → to_z w8 (of_z w8 z) ≡ z
kept v z le e = rw e (kept_at v le)

pub ok_or_range : (found : Option Level) → ok_or found Range ≡ or_range found
ok_or_range None = refl
ok_or_range (Some level) = refl

-- a word with a minus before its digits
pub level_minus : (word rest : List ℕ) → word ≡ 45 ∷ rest → level_word word ≡ level_signed neg_ℤ rest
level_minus word rest e = rw e refl

without_minus : (word : List ℕ) (b : Bool) → starts_with_minus word ≡ b → ((rest : List ℕ) → word ≡ 45 ∷ rest → ⊥)
    → level_word word ≡ level_signed (λ n. n) word
without_minus [] b h other = refl
without_minus (c ∷ cs) true h other =
    let dash : c ≡ 45 = eqb-true c 45 h in absurd (other cs (ap (λ x. x ∷ cs) dash))
without_minus (c ∷ cs) false h other = rw h refl

-- a word with none
pub level_plain : (word : List ℕ) → ((rest : List ℕ) → word ≡ 45 ∷ rest → ⊥) → level_word word
    ≡ level_signed (λ n. n) word
level_plain word other = without_minus word (starts_with_minus word) refl other
