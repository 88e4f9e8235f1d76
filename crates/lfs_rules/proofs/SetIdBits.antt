-- A mode without the set-id bits is its ten lower bits: `without_set_id` and `lost_set_ids`, for `clear_set_id`. A mode
-- is below 4096, so it has twelve bits, and the two of set-id are the highest; the mask leaves none of these (`high`)
-- and all of the ten below. So each of the ten digits is as it was, which is looked at one by one (`kept_bit`).
use Rattle.std.proofs.Common.{◌≡◌, ℕ, ◌/◌, ◌%◌, ◌<◌, ◌^◌, ◌==◌, zero, suc, refl, ap, ◌∙◌, arith, ne_eqb}
use Rattle.std.specs.Int.RustNames.{bit_and}
use Rattle.std.proofs.lemmas.Nat.{and_shr, and_mod, and_mask}
use Rattle.bitflags.specs.Sets.{without}
use Rattle.lfs_rules.specs.Bits.{has_bit}
use Rattle.lfs_rules.specs.SetId.{HasLostSetIds, set_id_cleared}

-- 60 is the mask above the ten lower bits, and 3072 there is 3
high : (q : ℕ) → q < 4 → bit_and q 60 ≡ 0
high zero h = refl
high (suc zero) h = refl
high (suc (suc zero)) h = refl
high (suc (suc (suc zero))) h = refl
high (suc (suc (suc (suc q)))) h = absurd (omega arith)

pub without_set_id : (mode : ℕ) → mode < 4096 → without 16 mode 0o6000 ≡ set_id_cleared mode
without_set_id mode small =
    let cleared : ℕ = without 16 mode 0o6000 in
    let above : cleared / 1024 ≡ 0 = and_shr mode 62463 10 ∙ high (mode / 1024) (omega arith) in
    let below : cleared % 1024 ≡ mode % 1024 % 1024 = and_mod mode 62463 10 ∙ and_mask (mode % 1024) 10 in
    omega arith

kept_bit : (mode k : ℕ) → k < 10 → has_bit (set_id_cleared mode) (2 ^ k) ≡ has_bit mode (2 ^ k)
kept_bit mode zero h = ap (λ x. x == 1) (omega arith)
kept_bit mode (suc zero) h = ap (λ x. x == 1) (omega arith)
kept_bit mode (suc (suc zero)) h = ap (λ x. x == 1) (omega arith)
kept_bit mode (suc (suc (suc zero))) h = ap (λ x. x == 1) (omega arith)
kept_bit mode (suc (suc (suc (suc zero)))) h = ap (λ x. x == 1) (omega arith)
kept_bit mode (suc (suc (suc (suc (suc zero))))) h = ap (λ x. x == 1) (omega arith)
kept_bit mode (suc (suc (suc (suc (suc (suc zero)))))) h = ap (λ x. x == 1) (omega arith)
kept_bit mode (suc (suc (suc (suc (suc (suc (suc zero))))))) h = ap (λ x. x == 1) (omega arith)
kept_bit mode (suc (suc (suc (suc (suc (suc (suc (suc zero)))))))) h = ap (λ x. x == 1) (omega arith)
kept_bit mode (suc (suc (suc (suc (suc (suc (suc (suc (suc zero))))))))) h = ap (λ x. x == 1) (omega arith)
kept_bit mode (suc (suc (suc (suc (suc (suc (suc (suc (suc (suc k)))))))))) h = absurd (omega (arith, h))

-- bit by bit: the two are off, and the others as they were
pub lost_set_ids : (mode : ℕ) → HasLostSetIds mode (set_id_cleared mode)
lost_set_ids mode = record { user = ne_eqb _ _ (omega arith); group = ne_eqb _ _ (omega arith); rest = kept_bit mode }
