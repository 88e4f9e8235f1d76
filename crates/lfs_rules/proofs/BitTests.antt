-- A test of a bit by a mask is the test of the number's binary digit: `owner_test`, `group_test`, `other_test` and
-- `sticky_test` for the access rules, the others for flags. A mask is a power of two, and a number's `and` with it is
-- the digit at that place times the power (`and_pow`), which is the mask just where the digit is 1 (`has_bit-and`).
use Rattle.std.proofs.Common.{◌≡◌, ℕ, ◌*◌, ◌^◌, ◌<◌, ◌==◌, arith, lit<, sym}
use Rattle.std.specs.Int.RustNames.{bit_and}
use Rattle.std.proofs.lemmas.Grind.{common_steps}
use Rattle.std.proofs.lemmas.Nat.Bits.{and_pow, bit_at-lt}
use Rattle.lfs_types.specs.declared.attrs.Bit.{Bit}
use Rattle.lfs_types.specs.declared.attrs.Bit.TheVariants.{Read, Write, Search}
use Rattle.lfs_rules.specs.Bits.{has_bit}
use Rattle.lfs_rules.specs.Grants.{owner_mask, group_mask, other_mask}

digit : (d p : ℕ) → d < 2 → 0 < p → (d * p == p) ≡ (d == 1)
digit d p small some = grind (arith, common_steps)

pub has_bit-and : (n k : ℕ) → 0 < 2 ^ k → (bit_and n (2 ^ k) == 2 ^ k) ≡ has_bit n (2 ^ k)
has_bit-and n k some = rw (and_pow n k) (digit _ (2 ^ k) (bit_at-lt n k) some)

pub owner_test : (mode : ℕ) (bit : Bit) → has_bit mode (owner_mask bit)
    ≡ (bit_and mode (owner_mask bit) == owner_mask bit)
owner_test mode Read = sym (has_bit-and mode 8 (lit< tt))
owner_test mode Write = sym (has_bit-and mode 7 (lit< tt))
owner_test mode Search = sym (has_bit-and mode 6 (lit< tt))

pub group_test : (mode : ℕ) (bit : Bit) → has_bit mode (group_mask bit)
    ≡ (bit_and mode (group_mask bit) == group_mask bit)
group_test mode Read = sym (has_bit-and mode 5 (lit< tt))
group_test mode Write = sym (has_bit-and mode 4 (lit< tt))
group_test mode Search = sym (has_bit-and mode 3 (lit< tt))

pub other_test : (mode : ℕ) (bit : Bit) → has_bit mode (other_mask bit)
    ≡ (bit_and mode (other_mask bit) == other_mask bit)
other_test mode Read = sym (has_bit-and mode 2 (lit< tt))
other_test mode Write = sym (has_bit-and mode 1 (lit< tt))
other_test mode Search = sym (has_bit-and mode 0 (lit< tt))

-- the bits that functions here ask for by name
pub sticky_test : (mode : ℕ) → (bit_and mode 0o1000 == 0o1000) ≡ has_bit mode 0o1000
sticky_test mode = has_bit-and mode 9 (lit< tt)

pub user_immutable_test : (flags : ℕ) → (bit_and flags 0x2 == 0x2) ≡ has_bit flags 0x2
user_immutable_test flags = has_bit-and flags 1 (lit< tt)

pub user_append_test : (flags : ℕ) → (bit_and flags 0x4 == 0x4) ≡ has_bit flags 0x4
user_append_test flags = has_bit-and flags 2 (lit< tt)

pub system_immutable_test : (flags : ℕ) → (bit_and flags 0x2_0000 == 0x2_0000) ≡ has_bit flags 0x2_0000
system_immutable_test flags = has_bit-and flags 17 (lit< tt)

pub system_append_test : (flags : ℕ) → (bit_and flags 0x4_0000 == 0x4_0000) ≡ has_bit flags 0x4_0000
system_append_test flags = has_bit-and flags 18 (lit< tt)
