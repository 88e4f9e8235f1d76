-- The tests on a summary's bytes say what the types ask for: `may_name-true` and `true-may_name`, `entry_from-spelled`
-- and `spelled-entry_from`, for ReadingLemmas and EntryLemmas. The kinds of blocks have numbers apart from one another
-- and from each index that a file can have, so a block is read back from its number (`block_from-block_number`) and a
-- number from its block (`block_number-block_from`). The latter holds of any number, as what is none of the others
-- counts as data; a new kind of block needs a range of its own, and its line in `may_name-true`.
use Rattle.std.proofs.Common.{◌≡◌, ℕ, zero, suc, ◌+◌, ◌*◌, ◌<◌, ◌≤◌, Bool, true, false, ◌&&◌, nat_lt, nat_le, ◌==◌}
use Rattle.std.proofs.Common.{List, get_or, length, refl, sym, ap, ◌∙◌, ⊎_elim, inl, inr, arith}
use Rattle.std.proofs.lemmas.Bool.{cases_lt, eqb-true, leb-true, ltb-true, le-leb, lt-leb, le-ltb, lt-ltb}
use Rattle.std.specs.Prelude.{if◌then◌else◌, ◌-◌}
use Rattle.std.proofs.lemmas.Bool.Decides.{eqb_tells, nat_tests}
use Rattle.lfs_types.specs.declared.limits.TheConstants.{FILE_BLOCKS}
use Rattle.lfs_segments.specs.declared.entry.LogicalBlock.{LogicalBlock}
use Rattle.lfs_segments.specs.declared.entry.LogicalBlock.TheVariants.{Data, Single, Double, Child, Inodes}
use Rattle.lfs_segments.specs.declared.entry.SummaryEntry.{SummaryEntry}
use Rattle.lfs_segments.specs.Bytes.{word_at}
use Rattle.lfs_segments.specs.Entry.{IsLogicalBlock, IsOwner, IsEntry, IsEntryAt, IsFileNumber, block_number}
use Rattle.lfs_segments.specs.Reading.{all_below, block_from, entries_from, entry_from, is_file_number, may_name}

pub both : (a b : Bool) → (a && b) ≡ true → (a ≡ true) × (b ≡ true)
both true true h = (refl, refl)
both true false h = absurd (cc)
both false b h = absurd (cc)

pub all_below-each : (test : ℕ → Bool) (n : ℕ) → all_below test n ≡ true → (k : ℕ) → k < n → test k ≡ true
all_below-each test zero h k below = absurd (omega arith)
all_below-each test (suc n) h k below =
    let parts = both (all_below test n) (test n) h in
    ⊎_elim
    (λ (lt : k < n). all_below-each test n parts.0 k lt)
    (λ (ge : n ≤ k). let at : k ≡ n = omega arith in rw at parts.1)
    (cases_lt k n)

pub all_below-from_each : (test : ℕ → Bool) (n : ℕ) → ((k : ℕ) → k < n → test k ≡ true) → all_below test n ≡ true
all_below-from_each test zero each = refl
all_below-from_each test (suc n) each =
    let before = all_below-from_each test n (λ k below. each k (omega arith)) in
    let last = each n (omega arith) in
    rw (before, last) refl

-- the number of a kind of block leads back to it
pub block_from-block_number : (block : LogicalBlock) → IsLogicalBlock block → block_from (block_number block) ≡ block
block_from-block_number (Data index) inside = grind (arith, nat_tests)
block_from-block_number Single inside = refl
block_from-block_number Double inside = refl
block_from-block_number (Child index) inside = grind (arith, nat_tests)
block_from-block_number Inodes inside = refl

-- the block of a number that none of the others has
abbrev child_or_data : ℕ → LogicalBlock
child_or_data number = if nat_le 0x8000_0100 number && nat_lt number 0x8000_0180 then Child (number - 0x8000_0100)
    else Data number

block_number-child_or_data : (number : ℕ) → block_number (child_or_data number) ≡ number
block_number-child_or_data number = elim (cases_lt number 0x8000_0100) as (λ w. block_number (child_or_data number)
    ≡ number) [
      | inl low ↦ rw (lt-leb 0x8000_0100 number low) refl
      | inr high ↦ elim (cases_lt number 0x8000_0180) as (λ w. block_number (child_or_data number) ≡ number) [
        | inl low ↦ rw (le-leb 0x8000_0100 number high, lt-ltb number 0x8000_0180 low) (omega arith)
        | inr past ↦ rw (le-leb 0x8000_0100 number high, le-ltb number 0x8000_0180 past) refl
      ]
    ]

pub block_number-block_from : (number : ℕ) → block_number (block_from number) ≡ number
block_number-block_from number = ⊎_elim
    (λ single. rw single.0 (sym single.1))
    (λ other. rw other.0 (⊎_elim
    (λ double. rw double.0 (sym double.1))
    (λ next. rw next.0 (⊎_elim
    (λ inodes. rw inodes.0 (sym inodes.1))
    (λ rest. rw rest.0 (block_number-child_or_data number))
    (eqb_tells number 0xffff_ffff)))
    (eqb_tells number 0x8000_0001)))
    (eqb_tells number 0x8000_0000)

pub file_number-true : (number : ℕ) → is_file_number number ≡ true → IsFileNumber number
file_number-true number h = record {
  above = grind (arith, nat_tests);
  not_three = grind (arith, nat_tests);
  below = grind (arith, nat_tests);
}

pub true-file_number : (number : ℕ) → IsFileNumber number → is_file_number number ≡ true
true-file_number number p = let above = p.above in let below = p.below in let other = p.not_three in
    grind (arith, nat_tests)

pub may_name-true : (block : LogicalBlock) (number version : ℕ) → may_name block number version ≡ true
    → IsLogicalBlock block × IsOwner block number version
may_name-true (Data index) number version h =
    let parts = both (nat_lt index FILE_BLOCKS) (is_file_number number && nat_le 1 version) h in
    let owner = both (is_file_number number) (nat_le 1 version) parts.1 in
    (ltb-true index FILE_BLOCKS parts.0, (file_number-true number owner.0, leb-true 1 version owner.1))
may_name-true Single number version h =
    let owner = both (is_file_number number) (nat_le 1 version) h in
    (tt, (file_number-true number owner.0, leb-true 1 version owner.1))
may_name-true Double number version h =
    let owner = both (is_file_number number) (nat_le 1 version) h in
    (tt, (file_number-true number owner.0, leb-true 1 version owner.1))
may_name-true (Child index) number version h =
    let parts = both (nat_lt index 128) (is_file_number number && nat_le 1 version) h in
    let owner = both (is_file_number number) (nat_le 1 version) parts.1 in
    (ltb-true index 128 parts.0, (file_number-true number owner.0, leb-true 1 version owner.1))
may_name-true Inodes number version h =
    let owner = both (number == 0) (version == 0) h in
    (tt, (eqb-true number 0 owner.0, eqb-true version 0 owner.1))

pub true-may_name : (block : LogicalBlock) (number version : ℕ) → IsLogicalBlock block → IsOwner block number version
    → may_name block number version ≡ true
true-may_name (Data index) number version inside p =
    let file = true-file_number number p.0 in let some = p.1 in grind (arith, nat_tests)
true-may_name Single number version inside p =
    let file = true-file_number number p.0 in let some = p.1 in grind (arith, nat_tests)
true-may_name Double number version inside p =
    let file = true-file_number number p.0 in let some = p.1 in grind (arith, nat_tests)
true-may_name (Child index) number version inside p =
    let file = true-file_number number p.0 in let some = p.1 in grind (arith, nat_tests)
true-may_name Inodes number version inside p = rw (p.0, p.1) refl

-- the entry that is spelled is the one that is read
pub entry_from-spelled : (bytes : List ℕ) (place : ℕ) (e : SummaryEntry) → IsEntry e → IsEntryAt bytes place e
    → entry_from bytes place ≡ e
entry_from-spelled bytes place e p q =
    let block : block_from (word_at bytes (place + 8)) ≡ e.block = ap block_from q.block
    ∙ block_from-block_number e.block p.block in
    let number = q.number in let version = q.version in
    λ i. record { number = number i; version = version i; block = block i }

pub spelled-entry_from : (bytes : List ℕ) (place : ℕ) → IsEntryAt bytes place (entry_from bytes place)
spelled-entry_from bytes place = record {
  number = refl;
  version = refl;
  block = sym (block_number-block_from (word_at bytes (place + 8)));
}

pub length-entries_from : (bytes : List ℕ) (place n : ℕ) → length (entries_from bytes place n) ≡ n
length-entries_from bytes place zero = refl
length-entries_from bytes place (suc n) = ap suc (length-entries_from bytes (place + 12) n)

pub get_or-entries_from : (bytes : List ℕ) (place n k : ℕ) (d : SummaryEntry) → k < n
    → get_or (entries_from bytes place n) k d ≡ entry_from bytes (place + 12 * k)
get_or-entries_from bytes place zero k d below = absurd (omega arith)
get_or-entries_from bytes place (suc n) zero d below = ap (entry_from bytes) (omega arith)
get_or-entries_from bytes place (suc n) (suc k) d below =
    get_or-entries_from bytes (place + 12) n k d (omega arith) ∙ ap (entry_from bytes) (omega arith)
