-- What a summary with a serial tells at an address is a whole partial segment just where each test of `is_next` passes:
-- `whole_at-told` and `whole_at-none` for the code, `whole_at-whole` for what `IsWhole` says of it.
use Rattle.std.proofs.Common.{◌≡◌, ◌≢◌, ℕ, ◌+◌, ◌-◌, ◌/◌, ◌%◌, ◌<◌, ◌≤◌, Bool, true, false, ◌&&◌, ◌==◌, nat_lt, List, Option}
use Rattle.std.proofs.Common.{Some, None}
use Rattle.std.proofs.Common.{if◌then◌else◌, option_map, length, get_or, refl, sym, ap, ◌∙◌, arith}
use Rattle.std.proofs.lemmas.Bool.{eq-eqb, eqb-true, le-ltb, lt-ltb, ne_eqb}
use Rattle.std.proofs.lemmas.List.{get_or-take, length-take}
use Rattle.std.proofs.lemmas.Option.{cond_some, none-some}
use Rattle.lfs_inodes.specs.declared.inode.Inode.{Inode}
use Rattle.lfs_inodes.specs.Reading.{fields_in, fields_of}
use Rattle.lfs_inodes.specs.Slots.{slot_of}
use Rattle.lfs_segments.specs.declared.summary.Summary.{Summary}
use Rattle.lfs_segments.specs.Entry.{unused}
use Rattle.lfs_segments.specs.Memory.{SegmentMemory, block_at}
use Rattle.lfs_segments.specs.Reading.{named_by}
use Rattle.lfs_segments.specs.Serial.{Told, told_in}
use Rattle.lfs_segments.proofs.TestLemmas.{both}
use Rattle.lfs_recovery.specs.Whole.{IsWhole, ends_in_inodes, has_record, is_next, is_there, told_if}
use Rattle.lfs_recovery.specs.Whole.{whole_at}

pub length-named : (s : Summary) → length (named_by s) ≡ s.count
length-named s = let whole = s.whole in let at_most = s.at_most in simp length-take (omega arith)

pub last-named : (s : Summary) → get_or (named_by s) (length (named_by s) - 1) unused
    ≡ get_or s.entries (s.count - 1) unused
last-named s =
    let some = s.some in
    ap (λ (n : ℕ). get_or (named_by s) (n - 1) unused) (length-named s)
    ∙ get_or-take s.count s.entries (s.count - 1) unused (omega arith)

pub has_record-read : (m : SegmentMemory) (address : ℕ) (block bytes : List ℕ) (read : Option Inode) → block
    ≡ block_at m address
    → bytes ≡ slot_of block 0 → option_map fields_of read ≡ fields_in bytes
    → has_record m address ≡ is_there (option_map fields_of read)
unfolding has_record
has_record-read m address block bytes read at slot is =
    ap (λ (b : List ℕ). is_there (fields_in (slot_of b 0))) (sym at)
    ∙ ap (λ (b : List ℕ). is_there (fields_in b)) (sym slot)
    ∙ ap is_there (sym is)

pub whole_at-told : (m : SegmentMemory) (address above : ℕ) (block : List ℕ) (t : Told) (passes : Bool)
    → block ≡ block_at m address → Some t ≡ told_in block → passes ≡ is_next m address above t
    → (if passes then Some t else None) ≡ whole_at m address above
unfolding whole_at
whole_at-told m address above block t passes at told test =
    ap (λ (b : Bool). if b then Some t else None) test
    ∙ ap (told_if (is_next m address above)) (told ∙ ap told_in at)

pub whole_at-none : (m : SegmentMemory) (address above : ℕ) (block : List ℕ) → block ≡ block_at m address
    → None ≡ told_in block → None ≡ whole_at m address above
unfolding whole_at
whole_at-none m address above block at none = ap (told_if (is_next m address above)) (none ∙ ap told_in at)

pub told_if-some : (test : Told → Bool) (o : Option Told) (t : Told) → told_if test o ≡ Some t → (o ≡ Some t)
    × (test t ≡ true)
told_if-some test None t e = absurd (none-some t e)
told_if-some test (Some u) t e =
    let found = cond_some (test u) u t e in
    (ap Some found.1, ap test (sym found.1) ∙ found.0)

-- what is found is whole
pub whole_at-whole : (m : SegmentMemory) (address above : ℕ) (t : Told) → whole_at m address above ≡ Some t
    → IsWhole m (record { serial = t.serial; address = address; count = length t.entries })
unfolding whole_at is_next
whole_at-whole m address above t e =
    let found = told_if-some (is_next m address above) (told_in (block_at m address)) t e in
    let there = has_record m (address + length t.entries) in
    let last = ends_in_inodes t.entries in
    let newer = nat_lt above t.serial in
    let offset = t.offset == address % 64 in
    let a = both (t.segment == address / 64) (offset && (newer && (last && there))) found.1 in
    let b = both offset (newer && (last && there)) a.1 in
    let c = both newer (last && there) b.1 in
    let d = both last there c.1 in
    record {
      told = t;
      spelled = found.0;
      serial = refl;
      count = refl;
      segment = eqb-true _ _ a.0;
      offset = eqb-true _ _ b.0;
      last = d.0;
      record_there = d.1;
    }

-- the tests of `is_next`, one by one
pub is_next-apart : (m : SegmentMemory) (address above : ℕ) (t : Told) → t.segment ≢ address / 64
    → is_next m address above t ≡ false
unfolding is_next
is_next-apart m address above t p = rw (ne_eqb _ _ p) refl

pub is_next-offset : (m : SegmentMemory) (address above : ℕ) (t : Told) → t.segment ≡ address / 64
    → t.offset ≢ address % 64 → is_next m address above t ≡ false
unfolding is_next
is_next-offset m address above t p q = rw (eq-eqb _ _ p, ne_eqb _ _ q) refl

pub is_next-old : (m : SegmentMemory) (address above : ℕ) (t : Told) → t.segment ≡ address / 64
    → t.offset ≡ address % 64 → t.serial ≤ above → is_next m address above t ≡ false
unfolding is_next
is_next-old m address above t p q r = rw (eq-eqb _ _ p, eq-eqb _ _ q, le-ltb _ _ r) refl

pub is_next-here : (m : SegmentMemory) (address above : ℕ) (t : Told) → t.segment ≡ address / 64
    → t.offset ≡ address % 64 → above < t.serial
    → is_next m address above t ≡ (ends_in_inodes t.entries && has_record m (address + length t.entries))
unfolding is_next
is_next-here m address above t p q r = rw (eq-eqb _ _ p, eq-eqb _ _ q, lt-ltb _ _ r) refl
