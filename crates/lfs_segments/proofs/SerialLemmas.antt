-- A summary with a serial is a summary in all bytes but 12 to 15. `without_serial` makes one out of the other, and
-- keeps all other bytes (`without_serial-same`), so what they spell stays too (`spelled-same`): a block is the
-- grammar's just where the block without its serial is (`plain_spelled`, `serial_spelled`). By that `told_in` reads
-- what `IsSerialBlock` says (`told_in-spelled`), and no block is a summary both with and without a serial
-- (`summary_entries-serial`).
use Rattle.std.proofs.Common.{◌≡◌, ℕ, ◌+◌, ◌-◌, ◌*◌, ◌<◌, ◌≤◌, Bool, true, false, ◌==◌, List, ◌++◌, Option, Some, None}
use Rattle.std.proofs.Common.{option_map, length, slice_index, take, drop, replicate, refl, sym, ap, subst, ◌∙◌}
use Rattle.std.proofs.Common.{⊎_elim, arith}
use Rattle.std.proofs.Props.{props}
use mathlib.Core.HLevel.{is_prop→PathP}
use Rattle.std.proofs.lemmas.Bool.{cases_lt, ne_eqb}
use Rattle.std.proofs.lemmas.Option.{none-some, same_Some}
use Rattle.std.proofs.lemmas.List.{ext_get_or, get_or-append_right, get_or-drop, get_or-take, get_or_append_left}
use Rattle.std.proofs.lemmas.List.{length-append, length-drop, length-take}
use Rattle.lfs_segments.specs.declared.entry.SummaryEntry.{SummaryEntry}
use Rattle.lfs_segments.specs.declared.serial.SerialSummary.{SerialSummary}
use Rattle.lfs_segments.specs.declared.summary.Summary.{Summary}
use Rattle.lfs_segments.specs.Bytes.{IsBlock, half_at, word_at}
use Rattle.lfs_segments.specs.Reading.{named_by, summary_entries}
use Rattle.lfs_segments.specs.Serial.{IsSerialBlock, IsSummaryWith, Told, entries_in, told_by, told_in, without_serial}
use Rattle.lfs_segments.specs.Summary.{IsSummaryBlock}
use Rattle.lfs_segments.proofs.BytesLemmas.{get_or-replicate_same, half_kept, word_kept}
use Rattle.lfs_segments.proofs.ReadingLemmas.{summary_entries-none, summary_entries-spelled}
use Rattle.lfs_segments.proofs.SummaryLemmas.{SpellsRest, rest_of, same_block}

-- a summary with a serial is what its fields are
pub same_serial : (s t : SerialSummary) → s.serial ≡ t.serial → s.summary ≡ t.summary → s ≡ t
same_serial s t serial summary = λ i. record {
  serial = serial i;
  summary = summary i;
  told = is_prop→PathP (λ j. 0 < serial j) (λ j. hlevel props) s.told t.told i;
}

-- two blocks have the same bytes, but for 12 to 15
pub record SameBut (xs ys : List ℕ) : Type 0 where
  pub before : (i : ℕ) → i < 12 → slice_index ys i ≡ slice_index xs i
  pub after : (i : ℕ) → 16 ≤ i → slice_index ys i ≡ slice_index xs i

pub spelled-same : (xs ys : List ℕ) (v : Summary) → SameBut xs ys → SpellsRest xs v → SpellsRest ys v
spelled-same xs ys v same p = record {
  mark = word_kept xs ys 0 (λ i _ below. same.before i (omega arith)) ∙ p.mark;
  segment = word_kept xs ys 4 (λ i _ below. same.before i (omega arith)) ∙ p.segment;
  offset = half_kept xs ys 8 (λ i _ below. same.before i (omega arith)) ∙ p.offset;
  count = half_kept xs ys 10 (λ i _ below. same.before i (omega arith)) ∙ p.count;
  entries = λ k below.
      let e = p.entries k below in
      record {
        number = word_kept xs ys (16 + 12 * k) (λ i from _. same.after i (omega arith)) ∙ e.number;
        version = word_kept xs ys (16 + 12 * k + 4) (λ i from _. same.after i (omega arith)) ∙ e.version;
        block = word_kept xs ys (16 + 12 * k + 8) (λ i from _. same.after i (omega arith)) ∙ e.block;
      };
  rest = λ i past. same.after i (omega arith) ∙ p.rest i past;
}

pub serial_rest : (bytes : List ℕ) (s : SerialSummary) → IsSerialBlock bytes s → SpellsRest bytes s.summary
serial_rest bytes s p = record {
  mark = p.mark;
  segment = p.segment;
  offset = p.offset;
  count = p.count;
  entries = p.entries;
  rest = p.rest;
}

-- zeros stand for the serial
pub without_serial-zero : (bytes : List ℕ) (i : ℕ) → length bytes ≡ 512 → 12 ≤ i → i < 16
    → slice_index (without_serial bytes) i ≡ 0
without_serial-zero bytes i long low high =
    let front : length (take 12 bytes) ≡ 12 = simp length-take (omega arith) in
    get_or-append_right (take 12 bytes) (replicate 4 0 ++ drop 16 bytes) 12 i 0 front low
    ∙ get_or_append_left (replicate 4 0) (drop 16 bytes) 0 (i - 12) (omega arith)
    ∙ get_or-replicate_same 4 0 (i - 12)

-- and all other bytes stay
pub without_serial-same : (bytes : List ℕ) → length bytes ≡ 512 → SameBut bytes (without_serial bytes)
without_serial-same bytes long =
    let front : length (take 12 bytes) ≡ 12 = simp length-take (omega arith) in
    record {
      before = λ i below. get_or_append_left (take 12 bytes) (replicate 4 0 ++ drop 16 bytes) 0 i (omega arith)
          ∙ get_or-take 12 bytes i 0 below;
      after = λ i past. let at : 16 + (i - 12 - 4) ≡ i = omega arith in
          get_or-append_right (take 12 bytes) (replicate 4 0 ++ drop 16 bytes) 12 i 0 front (omega arith)
          ∙ get_or-append_right (replicate 4 0) (drop 16 bytes) 4 (i - 12) 0 refl (omega arith)
          ∙ get_or-drop 16 bytes (i - 12 - 4) 0 ∙ ap (λ (j : ℕ). slice_index bytes j) at;
    }

pub word-without_serial : (bytes : List ℕ) → length bytes ≡ 512 → word_at (without_serial bytes) 12 ≡ 0
word-without_serial bytes long =
    omega (
      arith,
      without_serial-zero bytes 12 long (omega arith) (omega arith),
      without_serial-zero bytes 13 long (omega arith) (omega arith),
      without_serial-zero bytes 14 long (omega arith) (omega arith),
      without_serial-zero bytes 15 long (omega arith) (omega arith),
    )

pub length-without_serial : (bytes : List ℕ) → length bytes ≡ 512 → length (without_serial bytes) ≡ 512
length-without_serial bytes long = simp (length-append, length-take, length-drop) (omega arith)

-- a block with zeros there, and else the same bytes, is that without the serial
pub without_serial-is : (bytes plain : List ℕ) → length bytes ≡ 512 → length plain ≡ 512 → SameBut bytes plain
    → word_at plain 12 ≡ 0 → plain ≡ without_serial bytes
without_serial-is bytes plain long plain_long same zeros =
    let kept = without_serial-same bytes long in
    let a : slice_index plain 12 ≡ 0 = omega arith in
    let b : slice_index plain 13 ≡ 0 = omega arith in
    let c : slice_index plain 14 ≡ 0 = omega arith in
    let d : slice_index plain 15 ≡ 0 = omega arith in
    let zero_at : (i : ℕ) → 12 ≤ i → i < 16 → slice_index plain i ≡ 0 = λ i low high. ⊎_elim
    (λ (lt : i < 13). let at : i ≡ 12 = omega arith in rw at a)
    (λ (from13 : 13 ≤ i). ⊎_elim
    (λ (lt : i < 14). let at : i ≡ 13 = omega arith in rw at b)
    (λ (from14 : 14 ≤ i). ⊎_elim
    (λ (lt : i < 15). let at : i ≡ 14 = omega arith in rw at c)
    (λ (from15 : 15 ≤ i). let at : i ≡ 15 = omega arith in rw at d)
    (cases_lt i 15))
    (cases_lt i 14))
    (cases_lt i 13) in
    ext_get_or 0 plain (without_serial bytes) (plain_long ∙ sym (length-without_serial bytes long)) (λ i _. ⊎_elim
    (λ (lt : i < 12). same.before i lt ∙ sym (kept.before i lt))
    (λ (low : 12 ≤ i). ⊎_elim
    (λ (high : i < 16). zero_at i low high ∙ sym (without_serial-zero bytes i long low high))
    (λ (past : 16 ≤ i). same.after i past ∙ sym (kept.after i past))
    (cases_lt i 16))
    (cases_lt i 12))

-- the block without the serial is the summary's
pub plain_spelled : (bytes : List ℕ) (s : SerialSummary) → length bytes ≡ 512 → IsSerialBlock bytes s
    → IsSummaryBlock (without_serial bytes) s.summary
plain_spelled bytes s long p =
    let r = spelled-same bytes (without_serial bytes) s.summary (without_serial-same bytes long) (serial_rest bytes s p)
    in
    record {
      mark = r.mark;
      segment = r.segment;
      offset = r.offset;
      count = r.count;
      gap = word-without_serial bytes long;
      entries = r.entries;
      rest = r.rest;
    }

-- a block that has the serial, and else the bytes of the summary's, is that of both
pub serial_spelled : (plain bytes : List ℕ) (s : SerialSummary) → SameBut plain bytes → IsSummaryBlock plain s.summary
    → word_at bytes 12 ≡ s.serial → IsSerialBlock bytes s
serial_spelled plain bytes s same p serial =
    let r = spelled-same plain bytes s.summary same (rest_of plain s.summary p) in
    record {
      mark = r.mark;
      segment = r.segment;
      offset = r.offset;
      count = r.count;
      serial = serial;
      entries = r.entries;
      rest = r.rest;
    }

pub same_back : (xs ys : List ℕ) → SameBut xs ys → SameBut ys xs
same_back xs ys same = record {
  before = λ i below. sym (same.before i below);
  after = λ i past. sym (same.after i past);
}

-- one block spells a summary with a serial
pub same_serial_spelling : (xs ys : List ℕ) (s : SerialSummary) → IsBlock xs → IsBlock ys → IsSerialBlock xs s
    → IsSerialBlock ys s → xs ≡ ys
same_serial_spelling xs ys s p q r t =
    same_block xs ys s.summary p q (r.serial ∙ sym t.serial) (serial_rest xs s r) (serial_rest ys s t)

-- what a number of a block makes of entries
abbrev pub told_of : List ℕ → List SummaryEntry → Told
told_of bytes entries = record {
  serial = word_at bytes 12;
  segment = word_at bytes 4;
  offset = half_at bytes 8;
  entries = entries;
}

pub told_in-zero : (bytes : List ℕ) → word_at bytes 12 ≡ 0 → told_in bytes ≡ None
unfolding told_in
told_in-zero bytes e = rw e refl

pub told_in-more : (bytes : List ℕ) → 0 < word_at bytes 12
    → told_in bytes ≡ option_map (told_of bytes) (summary_entries (without_serial bytes))
unfolding told_in
told_in-more bytes some =
    let other : (word_at bytes 12 == 0) ≡ false = ne_eqb _ _ (λ e. omega arith) in
    rw other refl

-- what a block tells is what the summary does that it spells
pub told_in-spelled : (bytes : List ℕ) (s : SerialSummary) → length bytes ≡ 512 → IsSerialBlock bytes s
    → told_in bytes ≡ Some (told_by s)
told_in-spelled bytes s long p =
    let told = s.told in
    let serial = p.serial in
    let fields : told_of bytes (named_by s.summary) ≡ told_by s = λ i. record {
      serial = p.serial i;
      segment = p.segment i;
      offset = p.offset i;
      entries = named_by s.summary;
    } in
    told_in-more bytes (omega arith)
    ∙ ap (λ (o : Option (List SummaryEntry)). option_map (told_of bytes) o)
    (summary_entries-spelled (without_serial bytes) s.summary (plain_spelled bytes s long p))
    ∙ ap Some fields

-- what has a serial is no summary without one
pub summary_entries-serial : (bytes : List ℕ) (s : SerialSummary) → length bytes ≡ 512 → IsSerialBlock bytes s
    → summary_entries bytes ≡ None
summary_entries-serial bytes s long p =
    let told = s.told in
    let serial = p.serial in
    summary_entries-none bytes long (λ t q. let gap = q.gap in absurd (omega arith))

-- what is read of the block without the serial is the block's
pub decoded : (bytes plain : List ℕ) (s : SerialSummary) → length bytes ≡ 512 → plain ≡ without_serial bytes
    → IsSummaryBlock plain s.summary → s.serial ≡ word_at bytes 12 → IsSerialBlock bytes s
decoded bytes plain s long is found serial =
    serial_spelled (without_serial bytes) bytes s
    (same_back bytes (without_serial bytes) (without_serial-same bytes long))
    (subst (λ (xs : List ℕ). IsSummaryBlock xs s.summary) is found) (sym serial)

pub decoded_only : (bytes plain : List ℕ) (s t : SerialSummary) → length bytes ≡ 512 → plain ≡ without_serial bytes
    → ((v : Summary) → IsSummaryBlock plain v → Some s.summary ≡ Some v) → s.serial ≡ word_at bytes 12
    → IsSerialBlock bytes t → Some s ≡ Some t
decoded_only bytes plain s t long is only serial spelled =
    let found = subst (λ (xs : List ℕ). IsSummaryBlock xs t.summary) (sym is) (plain_spelled bytes t long spelled) in
    ap Some (same_serial s t (serial ∙ spelled.serial) (same_Some s.summary t.summary (only t.summary found)))

pub none_decoded : (bytes plain : List ℕ) (t : SerialSummary) → length bytes ≡ 512 → plain ≡ without_serial bytes
    → ((v : Summary) → IsSummaryBlock plain v → None ≡ Some v) → IsSerialBlock bytes t → ⊥
none_decoded bytes plain t long is only spelled =
    none-some t.summary (only t.summary
    (subst (λ (xs : List ℕ). IsSummaryBlock xs t.summary) (sym is) (plain_spelled bytes t long spelled)))

pub told_in-none : (bytes plain : List ℕ) → length bytes ≡ 512 → plain ≡ without_serial bytes → 0 < word_at bytes 12
    → None ≡ summary_entries plain → told_in bytes ≡ None
told_in-none bytes plain long is some none =
    told_in-more bytes some
    ∙ ap (λ (o : Option (List SummaryEntry)). option_map (told_of bytes) o) (sym (none ∙ ap summary_entries is))

-- what is read as a summary with a serial has the entries of the block without it
serial_entries : (bytes : List ℕ) (told : Bool) (o : Option (List SummaryEntry)) (entries : List SummaryEntry)
    → (word_at bytes 12 == 0) ≡ told → summary_entries (without_serial bytes) ≡ o
    → entries_in true bytes ≡ Some entries → o ≡ Some entries
unfolding told_in
serial_entries bytes true o entries e is h = absurd (none-some entries (rw e at h))
serial_entries bytes false None entries e is h = absurd (none-some entries (rw (e, is) at h))
serial_entries bytes false (Some found) entries e is h = rw (e, is) at h

-- what a log reads as a summary are the entries of a summary without a serial: of that block, or of another
pub entries_in-plain : (s : Bool) (bytes : List ℕ) (entries : List SummaryEntry) → entries_in s bytes ≡ Some entries
    → (plain : List ℕ) × (summary_entries plain ≡ Some entries)
entries_in-plain false bytes entries h = (bytes, h)
entries_in-plain true bytes entries h = (
  without_serial bytes,
  serial_entries bytes (word_at bytes 12 == 0) (summary_entries (without_serial bytes)) entries refl refl h,
)

-- a block that spells a summary with this serial, or one without
pub spelled_with : (serial : Option ℕ) (block : List ℕ) (s : SerialSummary) → serial ≡ Some s.serial
    → IsSerialBlock block s
    → IsSummaryWith serial block s.summary.segment s.summary.offset (named_by s.summary)
spelled_with serial block s is spelled = rw is (record { summary = s; spelled = spelled; told = refl })

pub spelled_without : (serial : Option ℕ) (block : List ℕ) (s : Summary) → serial ≡ None → IsSummaryBlock block s
    → IsSummaryWith serial block s.segment s.offset (named_by s)
spelled_without serial block s is spelled =
    rw is (record { summary = s; spelled = spelled; segment = refl; offset = refl; named = refl })
