-- The records of a partial segment that was written, for `lfs_segwrite`: one with its serial stands behind its summary,
-- where an entry calls the block an inode block (`named_new`), and what stands so is named (`new_named`). The summary's own
-- block has no entry (`new_none`).
use Rattle.std.proofs.Common.{◌≡◌, ℕ, ◌+◌, ◌-◌, ◌<◌, ◌≤◌, Some, length, get_or, refl, sym, ap}
use Rattle.std.proofs.Common.{◌∙◌, ⊎_elim, arith}
use Rattle.std.proofs.lemmas.Option.{none-some, same_Some}
use Rattle.lfs_inodes.specs.Reading.{Fields, fields_in}
use Rattle.lfs_inodes.specs.Slots.{slot_of}
use Rattle.lfs_segments.specs.declared.entry.LogicalBlock.TheVariants.{Inodes}
use Rattle.lfs_segments.specs.declared.entry.SummaryEntry.{SummaryEntry}
use Rattle.lfs_segments.specs.Entry.{unused}
use Rattle.lfs_segments.specs.Log.{entry_at}
use Rattle.lfs_segments.specs.Memory.{IsLaidOut, SegmentMemory, block_at, log_start, next_address}
use Rattle.lfs_segments.specs.Rising.{IsSummaryAt}
use Rattle.lfs_segments.specs.Serial.{Told}
use Rattle.lfs_segments.proofs.LogLemmas.{entry_at-in, next_entry}
use Rattle.lfs_recovery.specs.declared.places.RecordPlace.{RecordPlace}
use Rattle.lfs_found.specs.Found.{IsNamed}
use Rattle.lfs_found.specs.Written.{IsFindable, WritesPartial}
use Rattle.lfs_found.proofs.NamedLemmas.{entry-behind}
use Rattle.lfs_found.proofs.RecoverableLemmas.{new_summary}
use Rattle.lfs_found.proofs.WrittenLemmas.{begun_at, expects_new, partial_at, summary_back}

module _ (m n : SegmentMemory) (t : Told) (next : ℕ) (f : IsFindable m t.serial) (after : IsFindable n next)
    (w : WritesPartial m n t) where
  -- the partial segment of that serial is the one that was written
  new_place : (r : RecordPlace) → (is : IsNamed n r) → r.serial ≡ t.serial
      → (is.segment.address ≡ next_address m) × (is.begun.told ≡ t)
  new_place r is same =
      let b = is.begun in
      ⊎_elim
      (λ (was : IsSummaryAt m is.segment.address b.told).
      let low = f.rising.below is.segment.address b.told was in
      let serial = is.serial in
      let told = b.serial in
      absurd (omega arith))
      (λ (new : (is.segment.address ≡ next_address m) × (b.told ≡ t)). new)
      (summary_back m n t f w is.segment.address b.told b.summary)

  pub named_new : (r : RecordPlace) → IsNamed n r → r.serial ≡ t.serial
      → (next_address m < r.address) × (r.address ≤ next_address m + length t.entries)
      × ((get_or t.entries (r.address - (next_address m + 1)) unused).block ≡ Inodes)
  named_new r is same =
      let p = is.segment in
      let b = is.begun in
      let new = new_place r is same in
      let begins : p.address ≡ next_address m = new.0 in
      let behind = is.behind in
      let within = is.within in
      let count : p.count ≡ length t.entries = sym b.count ∙ ap (λ (u : Told). length u.entries) new.1 in
      let k : ℕ = r.address - (next_address m + 1) in
      let at : r.address ≡ p.address + 1 + k = omega arith in
      let entry : is.entry ≡ get_or b.told.entries k unused = same_Some is.entry (get_or b.told.entries k unused)
      (sym is.named ∙ ap (entry_at n) at ∙ entry-behind n next p k after.kind after.rising after.whole b (omega arith)) in (
        omega arith,
        omega arith,
        ap (λ (u : Told). (get_or u.entries k unused).block) (sym new.1) ∙ ap (λ (e : SummaryEntry). e.block) (sym entry)
            ∙ is.inodes,
      )

-- what stands behind the summary as a record is one
pub new_named : (m n : SegmentMemory) (t : Told) (a slot : ℕ) (e : SummaryEntry) (g : Fields) → log_start m.active ≤ m.fill
    → IsLaidOut n → WritesPartial m n t → next_address m < a → a ≤ next_address m + length t.entries
    → entry_at n a ≡ Some e → e.block ≡ Inodes → slot < 4 → fields_in (slot_of (block_at n a) slot) ≡ Some g
    → IsNamed n (record {
      serial = t.serial;
      number = g.attributes.number;
      version = g.attributes.version;
      address = a;
      slot = slot;
    })
new_named m n t a slot e g begun after w behind within named inodes in_block read = record {
  segment = partial_at (next_address m) t;
  begun = begun_at n (next_address m) t (new_summary m n t begun after w);
  serial = refl;
  behind = behind;
  within = within;
  entry = e;
  named = named;
  inodes = inodes;
  slot = in_block;
  fields = g;
  read = read;
  number = refl;
  version = refl;
}

-- the summary's block has no entry
pub new_none : (m n : SegmentMemory) (t : Told) (e : SummaryEntry) → IsFindable m t.serial → IsLaidOut n
    → WritesPartial m n t → entry_at n (next_address m) ≡ Some e → ⊥
new_none m n t e f after w is =
    let within = after.within in
    let grown = w.grown in
    let active = w.extends.active in
    none-some e (sym (entry_at-in n m.active (next_address m) (omega arith) ∙ ap next_entry (expects_new m n t f w)) ∙ is)
