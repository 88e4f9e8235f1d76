-- Behind the partial segment of a segment's highest serial its log names nothing (`nothing_past`). A summary is expected
-- there. One that stood there would begin a partial segment with a higher serial, and where none stands the log has ended.
use Rattle.std.proofs.Common.{◌≡◌, ℕ, ◌+◌, ◌*◌, ◌/◌, ◌<◌, ◌≤◌, [], Bool, Option, None, Some, length, option_map}
use Rattle.std.proofs.Common.{refl, sym, ap, ◌∙◌, ⊎_elim, arith}
use Rattle.std.proofs.lemmas.Bool.{cases_lt}
use Rattle.std.proofs.lemmas.Option.{none-some}
use Rattle.lfs_segments.specs.declared.entry.SummaryEntry.{SummaryEntry}
use Rattle.lfs_segments.specs.Log.{after_block, entry_at, expected_at, first_of}
use Rattle.lfs_segments.specs.Memory.{SegmentMemory, block_at}
use Rattle.lfs_segments.specs.Serial.{Told, told_in}
use Rattle.lfs_segments.proofs.LogLemmas.{entry_at-ended, entry_at-in, expected_at-more, next_entry}
use Rattle.lfs_recovery.specs.declared.places.PartialSegment.{PartialSegment}
use Rattle.lfs_recovery.specs.Logs.{IsLogged}
use Rattle.lfs_found.specs.Found.{IsBegun}
use Rattle.lfs_found.specs.Written.{IsFindable}
use Rattle.lfs_found.proofs.ChainLemmas.{expected-next, expects_in, finds_all, finds_begun, summary_at}
use Rattle.lfs_durable.specs.Contents.{IsPast}

module _ (m : SegmentMemory) (next : ℕ) (f : IsFindable m next) (last : PartialSegment) (logged : IsLogged m last)
    (latest : (p : PartialSegment) → IsLogged m p → p.address / 64 ≡ last.address / 64 → p.serial ≤ last.serial) where
  abbrev segment : ℕ
  segment = last.address / 64

  abbrev end : ℕ
  end = last.address + 1 + last.count

  begun : IsBegun m last
  begun = finds_begun m last f.kind logged

  at_end : expected_at m segment end ≡ Some []
  at_end =
      let b = begun in
      let e = expects_in m segment last.address b.told b.summary refl in
      ap (λ (n : ℕ). expected_at m segment (last.address + 1 + n)) (sym b.count)
      ∙ expected-next m segment last.address b.told f.kind e.0 e.1 b.summary.told

  -- a summary there would have a higher serial
  no_more : (t : Told) → end < (segment + 1) * 64 → told_in (block_at m end) ≡ Some t → ⊥
  no_more t low told =
      let b = begun in
      let inside = b.summary.inside in
      let e = expects_in m segment last.address b.told b.summary refl in
      let from : first_of segment ≤ last.address = e.0 in
      let s = summary_at m segment end t (omega arith) (omega arith) low at_end told in
      let q : PartialSegment = record { serial = t.serial; address = end; count = length t.entries } in
      let here : last.address / 64 ≡ end / 64 = omega arith in
      let no_higher = latest q (finds_all m next q f.kind f.rising f.whole
      (record { told = t; summary = s; serial = refl; count = refl })) (sym here) in
      let higher = f.rising.rises last.address end b.told t b.summary s here (omega arith) in
      let serial = b.serial in
      absurd (omega arith)

  ended : told_in (block_at m end) ≡ None → expected_at m segment (end + 1) ≡ None
  ended none =
      let b = begun in
      let e = expects_in m segment last.address b.told b.summary refl in
      let from : first_of segment ≤ last.address = e.0 in
      expected_at-more m segment end [] (omega arith) at_end
      ∙ ap (λ (s : Bool). after_block s [] (block_at m end)) f.kind
      ∙ ap (option_map (λ (u : Told). u.entries)) none

  past_by : (o : Option Told) → told_in (block_at m end) ≡ o → (address : ℕ) (entry : SummaryEntry)
      → entry_at m address ≡ Some entry → address / 64 ≡ segment → end ≤ address → ⊥
  past_by (Some t) is address entry named here past = no_more t (omega arith) is
  past_by None is address entry named here past = ⊎_elim
      (λ (more : end < address).
      let b = begun in
      let e = expects_in m segment last.address b.told b.summary refl in
      let from : first_of segment ≤ last.address = e.0 in
      none-some entry (sym (entry_at-ended m segment (end + 1) address (ended is) (omega arith) here (omega arith)) ∙ named))
      (λ (not_more : address ≤ end).
      let same : address ≡ end = omega arith in
      none-some entry (sym (entry_at-in m segment address here ∙ ap (λ (a : ℕ). next_entry (expected_at m segment a)) same
      ∙ ap next_entry at_end) ∙ named))
      (cases_lt end address)

  pub nothing_past : (address : ℕ) (entry : SummaryEntry) → entry_at m address ≡ Some entry → IsPast last address → ⊥
  nothing_past address entry named past = past_by (told_in (block_at m end)) refl address entry named past.0 past.1
