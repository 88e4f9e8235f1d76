use Rattle.std.proofs.Common.{◌≡◌, ℕ, ◌∷◌, [], List, Option, Some, is_some, ap, refl, subst, sym, ◌∙◌, arith}
use Rattle.lfs_segments.specs.declared.entry.SummaryEntry.{SummaryEntry}
use Rattle.lfs_segments.specs.Log.{Expects, Extends}
use Rattle.lfs_segments.specs.Memory.{IsLaidOut, SegmentMemory, appended, block_at, has_serials, next_address, raised}
use Rattle.lfs_segments.specs.Reading.{named_by}
use Rattle.lfs_segments.specs.Rising.{IsRising}
use Rattle.lfs_segments.specs.Serial.{IsSummaryWith, entries_in, told_in}
use Rattle.lfs_segments.proofs.RisingLemmas.{rising-begun}
use Rattle.lfs_segments.proofs.WritingLemmas.{Expects-begun, Extends-begun, block_at-put, entry_at-begun}
use Rattle.lfs_segments.proofs.WritingLemmas.{entry_at-begun_first}
use Rattle.lfs_segments.proofs.segments.Segments.begin.Goals as goal

new_is : (c : goal.After-raise) → c.raise.new.self ≡ raised (appended c.args.self.now (c.summary_block-block.result ∷ []))
new_is c = c.raise.ensures.raised ∙ ap raised c.append-address.ensures.appended

block_is : (c : goal.After-raise) → block_at c.raise.new.self c.append-address.result ≡ c.summary_block-block.result
block_is c =
    ap (λ (m : SegmentMemory). block_at m c.append-address.result) (new_is c)
    ∙ ap (block_at (appended c.args.self.now (c.summary_block-block.result ∷ []))) c.append-address.ensures.address
    ∙ block_at-put c.args.self.now c.summary_block-block.result c.active.ensures.laid_out (omega arith)

summary_is : (c : goal.After-raise) → entries_in (has_serials c.args.self.now) c.summary_block-block.result
    ≡ Some c.args.entries.now
summary_is c =
    ap (λ (o : Option ℕ). entries_in (is_some o) c.summary_block-block.result) (sym c.serial.ensures.serial)
    ∙ c.summary_block-block.ensures.entries ∙ ap Some c.new-summary.ensures.entries

pub returns-clause-written : goal.returns-clause-written
returns-clause-written c =
    new_is c ∙ ap (λ (bytes : List ℕ). raised (appended c.args.self.now (bytes ∷ []))) (sym (block_is c))

pub returns-clause-summary : goal.returns-clause-summary
returns-clause-summary c =
    let old = c.args.self.now in
    let block = c.summary_block-block.result in
    let named = named_by c.new-summary.result in
    let within = c.active.ensures.laid_out.within in
    let segment = c.new-summary.ensures.segment ∙ c.active.ensures.active in
    let offset : c.new-summary.result.offset ≡ old.fill = omega arith in
    subst (λ (bytes : List ℕ). IsSummaryWith old.serial bytes old.active old.fill c.args.entries.now) (sym (block_is c))
    (subst (λ (o : Option ℕ). IsSummaryWith o block old.active old.fill c.args.entries.now) c.serial.ensures.serial
    (subst (λ (es : List SummaryEntry). IsSummaryWith c.serial.result block old.active old.fill es)
    c.new-summary.ensures.entries
    (subst (λ (n : ℕ). IsSummaryWith c.serial.result block old.active n named) offset
    (subst (λ (n : ℕ). IsSummaryWith c.serial.result block n c.new-summary.result.offset named) segment
    c.summary_block-block.ensures.spelled))))

pub returns-clause-expects : goal.returns-clause-expects
returns-clause-expects c = subst (λ (m : SegmentMemory). Expects m c.args.entries.now) (sym (new_is c))
    (Expects-begun c.args.self.now c.summary_block-block.result c.args.entries.now c.active.ensures.laid_out
    c.requires.ready c.requires.fit (summary_is c))

pub returns-clause-names : goal.returns-clause-names
returns-clause-names c = λ k below. rw (new_is c, c.append-address.ensures.address)
    (entry_at-begun c.args.self.now c.summary_block-block.result c.args.entries.now c.active.ensures.laid_out
    c.requires.ready c.requires.fit (summary_is c)
    (subst IsLaidOut (new_is c) c.raise.ensures.laid_out) k below)

pub returns-clause-unnamed : goal.returns-clause-unnamed
returns-clause-unnamed c = rw (new_is c, c.append-address.ensures.address)
    (entry_at-begun_first c.args.self.now c.summary_block-block.result c.args.entries.now c.active.ensures.laid_out
    c.requires.ready c.requires.fit (summary_is c))

pub returns-clause-extends : goal.returns-clause-extends
returns-clause-extends c = subst (λ (m : SegmentMemory). Extends c.args.self.now m) (sym (new_is c))
    (Extends-begun c.args.self.now c.summary_block-block.result c.args.entries.now c.active.ensures.laid_out
    c.requires.ready c.requires.fit (summary_is c))

pub returns-clause-next : goal.returns-clause-next
returns-clause-next c = ap next_address (new_is c) ∙ omega arith

pub returns-clause-serial : goal.returns-clause-serial
returns-clause-serial c = ap (λ (m : SegmentMemory). m.serial) (new_is c)

pub returns-clause-rising : goal.returns-clause-rising
returns-clause-rising c =
    let old = c.args.self.now in
    let block = c.summary_block-block.result in
    let entries = c.args.entries.now in
    let laid = c.active.ensures.laid_out in
    let within = laid.within in
    let named = c.new-summary.ensures.entries in
    let segment = c.new-summary.ensures.segment ∙ c.active.ensures.active in
    let offset : c.new-summary.result.offset ≡ old.fill = omega arith in
    let told : (serial : ℕ) → old.serial ≡ Some serial → told_in block ≡ Some (record {
      serial = serial;
      segment = old.active;
      offset = old.fill;
      entries = entries;
    }) = λ serial is. c.summary_block-block.ensures.told serial (c.serial.ensures.serial ∙ is)
    ∙ (λ i. Some (record {
      serial = serial;
      segment = segment i;
      offset = offset i;
      entries = named i;
    })) in
    subst (λ (m : SegmentMemory). IsRising old → IsRising m) (sym (new_is c))
    (rising-begun old (raised (appended old (block ∷ []))) entries block told laid (omega arith)
    (Extends-begun old block entries laid c.requires.ready c.requires.fit (summary_is c)) refl (omega arith)
    (block_at-put old block laid (omega arith)) c.requires.ready
    (Expects-begun old block entries laid c.requires.ready c.requires.fit (summary_is c)))
