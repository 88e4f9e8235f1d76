-- Serials rise behind each change of the memory: `rising-fresh`, `rising-begun`, `rising-put` and `rising-opened`, for
-- `Segments::format_as`, `begin`, `put` and `open_next`. What a log expects rests on earlier blocks, so a summary that
-- stands in older blocks stood there before (`older_summary`), and zeros are none (`no_summary`): only `begin` makes one,
-- with the serial that was above all others.
use Rattle.std.proofs.Common.{◌≡◌, ◌≢◌, ℕ, zero, suc, ◌+◌, ◌-◌, ◌*◌, ◌/◌, ◌<◌, ◌≤◌, ◌⊎◌, inl, inr, List, []}
use Rattle.std.proofs.Common.{◌∷◌, Some, None, Bool, Option, length, refl, sym, ap, subst, ◌∙◌, ⊎_elim, arith}
use Rattle.std.proofs.lemmas.Bool.{cases_lt, le-ltb, lt-ltb}
use Rattle.std.proofs.lemmas.Option.{none-some, same_Some}
use Rattle.lfs_types.specs.Blocks.{zero_block}
use Rattle.lfs_segments.specs.declared.entry.SummaryEntry.{SummaryEntry}
use Rattle.lfs_segments.specs.Log.{Expects, Extends, IsOlder, expected, expected_at, first_of, log_block}
use Rattle.lfs_segments.specs.Memory.{IsLaidOut, SegmentMemory, block_at, fresh_with, has_serials, next_address}
use Rattle.lfs_segments.specs.Memory.{next_serial, opened, room_of, serial_after}
use Rattle.lfs_segments.specs.Rising.{IsRising, IsRisingTo, IsSummaryAt}
use Rattle.lfs_segments.specs.Serial.{Told, told_in}
use Rattle.lfs_segments.proofs.LogLemmas.{expected-same}
use Rattle.lfs_segments.proofs.WritingLemmas.{block_at-fresh, block_at-opened, block_at-opened_apart}

-- zeros tell nothing
told_in-zero_block : told_in zero_block ≡ None
unfolding told_in zero_block
told_in-zero_block = refl

pub no_summary : (m : SegmentMemory) (a : ℕ) (t : Told) → block_at m a ≡ zero_block → IsSummaryAt m a t → ⊥
no_summary m a t zeros p = none-some t (sym told_in-zero_block ∙ ap told_in (sym zeros) ∙ p.told)

-- behind the end of the active segment's log there is none
pub none_behind : (m : SegmentMemory) (entries : List SummaryEntry) (a : ℕ) (t : Told) → Expects m entries
    → next_address m ≤ a → a < m.active * 64 + 64 → IsSummaryAt m a t → ⊥
none_behind m entries a t e from below p = no_summary m a t (e.zeros a from below) p

-- what is expected at an address where earlier blocks of its segment stay
pub expected_at-same : (m n : SegmentMemory) (segment a : ℕ) → has_serials n ≡ has_serials m
    → ((b : ℕ) → first_of segment ≤ b → b < a → block_at n b ≡ block_at m b)
    → expected_at n segment a ≡ expected_at m segment a
expected_at-same m n segment a kind same =
    ap (λ (s : Bool). expected s (log_block n segment) (a - first_of segment)) kind
    ∙ expected-same (has_serials m) (log_block n segment) (log_block m segment) (a - first_of segment)
    (λ k below. same (first_of segment + k) (omega arith) (omega arith))

-- a summary that stands where the blocks up to it stay
pub same_summary : (m n : SegmentMemory) (a : ℕ) (t : Told) → n.segments ≡ m.segments → has_serials n ≡ has_serials m
    → ((b : ℕ) → first_of (a / 64) ≤ b → b ≤ a → block_at n b ≡ block_at m b) → IsSummaryAt n a t → IsSummaryAt m a t
same_summary m n a t segments kind same p =
    let inside = p.inside in
    let behind = p.behind in
    record {
      inside = omega (arith, segments);
      behind = behind;
      expects = sym (expected_at-same m n (a / 64) a kind (λ b from below. same b from (omega arith))) ∙ p.expects;
      told = ap told_in (sym (same a behind (omega arith))) ∙ p.told;
    }

pub older_summary : (m n : SegmentMemory) (a : ℕ) (t : Told) → Extends m n → IsOlder m a → IsSummaryAt n a t
    → IsSummaryAt m a t
older_summary m n a t e older p = same_summary m n a t e.segments e.serials
    (λ b from below. e.blocks b (⊎_elim
    (λ (before : a < next_address m). inl (omega arith))
    (λ (beyond : m.active * 64 + 64 ≤ a). inr (omega arith))
    older)) p

-- where no summary came, serials rise as before
pub carried : (m n : SegmentMemory) → n.serial ≡ m.serial
    → ((a : ℕ) (t : Told) → IsSummaryAt n a t → IsSummaryAt m a t)
    → ((a : ℕ) (t : Told) → IsSummaryAt n a t → a / 64 ≡ n.active → n.active ≡ m.active) → IsRising m → IsRising n
carried m n serial back stays r = record {
  to = λ next is low. let old = r.to next (sym serial ∙ is) low in record {
    below = λ a t p. old.below a t (back a t p);
    rises = λ a b t u p q here before. old.rises a b t u (back a t p) (back b u q) here before;
    active = λ a b t u p q apart here. let same = stays b u q here in
        old.active a b t u (back a t p) (back b u q) (λ there. apart (there ∙ sym same)) (here ∙ same);
    apart = λ a b t u p q same. old.apart a b t u (back a t p) (back b u q) same;
    segment = λ a t p. old.segment a t (back a t p);
    offset = λ a t p. old.offset a t (back a t p);
  };
}

-- an address is older, stands at the end of the log, or behind it in its segment
cases_older : (m : SegmentMemory) (a : ℕ)
    → IsOlder m a ⊎ ((a ≡ next_address m) ⊎ ((next_address m + 1 ≤ a) × (a < m.active * 64 + 64)))
cases_older m a = ⊎_elim
    (λ (before : a < next_address m). inl (inl before))
    (λ (from : next_address m ≤ a). ⊎_elim
    (λ (below : a < m.active * 64 + 64). ⊎_elim
    (λ (here : a < next_address m + 1). inr (inl (omega arith)))
    (λ (past : next_address m + 1 ≤ a). inr (inr (past, below)))
    (cases_lt a (next_address m + 1)))
    (λ (beyond : m.active * 64 + 64 ≤ a). inl (inr beyond))
    (cases_lt a (m.active * 64 + 64)))
    (cases_lt a (next_address m))

-- a block of a partial segment is no summary
pub rising-put : (m n : SegmentMemory) (entry : SummaryEntry) (entries : List SummaryEntry) → IsLaidOut m → Extends m n
    → n.serial ≡ m.serial → next_address n ≡ next_address m + 1 → Expects m (entry ∷ entries) → Expects n entries
    → IsRising m → IsRising n
rising-put m n entry entries laid e serial next before after r = carried m n serial (λ a t p. ⊎_elim
    (λ (older : IsOlder m a). older_summary m n a t e older p)
    (λ (new : (a ≡ next_address m) ⊎ ((next_address m + 1 ≤ a) × (a < m.active * 64 + 64))). ⊎_elim
    (λ (here : a ≡ next_address m). absurd (not_here a t here p))
    (λ (past : (next_address m + 1 ≤ a) × (a < m.active * 64 + 64)). let active = e.active in
    let from = past.0 in let below = past.1 in
    absurd (none_behind n entries a t after (omega arith) (omega arith) p))
    new)
    (cases_older m a)) (λ a t p here. e.active) r
  where
    not_here : (a : ℕ) (t : Told) → a ≡ next_address m → IsSummaryAt n a t → ⊥
    not_here a t here p =
        let fit = before.fit in
        let segment : a / 64 ≡ m.active = omega arith in
        let same : expected_at n m.active (next_address m) ≡ expected_at m m.active (next_address m) =
        expected_at-same m n m.active (next_address m) e.serials (λ b from below. e.blocks b (inl below)) in
        let at : expected_at n m.active (next_address m) ≡ Some [] =
        ap (λ (s : ℕ). expected_at n s (next_address m)) (sym segment)
        ∙ ap (λ (b : ℕ). expected_at n (a / 64) b) (sym here) ∙ p.expects in
        let none : [] ≡ entry ∷ entries = same_Some [] (entry ∷ entries) (sym at ∙ same ∙ before.pending) in
        absurd (omega (arith, ap (λ (es : List SummaryEntry). length es) none))

-- the summary of a partial segment has the serial that was above all
pub rising-begun : (m n : SegmentMemory) (entries : List SummaryEntry) (block : List ℕ) (told : (serial : ℕ)
    → m.serial ≡ Some serial → told_in block ≡ Some (record {
      serial = serial;
      segment = m.active;
      offset = m.fill;
      entries = entries;
    })) → IsLaidOut m → 0 < room_of m → Extends m n → n.serial ≡ next_serial m.serial
    → next_address n ≡ next_address m + 1 → block_at n (next_address m) ≡ block → Expects m [] → Expects n entries
    → IsRising m → IsRising n
rising-begun m n entries block told laid room e serial next is before after r = record {
  to = λ last is_last low. rising m.serial refl last (sym serial ∙ is_last) low;
}
  where
    new_told : ℕ → Told
    new_told s = record { serial = s; segment = m.active; offset = m.fill; entries = entries }

    back : (s : ℕ) → m.serial ≡ Some s → (a : ℕ) (t : Told) → IsSummaryAt n a t
        → IsSummaryAt m a t ⊎ ((a ≡ next_address m) × (t ≡ new_told s))
    back s is_serial a t p = ⊎_elim
        (λ (older : IsOlder m a). inl (older_summary m n a t e older p))
        (λ (new : (a ≡ next_address m) ⊎ ((next_address m + 1 ≤ a) × (a < m.active * 64 + 64))). ⊎_elim
        (λ (here : a ≡ next_address m). inr (
          here,
          same_Some t (new_told s)
              (sym p.told ∙ ap (λ (b : ℕ). told_in (block_at n b)) here ∙ ap told_in is ∙ told s is_serial),
        ))
        (λ (past : (next_address m + 1 ≤ a) × (a < m.active * 64 + 64)). let active = e.active in
        let from = past.0 in let below = past.1 in
        absurd (none_behind n entries a t after (omega arith) (omega arith) p))
        new)
        (cases_older m a)

    to_next : (s : ℕ) → m.serial ≡ Some s → IsRisingTo m s → IsRisingTo n (s + 1)
    to_next s is_serial old =
        let within = laid.within in
        let at : (a : ℕ) (t : Told) → (a ≡ next_address m) × (t ≡ new_told s) → t.serial ≡ s =
        λ a t new. ap (λ (u : Told). u.serial) new.1 in
        record {
          below = λ a t p. ⊎_elim
              (λ (was : IsSummaryAt m a t). let low = old.below a t was in omega arith)
              (λ (new : (a ≡ next_address m) × (t ≡ new_told s)). let is_it = at a t new in omega arith)
              (back s is_serial a t p);
          rises = λ a b t u p q here order. ⊎_elim
              (λ (was : IsSummaryAt m a t). ⊎_elim
              (λ (was_too : IsSummaryAt m b u). old.rises a b t u was was_too here order)
              (λ (new : (b ≡ next_address m) × (u ≡ new_told s)). let low = old.below a t was in
              let is_it = at b u new in omega arith)
              (back s is_serial b u q))
              (λ (new : (a ≡ next_address m) × (t ≡ new_told s)). ⊎_elim
              (λ (was_too : IsSummaryAt m b u). let place = new.0 in
              absurd (none_behind m [] b u before (omega arith) (omega arith) was_too))
              (λ (new_too : (b ≡ next_address m) × (u ≡ new_told s)). let place = new.0 in let place_too = new_too.0 in
              absurd (omega arith))
              (back s is_serial b u q))
              (back s is_serial a t p);
          active = λ a b t u p q other here. ⊎_elim
              (λ (was : IsSummaryAt m a t). ⊎_elim
              (λ (was_too : IsSummaryAt m b u). old.active a b t u was was_too (λ there. other (there ∙ sym e.active))
              (here ∙ e.active))
              (λ (new : (b ≡ next_address m) × (u ≡ new_told s)). let low = old.below a t was in
              let is_it = at b u new in omega arith)
              (back s is_serial b u q))
              (λ (new : (a ≡ next_address m) × (t ≡ new_told s)). let place = new.0 in
              let segment : a / 64 ≡ m.active = omega arith in
              absurd (other (segment ∙ sym e.active)))
              (back s is_serial a t p);
          apart = λ a b t u p q same. ⊎_elim
              (λ (was : IsSummaryAt m a t). ⊎_elim
              (λ (was_too : IsSummaryAt m b u). old.apart a b t u was was_too same)
              (λ (new : (b ≡ next_address m) × (u ≡ new_told s)). let low = old.below a t was in
              let is_it = at b u new in absurd (omega arith))
              (back s is_serial b u q))
              (λ (new : (a ≡ next_address m) × (t ≡ new_told s)). ⊎_elim
              (λ (was_too : IsSummaryAt m b u). let low = old.below b u was_too in
              let is_it = at a t new in absurd (omega arith))
              (λ (new_too : (b ≡ next_address m) × (u ≡ new_told s)). new.0 ∙ sym new_too.0)
              (back s is_serial b u q))
              (back s is_serial a t p);
          segment = λ a t p. ⊎_elim
              (λ (was : IsSummaryAt m a t). old.segment a t was)
              (λ (new : (a ≡ next_address m) × (t ≡ new_told s)). let place = new.0 in
              ap (λ (u : Told). u.segment) new.1 ∙ omega arith)
              (back s is_serial a t p);
          offset = λ a t p. ⊎_elim
              (λ (was : IsSummaryAt m a t). old.offset a t was)
              (λ (new : (a ≡ next_address m) × (t ≡ new_told s)). let place = new.0 in
              ap (λ (u : Told). u.offset) new.1 ∙ omega arith)
              (back s is_serial a t p);
        }

    -- the serial behind one that isn't the last is one more
    rising : (o : Option ℕ) → m.serial ≡ o → (last : ℕ) → next_serial m.serial ≡ Some last → last < 4294967295
        → IsRisingTo n last
    rising None none last is_last low = absurd (none-some last (sym (ap next_serial none) ∙ is_last))
    rising (Some s) some last is_last low =
        let after : serial_after s ≡ last = same_Some (serial_after s) last (sym (ap next_serial some) ∙ is_last) in
        ⊎_elim
        (λ (below : s < 4294967295).
        let one : s + 1 ≡ last = sym (serial_after-low s below) ∙ after in
        let fits : s < 4294967295 = below in
        subst (IsRisingTo n) one (to_next s some (r.to s some fits)))
        (λ (from : 4294967295 ≤ s). let stays = serial_after-last s from in absurd (omega arith))
        (cases_lt s 4294967295)
      where
        serial_after-low : (s : ℕ) → s < 4294967295 → serial_after s ≡ s + 1
        serial_after-low s low = rw (lt-ltb s 4294967295 low) refl

        serial_after-last : (s : ℕ) → 4294967295 ≤ s → serial_after s ≡ s
        serial_after-last s from = rw (le-ltb s 4294967295 from) refl

-- a segment that is opened has no summary
pub rising-opened : (m : SegmentMemory) (segment : ℕ) → IsLaidOut m → segment < m.segments → IsRising m
    → IsRising (opened m segment)
rising-opened m segment laid inside r = carried m (opened m segment) refl (λ a t p. ⊎_elim
    (λ (before : a / 64 < segment). other a t p (λ here. omega arith))
    (λ (from : segment ≤ a / 64). ⊎_elim
    (λ (here : a / 64 < segment + 1). let same : a / 64 ≡ segment = omega arith in absurd (none_here a t p same))
    (λ (past : segment + 1 ≤ a / 64). other a t p (λ here. omega arith))
    (cases_lt (a / 64) (segment + 1)))
    (cases_lt (a / 64) segment)) (λ a t p here. absurd (none_here a t p here)) r
  where
    none_here : (a : ℕ) (t : Told) → IsSummaryAt (opened m segment) a t → a / 64 ≡ segment → ⊥
    none_here a t p here =
        let behind = subst (λ (s : ℕ). first_of s ≤ a) here p.behind in
        no_summary (opened m segment) a t (block_at-opened m segment laid inside a behind (omega arith)) p

    other : (a : ℕ) (t : Told) → IsSummaryAt (opened m segment) a t → a / 64 ≢ segment → IsSummaryAt m a t
    other a t p apart = same_summary m (opened m segment) a t refl refl
        (λ b from below. block_at-opened_apart m segment laid inside b (λ here. apart (omega arith))) p

-- nor has a new volume
pub rising-fresh : (serial : Option ℕ) (segments inodes : ℕ) → 1 ≤ segments → IsRising (fresh_with serial segments inodes)
rising-fresh serial segments inodes some = record {
  to = λ next is low. record {
    below = λ a t p. absurd (none a t p);
    rises = λ a b t u p q here before. absurd (none a t p);
    active = λ a b t u p q other here. absurd (none a t p);
    apart = λ a b t u p q same. absurd (none a t p);
    segment = λ a t p. absurd (none a t p);
    offset = λ a t p. absurd (none a t p);
  };
}
  where
    first_behind : (a : ℕ) → first_of (a / 64) ≤ a → 1 ≤ a
    first_behind zero behind = let none : 1 ≤ 0 = behind in absurd (omega arith)
    first_behind (suc a) behind = omega arith

    none : (a : ℕ) (t : Told) → IsSummaryAt (fresh_with serial segments inodes) a t → ⊥
    none a t p = no_summary (fresh_with serial segments inodes) a t
        (block_at-fresh serial segments inodes a (first_behind a p.behind) p.inside) p
