-- Steps that write what waits, one behind the other: `Advances-refl` and `Advances-trans`, for `flush`, the loop of
-- `land_all_records` and RecordsLemmas. What waits behind both waited between them and before; what didn't wait before
-- stands where it stood. A block that waited and is written has its address in what was written, from `from` on: if it
-- still waited between, the second step wrote it, else the first did and the second left it there; so that is decided
-- first (`cases_Waits`).
use Rattle.std.proofs.Common.{◌≡◌, ℕ, zero, suc, ◌+◌, ◌*◌, ◌/◌, ◌<◌, ◌≤◌, ◌⊎◌, Bool, true, length, is_some, refl, sym}
use Rattle.std.proofs.Common.{◌∙◌, subst, inl, inr, arith}
use Rattle.std.proofs.lemmas.Bool.{cases_Bool, false≢true}
use Rattle.lfs_segments.specs.Memory.{next_address}
use Rattle.lfs_cache.specs.Contents.{block_in}
use Rattle.lfs_parts.specs.declared.parts.Parts.{Parts}
use Rattle.lfs_staging.proofs.HeldFrames.{KeepsFrames-refl, KeepsFrames-trans}
use Rattle.lfs_segwrite.specs.Flushing.{Waits}
use Rattle.lfs_parts.specs.Keys.{log_state}
use Rattle.lfs_segwrite.specs.Recording.{Advances}
use Rattle.lfs_parts.specs.View.{key_of, version_of, waiting_in}

-- a key waits, or does not
is_or_not : (b : Bool) → (b ≡ true) ⊎ (b ≡ true → ⊥)
is_or_not b = elim (cases_Bool b) [ inl is ↦ inl is | inr not ↦ inr (λ is. false≢true (sym not ∙ is)) ]

pub cases_Waits : (p : Parts) (n c : ℕ) → Waits p n c ⊎ (Waits p n c → ⊥)
cases_Waits p n zero = is_or_not (is_some (waiting_in p.waiting n))
cases_Waits p n (suc c) = is_or_not (is_some (block_in (key_of n (version_of p n) (suc c)) p.cache.locked))

pub Advances-refl : (from : ℕ) (p : Parts) → Advances from p p
Advances-refl from p = record {
  content = refl;
  segments = refl;
  serials = refl;
  rising = λ r. r;
  active = refl;
  states = refl;
  clean = refl;
  numbers = refl;
  used = λ n. refl;
  versions = λ n. refl;
  next = omega arith;
  only = λ n c low below waits. waits;
  still = λ n c low below none. refl;
  moved = λ n c low below waits none. absurd (none waits);
  blocks = λ a apart. refl;
  held = KeepsFrames-refl p.cache;
}

pub Advances-trans : (from : ℕ) (a b c : Parts) → Advances from a b → Advances from b c → Advances from a c
Advances-trans from a b c h g = record {
  content = g.content ∙ h.content;
  segments = g.segments ∙ h.segments;
  serials = g.serials ∙ h.serials;
  rising = λ r. g.rising (h.rising r);
  active = g.active ∙ h.active;
  states = g.states ∙ h.states;
  clean = g.clean ∙ h.clean;
  numbers = g.numbers ∙ h.numbers;
  used = λ n. g.used n ∙ h.used n;
  versions = λ n. g.versions n ∙ h.versions n;
  next = let first = h.next in let second = g.next in omega arith;
  only = λ n code low below waits. h.only n code low below (g.only n code (inside n low) below waits);
  still = λ n code low below none. g.still n code (inside n low) below (λ waits. none (h.only n code low below waits))
      ∙ h.still n code low below none;
  moved = λ n code low below waits gone. elim (cases_Waits b n code) [
    | inl there ↦ g.moved n code (inside n low) below there gone
    | inr none ↦
        let at = g.still n code (inside n low) below none in
        let was = h.moved n code low below waits none in
        let next = g.next in
        let from_ : from ≤ (log_state b).at n code / 4 = was.0 in
        let to : (log_state b).at n code / 4 < next_address b.log.memory = was.1 in (
          subst (λ place. from ≤ place / 4) (sym at) from_,
          subst (λ place. place / 4 < next_address c.log.memory) (sym at) (omega arith),
        )
  ];
  blocks = λ place apart. g.blocks place (past place apart) ∙ h.blocks place apart;
  held = KeepsFrames-trans a.cache b.cache c.cache h.held g.held;
}
  where
    inside : (n : ℕ) → n < length a.log.tables.rows → n < length b.log.tables.rows
    inside n low = subst (λ m. n < m) (sym h.numbers) low

    past : (place : ℕ) → (place < from) ⊎ (64 * a.log.memory.active + 64 ≤ place) → (place < from)
        ⊎ (64 * b.log.memory.active + 64 ≤ place)
    past place apart = elim apart [
      | inl low ↦ inl low
      | inr high ↦ inr (subst (λ m. 64 * m + 64 ≤ place) (sym h.active) high)
    ]
