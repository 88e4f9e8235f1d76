-- Moves of addresses and dirty segments go on from step to step: `moves-trans` and `StaysDirty-trans`, for StagedLemmas
-- of `lfs_staging` and GainLemmas, AheadLemmas and MarkedLemmas of `lfs_segwrite`; `present_address-key` is for the
-- cleaner's calls. Moves says that a key which now lies in some segments lay there before, so it's followed from the
-- end backwards: the key has a place in the middle too (`between`). The address told for a key of an old version is 0
-- (`present_address-other`), by which the cleaner knows what is dead; a step that wrote into a segment which the
-- cleaner empties would be no move in this sense.
use Rattle.std.proofs.Common.{◌≡◌, ◌≢◌, ℕ, ◌/◌, ◌<◌, ◌≤◌, ◌⊎◌, inl, inr, refl, sym, ap, ◌∙◌, subst, arith}
use Rattle.std.proofs.lemmas.Bool.{cases_eq, cases_lt, cond-true, cond-false, eq-eqb, ne_eqb, lt-ltb, le-ltb, and_from}
use Rattle.std.proofs.lemmas.Bool.{and_left, and_right}
use Rattle.lfs_bmap.specs.declared.blocks.TheConstants.{BLOCK_CODES}
use Rattle.lfs_bmap.specs.Counting.{seg_of}
use Rattle.lfs_bmap.specs.Log.{LogState, IsPlaced, IsLog, SameKeys, Opens}
use Rattle.lfs_bmap.specs.Moves.{present_address, Moves, StaysDirty}
use Rattle.lfs_bmap.proofs.SegmentLemmas.{opened_dirty}

module _ (Within : ℕ → Type 0) where
  pub moves-refl : (l : LogState) → Moves Within l l
  moves-refl l = record { numbers = refl; places = λ n c there within. refl; versions = λ n c there within. refl }

  pub moves-trans : (a b c : LogState) → Moves Within a b → Moves Within b c → Moves Within a c
  moves-trans a b c p q = record {
    numbers = q.numbers ∙ p.numbers;
    places = λ n k there within. p.places n k (between n k there within) (inside n k there within)
        ∙ q.places n k there within;
    versions = λ n k there within. p.versions n k (between n k there within) (inside n k there within)
        ∙ q.versions n k there within;
  } where
    between : (n k : ℕ) → IsPlaced c n k → Within (seg_of (c.at n k)) → IsPlaced b n k
    between n k there within = record {
      number_below = subst (λ m. n < m) q.numbers there.number_below;
      code_below = there.code_below;
      somewhere = λ none. there.somewhere (sym (q.places n k there within) ∙ none);
    }

    inside : (n k : ℕ) → IsPlaced c n k → Within (seg_of (c.at n k)) → Within (seg_of (b.at n k))
    inside n k there within = subst (λ p. Within (seg_of p)) (sym (q.places n k there within)) within

  -- where no key moves
  pub moves-same : (old new : LogState) → SameKeys old new → Moves Within old new
  moves-same old new keys = record {
    numbers = keys.numbers;
    places = λ n c there within. sym (keys.places n c
        (subst (λ m. n < m) keys.numbers there.number_below) there.code_below);
    versions = λ n c there within. sym (keys.versions n (subst (λ m. n < m) keys.numbers there.number_below));
  }

-- What is dirty stays so through the steps.
pub StaysDirty-refl : (l : LogState) → StaysDirty l l
StaysDirty-refl l = record { segments = refl; dirty = λ s low dirty. dirty }

pub StaysDirty-trans : (a b c : LogState) → StaysDirty a b → StaysDirty b c → StaysDirty a c
StaysDirty-trans a b c p q = record {
  segments = q.segments ∙ p.segments;
  dirty = λ s low dirty. q.dirty s (subst (λ n. s < n) (sym p.segments) low) (p.dirty s low dirty);
}

pub StaysDirty-opened : (old new : LogState) (spare segment : ℕ) → IsLog old spare → Opens old new segment
    → StaysDirty old new
StaysDirty-opened old new spare segment log h =
    record { segments = h.keys.segments; dirty = opened_dirty old new spare segment log h }

-- The present address of a key of the present version, and of any other.
pub present_address-key : (l : LogState) (number code : ℕ) → number < l.numbers → code < BLOCK_CODES
    → present_address l number (l.version number) code ≡ l.at number code / 4
unfolding present_address
present_address-key l number code low below =
    cond-true _ _ _ (and_from _ _ (lt-ltb number l.numbers low)
    (and_from _ _ (eq-eqb (l.version number) (l.version number) refl) (lt-ltb code BLOCK_CODES below)))

pub present_address-other : (l : LogState) (number version code : ℕ) → (l.numbers ≤ number)
    ⊎ ((l.version number ≢ version) ⊎ (BLOCK_CODES ≤ code)) → present_address l number version code ≡ 0
unfolding present_address
present_address-other l number version code (inl past) = cond-false _ _ _ (and_left _ _ (le-ltb number l.numbers past))
present_address-other l number version code (inr (inl ne)) =
    cond-false _ _ _ (and_right _ _ (and_left _ _ (ne_eqb (l.version number) version ne)))
present_address-other l number version code (inr (inr past)) =
    cond-false _ _ _ (and_right _ _ (and_right _ _ (le-ltb code BLOCK_CODES past)))

-- keys that stay have the addresses that they had
pub present_address-same : (old new : LogState) → SameKeys old new → (number version code : ℕ)
    → present_address new number version code ≡ present_address old number version code
present_address-same old new keys number version code =
    elim (cases_lt number old.numbers) [
      | inr past ↦
          present_address-other new number version code (inl (let same = keys.numbers in omega arith))
          ∙ sym (present_address-other old number version code (inl past))
      | inl low ↦ elim (cases_lt code BLOCK_CODES) [
        | inr past ↦ present_address-other new number version code (inr (inr past))
            ∙ sym (present_address-other old number version code (inr (inr past)))
        | inl below ↦
            let there : number < new.numbers = subst (λ m. number < m) (sym keys.numbers) low in
            elim (cases_eq (old.version number) version) [
              | inl e ↦
                  ap (λ v. present_address new number v code) (sym (keys.versions number low ∙ e))
                  ∙ present_address-key new number code there below
                  ∙ ap (λ p. p / 4) (keys.places number code low below)
                  ∙ sym (present_address-key old number code low below)
                  ∙ ap (λ v. present_address old number v code) e
              | inr ne ↦
                  present_address-other new number version code
                  (inr (inl (λ e. ne (sym (keys.versions number low) ∙ e))))
                  ∙ sym (present_address-other old number version code (inr (inl ne)))
            ]
      ]
    ]
