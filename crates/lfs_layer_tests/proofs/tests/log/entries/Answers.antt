use Rattle.std.proofs.Common.{◌≡◌, ℕ, suc, zero, ◌<◌, [], ◌∷◌, get_or, refl, arith}
use Rattle.lfs_segments.specs.declared.entry.SummaryEntry.{SummaryEntry}
use Rattle.lfs_segments.specs.Entry.{IsEntry, IsFileNumber}
use Rattle.lfs_layer_tests.proofs.tests.log.entries.Goals as goal

of_four : IsFileNumber 4
of_four = record { above = omega arith; not_three = λ e. absurd (omega arith); below = omega arith }

each : (x y z u v d : SummaryEntry) (k : ℕ) → IsEntry x → IsEntry y → IsEntry z → IsEntry u → IsEntry v → k < 5
    → IsEntry (get_or (x ∷ y ∷ z ∷ u ∷ v ∷ []) k d)
each x y z u v d zero p q r s t below = p
each x y z u v d (suc zero) p q r s t below = q
each x y z u v d (suc (suc zero)) p q r s t below = r
each x y z u v d (suc (suc (suc zero))) p q r s t below = s
each x y z u v d (suc (suc (suc (suc zero)))) p q r s t below = t
each x y z u v d (suc (suc (suc (suc (suc k))))) p q r s t below = absurd (omega arith)

pub returns : goal.returns
returns c = λ k d below. each _ _ _ _ _ d k
    (record { block = omega arith; owner = (of_four, omega arith) })
    (record { block = tt; owner = (of_four, omega arith) })
    (record { block = tt; owner = (of_four, omega arith) })
    (record { block = omega arith; owner = (of_four, omega arith) })
    (record { block = tt; owner = (refl, refl) }) below
