-- Where names stand in a directory's bytes after a block was put, over another or behind the last one, and how many bytes
-- there are.
use Rattle.std.proofs.Common.{◌≡◌, ◌≢◌, ℕ, ◌+◌, ◌-◌, ◌*◌, ◌<◌, ◌≤◌, ◌⊎◌, inl, inr, List, length, take, drop, nat_lt}
use Rattle.std.proofs.Common.{ap, subst, ◌∙◌, ⊎_elim, arith}
use Rattle.std.specs.Prelude.{IsSome}
use Rattle.std.proofs.lemmas.Bool.{cases_eq, cases_Bool, ltb-true, ltb-false}
use Rattle.lfs_types.specs.Splicing.{splice}
use Rattle.lfs_types.proofs.Pieces.{length-put_over, piece-before, piece-behind, piece-here, put_over, splice-put_over}
use Rattle.lfs_dirs.specs.Directory.{number_in}
use Rattle.lfs_dirs.specs.Reading.{entries_of}
use Rattle.lfs_known.specs.Spots.{StandsAt}

module _ (bytes : List ℕ) (k off : ℕ) (block : List ℕ) (size : length block ≡ 512) (at_k : off ≡ 512 * k)
    (within : 512 * k ≤ length bytes) where
  put_is : splice bytes off block ≡ put_over bytes (512 * k) block
  put_is = ap (λ o. splice bytes o block) at_k
      ∙ splice-put_over bytes (512 * k) block (omega (arith, size)) within

  -- how many bytes there are then
  pub length_put : length (splice bytes off block) ≡ 512 * k + 512 + (length bytes - (512 * k + 512))
  length_put = ap (λ (bs : List ℕ). length bs) put_is ∙ length-put_over bytes (512 * k) block within
      ∙ omega (arith, size)

  here : take 512 (drop (512 * k) (put_over bytes (512 * k) block)) ≡ block
  here = subst (λ n. take n (drop (512 * k) (put_over bytes (512 * k) block)) ≡ block) size
      (piece-here bytes (512 * k) block within)

  other : (j : ℕ) → j ≢ k → take 512 (drop (512 * j) (put_over bytes (512 * k) block))
      ≡ take 512 (drop (512 * j) bytes)
  other j apart = ⊎_elim
      (λ h. let before : j < k = ltb-true j k h in piece-before bytes (512 * k) block within 512 (512 * j) (omega arith))
      (λ h. let behind : k ≤ j = ltb-false j k h in
      piece-behind bytes (512 * k) block within 512 (512 * j) (omega (arith, size)))
      (cases_Bool (nat_lt j k))

  -- a name stands where it stood, or it is one of the block's
  pub stands_put : (name : List ℕ) (j : ℕ) → StandsAt (splice bytes off block) name j
      → StandsAt bytes name j ⊎ ((j ≡ k) × IsSome (number_in name (entries_of block)))
  stands_put name j stands = ⊎_elim
      (λ same. inr (
        same,
        subst (λ b. IsSome (number_in name (entries_of b)))
            (ap (λ i. take 512 (drop (512 * i) (splice bytes off block))) same ∙ ap (λ bs. take 512 (drop (512 * k) bs)) put_is
            ∙ here)
            stands,
      ))
      (λ apart. inl (subst (λ b. IsSome (number_in name (entries_of b)))
      (ap (λ bs. take 512 (drop (512 * j) bs)) put_is ∙ other j apart) stands))
      (cases_eq j k)
