-- Zero bytes up to a multiple of eight.
use Rattle.std.proofs.Common.{◌≡◌, ℕ, ◌≤◌, take, replicate}
use Rattle.std.proofs.lemmas.List.{take-replicate}

pub zeros : (n : ℕ) → n ≤ 8 → take {A = ℕ} n (replicate {A = ℕ} 8 0) ≡ replicate {A = ℕ} n 0
zeros n fits = take-replicate n 8 0 fits
