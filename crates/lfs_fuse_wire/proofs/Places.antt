-- A number at a place, as a read of the bytes from that place on gives it.
use Rattle.std.proofs.Common.{◌≡◌, ℕ, zero, suc, ◌+◌, ◌-◌, List, length, take, drop, slice_index, refl, ap, ◌∙◌, arith}
use Rattle.std.proofs.lemmas.List.{get_or-drop, take_rest}
use Rattle.byteorder.specs.Endian.{little_from}
use Rattle.lfs_fuse_wire.specs.Numbers.{number_at}

little_from-drop : (i n at : ℕ) (xs : List ℕ) → little_from i n (drop at xs) ≡ little_from (at + i) n xs
little_from-drop i zero at xs = refl
little_from-drop i (suc n) at xs =
    let byte : slice_index (drop at xs) i ≡ slice_index xs (at + i) = get_or-drop at xs i 0 in
    let rest : little_from (suc i) n (drop at xs) ≡ little_from (at + suc i) n xs = little_from-drop (suc i) n at xs in
    let e : at + suc i ≡ suc (at + i) = omega arith in
    rw (byte, rest, e) refl

pub number_at-read : (n at : ℕ) (xs : List ℕ) → little_from 0 n (take (length xs - at) (drop at xs)) ≡ number_at xs at n
unfolding number_at
number_at-read n at xs =
    let e : at + 0 ≡ at = omega arith in
    ap (little_from 0 n) (take_rest xs at) ∙ little_from-drop 0 n at xs ∙ ap (λ (i : ℕ). little_from i n xs) e
