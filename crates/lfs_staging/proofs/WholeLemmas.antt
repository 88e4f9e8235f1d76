-- A block that is among bytes which are put is what they have there, whatever it had (`put_whole`, for `whole_of`).
use Rattle.std.proofs.Common.{◌≡◌, ℕ, ◌+◌, ◌-◌, ◌*◌, ◌≤◌, List, length, take, drop, get_or, sym, ap, ◌∙◌, arith}
use Rattle.std.proofs.lemmas.List.{length-take, length-drop, get_or-take, get_or-drop}
use Rattle.lfs_bmap.specs.Pieces.{IsPut}
use Rattle.lfs_bmap.proofs.PieceLemmas.{byte_put-new}

part_length : (xs : List ℕ) (from k : ℕ) → from + k ≤ length xs → length (take k (drop from xs)) ≡ k
part_length xs from k fits = simp (length-take, length-drop) (omega arith)

pub put_whole : (index start from : ℕ) (bytes old new : List ℕ) → start ≤ 512 * index
    → 512 * index + 512 ≤ start + length bytes → from ≡ 512 * index - start → new ≡ take 512 (drop from bytes)
    → IsPut index start bytes old new
put_whole index start from bytes old new low high is eq = record {
  whole = ap length eq ∙ part_length bytes from 512 (omega (arith, is));
  each = λ k below. ap (λ b. get_or b k 0) eq ∙ get_or-take 512 (drop from bytes) k 0 below
      ∙ get_or-drop from bytes k 0 ∙ ap (λ i. get_or bytes i 0) (omega (arith, is))
      ∙ sym (byte_put-new bytes start (512 * index + k) (get_or old k 0) (omega arith) (omega arith));
}
