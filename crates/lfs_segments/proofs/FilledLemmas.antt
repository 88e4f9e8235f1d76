-- The blocks that are in memory stand for all: zeros that are added to them change nothing of the whole
-- (`filled_up-reached`), since behind them stood as many zeros; and what is written over some of them is written over the
-- whole (`filled_up-written`), since no write goes past them. `Blocks::put` and `clear` add zeros first, and then write.
use Rattle.std.proofs.Common.{◌≡◌, ℕ, zero, suc, ◌+◌, ◌-◌, ◌<◌, ◌≤◌, List, [], ◌∷◌, ◌++◌, length, get_or}
use Rattle.std.proofs.Common.{take, drop, replicate, refl, sym, ap, ◌∙◌, arith}
use Rattle.std.proofs.lemmas.List.{append_assoc, drop-append-le, get_or-append_right, get_or-replicate, length-append}
use Rattle.std.proofs.lemmas.List.{length-replicate, replicate-append-replicate, take-append-le}
use Rattle.lfs_types.specs.Blocks.{zero_block}
use Rattle.lfs_segments.specs.Blocks.{filled_up}
use Rattle.lfs_segments.specs.Memory.{written}
use Rattle.lfs_segments.proofs.MemoryLemmas.{length-written}

abbrev zeros : ℕ → List (List ℕ)
zeros count = replicate count zero_block

pub length-filled_up : (blocks : List (List ℕ)) (count : ℕ) → length blocks ≤ count
    → length (filled_up blocks count) ≡ count
length-filled_up blocks count fits = simp (length-append, length-replicate) (omega arith)

-- the blocks, and zeros up to a place
abbrev pub reached : List (List ℕ) → ℕ → List (List ℕ)
reached blocks end = blocks ++ replicate (end - length blocks) zero_block

pub filled_up-reached : (blocks : List (List ℕ)) (end count : ℕ) → length blocks ≤ count → end ≤ count
    → filled_up (reached blocks end) count ≡ filled_up blocks count
filled_up-reached blocks end count fits inside =
    let more = end - length blocks in
    let long : length (reached blocks end) ≡ length blocks + more = simp (length-append, length-replicate) refl in
    append_assoc blocks (zeros more) (zeros (count - length (reached blocks end)))
    ∙ ap (λ (xs : List (List ℕ)). blocks ++ xs)
    (replicate-append-replicate more (count - length (reached blocks end)) zero_block
    ∙ ap zeros (omega arith))

pub filled_up-written : (blocks : List (List ℕ)) (place : ℕ) (others : List (List ℕ)) (count : ℕ)
    → place + length others ≤ length blocks
    → filled_up (written blocks place others) count ≡ written (filled_up blocks count) place others
filled_up-written blocks place others count fits =
    let behind = zeros (count - length blocks) in
    let end = place + length others in
    ap (λ (n : ℕ). written blocks place others ++ zeros (count - n)) (length-written blocks place others fits)
    ∙ append_assoc (take place blocks) (others ++ drop end blocks) behind
    ∙ ap (λ (xs : List (List ℕ)). take place blocks ++ xs) (append_assoc others (drop end blocks) behind)
    ∙ ap (λ (xs : List (List ℕ)). xs ++ (others ++ (drop end blocks ++ behind)))
    (sym (take-append-le place blocks behind (omega arith)))
    ∙ ap (λ (xs : List (List ℕ)). take place (blocks ++ behind) ++ (others ++ xs))
    (sym (drop-append-le end blocks behind fits))

-- zeros are added where others are to be written, and they are written
pub put_behind : (blocks : List (List ℕ)) (place : ℕ) (others : List (List ℕ)) (end count : ℕ)
    → length blocks ≤ count → end ≤ count → place + length others ≤ length (reached blocks end)
    → filled_up (written (reached blocks end) place others) count ≡ written (filled_up blocks count) place others
put_behind blocks place others end count fits inside reaches =
    filled_up-written (reached blocks end) place others count reaches
    ∙ ap (λ (xs : List (List ℕ)). written xs place others) (filled_up-reached blocks end count fits inside)

-- behind the blocks that are there stand zeros
pub get_or-beyond : (blocks : List (List ℕ)) (count place : ℕ) → length blocks ≤ place
    → place < length (filled_up blocks count) → get_or (filled_up blocks count) place [] ≡ zero_block
get_or-beyond blocks count place behind inside =
    let more : length (filled_up blocks count) ≡ length blocks + (count - length blocks) =
    simp (length-append, length-replicate) refl in
    get_or-append_right blocks (zeros (count - length blocks)) (length blocks) place [] refl behind
    ∙ get_or-replicate (count - length blocks) (place - length blocks) zero_block [] (omega arith)

-- the first of some zeros is replaced
pub written-first : (count : ℕ) (block : List ℕ) → 0 < count
    → written (replicate count zero_block) 0 (block ∷ []) ≡ block ∷ replicate (count - 1) zero_block
written-first zero block some = absurd (omega arith)
written-first (suc count) block some = ap (λ (k : ℕ). block ∷ zeros k) (omega arith)
