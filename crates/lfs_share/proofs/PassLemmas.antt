-- What it takes to write the blocks of some infos again, by how many there are: a block takes three at most, and each
-- eight three more (`blocks_bound`, `widest_bound`), for ShareLemmas.
use Rattle.std.proofs.Common.{◌≡◌, ℕ, zero, suc, ◌+◌, ◌*◌, ◌≤◌, List, [], ◌∷◌, ◌++◌, length, take, drop}
use Rattle.std.proofs.Common.{refl, sym, ap, ◌∙◌, inl, inr, arith}
use Rattle.std.specs.Prelude.{if◌then◌else◌, ◌==◌, map}
use Rattle.std.specs.List.{flat_map}
use Rattle.std.proofs.lemmas.Bool.{cases_eq, cond-true, cond-false, eq-eqb, ne_eqb}
use Rattle.std.proofs.lemmas.List.{length-append, length-map, length-take, take-append-drop, take_all}
use Rattle.std.proofs.lemmas.Map.Made.{distinct_count-le}
use Rattle.lfs_types.specs.declared.cleaner.BlockInfo.{BlockInfo}
use Rattle.lfs_bmap.specs.Counting.{total}
use Rattle.lfs_bmap.specs.Ways.{codes_on, way_of}
use Rattle.lfs_cache.specs.Keys.{same_key}
use Rattle.lfs_segwrite.specs.Gaining.{blocks_by_eights, eight, eight_blocks, eights, greatest, widest_eight}
use Rattle.lfs_segwrite.specs.Marking.{blocks_to_mark, code_named, codes_to_mark, keys_to_mark, number_named}
use Rattle.lfs_segwrite.proofs.GainLemmas.{take_eights}
use Rattle.lfs_segwrite.proofs.NamedLemmas.{codes-most}

-- 1 for a block, 0 for a record
abbrev pub block_unit : BlockInfo → ℕ
block_unit info = if code_named info.lbn == 0 then 0 else 1

-- how many of some infos are of blocks other than records
abbrev pub blocks_in : List BlockInfo → ℕ
blocks_in [] = 0
blocks_in (info ∷ infos) = block_unit info + blocks_in infos

pub blocks_in-append : (xs ys : List BlockInfo) → blocks_in (xs ++ ys) ≡ blocks_in xs + blocks_in ys
blocks_in-append [] ys = omega arith
blocks_in-append (x ∷ xs) ys = let rest = blocks_in-append xs ys in omega arith

-- ---- frames
codes-record : codes_to_mark 0 ≡ []
unfolding codes_to_mark codes_on way_of
codes-record = refl

keys_of_one : (info : BlockInfo) → length (keys_to_mark info) ≤ 3 * block_unit info
keys_of_one info =
    let own : length (keys_to_mark info) ≡ length (codes_to_mark (code_named info.lbn)) =
    length-map (codes_to_mark (code_named info.lbn)) _ in
    elim (cases_eq (code_named info.lbn) 0) [
      | inl none ↦
          let is = cond-true {A = ℕ} _ 0 1 (eq-eqb (code_named info.lbn) 0 none) in
          let empty : length (codes_to_mark (code_named info.lbn)) ≡ 0 = ap (λ c. length (codes_to_mark c)) none
          ∙ ap length codes-record in
          omega arith
      | inr some ↦
          let is = cond-false {A = ℕ} _ 0 1 (ne_eqb (code_named info.lbn) 0 some) in
          let few = codes-most (code_named info.lbn) in
          omega arith
    ]

keys_of_all : (infos : List BlockInfo) → length (flat_map keys_to_mark infos) ≤ 3 * blocks_in infos
keys_of_all [] = omega arith
keys_of_all (info ∷ infos) =
    let long = length-append (keys_to_mark info) (flat_map keys_to_mark infos) in
    let one = keys_of_one info in
    let rest = keys_of_all infos in
    omega arith

-- what the blocks of at most eight infos take
mark_bound : (infos : List BlockInfo) → length infos ≤ 8 → blocks_to_mark infos ≤ 3 * blocks_in infos + 3
mark_bound infos few =
    let keys = keys_of_all infos in
    let frames = distinct_count-le same_key (flat_map keys_to_mark infos) in
    let records = distinct_count-le ◌==◌ (map number_named infos) in
    let long : length (map number_named infos) ≡ length infos = length-map infos number_named in
    omega arith

-- ---- eights
eight_few : (infos : List BlockInfo) (k : ℕ) → length (eight infos k) ≤ 8
eight_few infos k = let taken = length-take 8 (drop (8 * k) infos) in omega arith

-- those of a part are some of those of the whole
eight_part : (infos : List BlockInfo) (k : ℕ) → blocks_in (eight infos k) ≤ blocks_in infos
eight_part infos k =
    let behind = drop (8 * k) infos in
    let inner : blocks_in (take 8 behind) + blocks_in (drop 8 behind) ≡ blocks_in behind =
    sym (blocks_in-append (take 8 behind) (drop 8 behind)) ∙ ap blocks_in (take-append-drop 8 behind) in
    let outer : blocks_in (take (8 * k) infos) + blocks_in behind ≡ blocks_in infos =
    sym (blocks_in-append (take (8 * k) infos) behind) ∙ ap blocks_in (take-append-drop (8 * k) infos) in
    omega arith

sum_bound : (infos : List BlockInfo) (n : ℕ) → total (eight_blocks infos) n
    ≤ 3 * blocks_in (take (8 * n) infos) + 3 * n
unfolding total
sum_bound infos zero = omega arith
sum_bound infos (suc n) =
    let one = mark_bound (eight infos n) (eight_few infos n) in
    let rest = sum_bound infos n in
    let next : suc n ≡ n + 1 = omega arith in
    let split : blocks_in (take (8 * suc n) infos) ≡ blocks_in (take (8 * n) infos) + blocks_in (eight infos n) =
    ap (λ k. blocks_in (take (8 * k) infos)) next ∙ ap blocks_in (take_eights infos n)
    ∙ blocks_in-append (take (8 * n) infos) (eight infos n) in
    omega arith

-- So much it takes to write the blocks of some infos again.
pub blocks_bound : (infos : List BlockInfo) → blocks_by_eights infos ≤ 3 * blocks_in infos + 3 * eights infos
unfolding blocks_by_eights
blocks_bound infos =
    let sum = sum_bound infos (eights infos) in
    let all : blocks_in (take (8 * eights infos) infos) ≡ blocks_in infos = ap blocks_in
    (take_all (8 * eights infos) infos (omega arith)) in
    omega arith

greatest_bound : (f : ℕ → ℕ) (most n : ℕ) → ((k : ℕ) → f k ≤ most) → greatest f n ≤ most
unfolding greatest
greatest_bound f most zero each = omega arith
greatest_bound f most (suc n) each = let one = each n in let rest = greatest_bound f most n each in omega arith

-- And so much at once at most.
pub widest_bound : (infos : List BlockInfo) → widest_eight infos ≤ 3 * blocks_in infos + 3
unfolding widest_eight
widest_bound infos = greatest_bound (eight_blocks infos) (3 * blocks_in infos + 3) (eights infos) (λ k.
    let one = mark_bound (eight infos k) (eight_few infos k) in let part = eight_part infos k in omega arith)
