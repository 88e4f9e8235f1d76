-- The four slots of an inode block: `slots-put` for `with_slot`, `slot_of-zeros` for `slot`, `get_or-slots` for
-- lfs_log. Slot i is bytes 128 i to 128 i + 127, so a write of 128 bytes there changes all of this slot; a slot below
-- ends before it, and one above begins behind it (`below`, `above`). A block is the list of its slots, so it is that
-- list with one replaced.
use Rattle.std.proofs.Common.{◌≡◌, ◌≢◌, ℕ, zero, suc, ◌+◌, ◌-◌, ◌*◌, ◌<◌, List, [], ◌++◌, length, get_or, take, drop}
use Rattle.std.proofs.Common.{set, replicate, refl, sym, ap, ◌∙◌, arith, inl, inr}
use Rattle.std.proofs.lemmas.Bool.{cases_lt, cases_eq}
use Rattle.std.proofs.lemmas.List.{take-replicate, drop-replicate, drop-take, drop_at, take_at, ext_get_or}
use Rattle.std.proofs.lemmas.List.{length-take-le, length-set, get_or-set_same, get_or-set_other}
use Rattle.std.proofs.lemmas.Slice.{take-put_mid_below, drop-put_mid}
use borrow.Rule.Slice.PartMut.{put_mid}
use Rattle.lfs_types.specs.Blocks.{zero_block}
use Rattle.lfs_inodes.specs.Slots.{slot_of, slots}

-- the slots of zeros are zeros
pub slot_of-zeros : (block : List ℕ) (k : ℕ) → k < 4 → block ≡ zero_block → slot_of block k ≡ replicate 128 0
unfolding slot_of zero_block
slot_of-zeros block k lt zeros =
    ap (λ (xs : List ℕ). take 128 (drop (128 * k) xs)) zeros
    ∙ ap (take 128) (drop-replicate (128 * k) 512 0)
    ∙ take-replicate 128 (512 - 128 * k) 0 (omega arith)

-- a slot by its place
pub get_or-slots : (block : List ℕ) (j : ℕ) → j < 4 → get_or (slots block) j [] ≡ slot_of block j
get_or-slots block zero lt = refl
get_or-slots block (suc zero) lt = refl
get_or-slots block (suc (suc zero)) lt = refl
get_or-slots block (suc (suc (suc zero))) lt = refl
get_or-slots block (suc (suc (suc (suc j)))) lt = absurd (omega arith)

-- a block is its slots
slot_of-same : (old new : List ℕ) (i : ℕ) (part : List ℕ) → i < 4 → slot_of new i ≡ part
    → ((j : ℕ) → j < 4 → j ≢ i → slot_of new j ≡ slot_of old j)
    → slots new ≡ set (slots old) i part
slot_of-same old new i part lt here there =
    ext_get_or [] (slots new) (set (slots old) i part) (sym (length-set (slots old) i part))
    (λ j within. elim (cases_eq j i) [
      | inl same ↦ rw same (get_or-slots new i lt ∙ here ∙ sym (get_or-set_same (slots old) i part [] lt))
      | inr other ↦ get_or-slots new j within ∙ there j within other
          ∙ sym (get_or-set_other (slots old) i j part [] other ∙ get_or-slots old j within)
    ])

-- a write to one slot
pub slots-put : (old part : List ℕ) (i n : ℕ) → length old ≡ 512 → length part ≡ 128 → i < 4 → n ≡ 128
    → slots (put_mid (128 * i) n old part) ≡ set (slots old) i part
unfolding slot_of
slots-put old part i n whole wide lt e = rw e (slot_of-same old new i part lt here there)
  where
    new : List ℕ
    new = put_mid (128 * i) 128 old part

    here : take 128 (drop (128 * i) new) ≡ part
    here =
        ap (take 128) (drop_at (take (128 * i) old) (part ++ drop 128 (drop (128 * i) old)) (128 * i)
        (length-take-le (128 * i) old (omega arith)))
        ∙ take_at part (drop 128 (drop (128 * i) old)) 128 wide

    below : (j : ℕ) → j < i → take 128 (drop (128 * j) new) ≡ take 128 (drop (128 * j) old)
    below j less =
        sym (drop-take (128 * j) 128 new)
        ∙ ap (drop (128 * j)) (take-put_mid_below (128 * i) 128 old part (128 * j + 128) (omega arith) (omega arith))
        ∙ drop-take (128 * j) 128 old

    above : (j : ℕ) → i < j → take 128 (drop (128 * j) new) ≡ take 128 (drop (128 * j) old)
    above j more = ap (take 128) (drop-put_mid (128 * i) 128 old part (128 * j) (omega arith) (omega arith) wide)

    there : (j : ℕ) → j < 4 → j ≢ i → slot_of new j ≡ slot_of old j
    there j within other = elim (cases_lt j i) [ inl less ↦ below j less | inr more ↦ above j (omega arith) ]
