-- A directory's bytes with a block read in place of a stored one: `stood-here`, `stood-other` and `length-stood`, and
-- the same of a block that may be given (`with_block-here`, `with_block-other`), for `seen_block` and the search of
-- places. The block has 512 bytes and stands at a multiple of 512 within the directory, so each other block of it ends
-- before or begins behind, and is read as it is stored.
use Rattle.std.proofs.Common.{◌≡◌, ◌≢◌, ℕ, ◌%◌, ◌<◌, ◌≤◌, List, length, take, drop, Option, None, Some, sym, ap, subst}
use Rattle.std.proofs.Common.{◌∙◌, ⊎_elim, arith, nat_lt}
use Rattle.std.specs.Prelude.{IfSome}
use Rattle.std.specs.Borrow.{Bor}
use Rattle.std.proofs.lemmas.Bool.{cases_Bool, ltb-true, ltb-false}
use Rattle.lfs_types.specs.Splicing.{splice}
use Rattle.lfs_calls.specs.declared.directory.DirBlock.{DirBlock}
use Rattle.lfs_calls.specs.Makes.{StandsIn, with_block}
use Rattle.lfs_types.proofs.Pieces.{put_over, splice-put_over, piece-before, piece-here, piece-behind, length-put_over}

module _ (bytes : List ℕ) (room : DirBlock) (stands : StandsIn bytes room) where
  within : room.off ≤ length bytes
  within = omega (arith, stands.within)

  put_is : splice bytes room.off room.block ≡ put_over bytes room.off room.block
  put_is = splice-put_over bytes room.off room.block (omega (arith, stands.size)) within

  -- the block is read where it stands
  pub stood-here : take 512 (drop room.off (splice bytes room.off room.block)) ≡ room.block
  stood-here = ap (λ bs. take 512 (drop room.off bs)) put_is
      ∙ subst (λ n. take n (drop room.off (put_over bytes room.off room.block)) ≡ room.block) stands.size
      (piece-here bytes room.off room.block within)

  -- the other blocks are the stored ones
  pub stood-other : (off : ℕ) → off % 512 ≡ 0 → off ≢ room.off → take 512 (drop off (splice bytes room.off room.block))
      ≡ take 512 (drop off bytes)
  stood-other off aligned other = ap (λ bs. take 512 (drop off bs)) put_is ∙ ⊎_elim
      (λ h. let before : off < room.off = ltb-true off room.off h in
      piece-before bytes room.off room.block within 512 off (omega (arith, stands.aligned)))
      (λ h. let behind : room.off ≤ off = ltb-false off room.off h in
      piece-behind bytes room.off room.block within 512 off (omega (arith, stands.aligned, stands.size)))
      (cases_Bool (nat_lt off room.off))

  -- the bytes are as many as before
  pub length-stood : length bytes % 512 ≡ 0 → length (splice bytes room.off room.block) ≡ length bytes
  length-stood whole = ap (λ (bs : List ℕ). length bs) put_is ∙ length-put_over bytes room.off room.block within
      ∙ omega (arith, stands.aligned, stands.size, stands.within)

-- the directory keeps its size
pub length-with_block : (bytes : List ℕ) (taken : Option (Bor DirBlock)) (size : ℕ)
    → IfSome taken (λ room. StandsIn bytes room.now) → size ≡ length bytes → size % 512 ≡ 0
    → length (with_block bytes taken) ≡ size
length-with_block bytes None size stands same whole = sym same
length-with_block bytes (Some room) size stands same whole =
    length-stood bytes room.now stands (ap (λ n. n % 512) (sym same) ∙ whole) ∙ sym same

-- the blocks where one is given
module _ (bytes : List ℕ) (taken : Option (Bor DirBlock)) (room : Bor DirBlock) (is : taken ≡ Some room)
    (stands : IfSome taken (λ room. StandsIn bytes room.now)) where
  there : StandsIn bytes room.now
  there = subst (λ o. IfSome o (λ (room : Bor DirBlock). StandsIn bytes room.now)) is stands

  -- where it stands, it is read
  pub with_block-here : (off : ℕ) → room.now.off ≡ off → room.now.block ≡ take 512 (drop off (with_block bytes taken))
  with_block-here off same = sym (ap (λ o. take 512 (drop off (with_block bytes o))) is
      ∙ subst (λ n. take 512 (drop n (splice bytes room.now.off room.now.block)) ≡ room.now.block) same
      (stood-here bytes room.now there))

  -- elsewhere the stored block is
  pub with_block-other : (off : ℕ) → off % 512 ≡ 0 → off ≢ room.now.off → take 512 (drop off (with_block bytes taken))
      ≡ take 512 (drop off bytes)
  with_block-other off aligned other = ap (λ o. take 512 (drop off (with_block bytes o))) is
      ∙ stood-other bytes room.now there off aligned other
