-- A file's blocks have codes of their own, and stand for what summaries name: `same_block`, `block_with-code_of` and
-- `file_block_of-logical` for whoever goes from one to the other. Codes 0 to 2 are the record and the two roots, from 3
-- on come the 128 children, from 131 on the data blocks; so a code lies in one of these ranges only, and says its
-- block. An entry of a summary names a block by one variant for each kind, so both ways it is a case for each.
use Rattle.std.proofs.Common.{◌≡◌, ◌<◌, ◌+◌, ◌-◌, refl, sym, ap, ◌∙◌, arith}
use Rattle.std.proofs.lemmas.Bool.{cond-true, cond-false, ne_eqb, lt-ltb, le-ltb}
use Rattle.lfs_segments.specs.Entry.{IsLogicalBlock}
use Rattle.lfs_segments.specs.declared.entry.LogicalBlock.{LogicalBlock}
use Rattle.lfs_segments.specs.declared.entry.LogicalBlock.TheVariants as logical
use Rattle.lfs_bmap.specs.Blocks.{IsFileBlock, block_with, code_of, logical_of, file_block_of}
use Rattle.lfs_bmap.specs.declared.blocks.FileBlock.{FileBlock}
use Rattle.lfs_bmap.specs.declared.blocks.FileBlock.TheVariants.{Record, Single, Double, Child, Data}
use Rattle.lfs_bmap.specs.declared.blocks.TheConstants.{BLOCK_CODES}

-- the code of a block that a file can have is one of this profile
pub code_of-below : (block : FileBlock) → IsFileBlock block → code_of block < BLOCK_CODES
code_of-below Record h = omega arith
code_of-below Single h = omega arith
code_of-below Double h = omega arith
code_of-below (Child index) h = omega arith
code_of-below (Data index) h = omega arith

-- a block is that of its code
pub block_with-code_of : (block : FileBlock) → IsFileBlock block → block_with (code_of block) ≡ block
unfolding block_with
block_with-code_of Record h = refl
block_with-code_of Single h = refl
block_with-code_of Double h = refl
block_with-code_of (Child index) h =
    let e : 3 + index - 3 ≡ index = omega arith in
    cond-false _ _ _ (ne_eqb (3 + index) 0 (λ p. omega arith))
    ∙ cond-false _ _ _ (ne_eqb (3 + index) 1 (λ p. omega arith))
    ∙ cond-false _ _ _ (ne_eqb (3 + index) 2 (λ p. omega arith))
    ∙ cond-true _ _ _ (lt-ltb (3 + index) 131 (omega arith)) ∙ ap Child e
block_with-code_of (Data index) h =
    let e : 131 + index - 131 ≡ index = omega arith in
    cond-false _ _ _ (ne_eqb (131 + index) 0 (λ p. omega arith))
    ∙ cond-false _ _ _ (ne_eqb (131 + index) 1 (λ p. omega arith))
    ∙ cond-false _ _ _ (ne_eqb (131 + index) 2 (λ p. omega arith))
    ∙ cond-false _ _ _ (le-ltb (131 + index) 131 (omega arith)) ∙ ap Data e

-- so two blocks have two codes
pub same_block : (b c : FileBlock) → IsFileBlock b → IsFileBlock c → code_of b ≡ code_of c → b ≡ c
same_block b c p q e = sym (block_with-code_of b p) ∙ ap block_with e ∙ block_with-code_of c q

-- a block and what names it stand for each other
pub file_block_of-logical : (block : FileBlock) → file_block_of (logical_of block) ≡ block
file_block_of-logical Record = refl
file_block_of-logical Single = refl
file_block_of-logical Double = refl
file_block_of-logical (Child index) = refl
file_block_of-logical (Data index) = refl

pub logical_of-file_block : (block : LogicalBlock) → logical_of (file_block_of block) ≡ block
logical_of-file_block logical.Inodes = refl
logical_of-file_block logical.Single = refl
logical_of-file_block logical.Double = refl
logical_of-file_block (logical.Child index) = refl
logical_of-file_block (logical.Data index) = refl

-- what an entry may name is a block that a file can have
pub file_block_of-is : (block : LogicalBlock) → IsLogicalBlock block → IsFileBlock (file_block_of block)
file_block_of-is logical.Inodes h = tt
file_block_of-is logical.Single h = tt
file_block_of-is logical.Double h = tt
file_block_of-is (logical.Child index) h = h
file_block_of-is (logical.Data index) h = h
