use Rattle.std.proofs.Common.{Some, None, ap, rules}
use Rattle.lfs_inodes.specs.declared.inode.Inode.{Inode}
use Rattle.lfs_inodes.specs.Record.{IsRecord}
use Rattle.lfs_inodes.proofs.Grammar.{IsRecord-one, zeros_no_record, IfNone-always}
use Rattle.lfs_inodes.proofs.FieldsRead.{fields_in-answer}
use Rattle.lfs_inodes.proofs.FieldLemmas.{AreFields-fields_in}
use Rattle.lfs_inodes.proofs.inode.Inode.decode.Goals as goal

-- the first 36 bytes are of no record
pub returns-in_err-inode-clause-found : goal.returns-in_err-inode-clause-found
returns-in_err-inode-clause-found c = search rules

pub returns-in_err-inode-clause-none : goal.returns-in_err-inode-clause-none
returns-in_err-inode-clause-none c =
    let none : (v : Inode) → IsRecord c.args.bytes.now v
    → ⊥ = λ v h. c.in_err-inode.ensures.none v h.identity h.attributes in
    IfNone-always _ _ none

pub returns-in_err-inode-clause-only : goal.returns-in_err-inode-clause-only
returns-in_err-inode-clause-only c = λ v h. absurd (c.in_err-inode.ensures.none v h.identity h.attributes)

pub returns-in_err-inode-clause-reading : goal.returns-in_err-inode-clause-reading
returns-in_err-inode-clause-reading c = fields_in-answer _ _ (returns-in_err-inode-clause-found c)
    (returns-in_err-inode-clause-none c)

pub returns-in_err-inode-clause-bounds : goal.returns-in_err-inode-clause-bounds
returns-in_err-inode-clause-bounds c = AreFields-fields_in _

-- the others are of no record
pub returns-then-not-fits-clause-none : goal.returns-then-not-fits-clause-none
returns-then-not-fits-clause-none c = search rules

pub returns-then-not-fits-clause-reading : goal.returns-then-not-fits-clause-reading
returns-then-not-fits-clause-reading c = fields_in-answer _ None tt (returns-then-not-fits-clause-none c)

pub returns-then-not-fits-clause-bounds : goal.returns-then-not-fits-clause-bounds
returns-then-not-fits-clause-bounds c = AreFields-fields_in _

-- a record
pub returns-clause-found : goal.returns-clause-found
returns-clause-found c = search rules

pub returns-clause-only : goal.returns-clause-only
returns-clause-only c = λ v h. ap Some (IsRecord-one _ _ v (returns-clause-found c) h)

pub returns-clause-unused : goal.returns-clause-unused
returns-clause-unused c = λ zeros. absurd (zeros_no_record _ _ zeros (returns-clause-found c))

pub returns-clause-reading : goal.returns-clause-reading
returns-clause-reading c = fields_in-answer _ (Some _) (returns-clause-found c) tt

pub returns-clause-bounds : goal.returns-clause-bounds
returns-clause-bounds c = AreFields-fields_in _
