use Rattle.std.proofs.Common.{◌∙◌, arith}
use Rattle.lfs_inodes.proofs.Grammar.{number_at-before, IsKindCode-along}
use Rattle.lfs_inodes.proofs.record.put_identity.Goals as goal

pub returns-clause-identity : goal.returns-clause-identity
returns-clause-identity c =
    let kind = c.put_u16-2.ensures in
    let number = c.put_u32.ensures in
    let version = c.put_u32-2.ensures in
    record {
      kind = IsKindCode-along _ _ _
          (number_at-before _ _ 8 4 _ 2 2 version (omega arith)
          ∙ number_at-before _ _ 4 4 _ 2 2 number (omega arith)
          ∙ kind.written) c.kind_code.ensures;
      number = number_at-before _ _ 8 4 _ 4 4 version (omega arith) ∙ number.written;
      version = version.written;
    }

pub returns-clause-version : goal.returns-clause-version
returns-clause-version c =
    number_at-before _ _ 8 4 _ 0 2 c.put_u32-2.ensures (omega arith)
    ∙ number_at-before _ _ 4 4 _ 0 2 c.put_u32.ensures (omega arith)
    ∙ number_at-before _ _ 2 2 _ 0 2 c.put_u16-2.ensures (omega arith)
    ∙ c.put_u16.ensures.written
