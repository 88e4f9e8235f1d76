use Rattle.std.proofs.Common.{◌∙◌, inl, sym, arith}
use Rattle.std.proofs.lemmas.List.{get_or-replicate}
use Rattle.lfs_inodes.proofs.Grammar.{IsRecord-same, HasIdentity-same, HasAttributes-same, SameBetween-within}
use Rattle.lfs_inodes.proofs.Grammar.{number_at-within}
use Rattle.lfs_inodes.proofs.FieldsRead.{fields_in-is}
use Rattle.lfs_inodes.proofs.inode.Inode.encode.Goals as goal

pub put_addresses-requires-clause-unwritten : goal.put_addresses-requires-clause-unwritten
put_addresses-requires-clause-unwritten c k low high =
    c.put_attributes.ensures.after k (omega arith) high ∙ c.put_identity.ensures.others k (omega arith) high
    ∙ get_or-replicate 128 k 0 0 high

pub returns-clause-version : goal.returns-clause-version
returns-clause-version c =
    number_at-within _ _ 0 36 0 2 c.put_addresses.ensures.others (omega arith) (omega arith)
    ∙ number_at-within _ _ 0 12 0 2 c.put_attributes.ensures.before (omega arith) (omega arith)
    ∙ c.put_identity.ensures.version

pub returns-clause-record : goal.returns-clause-record
returns-clause-record c = record {
  whole = c.put_addresses.ensures.same_length;
  record_version = inl (returns-clause-version c);
  identity = HasIdentity-same _ _ _ (SameBetween-within _ _ 0 36 0 12 c.put_addresses.ensures.others (omega arith)
      (omega arith))
      (HasIdentity-same _ _ _ c.put_attributes.ensures.before c.put_identity.ensures.identity);
  attributes = HasAttributes-same _ _ _ (SameBetween-within _ _ 0 36 12 36 c.put_addresses.ensures.others (omega arith)
      (omega arith)) c.put_attributes.ensures.attributes;
  addresses = c.put_addresses.ensures.addresses;
}

pub returns-clause-only : goal.returns-clause-only
returns-clause-only c = λ bytes fits is version.
    IsRecord-same _ _ _ fits c.put_addresses.ensures.fits (version ∙ sym (returns-clause-version c)) is
    (returns-clause-record c)

pub returns-clause-reading : goal.returns-clause-reading
returns-clause-reading c = fields_in-is _ _ (returns-clause-record c)
