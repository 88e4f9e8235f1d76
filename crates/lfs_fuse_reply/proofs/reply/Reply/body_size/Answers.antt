use Rattle.lfs_fuse_reply.proofs.Lengths.{length-attr_body, length-count, length-create, length-entry, length-extended}
use Rattle.lfs_fuse_reply.proofs.Lengths.{length-flags, length-init, length-ioctl, length-open, length-statfs, size_is}
use Rattle.lfs_fuse_reply.proofs.reply.Reply.body_size.Goals as goal

pub returns-in-Entry-clause-size : goal.returns-in-Entry-clause-size
returns-in-Entry-clause-size c = size_is _ _ 128 c.in-Entry.is (length-entry c.in-Entry.field-0)

pub returns-in-Attr-clause-size : goal.returns-in-Attr-clause-size
returns-in-Attr-clause-size c = size_is _ _ 104 c.in-Attr.is (length-attr_body c.in-Attr.field-0)

pub returns-in-Open-clause-size : goal.returns-in-Open-clause-size
returns-in-Open-clause-size c = size_is _ _ 16 c.in-Open.is (length-open c.in-Open.field-0)

pub returns-in-Create-clause-size : goal.returns-in-Create-clause-size
returns-in-Create-clause-size c = size_is _ _ 144 c.in-Create.is (length-create c.in-Create.field-0 c.in-Create.field-1)

pub returns-in-Written-clause-size : goal.returns-in-Written-clause-size
returns-in-Written-clause-size c = size_is _ _ 8 c.in-Written.is (length-count c.in-Written.field-0)

pub returns-in-Statfs-clause-size : goal.returns-in-Statfs-clause-size
returns-in-Statfs-clause-size c = size_is _ _ 80 c.in-Statfs.is (length-statfs c.in-Statfs.field-0)

pub returns-in-Init-clause-size : goal.returns-in-Init-clause-size
returns-in-Init-clause-size c = size_is _ _ 64 c.in-Init.is (length-init c.in-Init.field-0)

pub returns-in-Ioctl-clause-size : goal.returns-in-Ioctl-clause-size
returns-in-Ioctl-clause-size c = size_is _ _ 16 c.in-Ioctl.is length-ioctl

pub returns-in-Flags-clause-size : goal.returns-in-Flags-clause-size
returns-in-Flags-clause-size c = size_is _ _ 20 c.in-Flags.is (length-flags c.in-Flags.field-0)

pub returns-in-Extended-clause-size : goal.returns-in-Extended-clause-size
returns-in-Extended-clause-size c = size_is _ _ 44 c.in-Extended.is (length-extended c.in-Extended.field-0)
