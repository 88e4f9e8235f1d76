use Rattle.std.proofs.Common.{refl}
use Rattle.lfs_types.proofs.rule.Errno.name.Goals as goal

pub returns-in-EPERM : goal.returns-in-EPERM
returns-in-EPERM c = rw c.in-EPERM.is refl

pub returns-in-ENOENT : goal.returns-in-ENOENT
returns-in-ENOENT c = rw c.in-ENOENT.is refl

pub returns-in-EACCES : goal.returns-in-EACCES
returns-in-EACCES c = rw c.in-EACCES.is refl

pub returns-in-EBUSY : goal.returns-in-EBUSY
returns-in-EBUSY c = rw c.in-EBUSY.is refl

pub returns-in-EEXIST : goal.returns-in-EEXIST
returns-in-EEXIST c = rw c.in-EEXIST.is refl

pub returns-in-ENOTDIR : goal.returns-in-ENOTDIR
returns-in-ENOTDIR c = rw c.in-ENOTDIR.is refl

pub returns-in-EISDIR : goal.returns-in-EISDIR
returns-in-EISDIR c = rw c.in-EISDIR.is refl

pub returns-in-EINVAL : goal.returns-in-EINVAL
returns-in-EINVAL c = rw c.in-EINVAL.is refl

pub returns-in-EFBIG : goal.returns-in-EFBIG
returns-in-EFBIG c = rw c.in-EFBIG.is refl

pub returns-in-ENOTEMPTY : goal.returns-in-ENOTEMPTY
returns-in-ENOTEMPTY c = rw c.in-ENOTEMPTY.is refl
