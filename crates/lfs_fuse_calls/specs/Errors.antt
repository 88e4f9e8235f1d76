-- The error that a kernel is told of an answer.
use Rattle.std.specs.Prelude.{Option, None, Some}
use Rattle.lfs_types.specs.RuleCodes.{rule_error}
use Rattle.lfs_types.specs.declared.answer.Answer.{Answer}
use Rattle.lfs_types.specs.declared.answer.Answer.TheVariants.{Served, Denied, Refused}
use Rattle.lfs_types.specs.declared.answer.Resource.{Resource}
use Rattle.lfs_types.specs.declared.answer.Resource.TheVariants.{NoMemory, NoSpace, NoInodes, DirectoryFull}
use Rattle.lfs_types.specs.declared.answer.Resource.TheVariants.{JournalFull}
use Rattle.lfs_types.specs.declared.rule.Errno.{Errno as RuleErrno}
use Rattle.lfs_types.specs.declared.rule.Errno.TheVariants as rule
use Rattle.lfs_fuse_reply.specs.declared.errno.Errno.{Errno}
use Rattle.lfs_fuse_reply.specs.declared.errno.Errno.TheVariants as errno

-- the error of a rule, by the same name
abbrev pub error_of_rule : RuleErrno → Errno
error_of_rule rule.EPERM = errno.EPERM
error_of_rule rule.ENOENT = errno.ENOENT
error_of_rule rule.EACCES = errno.EACCES
error_of_rule rule.EBUSY = errno.EBUSY
error_of_rule rule.EEXIST = errno.EEXIST
error_of_rule rule.ENOTDIR = errno.ENOTDIR
error_of_rule rule.EISDIR = errno.EISDIR
error_of_rule rule.EINVAL = errno.EINVAL
error_of_rule rule.EFBIG = errno.EFBIG
error_of_rule rule.ENOTEMPTY = errno.ENOTEMPTY

-- the error of a resource that is wanting
abbrev pub error_of_resource : Resource → Errno
error_of_resource NoMemory = errno.ENOMEM
error_of_resource NoSpace = errno.ENOSPC
error_of_resource NoInodes = errno.ENOSPC
error_of_resource DirectoryFull = errno.ENOSPC
error_of_resource JournalFull = errno.EDQUOT

-- the error of an answer, if it isn't served: that of the rule that failed, or of the resource
abbrev pub refusal_of : Answer → Option Errno
refusal_of (Served shown) = None
refusal_of (Denied denial) = Some (error_of_rule (rule_error denial.rule))
refusal_of (Refused resource) = Some (error_of_resource resource)
