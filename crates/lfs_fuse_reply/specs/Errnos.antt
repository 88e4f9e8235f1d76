-- The numbers of errors (errno(3) of Linux).
use Rattle.std.specs.Prelude.{ℕ}
use Rattle.lfs_fuse_reply.specs.declared.errno.Errno.{Errno}
use Rattle.lfs_fuse_reply.specs.declared.errno.Errno.TheVariants as errno

abbrev pub errno_number : Errno → ℕ
errno_number errno.EPERM = 1
errno_number errno.ENOENT = 2
errno_number errno.EINTR = 4
errno_number errno.EIO = 5
errno_number errno.EBADF = 9
errno_number errno.EAGAIN = 11
errno_number errno.ENOMEM = 12
errno_number errno.EACCES = 13
errno_number errno.EBUSY = 16
errno_number errno.EEXIST = 17
errno_number errno.EXDEV = 18
errno_number errno.ENODEV = 19
errno_number errno.ENOTDIR = 20
errno_number errno.EISDIR = 21
errno_number errno.EINVAL = 22
errno_number errno.ENOTTY = 25
errno_number errno.EFBIG = 27
errno_number errno.ENOSPC = 28
errno_number errno.EROFS = 30
errno_number errno.EMLINK = 31
errno_number errno.ERANGE = 34
errno_number errno.ENAMETOOLONG = 36
errno_number errno.ENOSYS = 38
errno_number errno.ENOTEMPTY = 39
errno_number errno.ELOOP = 40
errno_number errno.ENODATA = 61
errno_number errno.EOVERFLOW = 75
errno_number errno.EOPNOTSUPP = 95
errno_number errno.ESTALE = 116
errno_number errno.EDQUOT = 122
