-- The bytes of what a kernel is told.
use Rattle.std.specs.Prelude.{ℕ, ◌+◌, List, ◌++◌, length, nat_lt, if◌then◌else◌}
use Rattle.lfs_fuse_reply.specs.Replies.{head_bytes, reply_bytes}
use Rattle.lfs_fuse_reply.specs.declared.errno.Errno.TheVariants.{EIO}
use Rattle.lfs_fuse_reply.specs.declared.reply.Reply.TheVariants as reply
use Rattle.lfs_fuse_calls.specs.declared.told.Told.{Told}
use Rattle.lfs_fuse_calls.specs.declared.told.Told.TheVariants as told

-- bytes, where their length can be told
abbrev pub bytes_told : ℕ → List ℕ → List ℕ
bytes_told unique bytes =
    if nat_lt (length bytes) 0x8000_0000 then head_bytes (16 + length bytes) 0 unique ++ bytes
    else reply_bytes unique (reply.Error EIO)

-- the reply to the message of this number
abbrev pub told_bytes : ℕ → Told → List ℕ
told_bytes unique (told.Error errno) = reply_bytes unique (reply.Error errno)
told_bytes unique told.Done = reply_bytes unique reply.Done
told_bytes unique (told.Entry entry) = reply_bytes unique (reply.Entry entry)
told_bytes unique (told.Attr attr) = reply_bytes unique (reply.Attr attr)
told_bytes unique (told.Open opened) = reply_bytes unique (reply.Open opened)
told_bytes unique (told.Create entry opened) = reply_bytes unique (reply.Create entry opened)
told_bytes unique (told.Written count) = reply_bytes unique (reply.Written count)
told_bytes unique (told.Bytes bytes) = bytes_told unique bytes.items
told_bytes unique (told.Statfs statfs) = reply_bytes unique (reply.Statfs statfs)
told_bytes unique (told.Init init) = reply_bytes unique (reply.Init init)
told_bytes unique told.Ioctl = reply_bytes unique reply.Ioctl
told_bytes unique (told.Flags flags) = reply_bytes unique (reply.Flags flags)
told_bytes unique (told.Extended flags) = reply_bytes unique (reply.Extended flags)
