-- The bytes of replies (the FUSE protocol's fuse.h).
use Rattle.std.specs.Prelude.{⊤, ◌<◌, ℕ, ◌+◌, ◌-◌, ◌/◌, ◌%◌, ◌^◌, List, [], ◌∷◌, ◌++◌, length, replicate, if◌then◌else◌}
use Rattle.lfs_fuse_reply.specs.declared.attr.Attr.{Attr}
use Rattle.lfs_fuse_reply.specs.declared.attr.Entry.{Entry}
use Rattle.lfs_fuse_reply.specs.declared.reply.InitReply.{InitReply}
use Rattle.lfs_fuse_reply.specs.declared.reply.Opened.{Opened}
use Rattle.lfs_fuse_reply.specs.declared.reply.Reply.{Reply}
use Rattle.lfs_fuse_reply.specs.declared.reply.Reply.TheVariants as reply
use Rattle.lfs_fuse_reply.specs.declared.reply.Statfs.{Statfs}
use Rattle.lfs_fuse_reply.specs.Attrs.{attr_bytes, entry_bytes}
use Rattle.lfs_fuse_reply.specs.Errnos.{errno_number}
use Rattle.lfs_fuse_reply.specs.Numbers.{half, long, longs, word, words}

-- attributes; the three zeros say that they are kept for no time
abbrev pub attr_body : Attr → List ℕ
attr_body a = longs (0 ∷ []) ++ words (0 ∷ 0 ∷ []) ++ attr_bytes a

-- a handle; the only flag that is ever told is the first, that each read and write is a message
abbrev pub open_body : Opened → List ℕ
open_body o = long o.handle ++ words ((if o.direct_io then 1 else 0) ∷ 0 ∷ [])

abbrev pub create_body : Entry → Opened → List ℕ
create_body e o = entry_bytes e ++ open_body o

abbrev pub statfs_body : Statfs → List ℕ
statfs_body s =
    longs (s.blocks ∷ s.free_blocks ∷ s.available_blocks ∷ [])
    ++ longs (s.files ∷ s.free_files ∷ [])
    ++ words (s.block_size ∷ s.max_name ∷ s.block_size ∷ 0 ∷ [])
    ++ words (replicate 6 0)

-- the flags stand in two words, the lower first and the upper near the end
abbrev pub init_body : InitReply → List ℕ
init_body i =
    words (i.major ∷ i.minor ∷ i.max_readahead ∷ i.flags.0 % 0x100000000 ∷ [])
    ++ half i.max_background
    ++ half i.congestion_threshold
    ++ words (i.max_write ∷ i.time_granularity ∷ [])
    ++ half i.max_pages
    ++ half 0
    ++ word (i.flags.0 / 0x100000000)
    ++ words (replicate 7 0)

-- what stands behind a reply's head
abbrev pub body_of : Reply → List ℕ
body_of (reply.Error errno) = []
body_of reply.Done = []
body_of (reply.Entry entry) = entry_bytes entry
body_of (reply.Attr attr) = attr_body attr
body_of (reply.Open opened) = open_body opened
body_of (reply.Create entry opened) = create_body entry opened
body_of (reply.Written count) = words (count ∷ 0 ∷ [])
body_of (reply.Bytes bytes) = bytes.now
body_of (reply.Statfs statfs) = statfs_body statfs
body_of (reply.Init init) = init_body init
body_of reply.Ioctl = words (replicate 4 0)
body_of (reply.Flags flags) = words (0 ∷ 0 ∷ 0 ∷ 0 ∷ flags ∷ [])
body_of (reply.Extended flags) = words (0 ∷ 0 ∷ 0 ∷ 0 ∷ flags ∷ 0 ∷ 0 ∷ 0 ∷ 0 ∷ 0 ∷ 0 ∷ [])

-- a reply of bytes has less than 2 GiB, so that its length can be told
abbrev pub IsShort : Reply → Type 0
IsShort (reply.Bytes bytes) = length bytes.now < 2 ^ 31
IsShort _ = ⊤

-- the error's number, and 0 for none
abbrev pub error_of : Reply → ℕ
error_of (reply.Error errno) = errno_number errno
error_of _ = 0

-- an error as a number below zero, in two's complement
abbrev pub negated : ℕ → ℕ
negated error = (2 ^ 32 - error) % 2 ^ 32

-- the head of each reply: the length of the whole, the error and the number of the message that it answers
abbrev pub head_bytes : ℕ → ℕ → ℕ → List ℕ
head_bytes size error unique = word size ++ word (negated error) ++ long unique

-- the length that a reply's head tells
abbrev pub told_length : Reply → ℕ
told_length r = 16 + length (body_of r)

abbrev pub reply_bytes : ℕ → Reply → List ℕ
reply_bytes unique r = head_bytes (told_length r) (error_of r) unique ++ body_of r
