-- The bytes of an image.
use Rattle.std.specs.Prelude.{◌≡◌, ℕ, List, ◌++◌, Option, None, Some, length, replicate}
use Rattle.std.specs.List.{flat_map}
use Rattle.lfs_types.specs.declared.level.Level.{Level}
use Rattle.lfs_types.specs.declared.level.Level.TheVariants.{PermanentlyInsecure, Insecure, Secure, HighlySecure}
use Rattle.lfs_ifile.specs.Layout.{ifile_bytes, u32_bytes}
use Rattle.lfs_segments.specs.Memory.{block_at, label}
use Rattle.lfs_log.specs.Parts.{IsParts, LogParts}
use Rattle.lfs_image.specs.declared.head.Head.{Head}

-- the securelevel as a number from 0 up: 1 more than 4.4BSD's
abbrev pub level_word : Level → ℕ
level_word PermanentlyInsecure = 0
level_word Insecure = 1
level_word Secure = 2
level_word HighlySecure = 3

-- the serial of the next summary as a number: 0 where summaries have none
abbrev pub serial_word : Option ℕ → ℕ
serial_word None = 0
serial_word (Some serial) = serial

-- The head, one block: LFSI, the form, how many segments and inode numbers there are, the active segment and how many
-- of its blocks are used, the securelevel, and the serial of the next summary; zeros fill it up.
unfoldable pub head_bytes : Head → List ℕ
head_bytes h =
    u32_bytes 0x4c46_5349 ++ u32_bytes 1 ++ u32_bytes h.segments ++ u32_bytes h.inodes
    ++ u32_bytes h.active ++ u32_bytes h.used ++ u32_bytes (level_word h.level) ++ u32_bytes (serial_word h.serial)
    ++ replicate 480 0

-- what the head tells of a log and a securelevel
abbrev pub head_of : LogParts → Level → Head
head_of l level = record {
  segments = l.memory.segments;
  inodes = length l.tables.rows;
  active = l.memory.active;
  used = l.memory.fill;
  level = level;
  serial = l.memory.serial;
}

-- what stands behind the head: each block from address 0 on, the ifile
abbrev pub body_bytes : LogParts → List ℕ
body_bytes l = flat_map (λ block. block) l.memory.blocks ++ ifile_bytes l.tables

-- The image: the head, each block from address 0 on, the ifile.
abbrev pub image_bytes : LogParts → Level → List ℕ
image_bytes l level = head_bytes (head_of l level) ++ body_bytes l

-- the block at address 0 says the numbers of segments and of inode numbers
abbrev pub IsLabelled : LogParts → Type 0
IsLabelled l = block_at l.memory 0 ≡ label l.memory.segments (length l.tables.rows)

-- a log is well formed, and these are the bytes of its image at a securelevel
pub record IsImageOf (bytes : List ℕ) (l : LogParts) (level : Level) : Type 0 where
  pub parts : IsParts l
  pub spelled : image_bytes l level ≡ bytes
