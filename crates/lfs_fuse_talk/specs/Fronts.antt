-- What was read, and what stands at its front.
use Rattle.std.specs.Prelude.{◌≡◌, ℕ, ◌<◌, List, ◌++◌, length, Option}
use Rattle.std.specs.Io.KnownBytes.{Consumes, IsAtEnd, Keeps}
use Rattle.lfs_fuse_wire.specs.Framing.{frame_in}
use Rattle.lfs_fuse_wire.specs.declared.framing.Frame.{Frame}
use Rattle.lfs_fuse_wire.specs.declared.framing.Frame.TheVariants as frame
use Rattle.lfs_fuse_talk.specs.declared.inbox.First.{First}
use Rattle.lfs_fuse_talk.specs.declared.inbox.First.TheVariants.{Message, Part, Bad}
use Rattle.lfs_fuse_talk.specs.declared.inbox.Reading.{Reading}
use Rattle.lfs_fuse_talk.specs.declared.inbox.Reading.TheVariants as reading
use Rattle.lfs_fuse_talk.specs.declared.inbox.TheConstants.{READ_BYTES}

-- what stands at the front of bytes: a whole message, whose length its first bytes tell, a part of one, or none
abbrev pub frame_of : List ℕ → Frame
frame_of bytes = frame_in READ_BYTES bytes

-- bytes are one whole message
abbrev pub IsMessage : List ℕ → Type 0
IsMessage bytes = frame_of bytes ≡ frame.Whole (length bytes)

-- a message and what is behind it are the bytes, and that is shorter than they are
pub record IsFirstOf (bytes message behind : List ℕ) : Type 0 where
  pub cut : message ++ behind ≡ bytes
  pub whole : IsMessage message
  pub shorter : length behind < length bytes

abbrev pub IsFront : List ℕ → First → Type 0
IsFront bytes (Message message behind) = IsFirstOf bytes message.now behind.now
IsFront bytes Part = frame_of bytes ≡ frame.Partial
IsFront bytes Bad = frame_of bytes ≡ frame.Bad

-- what a read gave stands behind what was there; it gave nothing at the end, and where it failed
abbrev pub HasRead : List ℕ → List ℕ → Option (List ℕ) → Option (List ℕ) → Reading → Type 0
HasRead before after known left reading.Bytes =
    (chunk : List ℕ) × (after ≡ before ++ chunk) × Consumes known left chunk
HasRead before after known left reading.End = (after ≡ before) × Keeps known left × IsAtEnd left
HasRead before after known left reading.Failed = (after ≡ before) × Keeps known left
