-- Why a store isn't laid out on a disk.
use Rattle.std.specs.Prelude.{◌≡◌, ℕ, Bool, true, ⊤}
use Rattle.lfs_types.specs.declared.fault.FormatFault.{FormatFault}
use Rattle.lfs_types.specs.declared.fault.FormatFault.TheVariants.{TooFew, TooMany, Memory}
use Rattle.lfs_parts.specs.Opening.{IsTooFew, IsTooMany}
use Rattle.lfs_disk_store.specs.declared.layout.LayoutFault.{LayoutFault}
use Rattle.lfs_disk_store.specs.declared.layout.LayoutFault.TheVariants.{Format, Disk}

-- no store has so many segments, inode numbers and frames, or there was no memory
abbrev pub IsFormatFault : ℕ → ℕ → ℕ → FormatFault → Type 0
IsFormatFault segments inodes frames TooFew = IsTooFew segments inodes frames
IsFormatFault segments inodes frames TooMany = IsTooMany segments inodes frames
IsFormatFault segments inodes frames Memory = ⊤

-- so, or the disk failed
abbrev pub IsNotLaidOut : ℕ → ℕ → ℕ → Bool → LayoutFault → Type 0
IsNotLaidOut segments inodes frames has_failed (Format fault) = IsFormatFault segments inodes frames fault
IsNotLaidOut segments inodes frames has_failed (Disk fault) = has_failed ≡ true
