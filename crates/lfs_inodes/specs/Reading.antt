-- What a record says, as a function of its bytes.
use Rattle.std.specs.Prelude.{◌≡◌, ◌≤◌, ◌<◌, ℕ, suc, zero, ◌+◌, ◌*◌, ◌%◌, Bool, true, not, ◌&&◌, ◌||◌, ◌==◌, nat_lt}
use Rattle.std.specs.Prelude.{nat_le, if◌then◌else◌, List, length, slice_index, bit_and, Option, Some, None}
use Rattle.lfs_types.specs.FlagNumbers.{IsKnown}
use Rattle.lfs_types.specs.declared.attrs.Kind.{Kind}
use Rattle.lfs_types.specs.declared.attrs.Kind.TheVariants.{File, Directory}
use Rattle.lfs_types.specs.declared.block.TheConstants.{BLOCK_SIZE}
use Rattle.lfs_types.specs.declared.limits.TheConstants.{FILE_BYTES}
use Rattle.lfs_types.specs.Ranges.{most_inodes}
use Rattle.lfs_inodes.specs.declared.inode.Inode.{Inode}
use Rattle.lfs_inodes.specs.declared.inode.TheConstants.{ADDRESS_LIMIT, DIRECT_COUNT, ROOT_COUNT, SINGLE_END}
use Rattle.lfs_inodes.specs.Bytes.{number_at}
use Rattle.lfs_inodes.specs.Facts.{IsInodeNumber, IsSizeOf, block_count}
use Rattle.lfs_inodes.specs.Addresses.{addresses, first_at, numbers}
use Rattle.lfs_inodes.specs.Attributes.{Attributes, attributes}

-- an inode without the facts that its type keeps
pub record Fields : Type 0 where
  pub attributes : Attributes
  pub addresses : List ℕ

abbrev pub fields_of : Inode → Fields
fields_of v = record { attributes = attributes v; addresses = addresses v }

-- what each record keeps: the bounds of its fields
pub record AreFields (f : Fields) : Type 0 where
  pub numbered : IsInodeNumber f.attributes.number
  pub versioned : 1 ≤ f.attributes.version
  pub permitted : f.attributes.mode < 4096
  pub flagged : IsKnown f.attributes.flags
  pub sized : IsSizeOf f.attributes.kind f.attributes.size
  pub whole : length f.addresses ≡ ROOT_COUNT
  pub in_volume : (n : ℕ) → n < ROOT_COUNT → slice_index f.addresses n < ADDRESS_LIMIT
  -- only what leads to blocks below the size has an address
  pub within : (n : ℕ) → n < ROOT_COUNT → block_count f.attributes.size ≤ first_at n → slice_index f.addresses n ≡ 0

-- The tests of the fields.
abbrev pub is_inode_number : ℕ → Bool
is_inode_number n = nat_lt 1 n && (not (n == 3) && nat_lt n most_inodes)

abbrev pub is_flag_set : ℕ → Bool
is_flag_set flags = bit_and flags 0x7_0007 == flags

abbrev pub is_size_of : Kind → ℕ → Bool
is_size_of File size = nat_le size FILE_BYTES
is_size_of Directory size = nat_le size FILE_BYTES && size % BLOCK_SIZE == 0

abbrev pub is_direct : ℕ → ℕ → ℕ → Bool
is_direct size n address = nat_lt address ADDRESS_LIMIT && (nat_lt n (block_count size) || address == 0)

abbrev pub is_single : ℕ → ℕ → Bool
is_single size single = nat_lt single ADDRESS_LIMIT && (nat_lt DIRECT_COUNT (block_count size) || single == 0)

abbrev pub is_double : ℕ → ℕ → Bool
is_double size double = nat_lt double ADDRESS_LIMIT && (nat_lt SINGLE_END (block_count size) || double == 0)

abbrev pub is_version : ℕ → ℕ → Bool
is_version version double = (version == 2) || ((version == 1) && (double == 0))

unfoldable pub are_direct : List ℕ → ℕ → ℕ → Bool
are_direct bytes size zero = true
are_direct bytes size (suc n) = is_direct size n (number_at bytes (36 + 4 * n) 4) && are_direct bytes size n

unfoldable pub are_zero : List ℕ → ℕ → ℕ → Bool
are_zero bytes from zero = true
are_zero bytes from (suc n) = slice_index bytes (from + n) == 0 && are_zero bytes from n

-- the bytes are a record of this kind
unfoldable pub is_record : Kind → List ℕ → Bool
is_record kind bytes =
    length bytes == 128
    && (is_version (number_at bytes 0 2) (number_at bytes 88 4)
    && (is_inode_number (number_at bytes 4 4)
    && (nat_lt 0 (number_at bytes 8 4)
    && (nat_lt (number_at bytes 20 2) 4096
    && (are_zero bytes 22 2
    && (is_flag_set (number_at bytes 24 4)
    && (is_size_of kind (number_at bytes 28 8)
    && (are_direct bytes (number_at bytes 28 8) DIRECT_COUNT
    && (is_single (number_at bytes 28 8) (number_at bytes 84 4)
    && (is_double (number_at bytes 28 8) (number_at bytes 88 4)
    && are_zero bytes 92 36))))))))))

-- the fields where they stand
unfoldable pub read : Kind → List ℕ → Fields
read kind bytes = record {
  attributes = record {
    kind = kind;
    number = number_at bytes 4 4;
    version = number_at bytes 8 4;
    owner = number_at bytes 12 4;
    group = number_at bytes 16 4;
    mode = number_at bytes 20 2;
    flags = number_at bytes 24 4;
    size = number_at bytes 28 8;
  };
  addresses = numbers bytes 36 ROOT_COUNT;
}

abbrev pub fields_as : Kind → List ℕ → Option Fields
fields_as kind bytes = if is_record kind bytes then Some (read kind bytes) else None

-- the fields of the record that the bytes are, if they are one
unfoldable pub fields_in : List ℕ → Option Fields
fields_in bytes =
    if number_at bytes 2 2 == 1 then fields_as File bytes
    else (if number_at bytes 2 2 == 2 then fields_as Directory bytes else None)
