-- The content at a number is the file that its record and blocks make (`get-content_of`, `file_at-some`), so what is
-- shown of it is the record's (`shown-record`, `bytes_of-record`, `least_shown`): for `Parts::attrs`, `read` and
-- `least_free`. `content_below` is gone through number by number, and past the inode map no number is in use; the size
-- shown is the record's because `file_bytes` is cut to it. `tree_from-of` needs `IsFile`: a record with another number
-- or version would name another file's frames.
use Rattle.std.proofs.Common.{◌≡◌, ℕ, zero, suc, ◌<◌, ◌≤◌, [], length, Option, None, Some, option_map, is_some, IsSome}
use Rattle.std.proofs.Common.{true, false, refl, sym, ap, ◌∙◌, inl, inr, arith}
use Rattle.std.specs.Ordering.{nat_cmp}
use Rattle.std.specs.FinMap as map
use Rattle.std.specs.FinMap.{get-empty}
use Rattle.std.specs.Prelude.{IfSome, IfNone}
use Rattle.std.proofs.lemmas.Bool.{cases_Bool, cases_lt, cond-false}
use Rattle.std.proofs.lemmas.Option.{none-some}
use Rattle.std.proofs.lemmas.List.{get_or_past}
use Rattle.lfs_types.specs.Tree.{File, attrs_of}
use Rattle.lfs_types.specs.Stored.{IsLeastFree, shown_attrs, bytes_of, bytes_of_file}
use Rattle.lfs_types.proofs.Contents.{get-content_with, get-content_with_apart}
use Rattle.lfs_ifile.specs.Inode.{fresh_row, place_in}
use Rattle.lfs_ifile.specs.Tables.{place_of, row_of}
use Rattle.lfs_ifile.specs.Tables as tables
use Rattle.lfs_inodes.specs.declared.inode.Inode.{Inode}
use Rattle.lfs_inodes.specs.Addresses.{addresses}
use Rattle.lfs_inodes.specs.Attributes.{stat_of}
use Rattle.lfs_inodes.specs.Reading.{Fields, fields_of}
use Rattle.lfs_bmap.specs.Pieces.{file_bytes}
use Rattle.lfs_bmap.specs.Reading.{Tree, data_block}
use Rattle.lfs_bmap.proofs.PieceLemmas.{file_bytes-length}
use Rattle.lfs_parts.specs.declared.parts.Parts.{Parts}
use Rattle.lfs_parts.specs.Files.{file_with, file_at, content_below, content_of}
use Rattle.lfs_parts.specs.Store.{AreFiles, IsFile}
use Rattle.lfs_parts.specs.View.{record_of, tree_from, tree_of, tree_with, root_in, version_of}
use Rattle.lfs_parts.proofs.ViewLemmas.{record_of-unused}

-- ---- the content at a number
get_past : (files : ℕ → Option File) (n q : ℕ) → n ≤ q → map.get (content_below files n) q ≡ None
unfolding content_below
get_past files zero q h = get-empty nat_cmp q
get_past files (suc n) q h =
    get-content_with_apart n q (files n) (content_below files n) (λ e. omega arith) ∙ get_past files n q (omega arith)

get_before : (files : ℕ → Option File) (n q : ℕ) → q < n → map.get (content_below files n) q ≡ files q
unfolding content_below
get_before files zero q h = absurd (omega arith)
get_before files (suc n) q h =
    elim (cases_lt q n) [
      | inl inside ↦ get-content_with_apart n q (files n) (content_below files n) (λ e. omega arith)
          ∙ get_before files n q inside
      | inr past ↦
          let last : q ≡ n = omega arith in
          rw last (get-content_with n (files n) (content_below files n) (get_past files n n (omega arith)))
    ]

-- the file of a number, by its record
pub file_at-record : (p : Parts) (number : ℕ) → file_at p number
    ≡ option_map (file_with (tree_of p number)) (record_of p number)
unfolding file_at
file_at-record p number = refl

pub file_at-some : (p : Parts) (number : ℕ) (f : Fields) → record_of p number ≡ Some f → file_at p number
    ≡ Some (file_with (tree_of p number) f)
file_at-some p number f h = file_at-record p number ∙ ap (option_map (file_with (tree_of p number))) h

pub file_at-none : (p : Parts) (number : ℕ) → record_of p number ≡ None → file_at p number ≡ None
file_at-none p number h = file_at-record p number ∙ ap (option_map (file_with (tree_of p number))) h

-- a number past the inode map isn't in use
pub record_of-past : (p : Parts) (number : ℕ) → length p.log.tables.rows ≤ number → record_of p number ≡ None
record_of-past p number past = record_of-unused p number
    (ap place_in (get_or_past p.log.tables.rows number fresh_row past))

-- what the content has at a number is the number's file
pub get-content_of : (p : Parts) (number : ℕ) → map.get (content_of p) number ≡ file_at p number
unfolding content_of
get-content_of p number =
    elim (cases_lt number (length p.log.tables.rows)) [
      | inl inside ↦ get_before (file_at p) (length p.log.tables.rows) number inside
      | inr past ↦ get_past (file_at p) (length p.log.tables.rows) number past
          ∙ sym (file_at-none p number (record_of-past p number past))
    ]

-- ---- what a file shows
attrs_shown : (t : Tree) (f : Fields) → ((n : ℕ) → length (data_block t n) ≡ 512) → attrs_of (file_with t f)
    ≡ stat_of f.attributes
attrs_shown t f whole =
    ap (λ n. record (stat_of f.attributes) { size = n }) (file_bytes-length (data_block t) whole f.attributes.size)

-- the attributes that the content shows are those of the record
pub shown-record : (p : Parts) (number : ℕ) (f : Fields) → record_of p number ≡ Some f → IsFile p number f
    → shown_attrs (content_of p) number ≡ Some (stat_of f.attributes)
shown-record p number f h file =
    ap (option_map attrs_of) (get-content_of p number ∙ file_at-some p number f h)
    ∙ ap Some (attrs_shown (tree_of p number) f file.padded.whole)

pub shown-none : (p : Parts) (number : ℕ) → record_of p number ≡ None → shown_attrs (content_of p) number ≡ None
shown-none p number h = ap (option_map attrs_of) (get-content_of p number ∙ file_at-none p number h)

-- the bytes that it has are those of the blocks
pub bytes_of-record : (p : Parts) (number : ℕ) (f : Fields) → record_of p number ≡ Some f
    → bytes_of (content_of p) number ≡ file_bytes (data_block (tree_of p number)) f.attributes.size
bytes_of-record p number f h = ap bytes_of_file (get-content_of p number ∙ file_at-some p number f h)

-- the file that has the record of a number is the number's
pub tree_from-of : (p : Parts) (number : ℕ) (v : Inode) → record_of p number ≡ Some (fields_of v)
    → IsFile p number (fields_of v)
    → tree_from p v ≡ tree_of p number
tree_from-of p number v h file =
    ap (λ n. tree_with p n v.version (addresses v)) file.own_number
    ∙ ap (λ n. tree_with p number n (addresses v)) file.own_version
    ∙ ap (λ r. tree_with p number (version_of p number) (root_in r)) (sym h)

-- the record that a call gives is the number's
pub given_record : (p : Parts) (number : ℕ) (o : Option Inode) (v : Inode) → option_map fields_of o ≡ record_of p number
    → o ≡ Some v
    → record_of p number ≡ Some (fields_of v)
given_record p number o v h is = sym h ∙ ap (option_map fields_of) is

-- ---- which numbers are free
some_mapped : {A B : Type 0} (f : A → B) (o : Option A) → is_some (option_map f o) ≡ is_some o
some_mapped f None = refl
some_mapped f (Some x) = refl

-- a number in use has a file
pub used_shown : (p : Parts) (number : ℕ) → AreFiles p → (row_of p.log.tables number).used ≡ true
    → IsSome (map.get (content_of p) number)
used_shown p number files used =
    ap is_some (get-content_of p number ∙ file_at-record p number)
    ∙ some_mapped (file_with (tree_of p number)) (record_of p number)
    ∙ files.recorded number used

-- and another one has none
pub free_place : (p : Parts) (number : ℕ) → (row_of p.log.tables number).used ≡ false → place_of p.log.tables number
    ≡ None
free_place p number free = cond-false _ _ _ free

-- a number that has a record is in use
pub record_used : (p : Parts) (number : ℕ) (f : Fields) → record_of p number ≡ Some f
    → (row_of p.log.tables number).used ≡ true
record_used p number f has = elim (cases_Bool (row_of p.log.tables number).used) [
  | inl used ↦ used
  | inr free ↦ absurd (none-some f (sym (record_of-unused p number (free_place p number free)) ∙ has))
]

pub free_shown : (p : Parts) (number : ℕ) → (row_of p.log.tables number).used ≡ false → map.get (content_of p) number
    ≡ None
free_shown p number free =
    get-content_of p number ∙ file_at-none p number (record_of-unused p number (free_place p number free))

-- so the least free number of the inode map is that of the content
pub least_shown : (p : Parts) (o : Option ℕ) → AreFiles p → IfSome o (tables.IsLeastFree p.log.tables.rows)
    → IfNone o (tables.AreUsed p.log.tables.rows 4 (length p.log.tables.rows))
    → IsLeastFree (length p.log.tables.rows) (content_of p) o
least_shown p None files some none = λ number low high. used_shown p number files (none number low high)
least_shown p (Some n) files some none = (
  some.from_first,
  some.in_range,
  free_shown p n some.unused,
  λ number low high. used_shown p number files (some.used_below number low high),
)

-- a number that isn't in use has no bytes
pub bytes_of-none : (p : Parts) (number : ℕ) → record_of p number ≡ None → bytes_of (content_of p) number ≡ []
bytes_of-none p number h = ap bytes_of_file (get-content_of p number ∙ file_at-none p number h)
