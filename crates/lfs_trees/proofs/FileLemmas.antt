-- What the attributes of a number say of its file: `attrs_here` and `stands_here` for `check_files`, `has_whole` for
-- `blocks_of`. Attributes are shown of a stored file alone, and have its kind and the number of its bytes as their size
-- (`file_of_attrs`). So where attributes may stand at a number, its file may; and a directory among files that may
-- stand has whole blocks, as many as its size has, and no more than a file may have.
use Rattle.std.proofs.Common.{◌≡◌, ◌≤◌, ◌/◌, ◌%◌, ℕ, true, length, Option, None, Some, refl, sym, ap, subst, ◌∙◌}
use Rattle.std.specs.Prelude.{option_map}
use Rattle.std.specs.FinMap as map
use Rattle.lfs_types.specs.Kinds.{is_directory_kind}
use Rattle.lfs_types.specs.declared.attrs.Attrs.{Attrs}
use Rattle.lfs_types.specs.declared.attrs.Kind.{Kind}
use Rattle.lfs_types.specs.declared.attrs.Kind.TheVariants.{File as Regular, Directory}
use Rattle.lfs_types.specs.Changes.{IsLength}
use Rattle.lfs_types.specs.Stored.{bytes_of, bytes_of_file, shown_attrs}
use Rattle.lfs_types.specs.Tree.{Content, File, attrs_of}
use Rattle.lfs_types.proofs.Somewhere.{is_some_and}
use Rattle.lfs_calls.specs.Content.{IsDirectoryAt}
use Rattle.lfs_trees.specs.Files.{AreFiles, HasWhole, MayStand}

-- the attributes of a file's number are the file's
pub attrs_here : (c : Content) (n : ℕ) (f : File) (o : Option Attrs) → o ≡ shown_attrs c n → map.get c n ≡ Some f → o
    ≡ Some (attrs_of f)
attrs_here c n f o shown e = shown ∙ ap (option_map attrs_of) e

-- where they may stand there the file may
pub stands_here : (c : Content) (n : ℕ) (a : Attrs) → Some a ≡ shown_attrs c n → MayStand n a.kind a.size
    → (f : File) → map.get c n ≡ Some f → MayStand n f.kind (length f.bytes)
stands_here c n a shown may f e =
    let same : a ≡ attrs_of f = cc (attrs_here c n f (Some a) shown e) in
    subst (λ (x : Attrs). MayStand n x.kind x.size) same may

-- attributes that are those of a number's file
pub record Shown (c : Content) (n : ℕ) (a : Attrs) : Type 0 where
  pub file : File
  pub stored : map.get c n ≡ Some file
  pub same : a ≡ attrs_of file

shown_as : (c : Content) (n : ℕ) (a : Attrs) (o : Option File) → map.get c n ≡ o → Some a ≡ option_map attrs_of o
    → Shown c n a
shown_as c n a None e h = absurd (cc)
shown_as c n a (Some f) e h = record { file = f; stored = e; same = cc }

-- the file of attributes
pub file_of_attrs : (c : Content) (n : ℕ) (a : Attrs) → Some a ≡ shown_attrs c n → Shown c n a
file_of_attrs c n a h = shown_as c n a (map.get c n) refl h

-- a kind that is tested to be a directory's is one
pub directory_kind : (k : Kind) → is_directory_kind k ≡ true → k ≡ Directory
directory_kind Regular h = absurd (cc)
directory_kind Directory h = refl

-- a number of a directory's attributes is a directory's
pub directory_at : (c : Content) (n : ℕ) (a : Attrs) → Some a ≡ shown_attrs c n → is_directory_kind a.kind ≡ true
    → IsDirectoryAt c n
directory_at c n a shown kind =
    let f = file_of_attrs c n a shown in
    is_some_and (λ (x : File). x.kind ≡ Directory) f.stored (ap (λ (x : Attrs). x.kind) (sym f.same)
    ∙ directory_kind a.kind kind)

-- the blocks of a directory among files that may stand where they do
pub has_whole : (c : Content) (n : ℕ) (a : Attrs) → AreFiles c → Some a ≡ shown_attrs c n → is_directory_kind a.kind
    ≡ true
    → HasWhole c n (a.size / 512)
has_whole c n a files shown kind =
    let f = file_of_attrs c n a shown in
    let is : f.file.kind ≡ Directory = ap (λ (x : Attrs). x.kind) (sym f.same) ∙ directory_kind a.kind kind in
    let sized : IsLength Directory (length f.file.bytes) =
    subst (λ k. IsLength k (length f.file.bytes)) is (files n f.file f.stored).sized in
    let bytes : length f.file.bytes ≡ length (bytes_of c n) = ap length (sym (ap bytes_of_file f.stored)) in
    record {
      directory = directory_at c n a shown kind;
      counted = ap (λ (x : Attrs). x.size / 512) f.same ∙ ap (λ m. m / 512) bytes;
      whole = sym (ap (λ m. m % 512) bytes) ∙ sized.1;
      bounded = subst (λ m. m ≤ 8460288) bytes sized.0;
    }
