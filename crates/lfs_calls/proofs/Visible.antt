-- What users see of stored files: `visible-regular`, `visible-directory`, and `stored_of` and `shown_of` from a row to
-- its file and back. Users see a file as it is stored but none of a directory's bytes, so a directory with other bytes
-- looks the same. A store shows a world where at each number what is seen of the file is the row's; so where one of the
-- two is there the other is, and a number without a file has no row (`unused_of`).
use Rattle.std.proofs.Common.{◌≡◌, ℕ, List, [], Option, None, Some, refl, sym, ap, subst, ◌∙◌}
use Rattle.std.specs.Prelude.{option_map}
use Rattle.std.specs.FinMap as map
use Rattle.lfs_types.specs.Tree.{File, Row, World, Content}
use Rattle.lfs_types.specs.declared.attrs.Kind.{Kind}
use Rattle.lfs_types.specs.declared.attrs.Kind.TheVariants.{File as Regular, Directory}
use Rattle.lfs_calls.specs.Content.{visible_bytes, visible, Shows}

-- of no bytes none are seen
pub visible_bytes-none : (k : Kind) → visible_bytes k [] ≡ []
visible_bytes-none Regular = refl
visible_bytes-none Directory = refl

-- an empty file is seen as it is
pub visible-none : (f : File) → f.bytes ≡ [] → visible f ≡ f
visible-none f none = ap (λ bs. record f { bytes = bs }) (ap (visible_bytes f.kind) none ∙ visible_bytes-none f.kind
    ∙ sym none)

-- of a directory's bytes none are seen
pub visible_bytes-directory : (k : Kind) (a b : List ℕ) → k ≡ Directory → visible_bytes k a ≡ visible_bytes k b
visible_bytes-directory k a b h = subst (λ d. visible_bytes d a ≡ visible_bytes d b) (sym h) refl

-- a directory with other bytes is seen as before
pub visible-directory : (f : File) (bytes : List ℕ) → f.kind ≡ Directory → visible (record f { bytes = bytes })
    ≡ visible f
visible-directory f bytes h = ap (λ bs. record f { bytes = bs }) (visible_bytes-directory f.kind bytes f.bytes h)

-- a file is seen as it is stored
pub visible-regular : (f : File) → f.kind ≡ Regular → visible f ≡ f
visible-regular f h = ap (λ bs. record f { bytes = bs }) (subst (λ k. visible_bytes k f.bytes ≡ f.bytes) (sym h) refl)

-- ---- what a world's row says of the stored file, and the other way round

pub record Seen (c : Content) (n : ℕ) (r : Row) : Type 0 where
  pub file : File
  pub stored : map.get c n ≡ Some file
  pub same : visible file ≡ r.file

stored_as : (c : Content) (n : ℕ) (r : Row) (o : Option File) → map.get c n ≡ o → option_map visible o ≡ Some r.file
    → Seen c n r
stored_as c n r None e h = absurd (cc)
stored_as c n r (Some f) e h = record { file = f; stored = e; same = cc }

-- the stored file of a row
pub stored_of : (c : Content) (w : World) → Shows c w → (n : ℕ) (r : Row) → map.get w.rows n ≡ Some r → Seen c n r
stored_of c w shows n r there = stored_as c n r (map.get c n) refl (shows.files n
    ∙ ap (option_map (λ (x : Row). x.file)) there)

pub record Stored (w : World) (n : ℕ) (f : File) : Type 0 where
  pub row : Row
  pub there : map.get w.rows n ≡ Some row
  pub same : visible f ≡ row.file

shown_as : (w : World) (n : ℕ) (f : File) (o : Option Row) → map.get w.rows n ≡ o → Some (visible f)
    ≡ option_map (λ (r : Row). r.file) o → Stored w n f
shown_as w n f None e h = absurd (cc)
shown_as w n f (Some r) e h = record { row = r; there = e; same = cc }

-- the row of a stored file
pub shown_of : (c : Content) (w : World) → Shows c w → (n : ℕ) (f : File) → map.get c n ≡ Some f → Stored w n f
shown_of c w shows n f stored = shown_as w n f (map.get w.rows n) refl (sym (ap (option_map visible) stored)
    ∙ shows.files n)

unused_as : (w : World) (n : ℕ) (o : Option Row) → map.get w.rows n ≡ o → None ≡ option_map (λ (r : Row). r.file) o
    → map.get w.rows n ≡ None
unused_as w n None e h = e
unused_as w n (Some r) e h = absurd (cc)

-- a number without a file has no row
pub unused_of : (c : Content) (w : World) → Shows c w → (n : ℕ) → map.get c n ≡ None → map.get w.rows n ≡ None
unused_of c w shows n none = unused_as w n (map.get w.rows n) refl (sym (ap (option_map visible) none) ∙ shows.files n)
