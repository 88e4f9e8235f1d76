-- Changes that may be asked for by a content are of files in use, and keep their sizes allowed: `put_sized`,
-- `length_sized`, `may_change` and `shown_used`, for `put_some` and `stage_change`. A content shows a file just for a
-- number in use, its bytes are as many as its record's size, and what CanApply asks of the new length is what the
-- record must keep (`size_of`). No bytes put change nothing (`put_nothing`), so such a change isn't staged at all; a
-- kind of file with other lengths changes IsLength here and IsSizeOf in the record alike.
use Rattle.std.proofs.Common.{◌≡◌, ℕ, ◌+◌, ◌<◌, ◌≤◌, max, List, [], ◌∷◌, length, Option, None, Some, is_some, IsSome}
use Rattle.std.proofs.Common.{IsSomeAnd, true, false, refl, sym, ap, ◌∙◌, subst, inl, inr, arith}
use Rattle.std.specs.FinMap as map
use Rattle.std.specs.FinMap.{same_map, nat_cmp-IsAntisymmetric}
use Rattle.std.specs.Cmp.{nat_cmp_total}
use Rattle.std.proofs.lemmas.Bool.{cases_Bool, cases_eq, cond-true, cond-false, eq-eqb, ne_eqb, false≢true}
use Rattle.std.proofs.lemmas.List.{length-append, length-drop, length-replicate, length-take}
use Rattle.lfs_types.specs.Changes.{IsLength, changed_at}
use Rattle.lfs_types.specs.Splicing.{splice}
use Rattle.lfs_types.specs.Tree.{Content, File}
use Rattle.lfs_types.specs.declared.attrs.Kind.{Kind}
use Rattle.lfs_types.specs.declared.attrs.Kind.TheVariants.{File as Regular, Directory}
use Rattle.lfs_types.proofs.Maps.{get-insert_other, get-insert_same}
use Rattle.lfs_types.specs.declared.limits.TheConstants.{FILE_BYTES}
use Rattle.lfs_types.proofs.Contents.{length_limit}
use Rattle.lfs_ifile.specs.Tables.{row_of}
use Rattle.lfs_inodes.specs.Facts.{IsSizeOf}
use Rattle.lfs_inodes.specs.Reading.{Fields}
use Rattle.lfs_inodes.specs.declared.inode.Inode.{Inode}
use Rattle.lfs_bmap.specs.Reading.{data_block}
use Rattle.lfs_bmap.proofs.PieceLemmas.{file_bytes-length}
use Rattle.lfs_parts.specs.declared.parts.Parts.{Parts}
use Rattle.lfs_parts.specs.Files.{content_of, file_with}
use Rattle.lfs_staging.specs.Putting.{MayChange, with_put}
use Rattle.lfs_staging.specs.Staging.{IsStaged}
use Rattle.lfs_parts.specs.Store.{AreFiles}
use Rattle.lfs_parts.specs.View.{record_of, tree_of}
use Rattle.lfs_parts.specs.Waiting.{without}
use Rattle.lfs_parts.proofs.FileLemmas.{file_at-some, free_shown, get-content_of, used_shown}
use Rattle.lfs_parts.proofs.KeyLemmas.{lies_in}
use Rattle.lfs_parts.proofs.SameLogLemmas.{used_low}

-- ---- which numbers are in use
pub some_at : (o : Option File) (P : File → Type 0) (f : File) → o ≡ Some f → IsSomeAnd o P → P f
some_at o P f is h = subst (λ x. IsSomeAnd x P) is h

-- a number with a file is in use
pub shown_used : (p : Parts) (n : ℕ) → IsSome (map.get (content_of p) n) → (row_of p.log.tables n).used ≡ true
shown_used p n some = elim (cases_Bool (row_of p.log.tables n).used) [
  | inl used ↦ used
  | inr free ↦ absurd (false≢true (sym (ap is_some (free_shown p n free)) ∙ some))
]

-- and one without isn't
pub none_free : (p : Parts) (n : ℕ) → AreFiles p → map.get (content_of p) n ≡ None → (row_of p.log.tables n).used
    ≡ false
none_free p n files none = elim (cases_Bool (row_of p.log.tables n).used) [
  | inl used ↦ absurd (false≢true (sym (ap is_some none) ∙ used_shown p n files used))
  | inr free ↦ free
]

-- the file of a record
pub content_file : (p : Parts) (n : ℕ) (f : Fields) → record_of p n ≡ Some f → map.get (content_of p) n
    ≡ Some (file_with (tree_of p n) f)
content_file p n f is = get-content_of p n ∙ file_at-some p n f is

-- ---- lengths
pub size_of : (k : Kind) (n : ℕ) → IsLength k n → IsSizeOf k n
size_of Regular n h = (h, λ e. absurd (cc))
size_of Directory n h = (h.0, λ e. h.1)

splice_length : (old : List ℕ) (start : ℕ) (bytes : List ℕ) → 0 < length bytes → length (splice old start bytes)
    ≡ max (length old) (start + length bytes)
splice_length old start [] h = absurd (omega arith)
splice_length old start (b ∷ bs) h = simp (length-append, length-take, length-replicate, length-drop) (omega arith)

-- bytes put may give a file its size, where they may be asked for
pub put_sized : (p : Parts) (n start : ℕ) (bytes : List ℕ) → AreFiles p
    → IsSomeAnd (map.get (content_of p) n) (λ f. IsLength f.kind (length (splice f.bytes start bytes)))
    → 0 < length bytes → (f : Fields) → record_of p n ≡ Some f
    → IsSizeOf f.attributes.kind (max f.attributes.size (start + length bytes))
put_sized p n start bytes files can some f is =
    let file = file_with (tree_of p n) f in
    let fits = some_at _ (λ f. IsLength f.kind (length (splice f.bytes start bytes))) file (content_file p n f is) can
    in
    let whole : length file.bytes ≡ f.attributes.size =
    file_bytes-length (data_block (tree_of p n)) (files.files n f is).padded.whole f.attributes.size in
    let long : length (splice file.bytes start bytes) ≡ max f.attributes.size (start + length bytes)
    = splice_length file.bytes start bytes some ∙ ap (λ m. max m (start + length bytes)) whole in
    subst (IsSizeOf f.attributes.kind) long (size_of f.attributes.kind _ fits)

-- ---- no bytes change nothing
put_none : (c : Content) (n start : ℕ) (bytes : List ℕ) (o : Option File) → length bytes ≡ 0 → map.get c n ≡ o
    → changed_at o n (λ f. record f { bytes = splice f.bytes start bytes }) c ≡ c
put_none c n start (b ∷ bs) o h is = absurd (omega arith)
put_none c n start [] None h is = refl
put_none c n start [] (Some f) h is =
    same_map nat_cmp_total nat_cmp-IsAntisymmetric _ c (λ q. elim (cases_eq q n) [
      | inl e ↦ ap (map.get (map.insert c n f)) e ∙ get-insert_same c n f ∙ sym (ap (map.get c) e ∙ is)
      | inr other ↦ get-insert_other c n f q other
    ])

pub put_nothing : (c : Content) (n start : ℕ) (bytes : List ℕ) → length bytes ≡ 0 → with_put n start bytes c ≡ c
put_nothing c n start bytes none = put_none c n start bytes (map.get c n) none refl

-- ---- a file may be changed
length-without : (n : ℕ) (vs : List Inode) → length (without n vs) ≤ length vs
unfolding without
length-without n [] = omega arith
length-without n (v ∷ vs) = elim (cases_eq v.number n) [
  | inl e ↦ let is = ap (λ (ws : List Inode). length ws) (cond-true _ vs (v ∷ without n vs) (eq-eqb v.number n e)) in
      omega arith
  | inr ne ↦
      let is = ap (λ (ws : List Inode). length ws) (cond-false _ vs (v ∷ without n vs) (ne_eqb v.number n ne)) in
      let rest = length-without n vs in
      omega arith
]

pub may_change : (p : Parts) (n : ℕ) → IsStaged p 0 → (row_of p.log.tables n).used ≡ true → length p.waiting < 64
    → MayChange p n
may_change p n staged used few =
    let low = used_low p n used in
    let less = length-without n p.waiting in
    record {
      files = staged.whole;
      parents = staged.parents;
      inside = lies_in p n 0 low staged.whole.parts.laid_out staged.log;
      in_range = low;
      in_use = used;
      records = omega arith;
    }

-- a length may be set, where it may be asked for
pub length_sized : (p : Parts) (n len : ℕ) → IsSomeAnd (map.get (content_of p) n) (λ f. IsLength f.kind len)
    → (f : Fields) → record_of p n ≡ Some f
    → IsSizeOf f.attributes.kind len
length_sized p n len can f is = size_of f.attributes.kind len
    (some_at _ (λ f. IsLength f.kind len) _ (content_file p n f is) can)

-- attributes are of the file's kind, where they may be asked for
pub kind_same : (p : Parts) (n : ℕ) (k : Kind) → IsSomeAnd (map.get (content_of p) n) (λ f. f.kind ≡ k) → (f : Fields)
    → record_of p n ≡ Some f → k ≡ f.attributes.kind
kind_same p n k can f is = sym (some_at _ (λ f. f.kind ≡ k) _ (content_file p n f is) can)

-- ---- how far changes reach
pub put_limit : (o : Option File) (start : ℕ) (bytes : List ℕ)
    → IsSomeAnd o (λ f. IsLength f.kind (length (splice f.bytes start bytes))) → 0 < length bytes
    → start + length bytes ≤ FILE_BYTES
put_limit None start bytes h some = absurd h
put_limit (Some f) start bytes h some = let long = splice_length f.bytes start bytes some in let most =
    length_limit f.kind _ h in omega arith
