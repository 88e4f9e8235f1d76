-- What the calls that change nothing may be answered: `stat_answer` and `read_answer`, for `stat` and `read`;
-- PathLemmas takes `passed` and `attrs_is`. The walk leads to the number where the path leads in the tree, and the
-- stored file there is the row's, of which users see all but a directory's bytes. So a Stat's size is 0 for a directory
-- and else the number of bytes (`size_shown`), and a file's stored bytes are those that a Read shows.
use Rattle.std.proofs.Common.{◌≡◌, ℕ, true, false, List, ◌++◌, length, min, Some, Ok, refl, sym, ap, ◌∙◌}
use Rattle.std.specs.FinMap as map
use Rattle.lfs_types.specs.Caller.{Caller}
use Rattle.lfs_types.specs.Kinds.{is_directory_kind}
use Rattle.lfs_types.specs.Stored.{shown_attrs, bytes_of, bytes_of_file, slice_of}
use Rattle.lfs_types.specs.Tree.{File, World, Content, root, attrs_of}
use Rattle.lfs_types.specs.declared.answer.Served.TheVariants as served
use Rattle.lfs_types.specs.declared.attrs.Attrs.{Attrs}
use Rattle.lfs_types.specs.declared.attrs.Kind.{Kind}
use Rattle.lfs_types.specs.declared.attrs.Kind.TheVariants.{File as Regular, Directory}
use Rattle.lfs_types.specs.declared.request.Request.TheVariants.{Stat, Read}
use Rattle.lfs_model.specs.World.{file_at}
use Rattle.lfs_model.specs.Rules.{Check, first_failing, attrs_at, reached, walk}
use Rattle.lfs_model.specs.Effects.{answer_of, read_max}
use Rattle.lfs_calls.specs.Content.{visible, visible_bytes, Shows}
use Rattle.lfs_model.specs.Walks.{walked}
use Rattle.lfs_model.proofs.Deciding.{walk_passed, walked-reached}
use Rattle.lfs_calls.proofs.StepLemmas.{shown_file, stored_regular, attrs_reads}
use Rattle.lfs_calls.proofs.Visible.{Stored, shown_of, visible-regular}

-- the size that is shown of a file: 0 of a directory
size_shown : (k : Kind) (bytes : List ℕ) (size : ℕ) → (is_directory_kind k ≡ true → size ≡ 0)
    → (is_directory_kind k ≡ false → size ≡ length bytes) → size ≡ length (visible_bytes k bytes)
size_shown Regular bytes size dir file = file refl
size_shown Directory bytes size dir file = dir refl

-- a row that a path leads to, with what the store has of it
module _ (c : Content) (w : World) (shows : Shows c w) (caller : Caller) (path : List (List ℕ)) (n : ℕ) (a : Attrs)
    (leads : walked w.rows caller 0 0 root path ≡ Ok n) (shown : Some a ≡ shown_attrs c n) where
  -- the path leads to it
  pub object : reached w.rows root path ≡ n
  object = walked-reached w.rows caller 0 0 root path n leads

  -- the walk's tests are met, so those behind them decide
  pub passed : (rest : List Check) → first_failing (walk w.rows caller 0 0 root path ++ rest) ≡ first_failing rest
  passed rest = walk_passed w.rows caller 0 path rest n leads

  -- it is a row of the tree
  pub row_is : Stored w n (shown_file c n a shown).file
  row_is = shown_of c w shows n (shown_file c n a shown).file (shown_file c n a shown).stored

  -- the file that users see of the row
  pub file_is : file_at (map.get w.rows (reached w.rows root path)) ≡ visible (shown_file c n a shown).file
  file_is = ap (λ m. file_at (map.get w.rows m)) object ∙ ap file_at row_is.there ∙ sym row_is.same

  -- the attributes that users see of it, all but the size
  pub attrs_is : attrs_at w.rows (reached w.rows root path)
      ≡ record a { size = length (visible (shown_file c n a shown).file).bytes }
  attrs_is = ap (attrs_at w.rows) object ∙ attrs_reads c w shows n a shown

  -- a Stat shows the attributes with the size that users see
  pub stat_answer : (size : ℕ) → (is_directory_kind a.kind ≡ true → size ≡ 0)
      → (is_directory_kind a.kind ≡ false → size ≡ a.size)
      → served.Stat n (record a { size = size }) ≡ answer_of w (Stat path)
  stat_answer size dir file =
      let f = shown_file c n a shown in
      let kinds : a.kind ≡ f.file.kind = ap (λ (x : Attrs). x.kind) f.same in
      let sizes : size ≡ length (visible_bytes f.file.kind f.file.bytes) =
      size_shown f.file.kind f.file.bytes size (λ h. dir (ap is_directory_kind kinds ∙ h))
      (λ h. file (ap is_directory_kind kinds ∙ h) ∙ ap (λ (x : Attrs). x.size) f.same) in
      ap (λ s. served.Stat n (record a { size = s })) sizes
      ∙ ap (λ (x : Attrs). served.Stat n (record x { size = length (visible_bytes f.file.kind f.file.bytes) })) f.same
      ∙ ap (λ (x : File). served.Stat n (attrs_of x)) (sym file_is)
      ∙ ap (λ m. served.Stat m (attrs_of (file_at (map.get w.rows (reached w.rows root path))))) (sym object)

  module _ (off len : ℕ) where
    -- the bytes that are stored of a file are those that users see
    pub read_answer : is_directory_kind a.kind ≡ false → (bytes : List ℕ) → bytes
        ≡ slice_of (bytes_of c n) off (min len read_max) → served.Bytes bytes ≡ answer_of w (Read path off len)
    read_answer h bytes e =
        let f = shown_file c n a shown in
        let same : f.file.bytes ≡ (file_at (map.get w.rows (reached w.rows root path))).bytes =
        ap (λ (x : File). x.bytes) (sym (file_is ∙ visible-regular f.file (stored_regular c n a shown h))) in
        ap served.Bytes (e ∙ ap (λ bs. slice_of bs off (min len read_max)) (ap bytes_of_file f.stored ∙ same))
