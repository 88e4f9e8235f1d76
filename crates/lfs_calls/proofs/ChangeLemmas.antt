-- A Write or SetLength whose bytes and mode were changed leaves a store that shows the world after it: `bytes_shows`
-- and `changes_bytes`, for CutLemmas and WriteLemmas, so for `put` and `cut`. The store is asked for the bytes first
-- and then for the mode without set-id bits, and the second finds the file with its new bytes (`changed_there`); users
-- see a file's bytes as they are stored, if it's no directory. The tests give that it isn't (`change_regular`) and that
-- the new length fits; a change of a file's bytes that sets a further attribute would be another field in ChangesBytes.
use Rattle.std.proofs.Common.{◌≡◌, ℕ, ◌≤◌, Bool, true, false, List, [], ◌∷◌, ◌++◌, length, None, Some, refl, sym, ap}
use Rattle.std.proofs.Common.{subst, ◌∙◌}
use Rattle.std.specs.Prelude.{IsSomeAnd}
use Rattle.std.specs.FinMap as map
use Rattle.lfs_types.specs.Caller.{Caller}
use Rattle.lfs_types.specs.Changes.{IsLength, changed, changed_at}
use Rattle.lfs_types.specs.Kinds.{is_directory_kind}
use Rattle.lfs_types.specs.Stored.{shown_attrs}
use Rattle.lfs_types.specs.Tree.{File, World, Content, root, attrs_of, file_of}
use Rattle.lfs_types.specs.declared.attrs.Attrs.{Attrs}
use Rattle.lfs_types.specs.declared.attrs.Kind.TheVariants.{File as Regular, Directory}
use Rattle.lfs_types.specs.declared.rule.Denial.{Denial}
use Rattle.lfs_types.specs.declared.store.Change.TheVariants.{SetAttrs}
use Rattle.lfs_model.specs.World.{IsTree}
use Rattle.lfs_model.specs.Rules.{first_failing, reached}
use Rattle.lfs_model.specs.Effects.{mode_after, with_change}
use Rattle.lfs_calls.specs.Content.{visible, Shows}
use Rattle.lfs_calls.specs.Writes.{ChangesBytes}
use Rattle.lfs_model.specs.Rules.{Check, change_tests}
use Rattle.lfs_model.proofs.Deciding.{met_first, passes-append}
use Rattle.std.proofs.lemmas.Bool.{not-true}
use Rattle.lfs_calls.proofs.ChangedStore.{change_tree, change_shows}
use Rattle.lfs_types.proofs.Maps.{get-insert_same, get-insert_other}
use Rattle.lfs_types.proofs.Somewhere.{is_some_and}
use Rattle.lfs_calls.proofs.StepLemmas.{ShownFile, shown_file, stored_regular}
use Rattle.lfs_types.specs.declared.limits.TheConstants.{FILE_BYTES}
use Rattle.lfs_calls.proofs.Visible.{Stored, shown_of, visible-regular}

-- users see the bytes of a file as they are stored
module _ (c : Content) (w : World) (shows : Shows c w) (path : List (List ℕ)) (n : ℕ) (a : Attrs)
    (leads : reached w.rows root path ≡ n) (shown : Some a ≡ shown_attrs c n) (regular : is_directory_kind a.kind
    ≡ false) where
  abbrev f : ShownFile c n a
  f = shown_file c n a shown

  abbrev r : Stored w n f.file
  r = shown_of c w shows n f.file f.stored

  kind_is : f.file.kind ≡ Regular
  kind_is = stored_regular c n a shown regular

  seen : visible f.file ≡ f.file
  seen = visible-regular f.file kind_is

  -- ---- the world after the bytes of a file were changed

  module _ (after : Content) (tree : IsTree w.rows) (caller : Caller) (by : List ℕ → List ℕ)
      (changes : ChangesBytes c after n caller by) (change : File → File)
      (changed : change f.file ≡ record f.file { mode = mode_after caller f.file.mode; bytes = by f.file.bytes })
      (fits : length (by f.file.bytes) ≤ FILE_BYTES) where
    abbrev new_file : File
    new_file = record f.file { mode = mode_after caller f.file.mode; bytes = by f.file.bytes }

    seen_after : visible new_file ≡ change (visible f.file)
    seen_after = visible-regular new_file kind_is ∙ sym changed ∙ ap change (sym seen)

    no_directory : f.file.kind ≡ Directory → by f.file.bytes ≡ f.file.bytes
    no_directory h = let k = kind_is in absurd (cc)

    -- the store with the changed bytes shows it
    pub bytes_shows : Shows after (with_change w path change)
    bytes_shows = change_shows c w shows tree path n leads f.file new_file f.stored refl change seen_after after
        (subst (λ k. IsLength k (length (by f.file.bytes))) (sym kind_is) fits)
        no_directory (changes.changed f.file f.stored) changes.others

    -- it is a tree
    pub bytes_tree : IsTree (with_change w path change).rows
    bytes_tree = change_tree c w shows tree path n leads f.file new_file f.stored refl change seen_after

-- ---- what a store is asked

module _ (c : Content) (n : ℕ) (a : Attrs) (shown : Some a ≡ shown_attrs c n) (caller : Caller) (by : List ℕ
    → List ℕ) where
  -- the stored file
  abbrev pub old_file : File
  old_file = (shown_file c n a shown).file

  -- the file with other bytes
  abbrev pub changed_file : File
  changed_file = record old_file { bytes = by old_file.bytes }

  -- the old file is stored
  pub stored : map.get c n ≡ Some old_file
  stored = (shown_file c n a shown).stored

  same : a ≡ attrs_of old_file
  same = (shown_file c n a shown).same

  -- the content after the bytes alone were changed
  abbrev pub after_bytes : Content
  after_bytes = changed_at (map.get c n) n (λ f. record f { bytes = by f.bytes }) c

  after_is : after_bytes ≡ map.insert c n changed_file
  after_is = ap (λ o. changed_at o n (λ f. record f { bytes = by f.bytes }) c) stored

  -- the changed file is stored after it
  pub changed_there : map.get after_bytes n ≡ Some changed_file
  changed_there = ap (λ x. map.get x n) after_is ∙ get-insert_same c n changed_file

  -- a file that is there is the old one
  the_old : (f : File) → map.get c n ≡ Some f → old_file ≡ f
  the_old f e = let s = stored in cc

  -- the attributes with another mode
  abbrev moded : ℕ → Attrs
  moded mode = record a { mode = mode }

  abbrev moded_file : ℕ → File
  moded_file mode = file_of (moded mode) changed_file.bytes

  after_moded : (mode : ℕ) → changed (SetAttrs n (moded mode)) after_bytes ≡ map.insert after_bytes n (moded_file mode)
  after_moded mode = ap (λ o. changed_at o n (λ f. file_of (moded mode) f.bytes) after_bytes) changed_there

  -- a caller's change leaves the mode that the caller's changes leave
  pub changes_bytes : (mode : ℕ) → mode ≡ mode_after caller a.mode → (new : Content) → new
      ≡ changed (SetAttrs n (moded mode)) after_bytes → ChangesBytes c new n caller by
  changes_bytes mode m new is = record {
    changed = λ f e. subst (λ (x : File). map.get new n
        ≡ Some (record x { mode = mode_after caller x.mode; bytes = by x.bytes })) (the_old f e)
        (ap (λ x. map.get x n) (is ∙ after_moded mode) ∙ get-insert_same after_bytes n (moded_file mode)
        ∙ ap (λ (x : Attrs). Some (file_of (record x { mode = mode }) changed_file.bytes)) same
        ∙ ap (λ k. Some (record changed_file { mode = k })) (m ∙ ap (λ (x : Attrs). mode_after caller x.mode) same));
    others = λ q apart. ap (λ x. map.get x q) (is ∙ after_moded mode)
        ∙ get-insert_other after_bytes n (moded_file mode) q apart
        ∙ ap (λ x. map.get x q) after_is ∙ get-insert_other c n changed_file q apart;
  }

  -- the file keeps its kind
  pub can_set_mode : (mode : ℕ) → IsSomeAnd (map.get after_bytes n) (λ f. f.kind ≡ (moded mode).kind)
  can_set_mode mode = is_some_and _ changed_there (ap (λ (x : Attrs). x.kind) (sym same))

  -- a regular file may get as many bytes as fit
  pub may_have : is_directory_kind a.kind ≡ false → (len : ℕ) → len ≤ FILE_BYTES → IsLength old_file.kind len
  may_have regular len fits = subst (λ k. IsLength k len) (sym (stored_regular c n a shown regular)) fits

  -- the stored file has as many bytes as its attributes say
  pub old_size : length old_file.bytes ≡ a.size
  old_size = ap (λ (x : Attrs). x.size) (sym same)

-- ---- what the tests of a change say, where none fails

-- the file is no directory
pub change_regular : (caller : Caller) (appends : Bool) (a : Attrs) (k : ℕ) (more : List Check)
    → first_failing (change_tests caller appends a k ++ more) ≡ None → is_directory_kind a.kind ≡ false
change_regular caller appends a k more h = not-true (is_directory_kind a.kind) (met_first _ _ _ h).0

-- nor does a test behind them fail
pub change_more : (caller : Caller) (appends : Bool) (a : Attrs) (k : ℕ) (fits : Bool) (denial : Denial)
    → first_failing (change_tests caller appends a k ++ record { met = fits; denial = denial } ∷ []) ≡ None → fits
    ≡ true
change_more caller appends a k fits denial h =
    (met_first fits denial None (passes-append (change_tests caller appends a k) (record { met = fits; denial = denial }
    ∷ []) h).1).0

-- a file's size is one that it may have
pub size_fits : (c : Content) (w : World) → Shows c w → (n : ℕ) (a : Attrs) → Some a ≡ shown_attrs c n
    → is_directory_kind a.kind ≡ false → a.size ≤ FILE_BYTES
size_fits c w shows n a shown regular =
    let f = shown_file c n a shown in
    subst (λ (x : Attrs). x.size ≤ FILE_BYTES) (sym f.same)
    (subst (λ k. IsLength k (length f.file.bytes)) (stored_regular c n a shown regular)
    (shows.sizes n f.file f.stored))
