-- What a cache of names says stays true by a change of content that keeps the directories' bytes: `attrs_keep_names`
-- for `set_attrs`, `bytes_keep_names` for `cut` and `put`; `found_now`, `found_still` and `found_gone` do it for calls
-- that change names. What is found under a name is what the directory's bytes list, and that is the row which hangs
-- there (`number-child`), so a name of which the same row hangs after a call is found as before. The hard case is a
-- name that isn't there: it's said of any number, also of one that has no directory, so a number that is free or given
-- anew must have nothing in it.
use Rattle.std.proofs.Common.{◌≡◌, ℕ, false, List, Option, None, Some, refl, sym, ap, subst, ◌∙◌, ⊎_elim}
use Rattle.std.proofs.lemmas.Bool.{cases_eq}
use Rattle.std.specs.Prelude.{IsSomeAnd, option_map}
use Rattle.std.specs.FinMap as map
use Rattle.lfs_types.specs.Caller.{Caller}
use Rattle.lfs_types.specs.Kinds.{is_directory_kind}
use Rattle.lfs_types.specs.Stored.{bytes_of, bytes_of_file, shown_attrs}
use Rattle.lfs_types.specs.Tree.{File, Row, World, Content}
use Rattle.lfs_types.specs.declared.attrs.Attrs.{Attrs}
use Rattle.lfs_types.specs.declared.attrs.Kind.TheVariants.{File as Regular, Directory}
use Rattle.lfs_dirs.specs.Directory.{number_in}
use Rattle.lfs_model.specs.World.{child}
use Rattle.lfs_calls.specs.Attributes.{SetsAttrs}
use Rattle.lfs_calls.specs.Content.{IsDirectoryAt, Shows, all_entries, visible}
use Rattle.lfs_calls.specs.Names.{IsFound, KeepsNames, Lists}
use Rattle.lfs_calls.specs.Removes.{IsChildless}
use Rattle.lfs_calls.specs.Writes.{ChangesBytes}
use Rattle.lfs_types.proofs.Somewhere.{some_and, is_some_and}
use Rattle.lfs_calls.proofs.StepLemmas.{shown_file, stored_regular}

-- a directory lists what is found
pub is_found : (c : Content) (d : ℕ) (name : List ℕ) (found : Option ℕ) → IsDirectoryAt c d → IsFound c d name found
    → number_in name (all_entries (bytes_of c d)) ≡ found
is_found c d name None is none = none is
is_found c d name (Some number) is lists = lists.listed

-- ---- changes that leave each directory's bytes

-- each directory of one content is one of another, with the same bytes
abbrev AreIn : Content → Content → Type 0
AreIn old new = (d : ℕ) (f : File) → map.get old d ≡ Some f → f.kind ≡ Directory
    → IsSomeAnd (map.get new d) (λ g. (g.kind ≡ Directory) × (g.bytes ≡ f.bytes))

-- it lists there what it lists here
same_number : (old new : Content) → AreIn old new → (d : ℕ) → IsDirectoryAt old d → IsDirectoryAt new d
    × (bytes_of new d ≡ bytes_of old d)
same_number old new kept d directory =
    let f = some_and (map.get old d) (λ f. f.kind ≡ Directory) directory in
    let g = some_and (map.get new d) _ (kept d f.value f.is f.holds) in (
      is_some_and (λ (x : File). x.kind ≡ Directory) g.is g.holds.0,
      ap bytes_of_file g.is ∙ g.holds.1
          ∙ ap bytes_of_file (sym f.is),
    )

-- where directories are the same ones, with the same bytes, what was found is found
keeps_files : (old new : Content) → AreIn old new → AreIn new old → KeepsNames old new
keeps_files old new there back d name None none = λ is.
    let was = same_number new old back d is in
    ap (λ bs. number_in name (all_entries bs)) (sym was.1) ∙ none was.0
keeps_files old new there back d name (Some number) lists =
    let is = same_number old new there d lists.directory in
    record { directory = is.0; listed = ap (λ bs. number_in name (all_entries bs)) is.1 ∙ lists.listed }

-- so where attributes are set
pub attrs_keep_names : (old new : Content) (n : ℕ) (attrs : Attrs)
    → IsSomeAnd (map.get old n) (λ f. f.kind ≡ attrs.kind) → SetsAttrs old new n attrs → KeepsNames old new
attrs_keep_names old new n attrs kind sets =
    let was = some_and (map.get old n) _ kind in
    let is = sets.set was.value was.is in
    keeps_files old new
    (λ d f e directory. ⊎_elim
    (λ at.
    let same : was.value ≡ f = (let stored = was.is in cc (sym (ap (map.get old) at) ∙ e)) in
    is_some_and _ (ap (map.get new) at ∙ is) (
      sym was.holds ∙ ap (λ (x : File). x.kind) same ∙ directory,
      ap (λ (x : File). x.bytes) same,
    ))
    (λ other. is_some_and _ (sets.others d other ∙ e) (directory, refl))
    (cases_eq d n))
    (λ d f e directory. ⊎_elim
    (λ at.
    let there : map.get new n ≡ Some f = sym (ap (map.get new) at) ∙ e in
    let file_is = sym is ∙ there in
    is_some_and _ (ap (map.get old) at ∙ was.is) (
      was.holds ∙ kind_of _ f file_is ∙ directory,
      bytes_of_both _ f file_is,
    ))
    (λ other. is_some_and _ (sym (sets.others d other) ∙ e) (directory, refl))
    (cases_eq d n))
  where
    kind_of : (f g : File) → Some f ≡ Some g → f.kind ≡ g.kind
    kind_of f g e = let same : f ≡ g = cc in ap (λ (x : File). x.kind) same

    bytes_of_both : (f g : File) → Some f ≡ Some g → f.bytes ≡ g.bytes
    bytes_of_both f g e = let same : f ≡ g = cc in ap (λ (x : File). x.bytes) same

-- and where the bytes of a file are changed that is no directory
pub bytes_keep_names : (old new : Content) (n : ℕ) (a : Attrs) → Some a ≡ shown_attrs old n → is_directory_kind a.kind
    ≡ false → (caller : Caller) (by : List ℕ → List ℕ)
    → ChangesBytes old new n caller by → KeepsNames old new
bytes_keep_names old new n a shown regular caller by changes =
    let was = shown_file old n a shown in
    let kind = stored_regular old n a shown regular in
    let is = changes.changed was.file was.stored in
    keeps_files old new
    (λ d f e directory. ⊎_elim
    (λ at.
    let there : map.get old n ≡ Some f = ap (map.get old) (sym at) ∙ e in
    let same : was.file ≡ f = (let stored = was.stored in cc) in
    let both = ap (λ (x : File). x.kind) same ∙ directory in
    absurd (cc))
    (λ other. is_some_and _ (changes.others d other ∙ e) (directory, refl))
    (cases_eq d n))
    (λ d f e directory. ⊎_elim
    (λ at. absurd (no_directory _ f (sym is ∙ sym (ap (map.get new) at) ∙ e) kind directory))
    (λ other. is_some_and _ (sym (changes.others d other) ∙ e) (directory, refl))
    (cases_eq d n))
  where
    no_directory : (f g : File) → Some f ≡ Some g → f.kind ≡ Regular → g.kind ≡ Directory → ⊥
    no_directory f g e regular directory = let same : f ≡ g = cc in let both = ap (λ (x : File). x.kind) same
        ∙ directory in absurd (cc)

-- ---- what is listed hangs

-- what a directory lists under a name is the row that hangs there
pub number-child : (c : Content) (w : World) → Shows c w → (d : ℕ) → IsDirectoryAt c d → (name : List ℕ)
    → number_in name (all_entries (bytes_of c d)) ≡ child w.rows d name
number-child c w shows d directory name =
    let f = some_and (map.get c d) (λ f. f.kind ≡ Directory) directory in
    ap (λ o. number_in name (all_entries (bytes_of_file o))) f.is ∙ (shows.listings d f.value f.is f.holds).names name

-- a row hangs where it is listed
pub lists_child : (c : Content) (w : World) → Shows c w → (d : ℕ) (name : List ℕ) (number : ℕ) → Lists c d name number
    → child w.rows d name ≡ Some number
lists_child c w shows d name number lists = sym (number-child c w shows d lists.directory name) ∙ lists.listed

-- a directory that shows the same file is one still
still_directory : (a b : Option File) → option_map visible b ≡ option_map visible a
    → IsSomeAnd a (λ f. f.kind ≡ Directory) → IsSomeAnd b (λ f. f.kind ≡ Directory)
still_directory None b same h = absurd h
still_directory (Some f) None same h = absurd (cc)
still_directory (Some f) (Some g) same h =
    let one : visible g ≡ visible f = cc in
    ap (λ (x : File). x.kind) one ∙ h

module _ (old new : Content) (w after : World) (shows : Shows old w) (shown : Shows new after) where
  -- what hangs in a directory then is found
  pub found_now : (d : ℕ) (name : List ℕ) (found : Option ℕ) → IsDirectoryAt new d → child after.rows d name ≡ found
      → IsFound new d name found
  found_now d name None is hangs = λ _. number-child new after shown d is name ∙ hangs
  found_now d name (Some number) is hangs =
      record { directory = is; listed = number-child new after shown d is name ∙ hangs }

  module _ (d : ℕ) (same : option_map (λ (r : Row). r.file) (map.get after.rows d)
      ≡ option_map (λ (r : Row). r.file) (map.get w.rows d)) where
    -- a directory whose row has the file that it had is one still
    pub directory_still : IsDirectoryAt old d → IsDirectoryAt new d
    directory_still = still_directory (map.get old d) (map.get new d) (shown.files d ∙ same ∙ sym (shows.files d))

    directory_before : IsDirectoryAt new d → IsDirectoryAt old d
    directory_before = still_directory (map.get new d) (map.get old d)
        (sym (shown.files d ∙ same ∙ sym (shows.files d)))

    -- and where the same hangs there, the same is found
    pub found_still : (name : List ℕ) (found : Option ℕ) → child after.rows d name ≡ child w.rows d name
        → IsFound old d name found → IsFound new d name found
    found_still name None hangs none = λ is.
        let was = directory_before is in
        number-child new after shown d is name ∙ hangs ∙ sym (number-child old w shows d was name) ∙ none was
    found_still name (Some number) hangs lists =
        found_now d name (Some number) (directory_still lists.directory) (hangs
        ∙ lists_child old w shows d name number lists)

-- of a number in which nothing hangs nothing is found once it is gone
pub found_gone : (old new : Content) (w : World) → Shows old w → (d : ℕ) → IsChildless w.rows d → map.get new d ≡ None
    → (name : List ℕ) (found : Option ℕ) → IsFound old d name found → IsFound new d name found
found_gone old new w shows d childless gone name None none =
    λ is. absurd (subst (λ o. IsSomeAnd o (λ (f : File). f.kind ≡ Directory)) gone is)
found_gone old new w shows d childless gone name (Some number) lists =
    let none = childless name in
    let some = lists_child old w shows d name number lists in
    absurd (cc)
