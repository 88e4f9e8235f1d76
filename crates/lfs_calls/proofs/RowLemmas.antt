-- A removal is decided by the shared tests and its own, and what may be removed has nothing in it: `to_removal` and
-- `removed_childless` for `judge_removal`, `row_taken` for `remove`. The store tells whether a directory is empty by
-- its entries, the rules by the rows in it, and these agree as the entries list the rows (`directory_empty`). Nothing
-- hangs in the row, so the rows without it are a tree, and the store without its file and entry shows them; a directory
-- that kept entries of removed rows, or `.` and `..`, would break `directory_empty`.
use Rattle.std.proofs.Common.{◌≡◌, ℕ, ◌<◌, ◌==◌, Bool, true, false, List, [], ◌∷◌, ◌++◌, length, None, Some, refl, sym}
use Rattle.std.proofs.Common.{ap, subst, ◌∙◌, arith}
use Rattle.std.specs.Prelude.{Contains, IsTrue, ◌↔◌}
use Rattle.std.proofs.lemmas.Bool.{ne_eqb, not-true}
use Rattle.std.specs.FinMap as map
use Rattle.lfs_types.specs.Caller.{Caller}
use Rattle.lfs_types.specs.Kinds.{is_directory_kind}
use Rattle.lfs_types.specs.Stored.{bytes_of, shown_attrs}
use Rattle.lfs_types.specs.Tree.{World, Content, root}
use Rattle.lfs_types.specs.declared.attrs.Attrs.{Attrs}
use Rattle.lfs_types.specs.declared.attrs.Kind.{Kind}
use Rattle.lfs_types.specs.declared.attrs.Kind.TheVariants.{File as Regular, Directory}
use Rattle.lfs_types.specs.declared.rule.Denial.{Denial}
use Rattle.lfs_dirs.proofs.Changes.{number_in-nil}
use Rattle.lfs_dirs.specs.Directory.{Entry, number_in}
use Rattle.lfs_calls.specs.declared.directory.DirBlock.{DirBlock}
use Rattle.lfs_calls.specs.declared.removing.Removal.{Removal}
use Rattle.lfs_calls.specs.declared.walking.Reached.{Reached}
use Rattle.lfs_model.specs.World.{Rows, child, children, IsTree}
use Rattle.lfs_model.specs.Rules.{Check, attrs_at, first_failing, decide, last, reached, removing, rmdir_tests}
use Rattle.lfs_model.specs.Rules.{rule_table, unlink_tests}
use Rattle.lfs_model.specs.Effects.{without_row}
use Rattle.lfs_calls.specs.Content.{Shows, all_entries, visible}
use Rattle.lfs_types.specs.StoreStates.{StoreState}
use Rattle.lfs_calls.specs.Volumes.{InWorld, IsVolume}
use Rattle.lfs_calls.proofs.StateLemmas.{same_content}
use Rattle.lfs_calls.specs.Removes.{removal_request, removed_tests, TakesRow, IsRemoval, IsRemovable, HangsAs, IsTaking}
use Rattle.lfs_calls.specs.Removes.{TakesFile}
use Rattle.lfs_model.proofs.Children.{child-is, child-none, child-answer}
use Rattle.lfs_calls.proofs.Crowded.{listed-le-children}
use Rattle.lfs_model.proofs.Deciding.{failing-front, failing-behind, met_first}
use Rattle.lfs_calls.proofs.Directories.{bytes_listing}
use Rattle.lfs_model.proofs.EffectTree.{childless}
use Rattle.lfs_model.proofs.Members.{children-hang}
use Rattle.lfs_model.proofs.Shrunk.{IsTree-shrunk}
use Rattle.lfs_calls.proofs.StepLemmas.{shown_file, attrs_reads, directory_reads, child_listed}
use Rattle.lfs_calls.proofs.TakeLemmas.{shows_without}
use Rattle.lfs_model.proofs.Trees.{no_parent}

-- ---- a row in which nothing hangs

empty_list : (xs : List ℕ) → ((x : ℕ) → Contains xs x → ⊥) → xs ≡ []
empty_list [] h = refl
empty_list (x ∷ xs) h = absurd (h x (0, omega arith, refl))

-- where no name leads on from a row, no row hangs in it
no_children : (rows : Rows) (n : ℕ) → ((name : List ℕ) → child rows n name ≡ None) → children rows n ≡ []
no_children rows n childless = empty_list (children rows n)
    (λ m h. child-none rows n _ (childless _) m (children-hang rows n m h))

some_entry : (es : List Entry) → (es ≡ [] → ⊥) → 0 < length es
some_entry [] h = absurd (h refl)
some_entry (e ∷ es) h = omega arith

-- what a store shows of a row says whether a row hangs in it
module _ (c : Content) (w : World) (shows : Shows c w) (n : ℕ) (a : Attrs) (shown : Some a ≡ shown_attrs c n) where
  -- none hangs in a file
  pub file_childless : IsTree w.rows → is_directory_kind a.kind ≡ false → (name : List ℕ) → child w.rows n name ≡ None
  file_childless tree regular name = child-answer w.rows tree.unique n name None
      (no_parent w.rows tree n (directory_reads c w shows n a shown ∙ regular) name)

  module _ (directory : is_directory_kind a.kind ≡ true) where
    listed_childless : all_entries (bytes_of c n) ≡ [] → (name : List ℕ) → child w.rows n name ≡ None
    listed_childless none name = sym (child_listed c w shows n a shown directory name) ∙ ap (number_in name) none
        ∙ number_in-nil name

    -- in a directory none hangs exactly where it lists none
    pub directory_empty : (b : Bool) → (IsTrue b ↔ (all_entries (bytes_of c n) ≡ [])) → b
        ≡ (length (children w.rows n) == 0)
    directory_empty true same = sym (ap (λ (ms : List ℕ). length ms == 0)
        (no_children w.rows n (listed_childless (same.0 refl))))
    directory_empty false same =
        let fewer = listed-le-children w.rows n (bytes_of c n) (bytes_listing shows n a shown directory) in
        let many = some_entry (all_entries (bytes_of c n)) (λ none. let wrong = same.1 none in absurd (cc)) in
        sym (ne_eqb (length (children w.rows n)) 0 (λ z. absurd (omega (arith, fewer, many))))

-- ---- the rules behind those that files and directories share

-- the tests of the call's own
abbrev own_tests : Kind → Rows → List (List ℕ) → List Check
own_tests kind rows names =
    let row = reached rows root names in
    removed_tests kind (length (children rows row) == 0) (attrs_at rows row) (length names)

-- the table of a removal is that of both kinds, and the call's own
table_is : (w : World) (caller : Caller) (names : List (List ℕ)) (kind : Kind)
    → rule_table w caller (removal_request kind names) ≡ removing w.rows caller names ++ own_tests kind w.rows names
table_is w caller names Regular = refl
table_is w caller names Directory = refl

-- they ask nothing of a size
sizeless : (kind : Kind) (empty : Bool) (file : Attrs) (size k : ℕ)
    → first_failing (removed_tests kind empty (record file { size = size }) k)
    ≡ first_failing (removed_tests kind empty file k)
sizeless Regular empty file size k = refl
sizeless Directory empty file size k = refl

-- where the shared tests deny, the call is denied
pub removal_denied : (w : World) (caller : Caller) (names : List (List ℕ)) (kind : Kind) (denial : Denial)
    → first_failing (removing w.rows caller names) ≡ Some denial
    → decide w caller (removal_request kind names) ≡ Some denial
removal_denied w caller names kind denial h = ap first_failing (table_is w caller names kind)
    ∙ failing-front (removing w.rows caller names) (own_tests kind w.rows names) denial h

module _ (c : Content) (w : World) (shows : Shows c w) (caller : Caller) (names : List (List ℕ)) (removal : Removal)
    (allowed : first_failing (removing w.rows caller names) ≡ None)
    (is : IsRemoval c w.rows names removal) (at : ℕ) (same : at ≡ length names) where
  abbrev file : Reached
  file = removal.file

  seen : attrs_at w.rows file.number ≡ record file.attrs {
    size =
        length (visible (shown_file c file.number file.attrs is.shown_file).file).bytes;
  }
  seen = attrs_reads c w shows file.number file.attrs is.shown_file

  -- where the shared tests are met, the call's own decide
  pub to_removal : (kind : Kind) → decide w caller (removal_request kind names)
      ≡ first_failing (removed_tests kind (length (children w.rows file.number) == 0) file.attrs at)
  to_removal kind =
      ap first_failing (table_is w caller names kind)
      ∙ failing-behind (removing w.rows caller names) (own_tests kind w.rows names) allowed
      ∙ ap (λ m. first_failing (removed_tests kind (length (children w.rows m) == 0) (attrs_at w.rows m)
      (length names))) is.row
      ∙ ap (λ x. first_failing (removed_tests kind (length (children w.rows file.number) == 0) x (length names))) seen
      ∙ sizeless kind (length (children w.rows file.number) == 0) file.attrs
      (length (visible (shown_file c file.number file.attrs is.shown_file).file).bytes) (length names)
      ∙ ap (λ k. first_failing (removed_tests kind (length (children w.rows file.number) == 0) file.attrs k)) (sym same)

-- what may be unlinked is a file
unlinks_file : (file : Attrs) (k : ℕ) → first_failing (unlink_tests file k) ≡ None → is_directory_kind file.kind ≡ false
unlinks_file attrs k h = not-true _ (met_first _ _ _ h).0

-- what may be removed as a directory is empty
rmdir_childless : (rows : Rows) → IsTree rows → (n : ℕ) (file : Attrs) (k : ℕ)
    → first_failing (rmdir_tests (length (children rows n) == 0) file k) ≡ None
    → (name : List ℕ) → child rows n name ≡ None
rmdir_childless rows tree n attrs k h name =
    let one = met_first _ _ _ h in
    let two = met_first _ _ _ one.1 in
    child-answer rows tree.unique n name None (childless rows n two.0 name)

-- nothing hangs in what may be removed
pub removed_childless : (c : Content) (w : World) → Shows c w → IsTree w.rows → (n : ℕ) (a : Attrs) → Some a
    ≡ shown_attrs c n → (kind : Kind) (k : ℕ)
    → first_failing (removed_tests kind (length (children w.rows n) == 0) a k) ≡ None → (name : List ℕ)
    → child w.rows n name ≡ None
removed_childless c w shows tree n a shown Regular k h = file_childless c w shows n a shown tree (unlinks_file a k h)
removed_childless c w shows tree n a shown Directory k h = rmdir_childless w.rows tree n a k h

-- ---- the world after it

module _ (c : Content) (w : World) (shows : Shows c w) (tree : IsTree w.rows) (path : List (List ℕ)) (removal : Removal)
    (is : IsRemovable c w.rows path removal) where
  -- the row hangs under the last name
  pub row_hangs : HangsAs c w.rows removal (last path)
  row_hangs = record {
    hangs = is.is.hangs;
    shown_dir = is.is.shown_dir;
    shown_file = is.is.shown_file;
    directory = is.is.directory;
  }

  -- the rows without it are a tree
  pub row_tree : IsTree (without_row (reached w.rows root path) w).rows
  row_tree = subst (λ m. IsTree (map.remove w.rows m)) (sym is.is.row)
      (IsTree-shrunk w.rows tree removal.file.number
      (child-is w.rows removal.dir.number (last path) removal.file.number is.is.hangs).below
      (λ name. child-none w.rows removal.file.number name (is.childless name)))

  -- the store without it shows the world without the row
  pub row_shows : (after : Content) (room : DirBlock) (k : ℕ) → IsTaking (bytes_of c removal.dir.number) (last path) room k
      → TakesFile c after removal.file.number removal.dir.number room.off room.block
      → Shows after (without_row (reached w.rows root path) w)
  row_shows after room k taking takes = subst (λ m. Shows after (without_row m w)) (sym is.is.row)
      (shows_without c w shows tree removal (last path) row_hangs room k taking after takes)

-- the store after a call took a row away
pub row_taken : {s mid : StoreState} (new : StoreState) (names : List (List ℕ)) (removal : Removal) → mid ≡ s
    → InWorld s (λ w. IsRemovable s.content w.rows names removal)
    → TakesRow mid.content new.content removal (last names)
    → InWorld s (λ w. IsVolume new (without_row (reached w.rows root names) w))
row_taken {s = s} new names removal same is took w v =
    let here = subst (λ (c : Content). TakesRow c new.content removal (last names)) (same_content same) took in
    record {
      shows = row_shows s.content w v.shows v.tree names removal (is w v) new.content here.0 here.1 here.2.0 here.2.1;
      tree = row_tree s.content w v.shows v.tree names removal (is w v);
    }
