-- A Create or Mkdir is judged by the walk to its directory and the tests of that: `make_denied`, `to_tests` and
-- `parent_is_free`, for `judge_make`; `Way`, what the names before the last lead to, serves removals and arrivals too.
-- A path is split into its front and its last name, so the table of tests is that of the walk with those of the
-- directory behind, and where the walk ends the row is the one that the store shows. Further, the changes asked of the
-- store are allowed and give just the new file and the block (`can_make`, `makes_file`), and the number found is that
-- of `effect` (`least_unused-is`); a third change for a new file would go here.
use Rattle.std.proofs.Common.{◌≡◌, ◌≢◌, ℕ, zero, suc, ◌+◌, ◌-◌, ◌%◌, ◌<◌, ◌≤◌, ◌==◌, true, false, List, [], ◌∷◌, ◌++◌}
use Rattle.std.proofs.Common.{length, Option, None, Some, Ok, Err, refl, sym, ap, subst, ◌∙◌, ⊎_elim, arith}
use Rattle.std.specs.Prelude.{not, is_some, is_none, IsSome}
use Rattle.std.specs.Borrow.{Bor}
use Rattle.std.proofs.lemmas.Bool.{cond-true, cond-false, ne_eqb, cases_Bool, cases_eq}
use Rattle.std.specs.FinMap as map
use Rattle.lfs_types.specs.Caller.{Caller}
use Rattle.lfs_types.specs.Changes.{IsLength, CanApply, changed_at}
use Rattle.lfs_types.specs.Kinds.{is_directory_kind}
use Rattle.lfs_types.specs.Splicing.{splice}
use Rattle.lfs_types.specs.Stored.{shown_attrs, IsUsedBelow}
use Rattle.lfs_types.specs.Tree.{File, World, Content, root, file_of}
use Rattle.lfs_types.specs.declared.attrs.Attrs.{Attrs}
use Rattle.lfs_types.specs.declared.attrs.Kind.{Kind}
use Rattle.lfs_types.specs.declared.attrs.Kind.TheVariants.{Directory}
use Rattle.lfs_types.specs.declared.rule.Denial.{Denial}
use Rattle.lfs_types.specs.declared.store.Change.TheVariants.{Make, Put}
use Rattle.lfs_model.specs.World.{Rows, child}
use Rattle.lfs_model.specs.Rules.{Check, first_failing, attrs_at, reached, walk, making, making_tests, front, last}
use Rattle.lfs_model.specs.Effects.{least_unused}
use Rattle.lfs_calls.specs.Content.{Shows}
use Rattle.lfs_calls.specs.Makes.{IsParent, MakesFile}
use Rattle.lfs_model.specs.Steps.{AllUsed}
use Rattle.lfs_model.specs.Walks.{walked}
use Rattle.lfs_model.proofs.Deciding.{walk_denied, walk_passed, walked-reached}
use Rattle.lfs_types.proofs.Maps.{get-insert_same, get-insert_other}
use Rattle.lfs_types.proofs.Pieces.{splice-put_over, length-put_over}
use Rattle.lfs_types.proofs.Somewhere.{present, is_some_and, there_of}
use Rattle.lfs_calls.proofs.StepLemmas.{attrs_reads}
use Rattle.lfs_types.specs.declared.limits.TheConstants.{FILE_BYTES}
use Rattle.lfs_calls.proofs.Visible.{shown_of}

-- ---- the last name of a path

-- the names before the last
pub front-last : (xs : List (List ℕ)) (x : List ℕ) → front (xs ++ x ∷ []) ≡ xs
front-last [] x = refl
front-last (y ∷ []) x = refl
front-last (y ∷ z ∷ zs) x = ap (λ ys. y ∷ ys) (front-last (z ∷ zs) x)

-- the last name
pub last-last : (xs : List (List ℕ)) (x : List ℕ) → last (xs ++ x ∷ []) ≡ x
last-last [] x = refl
last-last (y ∷ []) x = refl
last-last (y ∷ z ∷ zs) x = last-last (z ∷ zs) x

-- the last of names that end in one
pub last_of : (names parents : List (List ℕ)) (name : List ℕ) → names ≡ parents ++ name ∷ [] → last names ≡ name
last_of names parents name e = ap last e ∙ last-last parents name

-- the tests behind the walk, by the names before the last and the last
abbrev in_parent : Rows → Caller → List (List ℕ) → List ℕ → List Check
in_parent rows caller parents name =
    let dir = reached rows root parents in
    making_tests caller (is_none (child rows dir name)) (attrs_at rows dir) (length parents)

-- a path of names before the last, and a last
making_in : (rows : Rows) (caller : Caller) (names parents : List (List ℕ)) (name : List ℕ) → names ≡ parents ++ name
    ∷ [] → (length names == 0) ≡ false
    → first_failing (making rows caller names)
    ≡ first_failing (walk rows caller 0 0 root parents ++ in_parent rows caller parents name)
making_in rows caller names parents name e some =
    cond-true _ _ _ (ap not some)
    ∙ ap (λ ys. first_failing (walk rows caller 0 0 root (front ys) ++ in_parent rows caller (front ys) (last ys))) e
    ∙ ap (λ ps. first_failing (walk rows caller 0 0 root ps ++ in_parent rows caller ps (last (parents ++ name ∷ []))))
    (front-last parents name)
    ∙ ap (λ n. first_failing (walk rows caller 0 0 root parents ++ in_parent rows caller parents n))
    (last-last parents name)

module _ (rows : Rows) (caller : Caller) (names parents : List (List ℕ)) (name : List ℕ) (e : names ≡ parents ++ name
    ∷ []) (count : length parents + 1 ≡ length names) where
  -- the tests are those of the walk to the directory, and those behind it
  pub to_walk : first_failing (making rows caller names)
      ≡ first_failing (walk rows caller 0 0 root parents ++ in_parent rows caller parents name)
  to_walk = making_in rows caller names parents name e (ne_eqb (length names) 0 (λ z. absurd (omega arith)))

  -- where the walk is denied, the call is
  pub make_denied : (denial : Denial) → walked rows caller 0 0 root parents ≡ Err denial
      → first_failing (making rows caller names) ≡ Some denial
  make_denied denial h = to_walk ∙ walk_denied rows caller 0 parents _ denial h

-- the directory to which the names before the last of a path lead
pub record Way (c : Content) (w : World) (caller : Caller) (path : ℕ) (names parents : List (List ℕ)) (name : List ℕ)
    (n : ℕ) (a : Attrs) : Type 0 where
  pub shows : Shows c w
  pub names_are : names ≡ parents ++ name ∷ []
  pub count : length parents + 1 ≡ length names
  pub leads : walked w.rows caller path 0 root parents ≡ Ok n
  pub shown : Some a ≡ shown_attrs c n

not_there : (o : Option ℕ) → is_none o ≡ true → o ≡ None
not_there None h = refl
not_there (Some n) h = absurd (cc)

module _ {c : Content} {w : World} {caller : Caller} {path : ℕ} {names parents : List (List ℕ)} {name : List ℕ} {n : ℕ}
    {a : Attrs} (way : Way c w caller path names parents name n a) where
  parent_is : reached w.rows root parents ≡ n
  parent_is = walked-reached w.rows caller path 0 root parents n way.leads

  -- the names before the last lead to the directory
  pub make_object : reached w.rows root (front names) ≡ n
  make_object = ap (λ ys. reached w.rows root (front ys)) way.names_are
      ∙ ap (reached w.rows root) (front-last parents name) ∙ parent_is

  -- the last name of the path
  pub last_is : last names ≡ name
  last_is = last_of names parents name way.names_are

module _ {c : Content} {w : World} {caller : Caller} {names parents : List (List ℕ)} {name : List ℕ} {n : ℕ} {a : Attrs}
    (way : Way c w caller 0 names parents name n a) where
  -- the tests of the directory decide
  pub to_tests : (at : ℕ) → at ≡ length parents → first_failing (making w.rows caller names)
      ≡ first_failing (making_tests caller (is_none (child w.rows n name)) a at)
  to_tests at same =
      to_walk w.rows caller names parents name way.names_are way.count
      ∙ walk_passed w.rows caller 0 parents _ n way.leads
      ∙ ap (λ m. first_failing (making_tests caller (is_none (child w.rows m name)) (attrs_at w.rows m)
      (length parents))) (parent_is way)
      ∙ ap (λ x. first_failing (making_tests caller (is_none (child w.rows n name)) x (length parents)))
      (attrs_reads c w way.shows n a way.shown)
      ∙ ap (λ k. first_failing (making_tests caller (is_none (child w.rows n name)) a k)) (sym same)

  -- where they are met, the directory may list the name
  pub parent_is_free : is_directory_kind a.kind ≡ true → is_none (child w.rows n name) ≡ true
      → IsParent c w.rows names (record { number = n; attrs = a })
  parent_is_free directory free = record {
    some = let count = way.count in omega (arith, count);
    object = make_object way;
    shown = way.shown;
    directory = directory;
    free = ap (child w.rows n) (last_is way) ∙ not_there (child w.rows n name) free;
  }

-- ---- what the store is asked

module _ (c : Content) (number : ℕ) (attrs : Attrs) (dir off : ℕ) (block : List ℕ) (f : File) (unused : map.get c number
    ≡ None) (stored : map.get c dir ≡ Some f) where
  abbrev made_file : File
  made_file = file_of attrs []

  apart : dir ≢ number
  apart same = let none : map.get c dir ≡ None = subst (λ q. map.get c q ≡ None) (sym same) unused in absurd (cc)

  abbrev made : Content
  made = map.insert c number made_file

  abbrev put_dir : File
  put_dir = record f { bytes = splice f.bytes off block }

  there : map.get made dir ≡ Some f
  there = get-insert_other c number made_file dir apart ∙ stored

  -- the content with the new file and the written block
  abbrev pub after_changes : Content
  after_changes = changed_at (map.get made dir) dir (λ x. record x { bytes = splice x.bytes off block }) made

  after : after_changes ≡ map.insert made dir put_dir
  after = ap (λ o. changed_at o dir (λ x. record x { bytes = splice x.bytes off block }) made) there

  -- it has the new file and the block, and is otherwise what it was
  pub makes_file : (new : Content) → new ≡ after_changes → MakesFile c new number made_file dir off block
  makes_file new is = record {
    made = ap (λ x. map.get x number) (is ∙ after) ∙ get-insert_other made dir put_dir number (λ same. apart (sym same))
        ∙ get-insert_same c number made_file;
    listed = λ g e.
        let same : f ≡ g = cc in
        subst (λ (x : File). map.get new dir ≡ Some (record x { bytes = splice x.bytes off block })) same
        (ap (λ x. map.get x dir) (is ∙ after) ∙ get-insert_same made dir put_dir);
    others = λ q a b. ap (λ x. map.get x q) (is ∙ after) ∙ get-insert_other made dir put_dir q b
        ∙ get-insert_other c number made_file q a;
  }

  -- a store may be asked for it
  pub can_make : (numbers : ℕ) (pointed : Bor (List ℕ)) → pointed.now ≡ block → 4 ≤ number → number < numbers
      → length block ≡ 512 → IsLength f.kind (length (splice f.bytes off block))
      → CanApply numbers (Make number attrs ∷ Put dir off pointed ∷ []) c
  can_make numbers pointed same low high size long = record {
    few = omega arith;
    few_puts = omega arith;
    few_lengths = omega arith;
    few_bytes = let n = ap (λ (bs : List ℕ). length bs) same in omega arith;
    each = (
      (low, high, unused),
      (
        is_some_and _ there
            (subst (λ bs. IsLength f.kind (length (splice f.bytes off bs))) (sym same) long),
        tt,
      ),
    );
  }

-- ---- numbers

-- the number that is found is the least unused one
pub least_unused-is : (rows : Rows) (count n m : ℕ) → n ≤ m → m ≤ n + count → map.get rows m ≡ None
    → ((k : ℕ) → n ≤ k → k < m → IsSome (map.get rows k)) → least_unused rows count n ≡ m
unfolding least_unused
least_unused-is rows zero n m low high free used = omega arith
least_unused-is rows (suc count) n m low high free used = ⊎_elim
    (λ t. cond-true _ _ _ t ∙ least_unused-is rows count (n + 1) m (above t) (omega arith) free
    (λ k h. used k (omega arith)))
    (λ t. cond-false _ _ _ t ∙ at_end t)
    (cases_Bool (is_some (map.get rows n))) where
      above : is_some (map.get rows n) ≡ true → n + 1 ≤ m
      above t = ⊎_elim
          (λ e. let none : is_some (map.get rows n) ≡ false = ap (λ k. is_some (map.get rows k)) e
          ∙ ap is_some free in absurd (cc))
          (λ (apart : n ≢ m). omega arith)
          (cases_eq n m)

      at_end : is_some (map.get rows n) ≡ false → n ≡ m
      at_end t = ⊎_elim
          (λ e. e)
          (λ (apart : n ≢ m). let some : is_some (map.get rows n)
          ≡ true = used n (omega arith) (omega arith) in absurd (cc))
          (cases_eq n m)

-- where the store has no number left, the tree has none
pub all_used : (c : Content) (w : World) → Shows c w → (numbers : ℕ) → IsUsedBelow c numbers → AllUsed numbers w.rows
all_used c w shows numbers used n low high =
    let f = there_of (map.get c n) (used n low high) in
    present (shown_of c w shows n f.value f.is).there

-- a directory with a block written has a length that it may have
pub grown_length : (k : Kind) (bytes : List ℕ) (off : ℕ) (block : List ℕ) → k ≡ Directory → length bytes % 512 ≡ 0
    → off ≤ length bytes → off % 512 ≡ 0 → off < FILE_BYTES → length block ≡ 512 → length bytes ≤ FILE_BYTES
    → IsLength k (length (splice bytes off block))
grown_length k bytes off block kind whole within aligned fits size bounded =
    let is : length (splice bytes off block) ≡ off + length block + (length bytes - (off + length block)) =
    ap (λ (bs : List ℕ). length bs) (splice-put_over bytes off block (omega arith) within)
    ∙ length-put_over bytes off block within in
    subst (λ x. IsLength x (length (splice bytes off block))) (sym kind) (omega arith, omega arith)
