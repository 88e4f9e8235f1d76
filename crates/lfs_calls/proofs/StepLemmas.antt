-- What a store says of a number is what the tree has of its row, but for a directory's size: `attrs_reads` and
-- `child_listed`, on which nearly all lemmas of calls stand; `steps_barred` and `steps_on` serve `step`. Shows makes
-- the visible files the same, and a directory's bytes are not visible, so its size in the tree is 0; no test asks for
-- the size of a directory. Each step of a walk ends at a stored row, by induction on the names (`walked-stored`), so
-- the store never lacks attributes for it (`not_shown`); a test that asked for a directory's size would get two
-- answers.
use Rattle.std.proofs.Common.{◌≡◌, ℕ, ◌+◌, Bool, true, false, cond, List, [], ◌∷◌, length, Option, None, Some, Result}
use Rattle.std.proofs.Common.{Ok, Err, refl, sym, ap, ◌∙◌, subst}
use Rattle.std.specs.Prelude.{option_map, IsSome, ok_or}
use Rattle.std.proofs.lemmas.Bool.{cond-true}
use Rattle.std.specs.FinMap as map
use Rattle.lfs_types.specs.Caller.{Caller}
use Rattle.lfs_types.specs.Kinds.{is_directory_kind}
use Rattle.lfs_types.specs.Stored.{shown_attrs, bytes_of, bytes_of_file}
use Rattle.lfs_types.specs.Tree.{File, World, Content, root, attrs_of}
use Rattle.lfs_types.specs.declared.attrs.Attrs.{Attrs}
use Rattle.lfs_types.specs.declared.attrs.Bit.{Bit}
use Rattle.lfs_types.specs.declared.attrs.Bit.TheVariants as bits
use Rattle.lfs_types.specs.declared.attrs.Kind.TheVariants.{File as Regular, Directory}
use Rattle.lfs_types.specs.declared.rule.Denial.{Denial}
use Rattle.lfs_types.specs.declared.rule.Rule.TheVariants.{NameThere}
use Rattle.lfs_dirs.specs.Directory.{number_in}
use Rattle.lfs_rules.specs.Grants.{grants_of}
use Rattle.lfs_model.specs.World.{child, file_at, IsTree}
use Rattle.lfs_model.specs.Rules.{is_directory_row, judged, row_grants, attrs_at}
use Rattle.lfs_model.specs.Rules.{searching_tests}
use Rattle.lfs_calls.specs.Content.{visible, Shows, all_entries}
use Rattle.lfs_model.specs.Walks.{stepped, walked}
use Rattle.lfs_calls.proofs.Visible.{Stored, shown_of, stored_of}
use Rattle.lfs_model.proofs.Children.{child-is}
use Rattle.lfs_types.proofs.Somewhere.{present, some_and, there_of}
use Rattle.lfs_model.proofs.Deciding.{walked_taken}
use Rattle.lfs_model.proofs.WalkLemmas.{directory_kind, regular_kind, ok_found}

-- the file whose attributes a store shows
pub record ShownFile (c : Content) (n : ℕ) (a : Attrs) : Type 0 where
  pub file : File
  pub stored : map.get c n ≡ Some file
  pub same : a ≡ attrs_of file

shown_file_as : (c : Content) (n : ℕ) (a : Attrs) (o : Option File) → map.get c n ≡ o → Some a ≡ option_map attrs_of o
    → ShownFile c n a
shown_file_as c n a None e h = absurd (cc)
shown_file_as c n a (Some f) e h = record { file = f; stored = e; same = cc }

-- what shows attributes has a file
pub shown_file : (c : Content) (n : ℕ) (a : Attrs) → Some a ≡ shown_attrs c n → ShownFile c n a
shown_file c n a h = shown_file_as c n a (map.get c n) refl h

-- the shown kind is the stored file's
module _ (c : Content) (n : ℕ) (a : Attrs) (shown : Some a ≡ shown_attrs c n) where
  -- it is a directory
  pub stored_directory : is_directory_kind a.kind ≡ true → (shown_file c n a shown).file.kind ≡ Directory
  stored_directory h = ap (λ (x : Attrs). x.kind) (sym (shown_file c n a shown).same) ∙ directory_kind a.kind h

  -- or it is none
  pub stored_regular : is_directory_kind a.kind ≡ false → (shown_file c n a shown).file.kind ≡ Regular
  stored_regular h = ap (λ (x : Attrs). x.kind) (sym (shown_file c n a shown).same) ∙ regular_kind a.kind h

-- what the attributes that a store shows of a number say of its row
module _ (c : Content) (w : World) (shows : Shows c w) (n : ℕ) (a : Attrs) (shown : Some a ≡ shown_attrs c n) where
  abbrev the_file : ShownFile c n a
  the_file = shown_file c n a shown

  abbrev the_row : Stored w n the_file.file
  the_row = shown_of c w shows n the_file.file the_file.stored

  -- the row is a directory's where they say so
  pub directory_reads : is_directory_row (map.get w.rows n) ≡ is_directory_kind a.kind
  directory_reads =
      ap is_directory_row the_row.there ∙ ap (λ (x : File). is_directory_kind x.kind) (sym the_row.same)
      ∙ ap (λ (x : Attrs). is_directory_kind x.kind) (sym the_file.same)

  -- it grants what they do
  pub grants_reads : (caller : Caller) (bit : Bit) → row_grants caller bit (map.get w.rows n) ≡ grants_of caller a bit
  grants_reads caller bit =
      ap (row_grants caller bit) the_row.there ∙ ap (λ (x : File). grants_of caller (attrs_of x) bit) (sym the_row.same)
      ∙ ap (λ (x : Attrs). grants_of caller x bit) (sym the_file.same)

  -- the attributes that users see of the row, all but the size
  pub attrs_reads : attrs_at w.rows n ≡ record a { size = length (visible the_file.file).bytes }
  attrs_reads =
      ap (λ o. attrs_of (file_at o)) the_row.there ∙ ap attrs_of (sym the_row.same)
      ∙ ap (λ (x : Attrs). record x { size = length (visible the_file.file).bytes }) (sym the_file.same)

  -- what the directory lists under a name is its child
  pub child_listed : is_directory_kind a.kind ≡ true → (name : List ℕ) → number_in name (all_entries (bytes_of c n))
      ≡ child w.rows n name
  child_listed h name = ap (λ o. number_in name (all_entries (bytes_of_file o))) the_file.stored
      ∙ (shows.listings n the_file.file the_file.stored (stored_directory c n a shown h)).names name

-- two tests that say the same ask the same
cond_same : {A : Type 0} {d s e t : Bool} (x y z : A) → d ≡ e → s ≡ t → cond d (cond s x y) z ≡ cond e (cond t x y) z
cond_same {A} {d} {s} {e} {t} x y z same also = ap (λ b. cond b (cond s x y) z) same
    ∙ ap (λ b. cond e (cond b x y) z) also

-- what two tests deny is denied, whatever is asked behind them
stopped : (d s : Bool) (there here denial : Denial) (u : Unit {0}) (rest : Result ℕ Denial)
    → cond d (cond s (Ok u) (Err there)) (Err here) ≡ Err denial → cond d (cond s rest (Err there)) (Err here)
    ≡ Err denial
stopped true true there here denial u rest h = absurd (cc)
stopped true false there here denial u rest h = let same : there ≡ denial = cc in ap Err same
stopped false s there here denial u rest h = let same : here ≡ denial = cc in ap Err same

module _ (c : Content) (w : World) (shows : Shows c w) (caller : Caller) (path k n : ℕ) (name : List ℕ) (a : Attrs)
    (shown : Some a ≡ shown_attrs c n) where
  -- a step from what isn't a directory that grants search is denied
  pub steps_barred : (denial : Denial) → judged (searching_tests caller path a k) ≡ Err denial
      → stepped w.rows caller path k n name ≡ Err denial
  steps_barred denial h =
      cond_same _ _ _ (directory_reads c w shows n a shown) (grants_reads c w shows n a shown caller bits.Search)
      ∙ stopped (is_directory_kind a.kind) (grants_of caller a bits.Search) _ _ denial tt _ h

  -- another goes to the child, or is denied where there is none
  pub steps_on : is_directory_kind a.kind ≡ true → grants_of caller a bits.Search ≡ true → (o : Option ℕ) → o
      ≡ number_in name (all_entries (bytes_of c n))
      → ok_or o (record { rule = NameThere; path = path; at = k + 1 }) ≡ stepped w.rows caller path k n name
  steps_on h g o e =
      ap (λ x. ok_or x (record { rule = NameThere; path = path; at = k + 1 })) (e
      ∙ child_listed c w shows n a shown h name)
      ∙ ok_found path (k + 1) (child w.rows n name)
      ∙ sym (cond-true _ _ _ (directory_reads c w shows n a shown ∙ h)
      ∙ cond-true _ _ _ (grants_reads c w shows n a shown caller bits.Search ∙ g))

-- ---- a walk goes on

-- a child is stored
pub child-stored : (c : Content) (w : World) → Shows c w → (parent : ℕ) (name : List ℕ) (n : ℕ)
    → child w.rows parent name ≡ Some n → IsSome (map.get c n)
child-stored c w shows parent name n h =
    let is = child-is w.rows parent name n h in
    present (stored_of c w shows n is.row is.there).stored

-- the root is stored
pub root_stored : (c : Content) (w : World) → Shows c w → IsTree w.rows → IsSome (map.get c root)
root_stored c w shows tree =
    let r = some_and (map.get w.rows root) _ tree.rooted in
    present (stored_of c w shows root r.value r.is).stored

-- a number that is in use has attributes
pub not_shown : (c : Content) (n : ℕ) → IsSome (map.get c n) → None ≡ shown_attrs c n → ⊥
not_shown c n used h =
    let f = there_of (map.get c n) used in
    let some : shown_attrs c n ≡ Some (attrs_of f.value) = ap (option_map attrs_of) f.is in
    absurd (cc)

-- a number whose attributes a store shows is in use, and has as many bytes as they say
pub shown_stored : (c : Content) (n : ℕ) (a : Attrs) → Some a ≡ shown_attrs c n → IsSome (map.get c n)
shown_stored c n a h = present (shown_file c n a h).stored

-- such a number has as many bytes as they say
pub size_stored : (c : Content) (n : ℕ) (a : Attrs) → Some a ≡ shown_attrs c n → a.size ≡ length (bytes_of c n)
size_stored c n a h =
    let f = shown_file c n a h in
    ap (λ (x : Attrs). x.size) f.same ∙ ap (λ o. length (bytes_of_file o)) (sym f.stored)

-- a walk ends at a row
pub walked-stored : (c : Content) (w : World) → Shows c w
    → (caller : Caller) (path k at : ℕ) (names : List (List ℕ)) (n : ℕ) → IsSome (map.get c at)
    → walked w.rows caller path k at names ≡ Ok n → IsSome (map.get c n)
unfolding walked
walked-stored c w shows caller path k at [] n here h = let same : at
    ≡ n = cc in subst (λ m. IsSome (map.get c m)) same here
walked-stored c w shows caller path k at (name ∷ names) n here h =
    let t = walked_taken w.rows caller path k at name names n h in
    walked-stored c w shows caller path (k + 1) t.to names n (child-stored c w shows at name t.to t.child) t.rest
