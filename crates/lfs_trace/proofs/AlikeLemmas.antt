-- Two contents that show trees show the same one exactly where they're alike at each number: `same_alike` and
-- `alike_same`, and so `tells` for `Checker::difference`. Rows agree where their files do and where they hang in the same
-- directory under the same name. A row of the second hangs where the second's directory lists it; the first's directory
-- lists it there too, so that the first's row of that number hangs there (`hangs_same`). So it's enough that all that
-- the second lists is listed in the first. The others are for the functions within: `round`, `none_alike`,
-- `unlike_none`, `none_unlike`, and, of two files, `unlike`, `file_alike` to `alike_directory`.
use Rattle.std.proofs.Common.{◌≡◌, ◌≢◌, ℕ, ◌<◌, ◌≤◌, true, false, List, [], length, Option, None, Some, refl, sym}
use Rattle.std.proofs.Common.{ap, subst, ◌∙◌, ⊎_elim, arith}
use Rattle.std.specs.Prelude.{All, Contains, IsSome, IsSomeAnd, option_map}
use Rattle.std.specs.FinMap as map
use Rattle.std.specs.FinMap.{nat_cmp-IsAntisymmetric, same_map}
use Rattle.std.specs.Cmp.{nat_cmp_total}
use Rattle.std.proofs.lemmas.Bool.{cases_eq, cases_lt}
use Rattle.std.proofs.lemmas.List.Elements.{All-contains, All-contains_itself, All-weaker}
use Rattle.lfs_types.proofs.Somewhere.{is_some_and, none_there, present, some_and}
use Rattle.lfs_types.specs.Kinds.{is_directory_kind}
use Rattle.lfs_types.specs.StoreStates.{StoreState}
use Rattle.lfs_types.specs.Stored.{bytes_of, bytes_of_file, shown_attrs}
use Rattle.lfs_types.specs.Tree.{Content, File, Row, World, attrs_of, root}
use Rattle.lfs_types.specs.declared.attrs.Attrs.{Attrs}
use Rattle.lfs_types.specs.declared.attrs.Kind.{Kind}
use Rattle.lfs_types.specs.declared.attrs.Kind.TheVariants.{File as Regular, Directory}
use Rattle.lfs_dirs.specs.Directory.{Entry, number_in}
use Rattle.lfs_dirs.proofs.Changes.{Contains-number_in, number_in-Contains}
use Rattle.lfs_model.specs.World.{IsTree, child}
use Rattle.lfs_model.proofs.Children.{child-answer, child-is}
use Rattle.lfs_calls.specs.Content.{IsDirectoryAt, Shows, all_entries, visible, visible_bytes}
use Rattle.lfs_calls.proofs.ListedNames.{number-child}
use Rattle.lfs_calls.proofs.Visible.{stored_of}
use Rattle.lfs_trace.specs.Alike.{AreListed, IsAlikeAt, IsDifference, IsDifferenceAmong, TellsDifference, seen_attrs}
use Rattle.lfs_trace.specs.Checking.{Standing, plain_state}
use Rattle.lfs_trace.proofs.CopyLemmas.{Shown}

-- ---- trees

-- a number at which users see the same is a directory's in both
also_directory : (a b : Option File) → option_map visible a ≡ option_map visible b
    → IsSomeAnd b (λ f. f.kind ≡ Directory) → IsSomeAnd a (λ f. f.kind ≡ Directory)
also_directory a None same h = absurd h
also_directory None (Some g) same h = absurd (cc)
also_directory (Some f) (Some g) same h =
    let one : visible f ≡ visible g = cc in
    ap (λ (x : File). x.kind) one ∙ h

same_row : (r s : Row) → r.parent ≡ s.parent → r.name ≡ s.name → r.file ≡ s.file → r ≡ s
same_row r s parent name file =
    ap (λ p. record { parent = p; name = r.name; file = r.file }) parent
    ∙ ap (λ n. record { parent = s.parent; name = n; file = r.file }) name
    ∙ ap (λ f. record { parent = s.parent; name = s.name; file = f }) file

module _ (c d : Content) (w v : World) (shows : Shows c w) (shown : Shows d v) (tree : IsTree w.rows)
    (other : IsTree v.rows) where
  -- ---- the same tree is alike at each number
  listed_too : w.rows ≡ v.rows → (n : ℕ) → IsDirectoryAt c n → IsDirectoryAt d n → (e : Entry)
      → Contains (all_entries (bytes_of d n)) e → number_in e.1 (all_entries (bytes_of c n)) ≡ Some e.0
  listed_too same n here there e within =
      let g = some_and (map.get d n) (λ f. f.kind ≡ Directory) there in
      let lists = shown.listings n g.value g.is g.holds in
      let bytes : bytes_of d n ≡ g.value.bytes = ap bytes_of_file g.is in
      let one = number_in-Contains e (all_entries g.value.bytes) lists.distinct
      (subst (λ bs. Contains (all_entries bs) e) bytes within) in
      number-child c w shows n here e.1 ∙ ap (λ rows. child rows n e.1) same ∙ sym (lists.names e.1) ∙ one

  pub same_alike : w.rows ≡ v.rows → (n : ℕ) → IsAlikeAt c d n
  same_alike same n =
      let files = shows.files n ∙ ap (λ rows. option_map (λ (r : Row). r.file) (map.get rows n)) same
      ∙ sym (shown.files n) in
      record {
        files = files;
        names = λ there.
            let es = all_entries (bytes_of d n) in
            let here = also_directory (map.get c n) (map.get d n) files there in
            all_from es (λ e within. listed_too same n here there e within);
      }
    where
      all_from : {X : Type 0} {P : X → Type 0} (xs : List X) → ((x : X) → Contains xs x → P x) → All P xs
      all_from {X} {P} xs each = All-weaker (Contains xs) P each xs (All-contains_itself xs)

  -- ---- trees that are alike at each number are the same
  module _ (alike : (n : ℕ) → IsAlikeAt c d n) where
    child_same : (n : ℕ) (s : Row) → map.get v.rows n ≡ Some s → n ≢ root → child w.rows s.parent s.name ≡ Some n
    child_same n s there below =
        let p = some_and (map.get v.rows s.parent) (λ (r : Row). r.file.kind ≡ Directory) (other.parents n s there) in
        let stored = stored_of d v shown s.parent p.value p.is in
        let kind : stored.file.kind ≡ Directory = ap (λ (f : File). f.kind) stored.same ∙ p.holds in
        let dir : IsDirectoryAt d s.parent = is_some_and (λ (f : File). f.kind ≡ Directory) stored.stored kind in
        let here = also_directory (map.get c s.parent) (map.get d s.parent) (alike s.parent).files dir in
        let is : child v.rows s.parent s.name ≡ Some n = child-answer v.rows other.unique s.parent s.name (Some n)
        (record { row = s; there = there; below = below; hangs = refl; named = refl }) in
        let listed = number-child d v shown s.parent dir s.name ∙ is in
        let within = Contains-number_in s.name n (all_entries (bytes_of d s.parent)) listed in
        sym (number-child c w shows s.parent here s.name)
        ∙ All-contains (λ (e : Entry). number_in e.1 (all_entries (bytes_of c s.parent)) ≡ Some e.0)
        (all_entries (bytes_of d s.parent)) (n, s.name) ((alike s.parent).names dir) within

    hangs_same : (n : ℕ) (r s : Row) → map.get w.rows n ≡ Some r → map.get v.rows n ≡ Some s
        → (r.parent ≡ s.parent) × (r.name ≡ s.name)
    hangs_same n r s here there = ⊎_elim
        (λ top.
        let a = some_and (map.get w.rows root) _ tree.rooted in
        let b = some_and (map.get v.rows root) _ other.rooted in
        let ra : Some r ≡ Some a.value = sym here ∙ ap (λ k. map.get w.rows k) top ∙ a.is in
        let sb : Some s ≡ Some b.value = sym there ∙ ap (λ k. map.get v.rows k) top ∙ b.is in
        let r_is : r ≡ a.value = cc in
        let s_is : s ≡ b.value = cc in (
          ap (λ (x : Row). x.parent) r_is ∙ a.holds.0 ∙ sym (b.holds.0) ∙ sym (ap (λ (x : Row). x.parent) s_is),
          ap (λ (x : Row). x.name) r_is ∙ a.holds.1 ∙ sym (b.holds.1) ∙ sym (ap (λ (x : Row). x.name) s_is),
        ))
        (λ below.
        let hangs = child-is w.rows s.parent s.name n (child_same n s there below) in
        let one : Some r ≡ Some hangs.row = sym here ∙ hangs.there in
        let is : r ≡ hangs.row = cc in
        (ap (λ (x : Row). x.parent) is ∙ hangs.hangs, ap (λ (x : Row). x.name) is ∙ hangs.named))
        (cases_eq n root)

    row_case : (n : ℕ) (a b : Option Row) → map.get w.rows n ≡ a → map.get v.rows n ≡ b
        → option_map (λ (r : Row). r.file) a ≡ option_map (λ (r : Row). r.file) b → a ≡ b
    row_case n None None here there files = refl
    row_case n None (Some s) here there files = absurd (cc)
    row_case n (Some r) None here there files = absurd (cc)
    row_case n (Some r) (Some s) here there files =
        let hangs = hangs_same n r s here there in
        let file : r.file ≡ s.file = cc in
        ap Some (same_row r s hangs.0 hangs.1 file)

    pub alike_same : w.rows ≡ v.rows
    alike_same = same_map nat_cmp_total nat_cmp-IsAntisymmetric w.rows v.rows (λ n.
        row_case n (map.get w.rows n) (map.get v.rows n) refl refl
        (sym (shows.files n) ∙ (alike n).files ∙ shown.files n))

-- what a search finds
pub tells : (s : Standing) (t : StoreState) (found : Option ℕ)
    → IsDifference (plain_state s.store).content t.content found → TellsDifference s t found
tells s t None is w v at volume =
    let a = at.shown in
    (λ _. alike_same (plain_state s.store).content t.content w v a.shows volume.shows a.tree volume.tree is, λ _. refl)
tells s t (Some n) is w v at volume =
    let a = at.shown in (
      λ none. absurd (cc),
      λ same. absurd (is (same_alike (plain_state s.store).content t.content w v a.shows volume.shows a.tree volume.tree
          same n)),
    )

-- ---- a search

module _ (c d : Content) where
  free_directory : (n : ℕ) → map.get d n ≡ None → IsDirectoryAt d n → ⊥
  free_directory n none dir =
      none_there (map.get d n) (some_and (map.get d n) (λ f. f.kind ≡ Directory) dir).value none
      (some_and (map.get d n) (λ f. f.kind ≡ Directory) dir).is

  -- a number that is free in both
  pub free_alike : (n : ℕ) → map.get c n ≡ None → map.get d n ≡ None → IsAlikeAt c d n
  free_alike n here there = record {
    files = ap (λ (o : Option File). option_map visible o) (here ∙ sym there);
    names = λ dir. absurd (free_directory n there dir);
  }

  past_none : (e : Content) (numbers n : ℕ) → ((m : ℕ) → IsSome (map.get e m) → m < numbers) → numbers ≤ n
      → (o : Option File) → map.get e n ≡ o → map.get e n ≡ None
  past_none e numbers n within past None is = is
  past_none e numbers n within past (Some f) is = let low = within n (present is) in absurd (omega (arith, low, past))

  module _ (numbers start : ℕ) (mine : (n : ℕ) → IsSome (map.get c n) → n < numbers)
      (within : (n : ℕ) → IsSome (map.get d n) → n < numbers) where
    -- from a number on, and then those before it
    pub round : IsDifferenceAmong start numbers c d None → (found : Option ℕ) → IsDifferenceAmong 0 start c d found
        → IsDifference c d found
    round behind None before = λ n. ⊎_elim
        (λ low. before n (omega arith) low)
        (λ high. ⊎_elim
        (λ under. behind n (omega (arith, high)) under)
        (λ past.
        let far : numbers ≤ n = omega (arith, past) in
        free_alike n (past_none c numbers n mine far (map.get c n) refl)
        (past_none d numbers n within far (map.get d n) refl))
        (cases_lt n numbers))
        (cases_lt n start)
    round behind (Some n) before = before

-- ---- a number

unshown : (o : Option File) → None ≡ option_map attrs_of o → o ≡ None
unshown None e = refl
unshown (Some f) e = absurd (cc)

module _ (c d : Content) (n : ℕ) where
  pub none_alike : None ≡ shown_attrs c n → None ≡ shown_attrs d n → IsAlikeAt c d n
  none_alike here there = free_alike c d n (unshown (map.get c n) here) (unshown (map.get d n) there)

  pub unlike_none : (a : Attrs) → Some a ≡ shown_attrs c n → None ≡ shown_attrs d n → IsAlikeAt c d n → ⊥
  unlike_none a here there alike = one_sided (map.get c n) (map.get d n) here (unshown (map.get d n) there) alike.files
    where
      one_sided : (o p : Option File) → Some a ≡ option_map attrs_of o → p ≡ None
          → option_map visible o ≡ option_map visible p → ⊥
      one_sided None p here there same = absurd (cc)
      one_sided (Some f) None here there same = absurd (cc)
      one_sided (Some f) (Some g) here there same = absurd (cc)

  pub none_unlike : (b : Attrs) → None ≡ shown_attrs c n → Some b ≡ shown_attrs d n → IsAlikeAt c d n → ⊥
  none_unlike b here there alike = one_sided (map.get c n) (map.get d n) (unshown (map.get c n) here) there alike.files
    where
      one_sided : (o p : Option File) → o ≡ None → Some b ≡ option_map attrs_of p
          → option_map visible o ≡ option_map visible p → ⊥
      one_sided o None here there same = absurd (cc)
      one_sided None (Some g) here there same = absurd (cc)
      one_sided (Some f) (Some g) here there same = absurd (cc)

-- the attributes that users see are those of the file that they see
seen_case : (k : Kind) (uid gid mode flags : ℕ) (bytes : List ℕ)
    → seen_attrs (attrs_of (record { kind = k; uid = uid; gid = gid; mode = mode; flags = flags; bytes = bytes }))
    ≡ attrs_of (visible (record { kind = k; uid = uid; gid = gid; mode = mode; flags = flags; bytes = bytes }))
seen_case Regular uid gid mode flags bytes = refl
seen_case Directory uid gid mode flags bytes = refl

seen : (f : File) → seen_attrs (attrs_of f) ≡ attrs_of (visible f)
seen f = seen_case f.kind f.uid f.gid f.mode f.flags f.bytes

-- files that users see have the same attributes and bytes
same_file : (f g : File) → attrs_of f ≡ attrs_of g → f.bytes ≡ g.bytes → f ≡ g
same_file f g attrs bytes =
    let kind = ap (λ (a : Attrs). a.kind) attrs in
    let uid = ap (λ (a : Attrs). a.uid) attrs in
    let gid = ap (λ (a : Attrs). a.gid) attrs in
    let mode = ap (λ (a : Attrs). a.mode) attrs in
    let flags = ap (λ (a : Attrs). a.flags) attrs in
    ap (λ k. record { kind = k; uid = f.uid; gid = f.gid; mode = f.mode; flags = f.flags; bytes = f.bytes }) kind
    ∙ ap (λ u. record { kind = g.kind; uid = u; gid = f.gid; mode = f.mode; flags = f.flags; bytes = f.bytes }) uid
    ∙ ap (λ i. record { kind = g.kind; uid = g.uid; gid = i; mode = f.mode; flags = f.flags; bytes = f.bytes }) gid
    ∙ ap (λ m. record { kind = g.kind; uid = g.uid; gid = g.gid; mode = m; flags = f.flags; bytes = f.bytes }) mode
    ∙ ap (λ x. record { kind = g.kind; uid = g.uid; gid = g.gid; mode = g.mode; flags = x; bytes = f.bytes }) flags
    ∙ ap (λ b. record { kind = g.kind; uid = g.uid; gid = g.gid; mode = g.mode; flags = g.flags; bytes = b }) bytes

kind_file : (k : Kind) → is_directory_kind k ≡ false → k ≡ Regular
kind_file Regular h = refl
kind_file Directory h = absurd (cc)

kind_directory : (k : Kind) → is_directory_kind k ≡ true → k ≡ Directory
kind_directory Regular h = absurd (cc)
kind_directory Directory h = refl

regular_bytes : (f : File) → f.kind ≡ Regular → (visible f).bytes ≡ f.bytes
regular_bytes f is = ap (λ k. visible_bytes k f.bytes) is

directory_bytes : (f : File) → f.kind ≡ Directory → (visible f).bytes ≡ []
directory_bytes f is = ap (λ k. visible_bytes k f.bytes) is

module _ (c d : Content) (n : ℕ) (a b : Attrs) (s : Shown c n a) (t : Shown d n b) where
  abbrev f : File
  f = s.file

  abbrev g : File
  g = t.file

  -- users see the same file
  seen_same : IsAlikeAt c d n → visible f ≡ visible g
  seen_same alike =
      let one : Some (visible f) ≡ Some (visible g) = sym (ap (λ (o : Option File). option_map visible o) s.is)
      ∙ alike.files ∙ ap (λ (o : Option File). option_map visible o) t.is in
      cc

  files_of : visible f ≡ visible g → option_map visible (map.get c n) ≡ option_map visible (map.get d n)
  files_of same = ap (λ (o : Option File). option_map visible o) s.is ∙ ap Some same
      ∙ sym (ap (λ (o : Option File). option_map visible o) t.is)

  seen_here : seen_attrs a ≡ attrs_of (visible f)
  seen_here = ap seen_attrs s.attrs_are ∙ seen f

  seen_there : seen_attrs b ≡ attrs_of (visible g)
  seen_there = ap seen_attrs t.attrs_are ∙ seen g

  pub unlike : (seen_attrs a ≡ seen_attrs b → ⊥) → IsAlikeAt c d n → ⊥
  unlike differ alike = differ (seen_here ∙ ap attrs_of (seen_same alike) ∙ sym seen_there)

  module _ (same : seen_attrs a ≡ seen_attrs b) where
    kinds : f.kind ≡ g.kind
    kinds = ap (λ (x : Attrs). x.kind) (sym seen_here ∙ same ∙ seen_there)

    kind_here : a.kind ≡ f.kind
    kind_here = ap (λ (x : Attrs). x.kind) s.attrs_are

    kind_of : is_directory_kind a.kind ≡ false → (f.kind ≡ Regular) × (g.kind ≡ Regular)
    kind_of not = let is = sym kind_here ∙ kind_file a.kind not in (is, sym kinds ∙ is)

    dir_of : is_directory_kind a.kind ≡ true → (f.kind ≡ Directory) × (g.kind ≡ Directory)
    dir_of dir = let is = sym kind_here ∙ kind_directory a.kind dir in (is, sym kinds ∙ is)

    -- regular files have as many bytes
    pub sizes : is_directory_kind a.kind ≡ false → length (bytes_of d n) ≡ length (bytes_of c n)
    sizes not =
        let k = kind_of not in
        let both = ap (λ (x : Attrs). x.size) (sym seen_here ∙ same ∙ seen_there) in
        ap (λ (o : Option File). length (bytes_of_file o)) t.is
        ∙ ap (λ (bs : List ℕ). length bs) (sym (regular_bytes g k.1))
        ∙ sym both
        ∙ ap (λ (bs : List ℕ). length bs) (regular_bytes f k.0)
        ∙ sym (ap (λ (o : Option File). length (bytes_of_file o)) s.is)

    pub file_alike : is_directory_kind a.kind ≡ false → bytes_of d n ≡ bytes_of c n → IsAlikeAt c d n
    file_alike not bytes =
        let k = kind_of not in
        let one = sym (ap bytes_of_file s.is) ∙ sym bytes ∙ ap bytes_of_file t.is in
        record {
          files = files_of (same_file (visible f) (visible g) (sym seen_here ∙ same ∙ seen_there)
              (regular_bytes f k.0 ∙ one ∙ sym (regular_bytes g k.1)));
          names = λ dir.
              let top = some_and (map.get d n) (λ x. x.kind ≡ Directory) dir in
              let is : Some g ≡ Some top.value = sym t.is ∙ top.is in
              let g_is : g ≡ top.value = cc in
              let no : Regular ≡ Directory = sym k.1 ∙ ap (λ (x : File). x.kind) g_is ∙ top.holds in
              absurd (cc);
        }

    pub alike_file : is_directory_kind a.kind ≡ false → IsAlikeAt c d n → bytes_of d n ≡ bytes_of c n
    alike_file not alike =
        let k = kind_of not in
        ap bytes_of_file t.is ∙ sym (regular_bytes g k.1)
        ∙ sym (ap (λ (x : File). x.bytes) (seen_same alike))
        ∙ regular_bytes f k.0 ∙ sym (ap bytes_of_file s.is)

    pub directory_alike : is_directory_kind a.kind ≡ true
        → AreListed (bytes_of c n) (all_entries (bytes_of d n)) → IsAlikeAt c d n
    directory_alike dir listed =
        let k = dir_of dir in
        record {
          files = files_of (same_file (visible f) (visible g) (sym seen_here ∙ same ∙ seen_there)
              (directory_bytes f k.0 ∙ sym (directory_bytes g k.1)));
          names = λ _. listed;
        }

    pub directory_there : is_directory_kind a.kind ≡ true → IsDirectoryAt d n
    directory_there dir = is_some_and (λ (x : File). x.kind ≡ Directory) t.is (dir_of dir).1

    pub directory_here : is_directory_kind a.kind ≡ true → IsDirectoryAt c n
    directory_here dir = is_some_and (λ (x : File). x.kind ≡ Directory) s.is (dir_of dir).0
