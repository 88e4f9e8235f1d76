-- Worlds that differ in the bytes of hidden files alone differ in these alone after each call: `effect_twin`, and
-- `unread_twins` for what such a caller sees; both for UnreadRuns. Paths lead to the same numbers (LawReads), and each
-- change of a file looks at its bytes only for their number (`Respects`: `written_respects`, `cut_respects`), so sizes
-- stay equal and files that aren't hidden stay the same. A call whose effect depended on a file's bytes, such as one
-- that copies them to another file, would break `Respects`.
use Rattle.std.proofs.Common.{◌≡◌, ◌⊎◌, ℕ, ◌+◌, ◌-◌, ◌==◌, Bool, true, false, cond, List, [], ◌∷◌, length, Option, None}
use Rattle.std.proofs.Common.{Some, refl, sym, ap, subst, ◌∙◌, ⊎_elim}
use Rattle.std.proofs.lemmas.Bool.{cases_eq}
use Rattle.std.specs.Prelude.{is_some}
use Rattle.std.specs.FinMap as map
use Rattle.lfs_types.specs.Caller.{Caller}
use Rattle.lfs_types.specs.Splicing.{resized, splice}
use Rattle.lfs_types.specs.Tree.{File, Row, World, root, attrs_of}
use Rattle.lfs_types.specs.declared.attrs.Attrs.{Attrs}
use Rattle.lfs_types.specs.declared.attrs.Bit.TheVariants as bits
use Rattle.lfs_types.specs.declared.attrs.Kind.{Kind}
use Rattle.lfs_types.specs.declared.attrs.Kind.TheVariants.{File as Regular, Directory}
use Rattle.lfs_types.specs.declared.request.Place.{Place}
use Rattle.lfs_types.specs.declared.request.Request.{Request}
use Rattle.lfs_types.specs.declared.request.Request.TheVariants.{Stat, Read, Write, List as Names, SetLength, Create}
use Rattle.lfs_types.specs.declared.request.Request.TheVariants.{Mkdir, Unlink, Rmdir, Rename, Chmod, Chown, Chflags}
use Rattle.lfs_types.specs.declared.request.Request.TheVariants.{SetLevel, Sync}
use Rattle.lfs_rules.specs.Grants.{grants_of}
use Rattle.lfs_model.specs.World.{Rows, IsTree, child, file_at}
use Rattle.lfs_model.specs.Rules.{front, last, reached, start_in}
use Rattle.lfs_model.specs.Effects.{after_rename, cut, effect, given, least_unused, new_file, with_file, with_new}
use Rattle.lfs_model.specs.Effects.{with_place, without_row, written}
use Rattle.lfs_laws.specs.LawUnread.{DifferUnread, NumberLooksAlike}
use Rattle.lfs_laws.specs.Rights.{Reaches}
use Rattle.lfs_laws.proofs.HiddenCalls.{least_same}
use Rattle.lfs_laws.proofs.LawBytes.{length-spliced}
use Rattle.lfs_laws.proofs.LawReads.{child_same, reached_at}
use Rattle.lfs_types.proofs.Maps.{get-insert_same, get-insert_other, get-remove_same, get-remove_other}
use Rattle.lfs_types.proofs.Pieces.{length-resized}

-- ---- files and rows

-- a file is another but for its bytes, which are as many, and the same unless they are hidden
pub record FileTwin (hidden : Type 0) (f g : File) : Type 0 where
  pub rest : g ≡ record f { bytes = g.bytes }
  pub size : length f.bytes ≡ length g.bytes
  pub same : (hidden → ⊥) → f.bytes ≡ g.bytes

pub record RowTwin (hidden : Type 0) (r s : Row) : Type 0 where
  pub parents : r.parent ≡ s.parent
  pub names : r.name ≡ s.name
  pub file : FileTwin hidden r.file s.file

abbrev pub NumberTwin : Type 0 → Option Row → Option Row → Type 0
NumberTwin hidden None None = Unit {0}
NumberTwin hidden None (Some s) = ⊥
NumberTwin hidden (Some r) None = ⊥
NumberTwin hidden (Some r) (Some s) = RowTwin hidden r s

pub file_itself : (hidden : Type 0) (f : File) → FileTwin hidden f f
file_itself hidden f = record { rest = refl; size = refl; same = λ h. refl }

pub number_itself : (hidden : Type 0) (o : Option Row) → NumberTwin hidden o o
number_itself hidden None = tt
number_itself hidden (Some r) = record { parents = refl; names = refl; file = file_itself hidden r.file }

twin_attrs : (hidden : Type 0) (f g : File) → FileTwin hidden f g → attrs_of f ≡ attrs_of g
twin_attrs hidden f g t = (λ i. record {
  kind = f.kind;
  uid = f.uid;
  gid = f.gid;
  mode = f.mode;
  flags = f.flags;
  size = t.size i;
}) ∙ ap attrs_of (sym t.rest)

-- a change of a file that doesn't look at its bytes but for their number
abbrev Respects : Type 0 → (File → File) → Type 0
Respects hidden change = (f : File) (bytes : List ℕ) → length f.bytes ≡ length bytes → ((hidden → ⊥) → f.bytes ≡ bytes)
    → FileTwin hidden (change f) (change (record f { bytes = bytes }))

changed_twin : (hidden : Type 0) (change : File → File) → Respects hidden change → (f g : File) → FileTwin hidden f g
    → FileTwin hidden (change f) (change g)
changed_twin hidden change respects f g t =
    subst (λ (x : File). FileTwin hidden (change f) (change x)) (sym t.rest) (respects f g.bytes t.size t.same)

spliced_size : (place : Place) (old other : List ℕ) (b : ℕ) (bs : List ℕ) → length old ≡ length other
    → length (splice old (start_in place (length old)) (b ∷ bs))
    ≡ length (splice other (start_in place (length other)) (b ∷ bs))
spliced_size place old other b bs e =
    length-spliced old (start_in place (length old)) b bs
    ∙ ap (λ k. (start_in place k + length (b ∷ bs)) + (k - (start_in place k + length (b ∷ bs)))) e
    ∙ sym (length-spliced other (start_in place (length other)) b bs)

written_respects : (hidden : Type 0) (caller : Caller) (place : Place) (b : ℕ) (bs : List ℕ)
    → Respects hidden (written caller place (b ∷ bs))
written_respects hidden caller place b bs f bytes size same = record {
  rest = refl;
  size = spliced_size place f.bytes bytes b bs size;
  same = λ no. ap (λ l. splice l (start_in place (length l)) (b ∷ bs)) (same no);
}

cut_respects : (hidden : Type 0) (caller : Caller) (len : ℕ) → Respects hidden (cut caller len)
cut_respects hidden caller len f bytes size same = record {
  rest = refl;
  size = length-resized f.bytes len ∙ sym (length-resized bytes len);
  same = λ no. ap (λ l. resized l len) (same no);
}

-- ---- worlds

pub record Twins (Hidden : ℕ → Type 0) (w v : World) : Type 0 where
  pub level : w.level ≡ v.level
  pub rows : (m : ℕ) → NumberTwin (Hidden m) (map.get w.rows m) (map.get v.rows m)

module _ (Hidden : ℕ → Type 0) where
  abbrev RowsTwin : Rows → Rows → Type 0
  RowsTwin rows others = (m : ℕ) → NumberTwin (Hidden m) (map.get rows m) (map.get others m)

  insert_twin : (rows others : Rows) (k : ℕ) (x y : Row) → RowTwin (Hidden k) x y → RowsTwin rows others
      → RowsTwin (map.insert rows k x) (map.insert others k y)
  insert_twin rows others k x y t all m = ⊎_elim
      (λ same. subst (λ j. NumberTwin (Hidden j) (map.get (map.insert rows k x) j) (map.get (map.insert others k y) j))
      (sym same)
      (subst (λ o. NumberTwin (Hidden k) o (map.get (map.insert others k y) k)) (sym (get-insert_same rows k x))
      (subst (λ o. NumberTwin (Hidden k) (Some x) o) (sym (get-insert_same others k y)) t)))
      (λ other. subst (λ o. NumberTwin (Hidden m) o (map.get (map.insert others k y) m))
      (sym (get-insert_other rows k x m other))
      (subst (λ o. NumberTwin (Hidden m) (map.get rows m) o) (sym (get-insert_other others k y m other)) (all m)))
      (cases_eq m k)

  remove_twin : (rows others : Rows) (k : ℕ) → RowsTwin rows others → RowsTwin (map.remove rows k) (map.remove others k)
  remove_twin rows others k all m = ⊎_elim
      (λ same. subst (λ j. NumberTwin (Hidden j) (map.get (map.remove rows k) j) (map.get (map.remove others k) j))
      (sym same)
      (subst (λ o. NumberTwin (Hidden k) o (map.get (map.remove others k) k)) (sym (get-remove_same rows k))
      (subst (λ o. NumberTwin (Hidden k) None o) (sym (get-remove_same others k)) tt)))
      (λ other. subst (λ o. NumberTwin (Hidden m) o (map.get (map.remove others k) m))
      (sym (get-remove_other rows k m other))
      (subst (λ o. NumberTwin (Hidden m) (map.get rows m) o) (sym (get-remove_other others k m other)) (all m)))
      (cases_eq m k)

  file_twin : (w v : World) (k : ℕ) (change : File → File) → Respects (Hidden k) change → Twins Hidden w v
      → (o p : Option Row)
      → NumberTwin (Hidden k) o p
      → Twins Hidden (with_file o k change w) (with_file p k change v)
  file_twin w v k change respects t None None h = t
  file_twin w v k change respects t None (Some s) h = absurd h
  file_twin w v k change respects t (Some r) None h = absurd h
  file_twin w v k change respects t (Some r) (Some s) h = record {
    level = t.level;
    rows = insert_twin w.rows v.rows k _ _ (record {
      parents = h.parents;
      names = h.names;
      file = changed_twin (Hidden k) change respects r.file s.file h.file;
    }) t.rows;
  }

  place_twin : (w v : World) (k parent : ℕ) (name : List ℕ) → Twins Hidden w v → (o p : Option Row)
      → NumberTwin (Hidden k) o p
      → Twins Hidden (with_place o k parent name w) (with_place p k parent name v)
  place_twin w v k parent name t None None h = t
  place_twin w v k parent name t None (Some s) h = absurd h
  place_twin w v k parent name t (Some r) None h = absurd h
  place_twin w v k parent name t (Some r) (Some s) h = record {
    level = t.level;
    rows = insert_twin w.rows v.rows k _ _ (record { parents = refl; names = refl; file = h.file }) t.rows;
  }

  without_twin : (w v : World) (k : ℕ) → Twins Hidden w v → Twins Hidden (without_row k w) (without_row k v)
  without_twin w v k t = record { level = t.level; rows = remove_twin w.rows v.rows k t.rows }

  either_twin : (b : Bool) (w v x y : World) → Twins Hidden w v → Twins Hidden x y
      → Twins Hidden (cond b w x) (cond b v y)
  either_twin true w v x y a c = a
  either_twin false w v x y a c = c

  rename_twin : (w v : World) (k parent : ℕ) (name : List ℕ) → Twins Hidden w v → (o : Option ℕ)
      → Twins Hidden (after_rename w k o parent name) (after_rename v k o parent name)
  rename_twin w v k parent name t None = place_twin w v k parent name t _ _ (t.rows k)
  rename_twin w v k parent name t (Some m) =
      either_twin (m == k) w v _ _ t (place_twin (without_row m w) (without_row m v) k parent name
      (without_twin w v m t) _ _ (t.rows k))

  used_alike : (hidden : Type 0) (o p : Option Row) → NumberTwin hidden o p → is_some o ≡ is_some p
  used_alike hidden None None h = refl
  used_alike hidden None (Some s) h = absurd h
  used_alike hidden (Some r) None h = absurd h
  used_alike hidden (Some r) (Some s) h = refl

  group_alike : (hidden : Type 0) (o p : Option Row) → NumberTwin hidden o p → (file_at o).gid ≡ (file_at p).gid
  group_alike hidden None None h = refl
  group_alike hidden None (Some s) h = absurd h
  group_alike hidden (Some r) None h = absurd h
  group_alike hidden (Some r) (Some s) h = ap (λ (a : Attrs). a.gid) (twin_attrs hidden r.file s.file h.file)

  looks : (caller : Caller) (reaches hidden : Type 0) → hidden ⊎ (hidden → ⊥) → (o p : Option Row)
      → NumberTwin hidden o p
      → (hidden → (r : Row) → o ≡ Some r → grants_of caller (attrs_of r.file) bits.Read ≡ false)
      → NumberLooksAlike caller reaches o p
  looks caller reaches hidden known None None h unread = tt
  looks caller reaches hidden known None (Some s) h unread = absurd h
  looks caller reaches hidden known (Some r) None h unread = absurd h
  looks caller reaches hidden known (Some r) (Some s) h unread = record {
    parents = h.parents;
    names = h.names;
    attrs = twin_attrs hidden r.file s.file h.file;
    bytes = λ granted up. ⊎_elim (λ yes. let denied = unread yes r refl in absurd (cc)) (λ no. h.file.same no) known;
  }

  -- where no hidden file grants the caller read, he sees the same
  pub unread_twins : (caller : Caller) (w v : World) → ((m : ℕ) → Hidden m ⊎ (Hidden m → ⊥)) → Twins Hidden w v
      → ((m : ℕ) → Hidden m → (r : Row) → map.get w.rows m ≡ Some r → grants_of caller (attrs_of r.file) bits.Read
      ≡ false) → DifferUnread caller w v
  unread_twins caller w v known t unread = record {
    level = t.level;
    rows = λ m. looks caller (Reaches w.rows caller m) (Hidden m) (known m) _ _ (t.rows m) (unread m);
  }

  -- ---- one call

  module _ (numbers : ℕ) (w v : World) (caller : Caller) (tree : IsTree w.rows) (t : Twins Hidden w v)
      (differ : DifferUnread caller w v) where
    at_path : (path : List (List ℕ)) → reached w.rows root path ≡ reached v.rows root path
    at_path path = reached_at caller w v tree differ root path

    changed : (path : List (List ℕ)) (change : File → File) → ((k : ℕ) → Respects (Hidden k) change)
        → Twins Hidden (with_file (map.get w.rows (reached w.rows root path)) (reached w.rows root path) change w)
        (with_file (map.get v.rows (reached v.rows root path)) (reached v.rows root path) change v)
    changed path change respects =
        subst (λ k. Twins Hidden (with_file (map.get w.rows (reached w.rows root path))
        (reached w.rows root path) change w) (with_file (map.get v.rows k) k change v)) (at_path path)
        (file_twin w v (reached w.rows root path) change (respects (reached w.rows root path)) t _ _
        (t.rows (reached w.rows root path)))

    removed : (path : List (List ℕ)) → Twins Hidden (without_row (reached w.rows root path) w)
        (without_row (reached v.rows root path) v)
    removed path = subst (λ k. Twins Hidden (without_row (reached w.rows root path) w) (without_row k v)) (at_path path)
        (without_twin w v (reached w.rows root path) t)

    made : (path : List (List ℕ)) (kind : Kind) (mode : ℕ)
        → Twins Hidden (with_new numbers w caller path kind mode) (with_new numbers v caller path kind mode)
    made path kind mode =
        let dir = reached w.rows root (front path) in
        let other = reached v.rows root (front path) in
        let number = least_same w.rows v.rows (λ m. used_alike (Hidden m) _ _ (t.rows m)) numbers 4 in
        let group : (file_at (map.get w.rows dir)).gid
        ≡ (file_at (map.get v.rows other)).gid = group_alike (Hidden dir) _ _ (t.rows dir)
        ∙ ap (λ k. (file_at (map.get v.rows k)).gid) (at_path (front path)) in
        record {
          level = t.level;
          rows = subst (λ k. RowsTwin (map.insert w.rows (least_unused w.rows numbers 4)
              (record {
                parent = dir;
                name = last path;
                file = new_file caller kind (file_at (map.get w.rows dir)).gid mode;
              }))
              (map.insert v.rows k (record {
                parent = other;
                name = last path;
                file = new_file caller kind (file_at (map.get v.rows other)).gid mode;
              }))) number
              (insert_twin w.rows v.rows (least_unused w.rows numbers 4) _ _
              (record {
                parents = at_path (front path);
                names = refl;
                file = record {
                  rest = ap (λ g. new_file caller kind g mode) (sym group);
                  size = refl;
                  same = λ no. refl;
                };
              }) t.rows);
        }

    moved : (from to : List (List ℕ)) → Twins Hidden (effect numbers w caller (Rename from to))
        (effect numbers v caller (Rename from to))
    moved from to =
        subst (λ o. Twins Hidden (effect numbers w caller (Rename from to))
        (after_rename v (reached v.rows root from) o (reached v.rows root (front to)) (last to)))
        (λ i. child_same caller w v tree differ i (at_path (front to) i) (last to))
        (subst (λ k. Twins Hidden (effect numbers w caller (Rename from to))
        (after_rename v (reached v.rows root from) (child w.rows (reached w.rows root (front to)) (last to)) k
        (last to))) (at_path (front to))
        (subst (λ k. Twins Hidden (effect numbers w caller (Rename from to))
        (after_rename v k (child w.rows (reached w.rows root (front to)) (last to)) (reached w.rows root (front to))
        (last to))) (at_path from)
        (rename_twin w v (reached w.rows root from) (reached w.rows root (front to)) (last to) t
        (child w.rows (reached w.rows root (front to)) (last to)))))

    pub effect_twin : (request : Request) → Twins Hidden (effect numbers w caller request)
        (effect numbers v caller request)
    effect_twin (Stat path) = t
    effect_twin (Read path off len) = t
    effect_twin (Names path) = t
    effect_twin (Write path place []) = t
    effect_twin (Write path place (b ∷ bs)) =
        changed path (written caller place (b ∷ bs)) (λ k. written_respects (Hidden k) caller place b bs)
    effect_twin (SetLength path len) = changed path (cut caller len) (λ k. cut_respects (Hidden k) caller len)
    effect_twin (Create path mode) = made path Regular mode
    effect_twin (Mkdir path mode) = made path Directory mode
    effect_twin (Unlink path) = removed path
    effect_twin (Rmdir path) = removed path
    effect_twin (Rename from to) = moved from to
    effect_twin (Chmod path mode) = changed path (λ f. record f { mode = mode })
        (λ k f bytes size same. record { rest = refl; size = size; same = same })
    effect_twin (Chown path uid gid) = changed path (given caller uid gid)
        (λ k f bytes size same. record { rest = refl; size = size; same = same })
    effect_twin (Chflags path flags) = changed path (λ f. record f { flags = flags })
        (λ k f bytes size same. record { rest = refl; size = size; same = same })
    effect_twin (SetLevel level) = record { level = refl; rows = t.rows }
    effect_twin Sync = t
