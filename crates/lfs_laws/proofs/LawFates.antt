-- What a served call can do to a row that is there, as far as flags and modes tell: it stays, gets other bytes, another
-- title or other flags, or loses its name (`fate`, for LawFlags); Fates, which tells the rights too, takes its pieces
-- on changed maps from here. Call by call: a row with another number than the one at the path's end stays, and that one
-- was tested as the request asks. The hard one is a Rename, where the moved row and the one that gives way are both
-- displaced; another effect of a call is a case more in `fate` and in each proof of LawFlags.
use Rattle.std.proofs.Common.{◌≡◌, ◌≢◌, ◌⊎◌, ℕ, ◌+◌, ◌-◌, ◌==◌, ◌&&◌, ◌||◌, not, Bool, true, false, cond, List, [], ◌∷◌}
use Rattle.std.proofs.Common.{◌++◌, length, replicate, Option, None, Some, inl, inr, refl, sym, ap, ◌∙◌, ⊎_elim, arith}
use Rattle.std.proofs.Common.{append-nil, eqb-true, drop_of_length-le, take_all}
use Rattle.std.proofs.lemmas.Bool.{not-true, cases_eq}
use Rattle.std.specs.FinMap as map
use Rattle.lfs_types.specs.Caller.{Caller}
use Rattle.lfs_types.specs.Splicing.{splice}
use Rattle.lfs_types.specs.Tree.{File, Row, World, root, attrs_of}
use Rattle.lfs_types.specs.declared.attrs.Attrs.{Attrs}
use Rattle.lfs_types.specs.declared.attrs.Bit.TheVariants as bits
use Rattle.lfs_types.specs.declared.request.Place.{Place}
use Rattle.lfs_types.specs.declared.request.Place.TheVariants.{At, End}
use Rattle.lfs_types.specs.declared.request.Request.{Request}
use Rattle.lfs_types.specs.declared.request.Request.TheVariants.{Stat, Read, Write, List as Names, SetLength, Create}
use Rattle.lfs_types.specs.declared.request.Request.TheVariants.{Mkdir, Unlink, Rmdir, Rename, Chmod, Chown, Chflags}
use Rattle.lfs_types.specs.declared.request.Request.TheVariants.{SetLevel, Sync}
use Rattle.lfs_rules.specs.Grants.{grants_of}
use Rattle.lfs_rules.specs.Locks.{is_immutable, is_append_only, may_set_flags, keeps_system_locks}
use Rattle.lfs_rules.specs.Owners.{is_the_superuser, is_the_owner, is_owner_or_superuser, may_set_owner}
use Rattle.lfs_rules.specs.SetId.{set_id_cleared}
use Rattle.lfs_types.specs.declared.rule.Rule.TheVariants.{FitsFile}
use Rattle.std.specs.Prelude.{nat_le}
use Rattle.lfs_model.specs.World.{Rows, file_at}
use Rattle.lfs_model.specs.Rules.{decide, first_failing, reached, front, last, attrs_at, asks, start_in, file_max}
use Rattle.lfs_model.specs.Rules.{is_end, walk, removing, arriving, moving_tests}
use Rattle.lfs_model.specs.Effects.{effect, after_rename, with_file, with_place, without_row, written, cut, given}
use Rattle.lfs_model.specs.Effects.{least_unused}
use Rattle.lfs_laws.specs.LawsFlags.{SetsFlags}
use Rattle.lfs_laws.specs.LawOneThing.{KeepsMode}
use Rattle.lfs_model.specs.Steps.{LacksInodes, AllUsed}
use Rattle.lfs_model.proofs.Allowed.{MayChange, MayGo, MayRemove, may_change, may_go, may_remove}
use Rattle.lfs_model.proofs.Deciding.{met_first, passes-append}
use Rattle.lfs_model.proofs.NewNumbers.{new_unused}
use Rattle.lfs_types.proofs.Maps.{get-insert_same, get-insert_other, get-remove_other}

-- a row that is there has another number than a new one
pub old_not_new : (numbers : ℕ) (rows : Rows) (n : ℕ) (r : Row) → (AllUsed numbers rows → ⊥) → map.get rows n ≡ Some r
    → n ≢ least_unused rows numbers 4
old_not_new numbers rows n r room there e =
    let none : map.get rows n ≡ None = ap (map.get rows) e ∙ new_unused numbers rows room in
    absurd (cc)

-- bytes were written to a file, or it got another length
pub record Rewritten (caller : Caller) (old new : File) : Type 0 where
  pub kind : new.kind ≡ old.kind
  pub owner : new.uid ≡ old.uid
  pub group : new.gid ≡ old.gid
  pub mode : KeepsMode old.mode new.mode
  pub flags : new.flags ≡ old.flags
  pub granted : grants_of caller (attrs_of old) bits.Write ≡ true
  pub mutable : is_immutable (attrs_of old) ≡ false
  pub longer : is_append_only (attrs_of old) ≡ true → (more : List ℕ) × (new.bytes ≡ old.bytes ++ more)

-- a file got another mode, owner or group
pub record Retitled (caller : Caller) (old new : File) : Type 0 where
  pub kind : new.kind ≡ old.kind
  pub flags : new.flags ≡ old.flags
  pub bytes : new.bytes ≡ old.bytes
  pub mutable : is_immutable (attrs_of old) ≡ false
  pub rewritable : is_append_only (attrs_of old) ≡ false
  pub owned : is_owner_or_superuser caller (attrs_of old) ≡ true
  pub owner : is_the_superuser caller ≡ false → new.uid ≡ old.uid

-- a file got other flags
pub record Reflagged (w : World) (caller : Caller) (request : Request) (n : ℕ) (old : File) (flags : ℕ) : Type 0 where
  pub sets : SetsFlags n w caller request
  pub owned : is_owner_or_superuser caller (attrs_of old) ≡ true
  pub allowed : may_set_flags caller old.flags flags ≡ true
  pub locks : keeps_system_locks w.level old.flags flags ≡ true

-- a row's name was taken away, for good or for another
pub record Displaced (r : Row) : Type 0 where
  pub mutable : is_immutable (attrs_of r.file) ≡ false
  pub rewritable : is_append_only (attrs_of r.file) ≡ false

-- what came of a row
pub data Fate (numbers : ℕ) (w : World) (caller : Caller) (request : Request) (n : ℕ) (r : Row) : Type 0 where
  Stays : map.get (effect numbers w caller request).rows n ≡ Some r → Fate numbers w caller request n r
  Rewrites : (file : File) → map.get (effect numbers w caller request).rows n ≡ Some (record r { file = file })
      → Rewritten caller r.file file → Fate numbers w caller request n r
  Retitles : (file : File) → map.get (effect numbers w caller request).rows n ≡ Some (record r { file = file })
      → Retitled caller r.file file → Fate numbers w caller request n r
  Reflags : (flags : ℕ) → map.get (effect numbers w caller request).rows n
      ≡ Some (record r { file = record r.file { flags = flags } }) → Reflagged w caller request n r.file flags
      → Fate numbers w caller request n r
  Displaces : Displaced r → Fate numbers w caller request n r

-- ---- the row in the changed map

with_file_rows : (o : Option Row) (m : ℕ) (change : File → File) (w : World) (r : Row) → o ≡ Some r
    → (with_file o m change w).rows ≡ map.insert w.rows m (record r { file = change r.file })
with_file_rows None m change w r h = absurd (cc)
with_file_rows (Some x) m change w r h = let same : x
    ≡ r = cc in ap (λ (y : Row). map.insert w.rows m (record y { file = change y.file })) same

-- the row whose file is changed
pub file_changed : (w : World) (n m : ℕ) (r : Row) (change : File → File) → map.get w.rows n ≡ Some r → n ≡ m
    → map.get (with_file (map.get w.rows m) m change w).rows n ≡ Some (record r { file = change r.file })
file_changed w n m r change there same =
    ap (λ (rows : Rows). map.get rows n) (with_file_rows (map.get w.rows m) m change w r (ap (map.get w.rows) (sym same)
    ∙ there))
    ∙ ap (map.get (map.insert w.rows m (record r { file = change r.file }))) same
    ∙ get-insert_same w.rows m (record r { file = change r.file })

-- another row
pub file_unchanged : (o : Option Row) (w : World) (n m : ℕ) (change : File → File) → n ≢ m
    → map.get (with_file o m change w).rows n ≡ map.get w.rows n
file_unchanged None w n m change other = refl
file_unchanged (Some x) w n m change other = get-insert_other w.rows m (record x { file = change x.file }) n other

-- a row stays where another gets a place
pub place_unchanged : (o : Option Row) (w : World) (n m parent : ℕ) (name : List ℕ) → n ≢ m
    → map.get (with_place o m parent name w).rows n ≡ map.get w.rows n
place_unchanged None w n m parent name other = refl
place_unchanged (Some x) w n m parent name other =
    get-insert_other w.rows m (record x { parent = parent; name = name }) n other

-- bytes put at the end of a file stand behind those that it has
pub splice_end : (old : List ℕ) (b : ℕ) (bs : List ℕ) → splice old (length old) (b ∷ bs) ≡ old ++ (b ∷ bs)
splice_end old b bs =
    let taken = take_all (length old) old (omega arith) in
    let gap : length old - length old ≡ 0 = omega arith in
    let dropped = drop_of_length-le old {i = length old + length (b ∷ bs)} (omega arith) in
    (λ i. taken i ++ replicate (gap i) 0 ++ (b ∷ bs) ++ dropped i)
    ∙ append-nil ((old ++ []) ++ (b ∷ bs)) ∙ ap (λ l. l ++ (b ∷ bs)) (append-nil old)

-- what may be written to an append-only file goes to its end
pub at_end : (place : Place) (append : Bool) → (is_end place || not append) ≡ true → append ≡ true → place ≡ End
at_end End append h e = refl
at_end (At start) true h e = absurd (cc)
at_end (At start) false h e = absurd (cc)

-- ---- who sets an owner

-- whoever passes such a test is the superuser or the owner
pub owner_first : (s o u g : Bool) → (s || ((o && u) && g)) ≡ true → (s || o) ≡ true
owner_first true o u g h = refl
owner_first false true u g h = refl
owner_first false false u g h = absurd (cc)

kept : (s o u g : Bool) → (s || ((o && u) && g)) ≡ true → s ≡ false → u ≡ true
kept true o u g h other = absurd (cc)
kept false true true g h other = refl
kept false true false g h other = absurd (cc)
kept false false u g h other = absurd (cc)

-- whoever may set an owner and a group is the owner or the superuser
owner_sets : (caller : Caller) (attrs : Attrs) (uid gid : ℕ) → may_set_owner caller attrs uid gid ≡ true
    → is_owner_or_superuser caller attrs ≡ true
owner_sets caller attrs uid gid h = owner_first (is_the_superuser caller) (is_the_owner caller attrs)
    (uid == attrs.uid) _ h

-- and another than the superuser keeps the owner
owner_keeps : (caller : Caller) (attrs : Attrs) (uid gid : ℕ) → may_set_owner caller attrs uid gid ≡ true
    → is_the_superuser caller ≡ false → uid ≡ attrs.uid
owner_keeps caller attrs uid gid h other =
    eqb-true uid attrs.uid (kept (is_the_superuser caller) (is_the_owner caller attrs) (uid == attrs.uid) _ h other)

-- a change of bytes keeps the mode, or takes the set-id bits away
pub kept_mode : (super : Bool) (mode : ℕ) → KeepsMode mode (cond super mode (set_id_cleared mode))
kept_mode true mode = inl refl
kept_mode false mode = inr refl

-- ---- each call

module _ (numbers : ℕ) (w : World) (caller : Caller) (n : ℕ) (r : Row) (there : map.get w.rows n ≡ Some r) where
  -- what is known of the row at the end of a path is known of this one
  attrs_here : (m : ℕ) → n ≡ m → attrs_at w.rows m ≡ attrs_of r.file
  attrs_here m same = ap (λ o. attrs_of (file_at o)) (ap (map.get w.rows) (sym same) ∙ there)

  rewritten_here : (path : List (List ℕ)) (appends : Bool) (new : File) → n ≡ reached w.rows root path
      → MayChange w.rows caller path appends
      → new.kind ≡ r.file.kind → new.uid ≡ r.file.uid → new.gid ≡ r.file.gid → KeepsMode r.file.mode new.mode
      → new.flags ≡ r.file.flags
      → (is_append_only (attrs_of r.file) ≡ true → (more : List ℕ) × (new.bytes ≡ r.file.bytes ++ more))
      → Rewritten caller r.file new
  rewritten_here path appends new same may kind owner group mode flags longer = record {
    kind = kind;
    owner = owner;
    group = group;
    mode = mode;
    flags = flags;
    granted = ap (λ x. grants_of caller x bits.Write) (sym (attrs_here _ same)) ∙ may.granted;
    mutable = ap is_immutable (sym (attrs_here _ same)) ∙ may.mutable;
    longer = longer;
  }

  displaced_here : (m : ℕ) → n ≡ m → is_immutable (attrs_at w.rows m) ≡ false → is_append_only (attrs_at w.rows m)
      ≡ false → Displaced r
  displaced_here m same mutable rewritable = record {
    mutable = ap is_immutable (sym (attrs_here m same)) ∙ mutable;
    rewritable = ap is_append_only (sym (attrs_here m same)) ∙ rewritable;
  }

  -- a removed row, or another
  removed_fate : (request : Request) (path : List (List ℕ)) → MayRemove w.rows caller path
      → (effect numbers w caller request).rows ≡ map.remove w.rows (reached w.rows root path)
      → Fate numbers w caller request n r
  removed_fate request path may is = ⊎_elim
      (λ same. Displaces (displaced_here _ same may.mutable may.rewritable))
      (λ other. Stays (ap (λ (rows : Rows). map.get rows n) is
      ∙ get-remove_other w.rows (reached w.rows root path) n other ∙ there))
      (cases_eq n (reached w.rows root path))

  -- what comes of the row where a Rename put one in another place
  abbrev RenameFate : World → Type 0
  RenameFate v = (map.get v.rows n ≡ Some r) ⊎ Displaced r

  over_fate : (from to : List (List ℕ)) (m : ℕ) (b : Bool) → (m == reached w.rows root from) ≡ b
      → MayRemove w.rows caller from → (b ≡ false → MayGo w.rows caller from to (Some m))
      → RenameFate (cond b w (with_place (map.get w.rows (reached w.rows root from)) (reached w.rows root from)
      (reached w.rows root (front to)) (last to) (without_row m w)))
  over_fate from to m true e out goes = inl there
  over_fate from to m false e out goes = ⊎_elim
      (λ same. inr (displaced_here _ same out.mutable out.rewritable))
      (λ other. ⊎_elim
      (λ gone. let way = (goes refl).gives m refl in inr (displaced_here m gone way.mutable way.rewritable))
      (λ away. inl (place_unchanged (map.get w.rows (reached w.rows root from)) (without_row m w) n _
      (reached w.rows root (front to)) (last to) other ∙ get-remove_other w.rows m n away ∙ there))
      (cases_eq n m))
      (cases_eq n (reached w.rows root from))

  renamed : (from to : List (List ℕ)) (o : Option ℕ) → first_failing (moving_tests w.rows caller from to o) ≡ None
      → MayRemove w.rows caller from
      → RenameFate (after_rename w (reached w.rows root from) o (reached w.rows root (front to)) (last to))
  renamed from to None h out = ⊎_elim
      (λ same. inr (displaced_here _ same out.mutable out.rewritable))
      (λ other. inl (place_unchanged (map.get w.rows (reached w.rows root from)) w n _ (reached w.rows root (front to))
      (last to) other ∙ there))
      (cases_eq n (reached w.rows root from))
  renamed from to (Some m) h out = over_fate from to m (m == reached w.rows root from) refl out
      (λ other. may_go w.rows caller from to (Some m) other h)

  -- what each call makes of a row
  pub fate : (request : Request) → decide w caller request ≡ None → (LacksInodes numbers w request → ⊥)
      → Fate numbers w caller request n r
  fate (Stat path) allowed room = Stays there
  fate (Read path off len) allowed room = Stays there
  fate (Names path) allowed room = Stays there
  fate (Write path place []) allowed room = Stays there
  fate (Write path place (b ∷ bs)) allowed room =
      let may = may_change w.rows caller path (is_end place)
      (λ attrs k. asks (nat_le (start_in place attrs.size + length (b ∷ bs)) file_max) FitsFile 0 k ∷ []) allowed in
      ⊎_elim
      (λ same. Rewrites (written caller place (b ∷ bs) r.file)
      (file_changed w n _ r (written caller place (b ∷ bs)) there same)
      (rewritten_here path (is_end place) (written caller place (b ∷ bs) r.file) same may refl refl refl
      (kept_mode (caller.uid == 0) r.file.mode) refl
      (λ append.
      let is : is_append_only (attrs_at w.rows (reached w.rows root path))
      ≡ true = ap is_append_only (attrs_here _ same) ∙ append in
      let at = at_end place _ may.keeps is in (
        b ∷ bs,
        ap (λ p. splice r.file.bytes (start_in p (length r.file.bytes)) (b ∷ bs)) at
            ∙ splice_end r.file.bytes b bs,
      ))))
      (λ other. Stays (file_unchanged (map.get w.rows (reached w.rows root path)) w n _
      (written caller place (b ∷ bs)) other ∙ there))
      (cases_eq n (reached w.rows root path))
  fate (SetLength path len) allowed room =
      let may = may_change w.rows caller path false (λ attrs k. asks (nat_le len file_max) FitsFile 0 k ∷ []) allowed in
      ⊎_elim
      (λ same. Rewrites (cut caller len r.file) (file_changed w n _ r (cut caller len) there same)
      (rewritten_here path false (cut caller len r.file) same may refl refl refl
      (kept_mode (caller.uid == 0) r.file.mode) refl
      (λ append.
      let is : is_append_only (attrs_at w.rows (reached w.rows root path))
      ≡ true = ap is_append_only (attrs_here _ same) ∙ append in
      let no = ap not is ∙ refl in
      absurd (cc (may.keeps, no)))))
      (λ other. Stays (file_unchanged (map.get w.rows (reached w.rows root path)) w n _ (cut caller len) other ∙ there))
      (cases_eq n (reached w.rows root path))
  fate (Create path mode) allowed room = Stays
      (get-insert_other w.rows _ _ n (old_not_new numbers w.rows n r room there) ∙ there)
  fate (Mkdir path mode) allowed room = Stays (get-insert_other w.rows _ _ n (old_not_new numbers w.rows n r room there)
      ∙ there)
  fate (Unlink path) allowed room = removed_fate (Unlink path) path
      (may_remove w.rows caller path (passes-append (removing w.rows caller path) _ allowed).0) refl
  fate (Rmdir path) allowed room = removed_fate (Rmdir path) path
      (may_remove w.rows caller path (passes-append (removing w.rows caller path) _ allowed).0) refl
  fate (Rename from to) allowed room =
      let one = passes-append (removing w.rows caller from) _ allowed in
      let two = passes-append (arriving w.rows caller to) _ one.1 in
      ⊎_elim (λ e. Stays e) (λ d. Displaces d) (renamed from to _ two.1 (may_remove w.rows caller from one.0))
  fate (Chmod path mode) allowed room =
      let a = met_first _ _ _ (passes-append (walk w.rows caller 0 0 root path) _ allowed).1 in
      let b = met_first _ _ _ a.1 in
      let c = met_first _ _ _ b.1 in
      ⊎_elim
      (λ same. let here = sym (attrs_here _ same) in
      Retitles (record r.file { mode = mode }) (file_changed w n _ r (λ f. record f { mode = mode }) there same)
      (record {
        kind = refl;
        flags = refl;
        bytes = refl;
        mutable = ap is_immutable here ∙ not-true _ a.0;
        rewritable = ap is_append_only here ∙ not-true _ b.0;
        owned = ap (is_owner_or_superuser caller) here ∙ c.0;
        owner = λ h. refl;
      }))
      (λ other. Stays (file_unchanged (map.get w.rows (reached w.rows root path)) w n _
      (λ f. record f { mode = mode }) other ∙ there))
      (cases_eq n (reached w.rows root path))
  fate (Chown path uid gid) allowed room =
      let a = met_first _ _ _ (passes-append (walk w.rows caller 0 0 root path) _ allowed).1 in
      let b = met_first _ _ _ a.1 in
      let c = met_first _ _ _ b.1 in
      ⊎_elim
      (λ same. let here = sym (attrs_here _ same) in
      let may : may_set_owner caller (attrs_of r.file) uid gid ≡ true = ap (λ x. may_set_owner caller x uid gid) here
      ∙ c.0 in
      Retitles (given caller uid gid r.file) (file_changed w n _ r (given caller uid gid) there same) (record {
        kind = refl;
        flags = refl;
        bytes = refl;
        mutable = ap is_immutable here ∙ not-true _ a.0;
        rewritable = ap is_append_only here ∙ not-true _ b.0;
        owned = owner_sets caller (attrs_of r.file) uid gid may;
        owner = owner_keeps caller (attrs_of r.file) uid gid may;
      }))
      (λ other. Stays (file_unchanged (map.get w.rows (reached w.rows root path)) w n _ (given caller uid gid) other
      ∙ there))
      (cases_eq n (reached w.rows root path))
  fate (Chflags path flags) allowed room =
      let a = met_first _ _ _ (passes-append (walk w.rows caller 0 0 root path) _ allowed).1 in
      let b = met_first _ _ _ a.1 in
      let c = met_first _ _ _ b.1 in
      ⊎_elim
      (λ same. let here = sym (attrs_here _ same) in
      Reflags flags (file_changed w n _ r (λ f. record f { flags = flags }) there same) (record {
        sets = sym same;
        owned = ap (is_owner_or_superuser caller) here ∙ a.0;
        allowed = ap (λ (x : Attrs). may_set_flags caller x.flags flags) here ∙ b.0;
        locks = ap (λ (x : Attrs). keeps_system_locks w.level x.flags flags) here ∙ c.0;
      }))
      (λ other. Stays (file_unchanged (map.get w.rows (reached w.rows root path)) w n _
      (λ f. record f { flags = flags }) other ∙ there))
      (cases_eq n (reached w.rows root path))
  fate (SetLevel level) allowed room = Stays there
  fate Sync allowed room = Stays there
