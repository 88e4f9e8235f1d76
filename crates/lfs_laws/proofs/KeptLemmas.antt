-- A row stays in its directory through a run of callers who own neither and whom grants, the sticky bit or a flag keep
-- from it: `row_is_kept`, for the law of that name. By Fates: to take a row away one needs what `not_taken` rules out,
-- and to set its mode, owner or flags one must own it; then the callers are as strange to the rows after it
-- (`all_strange`), for the induction on the entries. Only the directory's file must be the same, as it may itself be
-- moved; a right to remove that asked less than `MayTakeAway` breaks `not_taken`.
use Rattle.std.proofs.Common.{◌≡◌, ◌≢◌, ℕ, zero, ◌==◌, List, [], ◌∷◌, Some, inl, inr, refl, sym, ap, ◌∙◌, ⊎_elim}
use Rattle.std.proofs.Common.{ne_eqb}
use Rattle.std.proofs.lemmas.Bool.{or_from}
use Rattle.std.specs.Prelude.{IsSomeAnd}
use Rattle.std.specs.FinMap as map
use Rattle.lfs_types.specs.Caller.{Caller}
use Rattle.lfs_types.specs.Tree.{File, Row, World, root, attrs_of}
use Rattle.lfs_types.specs.declared.answer.Answer.TheVariants.{Served, Denied, Refused}
use Rattle.lfs_types.specs.declared.attrs.Bit.TheVariants as bits
use Rattle.lfs_types.specs.declared.attrs.Kind.TheVariants.{Directory}
use Rattle.lfs_types.specs.declared.request.Request.{Request}
use Rattle.lfs_rules.specs.Bits.{has_bit}
use Rattle.lfs_rules.specs.Grants.{grants_of}
use Rattle.lfs_rules.specs.Owners.{is_owner_or_superuser}
use Rattle.lfs_model.specs.declared.journal.Entry.{Entry}
use Rattle.lfs_model.specs.declared.journal.Event.{Event}
use Rattle.lfs_model.specs.declared.journal.Event.TheVariants.{User, Cleaner}
use Rattle.lfs_model.specs.World.{ancestor, file_at, parent_of, IsTree}
use Rattle.lfs_model.specs.Rules.{row_grants}
use Rattle.lfs_model.specs.Steps.{IsEvent, after_event, world_after}
use Rattle.lfs_laws.specs.LawKept.{AreStrangers, Guards, IsStillHere, IsStranger, RowIsKept}
use Rattle.lfs_laws.specs.Rights.{MayTakeAway, Owns, is_fixed}
use Rattle.lfs_laws.proofs.Fates.{Fate, fate}
use Rattle.lfs_laws.proofs.Fates.Fate.{Stays, Goes, Moves, Changes, Remodes, Gives, Reflags}
use Rattle.lfs_laws.proofs.LawFates.{kept_mode}
use Rattle.lfs_laws.proofs.LawFlags.{both, mode_on}
use Rattle.lfs_laws.proofs.LegalTrees.{event_tree}
use Rattle.lfs_types.proofs.Somewhere.{is_some_and, some_and}

abbrev SameFile : File → Row → Type 0
SameFile file d = d.file ≡ file

module _ (w v : World) (caller : Caller) (request : Request) (tree : IsTree w.rows) (n : ℕ) (row dir : Row)
    (below : n ≢ root)
    (there : map.get w.rows n ≡ Some row) (above : map.get w.rows row.parent ≡ Some dir)
    (ordinary : caller.uid ≢ 0) (not_dir : caller.uid ≢ dir.file.uid) (not_row : caller.uid ≢ row.file.uid)
    (guards : Guards dir row caller) where
  -- neither is his
  not_owned : (m : ℕ) (r : Row) {A : Type 0} → map.get w.rows m ≡ Some r → caller.uid ≢ r.file.uid
      → Owns w.rows caller m → A
  not_owned m r at other owns =
      both (is_owner_or_superuser caller (attrs_of r.file))
      (sym (ap (λ o. is_owner_or_superuser caller (attrs_of (file_at o))) at) ∙ owns.owner)
      (or_from (caller.uid == 0) (caller.uid == r.file.uid) (ne_eqb caller.uid 0 ordinary)
      (ne_eqb caller.uid r.file.uid other))

  -- he may not take the row away
  not_taken : {A : Type 0} → MayTakeAway w.rows caller n row.parent → A
  unfolding ancestor
  not_taken may = ⊎_elim
      (λ denied. both _ (sym (ap (row_grants caller bits.Write) above) ∙ may.writes.granted) denied)
      (λ more. ⊎_elim
      (λ closed. both _ (sym (ap (λ o. row_grants caller bits.Search (map.get w.rows (parent_of o))) there
      ∙ ap (row_grants caller bits.Search) above) ∙ may.reaches zero below) closed)
      (λ more. ⊎_elim
      (λ sticky. ⊎_elim (λ e. absurd (ordinary e)) (λ own. ⊎_elim
      (λ e. absurd (not_row (e ∙ ap (λ o. (file_at o).uid) there)))
      (λ e. absurd (not_dir (e ∙ ap (λ o. (file_at o).uid) above))) own)
      (may.sticky (ap (λ o. has_bit (file_at o).mode 0o1000) above ∙ sticky)))
      (λ more. ⊎_elim
      (λ fixed. both _ fixed (sym (ap (λ o. is_fixed (attrs_of (file_at o))) above) ∙ may.parent_loose))
      (λ fixed. both _ fixed (sym (ap (λ o. is_fixed (attrs_of (file_at o))) there) ∙ may.loose))
      more) more) more) guards

  row_stays : Fate w caller request v n row → IsSomeAnd (map.get v.rows n) (IsStillHere row)
  row_stays (Stays e) = is_some_and (IsStillHere row) e
      (record {
        hangs = record { parents = refl; names = refl };
        kind = refl;
        uid = refl;
        gid = refl;
        flags = refl;
        mode = inl refl;
      })
  row_stays (Goes e x over) = not_taken x.taken
  row_stays (Moves parent name e x) = not_taken x.taken
  row_stays (Changes bytes e x) = is_some_and (IsStillHere row) e
      (record {
        hangs = record { parents = refl; names = refl };
        kind = refl;
        uid = refl;
        gid = refl;
        flags = refl;
        mode = kept_mode (caller.uid == 0) row.file.mode;
      })
  row_stays (Remodes mode e x) = not_owned n row there not_row x.allowed.owns
  row_stays (Gives uid gid e x) = not_owned n row there not_row x.allowed.owns
  row_stays (Reflags flags e x) = not_owned n row there not_row x.owns

  -- what a row hangs in is a directory
  a_directory : dir.file.kind ≡ Directory
  a_directory =
      let up = some_and (map.get w.rows row.parent) (λ (p : Row). p.file.kind ≡ Directory) (tree.parents n row there) in
      let same : dir ≡ up.value = cc (above, up.is) in
      ap (λ (x : Row). x.file.kind) same ∙ up.holds

  dir_stays : Fate w caller request v row.parent dir → IsSomeAnd (map.get v.rows row.parent) (SameFile dir.file)
  dir_stays (Stays e) = is_some_and (SameFile dir.file) e refl
  dir_stays (Goes e x over) = absurd (x.childless row.name n
      (record { row = row; there = there; below = below; hangs = refl; named = refl }))
  dir_stays (Moves parent name e x) = is_some_and (SameFile dir.file) e refl
  dir_stays (Changes bytes e x) = let regular = x.regular in let directory = a_directory in absurd (cc)
  dir_stays (Remodes mode e x) = not_owned row.parent dir above not_dir x.allowed.owns
  dir_stays (Gives uid gid e x) = not_owned row.parent dir above not_dir x.allowed.owns
  dir_stays (Reflags flags e x) = not_owned row.parent dir above not_dir x.owns

-- ---- one entry

here : (row : Row) → IsStillHere row row
here row = record {
  hangs = record { parents = refl; names = refl };
  kind = refl;
  uid = refl;
  gid = refl;
  flags = refl;
  mode = inl refl;
}

module _ (numbers segments : ℕ) (w : World) (n : ℕ) (row dir : Row) (tree : IsTree w.rows) (below : n ≢ root)
    (there : map.get w.rows n ≡ Some row) (above : map.get w.rows row.parent ≡ Some dir) where
  row_event : (caller : Caller) (event : Event) → IsEvent numbers segments w caller event
      → IsStranger dir row caller event
      → IsSomeAnd (map.get (after_event numbers w caller event).rows n) (IsStillHere row)
  row_event caller (User request (Served shown)) is strange =
      row_stays w _ caller request tree n row dir below there above strange.0 strange.1 strange.2 strange.3
      (fate numbers w caller tree n row there request (Served shown) is)
  row_event caller (User request (Denied denial)) is strange = is_some_and (IsStillHere row) there (here row)
  row_event caller (User request (Refused resource)) is strange = is_some_and (IsStillHere row) there (here row)
  row_event caller (Cleaner kind outcome) is strange = is_some_and (IsStillHere row) there (here row)

  dir_event : (caller : Caller) (event : Event) → IsEvent numbers segments w caller event
      → IsStranger dir row caller event
      → IsSomeAnd (map.get (after_event numbers w caller event).rows row.parent) (SameFile dir.file)
  dir_event caller (User request (Served shown)) is strange =
      dir_stays w _ caller request tree n row dir below there above strange.0 strange.1 strange.2 strange.3
      (fate numbers w caller tree row.parent dir above request (Served shown) is)
  dir_event caller (User request (Denied denial)) is strange = is_some_and (SameFile dir.file) above refl
  dir_event caller (User request (Refused resource)) is strange = is_some_and (SameFile dir.file) above refl
  dir_event caller (Cleaner kind outcome) is strange = is_some_and (SameFile dir.file) above refl

-- ---- lists of entries

-- strangers to two rows are so to what these become
strange_still : (dir row dir_now row_now : Row) → dir_now.file ≡ dir.file → row_now.file.uid ≡ row.file.uid
    → row_now.file.flags ≡ row.file.flags → (caller : Caller) (event : Event)
    → IsStranger dir row caller event → IsStranger dir_now row_now caller event
strange_still dir row dir_now row_now d r flags caller (User request answer) s = (
  s.0,
  λ e. s.1 (e ∙ ap (λ (f : File). f.uid) d),
  λ e. s.2 (e ∙ r),
  ⊎_elim
      (λ write. inl (ap (λ (f : File). grants_of caller (attrs_of f) bits.Write) d ∙ write))
      (λ more. inr (⊎_elim
      (λ search. inl (ap (λ (f : File). grants_of caller (attrs_of f) bits.Search) d ∙ search))
      (λ more. inr (⊎_elim
      (λ sticky. inl (ap (λ (f : File). has_bit f.mode 0o1000) d ∙ sticky))
      (λ more. inr (⊎_elim
      (λ fixed. inl (ap (λ (f : File). is_fixed (attrs_of f)) d ∙ fixed))
      (λ fixed. inr (ap (λ (k : ℕ). is_fixed (attrs_of (record row.file { flags = k }))) flags ∙ fixed))
      more))
      more))
      more))
      s.3,
)
strange_still dir row dir_now row_now d r flags caller (Cleaner kind outcome) s = tt

all_strange : (dir row dir_now row_now : Row) → dir_now.file ≡ dir.file → row_now.file.uid ≡ row.file.uid
    → row_now.file.flags ≡ row.file.flags → (entries : List Entry)
    → AreStrangers dir row entries → AreStrangers dir_now row_now entries
all_strange dir row dir_now row_now d r flags [] s = tt
all_strange dir row dir_now row_now d r flags (e ∷ es) s = (
  strange_still dir row dir_now row_now d r flags e.cred e.event s.0,
  all_strange dir row dir_now row_now d r flags es s.1,
)

here_on : (x y z : Row) → IsStillHere x y → IsStillHere y z → IsStillHere x z
here_on x y z a b = record {
  hangs = record { parents = b.hangs.parents ∙ a.hangs.parents; names = b.hangs.names ∙ a.hangs.names };
  kind = b.kind ∙ a.kind;
  uid = b.uid ∙ a.uid;
  gid = b.gid ∙ a.gid;
  flags = b.flags ∙ a.flags;
  mode = mode_on x.file.mode y.file.mode z.file.mode a.mode b.mode;
}

pub row_is_kept : RowIsKept
row_is_kept numbers segments [] w n row dir tree legal below there above strange =
    (is_some_and (IsStillHere row) there (here row), is_some_and (SameFile dir.file) above refl)
row_is_kept numbers segments (e ∷ es) w n row dir tree legal below there above strange =
    let after = after_event numbers w e.cred e.event in
    let r = some_and _ (IsStillHere row) (row_event numbers segments w n row dir tree below there above e.cred e.event
    legal.0 strange.0) in
    let d = some_and _ (SameFile dir.file) (dir_event numbers segments w n row dir tree below there above e.cred e.event
    legal.0 strange.0) in
    let rest = row_is_kept numbers segments es after n r.value d.value
    (event_tree numbers segments w e.cred e.event tree legal.0) legal.1 below r.is
    (ap (map.get after.rows) r.holds.hangs.parents ∙ d.is)
    (all_strange dir row d.value r.value d.holds r.holds.uid r.holds.flags es strange.1) in
    let s = some_and _ (IsStillHere r.value) rest.0 in
    let t = some_and _ (SameFile d.value.file) rest.1 in (
      is_some_and (IsStillHere row) s.is (here_on row r.value s.value r.holds s.holds),
      is_some_and (SameFile dir.file) (ap (map.get (world_after numbers es after).rows) (sym r.holds.hangs.parents)
          ∙ t.is) (t.holds ∙ d.holds),
    )
