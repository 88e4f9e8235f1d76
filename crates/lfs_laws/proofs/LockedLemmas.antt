-- While its flags aren't set, a directory that is locked keeps its names (`names_stay`), and an immutable one gets no
-- other (`no_name_comes`), for the law `locked_names_stay`; SystemNames takes the single entries. By Fates a row goes
-- or moves only out of a directory that isn't fixed, and by the laws of one call a row is placed only in one that is
-- mutable; the directory keeps its flags, so this holds on by induction on the entries. An append-only directory may
-- get names, so the second half asks for the immutable flag; a removal that didn't ask for the parent's flags would
-- break the first.
use Rattle.std.proofs.Common.{◌≡◌, ℕ, ◌||◌, true, false, List, [], ◌∷◌, Option, None, Some, refl, sym, ap, ◌∙◌, ⊎_elim}
use Rattle.std.proofs.lemmas.Bool.{or_left}
use Rattle.std.specs.Prelude.{IsSomeAnd}
use Rattle.std.specs.FinMap as map
use Rattle.lfs_types.specs.Caller.{Caller}
use Rattle.lfs_types.specs.Tree.{Row, World, attrs_of}
use Rattle.lfs_types.specs.declared.answer.Answer.TheVariants.{Served, Denied, Refused}
use Rattle.lfs_types.specs.declared.request.Request.{Request}
use Rattle.lfs_types.specs.declared.request.Request.TheVariants.{Stat, Read, Write, List as Names, SetLength, Create}
use Rattle.lfs_types.specs.declared.request.Request.TheVariants.{Mkdir, Unlink, Rmdir, Rename, Chmod, Chown, Chflags}
use Rattle.lfs_types.specs.declared.request.Request.TheVariants.{SetLevel, Sync}
use Rattle.lfs_types.specs.declared.answer.Served as shows
use Rattle.lfs_rules.specs.Bits.{has_bit}
use Rattle.lfs_rules.specs.Locks.{is_immutable}
use Rattle.lfs_model.specs.declared.journal.Entry.{Entry}
use Rattle.lfs_model.specs.declared.journal.Event.{Event}
use Rattle.lfs_model.specs.declared.journal.Event.TheVariants.{User, Cleaner}
use Rattle.lfs_model.specs.World.{file_at, IsChild, IsTree}
use Rattle.lfs_laws.specs.LawFlagged.{SetsFlagsTo}
use Rattle.lfs_laws.specs.LawLocked.{NamesStay, NoNameComes}
use Rattle.lfs_laws.specs.LawMoved.{HangsStill}
use Rattle.lfs_laws.specs.LawsFlags.{SetsFlags}
use Rattle.lfs_laws.specs.LawsRuns.{IsServed, NoneServed}
use Rattle.lfs_laws.specs.Rights.{is_fixed}
use Rattle.lfs_model.specs.Rules.{attrs_at}
use Rattle.lfs_model.specs.Steps.{IsEvent, IsLegal, after_event, world_after}
use Rattle.lfs_laws.proofs.BetweenLemmas.{cases_place}
use Rattle.lfs_laws.proofs.CallLaws.{new_law}
use Rattle.lfs_laws.proofs.Fates.{Fate, fate}
use Rattle.lfs_laws.proofs.Fates.Fate.{Stays, Goes, Moves, Changes, Remodes, Gives, Reflags}
use Rattle.lfs_laws.proofs.LegalTrees.{event_tree}
use Rattle.lfs_laws.proofs.RowLaws.{moved_law}
use Rattle.lfs_types.proofs.Somewhere.{is_some_and, some_and}
use Rattle.lfs_laws.proofs.LawFlags.{both}

sets_flags : (w : World) (caller : Caller) (d flags : ℕ) (request : Request) → SetsFlagsTo w d flags request
    → SetsFlags d w caller request
sets_flags w caller d flags (Stat path) h = h
sets_flags w caller d flags (Read path off len) h = h
sets_flags w caller d flags (Names path) h = h
sets_flags w caller d flags (Write path place bytes) h = h
sets_flags w caller d flags (SetLength path len) h = h
sets_flags w caller d flags (Create path mode) h = h
sets_flags w caller d flags (Mkdir path mode) h = h
sets_flags w caller d flags (Unlink path) h = h
sets_flags w caller d flags (Rmdir path) h = h
sets_flags w caller d flags (Rename from to) h = h
sets_flags w caller d flags (Chmod path mode) h = h
sets_flags w caller d flags (Chown path uid gid) h = h
sets_flags w caller d flags (Chflags path new) h = h.0
sets_flags w caller d flags (SetLevel level) h = h
sets_flags w caller d flags Sync h = h

module _ (w : World) (n : ℕ) (r : Row) (there : map.get w.rows n ≡ Some r) where
  pub at_row : attrs_at w.rows n ≡ attrs_of r.file
  at_row = ap (λ o. attrs_of (file_at o)) there

-- a row of the same flags is as fixed
abbrev SameFlags : Row → Row → Type 0
SameFlags r s = s.file.flags ≡ r.file.flags

-- a fixed row keeps its flags by a call that doesn't set them
flags_stay : (w v : World) (caller : Caller) (request : Request) (d : ℕ) (r : Row) → map.get w.rows d ≡ Some r
    → is_fixed (attrs_of r.file) ≡ true
    → (SetsFlags d w caller request → ⊥) → Fate w caller request v d r → IsSomeAnd (map.get v.rows d) (SameFlags r)
flags_stay w v caller request d r there set none (Stays e) = is_some_and (SameFlags r) e refl
flags_stay w v caller request d r there set none (Goes e x over) =
    both _ set (sym (ap is_fixed (at_row w d r there)) ∙ x.taken.loose)
flags_stay w v caller request d r there set none (Moves parent name e x) =
    both _ set (sym (ap is_fixed (at_row w d r there)) ∙ x.taken.loose)
flags_stay w v caller request d r there set none (Changes bytes e x) = is_some_and (SameFlags r) e refl
flags_stay w v caller request d r there set none (Remodes mode e x) = is_some_and (SameFlags r) e refl
flags_stay w v caller request d r there set none (Gives uid gid e x) = is_some_and (SameFlags r) e refl
flags_stay w v caller request d r there set none (Reflags flags e x) =
    absurd (none (sets_flags w caller d flags request x.asked))

-- what hangs in a fixed directory stays by a call
name_stays : (w v : World) (caller : Caller) (request : Request) (d : ℕ) (dir : Row) (name : List ℕ) (n : ℕ)
    → map.get w.rows d ≡ Some dir → is_fixed (attrs_of dir.file) ≡ true
    → (c : IsChild w.rows d name n) → Fate w caller request v n c.row → IsChild v.rows d name n
name_stays w v caller request d dir name n there set c (Stays e) =
    record { row = c.row; there = e; below = c.below; hangs = c.hangs; named = c.named }
name_stays w v caller request d dir name n there set c (Goes e x over) =
    both _ set (sym (ap is_fixed (at_row w d dir there)) ∙ ap (λ p. is_fixed (attrs_at w.rows p)) (sym c.hangs)
    ∙ x.taken.parent_loose)
name_stays w v caller request d dir name n there set c (Moves parent to e x) =
    both _ set (sym (ap is_fixed (at_row w d dir there)) ∙ ap (λ p. is_fixed (attrs_at w.rows p)) (sym c.hangs)
    ∙ x.taken.parent_loose)
name_stays w v caller request d dir name n there set c (Changes bytes e x) =
    record { row = _; there = e; below = c.below; hangs = c.hangs; named = c.named }
name_stays w v caller request d dir name n there set c (Remodes mode e x) =
    record { row = _; there = e; below = c.below; hangs = c.hangs; named = c.named }
name_stays w v caller request d dir name n there set c (Gives uid gid e x) =
    record { row = _; there = e; below = c.below; hangs = c.hangs; named = c.named }
name_stays w v caller request d dir name n there set c (Reflags flags e x) =
    record { row = _; there = e; below = c.below; hangs = c.hangs; named = c.named }

module _ (numbers segments d : ℕ) where
  -- ---- one entry

  flags_event : (w : World) (caller : Caller) (event : Event) (r : Row) → IsTree w.rows
      → IsEvent numbers segments w caller event → (IsServed (SetsFlags d w caller) event → ⊥)
      → map.get w.rows d ≡ Some r → is_fixed (attrs_of r.file) ≡ true
      → IsSomeAnd (map.get (after_event numbers w caller event).rows d) (SameFlags r)
  flags_event w caller (User request (Served shown)) r tree is none there set =
      flags_stay w _ caller request d r there set none (fate numbers w caller tree d r there request (Served shown) is)
  flags_event w caller (User request (Denied denial)) r tree is none there set = is_some_and (SameFlags r) there refl
  flags_event w caller (User request (Refused resource)) r tree is none there set = is_some_and (SameFlags r) there refl
  flags_event w caller (Cleaner kind outcome) r tree is none there set = is_some_and (SameFlags r) there refl

  pub name_event : (w : World) (caller : Caller) (event : Event) (dir : Row) (name : List ℕ) (n : ℕ) → IsTree w.rows
      → IsEvent numbers segments w caller event
      → map.get w.rows d ≡ Some dir → is_fixed (attrs_of dir.file) ≡ true → IsChild w.rows d name n
      → IsChild (after_event numbers w caller event).rows d name n
  name_event w caller (User request (Served shown)) dir name n tree is there set c =
      name_stays w _ caller request d dir name n there set c
      (fate numbers w caller tree n c.row c.there request (Served shown) is)
  name_event w caller (User request (Denied denial)) dir name n tree is there set c = c
  name_event w caller (User request (Refused resource)) dir name n tree is there set c = c
  name_event w caller (Cleaner kind outcome) dir name n tree is there set c = c

  -- nobody may place a row in an immutable directory
  no_place : (w : World) (dir : Row) (p : ℕ) {A : Type 0} → map.get w.rows d ≡ Some dir
      → is_immutable (attrs_of dir.file) ≡ true → p ≡ d → is_immutable (attrs_at w.rows p) ≡ false → A
  no_place w dir p there set same loose = both _ set (sym (ap is_immutable (at_row w d dir there))
      ∙ ap (λ q. is_immutable (attrs_at w.rows q)) (sym same) ∙ loose)

  came : (w : World) (caller : Caller) (request : Request) (shown : shows.Served) (dir : Row) (name : List ℕ) (n : ℕ)
      → IsTree w.rows → IsEvent numbers segments w caller (User request (Served shown))
      → map.get w.rows d ≡ Some dir → is_immutable (attrs_of dir.file) ≡ true
      → (c : IsChild (after_event numbers w caller (User request (Served shown))).rows d name n)
      → (o : Option Row) → map.get w.rows n ≡ o → IsChild w.rows d name n
  came w caller request shown dir name n tree is there set c None e =
      let made = new_law numbers w caller request (Served shown) tree is n c.row e c.there in
      no_place w dir c.row.parent there set c.hangs made.placed.writes.mutable
  came w caller request shown dir name n tree is there set c (Some r) e = ⊎_elim
      (λ (still : HangsStill r c.row). record {
        row = r;
        there = e;
        below = c.below;
        hangs = sym still.parents
            ∙ c.hangs;
        named = sym still.names ∙ c.named;
      })
      (λ apart. let moved = moved_law numbers w caller request (Served shown) tree is n r c.row e c.there apart in
      no_place w dir c.row.parent there set c.hangs moved.placed.writes.mutable)
      (cases_place r c.row)

  pub came_event : (w : World) (caller : Caller) (event : Event) (dir : Row) (name : List ℕ) (n : ℕ) → IsTree w.rows
      → IsEvent numbers segments w caller event
      → map.get w.rows d ≡ Some dir → is_immutable (attrs_of dir.file) ≡ true
      → IsChild (after_event numbers w caller event).rows d name n → IsChild w.rows d name n
  came_event w caller (User request (Served shown)) dir name n tree is there set c =
      came w caller request shown dir name n tree is there set c _ refl
  came_event w caller (User request (Denied denial)) dir name n tree is there set c = c
  came_event w caller (User request (Refused resource)) dir name n tree is there set c = c
  came_event w caller (Cleaner kind outcome) dir name n tree is there set c = c

  -- ---- lists of entries

  stay : (entries : List Entry) (w : World) (dir : Row) (name : List ℕ) (n : ℕ) → IsTree w.rows
      → IsLegal numbers segments entries w → NoneServed (SetsFlags d) numbers entries w
      → map.get w.rows d ≡ Some dir → is_fixed (attrs_of dir.file) ≡ true → IsChild w.rows d name n
      → IsChild (world_after numbers entries w).rows d name n
  stay [] w dir name n tree legal none there set c = c
  stay (e ∷ es) w dir name n tree legal none there set c =
      let next = some_and _ (SameFlags dir) (flags_event w e.cred e.event dir tree legal.0 none.0 there set) in
      stay es (after_event numbers w e.cred e.event) next.value name n
      (event_tree numbers segments w e.cred e.event tree legal.0) legal.1 none.1 next.is
      (ap (λ flags. (has_bit flags 0x2 || has_bit flags 0x2_0000) || (has_bit flags 0x4 || has_bit flags 0x4_0000))
      next.holds ∙ set)
      (name_event w e.cred e.event dir name n tree legal.0 there set c)

  comes : (entries : List Entry) (w : World) (dir : Row) (name : List ℕ) (n : ℕ) → IsTree w.rows
      → IsLegal numbers segments entries w → NoneServed (SetsFlags d) numbers entries w
      → map.get w.rows d ≡ Some dir → is_immutable (attrs_of dir.file) ≡ true
      → IsChild (world_after numbers entries w).rows d name n → IsChild w.rows d name n
  comes [] w dir name n tree legal none there set c = c
  comes (e ∷ es) w dir name n tree legal none there set c =
      let next = some_and _ (SameFlags dir) (flags_event w e.cred e.event dir tree legal.0 none.0 there
      (or_left _ _ set)) in
      came_event w e.cred e.event dir name n tree legal.0 there set
      (comes es (after_event numbers w e.cred e.event) next.value name n
      (event_tree numbers segments w e.cred e.event tree legal.0) legal.1 none.1 next.is
      (ap (λ flags. has_bit flags 0x2 || has_bit flags 0x2_0000) next.holds ∙ set) c)

pub names_stay : NamesStay
names_stay numbers segments entries w d dir name n tree legal none there set c =
    stay numbers segments d entries w dir name n tree legal none there set c

pub no_name_comes : NoNameComes
no_name_comes numbers segments entries w d dir name n tree legal none there set c =
    comes numbers segments d entries w dir name n tree legal none there set c
