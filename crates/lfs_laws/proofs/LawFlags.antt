-- An immutable row stays as it is and an append-only one only grows, until their flags are set or, for the system's
-- flags, until init drops the level: `immutable_stays`, `append_only_grows` and the two `system_` ones, for these laws,
-- `system_locks_stay` and SystemNames. What one call keeps a run keeps (`through`), and one call is taken apart by its
-- Fate (LawFates), where each case but Stays and Reflags was tested for the flag. The system's flags need the level
-- too, which only a SetLevel by init lowers (`level_fate`); a call that changed a row and didn't ask for IsMutable
-- would have a case without a contradiction.
use Rattle.std.proofs.Common.{◌≡◌, ℕ, ◌≤◌, ◌&&◌, ◌||◌, not, Bool, true, false, List, [], ◌∷◌, ◌++◌, length, None, Some}
use Rattle.std.proofs.Common.{inl, inr, refl, sym, ap, subst, ◌∙◌, ⊎_elim, arith, append-nil, append_assoc}
use Rattle.std.proofs.Common.{length-append}
use Rattle.std.proofs.lemmas.Bool.{or_parts, or_right, true_from_ne_false}
use Rattle.std.specs.Prelude.{IsSomeAnd}
use Rattle.std.specs.FinMap as map
use Rattle.lfs_types.specs.Caller.{Caller}
use Rattle.lfs_types.specs.Tree.{File, Row, World, root, attrs_of}
use Rattle.lfs_types.specs.declared.answer.Answer.TheVariants.{Served, Denied, Refused}
use Rattle.lfs_types.specs.declared.level.Level.{Level}
use Rattle.lfs_types.specs.declared.level.Level.TheVariants.{PermanentlyInsecure, Insecure, Secure, HighlySecure}
use Rattle.lfs_types.specs.declared.request.Request.{Request}
use Rattle.lfs_types.specs.declared.request.Request.TheVariants.{Stat, Read, Write, List as Names, SetLength, Create}
use Rattle.lfs_types.specs.declared.request.Request.TheVariants.{Mkdir, Unlink, Rmdir, Rename, Chmod, Chown, Chflags}
use Rattle.lfs_types.specs.declared.request.Request.TheVariants.{SetLevel, Sync}
use Rattle.lfs_rules.specs.Bits.{has_bit}
use Rattle.lfs_rules.specs.Locks.{is_immutable, is_append_only}
use Rattle.lfs_rules.specs.Owners.{is_the_superuser}
use Rattle.lfs_rules.specs.Securelevel.{is_above_zero, is_lower, may_set_level}
use Rattle.lfs_rules.specs.SetId.{set_id_cleared}
use Rattle.lfs_model.specs.declared.journal.Entry.{Entry}
use Rattle.lfs_model.specs.declared.journal.Event.{Event}
use Rattle.lfs_model.specs.declared.journal.Event.TheVariants.{User, Cleaner}
use Rattle.lfs_model.specs.Rules.{decide, front, last, reached}
use Rattle.lfs_model.specs.World.{child}
use Rattle.lfs_model.specs.Effects.{effect}
use Rattle.lfs_laws.specs.LawOneThing.{DiffersInFlags, KeepsMode}
use Rattle.lfs_laws.specs.LawsFlags.{SetsFlags, DropsLevel, Grows, ImmutableStays, AppendOnlyGrows}
use Rattle.lfs_laws.specs.LawsFlags.{SystemImmutableStays, SystemAppendOnlyGrows}
use Rattle.lfs_laws.specs.LawsRuns.{IsServed, NoneServed}
use Rattle.lfs_model.specs.Steps.{IsEvent, IsLegal, after_event, world_after}
use Rattle.lfs_model.proofs.Deciding.{met_first}
use Rattle.lfs_laws.proofs.LawFates.{Rewritten, Fate, fate}
use Rattle.lfs_laws.proofs.LawFates.Fate.{Stays, Rewrites, Retitles, Reflags, Displaces}
use Rattle.lfs_model.proofs.LevelLemmas.{with_file-level, after_rename-level}
use Rattle.lfs_types.proofs.Somewhere.{some_and, is_some_and}

-- ---- the level

-- what a call does to the level: nothing, or a SetLevel that the rules allow
pub data LevelFate (w : World) (caller : Caller) (request : Request) (after : Level) : Type 0 where
  Same : after ≡ w.level → LevelFate w caller request after
  Set : request ≡ SetLevel after → is_the_superuser caller ≡ true → may_set_level caller w.level after ≡ true
      → LevelFate w caller request after

pub level_fate : (numbers : ℕ) (w : World) (caller : Caller) (request : Request) → decide w caller request ≡ None
    → LevelFate w caller request (effect numbers w caller request).level
level_fate numbers w caller (Stat path) allowed = Same refl
level_fate numbers w caller (Read path off len) allowed = Same refl
level_fate numbers w caller (Names path) allowed = Same refl
level_fate numbers w caller (Write path place []) allowed = Same refl
level_fate numbers w caller (Write path place (b ∷ bs)) allowed = Same (with_file-level _ _ _ w)
level_fate numbers w caller (SetLength path len) allowed = Same (with_file-level _ _ _ w)
level_fate numbers w caller (Create path mode) allowed = Same refl
level_fate numbers w caller (Mkdir path mode) allowed = Same refl
level_fate numbers w caller (Unlink path) allowed = Same refl
level_fate numbers w caller (Rmdir path) allowed = Same refl
level_fate numbers w caller (Rename from to) allowed =
    Same (after_rename-level w _ (child w.rows (reached w.rows root (front to)) (last to)) _ _)
level_fate numbers w caller (Chmod path mode) allowed = Same (with_file-level _ _ _ w)
level_fate numbers w caller (Chown path uid gid) allowed = Same (with_file-level _ _ _ w)
level_fate numbers w caller (Chflags path flags) allowed = Same (with_file-level _ _ _ w)
level_fate numbers w caller (SetLevel level) allowed = let a = met_first _ _ _ allowed in
    Set refl a.0 (met_first _ _ _ a.1).0
level_fate numbers w caller Sync allowed = Same refl

pub by_init : (lower init : Bool) → not (lower && not init) ≡ true → lower ≡ true → init ≡ true
by_init true true h e = refl
by_init true false h e = absurd (cc)
by_init false init h e = absurd (cc)

-- a level that isn't above 0 is lower than one that is
falls : (old new : Level) → is_above_zero old ≡ true → is_above_zero new ≡ false → is_lower new old ≡ true
falls PermanentlyInsecure new h e = absurd (cc)
falls Insecure new h e = absurd (cc)
falls Secure PermanentlyInsecure h e = refl
falls Secure Insecure h e = refl
falls Secure Secure h e = absurd (cc)
falls Secure HighlySecure h e = absurd (cc)
falls HighlySecure PermanentlyInsecure h e = refl
falls HighlySecure Insecure h e = refl
falls HighlySecure Secure h e = absurd (cc)
falls HighlySecure HighlySecure h e = absurd (cc)

above_after : (w : World) (caller : Caller) (request : Request) (after : Level) → LevelFate w caller request after
    → is_above_zero w.level ≡ true → (DropsLevel w caller request → ⊥) → is_above_zero after ≡ true
above_after w caller request after (Same e) above none = ap is_above_zero e ∙ above
above_after w caller request after (Set is super may) above none = true_from_ne_false (is_above_zero after)
    (λ low. none (subst (DropsLevel w caller) (sym is)
    (by_init (is_lower after w.level) caller.init may (falls w.level after above low), above, low)))

pub above_event : (numbers : ℕ) (w : World) (caller : Caller) (request : Request) → decide w caller request ≡ None
    → is_above_zero w.level ≡ true → (DropsLevel w caller request → ⊥)
    → is_above_zero (effect numbers w caller request).level ≡ true
above_event numbers w caller request allowed =
    above_after w caller request _ (level_fate numbers w caller request allowed)

-- ---- a row through a list of calls

-- What one served call keeps, where none of a kind is served, a list of calls keeps: a property of the world, one of
-- the row, and a relation of the row to what it was.
module _ (numbers segments n : ℕ) (IsOne : World → Caller → Request → Type 0) (Fine : World → Type 0) (Holds : Row
    → Type 0) (Relates : Row → Row → Type 0)
    (same : (r : Row) → Relates r r) (joins : (r s t : Row) → Relates r s → Relates s t → Relates r t)
    (fine : (w : World) (caller : Caller) (request : Request) → decide w caller request ≡ None → Fine w
    → (IsOne w caller request → ⊥) → Fine (effect numbers w caller request))
    (step : (w : World) (caller : Caller) (request : Request) (r : Row) → Fine w → Holds r
    → (IsOne w caller request → ⊥) → Fate numbers w caller request n r
    → IsSomeAnd (map.get (effect numbers w caller request).rows n) (λ s. Relates r s × Holds s)) where
  abbrev Next : Row → Row → Type 0
  Next r s = Relates r s × Holds s

  fine_event : (w : World) (caller : Caller) (event : Event) → IsEvent numbers segments w caller event → Fine w
      → (IsServed (IsOne w caller) event → ⊥) → Fine (after_event numbers w caller event)
  fine_event w caller (User request (Served shown)) is ok none = fine w caller request is.0 ok none
  fine_event w caller (User request (Denied denial)) is ok none = ok
  fine_event w caller (User request (Refused resource)) is ok none = ok
  fine_event w caller (Cleaner kind outcome) is ok none = ok

  row_event : (w : World) (caller : Caller) (event : Event) (r : Row) → IsEvent numbers segments w caller event → Fine w
      → (IsServed (IsOne w caller) event → ⊥) → map.get w.rows n ≡ Some r → Holds r
      → IsSomeAnd (map.get (after_event numbers w caller event).rows n) (Next r)
  row_event w caller (User request (Served shown)) r is ok none there holds =
      step w caller request r ok holds none (fate numbers w caller n r there request is.0 is.1)
  row_event w caller (User request (Denied denial)) r is ok none there holds =
      is_some_and (Next r) there (same r, holds)
  row_event w caller (User request (Refused resource)) r is ok none there holds =
      is_some_and (Next r) there (same r, holds)
  row_event w caller (Cleaner kind outcome) r is ok none there holds = is_some_and (Next r) there (same r, holds)

  through : (entries : List Entry) (w : World) (r : Row) → IsLegal numbers segments entries w
      → NoneServed IsOne numbers entries w → Fine w → map.get w.rows n ≡ Some r → Holds r
      → IsSomeAnd (map.get (world_after numbers entries w).rows n) (Next r)
  through [] w r legal none ok there holds = is_some_and (Next r) there (same r, holds)
  through (e ∷ es) w r legal none ok there holds =
      let next = some_and _ (Next r) (row_event w e.cred e.event r legal.0 ok none.0 there holds) in
      let last = some_and _ (Next next.value) (through es
      (after_event numbers w e.cred e.event) next.value legal.1 none.1
      (fine_event w e.cred e.event legal.0 ok none.0) next.is next.holds.1) in
      is_some_and (Next r) last.is (joins r next.value last.value next.holds.0 last.holds.0, last.holds.1)

abbrev Any : World → Type 0
Any w = Unit {0}

abbrev pub Above : World → Type 0
Above w = is_above_zero w.level ≡ true

-- ---- flags that forbid

pub both : {A : Type 0} (b : Bool) → b ≡ true → b ≡ false → A
both true h e = absurd (cc)
both false h e = absurd (cc)

-- a system lock of a row that isn't immutable or append-only
lock_off : {A : Type 0} (user lock : Bool) → lock ≡ true → (user || lock) ≡ false → A
lock_off user lock set off = both lock set (or_parts user lock off).1

keeps_first : (above a x b y : Bool) → not (above && ((a && not x) || (b && not y))) ≡ true → above ≡ true → a ≡ true
    → x ≡ true
keeps_first above a true b y h up set = refl
keeps_first true true false b y h up set = absurd (cc)
keeps_first true false false b y h up set = absurd (cc)
keeps_first false a false b y h up set = absurd (cc)

keeps_second : (above a x b y : Bool) → not (above && ((a && not x) || (b && not y))) ≡ true → above ≡ true → b ≡ true
    → y ≡ true
keeps_second above a x b true h up set = refl
keeps_second true true true true false h up set = absurd (cc)
keeps_second true true false true false h up set = absurd (cc)
keeps_second true false x true false h up set = absurd (cc)
keeps_second true a x false false h up set = absurd (cc)
keeps_second false a x b false h up set = absurd (cc)

-- ---- an immutable row

abbrev Immutable : Row → Type 0
Immutable r = is_immutable (attrs_of r.file) ≡ true

abbrev IsSame : Row → Row → Type 0
IsSame r s = s ≡ r

immutable_step : (numbers n : ℕ) (w : World) (caller : Caller) (request : Request) (r : Row) → Any w → Immutable r
    → (SetsFlags n w caller request → ⊥)
    → Fate numbers w caller request n r → IsSomeAnd (map.get (effect numbers w caller request).rows n) (λ s. IsSame r s
    × Immutable s)
immutable_step numbers n w caller request r any set none (Stays e) =
    is_some_and (λ s. IsSame r s × Immutable s) e (refl, set)
immutable_step numbers n w caller request r any set none (Rewrites f e x) = both _ set x.mutable
immutable_step numbers n w caller request r any set none (Retitles f e x) = both _ set x.mutable
immutable_step numbers n w caller request r any set none (Reflags flags e x) = absurd (none x.sets)
immutable_step numbers n w caller request r any set none (Displaces x) = both _ set x.mutable

-- an immutable row stays what it is until its flags are set
pub immutable_stays : ImmutableStays
immutable_stays numbers segments entries w n r legal none there set =
    let last = some_and _ (λ s. IsSame r s × Immutable s)
    (through numbers segments n (SetsFlags n) Any Immutable IsSame (λ s. refl) (λ a b c one two. two ∙ one)
    (λ v caller request allowed any no. tt) (immutable_step numbers n) entries w r legal none tt there set) in
    last.is ∙ ap Some last.holds.0

differs_none : (r : Row) → DiffersInFlags r r
differs_none r = refl

differs_on : (r s t : Row) → DiffersInFlags r s → DiffersInFlags s t → DiffersInFlags r t
differs_on r s t one two = two ∙ ap (λ (x : Row). record x { file = record x.file { flags = t.file.flags } }) one

abbrev HasImmutable : Row → Type 0
HasImmutable r = has_bit r.file.flags 0x2_0000 ≡ true

system_immutable_step : (numbers n : ℕ) (w : World) (caller : Caller) (request : Request) (r : Row) → Above w
    → HasImmutable r → (DropsLevel w caller request → ⊥)
    → Fate numbers w caller request n r → IsSomeAnd (map.get (effect numbers w caller request).rows n)
    (λ s. DiffersInFlags r s × HasImmutable s)
system_immutable_step numbers n w caller request r above set none (Stays e) =
    is_some_and (λ s. DiffersInFlags r s × HasImmutable s) e (refl, set)
system_immutable_step numbers n w caller request r above set none (Rewrites f e x) = lock_off _ _ set x.mutable
system_immutable_step numbers n w caller request r above set none (Retitles f e x) = lock_off _ _ set x.mutable
system_immutable_step numbers n w caller request r above set none (Reflags flags e x) =
    is_some_and (λ s. DiffersInFlags r s × HasImmutable s) e (
      refl,
      keeps_first (is_above_zero w.level) (has_bit r.file.flags 0x2_0000) (has_bit flags 0x2_0000)
          (has_bit r.file.flags 0x4_0000) (has_bit flags 0x4_0000) x.locks above set,
    )
system_immutable_step numbers n w caller request r above set none (Displaces x) = lock_off _ _ set x.mutable

-- above level 0 a row keeps the system's immutable flag, and all but its flags, until init lets the level fall to 0
pub system_immutable_stays : SystemImmutableStays
system_immutable_stays numbers segments entries w n r legal none above there set =
    through numbers segments n DropsLevel Above HasImmutable DiffersInFlags differs_none differs_on
    (above_event numbers) (system_immutable_step numbers n) entries w r legal none above there set

-- ---- an append-only row

grows_none : (r : Row) → Grows r r
grows_none r = record {
  hangs = record { parents = refl; names = refl };
  kind = refl;
  owner = refl;
  group = refl;
  mode = inl refl;
  more = [];
  bytes = sym (append-nil r.file.bytes);
  size = omega arith;
}

cleared_twice : (mode : ℕ) → set_id_cleared (set_id_cleared mode) ≡ set_id_cleared mode
cleared_twice mode = omega arith

pub mode_on : (old mid new : ℕ) → KeepsMode old mid → KeepsMode mid new → KeepsMode old new
mode_on old mid new a b = ⊎_elim
    (λ e. ⊎_elim (λ f. inl (f ∙ e)) (λ f. inr (f ∙ ap set_id_cleared e)) b)
    (λ e. ⊎_elim (λ f. inr (f ∙ e)) (λ f. inr (f ∙ ap set_id_cleared e ∙ cleared_twice old)) b) a

grows_on : (r s t : Row) → Grows r s → Grows s t → Grows r t
grows_on r s t a b = record {
  hangs = record { parents = b.hangs.parents ∙ a.hangs.parents; names = b.hangs.names ∙ a.hangs.names };
  kind = b.kind ∙ a.kind;
  owner = b.owner ∙ a.owner;
  group = b.group ∙ a.group;
  mode = mode_on r.file.mode s.file.mode t.file.mode a.mode b.mode;
  more = a.more ++ b.more;
  bytes = b.bytes ∙ ap (λ l. l ++ b.more) a.bytes ∙ append_assoc r.file.bytes a.more b.more;
  size = let one = a.size in let two = b.size in omega (arith, one, two);
}

longer : (old new more : List ℕ) → new ≡ old ++ more → length old ≤ length new
longer old new more e = let count = ap (λ (l : List ℕ). length l) e ∙ length-append old more in omega (arith, count)

grows_by : (caller : Caller) (r : Row) (file : File) → Rewritten caller r.file file → is_append_only (attrs_of r.file)
    ≡ true → Grows r (record r { file = file })
grows_by caller r file x set =
    let more = x.longer set in
    record {
      hangs = record { parents = refl; names = refl };
      kind = x.kind;
      owner = x.owner;
      group = x.group;
      mode = x.mode;
      more = more.0;
      bytes = more.1;
      size = longer r.file.bytes file.bytes more.0 more.1;
    }

abbrev AppendOnly : Row → Type 0
AppendOnly r = is_append_only (attrs_of r.file) ≡ true

-- a row grows and keeps its flags
abbrev GrowsSo : Row → Row → Type 0
GrowsSo r s = Grows r s × (s.file.flags ≡ r.file.flags)

grown_step : (numbers n : ℕ) (w : World) (caller : Caller) (request : Request) (r : Row) → Any w → AppendOnly r
    → (SetsFlags n w caller request → ⊥)
    → Fate numbers w caller request n r → IsSomeAnd (map.get (effect numbers w caller request).rows n) (λ s. GrowsSo r s
    × AppendOnly s)
grown_step numbers n w caller request r any set none (Stays e) =
    is_some_and (λ s. GrowsSo r s × AppendOnly s) e ((grows_none r, refl), set)
grown_step numbers n w caller request r any set none (Rewrites f e x) = is_some_and (λ s. GrowsSo r s × AppendOnly s) e
    ((grows_by caller r f x set, x.flags), ap (λ flags. has_bit flags 0x4 || has_bit flags 0x4_0000) x.flags ∙ set)
grown_step numbers n w caller request r any set none (Retitles f e x) = both _ set x.rewritable
grown_step numbers n w caller request r any set none (Reflags flags e x) = absurd (none x.sets)
grown_step numbers n w caller request r any set none (Displaces x) = both _ set x.rewritable

-- an append-only row stays and only grows until its flags are set
pub append_only_grows : AppendOnlyGrows
append_only_grows numbers segments entries w n r legal none there set =
    let last = some_and _ (λ s. GrowsSo r s × AppendOnly s)
    (through numbers segments n (SetsFlags n) Any AppendOnly GrowsSo (λ s. (grows_none s, refl))
    (λ a b c one two. (grows_on a b c one.0 two.0, two.1 ∙ one.1)) (λ v caller request allowed any no. tt)
    (grown_step numbers n) entries w r legal none tt there set) in
    is_some_and (GrowsSo r) last.is last.holds.0

abbrev HasAppend : Row → Type 0
HasAppend r = has_bit r.file.flags 0x4_0000 ≡ true

system_grown_step : (numbers n : ℕ) (w : World) (caller : Caller) (request : Request) (r : Row) → Above w → HasAppend r
    → (DropsLevel w caller request → ⊥)
    → Fate numbers w caller request n r → IsSomeAnd (map.get (effect numbers w caller request).rows n) (λ s. Grows r s
    × HasAppend s)
system_grown_step numbers n w caller request r above set none (Stays e) =
    is_some_and (λ s. Grows r s × HasAppend s) e (grows_none r, set)
system_grown_step numbers n w caller request r above set none (Rewrites f e x) =
    is_some_and (λ s. Grows r s × HasAppend s) e
    (grows_by caller r f x (or_right _ _ set), ap (λ flags. has_bit flags 0x4_0000) x.flags ∙ set)
system_grown_step numbers n w caller request r above set none (Retitles f e x) = lock_off _ _ set x.rewritable
system_grown_step numbers n w caller request r above set none (Reflags flags e x) =
    is_some_and (λ s. Grows r s × HasAppend s) e (
      record {
        hangs = record { parents = refl; names = refl };
        kind = refl;
        owner = refl;
        group = refl;
        mode = inl refl;
        more = [];
        bytes = sym (append-nil r.file.bytes);
        size = omega arith;
      },
      keeps_second (is_above_zero w.level) (has_bit r.file.flags 0x2_0000) (has_bit flags 0x2_0000)
          (has_bit r.file.flags 0x4_0000) (has_bit flags 0x4_0000) x.locks above set,
    )
system_grown_step numbers n w caller request r above set none (Displaces x) = lock_off _ _ set x.rewritable

-- above level 0 a row keeps the system's append-only flag and only grows, until init lets the level fall to 0
pub system_append_only_grows : SystemAppendOnlyGrows
system_append_only_grows numbers segments entries w n r legal none above there set =
    through numbers segments n DropsLevel Above HasAppend Grows grows_none grows_on (above_event numbers)
    (system_grown_step numbers n) entries w r legal none above there set
