-- Above level 0 a directory with a system lock keeps its names, gets no new one if it's immutable, and a path over such
-- directories leads on: `system_names_stay`, `no_system_name_comes` and `system_path_stays`, for the law
-- `system_locks_stay`. One entry keeps the lock and the level (LawFlags) and the names (LockedLemmas), and the
-- induction on the entries carries all three. The user's flags give no such law, as their owner may clear them; it ends
-- where init drops the level, so a second way to lower it would have to be excluded in `above_still`.
use Rattle.std.proofs.Common.{◌≡◌, ℕ, ◌||◌, Bool, true, List, [], ◌∷◌, Some, ap, ◌∙◌, ⊎_elim}
use Rattle.std.proofs.lemmas.Bool.{or_cases, or_left, or_right}
use Rattle.std.specs.Prelude.{IsSomeAnd}
use Rattle.std.specs.FinMap as map
use Rattle.lfs_types.specs.Caller.{Caller}
use Rattle.lfs_types.specs.Tree.{Row, World, attrs_of}
use Rattle.lfs_types.specs.declared.answer.Answer.TheVariants.{Served, Denied, Refused}
use Rattle.lfs_rules.specs.Bits.{has_bit}
use Rattle.lfs_rules.specs.Locks.{has_system_lock}
use Rattle.lfs_model.specs.declared.journal.Entry.{Entry}
use Rattle.lfs_model.specs.declared.journal.Event.{Event}
use Rattle.lfs_model.specs.declared.journal.Event.TheVariants.{User, Cleaner}
use Rattle.lfs_model.specs.World.{IsChild, IsTree}
use Rattle.lfs_model.specs.Rules.{next}
use Rattle.lfs_model.specs.Steps.{IsEvent, IsLegal, after_event, world_after}
use Rattle.lfs_laws.specs.LawDenied.{led}
use Rattle.lfs_laws.specs.LawOneThing.{DiffersInFlags}
use Rattle.lfs_laws.specs.LawSystemNames.{IsLockedWay, NoSystemNameComes, SystemNamesStay, SystemPathStays}
use Rattle.lfs_laws.specs.LawsFlags.{DropsLevel, Grows}
use Rattle.lfs_laws.specs.LawsRuns.{IsServed, NoneServed}
use Rattle.lfs_laws.specs.Rights.{is_fixed}
use Rattle.lfs_model.proofs.Children.{child-is}
use Rattle.lfs_laws.proofs.LawFlags.{Above, above_event, system_append_only_grows, system_immutable_stays}
use Rattle.lfs_laws.proofs.LeadLemmas.{child_of_hangs}
use Rattle.lfs_laws.proofs.LegalTrees.{entries_tree, event_tree}
use Rattle.lfs_laws.proofs.LockedLemmas.{came_event, name_event}
use Rattle.lfs_laws.proofs.PathLemmas.{step}
use Rattle.lfs_types.proofs.Somewhere.{is_some_and, some_and}

-- a directory with a system lock is fixed
locked_fixed : (a b c d : Bool) → (b || d) ≡ true → ((a || b) || (c || d)) ≡ true
locked_fixed a b c d h = ⊎_elim (λ e. or_left _ _ (or_right a b e)) (λ e. or_right _ _ (or_right c d e))
    (or_cases b d h)

fixed : (dir : Row) → has_system_lock dir.file.flags ≡ true → is_fixed (attrs_of dir.file) ≡ true
fixed dir h = let f = dir.file.flags in locked_fixed (has_bit f 0x2) (has_bit f 0x2_0000) (has_bit f 0x4)
    (has_bit f 0x4_0000) h

abbrev HasLock : Row → Type 0
HasLock r = has_system_lock r.file.flags ≡ true

abbrev HasFirst : Row → Type 0
HasFirst r = has_bit r.file.flags 0x2_0000 ≡ true

module _ (numbers segments d : ℕ) where
  above_still : (w : World) (caller : Caller) (event : Event) → IsEvent numbers segments w caller event → Above w
      → (IsServed (DropsLevel w caller) event → ⊥) → Above (after_event numbers w caller event)
  above_still w caller (User request (Served shown)) is above none =
      above_event numbers w caller request is.0 above none
  above_still w caller (User request (Denied denial)) is above none = above
  above_still w caller (User request (Refused resource)) is above none = above
  above_still w caller (Cleaner kind outcome) is above none = above

  -- by one entry SF_IMMUTABLE stays, and so does either lock
  first_still : (w : World) (e : Entry) (dir : Row) → IsEvent numbers segments w e.cred e.event
      → (IsServed (DropsLevel w e.cred) e.event → ⊥)
      → Above w → map.get w.rows d ≡ Some dir → HasFirst dir
      → IsSomeAnd (map.get (after_event numbers w e.cred e.event).rows d) HasFirst
  first_still w e dir is none above there set =
      let s = some_and _ (λ s. DiffersInFlags dir s × HasFirst s)
      (system_immutable_stays numbers segments (e ∷ []) w d dir (is, tt) (none, tt) above there set) in
      is_some_and HasFirst s.is s.holds.1

  lock_still : (w : World) (e : Entry) (dir : Row) → IsEvent numbers segments w e.cred e.event
      → (IsServed (DropsLevel w e.cred) e.event → ⊥)
      → Above w → map.get w.rows d ≡ Some dir → HasLock dir
      → IsSomeAnd (map.get (after_event numbers w e.cred e.event).rows d) HasLock
  lock_still w e dir is none above there set = ⊎_elim
      (λ first. let s = some_and _ HasFirst (first_still w e dir is none above there first) in
      is_some_and HasLock s.is (or_left _ _ s.holds))
      (λ second.
      let s = some_and _ (λ s. Grows dir s × (has_bit s.file.flags 0x4_0000 ≡ true))
      (system_append_only_grows numbers segments (e ∷ []) w d dir (is, tt) (none, tt) above there second) in
      is_some_and HasLock s.is (or_right _ _ s.holds.1))
      (or_cases (has_bit dir.file.flags 0x2_0000) (has_bit dir.file.flags 0x4_0000) set)

  stay : (entries : List Entry) (w : World) (dir : Row) (name : List ℕ) (n : ℕ) → IsTree w.rows
      → IsLegal numbers segments entries w
      → NoneServed DropsLevel numbers entries w → Above w
      → map.get w.rows d ≡ Some dir → HasLock dir → IsChild w.rows d name n
      → IsChild (world_after numbers entries w).rows d name n
  stay [] w dir name n tree legal none above there set c = c
  stay (e ∷ es) w dir name n tree legal none above there set c =
      let next_dir = some_and _ HasLock (lock_still w e dir legal.0 none.0 above there set) in
      stay es (after_event numbers w e.cred e.event) next_dir.value name n
      (event_tree numbers segments w e.cred e.event tree legal.0) legal.1 none.1
      (above_still w e.cred e.event legal.0 above none.0) next_dir.is next_dir.holds
      (name_event numbers segments d w e.cred e.event dir name n tree legal.0 there (fixed dir set) c)

  comes : (entries : List Entry) (w : World) (dir : Row) (name : List ℕ) (n : ℕ) → IsTree w.rows
      → IsLegal numbers segments entries w
      → NoneServed DropsLevel numbers entries w → Above w
      → map.get w.rows d ≡ Some dir → HasFirst dir → IsChild (world_after numbers entries w).rows d name n
      → IsChild w.rows d name n
  comes [] w dir name n tree legal none above there set c = c
  comes (e ∷ es) w dir name n tree legal none above there set c =
      let next_dir = some_and _ HasFirst (first_still w e dir legal.0 none.0 above there set) in
      came_event numbers segments d w e.cred e.event dir name n tree legal.0 there
      (or_right (has_bit dir.file.flags 0x2) _ set)
      (comes es (after_event numbers w e.cred e.event) next_dir.value name n
      (event_tree numbers segments w e.cred e.event tree legal.0) legal.1 none.1
      (above_still w e.cred e.event legal.0 above none.0) next_dir.is next_dir.holds c)

pub system_names_stay : SystemNamesStay
system_names_stay numbers segments entries w d dir name n tree legal none above there set c =
    stay numbers segments d entries w dir name n tree legal none above there set c

pub no_system_name_comes : NoSystemNameComes
no_system_name_comes numbers segments entries w d dir name n tree legal none above there set c =
    comes numbers segments d entries w dir name n tree legal none above there set c

module _ (numbers segments : ℕ) (entries : List Entry) (w : World) (tree : IsTree w.rows)
    (legal : IsLegal numbers segments entries w) (none : NoneServed DropsLevel numbers entries w)
    (above : Above w) where
  leads_still : (path : List (List ℕ)) (at n : ℕ) → led w.rows (Some at) path ≡ Some n → IsLockedWay w.rows at path
      → led (world_after numbers entries w).rows (Some at) path ≡ Some n
  leads_still [] at n h locked = h
  leads_still (name ∷ names) at n h locked =
      let after = world_after numbers entries w in
      let s = step w.rows at name names n h in
      let dir = some_and _ HasLock locked.0 in
      let hangs = stay numbers segments at entries w dir.value name
      (next w.rows at name) tree legal none above dir.is dir.holds (child-is w.rows at name _ s.child) in
      ap (λ o. led after.rows o names) (child_of_hangs after.rows
      (entries_tree numbers segments entries w tree legal) at name (next w.rows at name) hangs)
      ∙ leads_still names (next w.rows at name) n s.rest locked.1

pub system_path_stays : SystemPathStays
system_path_stays numbers segments entries w path n tree legal none above h locked =
    leads_still numbers segments entries w tree legal none above path _ n h locked
