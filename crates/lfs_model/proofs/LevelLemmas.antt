-- The securelevel after a call: only the call that sets it changes it (`level_after`). Each other call changes rows, by
-- putting a file, putting a row elsewhere, or inserting and removing one, and each of these builds the new world out of
-- the old one by its rows alone; so it is a case for each call, and for a row that is there or not.
use Rattle.std.proofs.Common.{◌≡◌, ℕ, ◌==◌, Bool, true, false, cond, List, [], ◌∷◌, None, Some, refl}
use Rattle.std.specs.Prelude.{Option}
use Rattle.std.specs.FinMap as map
use Rattle.lfs_types.specs.Caller.{Caller}
use Rattle.lfs_types.specs.Tree.{File, Row, World, root}
use Rattle.lfs_types.specs.declared.answer.Answer.{Answer}
use Rattle.lfs_types.specs.declared.answer.Answer.TheVariants.{Served, Denied, Refused}
use Rattle.lfs_types.specs.declared.request.Request.{Request}
use Rattle.lfs_types.specs.declared.request.Request.TheVariants.{Stat, Read, Write, List as Names, SetLength, Create}
use Rattle.lfs_types.specs.declared.request.Request.TheVariants.{Mkdir, Unlink, Rmdir, Rename, Chmod, Chown, Chflags}
use Rattle.lfs_types.specs.declared.request.Request.TheVariants.{SetLevel, Sync}
use Rattle.lfs_model.specs.Effects.{effect, after_rename, with_file, with_place, without_row}
use Rattle.lfs_model.specs.Rules.{front, last, reached}
use Rattle.lfs_model.specs.World.{child}
use Rattle.lfs_model.specs.Steps.{after_answer}

-- a change of a file leaves the level, and so does one of a row's place
pub with_file-level : (o : Option Row) (n : ℕ) (change : File → File) (w : World) → (with_file o n change w).level
    ≡ w.level
with_file-level None n change w = refl
with_file-level (Some r) n change w = refl

pub with_place-level : (o : Option Row) (n parent : ℕ) (name : _) (w : World) → (with_place o n parent name w).level
    ≡ w.level
with_place-level None n parent name w = refl
with_place-level (Some r) n parent name w = refl

over-level : (w : World) (n m parent : ℕ) (name : List ℕ) (b : Bool)
    → (cond b w (with_place (map.get w.rows n) n parent name (without_row m w))).level ≡ w.level
over-level w n m parent name true = refl
over-level w n m parent name false = with_place-level (map.get w.rows n) n parent name (without_row m w)

pub after_rename-level : (w : World) (n : ℕ) (o : Option ℕ) (parent : ℕ) (name : List ℕ)
    → (after_rename w n o parent name).level ≡ w.level
after_rename-level w n None parent name = with_place-level (map.get w.rows n) n parent name w
after_rename-level w n (Some m) parent name = over-level w n m parent name (m == n)

-- the call doesn't set the securelevel
abbrev pub IsAtLevel : Request → Type 0
IsAtLevel (SetLevel level) = ⊥
IsAtLevel request = Unit {0}

effect-level : (numbers : ℕ) (w : World) (caller : Caller) (request : Request) → IsAtLevel request
    → (effect numbers w caller request).level ≡ w.level
effect-level numbers w caller (Stat path) is = refl
effect-level numbers w caller (Read path off len) is = refl
effect-level numbers w caller (Names path) is = refl
effect-level numbers w caller (Write path place []) is = refl
effect-level numbers w caller (Write path place (b ∷ bs)) is = with_file-level _ _ _ w
effect-level numbers w caller (SetLength path len) is = with_file-level _ _ _ w
effect-level numbers w caller (Create path mode) is = refl
effect-level numbers w caller (Mkdir path mode) is = refl
effect-level numbers w caller (Unlink path) is = refl
effect-level numbers w caller (Rmdir path) is = refl
effect-level numbers w caller (Rename from to) is =
    after_rename-level w _ (child w.rows (reached w.rows root (front to)) (last to)) _ _
effect-level numbers w caller (Chmod path mode) is = with_file-level _ _ _ w
effect-level numbers w caller (Chown path uid gid) is = with_file-level _ _ _ w
effect-level numbers w caller (Chflags path flags) is = with_file-level _ _ _ w
effect-level numbers w caller (SetLevel level) is = absurd is
effect-level numbers w caller Sync is = refl

-- the level after a call that doesn't set it
pub level_after : (numbers : ℕ) (w : World) (caller : Caller) (request : Request) (answer : Answer) → IsAtLevel request
    → (after_answer numbers w caller request answer).level ≡ w.level
level_after numbers w caller request (Served shown) is = effect-level numbers w caller request is
level_after numbers w caller request (Denied denial) is = refl
level_after numbers w caller request (Refused resource) is = refl
