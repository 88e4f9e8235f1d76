-- The securelevel behind a call that sets none is the old one, whatever it is answered: `kept`, for `serving::serve`. A
-- call that isn't served leaves it by definition, a served one because it sets none. So what a served call leaves is the
-- level of the world behind it: `served_level`, for those who keep a level beside a store (lfs_volume, lfs_trace).
use Rattle.std.proofs.Common.{◌≡◌, ◌∙◌, ℕ, refl, sym, subst}
use Rattle.lfs_types.specs.Caller.{Caller}
use Rattle.lfs_types.specs.Tree.{World}
use Rattle.lfs_types.specs.declared.answer.Served.{Served as Shown}
use Rattle.lfs_types.specs.declared.answer.Answer.{Answer}
use Rattle.lfs_types.specs.declared.answer.Answer.TheVariants.{Served, Denied, Refused}
use Rattle.lfs_types.specs.declared.level.Level.{Level}
use Rattle.lfs_types.specs.declared.request.Request.{Request}
use Rattle.lfs_types.specs.declared.request.Request.TheVariants.{Stat, Read, Write, List as Names, SetLength, Create}
use Rattle.lfs_types.specs.declared.request.Request.TheVariants.{Mkdir, Unlink, Rmdir, Rename, Chmod, Chown, Chflags}
use Rattle.lfs_types.specs.declared.request.Request.TheVariants.{SetLevel, Sync}
use Rattle.lfs_model.specs.Steps.{after_answer}
use Rattle.lfs_model.proofs.LevelLemmas.{level_after}
use Rattle.lfs_calls.specs.Levels.{level_left, level_set}

unset : (level : Level) (request : Request) (answer : Answer) → level_set level request ≡ level
    → level_left level request answer ≡ level
unset level request (Served shown) same = same
unset level request (Denied denial) same = refl
unset level request (Refused resource) same = refl

-- the level is left as it was by a call that is one which sets none
pub kept : (level : Level) (request other : Request) (answer : Answer) → request ≡ other → level_set level other ≡ level
    → level ≡ level_left level request answer
kept level request other answer is same = subst (λ r. level ≡ level_left level r answer) (sym is)
    (sym (unset level other answer same))

-- the securelevel behind a served call
pub served_level : (numbers : ℕ) (w : World) (caller : Caller) (level : Level) (request : Request) (shown : Shown)
    → w.level ≡ level
    → (after_answer numbers w caller request (Served shown)).level ≡ level_set level request
served_level numbers w caller level (SetLevel new) shown e = refl
served_level numbers w caller level (Stat path) shown e = level_after numbers w caller (Stat path) (Served shown) tt ∙ e
served_level numbers w caller level (Read path off len) shown e =
    level_after numbers w caller (Read path off len) (Served shown) tt ∙ e
served_level numbers w caller level (Names path) shown e = level_after numbers w caller (Names path) (Served shown) tt
    ∙ e
served_level numbers w caller level (Write path place bytes) shown e =
    level_after numbers w caller (Write path place bytes) (Served shown) tt ∙ e
served_level numbers w caller level (SetLength path len) shown e =
    level_after numbers w caller (SetLength path len) (Served shown) tt ∙ e
served_level numbers w caller level (Create path mode) shown e =
    level_after numbers w caller (Create path mode) (Served shown) tt ∙ e
served_level numbers w caller level (Mkdir path mode) shown e =
    level_after numbers w caller (Mkdir path mode) (Served shown) tt ∙ e
served_level numbers w caller level (Unlink path) shown e = level_after numbers w caller (Unlink path) (Served shown) tt
    ∙ e
served_level numbers w caller level (Rmdir path) shown e = level_after numbers w caller (Rmdir path) (Served shown) tt
    ∙ e
served_level numbers w caller level (Rename from to) shown e =
    level_after numbers w caller (Rename from to) (Served shown) tt ∙ e
served_level numbers w caller level (Chmod path mode) shown e =
    level_after numbers w caller (Chmod path mode) (Served shown) tt ∙ e
served_level numbers w caller level (Chown path uid gid) shown e =
    level_after numbers w caller (Chown path uid gid) (Served shown) tt ∙ e
served_level numbers w caller level (Chflags path flags) shown e =
    level_after numbers w caller (Chflags path flags) (Served shown) tt ∙ e
served_level numbers w caller level Sync shown e = level_after numbers w caller Sync (Served shown) tt ∙ e
