-- The securelevel changes only by a SetLevel of the superuser, and falls only by init's.
use Rattle.std.specs.Prelude.{◌≡◌, ◌≢◌, true}
use Rattle.lfs_types.specs.Caller.{Caller}
use Rattle.lfs_types.specs.declared.level.Level.{Level}
use Rattle.lfs_types.specs.declared.request.Request.{Request}
use Rattle.lfs_types.specs.declared.request.Request.TheVariants.{SetLevel}
use Rattle.lfs_rules.specs.Securelevel.{is_lower}
use Rattle.lfs_laws.specs.Rights.{Law}

-- a caller may change the level so by this call
pub record MayRelevel (caller : Caller) (request : Request) (old new : Level) : Type 0 where
  pub superuser : caller.uid ≡ 0
  pub init : is_lower new old ≡ true → caller.init ≡ true
  pub asked : request ≡ SetLevel new

-- another level was set by whoever may
abbrev pub Relevelled : Law
Relevelled numbers w caller request answer after = after.level ≢ w.level → MayRelevel caller request w.level after.level
