-- Flags change only by a Chflags of the row's owner; the superuser's flags only by the superuser.
use Rattle.std.specs.Prelude.{◌≡◌, ◌≢◌, ℕ, ◌||◌, true, false, Some}
use Rattle.std.specs.FinMap as map
use Rattle.lfs_types.specs.Caller.{Caller}
use Rattle.lfs_types.specs.Tree.{Row, World, root}
use Rattle.lfs_types.specs.declared.request.Request.{Request}
use Rattle.lfs_types.specs.declared.request.Request.TheVariants.{Chflags}
use Rattle.lfs_rules.specs.Locks.{changes_system_flags, clears_system_lock, has_system_lock}
use Rattle.lfs_rules.specs.Securelevel.{is_above_zero}
use Rattle.lfs_model.specs.Rules.{reached}
use Rattle.lfs_laws.specs.Rights.{Law, Owns}

-- the call is to set these flags of the row of this number
abbrev pub SetsFlagsTo : World → ℕ → ℕ → Request → Type 0
SetsFlagsTo w n flags (Chflags path new) = (reached w.rows root path ≡ n) × (new ≡ flags)
SetsFlagsTo w n flags request = ⊥

-- A caller may set these flags of a row: he owns it; where a system flag changes, or SF_IMMUTABLE or SF_APPEND was
-- set, he is the superuser; and above level 0 neither of these two is cleared.
pub record MayReflag (w : World) (caller : Caller) (request : Request) (n : ℕ) (r : Row) (flags : ℕ) : Type 0 where
  pub owns : Owns w.rows caller n
  pub system : (changes_system_flags r.file.flags flags || has_system_lock r.file.flags) ≡ true → caller.uid ≡ 0
  pub locks : is_above_zero w.level ≡ true → clears_system_lock r.file.flags flags ≡ false
  pub asked : SetsFlagsTo w n flags request

-- a row that has other flags got them by whoever may
abbrev pub Reflagged : Law
Reflagged numbers w caller request answer after =
    (n : ℕ) (r s : Row) → map.get w.rows n ≡ Some r → map.get after.rows n ≡ Some s
    → s.file.flags ≢ r.file.flags → MayReflag w caller request n r s.file.flags
