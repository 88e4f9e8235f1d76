-- The set-id bits of a mode.
use Rattle.std.specs.Prelude.{◌≡◌, ◌<◌, ◌%◌, ◌^◌, ℕ, false}
use Rattle.lfs_rules.specs.Bits.{has_bit, set_group_id, set_user_id}

-- write(2), chown(2): the set-id bits go where another than user 0 writes, cuts or grows the file, or gives it away. So: a mode, which is
-- below 0o10000, without 0o4000 and 0o2000: its ten lower bits
abbrev pub set_id_cleared : ℕ → ℕ
set_id_cleared mode = mode % 0o2000

-- a mode is another without its set-id bits: 0o4000 and 0o2000 are off, and each of the ten lower bits is as it was
pub record HasLostSetIds (old new : ℕ) : Type 0 where
  pub user : has_bit new set_user_id ≡ false
  pub group : has_bit new set_group_id ≡ false
  pub rest : (k : ℕ) → k < 10 → has_bit new (2 ^ k) ≡ has_bit old (2 ^ k)
