-- What locks forbid, and who sets flags and the level, in bits and numbers: `append_by_flags` to `mode_by_flags` for
-- the law `locks_by_bits`, `level_by_number`, `flags_by_owner` and `flags_by_level` for `levels_by_number`. Each call
-- is decided by the tests of the attributes that a Stat shows (`decided` of WordLemmas); the superuser is granted all,
-- so only the locks are left, and each test decides its sum of bits. The hard one is the test of system locks, with
-- level, old and new flags in one Bool, which is split by cases (`unless_above`); each level's number is its `height`,
-- so another level needs its lines in `lower` and `above`.
use Rattle.std.proofs.Common.{◌≡◌, ◌≢◌, ◌⊎◌, ◌<◌, ◌≤◌, ℕ, ◌+◌, ◌/◌, ◌==◌, ◌&&◌, ◌||◌, not, Bool, true, false, refl, ap}
use Rattle.std.proofs.Common.{⊎_elim, arith, inl, inr, ne_eqb}
use Rattle.std.proofs.lemmas.Bool.Decides.{Decides-at, Decides-eqb, Decides-like}
use Rattle.std.specs.Prelude.{Decides, nat_le}
use Rattle.lfs_types.specs.Caller.{Caller}
use Rattle.lfs_types.specs.declared.attrs.Attrs.{Attrs}
use Rattle.lfs_types.specs.declared.attrs.Bit.{Bit}
use Rattle.lfs_types.specs.declared.attrs.Bit.TheVariants as bits
use Rattle.lfs_types.specs.declared.level.Level.{Level}
use Rattle.lfs_types.specs.declared.level.Level.TheVariants.{PermanentlyInsecure, Insecure, Secure, HighlySecure}
use Rattle.lfs_types.specs.declared.request.Place.TheVariants.{At, End}
use Rattle.lfs_rules.specs.Bits.{has_bit}
use Rattle.lfs_rules.specs.Grants.{grants_of}
use Rattle.lfs_rules.specs.Locks.{is_immutable, is_append_only, keeps_system_locks, may_set_flags}
use Rattle.lfs_rules.specs.Owners.{is_owner_or_superuser}
use Rattle.lfs_rules.specs.Securelevel.{is_above_zero, is_lower}
use Rattle.lfs_model.specs.Rules.{chflags_tests, chmod_tests, file_max, write_tests}
use Rattle.lfs_laws.specs.LawLevels.{FlagsByLevel, FlagsByOwner, LevelByNumber, height}
use Rattle.lfs_laws.specs.LawLocks.{AppendByFlags, IsUnlocked, MakeByFlags, ModeByFlags, WriteByFlags}
use Rattle.lfs_laws.specs.LawSeen.{IsOff, IsOn}
use Rattle.lfs_laws.proofs.Fates.{le-true}
use Rattle.lfs_laws.proofs.ServedLemmas.{at_most}
use Rattle.lfs_laws.proofs.WordLemmas.{a_directory, a_file, decided, granted, made, met_always, met_before, met_by}
use Rattle.lfs_laws.proofs.WordLemmas.{met_last, neither, off, on, owner, said}

-- what holds is decided by nothing
pub yes : (b : Bool) → b ≡ true → Decides b (Unit {0})
yes b e = (λ h. tt, λ u. e)

pub fits : (a b : ℕ) → Decides (nat_le a b) (a ≤ b)
fits a b = (le-true a b, at_most a b)

pub granted_all : (caller : Caller) (attrs : Attrs) (bit : Bit) → caller.uid ≡ 0 → grants_of caller attrs bit ≡ true
granted_all caller attrs bit super = (granted caller attrs bit).1 (inl super)

unlocked : (attrs : Attrs) → Decides (not (is_immutable attrs)) (IsUnlocked attrs.flags)
unlocked attrs = neither _ _ (off attrs.flags 0x2) (off attrs.flags 0x2_0000)

appendable : (attrs : Attrs) → Decides (not (is_append_only attrs)) (IsOff attrs.flags 0x4 × IsOff attrs.flags 0x4_0000)
appendable attrs = neither _ _ (off attrs.flags 0x4) (off attrs.flags 0x4_0000)

pub append_by_flags : AppendByFlags
append_by_flags w caller path n byte attrs sees super file short =
    said _ (λ p. p.0) (λ p. (p, tt))
    (decided w caller path n attrs sees (write_tests caller End 1)
    (met_always _ _ _ (a_file attrs file)
    (met_by _ _ _ (unlocked attrs)
    (met_always _ _ _ (granted_all caller attrs bits.Write super)
    (met_last _ _ (yes _ (at_most (attrs.size + 1) file_max (omega (arith, short)))))))))

pub write_by_flags : WriteByFlags
write_by_flags w caller path n byte attrs sees super file =
    decided w caller path n attrs sees (write_tests caller (At 0) 1)
    (met_always _ _ _ (a_file attrs file)
    (met_by _ _ _ (unlocked attrs)
    (met_always _ _ _ (granted_all caller attrs bits.Write super)
    (met_before _ _ _ (appendable attrs) refl))))

pub make_by_flags : MakeByFlags
make_by_flags w caller path name n mode attrs sees super dir unused =
    said _ (λ p. p.1.0) (λ p. (tt, (p, tt)))
    (made w caller path n attrs sees (a_directory attrs dir) name unused
    (yes _ (granted_all caller attrs bits.Search super)) (unlocked attrs)
    (yes _ (granted_all caller attrs bits.Write super)))

pub mode_by_flags : ModeByFlags
mode_by_flags w caller path n mode attrs sees super =
    said _ (λ p. (p.0, p.1.0)) (λ p. (p.0, (p.1, tt)))
    (decided w caller path n attrs sees (chmod_tests caller)
    (met_by _ _ _ (unlocked attrs) (met_by _ _ _ (appendable attrs)
    (met_last _ _ (yes _ ((owner caller attrs).1 (inl super)))))))

-- ---- levels

lower : (new old : Level) → Decides (is_lower new old) (height new < height old)
lower PermanentlyInsecure PermanentlyInsecure = (λ h. absurd (cc), λ h. absurd (omega (arith, h)))
lower PermanentlyInsecure Insecure = (λ h. omega arith, λ h. refl)
lower PermanentlyInsecure Secure = (λ h. omega arith, λ h. refl)
lower PermanentlyInsecure HighlySecure = (λ h. omega arith, λ h. refl)
lower Insecure PermanentlyInsecure = (λ h. absurd (cc), λ h. absurd (omega (arith, h)))
lower Insecure Insecure = (λ h. absurd (cc), λ h. absurd (omega (arith, h)))
lower Insecure Secure = (λ h. omega arith, λ h. refl)
lower Insecure HighlySecure = (λ h. omega arith, λ h. refl)
lower Secure PermanentlyInsecure = (λ h. absurd (cc), λ h. absurd (omega (arith, h)))
lower Secure Insecure = (λ h. absurd (cc), λ h. absurd (omega (arith, h)))
lower Secure Secure = (λ h. absurd (cc), λ h. absurd (omega (arith, h)))
lower Secure HighlySecure = (λ h. omega arith, λ h. refl)
lower HighlySecure PermanentlyInsecure = (λ h. absurd (cc), λ h. absurd (omega (arith, h)))
lower HighlySecure Insecure = (λ h. absurd (cc), λ h. absurd (omega (arith, h)))
lower HighlySecure Secure = (λ h. absurd (cc), λ h. absurd (omega (arith, h)))
lower HighlySecure HighlySecure = (λ h. absurd (cc), λ h. absurd (omega (arith, h)))

above : (level : Level) → Decides (is_above_zero level) (1 < height level)
above PermanentlyInsecure = (λ h. absurd (cc), λ h. absurd (omega (arith, h)))
above Insecure = (λ h. absurd (cc), λ h. absurd (omega (arith, h)))
above Secure = (λ h. omega arith, λ h. refl)
above HighlySecure = (λ h. omega arith, λ h. refl)

unless_init : (l init : Bool) (m n : ℕ) → Decides l (m < n) → Decides (not (l && not init)) ((init ≡ true) ⊎ (n ≤ m))
unless_init true true m n d = (λ h. inl refl, λ h. refl)
unless_init true false m n d = (
  λ h. absurd (cc),
  λ h. let less = d.0 refl in ⊎_elim (λ e. absurd (cc)) (λ e. absurd (omega (arith, less, e))) h,
)
unless_init false init m n d = (λ h. inr (not_less m n (λ less. cc (d.1 less))), λ h. refl)
  where
    not_less : (m n : ℕ) → (m < n → ⊥) → n ≤ m
    not_less m n h = omega (arith, h)

pub level_by_number : LevelByNumber
level_by_number w caller level =
    met_by _ _ _ (Decides-eqb caller.uid 0) (met_last _ _
    (unless_init (is_lower level w.level) caller.init (height level) (height w.level) (lower level w.level)))

-- ---- flags

stays_set : {X Y : Type 0} (x y : Bool) → Decides (not x) X → Decides y Y → Decides (not (x && not y)) (X ⊎ Y)
stays_set true true dx dy = (λ h. inr (dy.0 refl), λ h. refl)
stays_set true false dx dy = (λ h. absurd (cc), λ h. ⊎_elim (λ a. absurd (cc (dx.1 a))) (λ b. absurd (cc (dy.1 b))) h)
stays_set false y dx dy = (λ h. inl (dx.0 refl), λ h. refl)

unless_above : {C D : Type 0} (a c d : Bool) (n : ℕ) → Decides a (1 < n) → Decides (not c) C → Decides (not d) D
    → Decides (not (a && (c || d))) ((n ≤ 1) ⊎ (C × D))
unless_above true true d n da dc dd = (
  λ h. absurd (cc),
  λ h. let high = da.0 refl in ⊎_elim (λ e. absurd (omega (arith, high, e))) (λ p. absurd (cc (dc.1 p.0))) h,
)
unless_above true false true n da dc dd = (
  λ h. absurd (cc),
  λ h. let high = da.0 refl in
      ⊎_elim (λ e. absurd (omega (arith, high, e))) (λ p. absurd (cc (dd.1 p.1))) h,
)
unless_above true false false n da dc dd = (λ h. inr (dc.0 refl, dd.0 refl), λ h. refl)
unless_above false c d n da dc dd = (λ h. inl (not_high n (λ high. cc (da.1 high))), λ h. refl)
  where
    not_high : (n : ℕ) → (1 < n → ⊥) → n ≤ 1
    not_high n h = omega (arith, h)

keeps : (level : Level) (old new : ℕ)
    → Decides (keeps_system_locks level old new) ((height level ≤ 1)
    ⊎ ((IsOff old 0x2_0000 ⊎ IsOn new 0x2_0000) × (IsOff old 0x4_0000 ⊎ IsOn new 0x4_0000)))
keeps level old new =
    unless_above (is_above_zero level) _ _ (height level) (above level)
    (stays_set _ _ (off old 0x2_0000) (on new 0x2_0000))
    (stays_set _ _ (off old 0x4_0000) (on new 0x4_0000))

same_upper : (m n : ℕ) → Decides (not (not (m == n))) (m ≡ n)
same_upper m n = twice (m == n) (Decides-eqb m n)
  where
    twice : {P : Type 0} (b : Bool) → Decides b P → Decides (not (not b)) P
    twice true d = d
    twice false d = d

-- who isn't user 0 may set these
others_flags : (caller : Caller) (old new : ℕ) → caller.uid ≢ 0
    → Decides (may_set_flags caller old new) ((old / 0x1_0000 ≡ new / 0x1_0000)
    × (IsOff old 0x2_0000 × IsOff old 0x4_0000))
others_flags caller old new other =
    Decides-at _ _ (ap (λ b. b || not (not (old / 0x1_0000 == new / 0x1_0000) ||
    (has_bit old 0x2_0000 || has_bit old 0x4_0000))) (ne_eqb caller.uid 0 other))
    (neither _ _ (same_upper (old / 0x1_0000) (new / 0x1_0000)) (neither _ _ (off old 0x2_0000) (off old 0x4_0000)))

others_owner : (caller : Caller) (attrs : Attrs) → caller.uid ≢ 0
    → Decides (is_owner_or_superuser caller attrs) (caller.uid ≡ attrs.uid)
others_owner caller attrs other = Decides-like _ (λ h. ⊎_elim (λ e. absurd (other e)) (λ e. e) h) (λ e. inr e)
    (owner caller attrs)

pub flags_by_owner : FlagsByOwner
flags_by_owner w caller path n flags attrs sees other =
    said _ (λ p. (p.0, p.1.0.0, p.1.0.1)) (λ p. (p.0, ((p.1, p.2), inr (inl p.2.0, inl p.2.1))))
    (decided w caller path n attrs sees (chflags_tests caller w.level flags)
    (met_by _ _ _ (others_owner caller attrs other)
    (met_by _ _ _ (others_flags caller attrs.flags flags other)
    (met_last _ _ (keeps w.level attrs.flags flags)))))

super_flags : (caller : Caller) (old new : ℕ) → caller.uid ≡ 0 → may_set_flags caller old new ≡ true
super_flags caller old new super = ap (λ u. (u == 0) || not
    (not (old / 0x1_0000 == new / 0x1_0000) || (has_bit old 0x2_0000 || has_bit old 0x4_0000))) super

pub flags_by_level : FlagsByLevel
flags_by_level w caller path n flags attrs sees super =
    decided w caller path n attrs sees (chflags_tests caller w.level flags)
    (met_always _ _ _ ((owner caller attrs).1 (inl super))
    (met_always _ _ _ (super_flags caller attrs.flags flags super)
    (met_last _ _ (keeps w.level attrs.flags flags))))
