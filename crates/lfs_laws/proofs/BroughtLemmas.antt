-- Calls that differ only in what they bring are decided alike: `decides_alike`, for the law of that name. Call by call,
-- the tests see of bytes only whether they fit, of a mode nothing, of flags the upper half (`may_set_same`,
-- `keeps_same`), and of a group whether it's one of the caller's (`any_group`). The system's locks are read off the
-- upper half as well (`immutable_bit`, `append_bit`); a test that looked at a mode or at the user's flags to be set
-- would break this.
use Rattle.std.proofs.Common.{◌≡◌, ℕ, ◌/◌, ◌%◌, ◌==◌, ◌&&◌, ◌||◌, not, Bool, true, false, [], ◌∷◌, ◌++◌, length, refl}
use Rattle.std.proofs.Common.{sym, ap, ◌∙◌, arith}
use Rattle.lfs_types.specs.Caller.{Caller}
use Rattle.lfs_types.specs.Tree.{root}
use Rattle.lfs_types.specs.declared.level.Level.{Level}
use Rattle.lfs_types.specs.declared.request.Request.TheVariants.{Read, Write, SetLength, Create, Mkdir, Chmod, Chown}
use Rattle.lfs_types.specs.declared.request.Request.TheVariants.{Chflags}
use Rattle.lfs_types.specs.declared.rule.Rule.TheVariants.{FitsFile, MaySetOwner, MaySetFlags, KeepsSystemLocks}
use Rattle.lfs_types.specs.declared.rule.Rule.TheVariants.{IsOwner, IsMutable, IsNotAppendOnly}
use Rattle.lfs_rules.specs.Bits.{has_bit}
use Rattle.lfs_rules.specs.Locks.{is_immutable, is_append_only, may_set_flags, keeps_system_locks}
use Rattle.lfs_rules.specs.Owners.{is_the_superuser, is_the_owner, is_in_group, is_owner_or_superuser, may_set_owner}
use Rattle.lfs_rules.specs.Securelevel.{is_above_zero}
use Rattle.lfs_model.specs.Rules.{asks, attrs_at, change_tests, decide, first_failing, reached, walk}
use Rattle.lfs_laws.specs.LawBrought.{DecidesAlike}

-- a group of the caller's is as good as another
any_group : (s o u a b m n : Bool) → m ≡ true → n ≡ true → (s || ((o && u) && (a || m))) ≡ (s || ((o && u) && (b || n)))
any_group true o u a b m n h e = refl
any_group false false u a b m n h e = refl
any_group false true false a b m n h e = refl
any_group false true true true true m n h e = refl
any_group false true true true false m n h e = sym e
any_group false true true false true m n h e = h
any_group false true true false false m n h e = h ∙ sym e

-- a system flag is read off the upper half
upper_bit : (flags : ℕ) → flags / 0x2_0000 % 2 ≡ flags / 0x1_0000 / 2 % 2
upper_bit flags = let same : flags / 0x2_0000 ≡ flags / 0x1_0000 / 2 = omega arith in ap (λ n. n % 2) same

third_bit : (flags : ℕ) → flags / 0x4_0000 % 2 ≡ flags / 0x1_0000 / 4 % 2
third_bit flags = let same : flags / 0x4_0000 ≡ flags / 0x1_0000 / 4 = omega arith in ap (λ n. n % 2) same

immutable_bit : (flags other : ℕ) → flags / 0x1_0000 ≡ other / 0x1_0000 → has_bit flags 0x2_0000
    ≡ has_bit other 0x2_0000
immutable_bit flags other e = ap (λ n. n == 1) (upper_bit flags ∙ ap (λ n. n / 2 % 2) e ∙ sym (upper_bit other))

append_bit : (flags other : ℕ) → flags / 0x1_0000 ≡ other / 0x1_0000 → has_bit flags 0x4_0000 ≡ has_bit other 0x4_0000
append_bit flags other e = ap (λ n. n == 1) (third_bit flags ∙ ap (λ n. n / 4 % 2) e ∙ sym (third_bit other))

may_set_same : (caller : Caller) (old flags other : ℕ) → flags / 0x1_0000 ≡ other / 0x1_0000
    → may_set_flags caller old flags ≡ may_set_flags caller old other
may_set_same caller old flags other e = ap
    (λ n. is_the_superuser caller || not (not (old / 0x1_0000 == n) || (has_bit old 0x2_0000 || has_bit old 0x4_0000)))
    e

keeps_same : (level : Level) (old flags other : ℕ) → flags / 0x1_0000 ≡ other / 0x1_0000
    → keeps_system_locks level old flags ≡ keeps_system_locks level old other
keeps_same level old flags other e =
    let one = immutable_bit flags other e in
    let two = append_bit flags other e in
    λ i. not (is_above_zero level && ((has_bit old 0x2_0000 && not (one i)) || (has_bit old 0x4_0000 && not (two i))))

pub decides_alike : DecidesAlike
decides_alike w caller (Read path off len) (Read path2 off2 len2) e = ap (λ p. decide w caller (Read p off len)) e
decides_alike w caller (Write path place bytes) (Write path2 place2 bytes2) e =
    (λ i. let attrs = attrs_at w.rows (reached w.rows root path) in
    first_failing (walk w.rows caller 0 0 root path
    ++ (change_tests caller (e.1 i) attrs (length path) ++ (asks (e.2 i) FitsFile 0 (length path) ∷ []))))
    ∙ ap (λ p. decide w caller (Write p place2 bytes2)) e.0
decides_alike w caller (SetLength path len) (SetLength path2 len2) e =
    (λ i. let attrs = attrs_at w.rows (reached w.rows root path) in
    first_failing (walk w.rows caller 0 0 root path
    ++ (change_tests caller false attrs (length path) ++ (asks (e.1 i) FitsFile 0 (length path) ∷ []))))
    ∙ ap (λ p. decide w caller (SetLength p len2)) e.0
decides_alike w caller (Create path mode) (Create path2 mode2) e = ap (λ p. decide w caller (Create p mode)) e
decides_alike w caller (Mkdir path mode) (Mkdir path2 mode2) e = ap (λ p. decide w caller (Mkdir p mode)) e
decides_alike w caller (Chmod path mode) (Chmod path2 mode2) e = ap (λ p. decide w caller (Chmod p mode)) e
decides_alike w caller (Chown path uid gid) (Chown path2 uid2 gid2) e =
    let attrs = attrs_at w.rows (reached w.rows root path) in
    let may : may_set_owner caller attrs uid gid ≡ may_set_owner caller attrs uid gid2 =
    any_group (is_the_superuser caller) (is_the_owner caller attrs) (uid == attrs.uid) (gid == attrs.gid)
    (gid2 == attrs.gid) (is_in_group caller gid) (is_in_group caller gid2) e.2 e.3 in
    (λ i. first_failing (walk w.rows caller 0 0 root path ++
    (asks (not (is_immutable attrs)) IsMutable 0 (length path)
    ∷ asks (not (is_append_only attrs)) IsNotAppendOnly 0 (length path)
    ∷ asks (may i) MaySetOwner 0 (length path)
    ∷ [])))
    ∙ ap (λ u. decide w caller (Chown path u gid2)) e.1
    ∙ ap (λ p. decide w caller (Chown p uid2 gid2)) e.0
decides_alike w caller (Chflags path flags) (Chflags path2 flags2) e =
    let attrs = attrs_at w.rows (reached w.rows root path) in
    let may = may_set_same caller attrs.flags flags flags2 e.1 in
    let keeps = keeps_same w.level attrs.flags flags flags2 e.1 in
    (λ i. first_failing (walk w.rows caller 0 0 root path ++
    (asks (is_owner_or_superuser caller attrs) IsOwner 0 (length path)
    ∷ asks (may i) MaySetFlags 0 (length path)
    ∷ asks (keeps i) KeepsSystemLocks 0 (length path)
    ∷ [])))
    ∙ ap (λ p. decide w caller (Chflags p flags2)) e.0
decides_alike w caller request other e = absurd e
