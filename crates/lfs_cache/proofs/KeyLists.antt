-- A list of keys without one of them.
use Rattle.std.proofs.Common.{◌≡◌, ℕ, zero, suc, ◌<◌, true, false, cond, List, [], ◌∷◌, length, get_or, refl, sym, ap}
use Rattle.std.proofs.Common.{◌∙◌, arith}
use Rattle.std.specs.List.{remove}
use Rattle.std.proofs.slice.Lists.{any-default}
use Rattle.std.specs.Prelude.{None, slice_index_or}
use Rattle.lfs_cache.specs.declared.key.Key.{Key}
use Rattle.lfs_cache.specs.Keys.{same_key}
use Rattle.lfs_cache.specs.Frames.{names_without, name_or}

-- the key at a place of a list
abbrev pub key_in : List Key → ℕ → Key
key_in ns p = slice_index_or ns p (name_or None)

pub names_dropped : (ns : List Key) (i : ℕ) (k : Key) → i < length ns
    → ((p : ℕ) → p < i → same_key (key_in ns p) k ≡ false) → same_key (key_in ns i) k ≡ true → remove ns i
    ≡ names_without k ns
names_dropped [] i k inside others here = absurd (omega arith)
names_dropped (n ∷ ns) zero k inside others here = ap (λ b. cond b ns (n ∷ names_without k ns)) (sym here)
names_dropped (n ∷ ns) (suc i) k inside others here =
    ap (λ ms. n ∷ ms) (names_dropped ns i k (omega arith) (λ p low. others (suc p) (omega arith)) here)
    ∙ ap (λ b. cond b ns (n ∷ names_without k ns)) (sym (others 0 (omega arith)))

pub names_absent : (ns : List Key) (k : Key) → ((p : ℕ) → p < length ns → same_key (key_in ns p) k ≡ false)
    → names_without k ns ≡ ns
names_absent [] k others = refl
names_absent (n ∷ ns) k others = ap (λ b. cond b ns (n ∷ names_without k ns)) (others 0 (omega arith))
    ∙ ap (λ ms. n ∷ ms) (names_absent ns k (λ p low. others (suc p) (omega arith)))

pub name_is : (ns : List Key) (i : ℕ) (x : Key) → i < length ns → x ≡ get_or ns i x → x ≡ key_in ns i
name_is ns i x inside e = e ∙ sym (any-default ns i (record { ino = 0; version = 0; lbn = record { 0 = 0 } }) x inside)
