-- The numbers of a head are read off its bytes, and bytes have one head: `head_told` and `same_level` for ImageLemmas,
-- `no_head` for `Head::read`. Each number is below 2^32 by its range (MayHead), so four bytes spell it, and the eight
-- stand one behind the other from the first byte on. Bytes behind them must be those of the head with these numbers, or
-- the fault Gap is told (`no_head`); a number more takes its place before the zeros.
use Rattle.std.proofs.Common.{◌≡◌, ℕ, ◌^◌, ◌<◌, List, ◌++◌, Option, None, Some, take, drop, refl, sym, ap, subst, ◌∙◌, arith}
use Rattle.std.proofs.lemmas.List.{take-append-drop}
use Rattle.std.proofs.lemmas.Nat.{from_be_bytes-to_be_bytes_4}
use Rattle.lfs_types.specs.declared.level.Level.{Level}
use Rattle.lfs_types.specs.declared.level.Level.TheVariants.{PermanentlyInsecure, Insecure, Secure, HighlySecure}
use Rattle.lfs_segments.specs.Memory.{IsNextSerial}
use Rattle.lfs_ifile.specs.Layout.{number_at, u32_bytes}
use Rattle.lfs_image.specs.declared.head.Head.{Head}
use Rattle.lfs_image.specs.Heads.{MayHead, ReadsHead}
use Rattle.lfs_image.specs.Image.{head_bytes, level_word, serial_word}

level-fits : (level : Level) → level_word level < 2 ^ 32
level-fits PermanentlyInsecure = omega arith
level-fits Insecure = omega arith
level-fits Secure = omega arith
level-fits HighlySecure = omega arith

pub same_level : (a b : Level) → level_word a ≡ level_word b → a ≡ b
same_level PermanentlyInsecure PermanentlyInsecure e = refl
same_level PermanentlyInsecure Insecure e = absurd (omega arith)
same_level PermanentlyInsecure Secure e = absurd (omega arith)
same_level PermanentlyInsecure HighlySecure e = absurd (omega arith)
same_level Insecure PermanentlyInsecure e = absurd (omega arith)
same_level Insecure Insecure e = refl
same_level Insecure Secure e = absurd (omega arith)
same_level Insecure HighlySecure e = absurd (omega arith)
same_level Secure PermanentlyInsecure e = absurd (omega arith)
same_level Secure Insecure e = absurd (omega arith)
same_level Secure Secure e = refl
same_level Secure HighlySecure e = absurd (omega arith)
same_level HighlySecure PermanentlyInsecure e = absurd (omega arith)
same_level HighlySecure Insecure e = absurd (omega arith)
same_level HighlySecure Secure e = absurd (omega arith)
same_level HighlySecure HighlySecure e = refl

serial-fits : (serial : Option ℕ) → IsNextSerial serial → serial_word serial < 2 ^ 32
serial-fits None told = omega arith
serial-fits (Some serial) told = let below = told.1 in omega arith

-- a serial is no 0
pub same_serial : (a b : Option ℕ) → IsNextSerial a → IsNextSerial b → serial_word a ≡ serial_word b → a ≡ b
same_serial None None p q e = refl
same_serial None (Some b) p q e = let some = q.0 in absurd (omega arith)
same_serial (Some a) None p q e = let some = p.0 in absurd (omega arith)
same_serial (Some a) (Some b) p q e = ap Some e

-- the bytes of a head say its numbers
pub head_told : (h : Head) (rest : List ℕ) → MayHead h → ReadsHead (head_bytes h ++ rest) h
unfolding head_bytes u32_bytes number_at
head_told h rest is =
    let segments : h.segments < 2 ^ 32 = let most = is.segments_most in omega arith in
    let inodes : h.inodes < 2 ^ 32 = let most = is.inodes_most in omega arith in
    let active : h.active < 2 ^ 32 = let below = is.active_inside in omega arith in
    let used : h.used < 2 ^ 32 = let most = is.within in omega arith in
    record {
      mark = refl;
      form = refl;
      segments = from_be_bytes-to_be_bytes_4 h.segments segments;
      inodes = from_be_bytes-to_be_bytes_4 h.inodes inodes;
      active = from_be_bytes-to_be_bytes_4 h.active active;
      used = from_be_bytes-to_be_bytes_4 h.used used;
      level = from_be_bytes-to_be_bytes_4 (level_word h.level) (level-fits h.level);
      serial = from_be_bytes-to_be_bytes_4 (serial_word h.serial) (serial-fits h.serial is.told);
      told = is.told;
    }

-- so do bytes that begin with them
pub head_read : (bytes : List ℕ) (h : Head) → MayHead h → take 512 bytes ≡ head_bytes h → ReadsHead bytes h
head_read bytes h is begins =
    let whole : head_bytes h ++ drop 512 bytes ≡ bytes = ap (λ front. front ++ drop 512 bytes) (sym begins)
    ∙ take-append-drop 512 bytes in
    subst (λ bs. ReadsHead bs h) whole (head_told h (drop 512 bytes) is)

-- bytes say the numbers of one head
pub one_head : (bytes : List ℕ) (a b : Head) → ReadsHead bytes a → ReadsHead bytes b → a ≡ b
one_head bytes a b p q =
    let segments : a.segments ≡ b.segments = sym p.segments ∙ q.segments in
    let inodes : a.inodes ≡ b.inodes = sym p.inodes ∙ q.inodes in
    let active : a.active ≡ b.active = sym p.active ∙ q.active in
    let used : a.used ≡ b.used = sym p.used ∙ q.used in
    let level : a.level ≡ b.level = same_level a.level b.level (sym p.level ∙ q.level) in
    let serial : a.serial ≡ b.serial = same_serial a.serial b.serial p.told q.told (sym p.serial ∙ q.serial) in
    λ i. record {
      segments = segments i;
      inodes = inodes i;
      active = active i;
      used = used i;
      level = level i;
      serial = serial i;
    }

-- a head that isn't the one whose numbers the bytes say isn't theirs
pub no_head : (bytes : List ℕ) (a : Head) → ReadsHead bytes a → (take 512 bytes ≡ head_bytes a → ⊥)
    → (h : Head) → MayHead h → take 512 bytes ≡ head_bytes h → ⊥
no_head bytes a reads other h is begins =
    other (begins ∙ ap head_bytes (one_head bytes h a (head_read bytes h is begins) reads))
