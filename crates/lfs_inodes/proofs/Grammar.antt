-- A record is that of one inode (`IsRecord-one`, for `Inode::decode`), and an inode has one record of each record
-- version (`IsRecord-same`, for `encode`). Each stretch of the 128 bytes is a number that the grammar fixes, or zero;
-- equal numbers have equal bytes, and the stretches are joined from 0 to 128. A byte that no clause names breaks
-- `IsRecord-same`, and a field of `Inode` that no byte holds breaks `IsRecord-one`.
use Rattle.std.proofs.Common.{◌≡◌, ℕ, zero, suc, ◌+◌, ◌*◌, ◌<◌, ◌≤◌, List, refl, sym, ap, ◌∙◌, arith, inl, inr}
use Rattle.std.specs.Prelude.{Option, Some, None, IfNone, replicate}
use Rattle.std.proofs.lemmas.Bool.{cases_lt}
use Rattle.std.proofs.lemmas.List.{ext_get_or}
use Rattle.lfs_types.specs.declared.attrs.Kind.{Kind}
use Rattle.lfs_types.specs.declared.attrs.Kind.TheVariants.{File, Directory}
use Rattle.lfs_inodes.specs.declared.inode.Inode.{Inode}
use Rattle.lfs_inodes.specs.Bytes.{number_at, AreBytes, AreZero, SameBetween, Puts}
use Rattle.lfs_inodes.specs.Record.{IsKindCode, HasIdentity, HasAttributes, IsRecord}
use Rattle.lfs_inodes.proofs.Numbers.{number_at-same, number_at-one}
use Rattle.lfs_inodes.proofs.SameInode.{same_inode}

-- a part of a stretch that agrees
pub SameBetween-within : (xs ys : List ℕ) (from end low high : ℕ) → SameBetween xs ys from end → from ≤ low → high ≤ end
    → SameBetween xs ys low high
SameBetween-within xs ys from end low high same p q k above below = same k (omega arith) (omega arith)

-- two stretches, one after the other
SameBetween-join : (xs ys : List ℕ) (from mid end : ℕ) → SameBetween xs ys from mid → SameBetween xs ys mid end
    → SameBetween xs ys from end
SameBetween-join xs ys from mid end first second k low high =
    elim (cases_lt k mid) [ inl below ↦ first k low below | inr above ↦ second k above high ]

-- stretches of zeros
SameBetween-zero : (xs ys : List ℕ) (from end : ℕ) → AreZero xs from end → AreZero ys from end
    → SameBetween xs ys from end
SameBetween-zero xs ys from end p q k low high = p k low high ∙ sym (q k low high)

-- `count` stretches of 4 bytes, one after the other
pub SameBetween-cells : (xs ys : List ℕ) (at count : ℕ)
    → ((n : ℕ) → n < count → SameBetween xs ys (at + 4 * n) (at + 4 * n + 4)) → SameBetween xs ys at (at + 4 * count)
SameBetween-cells xs ys at zero cells k low high = absurd (omega arith)
SameBetween-cells xs ys at (suc count) cells k low high = elim (cases_lt k (at + 4 * count)) [
  | inl below ↦ SameBetween-cells xs ys at count (λ n lt. cells n (omega arith)) k low below
  | inr above ↦ cells count (omega arith) k above (omega arith)
]

-- a number within a stretch that agrees
pub number_at-within : (xs ys : List ℕ) (from end at n : ℕ) → SameBetween xs ys from end → from ≤ at → at + n ≤ end
    → number_at xs at n ≡ number_at ys at n
number_at-within xs ys from end at n same low high =
    number_at-same xs ys at n (SameBetween-within xs ys from end at (at + n) same low high)

-- a write leaves the numbers before it
pub number_at-before : (old new : List ℕ) (at n number i w : ℕ) → Puts old new at n number → i + w ≤ at
    → number_at new i w ≡ number_at old i w
number_at-before old new at n number i w p below = number_at-within new old 0 at i w p.below (omega arith) below

-- the parts of a record depend on their own bytes alone
pub HasIdentity-same : (xs ys : List ℕ) (v : Inode) → SameBetween ys xs 0 12 → HasIdentity xs v → HasIdentity ys v
HasIdentity-same xs ys v same h = record {
  kind = rw (number_at-within ys xs 0 12 2 2 same (omega arith) (omega arith)) h.kind;
  number = number_at-within ys xs 0 12 4 4 same (omega arith) (omega arith) ∙ h.number;
  version = number_at-within ys xs 0 12 8 4 same (omega arith) (omega arith) ∙ h.version;
}

pub HasAttributes-same : (xs ys : List ℕ) (v : Inode) → SameBetween ys xs 12 36 → HasAttributes xs v
    → HasAttributes ys v
HasAttributes-same xs ys v same h = record {
  owner = number_at-within ys xs 12 36 12 4 same (omega arith) (omega arith) ∙ h.owner;
  group = number_at-within ys xs 12 36 16 4 same (omega arith) (omega arith) ∙ h.group;
  mode = number_at-within ys xs 12 36 20 2 same (omega arith) (omega arith) ∙ h.mode;
  unnamed = λ k low high. same k (omega arith) (omega arith) ∙ h.unnamed k low high;
  flags = number_at-within ys xs 12 36 24 4 same (omega arith) (omega arith) ∙ h.flags;
  size = number_at-within ys xs 12 36 28 8 same (omega arith) (omega arith) ∙ h.size;
}

-- a number stands for one kind
one_kind : (code : ℕ) (a b : Kind) → IsKindCode code a → IsKindCode code b → a ≡ b
one_kind code File File p q = refl
one_kind code File Directory p q = absurd (omega arith)
one_kind code Directory File p q = absurd (omega arith)
one_kind code Directory Directory p q = refl

one_code : (a b : ℕ) (kind : Kind) → IsKindCode a kind → IsKindCode b kind → a ≡ b
one_code a b File p q = p ∙ sym q
one_code a b Directory p q = p ∙ sym q

-- a record is that of one inode
pub IsRecord-one : (bytes : List ℕ) (v w : Inode) → IsRecord bytes v → IsRecord bytes w → v ≡ w
IsRecord-one bytes v w p q = same_inode v w
    (one_kind (number_at bytes 2 2) v.kind w.kind p.identity.kind q.identity.kind)
    (sym p.identity.number ∙ q.identity.number)
    (sym p.identity.version ∙ q.identity.version)
    (sym p.attributes.owner ∙ q.attributes.owner)
    (sym p.attributes.group ∙ q.attributes.group)
    (sym p.attributes.mode ∙ q.attributes.mode)
    (sym p.attributes.flags ∙ q.attributes.flags)
    (sym p.attributes.size ∙ q.attributes.size)
    (ext_get_or 0 v.direct w.direct (v.whole ∙ sym w.whole)
    (λ n lt. sym (p.addresses.direct n (omega (arith, v.whole))) ∙ q.addresses.direct n (omega (arith, v.whole))))
    (sym p.addresses.single ∙ q.addresses.single)
    (sym p.addresses.double ∙ q.addresses.double)

-- an inode has one record of a version
pub IsRecord-same : (xs ys : List ℕ) (v : Inode) → AreBytes xs → AreBytes ys → number_at xs 0 2 ≡ number_at ys 0 2
    → IsRecord xs v → IsRecord ys v → xs ≡ ys
IsRecord-same xs ys v p q version a b = ext_get_or 0 xs ys (a.whole ∙ sym b.whole)
    (λ k lt. whole k (omega arith) (omega (arith, a.whole)))
  where
    at : (i n : ℕ) → number_at xs i n ≡ number_at ys i n → SameBetween xs ys i (i + n)
    at i n e = number_at-one xs ys i n p q e

    then : (mid end : ℕ) → SameBetween xs ys 0 mid → SameBetween xs ys mid end → SameBetween xs ys 0 end
    then mid end first second = SameBetween-join xs ys 0 mid end first second

    identity : SameBetween xs ys 0 12
    identity =
        then 8 12 (then 4 8 (then 2 4
        (at 0 2 version)
        (at 2 2 (one_code (number_at xs 2 2) (number_at ys 2 2) v.kind a.identity.kind b.identity.kind)))
        (at 4 4 (a.identity.number ∙ sym b.identity.number)))
        (at 8 4 (a.identity.version ∙ sym b.identity.version))

    attributes : SameBetween xs ys 0 36
    attributes =
        then 28 36 (then 24 28 (then 22 24 (then 20 22 (then 16 20 (then 12 16 identity
        (at 12 4 (a.attributes.owner ∙ sym b.attributes.owner)))
        (at 16 4 (a.attributes.group ∙ sym b.attributes.group)))
        (at 20 2 (a.attributes.mode ∙ sym b.attributes.mode)))
        (SameBetween-zero xs ys 22 24 a.attributes.unnamed b.attributes.unnamed))
        (at 24 4 (a.attributes.flags ∙ sym b.attributes.flags)))
        (at 28 8 (a.attributes.size ∙ sym b.attributes.size))

    whole : SameBetween xs ys 0 128
    whole =
        then 92 128 (then 88 92 (then 84 88 (then 36 84 attributes
        (SameBetween-cells xs ys 36 12 (λ n lt. at (36 + 4 * n) 4 (a.addresses.direct n lt
        ∙ sym (b.addresses.direct n lt)))))
        (at 84 4 (a.addresses.single ∙ sym b.addresses.single)))
        (at 88 4 (a.addresses.double ∙ sym b.addresses.double)))
        (SameBetween-zero xs ys 92 128 a.addresses.unnamed b.addresses.unnamed)

-- a kind's number, wherever it stands
pub IsKindCode-along : (a b : ℕ) (kind : Kind) → a ≡ b → IsKindCode b kind → IsKindCode a kind
IsKindCode-along a b kind e h = rw e h

-- zeros are no record
pub zeros_no_record : (bytes : List ℕ) (v : Inode) → bytes ≡ replicate 128 0 → IsRecord bytes v → ⊥
unfolding number_at
zeros_no_record bytes v zeros h =
    let none : number_at bytes 0 2 ≡ 0 = ap (λ (xs : List ℕ). number_at xs 0 2) zeros in
    elim h.record_version [
      | inl second ↦ absurd (omega (arith, sym none ∙ second))
      | inr first ↦ absurd (omega (arith, sym none ∙ first.0))
    ]

pub IfNone-always : {X : Type 0} (r : Option X) (P : Type 0) → P → IfNone r P
IfNone-always None P p = p
IfNone-always (Some x) P p = tt
