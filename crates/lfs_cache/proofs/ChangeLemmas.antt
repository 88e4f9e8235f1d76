-- What a call does to keys other than its own is nothing, or a clean block gives way: `used_kept`, `settled_others`,
-- `forgotten_others`, `filled_gains`, `written_gains`, for each call of `Cache`, on whose clauses `lfs_parts` stands.
-- The key leaves its list and comes first in one, which another key doesn't see; blocks are lost by `drop_last` of LRU
-- alone (`last_gone`), so dirty ones never are. The counts need that no key comes twice (`IsContents`), as
-- `without_key` takes all of its entries away.
use Rattle.std.proofs.Common.{◌≡◌, ℕ, zero, suc, ◌+◌, ◌≤◌, false, cond, List, [], ◌∷◌, ◌++◌, length, Option, Some, None}
use Rattle.std.proofs.Common.{IsSome, refl, sym, ap, ap₂, subst, ◌∙◌, inl, inr, arith}
use Rattle.lfs_cache.specs.declared.key.Key.{Key}
use Rattle.lfs_cache.specs.Keys.{same_key}
use Rattle.lfs_cache.specs.Contents.{Contents, block_in, block_of, or_else, without_key, drop_last, taken_by}
use Rattle.lfs_cache.specs.Contents.{with_frame, used, used_by, filled, written, written_by, settled, settled_by}
use Rattle.lfs_cache.specs.Contents.{forgotten, forgotten_by, IsLocked, keys_of, Lacks, AreApart}
use Rattle.lfs_cache.specs.Changes.{KeepsBlocks, KeepsOthers, GainsOnly, IsContents}
use Rattle.lfs_cache.proofs.Entries.{same_is, same_cases}
use Rattle.lfs_cache.proofs.CallerLemmas.{none_both, block_gone, block_other, block_first, filled_locked}
use Rattle.lfs_cache.proofs.CallerLemmas.{written_locked}

some_none : (o : Option (List ℕ)) (b : List ℕ) → o ≡ Some b → o ≡ None → ⊥
some_none o b some none = let bad : Some b ≡ None = sym some ∙ none in absurd (cc)

-- a list without a key that it has not
pub without_missing : (k : Key) (es : List (Key × List ℕ)) → block_in k es ≡ None → without_key k es ≡ es
without_missing k [] none = refl
without_missing k (e ∷ es) none =
    elim (same_cases e.0 k) as (λ _. without_key k (e ∷ es) ≡ e ∷ es) [
      | inl t ↦ absurd (some_none (block_in k (e ∷ es)) e.1 (ap (λ b. cond b (Some e.1) (block_in k es)) t) none)
      | inr t ↦ (let rest : block_in k es ≡ None = sym (ap (λ b. cond b (Some e.1) (block_in k es)) t) ∙ none in
          ap (λ b. cond b (without_key k es) (e ∷ without_key k es)) t ∙ ap (λ ds. e ∷ ds) (without_missing k es rest))
    ]

-- a key that a list lacks has no block in it
pub lacks_missing : (k : Key) (es : List (Key × List ℕ)) → Lacks k (keys_of es) → block_in k es ≡ None
lacks_missing k [] lacks = refl
lacks_missing k (e ∷ es) lacks = ap (λ b. cond b (Some e.1) (block_in k es)) lacks.0 ∙ lacks_missing k es lacks.1

-- a list without a key that it has is one shorter
without_length : (k : Key) (es : List (Key × List ℕ)) → AreApart (keys_of es) → IsSome (block_in k es)
    → suc (length (without_key k es)) ≡ length es
without_length k [] apart some = absurd (cc)
without_length k (e ∷ es) apart some =
    elim (same_cases e.0 k) as (λ _. suc (length (without_key k (e ∷ es))) ≡ length (e ∷ es)) [
      | inl t ↦ (let none : block_in k es ≡ None =
          lacks_missing k es (subst (λ z. Lacks z (keys_of es)) (same_is e.0 k t) apart.0) in
          ap (λ b. suc (length (cond b (without_key k es) (e ∷ without_key k es)))) t
          ∙ ap (λ ds. suc (length ds)) (without_missing k es none))
      | inr t ↦ (let rest : IsSome (block_in k es) =
          subst IsSome (ap (λ b. cond b (Some e.1) (block_in k es)) t) some in
          ap (λ b. suc (length (cond b (without_key k es) (e ∷ without_key k es)))) t
          ∙ ap suc (without_length k es apart.1 rest))
    ]

-- a list without a key is no longer than it was
pub without_shorter : (k : Key) (es : List (Key × List ℕ)) → length (without_key k es) ≤ length es
without_shorter k [] = omega arith
without_shorter k (e ∷ es) =
    elim (same_cases e.0 k) as (λ _. length (without_key k (e ∷ es)) ≤ length (e ∷ es)) [
      | inl t ↦ subst (λ b. length (cond b (without_key k es) (e ∷ without_key k es)) ≤ suc (length es)) (sym t)
          (let rest = without_shorter k es in omega arith)
      | inr t ↦ subst (λ b. length (cond b (without_key k es) (e ∷ without_key k es)) ≤ suc (length es)) (sym t)
          (let rest = without_shorter k es in omega arith)
    ]

-- the keys of the first of two lists are apart where those of both are
lacks_left : (k : Key) (ds es : List (Key × List ℕ)) → Lacks k (keys_of (ds ++ es)) → Lacks k (keys_of ds)
lacks_left k [] es lacks = tt
lacks_left k (d ∷ ds) es lacks = (lacks.0, lacks_left k ds es lacks.1)

pub apart_left : (ds es : List (Key × List ℕ)) → AreApart (keys_of (ds ++ es)) → AreApart (keys_of ds)
apart_left [] es apart = tt
apart_left (d ∷ ds) es apart = (lacks_left d.0 ds es apart.0, apart_left ds es apart.1)

-- a key that comes to the front of its list keeps its block, and so does each other
first_kept : (k other : Key) (b : List ℕ) (es : List (Key × List ℕ)) → block_in k es ≡ Some b
    → block_in other ((k, b) ∷ without_key k es) ≡ block_in other es
first_kept k other b es some =
    elim (same_cases k other) as (λ _. block_in other ((k, b) ∷ without_key k es) ≡ block_in other es) [
      | inl t ↦ ap (λ z. cond z (Some b) (block_in other (without_key k es))) t
          ∙ (sym some ∙ ap (λ z. block_in z es) (same_is k other t))
      | inr t ↦ ap (λ z. cond z (Some b) (block_in other (without_key k es))) t ∙ block_other k other es t
    ]

-- a key comes first in a list, which another key does not see
first_other : (k other : Key) (b : List ℕ) (es : List (Key × List ℕ)) → same_key k other ≡ false
    → block_in other ((k, b) ∷ without_key k es) ≡ block_in other es
first_other k other b es ne = ap (λ z. cond z (Some b) (block_in other (without_key k es))) ne
    ∙ block_other k other es ne

-- after `get`
used_in : (o p : Option (List ℕ)) (k : Key) (s : Contents) → block_in k s.locked ≡ o → block_in k s.lru ≡ p
    → IsContents s → KeepsBlocks s (used_by o p k s)
used_in None None k s locked lru is = record { blocks = λ other. refl; dirty = λ other. refl; count = refl }
used_in None (Some b) k s locked lru is =
    let stays : without_key k s.locked ≡ s.locked = without_missing k s.locked locked in record {
      blocks = λ other. ap₂ or_else (ap (block_in other) stays) (first_kept k other b s.lru lru);
      dirty = λ other. ap (block_in other) stays;
      count = ap length stays;
    }
used_in (Some b) p k s locked lru is = record {
  blocks = λ other. elim (same_cases k other) as (λ _. block_of other (used_by (Some b) p k s) ≡ block_of other s) [
    | inl t ↦ (let here : block_in other s.locked ≡ Some b = ap (λ z. block_in z s.locked) (sym (same_is k other t))
        ∙ locked in
        ap (λ o. or_else o (block_in other (without_key k s.lru))) (first_kept k other b s.locked locked ∙ here)
        ∙ ap (λ o. or_else o (block_in other s.lru)) (sym here))
    | inr t ↦ ap₂ or_else (first_kept k other b s.locked locked) (block_other k other s.lru t)
  ];
  dirty = λ other. first_kept k other b s.locked locked;
  count = without_length k s.locked (apart_left s.locked s.lru is.apart) (subst IsSome (sym locked) refl);
}

pub used_kept : (k : Key) (s : Contents) → IsContents s → KeepsBlocks s (used k s)
used_kept k s is = used_in (block_in k s.locked) (block_in k s.lru) k s refl refl is

-- after `settle`
settled_in : (o : Option (List ℕ)) (k : Key) (s : Contents) → block_in k s.locked ≡ o
    → KeepsOthers k s (settled_by o k s) × (block_in k (settled_by o k s).locked ≡ None)
settled_in None k s none = (record { blocks = λ other ne. refl; dirty = λ other ne. refl }, none)
settled_in (Some b) k s some = (
  record {
    blocks = λ other ne. ap₂ or_else (block_other k other s.locked ne) (first_other k other b s.lru ne);
    dirty = λ other ne. block_other k other s.locked ne;
  },
  block_gone k s.locked,
)

pub settled_others : (k : Key) (s : Contents) → KeepsOthers k s (settled k s)
settled_others k s = (settled_in (block_in k s.locked) k s refl).0

pub settled_unlocked : (k : Key) (s : Contents) → block_in k (settled k s).locked ≡ None
settled_unlocked k s = (settled_in (block_in k s.locked) k s refl).1

settled_less : (o : Option (List ℕ)) (k : Key) (s : Contents) → block_in k s.locked ≡ o → IsContents s → IsSome o
    → suc (length (settled_by o k s).locked) ≡ length s.locked
settled_less None k s none is some = absurd (cc)
settled_less (Some b) k s there is some =
    without_length k s.locked (apart_left s.locked s.lru is.apart) (subst IsSome (sym there) refl)

pub settled_count : (k : Key) (s : Contents) → IsContents s → IsLocked k s → length (settled k s).locked + 1
    ≡ length s.locked
settled_count k s is locked = let less = settled_less (block_in k s.locked) k s refl is locked in omega arith

-- after `forget`
forgotten_in : (o : Option (List ℕ)) (k : Key) (s : Contents) → block_of k s ≡ o → KeepsOthers k s (forgotten_by o k s)
    × (block_in k (forgotten_by o k s).locked ≡ None)
forgotten_in None k s none = (
  record { blocks = λ other ne. refl; dirty = λ other ne. refl },
  (none_both (block_in k s.locked) (block_in k s.lru) none).0,
)
forgotten_in (Some b) k s some = (
  record {
    blocks = λ other ne. ap₂ or_else (block_other k other s.locked ne) (block_other k other s.lru ne);
    dirty = λ other ne. block_other k other s.locked ne;
  },
  block_gone k s.locked,
)

pub forgotten_others : (k : Key) (s : Contents) → KeepsOthers k s (forgotten k s)
forgotten_others k s = (forgotten_in (block_of k s) k s refl).0

pub forgotten_unlocked : (k : Key) (s : Contents) → block_in k (forgotten k s).locked ≡ None
forgotten_unlocked k s = (forgotten_in (block_of k s) k s refl).1

-- a LOCKED key has a block
locked_some : (o p : Option (List ℕ)) → IsSome o → IsSome (or_else o p)
locked_some None p some = absurd (cc)
locked_some (Some b) p some = refl

forgotten_less : (o : Option (List ℕ)) (k : Key) (s : Contents) → IsContents s → IsLocked k s → IsSome o
    → suc (length (forgotten_by o k s).locked) ≡ length s.locked
forgotten_less None k s is locked some = absurd (cc)
forgotten_less (Some b) k s is locked some = without_length k s.locked (apart_left s.locked s.lru is.apart) locked

pub forgotten_count : (k : Key) (s : Contents) → IsContents s → IsLocked k s → length (forgotten k s).locked + 1
    ≡ length s.locked
forgotten_count k s is locked =
    let less = forgotten_less (block_of k s) k s is locked (locked_some (block_in k s.locked) (block_in k s.lru) locked)
    in omega arith

forgotten_some : (o : Option (List ℕ)) (k : Key) (s : Contents) → block_in k s.locked ≡ None
    → (forgotten_by o k s).locked ≡ s.locked
forgotten_some None k s clean = refl
forgotten_some (Some b) k s clean = without_missing k s.locked clean

pub forgotten_clean : (k : Key) (s : Contents) → block_in k s.locked ≡ None → (forgotten k s).locked ≡ s.locked
forgotten_clean k s clean = forgotten_some (block_of k s) k s clean

-- a block that is left after the last entry has gone was there
last_gone : (k : Key) (b : List ℕ) (es : List (Key × List ℕ)) → block_in k (drop_last es) ≡ Some b → block_in k es
    ≡ Some b
last_gone k b [] some = some
last_gone k b (e ∷ []) some = absurd (cc)
last_gone k b (e ∷ d ∷ es) some =
    elim (same_cases e.0 k) as (λ _. block_in k (e ∷ d ∷ es) ≡ Some b) [
      | inl t ↦ ap (λ z. cond z (Some e.1) (block_in k (d ∷ es))) t
          ∙ (sym (ap (λ z. cond z (Some e.1) (block_in k (drop_last (d ∷ es)))) t) ∙ some)
      | inr t ↦ ap (λ z. cond z (Some e.1) (block_in k (d ∷ es))) t
          ∙ last_gone k b (d ∷ es) (sym (ap (λ z. cond z (Some e.1) (block_in k (drop_last (d ∷ es)))) t) ∙ some)
    ]

taken_clean : (empty age : ℕ) (s : Contents) (k : Key) (b : List ℕ) → block_in k (taken_by empty age s).lru ≡ Some b
    → block_in k s.lru ≡ Some b
taken_clean (suc empty) age s k b some = some
taken_clean zero (suc age) s k b some = some
taken_clean zero zero s k b some = last_gone k b s.lru some

or_else_some : (o p q : Option (List ℕ)) (b : List ℕ) → (p ≡ Some b → q ≡ Some b) → or_else o p ≡ Some b → or_else o q
    ≡ Some b
or_else_some None p q b to some = to some
or_else_some (Some a) p q b to some = some

-- the dirty blocks stay, and a block is clean only where it was
gains : (s t : Contents) (other : Key) (b : List ℕ) → block_in other t.locked ≡ block_in other s.locked
    → (block_in other t.lru ≡ Some b → block_in other s.lru ≡ Some b) → block_of other t ≡ Some b → block_of other s
    ≡ Some b
gains s t other b same to some =
    or_else_some (block_in other s.locked) (block_in other t.lru) (block_in other s.lru) b to
    (ap (λ o. or_else o (block_in other t.lru)) (sym same) ∙ some)

-- after `fill`
pub filled_there : (k : Key) (b : List ℕ) (s : Contents) → block_of k s ≡ None → block_of k (filled k b s) ≡ Some b
filled_there k b s none =
    let locked : block_in k (filled k b s).locked ≡ None = ap (block_in k) (filled_locked k b s)
    ∙ (none_both (block_in k s.locked) (block_in k s.lru) none).0 in
    ap (λ o. or_else o (block_in k (filled k b s).lru)) locked ∙ block_first k b (with_frame s).lru

pub filled_gains : (k : Key) (b : List ℕ) (s : Contents) → GainsOnly k s (filled k b s)
filled_gains k b s = record {
  blocks = λ other c ne. gains s (filled k b s) other c (ap (block_in other) (filled_locked k b s))
      (λ some. taken_clean s.empty s.age s other c
      (sym (ap (λ z. cond z (Some b) (block_in other (with_frame s).lru)) ne) ∙ some));
  dirty = λ other ne. ap (block_in other) (filled_locked k b s);
}

-- after `write`
written_clean : (o : Option (List ℕ)) (k other : Key) (b c : List ℕ) (s : Contents) → same_key k other ≡ false
    → block_in other (written_by o k b s).lru ≡ Some c → block_in other s.lru ≡ Some c
written_clean None k other b c s ne some = taken_clean s.empty s.age s other c some
written_clean (Some old) k other b c s ne some = sym (block_other k other s.lru ne) ∙ some

pub written_gains : (k : Key) (b : List ℕ) (s : Contents) → GainsOnly k s (written k b s)
written_gains k b s = record {
  blocks = λ other c ne. gains s (written k b s) other c (written_locked k other b s ne)
      (written_clean (block_of k s) k other b c s ne);
  dirty = λ other ne. written_locked k other b s ne;
}

taken_count : (empty age : ℕ) (s : Contents) → length (taken_by empty age s).locked ≡ length s.locked
taken_count (suc empty) age s = refl
taken_count zero (suc age) s = refl
taken_count zero zero s = refl

written_length : (o : Option (List ℕ)) (k : Key) (b : List ℕ) (s : Contents)
    → length (written_by o k b s).locked ≤ length s.locked + 1
written_length None k b s = let same = taken_count s.empty s.age s in omega arith
written_length (Some old) k b s = let less = without_shorter k s.locked in omega arith

pub written_count : (k : Key) (b : List ℕ) (s : Contents) → length (written k b s).locked ≤ length s.locked + 1
written_count k b s = written_length (block_of k s) k b s

written_over : (o : Option (List ℕ)) (k : Key) (b : List ℕ) (s : Contents) → IsContents s → IsLocked k s → IsSome o
    → length (written_by o k b s).locked ≡ length s.locked
written_over None k b s is locked some = absurd (cc)
written_over (Some old) k b s is locked some = without_length k s.locked (apart_left s.locked s.lru is.apart) locked

pub written_again : (k : Key) (b : List ℕ) (s : Contents) → IsContents s → IsLocked k s → length (written k b s).locked
    ≡ length s.locked
written_again k b s is locked = written_over (block_of k s) k b s is locked
    (locked_some (block_in k s.locked) (block_in k s.lru) locked)
