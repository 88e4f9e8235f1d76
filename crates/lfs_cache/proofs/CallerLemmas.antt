-- What a cache holds of a key after each call, for those who call it: `filled_locked`, `written_dirty`, `settled_kept`
-- and `forgotten_gone`, for the calls of Cache, ChangeLemmas and the crates above. Each call takes the key out of its
-- list and puts it in front of one, so it's found first there (`block_first`), and a look-up of another key passes over
-- it (`block_other`). No frame is ever taken from LOCKED (`taken_locked`), on which all rests that waits; another order
-- of giving frames away must keep that.
use Rattle.std.proofs.Common.{◌≡◌, ℕ, zero, suc, ◌<◌, Bool, true, false, cond, List, [], ◌∷◌, length, get_or, Option}
use Rattle.std.proofs.Common.{Some, None, IsSome, refl, sym, inl, inr, ap, subst, ◌∙◌, arith}
use Rattle.lfs_cache.specs.declared.key.Key.{Key}
use Rattle.lfs_cache.specs.Keys.{same_key}
use Rattle.lfs_cache.proofs.Entries.{same_is, same_self, same_cases}
use Rattle.lfs_cache.specs.Contents.{without_key, taken_by, with_frame, filled, written, written_by, settled}
use Rattle.lfs_cache.specs.Contents.{settled_by, forgotten, forgotten_by, Contents, block_in, block_of, or_else, used}
use Rattle.lfs_cache.specs.Contents.{used_by, keys_of}

pub none_both : (a b : Option (List ℕ)) → or_else a b ≡ None → (a ≡ None) × (b ≡ None)
none_both None b h = (refl, h)
none_both (Some x) b h = absurd (cc)

-- a key without a block is not moved by `get`
pub used_missing : (k : Key) (s : Contents) → block_of k s ≡ None → used k s ≡ s
used_missing k s h =
    let both = none_both (block_in k s.locked) (block_in k s.lru) h in
    ap (λ o. used_by o (block_in k s.lru) k s) both.0 ∙ ap (λ o. used_by None o k s) both.1

-- where there is no block there is none after `get` either
pub used_gone : (k : Key) (s : Contents) → block_of k s ≡ None → block_of k (used k s) ≡ None
used_gone k s none = ap (block_of k) (used_missing k s none) ∙ none

some_cond : (b : Bool) (x : List ℕ) (o : Option (List ℕ)) → IsSome o → IsSome (cond b (Some x) o)
some_cond true x o h = refl
some_cond false x o h = h

-- a key on the list of the dirty ones has a block there
pub listed_has_block : (k : Key) (es : List (Key × List ℕ)) (i : ℕ) (d : Key) → i < length (keys_of es)
    → same_key (get_or (keys_of es) i d) k ≡ true → IsSome (block_in k es)
listed_has_block k [] i d inside same = absurd (omega arith)
listed_has_block k (e ∷ es) zero d inside same =
    subst IsSome (sym (ap (λ b. cond b (Some e.1) (block_in k es)) same)) refl
listed_has_block k (e ∷ es) (suc i) d inside same =
    some_cond (same_key e.0 k) e.1 (block_in k es) (listed_has_block k es i d (omega arith) same)

-- a list without a key, as the look-ups see it
pub block_gone : (k : Key) (es : List (Key × List ℕ)) → block_in k (without_key k es) ≡ None
block_gone k [] = refl
block_gone k (e ∷ es) =
    elim (same_cases e.0 k) as (λ _. block_in k (without_key k (e ∷ es)) ≡ None) [
      | inl t ↦ ap (λ b. block_in k (cond b (without_key k es) (e ∷ without_key k es))) t ∙ block_gone k es
      | inr t ↦ ap (λ b. block_in k (cond b (without_key k es) (e ∷ without_key k es))) t
          ∙ (ap (λ b. cond b (Some e.1) (block_in k (without_key k es))) t ∙ block_gone k es)
    ]

pub block_other : (k other : Key) (es : List (Key × List ℕ)) → same_key k other ≡ false
    → block_in other (without_key k es) ≡ block_in other es
block_other k other [] ne = refl
block_other k other (e ∷ es) ne =
    elim (same_cases e.0 k) as (λ _. block_in other (without_key k (e ∷ es)) ≡ block_in other (e ∷ es)) [
      | inl t ↦ ap (λ b. block_in other (cond b (without_key k es) (e ∷ without_key k es))) t
          ∙ (block_other k other es ne ∙ ap (λ b. cond b (Some e.1) (block_in other es))
          (sym (ap (λ z. same_key z other) (same_is e.0 k t) ∙ ne)))
      | inr t ↦ ap (λ b. block_in other (cond b (without_key k es) (e ∷ without_key k es))) t
          ∙ ap (λ o. cond (same_key e.0 other) (Some e.1) o) (block_other k other es ne)
    ]

pub block_first : (k : Key) (b : List ℕ) (es : List (Key × List ℕ)) → block_in k ((k, b) ∷ es) ≡ Some b
block_first k b es = ap (λ t. cond t (Some b) (block_in k es)) (same_self k)

-- no frame is taken from LOCKED
taken_locked : (empty age : ℕ) (s : Contents) → (taken_by empty age s).locked ≡ s.locked
taken_locked (suc empty) age s = refl
taken_locked zero (suc age) s = refl
taken_locked zero zero s = refl

pub filled_locked : (k : Key) (b : List ℕ) (s : Contents) → (filled k b s).locked ≡ s.locked
filled_locked k b s = taken_locked s.empty s.age s

-- a key that is written has its block among the dirty ones, and no other key leaves these
written_first : (o : Option (List ℕ)) (k : Key) (b : List ℕ) (s : Contents) → block_in k (written_by o k b s).locked
    ≡ Some b
written_first None k b s = block_first k b (with_frame s).locked
written_first (Some old) k b s = block_first k b (without_key k s.locked)

pub written_dirty : (k : Key) (b : List ℕ) (s : Contents) → block_in k (written k b s).locked ≡ Some b
written_dirty k b s = written_first (block_of k s) k b s

written_rest : (o : Option (List ℕ)) (k other : Key) (b : List ℕ) (s : Contents) → same_key k other ≡ false
    → block_in other (written_by o k b s).locked ≡ block_in other s.locked
written_rest None k other b s ne = ap (λ t. cond t (Some b) (block_in other (with_frame s).locked)) ne
    ∙ ap (block_in other) (taken_locked s.empty s.age s)
written_rest (Some old) k other b s ne = ap (λ t. cond t (Some b) (block_in other (without_key k s.locked))) ne
    ∙ block_other k other s.locked ne

pub written_locked : (k other : Key) (b : List ℕ) (s : Contents) → same_key k other ≡ false
    → block_in other (written k b s).locked ≡ block_in other s.locked
written_locked k other b s = written_rest (block_of k s) k other b s

-- a block that is settled is still there
settled_there : (o : Option (List ℕ)) (k : Key) (s : Contents) → block_in k s.locked ≡ o → block_of k (settled_by o k s)
    ≡ block_of k s
settled_there None k s e = refl
settled_there (Some b) k s e =
    ap (λ o. or_else o (block_in k ((k, b) ∷ without_key k s.lru))) (block_gone k s.locked)
    ∙ (block_first k b (without_key k s.lru) ∙ ap (λ o. or_else o (block_in k s.lru)) (sym e))

pub settled_kept : (k : Key) (s : Contents) → block_of k (settled k s) ≡ block_of k s
settled_kept k s = settled_there (block_in k s.locked) k s refl

-- a key that is forgotten has no block
forgotten_none : (o : Option (List ℕ)) (k : Key) (s : Contents) → block_of k s ≡ o → block_of k (forgotten_by o k s)
    ≡ None
forgotten_none None k s e = e
forgotten_none (Some b) k s e = ap (λ o. or_else o (block_in k (without_key k s.lru))) (block_gone k s.locked)
    ∙ block_gone k s.lru

pub forgotten_gone : (k : Key) (s : Contents) → block_of k (forgotten k s) ≡ None
forgotten_gone k s = forgotten_none (block_of k s) k s refl

-- where no key has a block there is no entry
pub none_left : (es : List (Key × List ℕ)) → ((k : Key) → block_in k es ≡ None) → es ≡ []
none_left [] none = refl
none_left (e ∷ es) none = let bad : None ≡ Some e.1 = sym (none e.0) ∙ block_first e.0 e.1 es in absurd (cc)
