-- Which blocks are clean after another came to wait, was forgotten or was flushed: `gains_none` for StagingLemmas,
-- `forgets_none` for GivenBackLemmas, `filled_clean` for FilledLemmas, `flushed_own` for `land_block`. No key is dirty
-- and clean at once (AreApart), so a block that is clean now isn't among the dirty ones, and was clean before unless
-- it's the one that the call was about (`clean_was`). CleanLemmas rests on this for the invariant Mirrors; a cache with
-- two blocks for a key has none of it.
use Rattle.std.proofs.Common.{◌≡◌, ◌⊎◌, ℕ, List, [], ◌∷◌, ◌++◌, Option, None, Some, IsSome, is_some, false, cond, refl}
use Rattle.std.proofs.Common.{sym, ap, ◌∙◌, subst, inl, inr}
use Rattle.std.proofs.lemmas.Bool.{false≢true}
use Rattle.std.proofs.lemmas.Option.{same_Some}
use Rattle.lfs_cache.specs.declared.key.Key.{Key}
use Rattle.lfs_cache.specs.Keys.{same_key}
use Rattle.lfs_cache.specs.Changes.{GainsOnly, IsContents, KeepsBlocks, KeepsOthers}
use Rattle.lfs_cache.specs.Contents.{AreApart, Contents, IsLocked, Lacks, block_in, block_of, keys_of, or_else, used}
use Rattle.lfs_cache.specs.Contents.{used_by}
use Rattle.lfs_cache.proofs.ChangeLemmas.{apart_left, lacks_missing, without_missing}
use Rattle.lfs_cache.proofs.Entries.{same_cases, same_is}
use Rattle.lfs_parts.specs.Clean.{GainsNoClean}

-- ---- two lists, one behind the other
lacks_right : (k : Key) (ds es : List (Key × List ℕ)) → Lacks k (keys_of (ds ++ es)) → Lacks k (keys_of es)
lacks_right k [] es lacks = lacks
lacks_right k (d ∷ ds) es lacks = lacks_right k ds es lacks.1

none_left : (ds es : List (Key × List ℕ)) (key : Key) → AreApart (keys_of (ds ++ es)) → IsSome (block_in key es)
    → block_in key ds ≡ None
none_left [] es key apart some = refl
none_left (d ∷ ds) es key apart some = elim (same_cases d.0 key) [
  | inl same ↦
      let lacks = lacks_right key ds es (subst (λ k. Lacks k (keys_of (ds ++ es))) (same_is d.0 key same) apart.0) in
      absurd (false≢true (sym (ap is_some (lacks_missing key es lacks)) ∙ some))
  | inr other ↦ ap (λ b. cond b (Some d.1) (block_in key ds)) other ∙ none_left ds es key apart.1 some
]

-- ---- a cache
-- no key waits twice
pub locked_apart : (c : Contents) → IsContents c → AreApart (keys_of c.locked)
locked_apart c formed = apart_left c.locked c.lru formed.apart

-- what is clean doesn't wait
pub clean_waits : (c : Contents) (key : Key) (bytes : List ℕ) → IsContents c → block_in key c.lru ≡ Some bytes
    → block_in key c.locked ≡ None
clean_waits c key bytes formed there = none_left c.locked c.lru key formed.apart (ap is_some there)

-- a block that is clean where another key gained one was clean
pub clean_was : (old new : Contents) (k other : Key) (bytes : List ℕ) → IsContents new → GainsOnly k old new
    → same_key k other ≡ false
    → block_in other new.lru ≡ Some bytes → block_in other old.lru ≡ Some bytes
clean_was old new k other bytes formed gains apart there =
    let none = clean_waits new other bytes formed there in
    let held : block_of other new ≡ Some bytes = ap (λ o. or_else o (block_in other new.lru)) none ∙ there in
    let was = gains.blocks other bytes apart held in
    let free : block_in other old.locked ≡ None = sym (gains.dirty other apart) ∙ none in
    sym (ap (λ o. or_else o (block_in other old.lru)) free) ∙ was

-- no block is clean that wasn't, where one came to wait
pub gains_none : (old new : Contents) (k : Key) → IsContents new → GainsOnly k old new → IsLocked k new
    → GainsNoClean old new
gains_none old new k formed gains locked = record {
  each = λ key bytes there. elim (same_cases k key) [
    | inl same ↦
        let none = clean_waits new key bytes formed there in
        absurd (false≢true (sym (ap is_some none) ∙ subst (λ x. IsLocked x new) (same_is k key same) locked))
    | inr other ↦ clean_was old new k key bytes formed gains other there
  ];
}

-- where every key but one has the block that it had, no other one gained any
pub keeps_gains : (old new : Contents) (k : Key) → KeepsOthers k old new → GainsOnly k old new
keeps_gains old new k keeps = record {
  blocks = λ other block apart there. sym (keeps.blocks other apart) ∙ there;
  dirty = keeps.dirty;
}

-- and where one was forgotten
pub forgets_none : (old new : Contents) (k : Key) → IsContents new → KeepsOthers k old new → block_of k new ≡ None
    → GainsNoClean old new
forgets_none old new k formed keeps gone = record {
  each = λ key bytes there. elim (same_cases k key) [
    | inl same ↦
        let none = clean_waits new key bytes formed there in
        let held : block_of key new ≡ Some bytes = ap (λ o. or_else o (block_in key new.lru)) none ∙ there in
        let free : block_of key new ≡ None = subst (λ x. block_of x new ≡ None) (same_is k key same) gone in
        absurd (cc (sym free ∙ held))
    | inr other ↦ clean_was old new k key bytes formed (keeps_gains old new k keeps) other there
  ];
}

-- a block that waited and is clean now has its bytes
pub flushed_own : (old new : Contents) (k : Key) (block bytes : List ℕ) → IsContents new → block_of k new
    ≡ block_of k old → block_in k old.locked ≡ Some block
    → block_in k new.lru ≡ Some bytes → bytes ≡ block
flushed_own old new k block bytes formed kept waited there =
    let none = clean_waits new k bytes formed there in
    let now : block_of k new ≡ Some bytes = ap (λ o. or_else o (block_in k new.lru)) none ∙ there in
    let before : block_of k old ≡ Some block = ap (λ o. or_else o (block_in k old.lru)) waited in
    same_Some bytes block (sym now ∙ kept ∙ before)

-- where every key has the block that it had, dirty or clean as it was, none is clean that wasn't
pub keeps_clean : (old new : Contents) → KeepsBlocks old new → IsContents new → GainsNoClean old new
keeps_clean old new keeps formed = record {
  each = λ key bytes there.
      let none = clean_waits new key bytes formed there in
      let held : block_of key old ≡ Some bytes = sym (keeps.blocks key)
      ∙ ap (λ o. or_else o (block_in key new.lru)) none ∙ there in
      let free : block_in key old.locked ≡ None = sym (keeps.dirty key) ∙ none in
      sym (ap (λ o. or_else o (block_in key old.lru)) free) ∙ held;
}

used_locked-by : (o : Option (List ℕ)) (k : Key) (c : Contents) → block_in k c.locked ≡ None
    → (used_by None o k c).locked ≡ c.locked
used_locked-by None k c free = refl
used_locked-by (Some b) k c free = without_missing k c.locked free

-- what waits waits in its order where another key's block comes to the front
pub used_locked : (k : Key) (c : Contents) → block_in k c.locked ≡ None → (used k c).locked ≡ c.locked
used_locked k c free =
    ap (λ o. (used_by o (block_in k c.lru) k c).locked) free ∙ used_locked-by (block_in k c.lru) k c free

-- a block took a frame: it is clean, and no other one is that wasn't
pub filled_clean : (old new : Contents) (k : Key) (block : List ℕ) → IsContents new → GainsOnly k old new
    → block_of k new ≡ Some block
    → (other : Key) (bytes : List ℕ) → block_in other new.lru ≡ Some bytes → ((other ≡ k) × (bytes ≡ block))
    ⊎ (block_in other old.lru ≡ Some bytes)
filled_clean old new k block formed gains here other bytes there = elim (same_cases k other) [
  | inl same ↦
      let is : other ≡ k = sym (same_is k other same) in
      let none = clean_waits new other bytes formed there in
      let held : block_of other new ≡ Some bytes = ap (λ o. or_else o (block_in other new.lru)) none ∙ there in
      inl (is, same_Some bytes block (sym held ∙ ap (λ x. block_of x new) is ∙ here))
  | inr apart ↦ inr (clean_was old new k other bytes formed gains apart there)
]

pub GainsNoClean-refl : (c : Contents) → GainsNoClean c c
GainsNoClean-refl c = record { each = λ key bytes there. there }

pub GainsNoClean-same : (c d : Contents) → d ≡ c → GainsNoClean c d
GainsNoClean-same c d same = subst (GainsNoClean c) (sym same) (GainsNoClean-refl c)
