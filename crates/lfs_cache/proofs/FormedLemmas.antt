-- What holds of the contents of every cache: `contents_formed`, and `formed_as` for the clauses of `Cache`'s functions.
-- No two frames hold one key, by `IsCache`, so neither do two entries; and a block that is found is that of some frame
-- in the locked or the clean list, which has a key and so a whole block (`block_sized`). The number of locked blocks is
-- that of frames in their list, which has a limit.
use Rattle.std.proofs.Common.{◌≡◌, ◌⊎◌, ℕ, ◌+◌, ◌<◌, cond, List, [], ◌∷◌, length, get_or, Option, Some, None, sym, ap}
use Rattle.std.proofs.Common.{subst, ◌∙◌, inl, inr, arith}
use Rattle.std.specs.Prelude.{map}
use Rattle.std.proofs.lemmas.List.{length-map}
use Rattle.lfs_types.specs.declared.block.TheConstants.{BLOCK_SIZE}
use Rattle.lfs_recency.specs.FrameLists.{FrameLists, times}
use Rattle.lfs_cache.specs.declared.key.Key.{Key}
use Rattle.lfs_cache.specs.Index.{key_at}
use Rattle.lfs_cache.specs.Contents.{Contents, block_in, or_else}
use Rattle.lfs_cache.specs.Changes.{IsContents}
use Rattle.lfs_cache.specs.Held.{entry_at, held_by, IsCache}
use Rattle.lfs_cache.proofs.Entries.{same_cases}
use Rattle.lfs_cache.proofs.Cached.{some_is, in_range}
use Rattle.lfs_cache.proofs.Apart.{times_head, times_tail, all_apart}

-- a block of a list of frames that all have whole blocks
block_sized : (keys : List (Option Key)) (blocks : List (List ℕ)) (xs : List ℕ) (k : Key) (b : List ℕ)
    → ((g : ℕ) → 0 < times g xs → length (get_or blocks g []) ≡ BLOCK_SIZE) → block_in k (map (entry_at keys blocks) xs)
    ≡ Some b → length b ≡ BLOCK_SIZE
block_sized keys blocks [] k b all some = absurd (cc)
block_sized keys blocks (x ∷ xs) k b all some =
    elim (same_cases (entry_at keys blocks x).0 k) as (λ _. length b ≡ BLOCK_SIZE) [
      | inl t ↦ (let here : Some (get_or blocks x [])
          ≡ Some b = sym (ap (λ z. cond z (Some (get_or blocks x [])) (block_in k (map (entry_at keys blocks) xs))) t)
          ∙ some in
          let same : get_or blocks x [] ≡ b = cc in
          sym (ap length same) ∙ all x (let h = times_head x xs in omega arith))
      | inr t ↦ block_sized keys blocks xs k b (λ g more. all g (let tail = times_tail g x xs in omega arith))
          (sym (ap (λ z. cond z (Some (get_or blocks x [])) (block_in k (map (entry_at keys blocks) xs))) t) ∙ some)
    ]

one_of : (o p : Option (List ℕ)) (b : List ℕ) → or_else o p ≡ Some b → (o ≡ Some b) ⊎ (p ≡ Some b)
one_of None p b some = inr some
one_of (Some a) p b some = inl some

pub contents_formed : (l : FrameLists) (keys : List (Option Key)) (names : List Key) (capacity : ℕ)
    → IsCache l keys names capacity → IsContents (held_by l keys)
contents_formed l keys names capacity h =
    let whole : (g : ℕ) → 0 < times g l.locked + times g l.lru → length (get_or l.blocks g []) ≡ BLOCK_SIZE =
    λ g some. let own = some_is (key_at keys g)
    (h.are.held g (λ e. let r = in_range l h.are.whole g (omega arith) in omega arith) some) in
    h.sized g own.0 own.1 in
    record {
      apart = all_apart l keys names h.are;
      sized = λ k b some. elim (one_of (block_in k (held_by l keys).locked) (block_in k (held_by l keys).lru) b some) as
          (λ _. length b ≡ BLOCK_SIZE) [
            | inl locked ↦ block_sized keys l.blocks l.locked k b (λ g more. whole g (omega arith)) locked
            | inr clean ↦ block_sized keys l.blocks l.lru k b (λ g more. whole g (omega arith)) clean
          ];
      limit = let limit = h.limit in let same = length-map l.locked (entry_at keys l.blocks) in omega arith;
    }

-- the same, as a contract tells of the contents
pub formed_as : (l : FrameLists) (keys : List (Option Key)) (names : List Key) (capacity : ℕ) (s : Contents)
    → held_by l keys ≡ s → IsCache l keys names capacity → IsContents s
formed_as l keys names capacity s e h = subst IsContents e (contents_formed l keys names capacity h)
