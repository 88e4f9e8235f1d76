-- Bytes over those of a locked frame leave a cache (`over_step`) whose contents are those of before but for the block of
-- the frame's key (`overwrites`), as contracts tell it (`over_told`), for `Cache::overwrite`. No other frame has that key,
-- and the frame is in LOCKED alone (`in_one`), so no other entry reads its bytes.
use Rattle.std.proofs.Common.{◌≡◌, ℕ, ◌+◌, ◌<◌, ◌≤◌, false, cond, List, [], ◌∷◌, ◌++◌, length, take, drop, Option, Some}
use Rattle.std.proofs.Common.{refl, sym, ap, subst, ◌∙◌, inl, inr, arith}
use Rattle.std.specs.Prelude.{map}
use Rattle.std.proofs.Math.ListN.{get_or, set, length-set}
use Rattle.std.proofs.lemmas.List.{get_or-set_same, get_or-set_other, length-append, length-drop, length-take-le}
use Rattle.std.proofs.lemmas.Option.{same_Some}
use Rattle.std.proofs.lemmas.Bool.Decides.{eqb_tells}
use Rattle.lfs_types.specs.declared.block.TheConstants.{BLOCK_SIZE}
use Rattle.lfs_recency.specs.FrameLists.{FrameLists, frame_count, times}
use Rattle.lfs_recency.specs.Lending.{with_block}
use Rattle.lfs_cache.specs.declared.key.Key.{Key}
use Rattle.lfs_cache.specs.Keys.{same_key}
use Rattle.lfs_cache.specs.Index.{key_at}
use Rattle.lfs_cache.specs.Frames.{name_or}
use Rattle.lfs_cache.specs.Changes.{Overwrites}
use Rattle.lfs_cache.specs.Contents.{Contents, IsLocked, block_in, keys_of, overwritten}
use Rattle.lfs_cache.specs.Held.{name_at, entry_at, held_by, AreHeld, IsCache}
use Rattle.lfs_cache.proofs.Entries.{map_same, block_found}
use Rattle.lfs_cache.proofs.Cached.{key_range, in_one, alone_locked}
use Rattle.lfs_cache.proofs.Fresh.{block_held}
use Rattle.lfs_cache.proofs.Steps.{found_locked, locked_is, sized_at}

-- a block with bytes over its own is as long as it was
over_length : (start : ℕ) (bytes block : List ℕ) → start + length bytes ≤ length block
    → length (overwritten start bytes block) ≡ length block
over_length start bytes block fits =
    omega (
      arith,
      length-append (take start block) (bytes ++ drop (start + length bytes) block),
      length-append bytes (drop (start + length bytes) block),
      length-take-le start block (omega arith),
      length-drop (start + length bytes) block,
    )

same_keys : (keys : List (Option Key)) (bs cs : List (List ℕ)) (xs : List ℕ) → keys_of (map (entry_at keys bs) xs)
    ≡ keys_of (map (entry_at keys cs) xs)
same_keys keys bs cs [] = refl
same_keys keys bs cs (x ∷ xs) = ap (λ ns. name_at keys x ∷ ns) (same_keys keys bs cs xs)

-- another key has the block that it had in a list of frames
other_same : (keys : List (Option Key)) (blocks : List (List ℕ)) (f : ℕ) (k other : Key) (w : List ℕ)
    → key_at keys f ≡ Some k → same_key k other ≡ false → (xs : List ℕ)
    → block_in other (map (entry_at keys (set blocks f w)) xs) ≡ block_in other (map (entry_at keys blocks) xs)
other_same keys blocks f k other w is apart [] = refl
other_same keys blocks f k other w is apart (x ∷ xs) =
    let new : List (List ℕ) = set blocks f w in
    let rest = other_same keys blocks f k other w is apart xs in
    elim (eqb_tells x f) as (λ _. block_in other (map (entry_at keys new) (x ∷ xs))
    ≡ block_in other (map (entry_at keys blocks) (x ∷ xs))) [
      | inl t ↦ (
          let off : same_key (name_at keys x) other ≡ false = ap (λ z. same_key (name_at keys z) other) t.1
          ∙ (ap (λ z. same_key z other) (ap name_or is) ∙ apart) in
          ap (λ b. cond b (Some (get_or new x [])) (block_in other (map (entry_at keys new) xs))) off
          ∙ (rest ∙ sym (ap (λ b. cond b (Some (get_or blocks x [])) (block_in other (map (entry_at keys blocks) xs)))
          off)))
      | inr t ↦
          ap (λ c. cond (same_key (name_at keys x) other) (Some c) (block_in other (map (entry_at keys new) xs)))
          (get_or-set_other blocks f x w [] t.1)
          ∙ ap (λ r. cond (same_key (name_at keys x) other) (Some (get_or blocks x [])) r) rest
    ]

module _ (l : FrameLists) (keys : List (Option Key)) (names : List Key) (capacity f : ℕ) (k : Key)
    (h : IsCache l keys names capacity) (is : key_at keys f ≡ Some k) (start : ℕ) (bytes : List ℕ)
    (fits : start + length bytes ≤ BLOCK_SIZE) where
  abbrev b : List ℕ
  b = get_or l.blocks f []

  abbrev w : List ℕ
  w = overwritten start bytes b

  abbrev s : Contents
  s = held_by l keys

  abbrev new : Contents
  new = held_by (with_block l f w) keys

  low : f < frame_count l
  low = key_range l keys (frame_count l) f names k h.are is

  whole : length w ≡ BLOCK_SIZE
  whole = let long = h.sized f k is in over_length start bytes b (omega arith) ∙ long

  pub over_step : IsCache (with_block l f w) keys names capacity
  over_step = record {
    are = subst (λ n. AreHeld (with_block l f w) keys n names) (sym (length-set l.blocks f w))
        (block_held l keys (frame_count l) f names w h.are);
    limit = h.limit;
    room = h.room;
    sized = sized_at keys keys l.blocks f w low whole (λ g ne. refl) h.sized;
  }

  pub overwrites : IsLocked k s → Overwrites k start bytes s new
  overwrites locked =
      let some : 0 < times f l.locked = locked_is l keys names capacity f k h is locked in
      record {
        block = λ block there.
            let same : b ≡ block = same_Some b block
            (sym (found_locked l keys names capacity f k h is some) ∙ there) in (
              sym (ap length same) ∙ h.sized f k is,
              block_found keys (set l.blocks f w) k f is l.locked some
                  (alone_locked l keys f names k h.are is)
                  ∙ (ap Some (get_or-set_same l.blocks f w [] low)
                  ∙ ap (λ c. Some (overwritten start bytes c)) same),
            );
        dirty = λ other apart. other_same keys l.blocks f k other w is apart l.locked;
        keys = same_keys keys (set l.blocks f w) l.blocks l.locked;
        clean = map_same (entry_at keys (set l.blocks f w)) (entry_at keys l.blocks) l.lru
            (λ g more. ap (λ c. (name_at keys g, c)) (get_or-set_other l.blocks f g w [] (λ e.
            let one = in_one l keys f names k h.are is in
            let here : 0 < times f l.lru = subst (λ z. 0 < times z l.lru) e more in omega arith)));
      }

-- the same, as contracts tell it
pub over_told : (l l' : FrameLists) (keys : List (Option Key)) (names : List Key) (capacity f : ℕ) (k : Key)
    → IsCache l keys names capacity → key_at keys f ≡ Some k → (start : ℕ) (bytes : List ℕ)
    → start + length bytes ≤ BLOCK_SIZE
    → l' ≡ with_block l f (overwritten start bytes (get_or l.blocks f [])) → (old : Contents) → held_by l keys ≡ old
    → IsLocked k old → IsCache l' keys names capacity × Overwrites k start bytes old (held_by l' keys)
over_told l l' keys names capacity f k h is start bytes fits e old view locked =
    rw (e, ← view) (
      over_step l keys names capacity f k h is start bytes fits,
      overwrites l keys names capacity f k h is start bytes fits (subst (IsLocked k) (sym view) locked),
    )
