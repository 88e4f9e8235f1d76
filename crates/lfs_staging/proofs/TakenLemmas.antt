-- A change whose new frames are of some codes of one number takes as many frames as there are codes (`taken_most`), and
-- where so many are free each of these finds one (`frames_enough`, `block_room`): for each call of `Parts` that stages.
-- No key is held twice, so those that wait are at most the old ones and one for each code. `HasFrames` speaks of any
-- cache on the way there, so the order of staging doesn't matter; a call that stages a block off its list breaks
-- `TakesOnly`.
use Rattle.std.proofs.Common.{◌≡◌, ◌≢◌, ℕ, zero, suc, ◌+◌, ◌<◌, ◌≤◌, ◌⊎◌, List, [], ◌∷◌, ◌++◌, length, Option, None}
use Rattle.std.proofs.Common.{Some, IsSome, is_some, true, refl, sym, ap, ◌∙◌, subst, inl, inr, arith, length-append}
use Rattle.std.specs.List.{Contains}
use Rattle.std.proofs.lemmas.Bool.{cond-true, cond-false, false≢true}
use Rattle.lfs_cache.specs.declared.key.Key.{Key}
use Rattle.lfs_cache.specs.declared.cache.TheConstants.{LOCKED_LIMIT}
use Rattle.lfs_cache.specs.Changes.{IsContents}
use Rattle.lfs_cache.specs.Contents.{AreApart, Contents, IsLocked, Lacks, block_in, keys_of}
use Rattle.lfs_cache.specs.Keys.{same_key}
use Rattle.lfs_cache.proofs.Entries.{same_cases, same_is, same_self}
use Rattle.lfs_bmap.specs.declared.blocks.FileBlock.{FileBlock}
use Rattle.lfs_bmap.specs.Blocks.{IsFileBlock, code_of, table_of, way_to}
use Rattle.lfs_bmap.specs.Ways.{codes_on}
use Rattle.lfs_bmap.proofs.HolderLemmas.{codes_on-block}
use Rattle.lfs_parts.specs.declared.parts.Parts.{Parts}
use Rattle.lfs_staging.specs.Staging.{GrowsBy, HasFrames, TakesOnly}
use Rattle.lfs_parts.specs.View.{key_of, version_of}
use Rattle.lfs_parts.proofs.FrameLemmas.{part_most}
use Rattle.lfs_parts.proofs.HeldLemmas.{locked_apart}

-- ---- codes in a list
pub first_code : (c : ℕ) (codes : List ℕ) → Contains (c ∷ codes) c
first_code c codes = (0, omega arith, refl)

pub more_codes : (c d : ℕ) (codes : List ℕ) → Contains codes c → Contains (d ∷ codes) c
more_codes c d codes h = (suc h.0, let low = h.1 in omega arith, h.2)

-- as many keys as there are codes
unfoldable spare : ℕ → ℕ → List ℕ → List (Key × List ℕ)
spare number version [] = []
spare number version (c ∷ cs) = (key_of number version c, []) ∷ spare number version cs

spare-length : (number version : ℕ) (codes : List ℕ) → length (spare number version codes) ≡ length codes
unfolding spare
spare-length number version [] = refl
spare-length number version (c ∷ cs) = ap suc (spare-length number version cs)

in_either : (k : Key) (xs ys : List (Key × List ℕ)) → IsSome (block_in k xs) ⊎ IsSome (block_in k ys)
    → IsSome (block_in k (xs ++ ys))
in_either k [] ys (inl h) = absurd (false≢true h)
in_either k [] ys (inr h) = h
in_either k (x ∷ xs) ys h = elim (same_cases x.0 k) [
  | inl same ↦ ap is_some (cond-true _ _ _ same)
  | inr apart ↦ ap is_some (cond-false _ _ _ apart)
      ∙ in_either k xs ys (elim h [
        | inl first ↦ inl (sym (ap is_some (cond-false _ _ _ apart)) ∙ first)
        | inr rest ↦ inr rest
      ])
]

spare-has : (number version : ℕ) (codes : List ℕ) (c : ℕ) → Contains codes c
    → IsSome (block_in (key_of number version c) (spare number version codes))
unfolding spare
spare-has number version [] c h = let low = h.1 in absurd (omega arith)
spare-has number version (x ∷ xs) c (zero, low, e) =
    let same : same_key (key_of number version x) (key_of number version c)
    ≡ true = subst (λ y. same_key (key_of number version x) (key_of number version y) ≡ true) e
    (same_self (key_of number version x)) in
    ap is_some (cond-true _ _ _ same)
spare-has number version (x ∷ xs) c (suc k, low, e) =
    elim (same_cases (key_of number version x) (key_of number version c)) [
      | inl same ↦ ap is_some (cond-true _ _ _ same)
      | inr apart ↦ ap is_some (cond-false _ _ _ apart) ∙ spare-has number version xs c (k, omega arith, e)
    ]

taken_in : (number version : ℕ) (codes : List ℕ) (old new : Contents) → TakesOnly number version codes old new
    → (k : Key) → IsLocked k new
    → IsSome (block_in k (old.locked ++ spare number version codes))
taken_in number version codes old new only k locked = elim (only k locked) [
  | inl one ↦ in_either k old.locked (spare number version codes)
      (inr (subst (λ x. IsSome (block_in x (spare number version codes))) (sym one.2)
      (spare-has number version codes one.0 one.1)))
  | inr was ↦ in_either k old.locked (spare number version codes) (inl was)
]

-- so many more wait at most
pub taken_most : (number version : ℕ) (codes : List ℕ) (old new : Contents) → IsContents new
    → TakesOnly number version codes old new
    → length new.locked ≤ length old.locked + length codes
taken_most number version codes old new formed only =
    let part = part_most new.locked (old.locked ++ spare number version codes) (locked_apart new formed)
    (taken_in number version codes old new only) in
    let long = length-append old.locked (spare number version codes) in
    let extra = spare-length number version codes in
    omega arith

lacks_none : (k : Key) (es : List (Key × List ℕ)) → block_in k es ≡ None → Lacks k (keys_of es)
lacks_none k [] h = tt
lacks_none k (e ∷ es) h = elim (same_cases e.0 k) [
  | inl same ↦ absurd (let bad : Some e.1 ≡ None = sym (cond-true _ _ _ same) ∙ h in cc)
  | inr apart ↦ (apart, lacks_none k es (sym (cond-false _ _ _ apart) ∙ h))
]

-- and where all of them would fit, one of them waits, or one more may
room_left : (number version : ℕ) (codes : List ℕ) (c : ℕ) (old new : Contents) → IsContents new
    → TakesOnly number version codes old new
    → Contains codes c → length old.locked + length codes ≤ LOCKED_LIMIT
    → IsLocked (key_of number version c) new ⊎ (length new.locked < LOCKED_LIMIT)
room_left number version codes c old new formed only has fits =
    free (block_in (key_of number version c) new.locked) refl
  where
    free : (o : Option (List ℕ)) → block_in (key_of number version c) new.locked ≡ o
        → IsLocked (key_of number version c) new ⊎ (length new.locked < LOCKED_LIMIT)
    free (Some b) is = inl (ap is_some is)
    free None is =
        let k = key_of number version c in
        let more : List (Key × List ℕ) = (k, []) ∷ new.locked in
        let apart : AreApart (keys_of more) = (lacks_none k new.locked is, locked_apart new formed) in
        let part = part_most more (old.locked ++ spare number version codes) apart (λ x there. elim (same_cases k x) [
          | inl same ↦ subst (λ y. IsSome (block_in y (old.locked ++ spare number version codes))) (same_is k x same)
              (in_either k old.locked (spare number version codes) (inr (spare-has number version codes c has)))
          | inr other ↦ taken_in number version codes old new only x (sym (ap is_some (cond-false _ _ _ other)) ∙ there)
        ]) in
        let long = length-append old.locked (spare number version codes) in
        let extra = spare-length number version codes in
        inr (omega arith)

-- ---- taking one after another
pub takes_none : (number version : ℕ) (codes : List ℕ) (c d : Contents) → d ≡ c → TakesOnly number version codes c d
takes_none number version codes c d same = λ key locked. inr (subst (IsLocked key) same locked)

pub takes_both : (number version : ℕ) (codes : List ℕ) (a b c : Contents) → TakesOnly number version codes a b
    → TakesOnly number version codes b c → TakesOnly number version codes a c
takes_both number version codes a b c first second =
    λ key locked. elim (second key locked) [ inl one ↦ inl one | inr was ↦ first key was ]

pub takes_part : (number version : ℕ) (some codes : List ℕ) (a b : Contents)
    → ((c : ℕ) → Contains some c → Contains codes c) → TakesOnly number version some a b
    → TakesOnly number version codes a b
takes_part number version some codes a b part takes = λ key locked. elim (takes key locked) [
  | inl one ↦ inl (one.0, part one.0 one.1, one.2)
  | inr was ↦ inr was
]

pub takes_version : (number version other : ℕ) (codes : List ℕ) (a b : Contents) → version ≡ other
    → TakesOnly number version codes a b → TakesOnly number other codes a b
takes_version number version other codes a b same takes = subst (λ n. TakesOnly number n codes a b) same takes

-- ---- frames for more
pub frames_enough : (p : Parts) (number : ℕ) (codes : List ℕ) → length p.cache.locked + length codes ≤ LOCKED_LIMIT
    → HasFrames p number codes
frames_enough p number codes fits = record {
  each = λ c formed takes code has. room_left number (version_of p number) codes code p.cache c formed takes has fits;
}

pub frames_part : (p : Parts) (number : ℕ) (some codes : List ℕ) → ((c : ℕ) → Contains some c → Contains codes c)
    → HasFrames p number codes → HasFrames p number some
frames_part p number some codes part h = record {
  each = λ c formed takes code has. h.each c formed
      (takes_part number (version_of p number) some codes p.cache c part takes) code (part code has);
}

pub frames_after : (p q : Parts) (number : ℕ) (codes : List ℕ) → version_of q number ≡ version_of p number
    → TakesOnly number (version_of p number) codes p.cache q.cache
    → HasFrames p number codes → HasFrames q number codes
frames_after p q number codes version takes h = record {
  each = λ c formed more code has.
      subst (λ n. IsLocked (key_of number n code) c ⊎ (length c.locked < LOCKED_LIMIT)) (sym version)
      (h.each c formed (takes_both number (version_of p number) codes p.cache q.cache c takes
      (takes_version number (version_of q number) (version_of p number) codes q.cache c version more)) code has);
}

-- ---- a block, after what holds its address
module _ (p q : Parts) (number : ℕ) (block : FileBlock) (can : IsFileBlock block) (other : code_of block ≢ 0)
    (version : version_of q number ≡ version_of p number)
    (takes : TakesOnly number (version_of p number) (codes_on (way_to (table_of block))) p.cache q.cache) where
  above_in : (c : ℕ) → Contains (codes_on (way_to (table_of block))) c → Contains (codes_on (way_to block)) c
  above_in c has = subst (λ cs. Contains cs c) (sym (codes_on-block block can other))
      (more_codes c (code_of block) (codes_on (way_to (table_of block))) has)

  own_in : Contains (codes_on (way_to block)) (code_of block)
  own_in = subst (λ cs. Contains cs (code_of block)) (sym (codes_on-block block can other))
      (first_code (code_of block) (codes_on (way_to (table_of block))))

  pub block_takes : (r : Parts) → GrowsBy (key_of number (version_of q number) (code_of block)) q r
      → TakesOnly number (version_of p number) (codes_on (way_to block)) p.cache r.cache
  block_takes r grows = λ key locked. elim (grows.only key locked) [
    | inl is ↦ inl (code_of block, own_in, is ∙ ap (λ n. key_of number n (code_of block)) version)
    | inr was ↦ takes_part number (version_of p number) (codes_on (way_to (table_of block)))
        (codes_on (way_to block)) p.cache q.cache above_in takes key was
  ]

  -- there is a frame for it
  pub block_room : IsContents q.cache → HasFrames p number (codes_on (way_to block))
      → IsLocked (key_of number (version_of q number) (code_of block)) q.cache ⊎ (length q.cache.locked < LOCKED_LIMIT)
  block_room formed frames =
      subst (λ n. IsLocked (key_of number n (code_of block)) q.cache ⊎ (length q.cache.locked < LOCKED_LIMIT))
      (sym version)
      (frames.each q.cache formed (takes_part number (version_of p number) (codes_on (way_to (table_of block)))
      (codes_on (way_to block)) p.cache q.cache above_in takes) (code_of block) own_in)

-- and for what holds its address before
pub frames_above : (p : Parts) (number : ℕ) (block : FileBlock) → IsFileBlock block → code_of block ≢ 0
    → HasFrames p number (codes_on (way_to block))
    → HasFrames p number (codes_on (way_to (table_of block)))
frames_above p number block can other h =
    frames_part p number (codes_on (way_to (table_of block))) (codes_on (way_to block))
    (λ c has. subst (λ cs. Contains cs c) (sym (codes_on-block block can other))
    (more_codes c (code_of block) (codes_on (way_to (table_of block))) has)) h
