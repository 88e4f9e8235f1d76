-- `IsLaidOut` holds of a new memory, after an append and after an opening: `fresh_laid_out`, `appended_laid_out`,
-- `opened_laid_out`, for `Segments::format`, `append` and `open_next`. `written` puts in as many blocks as it takes
-- out, each of 512 bytes, so the length and all places outside of the run stay. Other files know `written` by
-- `get_or-written_before`, `get_or-written_inside` and `get_or-written_after` alone: a change of it is mended here.
use Rattle.std.proofs.Common.{◌≡◌, ℕ, zero, suc, ◌+◌, ◌-◌, ◌*◌, ◌/◌, ◌<◌, ◌≤◌, List, [], ◌∷◌, ◌++◌, All, length, get_or}
use Rattle.std.proofs.Common.{Option, take, drop, set, replicate, refl, sym, ap, ◌∙◌, arith}
use Rattle.std.proofs.lemmas.List.{append_assoc, drop_more, get_or-append_right, get_or-drop, get_or-take}
use Rattle.std.proofs.lemmas.List.{get_or_append_left, length-append, length-drop, length-replicate, length-take}
use Rattle.std.proofs.lemmas.List.{length-take-le, replicate_more, set-append_right}
use Rattle.std.proofs.lemmas.List.Elements.{All-append, All-cons, All-drop, All-from_get_or, All-replicate, All-take}
use Rattle.lfs_types.specs.Blocks.{zero_block}
use Rattle.lfs_segments.specs.Memory.{IsLaidOut, IsNextSerial, label, log_start, seen_with, written}

pub length-written : (blocks : List (List ℕ)) (place : ℕ) (others : List (List ℕ)) → place
    + length others ≤ length blocks → length (written blocks place others) ≡ length blocks
length-written blocks place others fits = simp (length-append, length-take, length-drop) (omega arith)

-- each block where others are written over a run of them
module _ (blocks : List (List ℕ)) (place : ℕ) (others : List (List ℕ)) (fits : place
    + length others ≤ length blocks) where
  front_long : length (take place blocks) ≡ place
  front_long = length-take-le place blocks (omega arith)

  pub get_or-written_before : (i : ℕ) (d : List ℕ) → i < place → get_or (written blocks place others) i d
      ≡ get_or blocks i d
  get_or-written_before i d before =
      let long = front_long in
      get_or_append_left (take place blocks) _ d i (omega arith) ∙ get_or-take place blocks i d before

  pub get_or-written_inside : (i : ℕ) (d : List ℕ) → i < length others
      → get_or (written blocks place others) (place + i) d ≡ get_or others i d
  get_or-written_inside i d inside =
      get_or-append_right (take place blocks) (others ++ drop (place + length others) blocks) place (place
      + i) d front_long (omega arith)
      ∙ ap (λ (k : ℕ). get_or (others ++ drop (place + length others) blocks) k d) (omega arith)
      ∙ get_or_append_left others (drop (place + length others) blocks) d i inside

  pub get_or-written_after : (i : ℕ) (d : List ℕ) → place + length others ≤ i → get_or (written blocks place others) i d
      ≡ get_or blocks i d
  get_or-written_after i d after =
      get_or-append_right (take place blocks) (others ++ drop (place + length others) blocks) place i d front_long
      (omega arith)
      ∙ get_or-append_right others (drop (place + length others) blocks) (length others) (i - place) d refl
      (omega arith)
      ∙ get_or-drop (place + length others) blocks (i - place - length others) d
      ∙ ap (λ (k : ℕ). get_or blocks k d) (omega arith)

All-written : (P : List ℕ → Type 0) (blocks : List (List ℕ)) (place : ℕ) (others : List (List ℕ)) → All P blocks
    → All P others → All P (written blocks place others)
All-written P blocks place others p q =
    All-append P (take place blocks) _ (All-take P place blocks p)
    (All-append P others _ q (All-drop P (place + length others) blocks p))

pub length-zero_block : length zero_block ≡ 512
unfolding zero_block
length-zero_block = refl

length-label : (segments inodes : ℕ) → length (label segments inodes) ≡ 512
unfolding label
length-label segments inodes = refl

pub log_start-le : (segment : ℕ) → log_start segment ≤ 1
log_start-le zero = omega arith
log_start-le (suc segment) = omega arith

-- a new volume
pub fresh_laid_out : (serial : Option ℕ) (segments inodes : ℕ) → IsNextSerial serial → 6 ≤ segments → segments ≤ 1024
    → IsLaidOut (seen_with serial (label segments inodes ∷ replicate (segments * 64 - 1) zero_block) 0 1)
fresh_laid_out serial segments inodes told least most =
    let count = length-replicate (segments * 64 - 1) zero_block in
    let long : length (label segments inodes ∷ replicate (segments * 64 - 1) zero_block)
    ≡ segments * 64 = omega (arith, count) in
    record {
      at_least = omega arith;
      at_most = omega arith;
      whole = omega arith;
      each = All-cons (λ block. length block ≡ 512) _ _ (length-label segments inodes)
          (All-replicate (λ block. length block ≡ 512) (segments * 64 - 1) zero_block length-zero_block);
      active = omega arith;
      begun = omega arith;
      within = omega arith;
      told = told;
    }

-- after blocks are put behind the log
pub appended_laid_out : (serial : Option ℕ) (blocks : List (List ℕ)) (active fill : ℕ) (others : List (List ℕ))
    → IsLaidOut (seen_with serial blocks active fill) → length others ≤ 64 - fill
    → ((i : ℕ) → i < length others → length (get_or others i []) ≡ 512)
    → IsLaidOut (seen_with serial (written blocks (active * 64 + fill) others) active (fill + length others))
appended_laid_out serial blocks active fill others p fits each =
    let whole = p.whole in
    let below = p.active in
    let within = p.within in
    let begun = p.begun in
    let at_least = p.at_least in
    let at_most = p.at_most in
    let long = length-written blocks (active * 64 + fill) others (omega arith) in
    record {
      at_least = omega arith;
      at_most = omega arith;
      whole = omega arith;
      each = All-written (λ block. length block ≡ 512) blocks (active * 64 + fill) others p.each
          (All-from_get_or (λ block. length block ≡ 512) others [] each);
      active = omega arith;
      begun = omega arith;
      within = omega arith;
      told = p.told;
    }

-- after a segment is filled with zeros
pub opened_laid_out : (serial : Option ℕ) (blocks : List (List ℕ)) (active fill segment : ℕ)
    → IsLaidOut (seen_with serial blocks active fill) → segment < length blocks / 64
    → IsLaidOut (seen_with serial (written blocks (segment * 64 + log_start segment)
    (replicate (64 - log_start segment) zero_block)) segment (log_start segment))
opened_laid_out serial blocks active fill segment p inside =
    let whole = p.whole in
    let at_least = p.at_least in
    let at_most = p.at_most in
    let start = log_start-le segment in
    let count = length-replicate (64 - log_start segment) zero_block in
    let others = replicate (64 - log_start segment) zero_block in
    let long = length-written blocks (segment * 64 + log_start segment) others (omega arith) in
    record {
      at_least = omega arith;
      at_most = omega arith;
      whole = omega arith;
      each = All-written (λ block. length block ≡ 512) blocks _ _ p.each
          (All-replicate (λ block. length block ≡ 512) (64 - log_start segment) zero_block length-zero_block);
      active = omega arith;
      begun = omega arith;
      within = omega arith;
      told = p.told;
    }

-- one block more, of the same bytes
pub written_more : (blocks : List (List ℕ)) (start n : ℕ) (block : List ℕ) → start + n < length blocks
    → set (written blocks start (replicate n block)) (start + n) block ≡ written blocks start (replicate (n + 1) block)
written_more blocks start n block inside =
    let front = take start blocks in
    let zeros = replicate n block in
    let front_long : length front ≡ start = simp length-take (omega arith) in
    let zeros_long : length zeros ≡ n = length-replicate n block in
    let more_long : length (replicate (n + 1) block) ≡ n + 1 = length-replicate (n + 1) block in
    let rest = drop (start + length zeros) blocks in
    let rest_more : rest ≡ get_or blocks (start + n) [] ∷ drop (start + (n + 1)) blocks =
    ap (λ (k : ℕ). drop (start + k) blocks) zeros_long ∙ drop_more blocks (start + n) [] inside
    ∙ ap (λ (k : ℕ). get_or blocks (start + n) [] ∷ drop k blocks) (omega arith) in
    let at_front = set-append_right front (zeros ++ rest) start (start + n) block front_long (omega arith) in
    let at_zeros = set-append_right zeros rest n (start + n - start) block zeros_long (omega arith) in
    at_front
    ∙ ap (λ (xs : List (List ℕ)). front ++ xs)
    (at_zeros
    ∙ ap (λ (xs : List (List ℕ)). zeros ++ xs)
    (ap (λ (k : ℕ). set rest k block) (omega arith) ∙ ap (λ (xs : List (List ℕ)). set xs 0 block) rest_more)
    ∙ sym (append_assoc zeros (block ∷ []) (drop (start + (n + 1)) blocks))
    ∙ ap (λ (xs : List (List ℕ)). xs ++ drop (start + (n + 1)) blocks) (replicate_more n block)
    ∙ ap (λ (k : ℕ). replicate (n + 1) block ++ drop (start + k) blocks) (sym more_long))
