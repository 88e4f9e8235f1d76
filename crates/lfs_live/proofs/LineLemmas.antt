-- A line is read byte by byte, and of a long one the first 65,537 bytes say that it is long: `part_more`, `part_ended`,
-- `part_failed` and `part_unkept` for the loop of `read_line`, `kept_more` and `kept_full` for `keep`. What is kept is
-- the first 65,537 bytes of what was read. One byte more is put behind what is kept, or is left out where there are as
-- many already, and either is the first 65,537 again (`take-again`). A line is too long just where what is kept of it
-- is (`long_kept`), and one that isn't is kept whole; so what is kept says what the line says (`heard_kept`, `cut_kept`
-- for TalkLemmas).
use Rattle.std.proofs.Common.{◌≡◌, ◌≢◌, ℕ, zero, suc, ◌+◌, ◌<◌, ◌≤◌, min, Bool, true, false, List, [], ◌∷◌, ◌++◌}
use Rattle.std.proofs.Common.{length, take, Option, refl, sym, ap, subst, ◌∙◌, arith, length-append, length-take}
use Rattle.std.proofs.Common.{if◌then◌else◌}
use Rattle.std.specs.Io.KnownBytes.{Consumes, Keeps}
use lib.Seq.{take-append_seam}
use Rattle.std.proofs.KnownBytes.{Consumes-kept, Consumes-trans}
use Rattle.std.proofs.lemmas.Bool.{lt-ltb, ltb-false, ltb-true, ltb_from_iff}
use Rattle.std.proofs.lemmas.List.{take_all}
use Rattle.std.proofs.lemmas.List.Elements.{All-push}
use Rattle.lfs_hearing.specs.Hearing.{heard_of, is_long}
use Rattle.lfs_live.specs.Pieces.{IsPiece, IsUnended}
use Rattle.lfs_live.specs.Telling.{cut_texts}
use Rattle.lfs_hearing.specs.FaultLines.{fault_line}
use Rattle.lfs_hearing.specs.declared.fault.LineFault.TheVariants.{TooLong, Kind}
use Rattle.lfs_words.specs.declared.fault.FaultKind.TheVariants.{Cut}
use Rattle.lfs_words.specs.Lines.{HasNoLineFeed}

-- bytes without a line feed were read, and of them these are kept: the first 65,537
pub record IsPart (known left : Option (List ℕ)) (kept : List ℕ) : Type 0 where
  pub part : List ℕ
  pub unended : HasNoLineFeed part
  pub kept_of : kept ≡ take 65537 part
  pub taken : Consumes known left part

-- ---- the bytes that are kept

take-again : (n : ℕ) (xs ys : List ℕ) → take n (take n xs ++ ys) ≡ take n (xs ++ ys)
take-again zero xs ys = refl
take-again (suc n) [] ys = refl
take-again (suc n) (x ∷ xs) ys = ap (λ (l : List ℕ). x ∷ l) (take-again n xs ys)

pub kept_few : (line kept : List ℕ) → kept ≡ take 65537 line → length kept ≤ 65537
kept_few line kept is =
    let count : length kept ≡ min 65537 (length line) = ap length is ∙ length-take 65537 line in omega (arith, count)

-- a byte more is kept, or none
pub kept_more : (kept new : List ℕ) (byte : ℕ) → length kept ≤ 65536 → new ≡ kept ++ byte ∷ [] → new
    ≡ take 65537 (kept ++ byte ∷ [])
kept_more kept new byte few is =
    let count : length (kept ++ byte ∷ []) ≡ length kept + 1 = length-append kept (byte ∷ []) in
    is ∙ sym (take_all 65537 (kept ++ byte ∷ []) (omega (arith, count, few)))

seam : (n : ℕ) (xs ys : List ℕ) → length xs ≡ n → xs ≡ take n (xs ++ ys)
seam n xs ys count = subst (λ (m : ℕ). xs ≡ take m (xs ++ ys)) count (sym (take-append_seam xs ys))

pub kept_full : (kept : List ℕ) (byte : ℕ) → 65536 < length kept → length kept ≤ 65537 → kept
    ≡ take 65537 (kept ++ byte ∷ [])
kept_full kept byte many few = seam 65537 kept (byte ∷ []) (omega (arith, many, few))

-- ---- what was read of a line

pub part_more : (known left rest : Option (List ℕ)) (kept new : List ℕ) (byte : ℕ) → IsPart known left kept
    → Consumes left rest (byte ∷ []) → byte ≢ 10
    → new ≡ take 65537 (kept ++ byte ∷ []) → IsPart known rest new
part_more known left rest kept new byte read next other grown = record {
  part = read.part ++ byte ∷ [];
  unended = All-push (λ (b : ℕ). b ≢ 10) read.part byte read.unended other;
  kept_of = grown ∙ ap (λ (l : List ℕ). take 65537 (l ++ byte ∷ [])) read.kept_of
      ∙ take-again 65537 read.part (byte ∷ []);
  taken = Consumes-trans known left rest read.part (byte ∷ []) read.taken next;
}

pub part_unkept : (known left rest : Option (List ℕ)) (kept : List ℕ) (byte : ℕ) → IsPart known left kept
    → Consumes left rest (byte ∷ []) → byte ≢ 10 → IsUnended known rest
part_unkept known left rest kept byte read next other = record {
  part = read.part ++ byte ∷ [];
  unended = All-push (λ (b : ℕ). b ≢ 10) read.part byte read.unended other;
  taken = Consumes-trans known left rest read.part (byte ∷ []) read.taken next;
}

pub part_failed : (known left rest : Option (List ℕ)) (kept : List ℕ) → IsPart known left kept → Keeps left rest
    → IsUnended known rest
part_failed known left rest kept read same = record {
  part = read.part;
  unended = read.unended;
  taken = Consumes-kept known left rest read.part read.taken same;
}

pub part_ended : (known left rest : Option (List ℕ)) (kept : List ℕ) (byte : ℕ) → IsPart known left kept
    → Consumes left rest (byte ∷ []) → byte ≡ 10 → IsPiece known rest true kept
part_ended known left rest kept byte read next feed = record {
  line = read.part;
  unended = read.unended;
  kept_of = read.kept_of;
  ended = λ _. Consumes-trans known left rest read.part (10 ∷ []) read.taken
      (subst (λ (b : ℕ). Consumes left rest (b ∷ [])) feed next);
  last = λ no. absurd (cc);
}

-- ---- what it says

-- as long as the line is
long_kept : (line kept : List ℕ) → kept ≡ take 65537 line → is_long kept ≡ is_long line
long_kept line kept is =
    let count : length kept ≡ min 65537 (length line) = ap length is ∙ length-take 65537 line in
    ltb_from_iff (
      λ yes. let more = ltb-true 65536 (length kept) yes in omega (arith, more, count),
      λ more. lt-ltb 65536 (length kept) (omega (arith, more, count)),
    )

same_by : (line kept : List ℕ) (long : Bool) → is_long line ≡ long → kept ≡ take 65537 line → heard_of kept
    ≡ heard_of line
unfolding heard_of
same_by line kept true e is = rw (long_kept line kept is, e) refl
same_by line kept false e is =
    let few : length line ≤ 65537 = let most = ltb-false 65536 (length line) e in omega (arith, most) in
    ap heard_of (is ∙ take_all 65537 line few)

-- the bytes that are kept say what the line says
pub heard_kept : (line kept : List ℕ) → kept ≡ take 65537 line → heard_of kept ≡ heard_of line
heard_kept line kept is = same_by line kept (is_long line) refl is

-- and so do those of what is behind the last line feed
pub cut_kept : (number : ℕ) (line kept : List ℕ) → kept ≡ take 65537 line → cut_texts number kept
    ≡ cut_texts number line
cut_kept number [] kept is = ap (cut_texts number) is
cut_kept number (c ∷ cs) kept is =
    ap (cut_texts number) is
    ∙ ap (λ (long : Bool). fault_line number (if long then TooLong else Kind Cut) [] ∷ [])
    (long_kept (c ∷ cs) (take 65537 (c ∷ cs)) refl)
