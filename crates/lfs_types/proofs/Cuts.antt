-- A text is cut at its first slash, and names are read part by part: `cut_some` and `cut_none` for `cut_at_slash`,
-- `slashed-parts` and `path_text-slashed` for `Path::parse_bytes`. The search gives the first slash, so the first part
-- is what stands before it, and the others are the parts of what stands behind; without a slash the text is one part.
-- Put together again with a slash before each part the parts are the text behind a slash, by induction on its bytes.
use Rattle.std.proofs.Common.{◌≡◌, ℕ, suc, ◌+◌, ◌<◌, ◌≤◌, ◌==◌, nat_lt, Bool, true, false, List, [], ◌∷◌, ◌++◌, length, take}
use Rattle.std.proofs.Common.{◌≢◌, ◌-◌, drop, replicate, set, None, Some, cond, get_or, length-take, refl, sym, ap, subst, ◌∙◌, arith, length-drop}
use Rattle.std.specs.List.{position, position_or_len, All, list_any, onto_first, slice_split}
use Rattle.std.proofs.lemmas.List.Splits.{slice_split_first, slice_split_none}
use Rattle.std.proofs.Math.Seq.{take-suc, take-suc-set}
use Rattle.std.proofs.lemmas.List.{drop-replicate, drop-set-lt, drop_more, get_or-take, get_or_default, length-set, take_all}
use Rattle.std.proofs.lemmas.List.Folds.{list_any_none}
use Rattle.std.proofs.lemmas.List.Sums.{fails_before_first, position_or_len_is}
use Rattle.std.proofs.lemmas.Option.{cond_some}
use Rattle.std.proofs.lemmas.Bool.{ltb-true, ltb-false, eqb-true, eqb-false}
use Rattle.lfs_types.specs.Naming.{stops}
use Rattle.lfs_types.specs.Paths.{IsCut, parts, rest_of, slashed, path_text}

abbrev slash : ℕ → Bool
slash b = b == 47

pub cut_some : (text : List ℕ) (at : ℕ) → position slash text ≡ Some at
    → (parts text ≡ take at text ∷ parts (drop (at + 1) text)) × (at < length text)
cut_some text at e =
    let found : (nat_lt (position_or_len slash text) (length text) ≡ true)
    × (position_or_len slash text ≡ at) = cond_some _ _ _ e in
    let lt : position_or_len slash text < length text = ltb-true _ _ found.0 in (
      subst (λ k. parts text ≡ take k text ∷ parts (drop (k + 1) text)) found.1 (slice_split_first slash text 0 lt),
      omega arith,
    )

cut_none_at : (text : List ℕ) (b : Bool) → nat_lt (position_or_len slash text) (length text) ≡ b → position slash text
    ≡ None → parts text ≡ text ∷ []
cut_none_at text true h e = absurd (cc)
cut_none_at text false h e =
    let le : length text ≤ position_or_len slash text = ltb-false _ _ h in
    let passes : All (λ x. slash x ≡ false) text = λ k d lt. fails_before_first slash text k d (omega arith) in
    slice_split_none slash text passes

pub cut_none : (text : List ℕ) → position slash text ≡ None → parts text ≡ text ∷ []
cut_none text e = cut_none_at text _ refl e

-- ---- where neither a slash nor a zero byte stands

-- none of these is a slash
pub no_slash : (b : ℕ) → stops b ≡ false → slash b ≡ false
no_slash b passes = no_slash_if b _ refl passes
  where
    no_slash_if : (b : ℕ) (t : Bool) → slash b ≡ t → stops b ≡ false → slash b ≡ false
    no_slash_if b true is passes = absurd (cc)
    no_slash_if b false is passes = is

-- nor zero
pub no_zero : (b : ℕ) → stops b ≡ false → (b == 0) ≡ false
no_zero b passes = no_zero_if b _ refl passes
  where
    no_zero_if : (b : ℕ) (t : Bool) → slash b ≡ t → stops b ≡ false → (b == 0) ≡ false
    no_zero_if b true is passes = absurd (cc)
    no_zero_if b false is passes = cc

pub clean_any : (bytes : List ℕ) → All (λ b. stops b ≡ false) bytes
    → (list_any (λ b. b == 47) bytes ≡ false) × (list_any (λ b. b == 0) bytes ≡ false)
clean_any bytes clean = (
  list_any_none slash bytes (λ k d less. no_slash _ (clean k d less)),
  list_any_none (λ b. b == 0) bytes (λ k d less. no_zero _ (clean k d less)),
)

-- bytes of which none is either, up to a slash or to the end, are the first part
pub clean_cut : (text part : List ℕ) (count : ℕ) → part ≡ take count text → length part ≡ count
    → All (λ b. stops b ≡ false) part → count ≤ length text → (count < length text → get_or text count 0 ≡ 47)
    → IsCut text part (rest_of text count)
clean_cut text part count is few clean within slashed = clean_cut_if text part count _ refl is few clean within slashed
  where
    first : (text part : List ℕ) (count : ℕ) → part ≡ take count text → length part ≡ count
        → All (λ b. stops b ≡ false) part → count ≤ length text → (count < length text → get_or text count 0 ≡ 47)
        → position_or_len slash text ≡ count
    first text part count is few clean within slashed =
        position_or_len_is slash text count 0 within
        (λ k less. no_slash _ (subst (λ (b : ℕ). stops b ≡ false)
        (ap (λ l. get_or l k 0) is ∙ get_or-take count text k 0 less) (clean k 0 (omega (arith, few, less)))))
        (λ less. rw (slashed less) refl)

    clean_cut_if : (text part : List ℕ) (count : ℕ) (t : Bool) → (count == length text) ≡ t → part ≡ take count text
        → length part ≡ count → All (λ b. stops b ≡ false) part → count ≤ length text
        → (count < length text → get_or text count 0 ≡ 47)
        → IsCut text part (cond t None (Some (drop (count + 1) text)))
    clean_cut_if text part count true whole is few clean within slashed =
        let end : count ≡ length text = eqb-true count (length text) whole in
        let all : take count text ≡ text = take_all count text (omega (arith, end)) in
        let here : length text ≤ position_or_len slash text =
        omega (arith, end, first text part count is few clean within slashed) in
        slice_split_none slash text (λ k d less. fails_before_first slash text k d (omega (arith, here, less)))
        ∙ ap (λ l. l ∷ []) (sym all ∙ sym is)
    clean_cut_if text part count false whole is few clean within slashed =
        let apart : count ≢ length text = eqb-false count (length text) whole in
        let less : count < length text = omega (arith, within, apart) in
        let at = first text part count is few clean within slashed in (
          subst (λ l. parts text ≡ l ∷ parts (drop (count + 1) text)) (sym is)
              (subst (λ k. parts text ≡ take k text ∷ parts (drop (k + 1) text)) at
              (slice_split_first slash text 0 (omega (arith, at, less)))),
          omega (arith, few, less, length-drop (count + 1) text),
        )

-- ---- the front of a text, copied to where zeros are

-- so many bytes were copied, and stopped at none of them
pub record IsFrontCopied (text bytes : List ℕ) (count : ℕ) : Type 0 where
  pub whole : length bytes ≡ 14
  pub within : count ≤ length text
  pub few : count ≤ 14
  pub front : take count bytes ≡ take count text
  pub zeros : drop count bytes ≡ replicate (14 - count) 0
  pub clean : (k : ℕ) → k < count → stops (get_or text k 0) ≡ false

pub front_more : (text bytes : List ℕ) (count : ℕ) → IsFrontCopied text bytes count → count < length text → count < 14
    → stops (get_or text count 0) ≡ false
    → IsFrontCopied text (set bytes count (get_or text count 0)) (count + 1)
front_more text bytes count f less few here =
    let byte = get_or text count 0 in
    let within : count < length bytes = omega (arith, f.whole, few) in
    let next : count + 1 ≡ suc count = omega arith in
    record {
      whole = length-set bytes count byte ∙ f.whole;
      within = omega (arith, less);
      few = omega (arith, few);
      front = ap (λ n. take n (set bytes count byte)) next ∙ take-suc-set bytes count byte within
          ∙ ap (λ l. l ++ byte ∷ []) f.front ∙ sym (take-suc text count 0 less) ∙ ap (λ n. take n text) (sym next);
      zeros = drop-set-lt (count + 1) bytes count byte (omega arith) ∙ sym (ap (drop 1) (drop_more bytes count 0 within))
          ∙ ap (drop 1) f.zeros ∙ drop-replicate 1 (14 - count) 0 ∙ ap (λ n. replicate n 0) (omega arith);
      clean = λ k low. clean_more k low (k == count) refl;
    }
  where
    clean_more : (k : ℕ) → k < count + 1 → (t : Bool) → (k == count) ≡ t → stops (get_or text k 0) ≡ false
    clean_more k low true is = subst (λ n. stops (get_or text n 0) ≡ false) (sym (eqb-true k count is)) here
    clean_more k low false is = f.clean k (omega (arith, low, eqb-false k count is))

-- a front of a text is no longer than it
pub front_within : (text part : List ℕ) → part ≡ take (length part) text → length part ≤ length text
front_within text part is = omega (arith, simp length-take at (ap length is))

-- a clean front of a text, up to a slash or to the end, is its first part
pub front_cut : (text front seen : List ℕ) → seen ≡ front → front ≡ take (length front) text
    → All (λ b. stops b ≡ false) front → (length seen < length text → get_or text (length seen) 0 ≡ 47)
    → IsCut text front (rest_of text (length seen))
front_cut text front seen same is clean slashed =
    let few : length seen ≡ length front = ap length same in
    clean_cut text front (length seen) (is ∙ ap (λ n. take n text) (sym few)) (sym few) clean
    (omega (arith, few, front_within text front is)) slashed

-- so they are clean as a list
pub front_clean : (text bytes : List ℕ) (count : ℕ) → IsFrontCopied text bytes count
    → All (λ b. stops b ≡ false) (take count bytes)
front_clean text bytes count f = λ k d less.
    let few : length (take count bytes) ≡ count = simp length-take (omega (arith, f.few, f.whole)) in
    let low : k < count = omega (arith, less, few) in
    subst (λ l. stops (get_or l k d) ≡ false) (sym f.front)
    (subst (λ b. stops b ≡ false) (sym (get_or-take count text k d low))
    (subst (λ b. stops b ≡ false) (get_or_default text k 0 d (omega (arith, low, f.within))) (f.clean k low)))

onto : (b : ℕ) (ps : List (List ℕ)) (bs : List ℕ) → slashed ps ≡ 47 ∷ bs → slashed (onto_first b ps) ≡ 47 ∷ b ∷ bs
onto b [] bs e = absurd (cc)
onto b (p ∷ ps) bs e = let rest : p ++ slashed ps ≡ bs = cc in ap (λ x. 47 ∷ b ∷ x) rest

piece : (b : ℕ) (bs : List ℕ) (t : Bool) → (b == 47) ≡ t → slashed (slice_split slash bs) ≡ 47 ∷ bs
    → slashed (cond t ([] ∷ slice_split slash bs) (onto_first b (slice_split slash bs))) ≡ 47 ∷ b ∷ bs
piece b bs true is e = let same : b ≡ 47 = eqb-true b 47 is in rw same (ap (λ x. 47 ∷ x) e)
piece b bs false is e = onto b _ bs e

-- the parts between the slashes, each with a slash before it, are the text behind a slash
pub slashed-parts : (bs : List ℕ) → slashed (parts bs) ≡ 47 ∷ bs
slashed-parts [] = refl
slashed-parts (b ∷ bs) = piece b bs _ refl (slashed-parts bs)

-- where the text of names is known, so is the path's
pub path_text-slashed : (ps : List (List ℕ)) (bs : List ℕ) → slashed ps ≡ 47 ∷ bs → path_text ps ≡ 47 ∷ bs
path_text-slashed [] bs e = absurd (cc)
path_text-slashed (p ∷ ps) bs e = e
