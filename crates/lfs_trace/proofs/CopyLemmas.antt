-- A store copied into a fresh one, file by file and piece by piece, has the same content: `all_copied`, for `copy_of`,
-- with `put_next` and `whole` for `put_file` and `copied_over` for `copy_file`. Within a file the invariant is that its
-- first bytes are there (IsPartly), since a piece put at the end of what is there is the next bytes (`splice_next`);
-- over files, that the numbers below are copied and those above as in a fresh store (AreCopied). The root is the hard
-- one, as a fresh store has it already, so it's given its attributes instead of made (`may_begin`); a length between
-- whole pieces must be one that the file may have (`part_length`).
use Rattle.std.proofs.Common.{◌≡◌, ◌≢◌, ℕ, ◌+◌, ◌*◌, ◌<◌, ◌≤◌, ◌%◌, ◌==◌, suc, Bool, true, false, List, []}
use Rattle.std.proofs.Common.{◌∷◌, ◌++◌, length, take, drop, Option, None, Some, refl, sym, ap, subst, ◌∙◌, arith, inl}
use Rattle.std.proofs.Common.{inr}
use Rattle.std.proofs.Common.{append-nil}
use Rattle.std.specs.Prelude.{IsSomeAnd, option_map, if◌then◌else◌}
use Rattle.std.specs.FinMap as map
use Rattle.std.specs.FinMap.{get-empty, nat_cmp-IsAntisymmetric, same_map}
use Rattle.std.specs.Ordering.{nat_cmp}
use Rattle.std.specs.Cmp.{nat_cmp_total}
use Rattle.std.proofs.Math.Seq.{take-add}
use Rattle.std.proofs.lemmas.Bool.{cases_lt, eqb-true, eqb-false, eq-eqb}
use Rattle.std.proofs.lemmas.List.{drop_all, length-drop, length-take, take_all}
use Rattle.lfs_types.proofs.Maps.{get-insert_same, get-insert_other}
use Rattle.lfs_types.proofs.Pieces.{splice-put_over}
use Rattle.lfs_types.proofs.Somewhere.{is_some_and, present, some_and, some_from}
use Rattle.lfs_types.specs.Changes.{IsLength, changed_at}
use Rattle.lfs_types.specs.Splicing.{splice}
use Rattle.lfs_types.specs.Tree.{Content, File, attrs_of, file_of, fresh_root, opening_content, root}
use Rattle.lfs_types.specs.declared.attrs.Kind.{Kind}
use Rattle.lfs_types.specs.declared.attrs.Kind.TheVariants.{File as Regular, Directory}
use Rattle.lfs_types.specs.Stored.{bytes_of, bytes_of_file, shown_attrs, slice_of}
use Rattle.lfs_types.specs.declared.attrs.Attrs.{Attrs}
use Rattle.lfs_trace.specs.Copying.{CanCopy, IsCopiedAt, MayBegin}

-- ---- bytes

-- the next piece put behind those before it
pub splice_next : (xs read : List ℕ) (off n : ℕ) → read ≡ take n (drop off xs) → splice (take off xs) off read
    ≡ take (off + n) xs
splice_next xs [] off n is = sym (append-nil (take off xs)) ∙ ap (λ r. take off xs ++ r) is ∙ sym (take-add off n xs)
splice_next xs (b ∷ bs) off n is =
    let some : suc (length bs) ≡ length (take n (drop off xs)) = ap (λ (l : List ℕ). length l) is in
    let taken = length-take n (drop off xs) in
    let left = length-drop off xs in
    let front = length-take off xs in
    let size : length (take off xs) ≡ off = omega (arith, some, taken, left, front) in
    splice-put_over (take off xs) off (b ∷ bs) (omega arith) (omega (arith, size))
    ∙ ap (λ ys. (ys ++ (b ∷ bs)) ++ drop (off + length (b ∷ bs)) (take off xs))
    (take_all off (take off xs) (omega (arith, size)))
    ∙ ap (λ ys. (take off xs ++ (b ∷ bs)) ++ ys)
    (drop_all (off + length (b ∷ bs)) (take off xs) (omega (arith, size)))
    ∙ append-nil (take off xs ++ (b ∷ bs))
    ∙ ap (λ r. take off xs ++ r) is
    ∙ sym (take-add off n xs)

-- ---- a file

-- a content has of a number the first bytes of a file, and of all others what it had
abbrev pub IsPartly : File → ℕ → ℕ → Content → Content → Type 0
IsPartly f number count old new =
    (n : ℕ) → map.get new n ≡ (if n == number then Some (file_of (attrs_of f) (take count f.bytes)) else map.get old n)

same_number : (n : ℕ) → (n == n) ≡ true
same_number n = eq-eqb n n refl

module _ (f : File) (number : ℕ) (c : Content) where
  begun_case : (is : map.get c number ≡ Some (file_of (attrs_of f) [])) (n : ℕ) (b : Bool) → (n == number) ≡ b
      → map.get c n ≡ (if b then Some (file_of (attrs_of f) []) else map.get c n)
  begun_case is n true e = ap (λ m. map.get c m) (eqb-true n number e) ∙ is
  begun_case is n false e = refl

  pub begun : map.get c number ≡ Some (file_of (attrs_of f) []) → IsPartly f number 0 c c
  begun is n = begun_case is n (n == number) refl

  pub part_there : (count : ℕ) (new : Content) → IsPartly f number count c new → map.get new number
      ≡ Some (file_of (attrs_of f) (take count f.bytes))
  part_there count new is = is number
      ∙ ap (λ b. if b then Some (file_of (attrs_of f) (take count f.bytes)) else map.get c number)
      (same_number number)

  module _ (off count : ℕ) (read : List ℕ) (old new : Content) (so : IsPartly f number off c old)
      (is : read ≡ take count (drop off f.bytes)) where
    put_is : new ≡ changed_at (map.get old number) number (λ (g : File). record g { bytes = splice g.bytes off read })
        old → new ≡ map.insert old number (file_of (attrs_of f) (take (off + count) f.bytes))
    put_is put =
        put
        ∙ ap (λ (o : Option File). changed_at o number (λ (g : File). record g { bytes = splice g.bytes off read }) old)
        (part_there off old so)
        ∙ ap (λ bs. map.insert old number (file_of (attrs_of f) bs)) (splice_next f.bytes read off count is)

    put_case : new ≡ map.insert old number (file_of (attrs_of f) (take (off + count) f.bytes)) → (n : ℕ) (b : Bool)
        → (n == number) ≡ b
        → map.get new n ≡ (if b then Some (file_of (attrs_of f) (take (off + count) f.bytes)) else map.get c n)
    put_case put n true e =
        ap (λ (m : Content). map.get m n) put
        ∙ ap (λ k. map.get (map.insert old number (file_of (attrs_of f) (take (off + count) f.bytes))) k)
        (eqb-true n number e)
        ∙ get-insert_same old number (file_of (attrs_of f) (take (off + count) f.bytes))
    put_case put n false e =
        ap (λ (m : Content). map.get m n) put
        ∙ get-insert_other old number (file_of (attrs_of f) (take (off + count) f.bytes)) n (eqb-false n number e)
        ∙ so n
        ∙ ap (λ b. if b then Some (file_of (attrs_of f) (take off f.bytes)) else map.get c n) e

    pub put_more : new
        ≡ changed_at (map.get old number) number (λ (g : File). record g { bytes = splice g.bytes off read }) old
        → IsPartly f number (off + count) c new
    put_more put n = put_case (put_is put) n (n == number) refl

  -- all its bytes
  whole_case : (count : ℕ) (from new : Content) → length f.bytes ≤ count → map.get from number ≡ Some f
      → IsPartly f number count c new → (n : ℕ) (b : Bool) → (n == number) ≡ b
      → map.get new n ≡ (if b then map.get from n else map.get c n)
  whole_case count from new over there so n true e =
      so n ∙ ap (λ b. if b then Some (file_of (attrs_of f) (take count f.bytes)) else map.get c n) e
      ∙ ap (λ bs. Some (file_of (attrs_of f) bs)) (take_all count f.bytes over)
      ∙ sym there ∙ ap (λ k. map.get from k) (sym (eqb-true n number e))
  whole_case count from new over there so n false e =
      so n ∙ ap (λ b. if b then Some (file_of (attrs_of f) (take count f.bytes)) else map.get c n) e

  pub whole : (count : ℕ) (from new : Content) → length f.bytes ≤ count → map.get from number ≡ Some f
      → IsPartly f number count c new → IsCopiedAt number from c new
  whole count from new over there so n = whole_case count from new over there so n (n == number) refl

-- ---- lengths

within : (kind : Kind) (size len : ℕ) → IsLength kind size → len ≤ size → len % 512 ≡ 0 → IsLength kind len
within Regular size len is less whole = omega (arith, is, less)
within Directory size len is less whole = let most = is.0 in (omega (arith, most, less), whole)

-- so many whole pieces of bytes, or all of them, are a length that a file may have
pub part_length : (kind : Kind) (xs : List ℕ) (pieces : ℕ) → IsLength kind (length xs)
    → IsLength kind (length (take (pieces * 4096) xs))
part_length kind xs pieces is =
    elim (cases_lt (length xs) (pieces * 4096)) [
      | inl over ↦ subst (λ bs. IsLength kind (length bs)) (sym (take_all (pieces * 4096) xs (omega (arith, over)))) is
      | inr few ↦
          let size = length-take (pieces * 4096) xs in
          let long : length (take (pieces * 4096) xs) ≡ pieces * 4096 = omega (arith, few, size) in
          subst (λ n. IsLength kind n) (sym long) (within kind (length xs) (pieces * 4096) is (omega (arith, few))
          (omega arith))
    ]

-- ---- the next piece of a file

module _ (f : File) (number piece : ℕ) (from c old : Content) (there : map.get from number ≡ Some f)
    (so : IsPartly f number (piece * 4096) c old) where
  abbrev next : List ℕ
  next = slice_of (bytes_of from number) (piece * 4096) 4096

  next_is : next ≡ take 4096 (drop (piece * 4096) f.bytes)
  next_is = ap (λ (o : Option File). take 4096 (drop (piece * 4096) (bytes_of_file o))) there

  one_more : piece * 4096 + 4096 ≡ (piece + 1) * 4096
  one_more = omega arith

  pub may_put : IsLength f.kind (length f.bytes) → IsSomeAnd (map.get old number)
      (λ g. IsLength g.kind (length (splice g.bytes (piece * 4096) next)))
  may_put long =
      is_some_and (λ (g : File). IsLength g.kind (length (splice g.bytes (piece * 4096) next)))
      (part_there f number c (piece * 4096) old so)
      (subst (λ bs. IsLength f.kind (length bs))
      (sym (splice_next f.bytes next (piece * 4096) 4096 next_is ∙ ap (λ k. take k f.bytes) one_more))
      (part_length f.kind f.bytes (piece + 1) long))

  pub put_next : (new : Content) → new ≡ changed_at (map.get old number) number
      (λ (g : File). record g { bytes = splice g.bytes (piece * 4096) next }) old
      → IsPartly f number ((piece + 1) * 4096) c new
  put_next new put = subst (λ k. IsPartly f number k c new) one_more
      (put_more f number c (piece * 4096) 4096 next old new so next_is put)

-- ---- a number

root_opens : map.get opening_content root ≡ Some fresh_root
root_opens = get-insert_same map.empty root fresh_root

none_opens : (n : ℕ) → n ≢ root → map.get opening_content n ≡ None
none_opens n other = get-insert_other map.empty root fresh_root n other ∙ get-empty nat_cmp n

-- a file of which the attributes are shown
pub record Shown (from : Content) (number : ℕ) (attrs : Attrs) : Type 0 where
  pub file : File
  pub is : map.get from number ≡ Some file
  pub attrs_are : attrs ≡ attrs_of file

shown_case : (o : Option File) (attrs : Attrs) → Some attrs ≡ option_map attrs_of o
    → (f : File) × (o ≡ Some f) × (attrs ≡ attrs_of f)
shown_case None attrs e = absurd (cc)
shown_case (Some f) attrs e = (f, refl, cc)

pub shown : (from : Content) (number : ℕ) (attrs : Attrs) → Some attrs ≡ shown_attrs from number
    → Shown from number attrs
shown from number attrs e =
    let s = shown_case (map.get from number) attrs e in
    record { file = s.0; is = s.1; attrs_are = s.2 }

unshown_case : (o : Option File) → None ≡ option_map attrs_of o → o ≡ None
unshown_case None e = refl
unshown_case (Some f) e = absurd (cc)

module _ (numbers number : ℕ) (from c : Content) (can : CanCopy numbers from)
    (fresh : map.get c number ≡ map.get opening_content number) where
  -- a number that has no file
  none_case : None ≡ shown_attrs from number → (n : ℕ) (b : Bool) → (n == number) ≡ b
      → map.get c n ≡ (if b then map.get from n else map.get c n)
  none_case none n true e =
      let same = eqb-true n number e in
      let gone = unshown_case (map.get from number) none in
      let other : number ≢ root = λ r. is_none_some (sym gone ∙ ap (λ k. map.get from k) r
      ∙ (some_and (map.get from root) (λ g. g.kind ≡ Directory) can.rooted).is) in
      ap (λ k. map.get c k) same ∙ fresh ∙ none_opens number other ∙ sym gone ∙ ap (λ k. map.get from k) (sym same)
    where
      is_none_some : {A : Type 0} {x : A} → None ≡ Some x → ⊥
      is_none_some e = absurd (cc)
  none_case none n false e = refl

  pub none_copied : None ≡ shown_attrs from number → IsCopiedAt number from c c
  none_copied none n = none_case none n (n == number) refl

  -- one that has one
  module _ (attrs : Attrs) (s : Shown from number attrs) where
    at_root : number ≡ root → attrs.kind ≡ Directory
    at_root r =
        let top = some_and (map.get from root) (λ (g : File). g.kind ≡ Directory) can.rooted in
        let same : Some s.file ≡ Some top.value = sym s.is ∙ ap (λ k. map.get from k) r ∙ top.is in
        let one : s.file ≡ top.value = cc in
        ap (λ (a : Attrs). a.kind) s.attrs_are ∙ ap (λ (f : File). f.kind) one ∙ top.holds

    pub may_begin : MayBegin numbers number attrs c
    may_begin = (
      λ r. is_some_and (λ (f : File). (f.kind ≡ attrs.kind) × (f.bytes ≡ []))
          (fresh ∙ ap (λ k. map.get opening_content k) r ∙ root_opens) (sym (at_root r), refl),
      λ other. (
        can.named number (present s.is) other,
        can.within number (present s.is),
        fresh ∙ none_opens number other,
      ),
    )

    module _ (begun new : Content) (is : begun ≡ map.insert c number (file_of attrs [])) where
      pub is_begun : map.get begun number ≡ Some (file_of (attrs_of s.file) [])
      is_begun = ap (λ (m : Content). map.get m number) is ∙ get-insert_same c number (file_of attrs [])
          ∙ ap (λ (a : Attrs). Some (file_of a [])) s.attrs_are

      over_case : IsCopiedAt number from begun new → (n : ℕ) (b : Bool) → (n == number) ≡ b
          → map.get new n ≡ (if b then map.get from n else map.get c n)
      over_case so n true e = so n ∙ ap (λ b. if b then map.get from n else map.get begun n) e
      over_case so n false e =
          so n ∙ ap (λ b. if b then map.get from n else map.get begun n) e
          ∙ ap (λ (m : Content). map.get m n) is
          ∙ get-insert_other c number (file_of attrs []) n (eqb-false n number e)

      pub copied_over : IsCopiedAt number from begun new → IsCopiedAt number from c new
      copied_over so n = over_case so n (n == number) refl

-- ---- a store

-- the numbers below this one have what they have in a store, and the others what a fresh one has
pub record AreCopied (from c : Content) (number : ℕ) : Type 0 where
  pub below : (n : ℕ) → n < number → map.get c n ≡ map.get from n
  pub above : (n : ℕ) → number ≤ n → map.get c n ≡ map.get opening_content n

module _ (numbers : ℕ) (from c : Content) (can : CanCopy numbers from) (at : ℕ) (over : numbers ≤ at)
    (within : at ≤ numbers) (so : AreCopied from c at) where
  none_past : (n : ℕ) (o : Option File) → map.get from n ≡ o → numbers ≤ n → map.get from n ≡ None
  none_past n None e past = e
  none_past n (Some f) e past = let low = can.within n (present e) in absurd (omega (arith, low, past))

  past_root : (n : ℕ) → numbers ≤ n → n ≢ root
  past_root n past r =
      let low = can.within root (some_from (map.get from root) (λ (g : File). g.kind ≡ Directory) can.rooted) in
      absurd (omega (arith, low, past, r))

  pub all_copied : c ≡ from
  all_copied = same_map nat_cmp_total nat_cmp-IsAntisymmetric c from (λ n. elim (cases_lt n numbers) [
    | inl low ↦ so.below n (omega (arith, low, over))
    | inr past ↦
        let far : numbers ≤ n = omega (arith, past) in
        so.above n (omega (arith, far, within)) ∙ none_opens n (past_root n far)
        ∙ sym (none_past n (map.get from n) refl far)
  ])
