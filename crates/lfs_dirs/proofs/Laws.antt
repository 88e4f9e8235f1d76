-- A block spells one list of entries (`entries_of-block`), and entries have one block (`one_spelling`): for
-- `is_directory_block`, `push_entry` and all that lists a directory. The bytes are those of the entries and then zeros
-- (`Spells-bytes`); each entry reads back because its name's length stands before the name, and zeros begin no entry,
-- since no file has number 0. A number 0 in an entry, or a name of length 0, would end the list where it stands.
use Rattle.std.proofs.Common.{◌≡◌, ◌≢◌, ℕ, zero, suc, ◌+◌, ◌*◌, min, ⊎_elim, ◌<◌, ◌≤◌, Bool, true, false, cond, List}
use Rattle.std.proofs.Common.{[], ◌∷◌, ◌++◌, length, take, drop, replicate, Option, None, Some, refl, sym, ap, ◌∙◌}
use Rattle.std.proofs.Common.{subst, arith, length-append, append_assoc, lt-ltb}
use Rattle.std.specs.Prelude.{flat_map}
use Rattle.std.specs.Int.{w32, from_be_bytes}
use Rattle.std.proofs.lemmas.Bool.{le-leb, and_from, cond-true, cond-false, eqb-false, ltb-false, ltb-true, leb-true}
use Rattle.std.proofs.lemmas.Bool.{and_parts, cases_Bool}
use Rattle.std.proofs.lemmas.Nat.{from_be_bytes-to_be_bytes_4}
use Rattle.std.proofs.lemmas.List.{take_at, drop_at, length-replicate}
use Rattle.lfs_types.specs.Naming.{name_fault}
use Rattle.lfs_dirs.specs.Directory.{Entry, entry_bytes, used_of, IsEntry, AreEntries, Spells, IsDirectoryBlock}
use Rattle.lfs_dirs.specs.Reading.{is_entry, entries_at, entries_of}

-- ---- how the entries are spelled

-- the bytes of entries, one behind the other
abbrev pub bytes_of : List Entry → List ℕ
bytes_of es = flat_map entry_bytes es

pub length-entry_bytes : (e : Entry) → length (entry_bytes e) ≡ 5 + length e.1
length-entry_bytes e = omega arith

pub length-bytes_of : (es : List Entry) → length (bytes_of es) ≡ used_of es
length-bytes_of [] = refl
length-bytes_of (e ∷ es) =
    length-append (entry_bytes e) (bytes_of es) ∙ omega (arith, length-entry_bytes e, length-bytes_of es)

pub used_of-append : (es fs : List Entry) → used_of (es ++ fs) ≡ used_of es + used_of fs
used_of-append [] fs = omega arith
used_of-append (e ∷ es) fs = omega (arith, used_of-append es fs)

-- what is spelled is the entries' bytes, and zeros
pub Spells-bytes : (bytes : List ℕ) (es : List Entry) → Spells bytes es → (n : ℕ)
    × (bytes ≡ bytes_of es ++ replicate n 0)
Spells-bytes bytes [] s = (length bytes, s)
Spells-bytes bytes (e ∷ es) s =
    let more = Spells-bytes s.0 es s.2 in (
      more.0,
      s.1 ∙ ap (λ rest. entry_bytes e ++ rest) more.1
          ∙ sym (append_assoc (entry_bytes e) (bytes_of es) (replicate more.0 0)),
    )

pub Spells-from_bytes : (n : ℕ) (es : List Entry) → Spells (bytes_of es ++ replicate n 0) es
Spells-from_bytes n [] = ap (λ k. replicate k 0) (sym (length-replicate n 0))
Spells-from_bytes n (e ∷ es) =
    (bytes_of es ++ replicate n 0, append_assoc (entry_bytes e) (bytes_of es) (replicate n 0), Spells-from_bytes n es)

-- ---- what is read

pub entries_at-skip : (skip : ℕ) (bytes : List ℕ) → entries_at skip bytes ≡ entries_at 0 (drop skip bytes)
unfolding entries_at
entries_at-skip zero bytes = refl
entries_at-skip (suc skip) [] = refl
entries_at-skip (suc skip) (a ∷ bytes) = entries_at-skip skip bytes

-- bytes that begin with an entry: its number, its name and the entries behind it
pub entries_of-first : (a b c d k : ℕ) (bytes : List ℕ)
    → 0 < from_be_bytes w32 (a ∷ b ∷ c ∷ d ∷ []) → 0 < k → k ≤ length bytes
    → entries_of (a ∷ b ∷ c ∷ d ∷ k ∷ bytes) ≡ (from_be_bytes w32 (a ∷ b ∷ c ∷ d ∷ []), take k bytes)
    ∷ entries_of (drop k bytes)
unfolding entries_of entries_at
entries_of-first a b c d k bytes above some room =
    let number = from_be_bytes w32 (a ∷ b ∷ c ∷ d ∷ []) in
    let passes : is_entry number k (length bytes) ≡ true =
    and_from _ _ (and_from _ _ (lt-ltb 0 number above) (lt-ltb 0 k some)) (le-leb k (length bytes) room) in
    cond-true _ _ _ passes ∙ ap (λ es. (number, take k bytes) ∷ es) (entries_at-skip k bytes)

-- bytes that begin with no entry
pub entries_of-none : (a b c d k : ℕ) (bytes : List ℕ)
    → is_entry (from_be_bytes w32 (a ∷ b ∷ c ∷ d ∷ [])) k (length bytes) ≡ false
    → entries_of (a ∷ b ∷ c ∷ d ∷ k ∷ bytes) ≡ []
unfolding entries_of entries_at
entries_of-none a b c d k bytes fails = cond-false _ _ _ fails

pub entries_of-short : (bytes : List ℕ) → length bytes < 5 → entries_of bytes ≡ []
unfolding entries_of entries_at
entries_of-short [] h = refl
entries_of-short (a ∷ []) h = refl
entries_of-short (a ∷ b ∷ []) h = refl
entries_of-short (a ∷ b ∷ c ∷ []) h = refl
entries_of-short (a ∷ b ∷ c ∷ d ∷ []) h = refl
entries_of-short (a ∷ b ∷ c ∷ d ∷ k ∷ bytes) h = absurd (omega arith)

unmet : {A : Type 0} (b : Bool) (x : A) (y : Option A) → cond b (Some x) y ≡ None → (b ≡ false) × (y ≡ None)
unmet true x y h = absurd (cc)
unmet false x y h = (refl, h)

-- a name has 1 to 255 bytes
pub length-name : (name : List ℕ) → name_fault name ≡ None → (0 < length name) × (length name ≤ 255)
length-name name h =
    let some = unmet _ _ _ h in
    let short = unmet _ _ _ some.1 in
    let ne : length name ≢ 0 = eqb-false (length name) 0 some.0 in
    (omega arith, ltb-false 255 (length name) short.0)

pub entries_of-entry : (e : Entry) (rest : List ℕ) → IsEntry e → entries_of (entry_bytes e ++ rest) ≡ e
    ∷ entries_of rest
entries_of-entry e rest h =
    let number = from_be_bytes-to_be_bytes_4 e.0 h.fits in
    let bytes = e.1 ++ rest in
    entries_of-first _ _ _ _ (length e.1) bytes (omega (arith, number, h.above)) (length-name e.1 h.named).0
    (omega (arith, length-append e.1 rest))
    ∙ ap (λ n. (n, take (length e.1) bytes) ∷ entries_of (drop (length e.1) bytes)) number
    ∙ ap (λ name. (e.0, name) ∷ entries_of (drop (length e.1) bytes)) (take_at e.1 rest (length e.1) refl)
    ∙ ap (λ more. e ∷ entries_of more) (drop_at e.1 rest (length e.1) refl)

pub entries_of-zeros : (n : ℕ) → entries_of (replicate n 0) ≡ []
unfolding entries_of entries_at
entries_of-zeros zero = refl
entries_of-zeros (suc zero) = refl
entries_of-zeros (suc (suc zero)) = refl
entries_of-zeros (suc (suc (suc zero))) = refl
entries_of-zeros (suc (suc (suc (suc zero)))) = refl
entries_of-zeros (suc (suc (suc (suc (suc n))))) = refl

pub entries_of-bytes : (n : ℕ) (es : List Entry) → AreEntries es → entries_of (bytes_of es ++ replicate n 0) ≡ es
entries_of-bytes n [] h = entries_of-zeros n
entries_of-bytes n (e ∷ es) h =
    ap entries_of (append_assoc (entry_bytes e) (bytes_of es) (replicate n 0))
    ∙ entries_of-entry e (bytes_of es ++ replicate n 0) h.0
    ∙ ap (λ fs. e ∷ fs) (entries_of-bytes n es h.2)

few_at : (skip : ℕ) (bytes : List ℕ) → 6 * length (entries_at skip bytes) + min skip (length bytes) ≤ length bytes
unfolding entries_at
few_at (suc skip) [] = omega arith
few_at (suc skip) (a ∷ bytes) = omega (arith, few_at skip bytes)
few_at zero [] = omega arith
few_at zero (a ∷ []) = omega arith
few_at zero (a ∷ b ∷ []) = omega arith
few_at zero (a ∷ b ∷ c ∷ []) = omega arith
few_at zero (a ∷ b ∷ c ∷ d ∷ []) = omega arith
few_at zero (a ∷ b ∷ c ∷ d ∷ k ∷ bytes) =
    let number = from_be_bytes w32 (a ∷ b ∷ c ∷ d ∷ []) in
    let test = is_entry number k (length bytes) in
    let more : List Entry = (number, take k bytes) ∷ entries_at k bytes in
    ⊎_elim
    (λ t.
    let parts = and_parts _ _ t in
    let some = ltb-true 0 k (and_parts _ _ parts.0).1 in
    let room = leb-true k (length bytes) parts.1 in
    omega (arith, few_at k bytes, ap length (cond-true test more [] t)))
    (λ t. omega (arith, ap length (cond-false test more [] t)))
    (cases_Bool test)

-- an entry takes at least six bytes
pub length-entries_of : (bytes : List ℕ) → 6 * length (entries_of bytes) ≤ length bytes
unfolding entries_of
length-entries_of bytes = omega (arith, few_at 0 bytes)

-- ---- directory blocks

-- A block has one list of entries, the one that is read.
pub entries_of-block : (bytes : List ℕ) (es : List Entry) → IsDirectoryBlock bytes es → entries_of bytes ≡ es
entries_of-block bytes es h =
    let spelled = Spells-bytes bytes es h.spelled in
    ap entries_of spelled.1 ∙ entries_of-bytes spelled.0 es h.entries

-- how many zeros a block ends with
pub zeros_left : (bytes : List ℕ) (es : List Entry) (h : IsDirectoryBlock bytes es) → used_of es
    + (Spells-bytes bytes es h.spelled).0 ≡ 512
zeros_left bytes es h =
    let spelled = Spells-bytes bytes es h.spelled in
    omega (
      arith,
      ap length spelled.1,
      h.size,
      length-append (bytes_of es) (replicate spelled.0 0),
      length-bytes_of es,
      length-replicate {A = ℕ} spelled.0 0,
    )

-- Entries have one spelling.
pub one_spelling : (a b : List ℕ) (es : List Entry) → IsDirectoryBlock a es → IsDirectoryBlock b es → a ≡ b
one_spelling a b es h k =
    let first = Spells-bytes a es h.spelled in
    let second = Spells-bytes b es k.spelled in
    let same : first.0 ≡ second.0 = omega (arith, zeros_left a es h, zeros_left b es k) in
    first.1 ∙ ap (λ n. bytes_of es ++ replicate n 0) same ∙ sym second.1

-- A block of zeros has no entries.
pub zero_block : IsDirectoryBlock (replicate 512 0) []
zero_block = record { size = length-replicate {A = ℕ} 512 0; entries = tt; spelled = Spells-from_bytes 512 [] }

-- The entries take no more than the block has.
pub used_of-block : (bytes : List ℕ) (es : List Entry) → IsDirectoryBlock bytes es → used_of es ≤ 512
used_of-block bytes es h = omega (arith, zeros_left bytes es h)

-- A block of zeros is a directory block of what is read from it.
pub zero_block_listed : IsDirectoryBlock (replicate 512 0) (entries_of (replicate 512 0))
zero_block_listed =
    let P : List Entry → Type 0 = λ es. IsDirectoryBlock (replicate 512 0) es in
    subst P (sym (entries_of-zeros 512)) zero_block
