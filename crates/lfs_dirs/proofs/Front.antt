-- The entry that bytes begin with is read off their first five and those behind: `entry_at_front` and `none_at_front`,
-- both for `first_entry`. Four bytes are the number, one is the name's length, and the name is what is behind; the
-- bytes are spelled by that entry since the number's bytes are those it spells, as each is below 256. Where the number
-- is 0, or the name has no room, no entry is read; another order of number and length changes only this file's sums.
use Rattle.std.proofs.Common.{◌≡◌, ℕ, zero, suc, ◌^◌, ◌<◌, ◌≤◌, false, List, [], ◌∷◌, ◌++◌, length, get_or, take, drop}
use Rattle.std.proofs.Common.{refl, sym, ap, ◌∙◌, subst, arith}
use Rattle.std.specs.Int.{w32, to_be_bytes, from_be_bytes}
use Rattle.std.proofs.lemmas.List.{take-append-drop, length-take-le}
use Rattle.std.proofs.lemmas.Nat.{be_bytes_4}
use Rattle.lfs_dirs.specs.Reading.{StandsFirst, is_entry, entries_of}
use Rattle.lfs_dirs.proofs.Laws.{entries_of-first, entries_of-none}

-- every byte is below 256
abbrev pub AreBytes : List ℕ → Type 0
AreBytes bytes = (i : ℕ) → get_or bytes i 0 < 256

-- the number that the first four bytes spell
abbrev pub number_at_front : List ℕ → ℕ
number_at_front head = from_be_bytes w32 (get_or head 0 0 ∷ get_or head 1 0 ∷ get_or head 2 0 ∷ get_or head 3 0 ∷ [])

stands_first : (a b c d k : ℕ) (bytes : List ℕ) → AreBytes (a ∷ b ∷ c ∷ d ∷ [])
    → from_be_bytes w32 (a ∷ b ∷ c ∷ d ∷ []) < 2 ^ 32 → 0 < from_be_bytes w32 (a ∷ b ∷ c ∷ d ∷ []) → 0 < k
    → k ≤ length bytes
    → StandsFirst (a ∷ b ∷ c ∷ d ∷ k ∷ bytes) (from_be_bytes w32 (a ∷ b ∷ c ∷ d ∷ []), take k bytes) (drop k bytes)
stands_first a b c d k bytes fits small above some room =
    let number = from_be_bytes w32 (a ∷ b ∷ c ∷ d ∷ []) in
    let whole = take-append-drop k bytes in
    let long = length-take-le k bytes room in
    let same : to_be_bytes w32 number ≡ a ∷ b ∷ c ∷ d ∷ [] = be_bytes_4 (a ∷ b ∷ c ∷ d ∷ []) number refl fits refl in
    record {
      read = entries_of-first a b c d k bytes above some room;
      spelled =
          sym
          (ap (λ (front : List ℕ). (front ++ length (take k bytes) ∷ take k bytes) ++ drop k bytes) same
          ∙ ap (λ n. a ∷ b ∷ c ∷ d ∷ n ∷ (take k bytes ++ drop k bytes)) long
          ∙ ap (λ more. a ∷ b ∷ c ∷ d ∷ k ∷ more) whole);
      above = above;
      fits = small;
    }

front_fits : (a b c d e : ℕ) (more : List ℕ) → AreBytes (a ∷ b ∷ c ∷ d ∷ e ∷ more) → AreBytes (a ∷ b ∷ c ∷ d ∷ [])
front_fits a b c d e more fits zero = fits 0
front_fits a b c d e more fits (suc zero) = fits 1
front_fits a b c d e more fits (suc (suc zero)) = fits 2
front_fits a b c d e more fits (suc (suc (suc zero))) = fits 3
front_fits a b c d e more fits (suc (suc (suc (suc n)))) = omega arith

-- an entry at the front, read as its parts
pub entry_at_front : (bytes head rest name others : List ℕ) (number k : ℕ) → 5 ≤ length bytes → AreBytes bytes
    → head ≡ take 5 bytes → rest ≡ drop 5 bytes → number ≡ number_at_front head → k ≡ get_or head 4 0
    → name ≡ take k rest → others ≡ drop k rest → number < 2 ^ 32 → 0 < number → 0 < k → k ≤ length rest
    → StandsFirst bytes (number, name) others
entry_at_front [] head rest name others number k long fits at_head at_rest is_number is_k is_name is_others small above
    some room = absurd (omega arith)
entry_at_front (a ∷ []) head rest name others number k long fits at_head at_rest is_number is_k is_name is_others small
    above some room = absurd (omega arith)
entry_at_front (a ∷ b ∷ []) head rest name others number k long fits at_head at_rest is_number is_k is_name is_others
    small above some room = absurd (omega arith)
entry_at_front (a ∷ b ∷ c ∷ []) head rest name others number k long fits at_head at_rest is_number is_k is_name
    is_others small above some room = absurd (omega arith)
entry_at_front (a ∷ b ∷ c ∷ d ∷ []) head rest name others number k long fits at_head at_rest is_number is_k is_name
    is_others small above some room = absurd (omega arith)
entry_at_front (a ∷ b ∷ c ∷ d ∷ e ∷ more) head rest name others number k long fits at_head at_rest is_number is_k
    is_name is_others small above some room =
    let bytes = a ∷ b ∷ c ∷ d ∷ e ∷ more in
    let value = from_be_bytes w32 (a ∷ b ∷ c ∷ d ∷ []) in
    let number_is : number ≡ value = is_number ∙ ap number_at_front at_head in
    let k_is : k ≡ e = is_k ∙ ap (λ (xs : List ℕ). get_or xs 4 0) at_head in
    let name_is : name ≡ take e more = is_name ∙ ap (λ n. take n rest) k_is ∙ ap (take e) at_rest in
    let others_are : others ≡ drop e more = is_others ∙ ap (λ n. drop n rest) k_is ∙ ap (drop e) at_rest in
    let fit = λ (i : ℕ). front_fits a b c d e more fits i in
    let first = stands_first a b c d e more fit (subst (λ n. n < 2 ^ 32) number_is small)
    (subst (λ n. 0 < n) number_is above) (subst (λ n. 0 < n) k_is some)
    (omega (arith, k_is, ap length at_rest)) in
    let P : ℕ → Type 0 = λ n. StandsFirst bytes (n, name) others in
    let Q : List ℕ → Type 0 = λ xs. StandsFirst bytes (value, xs) others in
    let R : List ℕ → Type 0 = λ ys. StandsFirst bytes (value, take e more) ys in
    subst P (sym number_is) (subst Q (sym name_is) (subst R (sym others_are) first))

-- no entry at the front
pub none_at_front : (bytes head rest : List ℕ) (number k : ℕ) → 5 ≤ length bytes
    → head ≡ take 5 bytes → rest ≡ drop 5 bytes → number ≡ number_at_front head → k ≡ get_or head 4 0
    → is_entry number k (length rest) ≡ false → entries_of bytes ≡ []
none_at_front [] head rest number k long at_head at_rest is_number is_k fails = absurd (omega arith)
none_at_front (a ∷ []) head rest number k long at_head at_rest is_number is_k fails = absurd (omega arith)
none_at_front (a ∷ b ∷ []) head rest number k long at_head at_rest is_number is_k fails = absurd (omega arith)
none_at_front (a ∷ b ∷ c ∷ []) head rest number k long at_head at_rest is_number is_k fails = absurd (omega arith)
none_at_front (a ∷ b ∷ c ∷ d ∷ []) head rest number k long at_head at_rest is_number is_k fails = absurd (omega arith)
none_at_front (a ∷ b ∷ c ∷ d ∷ e ∷ more) head rest number k long at_head at_rest is_number is_k fails =
    let number_is = is_number ∙ ap number_at_front at_head in
    let k_is = is_k ∙ ap (λ (xs : List ℕ). get_or xs 4 0) at_head in
    let same : is_entry (number_at_front (a ∷ b ∷ c ∷ d ∷ e ∷ [])) e (length more) ≡ is_entry number k (length rest) =
    sym (ap (λ n. is_entry n k (length rest)) number_is
    ∙ ap (λ n. is_entry (number_at_front (a ∷ b ∷ c ∷ d ∷ e ∷ [])) n (length rest)) k_is
    ∙ ap (λ xs. is_entry (number_at_front (a ∷ b ∷ c ∷ d ∷ e ∷ [])) e (length xs)) at_rest) in
    entries_of-none a b c d e more (same ∙ fails)
