-- Where the entries of a block end: before the zeros at its end, as a name has no zero (`used_is`, for `used`, which looks
-- for them from the end). A block is its entries' bytes and zeros, and so are the bytes that are left when zeros are taken
-- off its end as long as one stands there; of two such lists neither is the longer (`zeros_begin`).
use Rattle.std.proofs.Common.{◌≡◌, ◌≢◌, ℕ, zero, suc, ◌+◌, ◌-◌, ◌<◌, ◌≤◌, ◌==◌, true, false, List, [], ◌∷◌, ◌++◌, length}
use Rattle.std.proofs.Common.{drop, take, get_or, replicate, None, sym, ap, ◌∙◌, arith, length-append, append_assoc}
use Rattle.std.proofs.lemmas.List.{append-nil, get_or-replicate, get_or_append_left, get_or_past, length-drop, length-replicate}
use Rattle.std.proofs.lemmas.List.{take-append-drop}
use Rattle.std.proofs.lemmas.Nat.{be_bytes_8}
use Rattle.std.proofs.lemmas.List.{replicate-append-replicate}
use Rattle.std.proofs.lemmas.Grind.{common_steps}
use Rattle.std.proofs.lemmas.List.Folds.{list_any_at}
use Rattle.std.proofs.Math.Seq.{get_or-append_right}
use Rattle.std.specs.List.{list_any}
use Rattle.std.specs.Int.{w32, w64, from_be_bytes, to_be_bytes}
use Rattle.lfs_types.specs.Naming.{name_fault}
use Rattle.lfs_dirs.specs.Directory.{Entry, entry_bytes, used_of, AreEntries, IsDirectoryBlock, IsEntry}
use Rattle.lfs_dirs.proofs.Laws.{bytes_of, length-bytes_of, length-name, Spells-bytes}

-- the last of some bytes; 1 where there is none
abbrev pub last_of : List ℕ → ℕ
last_of bytes = get_or bytes (length bytes - 1) 1

-- the bytes are others with zeros behind them
abbrev pub IsFrontOf : List ℕ → List ℕ → Type 0
IsFrontOf front bytes = (n : ℕ) × (bytes ≡ front ++ replicate n 0)

pub front_all : (bytes : List ℕ) → IsFrontOf bytes bytes
front_all bytes = (0, sym (append-nil bytes))

-- fewer are, where what is left out are zeros
pub front_shorter : (bytes front rest : List ℕ) (k : ℕ) → IsFrontOf front bytes → front ≡ rest ++ replicate k 0
    → IsFrontOf rest bytes
front_shorter bytes front rest k f is = (
  k + f.0,
  f.1 ∙ ap (λ bs. bs ++ replicate f.0 0) is ∙ append_assoc rest (replicate k 0) (replicate f.0 0)
      ∙ ap (λ bs. rest ++ bs) (replicate-append-replicate k f.0 0),
)

-- bytes that spell 0 are below 256
eight_small : (group : List ℕ) → length group ≡ 8 → from_be_bytes w64 group ≡ 0 → (i : ℕ) → get_or group i 0 < 256
eight_small group long none zero = omega (arith, none)
eight_small group long none (suc zero) = omega (arith, none)
eight_small group long none (suc (suc zero)) = omega (arith, none)
eight_small group long none (suc (suc (suc zero))) = omega (arith, none)
eight_small group long none (suc (suc (suc (suc zero)))) = omega (arith, none)
eight_small group long none (suc (suc (suc (suc (suc zero))))) = omega (arith, none)
eight_small group long none (suc (suc (suc (suc (suc (suc zero)))))) = omega (arith, none)
eight_small group long none (suc (suc (suc (suc (suc (suc (suc zero))))))) = omega (arith, none)
eight_small group long none (suc (suc (suc (suc (suc (suc (suc (suc n)))))))) =
    let past = get_or_past group (suc (suc (suc (suc (suc (suc (suc (suc n)))))))) 0 (omega (arith, long)) in
    omega (arith, past)

-- eight bytes that spell 0 are zeros
eight_zeros : (group : List ℕ) → length group ≡ 8 → from_be_bytes w64 group ≡ 0 → group ≡ replicate 8 0
eight_zeros group long none = sym (be_bytes_8 group 0 long (eight_small group long none) (sym none))

-- bytes that end in a group of them
pub group_off : (front rest group : List ℕ) → 8 ≤ length front → rest ≡ take (length front - 8) front
    → group ≡ drop (length front - 8) front → from_be_bytes w64 group ≡ 0 → front ≡ rest ++ replicate 8 0
group_off front rest group some is_rest is_group none =
    let long : length group ≡ 8 = ap length is_group ∙ omega (arith, length-drop (length front - 8) front) in
    sym (take-append-drop (length front - 8) front)
    ∙ ap (λ bs. bs ++ drop (length front - 8) front) (sym is_rest)
    ∙ ap (λ bs. rest ++ bs) (sym is_group ∙ eight_zeros group long none)

-- a name has no zero
no_zero : (name : List ℕ) → name_fault name ≡ None → list_any (λ b. b == 0) name ≡ false
no_zero name fine = grind (arith, common_steps)

is_zero : (n : ℕ) → n ≡ 0 → (n == 0) ≡ true
is_zero n h = ap (λ k. k == 0) h

name_above : (name : List ℕ) (i : ℕ) → name_fault name ≡ None → i < length name → get_or name i 1 ≢ 0
name_above name i fine low none_there =
    let some = list_any_at (λ b. b == 0) name i 1 low (is_zero _ none_there) in
    let none = no_zero name fine in
    absurd (cc)

-- neither of two numbers is less
equal : (a b : ℕ) → (a < b → ⊥) → (b < a → ⊥) → a ≡ b
equal a b low high = omega (arith, low, high)

-- the last of bytes that have others behind them is the last of those, if there is one
last_behind : (front behind : List ℕ) → 0 < length behind → last_of (front ++ behind) ≡ last_of behind
last_behind front behind some =
    let whole = length-append front behind in
    get_or-append_right front behind (length (front ++ behind) - 1) 1 (omega (arith, whole, some))
    ∙ ap (λ i. get_or behind i 1) (omega (arith, whole, some))

-- the bytes of an entry end in no zero
entry_above : (e : Entry) → IsEntry e → last_of (entry_bytes e) ≢ 0
entry_above e is none_there =
    let some = (length-name e.1 is.named).0 in
    let front = to_be_bytes w32 e.0 ++ length e.1 ∷ [] in
    name_above e.1 (length e.1 - 1) is.named (omega (arith, some))
    (sym (last_behind front e.1 some) ∙ none_there)

-- entries end in no zero
last_above : (es : List Entry) → AreEntries es → last_of (bytes_of es) ≢ 0
last_above [] a none_there = absurd (omega (arith, none_there))
last_above (e ∷ []) a none_there =
    entry_above e a.0 (ap last_of (sym (append-nil (entry_bytes e))) ∙ none_there)
last_above (e ∷ d ∷ es) a none_there =
    let some : 0 < length (bytes_of (d ∷ es)) = omega (arith, length-bytes_of (d ∷ es)) in
    last_above (d ∷ es) a.2 (sym (last_behind (entry_bytes e) (bytes_of (d ∷ es)) some) ∙ none_there)

-- of bytes told twice with zeros behind, the first don't end in a zero and are longer than the second: that is never
zeros_begin : (a b : List ℕ) (n m : ℕ) → a ++ replicate n 0 ≡ b ++ replicate m 0 → last_of a ≢ 0 → length b < length a
    → ⊥
zeros_begin a b n m same above longer =
    let whole : length a + n ≡ length b + m = omega (
      arith,
      ap length same,
      length-append a (replicate n 0),
      length-append b (replicate m 0),
      length-replicate {A = ℕ} n 0,
      length-replicate {A = ℕ} m 0,
    ) in
    above (sym (get_or_append_left a (replicate n 0) 1 (length a - 1) (omega (arith, longer)))
    ∙ ap (λ bs. get_or bs (length a - 1) 1) same
    ∙ get_or-append_right b (replicate m 0) (length a - 1) 1 (omega (arith, longer))
    ∙ get_or-replicate m (length a - 1 - length b) 0 1 (omega (arith, whole, longer)))

-- what `used` finds
pub used_is : (block front mid : List ℕ) (es : List Entry) → IsDirectoryBlock block es → IsFrontOf mid block
    → IsFrontOf front mid → 0 < last_of front → length front ≡ used_of es
used_is block front mid es h m f above =
    let spelled = Spells-bytes block es h.spelled in
    let left = front_shorter block mid front f.0 m f.1 in
    let whole : front ++ replicate left.0 0 ≡ bytes_of es ++ replicate spelled.0 0 = sym left.1 ∙ spelled.1 in
    let shorter = zeros_begin front (bytes_of es) left.0 spelled.0 whole (λ none. absurd (omega (arith, none, above))) in
    let longer = zeros_begin (bytes_of es) front spelled.0 left.0 (sym whole) (last_above es h.entries) in
    equal (length front) (used_of es)
    (λ less. longer (omega (arith, less, length-bytes_of es)))
    (λ more. shorter (omega (arith, more, length-bytes_of es)))
