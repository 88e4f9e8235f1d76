-- A pair put into its slot is what the cache says of its name, and of all other names it says no more than before:
-- `its_own` and `put_no_more`, for `NameCache::enter`, with `kept_short` and `kept_long` for `look`. A slot is told by
-- a name's hash, so another name may have the same one; then the new pair isn't its own, and the cache says nothing of
-- it (`put_apart`), which is always true. Names of more than 24 bytes aren't kept, as a pair has no room for them;
-- comparing hashes instead of names would make it say what isn't so.
use Rattle.std.proofs.Common.{◌≡◌, ◌≢◌, ℕ, ◌<◌, ◌≤◌, Bool, true, false, cond, List, length, take, get_or, Option, None}
use Rattle.std.proofs.Common.{Some, refl, sym, ap, ◌∙◌, ⊎_elim, arith}
use Rattle.std.specs.Prelude.{◌==◌, nat_le, bytes_eq}
use Rattle.std.proofs.Math.ListN.{set}
use Rattle.std.proofs.lemmas.List.{get_or-set_same, get_or-set_other}
use Rattle.std.proofs.lemmas.Bool.{leb-true, and_parts, and_from, eqb-true, eq-eqb, cases_eq, cond-true, cond-false}
use Rattle.std.proofs.lemmas.Bool.{le-leb, cases_Bool}
use Rattle.std.proofs.lemmas.Slice.Eq.{bytes_eq-Decides}
use Rattle.lfs_known.specs.declared.pair.Pair.{Pair}
use Rattle.lfs_known.specs.Places.{place_of}
use Rattle.lfs_known.specs.NameSlots.{kept_of, said, slot_says}

-- a pair is of its directory and its name
pub its_own : (p : Pair) (dir : ℕ) (name : List ℕ) → p.dir ≡ dir → take p.len p.bytes ≡ name
    → slot_says (Some p) dir name ≡ Some p.found
its_own p dir name d n = cond-true _ _ _ (and_from _ _ (eq-eqb p.dir dir d) ((bytes_eq-Decides _ name).1 n))

no_number : (b : Bool) (number m : Option ℕ) → cond b (Some number) None ≡ Some m → b ≡ true
no_number true number m h = refl
no_number false number m h = absurd (cc)

-- and of no other
pub of_no_other : (p : Pair) (dir : ℕ) (name : List ℕ) (m : Option ℕ) → slot_says (Some p) dir name ≡ Some m
    → (p.dir ≡ dir) × (take p.len p.bytes ≡ name)
of_no_other p dir name m h =
    let two = and_parts (p.dir == dir) (bytes_eq (take p.len p.bytes) name) (no_number _ p.found m h) in
    (eqb-true p.dir dir two.0, (bytes_eq-Decides _ name).0 two.1)

nothing_of : (p : Pair) (d : ℕ) (n : List ℕ) (found : Option (Option ℕ)) → slot_says (Some p) d n ≡ found
    → ((p.dir ≡ d) → (take p.len p.bytes ≡ n) → ⊥) → found ≡ None
nothing_of p d n None e apart = refl
nothing_of p d n (Some m) e apart = let same = of_no_other p d n m e in absurd (apart same.0 same.1)

-- a slot that has a number for one name has none for another
pub not_both : (x : Option Pair) (dir : ℕ) (name : List ℕ) (m : Option ℕ) (d : ℕ) (n : List ℕ) → slot_says x dir name
    ≡ Some m → (d ≡ dir → n ≡ name → ⊥) → slot_says x d n ≡ None
not_both None dir name m d n h apart = refl
not_both (Some p) dir name m d n h apart =
    let is = of_no_other p dir name m h in
    nothing_of p d n (slot_says (Some p) d n) refl (λ e f. apart (sym e ∙ is.0) (sym f ∙ is.1))

-- a new pair's slot has nothing for another name
pub put_apart : (p : Pair) (dir : ℕ) (name : List ℕ) (d : ℕ) (n : List ℕ) → p.dir ≡ dir → take p.len p.bytes ≡ name
    → (d ≡ dir → n ≡ name → ⊥) → slot_says (Some p) d n ≡ None
put_apart p dir name d n e f apart = not_both (Some p) dir name p.found d n (its_own p dir name e f) apart

-- a name that is short enough is kept
pub kept_short : (name : List ℕ) (number : Option (Option ℕ)) → length name ≤ 24 → kept_of name number ≡ number
kept_short name number h = cond-true _ _ _ (le-leb (length name) 24 h)

-- of a longer one nothing
pub kept_long : (name : List ℕ) (number : Option (Option ℕ)) → 24 < length name → kept_of name number ≡ None
kept_long name number h = ⊎_elim
    (λ t. let short = leb-true (length name) 24 t in absurd (omega arith))
    (λ t. cond-false _ _ _ t)
    (cases_Bool (nat_le (length name) 24))

-- of no number nothing
pub kept_none : (name : List ℕ) → kept_of name None ≡ None
kept_none name = ⊎_elim (λ t. cond-true _ _ _ t) (λ t. cond-false _ _ _ t) (cases_Bool (nat_le (length name) 24))

module _ (slots : List (Option Pair)) (dir : ℕ) (name : List ℕ) (x : Option Pair)
    (within : place_of dir name < length slots) where
  -- the slots with that of a name put
  abbrev pub put : List (Option Pair)
  put = set slots (place_of dir name) x

  -- of that name the new one says what is said
  pub put_here : said put dir name ≡ kept_of name (slot_says x dir name)
  put_here = ap (λ s. kept_of name (slot_says s dir name)) (get_or-set_same slots (place_of dir name) x None within)

  -- of another, what it says itself, or what was said
  module _ (d : ℕ) (n : List ℕ) where
    pub put_there : place_of d n ≡ place_of dir name → said put d n ≡ kept_of n (slot_says x d n)
    put_there e = ap (λ p. kept_of n (slot_says (get_or put p None) d n)) e
        ∙ ap (λ s. kept_of n (slot_says s d n)) (get_or-set_same slots (place_of dir name) x None within)

    pub put_elsewhere : place_of d n ≢ place_of dir name → said put d n ≡ said slots d n
    put_elsewhere apart = ap (λ s. kept_of n (slot_says s d n))
        (get_or-set_other slots (place_of dir name) (place_of d n) x None apart)

    -- where the new one says nothing of it, no more is said of it than was
    pub put_no_more : (m : Option ℕ) → (slot_says x d n ≡ None) → said put d n ≡ Some m → said slots d n ≡ Some m
    put_no_more m none h = ⊎_elim
        (λ e. let nothing = put_there e ∙ ap (kept_of n) none ∙ kept_none n in absurd (cc))
        (λ apart. sym (put_elsewhere apart) ∙ h)
        (cases_eq (place_of d n) (place_of dir name))
