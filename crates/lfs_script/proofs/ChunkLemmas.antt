-- An item that is added to the last chunk is behind all others (`push_last`, `push_none`), and a chunk that is taken out has an item
-- (`taken`).
use Rattle.std.proofs.Common.{◌≡◌, ℕ, zero, suc, ◌<◌, List, [], ◌∷◌, ◌++◌, length, get_or, refl, sym, ap, ◌∙◌, arith}
use Rattle.std.proofs.Math.ListN.{set}
use Rattle.std.proofs.lemmas.List.{append-nil, append_assoc}
use Rattle.std.specs.Global.{Vec}
use Rattle.lfs_script.specs.Layout.{AreFilled, IsAhead, items_in}

pub push_last : {X : Type 0} (chunks : List (Vec X)) (n : ℕ) (old new : Vec X) (item : X) → suc n ≡ length chunks
    → old ≡ get_or chunks n old → new.items ≡ old.items ++ item ∷ []
    → items_in (set chunks n new) ≡ items_in chunks ++ item ∷ []
push_last [] n old new item last at grown = absurd (omega (arith, last))
push_last (c ∷ []) zero old new item last at grown =
    rw (grown, at, append-nil (c.items ++ item ∷ []), append-nil c.items) refl
push_last (c ∷ d ∷ chunks) zero old new item last at grown = absurd (omega (arith, last))
push_last (c ∷ chunks) (suc n) old new item last at grown =
    let more : items_in (set chunks n new) ≡ items_in chunks ++ item ∷ [] =
    push_last chunks n old new item (omega (arith, last)) at grown in
    ap (λ xs. c.items ++ xs) more ∙ sym (append_assoc c.items (items_in chunks) (item ∷ []))

-- and where none is added, the others stay
pub push_none : {X : Type 0} (chunks : List (Vec X)) (n : ℕ) (old new : Vec X) → old ≡ get_or chunks n old
    → new.items ≡ old.items → items_in (set chunks n new) ≡ items_in chunks
push_none [] n old new at same = refl
push_none (c ∷ chunks) zero old new at same = rw (same, at) refl
push_none (c ∷ chunks) (suc n) old new at same =
    ap (λ xs. c.items ++ xs) (push_none chunks n old new at same)

has_none : {X : Type 0} (items : List X) → 0 < length items → items ≡ [] → ⊥
has_none [] some none = absurd (omega (arith, some))
has_none (x ∷ items) some none = absurd (cc)

taken_here : {X : Type 0} (chunk : Vec X) (rest : List (Vec X)) (first : List X) → first ≡ chunk.items
    → AreFilled (chunk ∷ rest) → AreFilled rest × IsAhead first rest
taken_here chunk rest first is filled = (
  λ k d lt. filled (suc k) d (omega (arith, lt)),
  λ none. absurd (has_none chunk.items (filled 0 chunk (omega arith)) (sym is ∙ none)),
)

pub taken : {X : Type 0} (chunks : List (Vec X)) (chunk : Vec X) (rest : List (Vec X)) (first : List X) → chunks
    ≡ chunk ∷ rest → first ≡ chunk.items → AreFilled chunks → AreFilled rest × IsAhead first rest
taken chunks chunk rest first split is = rw split (taken_here chunk rest first is)
