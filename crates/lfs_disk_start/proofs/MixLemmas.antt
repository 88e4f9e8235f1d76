-- Blocks of which some were written over others (`IsMixtureOf`): none (`mix-none`), one more (`mix-set`, `mix-lands`).
use Rattle.std.proofs.Common.{◌≡◌, ◌≢◌, ℕ, ◌<◌, inl, inr, List, [], length, get_or, set, sym, ap, subst, ◌∙◌, ⊎_elim, arith}
use Rattle.std.proofs.lemmas.Bool.{cases_eq}
use Rattle.std.proofs.lemmas.List.{get_or-set_other, get_or-set_same, length-set}
use Rattle.lfs_disk_start.specs.Mixing.{IsMixtureOf, IsWithOrWithout}

abbrev Blocks : Type 0
Blocks = List (List ℕ)

pub mix-none : (old new c : Blocks) → c ≡ old → IsMixtureOf old new c
mix-none old new c is = record {
  long = ap length is;
  each = λ a. inl (ap (λ (b : Blocks). get_or b a []) is);
}

pub mix-set : (old new d : Blocks) (at : ℕ) (block : List ℕ) → at < length old → block ≡ get_or new at []
    → IsMixtureOf old new d → IsMixtureOf old new (set d at block)
mix-set old new d at block inside is mix =
    let long = mix.long in
    record {
      long = length-set d at block ∙ long;
      each = λ a. ⊎_elim
          (λ (here : a ≡ at). inr (ap (λ (k : ℕ). get_or (set d at block) k []) here
          ∙ get_or-set_same d at block [] (omega arith) ∙ is ∙ ap (λ (k : ℕ). get_or new k []) (sym here)))
          (λ (apart : a ≢ at). ⊎_elim
          (λ (same : get_or d a [] ≡ get_or old a []). inl (get_or-set_other d at a block [] apart ∙ same))
          (λ (put : get_or d a [] ≡ get_or new a []). inr (get_or-set_other d at a block [] apart ∙ put))
          (mix.each a))
          (cases_eq a at);
    }

-- what a crash leaves behind such a write
pub mix-lands : (old new : Blocks) (at : ℕ) (block : List ℕ) (may_leave : Blocks → Type 0) → at < length old
    → block ≡ get_or new at [] → ((d : Blocks) → may_leave d → IsMixtureOf old new d) → (c : Blocks)
    → IsWithOrWithout at block may_leave c → IsMixtureOf old new c
mix-lands old new at block may_leave inside is before c (inl was) = before c was
mix-lands old new at block may_leave inside is before c (inr more) =
    subst (IsMixtureOf old new) (sym more.2) (mix-set old new more.0 at block inside is (before more.0 more.1))
