-- A store that was just laid out is within its share, for `store::SharedStore::format`: its root takes one unit.
use Rattle.std.proofs.Common.{◌≡◌, ◌≢◌, ◌⊎◌, ℕ, ◌<◌, ◌≤◌, Result, Ok, Err, IfOk, inl, inr, refl, sym, subst, ap, ◌∙◌}
use Rattle.std.proofs.Common.{arith}
use Rattle.std.proofs.lemmas.Bool.{cases_lt}
use Rattle.std.specs.FinMap as map
use Rattle.std.specs.FinMap.{get-empty}
use Rattle.std.specs.Ordering.{nat_cmp}
use Rattle.lfs_types.specs.StoreStates.{StoreState}
use Rattle.lfs_types.specs.Tree.{fresh_root, opening_content}
use Rattle.lfs_types.proofs.Maps.{get-insert_other, get-insert_same}
use Rattle.lfs_bmap.specs.Counting.{total}
use Rattle.lfs_bmap.proofs.CountingLemmas.{total-changed, total-zero}
use Rattle.lfs_parts.specs.Opening.{IsTooFew}
use Rattle.lfs_parts.specs.declared.parts.Parts.{Parts}
use Rattle.lfs_logstore.specs.States.{opening_state, state_of}
use Rattle.lfs_share.specs.Share.{share_of, taken, units_of_file}

-- what the file of each number takes at first
abbrev at_first : ℕ → ℕ
at_first n = units_of_file (map.get opening_content n)

others : (n : ℕ) → n ≢ 2 → at_first n ≡ 0
others n h = ap units_of_file (get-insert_other map.empty 2 fresh_root n h ∙ get-empty nat_cmp n)

root_takes : at_first 2 ≡ 1
root_takes = ap units_of_file (get-insert_same map.empty 2 fresh_root)

opening_few : (numbers : ℕ) → taken numbers opening_content ≤ 1
opening_few numbers = elim (cases_lt 2 numbers) [
  | inl some ↦
      let none : total (λ n. 0) numbers ≡ 0 = total-zero (λ n. 0) numbers (λ k h. refl) in
      let changed = total-changed at_first (λ n. 0) numbers 2 some (λ k h other. others k other) in
      let one = root_takes in
      omega arith
  | inr few ↦
      let none : total at_first numbers ≡ 0 = total-zero at_first numbers (λ k h. others k (λ e. omega arith)) in
      omega arith
]

-- it has clean segments enough, and its files take no more than the share
pub opening_within : (segments numbers : ℕ) (p : Parts) → state_of p ≡ opening_state segments numbers → 6 ≤ segments
    → ((p.log.clean ≤ 1) ⊎ (share_of p.log.memory.segments < taken (state_of p).shape.numbers (state_of p).content)) → ⊥
opening_within segments numbers p same enough (inl few) =
    let clean : p.log.clean ≡ (opening_state segments numbers).clean = ap (λ (s : StoreState). s.clean) same in
    omega arith
opening_within segments numbers p same enough (inr past) =
    let many : p.log.memory.segments ≡ segments = ap (λ (s : StoreState). s.shape.segments) same in
    let takes : taken (state_of p).shape.numbers (state_of p).content ≡ taken numbers opening_content =
    ap (λ (s : StoreState). taken s.shape.numbers s.content) same in
    let few = opening_few numbers in
    omega arith

-- its segments are enough where they are not too few
pub enough : (segments inodes frames : ℕ) → (IsTooFew segments inodes frames → ⊥) → 6 ≤ segments
enough segments inodes frames not = elim (cases_lt 5 segments) [
  | inl some ↦ omega arith
  | inr few ↦ absurd (not (inl (omega arith)))
]

-- a result that is Ok is no fault
pub no_fault : {A E : Type 0} (a : A) (e : E) → Ok a ≡ Err e → ⊥
no_fault {A} {E} a e eq = subst (λ (r : Result A E). IfOk r (λ _. ⊥)) (sym eq) tt
