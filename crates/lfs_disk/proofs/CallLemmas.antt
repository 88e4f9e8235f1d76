-- One call more: behind it a crash may leave what a disk's contract allows (`left-write`, `left-sync`, `sync_left`),
-- and time has gone on by one (`elapses-more`).
use Rattle.std.proofs.Common.{◌∙◌, get_or, ap, ◌≡◌, ◌⊎◌, ℕ, ◌+◌, ◌<◌, ◌≤◌, inl, inr, List, [], ◌∷◌, ◌++◌, length, set}
use Rattle.std.proofs.Common.{refl, sym}
use Rattle.std.proofs.Common.{subst, ⊎_elim, arith, length-append}
use Rattle.std.proofs.lemmas.Bool.{cases_eq, cases_lt}
use Rattle.std.proofs.lemmas.Bool.Decides.{nat_tests}
use Rattle.std.proofs.lemmas.Grind.{get_or-set_at}
use Rattle.std.proofs.lemmas.List.{get_or-set_other, length-set, take-append-le, take_all}
use Rattle.lfs_disk.specs.declared.calls.Call.{Call}
use Rattle.lfs_disk.specs.declared.calls.Call.TheVariants.{Written, Synced}
use Rattle.lfs_disk.specs.Calls.{LeftSince, behind_call, left_after, left_from, seen_after}
use Rattle.lfs_disk.specs.Disk.{Elapses, LandsOrNot}

abbrev Blocks : Type 0
Blocks = List (List ℕ)

pub seen-write : (blocks : Blocks) (calls : List Call) (address : ℕ) (block : List ℕ)
    → seen_after blocks (calls ++ Written address block ∷ []) ≡ set (seen_after blocks calls) address block
unfolding seen_after
seen-write blocks [] address block = refl
seen-write blocks (Written at other ∷ calls) address block = seen-write (set blocks at other) calls address block
seen-write blocks (Synced ∷ calls) address block = seen-write blocks calls address block

pub seen-sync : (blocks : Blocks) (calls : List Call) → seen_after blocks (calls ++ Synced ∷ [])
    ≡ seen_after blocks calls
unfolding seen_after
seen-sync blocks [] = refl
seen-sync blocks (Written at other ∷ calls) = seen-sync (set blocks at other) calls
seen-sync blocks (Synced ∷ calls) = seen-sync blocks calls

pub length-seen : (blocks : Blocks) (calls : List Call) → length (seen_after blocks calls) ≡ length blocks
unfolding seen_after
length-seen blocks [] = refl
length-seen blocks (Written at other ∷ calls) = length-seen (set blocks at other) calls ∙ length-set blocks at other
length-seen blocks (Synced ∷ calls) = length-seen blocks calls

-- at an address
pub seen-behind : (blocks : Blocks) (calls : List Call) (call : Call) (address : ℕ) → address < length blocks
    → get_or (seen_after blocks (calls ++ call ∷ [])) address []
    ≡ behind_call call address (get_or (seen_after blocks calls) address [])
seen-behind blocks calls (Written at block) address inside =
    let long = length-seen blocks calls in
    ap (λ (b : Blocks). get_or b address []) (seen-write blocks calls at block) ∙ elim (cases_eq at address) [
      | inl here ↦
          get_or-set_at (seen_after blocks calls) at address block [] (sym here) (omega arith)
          ∙ sym (grind (arith, nat_tests))
      | inr other ↦
          get_or-set_other (seen_after blocks calls) at address block [] (λ same. other (sym same))
          ∙ sym (grind (arith, nat_tests))
    ]
seen-behind blocks calls Synced address inside = ap (λ (b : Blocks). get_or b address []) (seen-sync blocks calls)

pub left-write : (may_leave : Blocks → Type 0) (seen : Blocks) (calls : List Call) (address : ℕ) (block : List ℕ)
    → LandsOrNot address block (left_after may_leave seen calls)
    (left_after may_leave seen (calls ++ Written address block ∷ []))
unfolding left_after
left-write may_leave seen [] address block c left = left
left-write may_leave seen (Written at other ∷ calls) address block c left = left-write _ _ calls address block c left
left-write may_leave seen (Synced ∷ calls) address block c left = left-write _ _ calls address block c left

pub left-sync : (may_leave : Blocks → Type 0) (seen : Blocks) (calls : List Call) (c : Blocks)
    → left_after may_leave seen (calls ++ Synced ∷ []) c → c ≡ seen_after seen calls
unfolding left_after seen_after
left-sync may_leave seen [] c left = left
left-sync may_leave seen (Written at other ∷ calls) c left = left-sync _ (set seen at other) calls c left
left-sync may_leave seen (Synced ∷ calls) c left = left-sync _ seen calls c left

-- what is seen may be left
seen_left : (may_leave : Blocks → Type 0) (seen : Blocks) (calls : List Call) → may_leave seen
    → left_after may_leave seen calls (seen_after seen calls)
unfolding left_after seen_after
seen_left may_leave seen [] may = may
seen_left may_leave seen (Written at other ∷ calls) may =
    seen_left _ (set seen at other) calls (inr (seen, may, refl))
seen_left may_leave seen (Synced ∷ calls) may = seen_left _ seen calls refl

-- so a sync lets a crash leave nothing else
pub sync_left : (first : Blocks) (calls : List Call) (c : Blocks) → left_from first (calls ++ Synced ∷ []) c
    → left_from first calls c
sync_left first calls c left =
    subst (left_from first calls) (sym (left-sync (λ d. d ≡ first) first calls c left))
    (seen_left (λ d. d ≡ first) first calls refl)

-- no call was made
pub elapses-none : (first : Blocks) (calls : List Call) → Elapses (length calls) (length calls) (LeftSince first calls)
    (LeftSince first calls) (left_from first calls)
elapses-none first calls = record {
  later = omega arith;
  nothing_else = λ t c le left. inl left;
  keeps = λ t c le left. left;
}

module _ (first : Blocks) (calls : List Call) (call : Call) where
  abbrev more : List Call
  more = calls ++ call ∷ []

  long : length more ≡ length calls + 1
  long = length-append calls (call ∷ [])

  was : (t : ℕ) (c : Blocks) → LeftSince first more t c → LeftSince first calls t c ⊎ left_from first more c
  was t c since = ⊎_elim
      (λ (before : since.0 < length more).
      let size = long in
      let within : since.0 ≤ length calls = omega arith in
      inl (
        since.0,
        since.1,
        within,
        subst (λ (l : List Call). left_from first l c) (take-append-le since.0 calls (call ∷ []) within) since.3,
      ))
      (λ (last : length more ≤ since.0).
      inr (subst (λ (l : List Call). left_from first l c) (take_all since.0 more last) since.3))
      (cases_lt since.0 (length more))

  stays : (t : ℕ) (c : Blocks) → LeftSince first calls t c → LeftSince first more t c
  stays t c since =
      let size = long in
      let within = since.2 in (
        since.0,
        since.1,
        omega arith,
        subst (λ (l : List Call). left_from first l c) (sym (take-append-le since.0 calls (call ∷ []) within)) since.3,
      )

  pub elapses-more : Elapses (length calls) (length more) (LeftSince first calls) (LeftSince first more)
      (left_from first more)
  elapses-more = record {
    later = let size = long in omega arith;
    nothing_else = λ t c le left. was t c left;
    keeps = λ t c le left. stays t c left;
  }

-- so it is whatever list these calls are
pub elapses-to : (first : Blocks) (calls later : List Call) (call : Call) → later ≡ calls ++ call ∷ []
    → Elapses (length calls) (length later) (LeftSince first calls) (LeftSince first later) (left_from first later)
elapses-to first calls later call is =
    subst (λ (l : List Call). Elapses (length calls) (length l) (LeftSince first calls) (LeftSince first l)
    (left_from first l))
    (sym is) (elapses-more first calls call)
