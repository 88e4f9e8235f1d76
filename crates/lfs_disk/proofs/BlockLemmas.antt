-- Blocks of which some were written (`IsSameBut`, `HasOthers`): none, one more (`same-set`, `others-set`), and all
-- (`all_taken`).
use Rattle.std.proofs.Common.{◌≡◌, ◌≢◌, ◌⊎◌, ℕ, ◌+◌, ◌<◌, ◌≤◌, inl, inr, List, [], length, get_or, set, refl, sym, ap}
use Rattle.std.proofs.Common.{subst, ◌∙◌, ⊎_elim, arith}
use Rattle.std.proofs.lemmas.Bool.{cases_eq, cases_lt}
use Rattle.std.proofs.lemmas.List.{ext_get_or, get_or-set_other, get_or-set_same, length-set}
use Rattle.lfs_types.specs.Blocks.{zero_block}
use Rattle.lfs_disk.specs.Disk.{LandsOrNot, Only}
use Rattle.lfs_disk.specs.Writing.{IsLeftBut, IsOnTheWay, IsSameBut, IsWithoutFirst, HasOthers}

abbrev Blocks : Type 0
Blocks = List (List ℕ)

pub same-refl : (start end : ℕ) (blocks : Blocks) → IsSameBut start end blocks blocks
same-refl start end blocks = record { long = refl; outside = λ a out. refl }

-- the blocks of one list are another's
pub same-to : (start end : ℕ) (old new : Blocks) → new ≡ old → IsSameBut start end old new
same-to start end old new is = record { long = ap length is; outside = λ a out. ap (λ (b : Blocks). get_or b a []) is }

pub same-trans : (start end : ℕ) (old mid new : Blocks) → IsSameBut start end old mid → IsSameBut start end mid new
    → IsSameBut start end old new
same-trans start end old mid new first next = record {
  long = next.long ∙ first.long;
  outside = λ a out. next.outside a out ∙ first.outside a out;
}

pub same-sym : (start end : ℕ) (old new : Blocks) → IsSameBut start end old new → IsSameBut start end new old
same-sym start end old new same = record { long = sym same.long; outside = λ a out. sym (same.outside a out) }

-- fewer addresses are some of them
pub same-wider : (from start end : ℕ) (old new : Blocks) → from ≤ start → IsSameBut start end old new
    → IsSameBut from end old new
same-wider from start end old new before same = record {
  long = same.long;
  outside = λ a out. same.outside a (⊎_elim (λ (less : a < from). inl (omega arith)) (λ past. inr past) out);
}

other : (start end at a : ℕ) → start ≤ at → at < end → (a < start) ⊎ (end ≤ a) → a ≢ at
other start end at a from to (inl before) = λ is. omega arith
other start end at a from to (inr past) = λ is. omega arith

-- a block more
pub same-set : (start end at : ℕ) (block : List ℕ) (old new : Blocks) → start ≤ at → at < end
    → IsSameBut start end old new → IsSameBut start end old (set new at block)
same-set start end at block old new from to same = record {
  long = length-set new at block ∙ same.long;
  outside = λ a out.
      get_or-set_other new at a block [] (other start end at a from to out) ∙ same.outside a out;
}

pub others-none : (others : Blocks) (start : ℕ) (blocks : Blocks) → HasOthers others start start blocks blocks
others-none others start blocks = record {
  same = same-refl start start blocks;
  inside = λ a from to. absurd (omega arith);
}

pub others-set : (others : Blocks) (start at : ℕ) (block : List ℕ) (old new : Blocks) → start ≤ at
    → at < length old → block ≡ get_or others at [] → HasOthers others start at old new
    → HasOthers others start (at + 1) old (set new at block)
others-set others start at block old new from inside is takes =
    let long = takes.same.long in
    record {
      same = same-set start (at + 1) at block old new from (omega arith) (record {
        long = long;
        outside = λ a out. takes.same.outside a (⊎_elim (λ before. inl before)
            (λ (past : at + 1 ≤ a). inr (omega arith)) out);
      });
      inside = λ a low high. ⊎_elim
          (λ (here : a ≡ at).
          ap (λ (k : ℕ). get_or (set new at block) k []) here
          ∙ get_or-set_same new at block [] (omega arith) ∙ is ∙ ap (λ (k : ℕ). get_or others k []) (sym here))
          (λ (apart : a ≢ at).
          get_or-set_other new at a block [] apart
          ∙ takes.inside a low (⊎_elim (λ (less : a < at). less) (λ (not_less : at ≤ a). absurd (apart (omega arith)))
          (cases_lt a at)))
          (cases_eq a at);
    }

-- where all that may differ were taken, but for the first one, which is put behind them, all are the others'
pub all_taken : (others : Blocks) (first end : ℕ) (old mid new : Blocks) (block : List ℕ)
    → first < length old → IsSameBut first end old others → HasOthers others (first + 1) end old mid
    → block ≡ get_or others first [] → new ≡ set mid first block → new ≡ others
all_taken others first end old mid new block inside same takes is put =
    let long = takes.same.long in
    let size = same.long in
    put ∙ ext_get_or [] (set mid first block) others (length-set mid first block ∙ long ∙ sym size) (λ a low. ⊎_elim
    (λ (here : a ≡ first).
    ap (λ (k : ℕ). get_or (set mid first block) k []) here
    ∙ get_or-set_same mid first block [] (omega arith) ∙ is ∙ ap (λ (k : ℕ). get_or others k []) (sym here))
    (λ (apart : a ≢ first). get_or-set_other mid first a block [] apart ∙ rest a apart)
    (cases_eq a first))
  where
    rest : (a : ℕ) → a ≢ first → get_or mid a [] ≡ get_or others a []
    rest a apart = ⊎_elim
        (λ (before : a < first).
        takes.same.outside a (inl (omega arith)) ∙ sym (same.outside a (inl before)))
        (λ (past : first ≤ a).
        let behind : first + 1 ≤ a = ⊎_elim (λ (less : a < first + 1). absurd (apart (omega arith)))
        (λ (more : first + 1 ≤ a). more) (cases_lt a (first + 1)) in
        ⊎_elim
        (λ (low : a < end). takes.inside a behind low)
        (λ (high : end ≤ a). takes.same.outside a (inr high) ∙ sym (same.outside a (inr high)))
        (cases_lt a end))
        (cases_lt a first)

-- where all were taken they are the others'
pub all_others : (others : Blocks) (end : ℕ) (old new : Blocks) → length others ≡ end → length old ≡ end
    → HasOthers others 0 end old new → new ≡ others
all_others others end old new count size has =
    let long = has.same.long in
    ext_get_or [] new others (omega arith) (λ a low. has.inside a (omega arith) (omega arith))

-- where none may differ all are the same
pub all_same : (first end : ℕ) (old new : Blocks) → end ≤ first → IsSameBut first end old new → old ≡ new
all_same first end old new none same =
    ext_get_or [] old new (sym same.long) (λ a low. sym (same.outside a (⊎_elim
    (λ (before : a < first). inl before)
    (λ (past : first ≤ a). inr (omega arith))
    (cases_lt a first))))

-- ---- what a crash leaves
-- a write inside of them
pub lands_in : (start end at : ℕ) (block : List ℕ) (first old new : Blocks → Type 0) → start ≤ at → at < end
    → ((c : Blocks) → old c → IsLeftBut start end first c) → LandsOrNot at block old new → (c : Blocks) → new c
    → IsLeftBut start end first c
lands_in start end at block first old new from to so_far lands c left =
    ⊎_elim
    (λ (was : old c). so_far c was)
    (λ (more : (d : Blocks) × old d × (c ≡ set d at block)).
    let d = more.0 in
    let at_first = so_far d more.1 in (
      at_first.0,
      at_first.1,
      same-trans start end at_first.0 (set d at block) c
          (same-set start end at block at_first.0 d from to at_first.2) (same-to start end (set d at block) c more.2),
    ))
    (lands c left)

-- where there is only one list that a crash might have left
pub only_but : (start end : ℕ) (blocks : Blocks) (may_leave : Blocks → Type 0) → Only blocks may_leave → (c : Blocks)
    → IsLeftBut start end may_leave c → IsSameBut start end blocks c
only_but start end blocks may_leave only c left =
    same-trans start end blocks left.0 c (same-to start end blocks left.0 (only left.0 left.1)) left.2

pub lands_only : (at : ℕ) (block : List ℕ) (blocks : Blocks) (old new : Blocks → Type 0) → Only blocks old
    → LandsOrNot at block old new → (c : Blocks) → new c → (c ≡ blocks) ⊎ (c ≡ set blocks at block)
lands_only at block blocks old new only lands c left =
    ⊎_elim
    (λ (was : old c). inl (only c was))
    (λ (more : (d : Blocks) × old d × (c ≡ set d at block)).
    inr (more.2 ∙ ap (λ (d : Blocks). set d at block) (only more.0 more.1)))
    (lands c left)

-- zeros stay in the place of the first while the others are written
pub without_first : (first end : ℕ) (old c : Blocks) → get_or old first [] ≡ zero_block
    → IsSameBut (first + 1) end old c
    → IsWithoutFirst first end old c
without_first first end old c zeros same = record {
  zeros = same.outside first (inl (omega arith)) ∙ zeros;
  same = same-wider first (first + 1) end old c (omega arith) same;
}

-- they are put there
pub cleared : (first end : ℕ) (old c : Blocks) → first < length old → first < end → c ≡ set old first zero_block
    → IsWithoutFirst first end old c
cleared first end old c inside some is = record {
  zeros = ap (λ (b : Blocks). get_or b first []) is ∙ get_or-set_same old first zero_block [] inside;
  same = same-trans first end old (set old first zero_block) c
      (same-set first end first zero_block old old (omega arith) some (same-refl first end old))
      (same-to first end (set old first zero_block) c is);
}

-- behind such a step it is the same way
pub way_behind : (first end : ℕ) (old mid new c : Blocks) → IsWithoutFirst first end old mid
    → IsOnTheWay first end mid new c
    → IsOnTheWay first end old new c
way_behind first end old mid new c step (inl here) = inr (inl (record {
  zeros = ap (λ (b : Blocks). get_or b first []) here ∙ step.zeros;
  same = same-trans first end old mid c step.same (same-to first end mid c here);
}))
way_behind first end old mid new c step (inr (inl on)) = inr (inl (record {
  zeros = on.zeros;
  same = same-trans first end old mid c step.same on.same;
}))
way_behind first end old mid new c step (inr (inr done)) = inr (inr done)

-- the others were put, and then the first one, or not yet
pub on_way : (others : Blocks) (first end : ℕ) (old mid : Blocks) (block : List ℕ) → first < length old
    → get_or old first [] ≡ zero_block → IsSameBut first end old others → HasOthers others (first + 1) end old mid
    → block ≡ get_or others first [] → (c : Blocks) → (c ≡ mid) ⊎ (c ≡ set mid first block)
    → IsOnTheWay first end old others c
on_way others first end old mid block inside zeros same takes is c (inl here) =
    inr (inl (without_first first end old c zeros
    (same-trans (first + 1) end old mid c takes.same (same-to (first + 1) end mid c here))))
on_way others first end old mid block inside zeros same takes is c (inr put) =
    inr (inr (all_taken others first end old mid c block inside same takes is put))

-- the zeros were put, or not yet
pub clear_way : (first end : ℕ) (old new c : Blocks) → first < length old → first < end
    → (c ≡ old) ⊎ (c ≡ set old first zero_block) → IsOnTheWay first end old new c
clear_way first end old new c inside some (inl here) = inl here
clear_way first end old new c inside some (inr put) = inr (inl (cleared first end old c inside some put))

pub way_at : (first from end to : ℕ) (old new c : Blocks) → first ≡ from → end ≡ to → IsOnTheWay first end old new c
    → IsOnTheWay from to old new c
way_at first from end to old new c at until way =
    subst (λ (k : ℕ). IsOnTheWay from k old new c) until (subst (λ (k : ℕ). IsOnTheWay k end old new c) at way)
