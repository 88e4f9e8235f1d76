-- The table of which numbers have a record that waits stays true: `put_kept`, `removed_kept`, `replaced_kept`,
-- `popped_kept`, for `Records::put`, `remove`, `replace` and `pop`. A change of the list changes the answer for one
-- number, as no number stands in it twice (`AreOnce`): with its record gone none is left. With two records of a number,
-- `remove` would say that none waits while one does.
use Rattle.std.proofs.Common.{◌≡◌, ◌≢◌, ℕ, ◌<◌, ◌≤◌, List, [], ◌∷◌, ◌++◌, All, Bool, length, None, Some, IsSome}
use Rattle.std.proofs.Common.{is_some, true, false, refl, sym, ap, ◌∙◌, subst, inl, inr, arith}
use Rattle.std.specs.Prelude.{replicate, slice_index_or, slice_set}
use Rattle.std.proofs.lemmas.Bool.{cases_eq, cases_lt, cond-false, false≢true, ne_eqb}
use Rattle.std.proofs.lemmas.List.{get_or-replicate, get_or-set_other, get_or-set_same, length-replicate, length-set}
use Rattle.std.proofs.lemmas.List.Elements.{All-cons, All-head, All-pop, All-tail}
use Rattle.std.proofs.lemmas.Option.{none-some}
use Rattle.lfs_inodes.specs.declared.inode.Inode.{Inode}
use Rattle.lfs_parts.specs.Waiting.{Replaces, replaced, AreOnce, IsNumbered, IsRecords, waiting_in, without}
use Rattle.lfs_parts.proofs.FrameLemmas.{once_numbers}
use Rattle.lfs_parts.proofs.ReplacingLemmas.{each_replaced}
use Rattle.lfs_parts.proofs.WaitingLemmas.{all_without, once_gone, once_staged, once_without, waiting-head}
use Rattle.lfs_parts.proofs.WaitingLemmas.{waiting-staged, waiting-tail, waiting-without}
use Rattle.lfs_types.proofs.Somewhere.{not_some}

-- ---- the last of them
pub waiting-front : (front : List Inode) (v : Inode) (n : ℕ) → v.number ≢ n → waiting_in (front ++ v ∷ []) n
    ≡ waiting_in front n
waiting-front [] v n other = waiting-tail v [] n other
waiting-front (w ∷ front) v n other = elim (cases_eq w.number n) [
  | inl is ↦ waiting-head w (front ++ v ∷ []) n is ∙ sym (waiting-head w front n is)
  | inr ne ↦ waiting-tail w (front ++ v ∷ []) n ne ∙ waiting-front front v n other ∙ sym (waiting-tail w front n ne)
]

-- some record of the last one's number waits
last_some : (front : List Inode) (v : Inode) → IsSome (waiting_in (front ++ v ∷ []) v.number)
last_some [] v = ap is_some (waiting-head v [] v.number refl)
last_some (w ∷ front) v = elim (cases_eq w.number v.number) [
  | inl is ↦ ap is_some (waiting-head w (front ++ v ∷ []) v.number is)
  | inr ne ↦ ap is_some (waiting-tail w (front ++ v ∷ []) v.number ne) ∙ last_some front v
]

-- where no number waits twice, no other has the last one's
pub once_front : (front : List Inode) (v : Inode) → AreOnce (front ++ v ∷ []) → (waiting_in front v.number ≡ None)
    × AreOnce front
unfolding AreOnce
once_front [] v once = (refl, tt)
once_front (w ∷ front) v once =
    let other : v.number ≢ w.number = λ e. false≢true (sym (ap is_some once.0)
    ∙ subst (λ n. IsSome (waiting_in (front ++ v ∷ []) n)) e (last_some front v)) in
    let rest = once_front front v once.1 in (
      waiting-tail w front v.number (λ e. other (sym e)) ∙ rest.0,
      (sym (waiting-front front v w.number other) ∙ once.0, rest.1),
    )

-- ---- which numbers have one
-- no number past the greatest count has one
pub none_past : (vs : List Inode) (number : ℕ) → All IsNumbered vs → 4096 ≤ number → waiting_in vs number ≡ None
none_past [] number all past = refl
none_past (v ∷ vs) number all past =
    let low : v.number < 4096 = All-head IsNumbered v vs all in
    waiting-tail v vs number (λ e. omega arith) ∙ none_past vs number (All-tail IsNumbered v vs all) past

-- where a number has none, none is taken away
pub without-free : (vs : List Inode) (number : ℕ) → waiting_in vs number ≡ None → without number vs ≡ vs
unfolding without
without-free [] number none = refl
without-free (v ∷ vs) number none = elim (cases_eq v.number number) [
  | inl is ↦ absurd (none-some v (sym none ∙ waiting-head v vs number is))
  | inr ne ↦ cond-false _ _ _ (ne_eqb v.number number ne)
      ∙ ap (λ ws. v ∷ ws) (without-free vs number (sym (waiting-tail v vs number ne) ∙ none))
]

pub without-untold : (vs : List Inode) (number : ℕ) → is_some (waiting_in vs number) ≡ false → without number vs ≡ vs
without-untold vs number h = without-free vs number (not_some (waiting_in vs number) h)

-- ---- what each change keeps
pub no_records : (vs : List Inode) (waits : List Bool) (capacity : ℕ) → vs ≡ [] → waits ≡ replicate 4096 false
    → capacity ≡ 64 → IsRecords vs waits capacity
unfolding AreOnce
no_records vs waits capacity none fresh many = record {
  room = omega arith;
  once = subst AreOnce (sym none) tt;
  numbered = subst (All IsNumbered) (sym none) (λ k d low. absurd (omega arith));
  sized = ap (λ (bs : List Bool). length bs) fresh ∙ length-replicate 4096 false;
  told = λ number low.
      ap (λ bs. slice_index_or bs number false) fresh ∙ get_or-replicate 4096 number false false low
      ∙ sym (ap (λ us. is_some (waiting_in us number)) none);
}

module _ (vs : List Inode) (waits : List Bool) (capacity : ℕ) (h : IsRecords vs waits capacity) where
  -- a number that has one is told
  pub low_told : (number : ℕ) → IsSome (waiting_in vs number) → number < 4096
  low_told number some = elim (cases_lt number 4096) [
    | inl low ↦ low
    | inr past ↦ absurd (false≢true (sym (ap is_some (none_past vs number h.numbered past)) ∙ some))
  ]

  pub put_kept : (v : Inode) (us : List Inode) (after : ℕ) → v.number < 4096 → us ≡ v ∷ without v.number vs → after
      ≡ capacity
      → IsRecords us (slice_set waits v.number true) after
  put_kept v us after low is same = subst (λ ws. IsRecords ws (slice_set waits v.number true) after) (sym is) (record {
    room = let room = h.room in omega arith;
    once = once_staged v vs h.once;
    numbered = All-cons IsNumbered v (without v.number vs) low (all_without IsNumbered vs v.number h.numbered);
    sized = length-set waits v.number true ∙ h.sized;
    told = λ number below. elim (cases_eq number v.number) [
      | inl e ↦
          ap (λ n. slice_index_or (slice_set waits v.number true) n false) e
          ∙ get_or-set_same waits v.number true false (let sized = h.sized in omega arith)
          ∙ sym (ap is_some (waiting-head v (without v.number vs) number (sym e)))
      | inr ne ↦ get_or-set_other waits v.number number true false ne ∙ h.told number below
          ∙ sym (ap is_some (waiting-staged v vs number ne))
    ];
  })

  pub removed_kept : (number : ℕ) (us : List Inode) (after : ℕ) → IsSome (waiting_in vs number) → us ≡ without number vs
      → after ≡ capacity
      → IsRecords us (slice_set waits number false) after
  removed_kept number us after some is same =
      subst (λ ws. IsRecords ws (slice_set waits number false) after) (sym is) (record {
        room = let room = h.room in omega arith;
        once = once_without vs number h.once;
        numbered = all_without IsNumbered vs number h.numbered;
        sized = length-set waits number false ∙ h.sized;
        told = λ other below. elim (cases_eq other number) [
          | inl e ↦
              ap (λ n. slice_index_or (slice_set waits number false) n false) e
              ∙ get_or-set_same waits number false false
              (let sized = h.sized in let low = low_told number some in omega arith)
              ∙ sym (ap (λ n. is_some (waiting_in (without number vs) n)) e ∙ ap is_some (once_gone vs number h.once))
          | inr ne ↦ get_or-set_other waits number other false false ne ∙ h.told other below
              ∙ sym (ap is_some (waiting-without vs number other ne))
        ];
      })

  pub replaced_kept : (v : Inode) (us : List Inode) (after : ℕ) → IsSome (waiting_in vs v.number) → us ≡ replaced vs v
      → Replaces vs us v → after ≡ capacity
      → IsRecords us waits after
  replaced_kept v us after some is swap same = record {
    room = let room = h.room in omega arith;
    once = once_numbers vs us swap.numbers h.once;
    numbered = subst (All IsNumbered) (sym is) (each_replaced IsNumbered vs v (low_told v.number some) h.numbered);
    sized = h.sized;
    told = λ number below. h.told number below ∙ (elim (cases_eq number v.number) [
      | inl e ↦ ap (λ n. is_some (waiting_in vs n)) e ∙ some ∙ sym (ap is_some swap.here)
          ∙ sym (ap (λ n. is_some (waiting_in us n)) e)
      | inr ne ↦ sym (ap is_some (swap.others number ne))
    ]);
  }

  pub popped_kept : (front : List Inode) (v : Inode) (after : ℕ) → vs ≡ front ++ v ∷ [] → after ≡ capacity
      → IsRecords front (slice_set waits v.number false) after
  popped_kept front v after is same =
      let once = once_front front v (subst AreOnce is h.once) in
      let parted = All-pop IsNumbered vs front (Some v) is h.numbered in
      let low : v.number < 4096 = parted.1 in
      record {
        room = let room = h.room in omega arith;
        once = once.1;
        numbered = parted.0;
        sized = length-set waits v.number false ∙ h.sized;
        told = λ number below. elim (cases_eq number v.number) [
          | inl e ↦
              ap (λ n. slice_index_or (slice_set waits v.number false) n false) e
              ∙ get_or-set_same waits v.number false false (let sized = h.sized in omega arith)
              ∙ sym (ap (λ n. is_some (waiting_in front n)) e ∙ ap is_some once.0)
          | inr ne ↦
              get_or-set_other waits v.number number false false ne ∙ h.told number below
              ∙ ap (λ us. is_some (waiting_in us number)) is
              ∙ ap is_some (waiting-front front v number (λ e. ne (sym e)))
        ];
      }
