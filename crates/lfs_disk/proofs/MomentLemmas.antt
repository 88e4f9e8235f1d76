-- How a run of a disk's calls goes on: from its start (`started`) by a call (`goes_on`) or by a run (`followed`).
use Rattle.std.proofs.Common.{ℕ, inl, inr, List, ⊎_elim, arith}
use Rattle.lfs_disk.specs.Disk.{Elapses, LeavesOnly}

module _ {D : Type 0} (time : D → ℕ) (left_since : D → ℕ → List (List ℕ) → Type 0) where
  -- before the first call
  pub started : (old : D) (P : List (List ℕ) → Type 0) → ((c : List (List ℕ)) → left_since old (time old) c → P c)
      → LeavesOnly time left_since old old P
  started old P here = record { later = omega arith; each = here; before = λ t c le left. inl left }

  -- one call more, after which a crash leaves what has P
  pub goes_on : (old mid new : D) (P may_leave : List (List ℕ) → Type 0) → LeavesOnly time left_since old mid P
      → Elapses (time mid) (time new) (left_since mid) (left_since new) may_leave
      → ((c : List (List ℕ)) → may_leave c → P c) → LeavesOnly time left_since old new P
  goes_on old mid new P may_leave so_far elapses here = record {
    later = omega (arith, so_far.later, elapses.later);
    each = λ c left. ⊎_elim (so_far.each c) (here c) (elapses.nothing_else (time old) c so_far.later left);
    before = λ t c le left.
        ⊎_elim (so_far.before t c le) (λ now. inr (here c now))
        (elapses.nothing_else t c (omega (arith, le, so_far.later)) left);
  }

  -- another run behind it, of which each crash leaves what has P
  pub followed : (old mid new : D) (P Q : List (List ℕ) → Type 0) → LeavesOnly time left_since old mid P
      → LeavesOnly time left_since mid new Q → ((c : List (List ℕ)) → Q c → P c)
      → LeavesOnly time left_since old new P
  followed old mid new P Q first next is = record {
    later = omega (arith, first.later, next.later);
    each = λ c left. ⊎_elim (first.each c) (is c) (next.before (time old) c first.later left);
    before = λ t c le left.
        ⊎_elim (first.before t c le) (λ q. inr (is c q)) (next.before t c (omega (arith, le, first.later)) left);
  }

  -- what has Q has P
  pub widened : (old new : D) (P Q : List (List ℕ) → Type 0) → LeavesOnly time left_since old new Q
      → ((c : List (List ℕ)) → Q c → P c) → LeavesOnly time left_since old new P
  widened old new P Q run is = record {
    later = run.later;
    each = λ c left. is c (run.each c left);
    before = λ t c le left. ⊎_elim (λ past. inl past) (λ q. inr (is c q)) (run.before t c le left);
  }
