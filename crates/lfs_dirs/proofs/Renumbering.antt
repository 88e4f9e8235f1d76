-- The entries of a block written again, one of them with another number: `may_be_next`, `given_next` and
-- `all_renumbered`, for the loop of `replaced`. What is written and what is left, renumbered, are together the block's
-- entries renumbered. A number takes as many bytes as any other, so each entry still has room behind those that are
-- written, and as no two entries have one name before, none have after.
use Rattle.std.proofs.Common.{◌≡◌, ℕ, ◌<◌, ◌^◌, List, [], ◌∷◌, ◌++◌, sym, ap, ◌∙◌, subst, arith}
use Rattle.std.proofs.lemmas.List.{append-nil}
use Rattle.lfs_dirs.specs.Directory.{Entry, used_of, renumbered, with_number, AreEntries, IsDirectoryBlock}
use Rattle.lfs_dirs.proofs.Laws.{used_of-append, used_of-block}
use Rattle.lfs_dirs.proofs.Changes.{renumbered-nil, renumbered-cons, with_number-name, AreEntries-renumbered}
use Rattle.lfs_dirs.proofs.Changes.{AreEntries-middle, used_of-renumbered}
use Rattle.lfs_dirs.proofs.Removing.{MayFollow}

-- the next entry is the next that is written
pub next_one : (name : List ℕ) (number : ℕ) (done left next es : List Entry) (e : Entry)
    → done ++ renumbered name number left ≡ renumbered name number es → left ≡ e ∷ next
    → done ++ (with_number name number e ∷ renumbered name number next) ≡ renumbered name number es
next_one name number done left next es e kept is_left =
    ap (λ xs. done ++ xs) (sym (ap (renumbered name number) is_left ∙ renumbered-cons name number e next)) ∙ kept

-- it may be written behind those that are written
pub may_be_next : (name : List ℕ) (number : ℕ) (block : List ℕ) (es done : List Entry) (e : Entry) (rest : List Entry)
    → 0 < number → number < 2 ^ 32
    → IsDirectoryBlock block es → done ++ (e ∷ rest) ≡ renumbered name number es → MayFollow done e
may_be_next name number block es done e rest above fits h kept =
    let entries = AreEntries-middle done e rest
    (subst AreEntries (sym kept) (AreEntries-renumbered name number es above fits h.entries)) in
    record {
      entry = entries.0;
      absent = entries.1;
      room =
          omega (
            arith,
            used_of-append done (e ∷ rest),
            ap used_of kept,
            used_of-block block es h,
            used_of-renumbered name number es,
          );
    }

-- at the end all are written
pub all_renumbered : (name other : List ℕ) (number : ℕ) (done left es : List Entry)
    → done ++ renumbered name number left ≡ renumbered name number es → left ≡ [] → name ≡ other → done
    ≡ renumbered other number es
all_renumbered name other number done left es kept none same =
    sym (append-nil done) ∙ ap (λ xs. done ++ xs) (sym (ap (renumbered name number) none ∙ renumbered-nil name number))
    ∙ kept ∙ ap (λ n. renumbered n number es) same

-- an entry as it is written
given_is : (name : List ℕ) (number old given : ℕ) (bytes : List ℕ) → given ≡ (with_number name number (old, bytes)).0
    → with_number name number (old, bytes) ≡ (given, bytes)
given_is name number old given bytes is =
    ap (λ n. (n, (with_number name number (old, bytes)).1)) (sym is)
    ∙ ap (λ bs. (given, bs)) (with_number-name name number (old, bytes))

-- what is written and what is left, with the next entry
pub given_next : (name : List ℕ) (number : ℕ) (done left next es : List Entry) (old given : ℕ) (bytes : List ℕ)
    → done ++ renumbered name number left ≡ renumbered name number es → left ≡ (old, bytes) ∷ next → given
    ≡ (with_number name number (old, bytes)).0
    → done ++ ((given, bytes) ∷ renumbered name number next) ≡ renumbered name number es
given_next name number done left next es old given bytes kept is_left is =
    ap (λ e. done ++ (e ∷ renumbered name number next)) (sym (given_is name number old given bytes is))
    ∙ next_one name number done left next es (old, bytes) kept is_left
