use Rattle.std.proofs.Common.{◌≡◌, ◌<◌, ◌≤◌, ℕ, List, length, ◌/◌, sym, subst, arith}
use Rattle.std.specs.Prelude.{Result, Ok, Err}
use Rattle.std.specs.Result.{OkIff, result_unwrap_or}
use Rattle.lfs_ifile.specs.Layout.{number_at}
use Rattle.lfs_cleaner.specs.Choosing.{IsDirty}
use Rattle.lfs_cleaner.proofs.ChoosingLemmas.{dirty_below}
use Rattle.lfs_cleaner.proofs.choosing.segment_bound.Goals as goal

-- what is below a number and below the greatest that fits is below that number or that greatest
below_kept : {E : Type 0} (r : Result ℕ E) (n s : ℕ) → OkIff r (n < 4294967296) n → s < n → s < 4294967295
    → s < result_unwrap_or r 4294967295
below_kept {E} (Ok x) n s h a b = let same = h.1 in omega arith
below_kept {E} (Err e) n s h a b = b

-- it is below the number of segments that the bytes tell
below_told : (bytes : List ℕ) (told segment live : ℕ) → (8 ≤ length bytes → told ≡ number_at bytes 4)
    → IsDirty bytes segment live → segment < told
below_told bytes told segment live same is =
    let size = is.laid_out.size in
    let few : segment < number_at bytes 4 = is.segment in
    subst (λ (n : ℕ). segment < n) (sym (same (omega arith))) few

pub returns-then-told-most : goal.returns-then-told-most
returns-then-told-most c = λ segment live is.
    below_told c.args.bytes.now c.told_segments-told.result segment live c.told_segments-told.ensures is

pub returns-else-told-most : goal.returns-else-told-most
returns-else-told-most c = λ segment live is.
    let low = dirty_below c.args.bytes.now segment live (λ k. omega (arith, c.type_inv.bytes k)) is in
    subst (λ (n : ℕ). segment < n) (sym c.unwrap_or-most.ensures)
    (below_kept c.try_from.result (length c.args.bytes.now / 8) segment c.try_from.ensures low.0 low.1)
