-- The calls that are left of those of a message: `reads_on` and `writes_on`, for the loops that put a message's pieces.
-- Where some are left the first is that of the next 4,096 bytes, or what is wanted less, and the others are those of a
-- shorter message further on (`read_next`, `write_next`); so the calls so far and those left are all of them.
use Rattle.std.proofs.Common.{◌≡◌, ◌<◌, ◌-◌, ℕ, zero, suc, Bool, List, [], ◌∷◌, min, take, drop, ◌++◌, ap, sym}
use Rattle.std.proofs.Common.{append_assoc, ◌∙◌, arith}
use Rattle.lfs_types.specs.declared.request.Request.{Request}
use Rattle.lfs_types.specs.declared.request.Request.TheVariants.{Read, Write}
use Rattle.lfs_fuse_calls.specs.Pieces.{next_place, put_at, read_pieces, write_pieces}

pub read_next : (path : List (List ℕ)) (off size n : ℕ) → 0 < n
    → read_pieces path off size n ≡ Read path off (min size 4096)
    ∷ read_pieces path (next_place off) (size - 4096) (n - 1)
read_next path off size zero some = absurd (omega (arith, some))
read_next path off size (suc n) some =
    let e : n ≡ suc n - 1 = omega arith in
    ap (λ m. Read path off (min size 4096) ∷ read_pieces path (next_place off) (size - 4096) m) e

pub write_next : (path : List (List ℕ)) (append : Bool) (off : ℕ) (bytes : List ℕ) (n : ℕ) → 0 < n
    → write_pieces path append off bytes n
    ≡ Write path (put_at append off) (take 4096 bytes)
    ∷ write_pieces path append (next_place off) (drop 4096 bytes) (n - 1)
write_next path append off bytes zero some = absurd (omega (arith, some))
write_next path append off bytes (suc n) some =
    let e : n ≡ suc n - 1 = omega arith in
    ap (λ m. Write path (put_at append off) (take 4096 bytes)
    ∷ write_pieces path append (next_place off) (drop 4096 bytes) m) e

pub reads_on : (before : List Request) (path : List (List ℕ)) (off size n : ℕ) → 0 < n
    → (before ++ Read path off (min size 4096) ∷ []) ++ read_pieces path (next_place off) (size - 4096) (n - 1)
    ≡ before ++ read_pieces path off size n
reads_on before path off size n some =
    append_assoc before (Read path off (min size 4096) ∷ []) (read_pieces path (next_place off) (size - 4096) (n - 1))
    ∙ ap (λ l. before ++ l) (sym (read_next path off size n some))

pub writes_on : (before : List Request) (path : List (List ℕ)) (append : Bool) (off : ℕ) (bytes : List ℕ) (n : ℕ)
    → 0 < n
    → (before ++ Write path (put_at append off) (take 4096 bytes) ∷ [])
    ++ write_pieces path append (next_place off) (drop 4096 bytes) (n - 1)
    ≡ before ++ write_pieces path append off bytes n
writes_on before path append off bytes n some =
    append_assoc before (Write path (put_at append off) (take 4096 bytes) ∷ [])
    (write_pieces path append (next_place off) (drop 4096 bytes) (n - 1))
    ∙ ap (λ l. before ++ l) (sym (write_next path append off bytes n some))
