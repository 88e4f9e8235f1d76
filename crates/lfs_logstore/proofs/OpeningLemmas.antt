-- A store that was just laid out, and the faults of laying one out: `opened_state`, `error_told` and `value_told`, for
-- `format_as`. Its content is that of a fresh volume, all segments but the first are clean, and its numbers are those
-- that it was laid out for, which is all that a state tells. A fault of the layers below is handed on, so it is told
-- exactly where theirs is, and where a value came of it none is.
use Rattle.std.proofs.Common.{◌≡◌, ◌↔◌, ℕ, ◌-◌, Option, Result, Ok, Err, refl, ap, arith}
use Rattle.std.specs.Prelude.{IsErrAnd, IsErrOf}
use Rattle.std.proofs.lemmas.Result.{err_from_is_err_and}
use Rattle.lfs_types.specs.Tree.{opening_content}
use Rattle.lfs_parts.specs.declared.parts.Parts.{Parts}
use Rattle.lfs_parts.specs.Files.{content_of}
use Rattle.lfs_parts.specs.Opening.{IsOpeningWith}
use Rattle.lfs_logstore.specs.States.{opening_state, state_of}

-- the parts of a volume that was just laid out show the opening state
pub opened_state : (serial : Option ℕ) (p : Parts) (segments numbers frames : ℕ)
    → IsOpeningWith serial segments numbers frames p → content_of p ≡ opening_content → state_of p ≡ opening_state segments numbers
opened_state serial p segments numbers frames h content =
    let clean : p.log.clean ≡ segments - 1 = omega (arith, h.clean) in
    rw (content, clean, h.tables.inodes, h.size) refl

-- the error of a result, or another one where it has none
error_or : {T E : Type 0} → E → Result T E → E
error_or other (Ok x) = other
error_or other (Err e) = e

-- a result with another value in place of its own
valued : {T U E : Type 0} → U → Result T E → Result U E
valued y (Ok x) = Ok y
valued y (Err e) = Err e

-- an error that is handed on is told as it was
pub error_told : {T U E : Type 0} (r : Result U E) (e fault : E) (P : Type 0) → IsErrAnd r (λ y. y ≡ e)
    → (IsErrOf {T = T} (Err e) fault ↔ P) → (IsErrOf r fault ↔ P)
unfolding error_or
error_told r e fault P handed told =
    let is = err_from_is_err_and r handed in
    let same : r ≡ Err e = rw (is.1, is.2) refl in
    rw same (
      λ (i : Err e ≡ Err fault). told.0 (ap Err (ap (error_or fault) i)),
      λ p. ap Err (ap (error_or fault) (told.1 p)),
    )

-- and where a value is made of a value, no error is told
pub value_told : {T U E : Type 0} (x : T) (y : U) (fault : E) (P : Type 0) → (IsErrOf (Ok x) fault ↔ P)
    → (IsErrOf (Ok y) fault ↔ P)
unfolding valued
value_told x y fault P told = (λ i. told.0 (ap (valued x) i), λ p. ap (valued y) (told.1 p))
