use Rattle.std.proofs.Common.{◌≡◌, false, length, arith}
use Rattle.std.proofs.lemmas.Bool.{and_left, and_right, le-ltb, lt-leb}
use Rattle.lfs_dirs.specs.Reading.{is_entry}
use Rattle.lfs_dirs.proofs.Laws.{entries_of-short}
use Rattle.lfs_dirs.proofs.Front.{entry_at_front, none_at_front}
use Rattle.lfs_dirs.proofs.reading.first_entry.Goals as goal
use Rattle.lfs_dirs.proofs.reading.first_entry.Goals.{then-number-eq0-via-then-number-eq0}
use Rattle.lfs_dirs.proofs.reading.first_entry.Goals.{then-number-eq0-via-else-number-eq0+then-name_length-eq0}
use Rattle.lfs_dirs.proofs.reading.first_entry.Goals.{then-number-eq0-via-else-number-eq0+else-name_length-eq0+then-rest-name_length}

pub returns-in_err-head : goal.returns-in_err-head
returns-in_err-head c = rw c.from_residual.ensures (entries_of-short _ c.in_err-head.ensures.cases)

pub returns-then-number-eq0 : goal.returns-then-number-eq0
returns-then-number-eq0 c =
    let number = c.from_be_bytes-number.result in
    let k = c.from-name_length.result in
    let rest = c.in_ok-head.rest.now in
    let parts = c.in_ok-head.ensures.cases in
    let fails : is_entry number k (length rest) ≡ false =
    elim c.then-number-eq0.branch [
      | then-number-eq0-via-then-number-eq0 w ↦ and_left _ _ (and_left _ _ (le-ltb 0 number (omega arith)))
      | then-number-eq0-via-else-number-eq0+then-name_length-eq0 w ↦
          and_left _ _ (and_right _ _ (le-ltb 0 k (omega arith)))
      | then-number-eq0-via-else-number-eq0+else-name_length-eq0+then-rest-name_length w ↦
          and_right _ _ (lt-leb k (length rest) (omega arith))
    ] in
    none_at_front c.args.bytes.now c.in_ok-head.head.now rest number k (omega arith)
    parts.0 parts.1 c.from_be_bytes-number.ensures c.from-name_length.ensures fails

pub returns : goal.returns
returns c =
    let parts = c.in_ok-head.ensures.cases in
    entry_at_front c.args.bytes.now c.in_ok-head.head.now c.in_ok-head.rest.now c.split_at.result.0.now
    c.split_at.result.1.now
    c.from_be_bytes-number.result c.from-name_length.result (omega arith) (λ i. omega (arith, c.type_inv.bytes i))
    parts.0 parts.1 c.from_be_bytes-number.ensures c.from-name_length.ensures c.split_at.ensures.front
    c.split_at.ensures.back
    (omega arith) (omega arith) (omega arith) (omega arith)
