use Rattle.std.proofs.Common.{sym, arith}
use Rattle.lfs_segments.proofs.SerialLemmas.{decoded, decoded_only, none_decoded, told_in-none, told_in-spelled}
use Rattle.lfs_segments.proofs.SerialLemmas.{told_in-zero}
use Rattle.lfs_segments.proofs.serial.SerialSummary.decode.Goals as goal

pub returns-then-serial-eq0-clause-told : goal.returns-then-serial-eq0-clause-told
returns-then-serial-eq0-clause-told c =
    let word = c.word-serial.ensures in
    sym (told_in-zero c.args.block.now (omega arith))

pub returns-in-Some-clause-found : goal.returns-in-Some-clause-found
returns-in-Some-clause-found c =
    decoded c.args.block.now _ _ (omega arith) c.without_serial.ensures c.in-Some.ensures.found c.word-serial.ensures

pub returns-in-Some-clause-only : goal.returns-in-Some-clause-only
returns-in-Some-clause-only c = λ s spelled.
    decoded_only c.args.block.now _ _ s (omega arith) c.without_serial.ensures c.in-Some.ensures.only c.word-serial.ensures
    spelled

pub returns-in-Some-clause-told : goal.returns-in-Some-clause-told
returns-in-Some-clause-told c =
    sym (told_in-spelled c.args.block.now _ (omega arith) (returns-in-Some-clause-found c))

pub returns-in-None-clause-only : goal.returns-in-None-clause-only
returns-in-None-clause-only c = λ s spelled.
    absurd (none_decoded c.args.block.now _ s (omega arith) c.without_serial.ensures c.in-None.ensures.only spelled)

pub returns-in-None-clause-told : goal.returns-in-None-clause-told
returns-in-None-clause-told c =
    let word = c.word-serial.ensures in
    let other = c.if-serial-eq0.false in
    sym (told_in-none c.args.block.now _ (omega arith) c.without_serial.ensures (omega arith) c.in-None.ensures.entries)
