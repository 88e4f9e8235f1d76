use Rattle.std.proofs.Common.{◌++◌, ◌∷◌, []}
use Rattle.std.proofs.lemmas.Result.{err_from_is_err_and}
use Rattle.lfs_live.proofs.LineLemmas.{kept_few, part_ended, part_failed, part_more, part_unkept}
use Rattle.lfs_live.proofs.line.read_line.Goals as goal

pub returns-in_err-byte-clause-failed : goal.returns-in_err-byte-clause-failed
returns-in_err-byte-clause-failed g c =
    let exit = err_from_is_err_and c.from_residual.result c.from_residual.ensures.1 in
    rw exit.1 (part_failed _ (g.R.Read.remaining c.loop.reader) _ c.loop.bytes.items c.loop.invariant.read
    c.in_err-byte.ensures.1)

pub returns-then-byte-eq10-clause-read : goal.returns-then-byte-eq10-clause-read
returns-then-byte-eq10-clause-read g c =
    let taken = rw c.in-Some.is at c.in_ok-byte.ensures in
    part_ended _ (g.R.Read.remaining c.loop.reader) _ c.loop.bytes.items c.in-Some.byte c.loop.invariant.read taken
    c.if-byte-eq10.true

pub returns-in_err-keep-clause-failed : goal.returns-in_err-keep-clause-failed
returns-in_err-keep-clause-failed g c =
    let exit = err_from_is_err_and c.from_residual-in_err-keep.result c.from_residual-in_err-keep.ensures.1 in
    let taken = rw c.in-Some.is at c.in_ok-byte.ensures in
    rw exit.1 (part_unkept _ (g.R.Read.remaining c.loop.reader) _ c.loop.bytes.items c.in-Some.byte
    c.loop.invariant.read taken c.if-byte-eq10.false)

pub loop-preserved : goal.loop-preserved
loop-preserved g c =
    let taken = rw c.in-Some.is at c.in_ok-byte.ensures in
    record {
      read = part_more _ (g.R.Read.remaining c.loop.reader) _ c.loop.bytes.items c.keep.new.bytes.items c.in-Some.byte
          c.loop.invariant.read taken c.if-byte-eq10.false c.in_ok-keep.ensures;
      few = kept_few (c.loop.bytes.items ++ c.in-Some.byte ∷ []) c.keep.new.bytes.items c.in_ok-keep.ensures;
    }
