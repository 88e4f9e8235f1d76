use Rattle.std.proofs.Common.{◌*◌, ◌+◌, ◌∙◌}
use Rattle.std.specs.Prelude.{slice_set}
use Rattle.std.proofs.lemmas.List.{length-set}
use Rattle.lfs_words.proofs.HexDigits.{hex_written}
use Rattle.lfs_words.proofs.append.write_hex.Goals as goal

pub loop-place-preserved : goal.loop-place-preserved
loop-place-preserved c =
    let place = c.loop-place.place in
    let digits = c.loop-place.digits in
    record {
      room =
          length-set (slice_set digits (2 * place) c.digit.result) (2 * place + 1) c.digit-in-loop-place.result
          ∙ length-set digits (2 * place) c.digit.result ∙ c.loop-place.invariant.room;
      written =
          hex_written digits c.args.bytes.now place c.digit.result c.digit-in-loop-place.result c.loop-place-test.true
          c.loop-place.invariant.room c.loop-place.invariant.written c.digit.ensures c.digit-in-loop-place.ensures;
    }
