use Rattle.std.proofs.Common.{◌*◌, ◌∙◌, ap, take, arith}
use Rattle.std.proofs.lemmas.List.{length-set, take_more_set}
use Rattle.lfs_words.proofs.HexDigits.{hex_step, hex_read}
use Rattle.lfs_words.proofs.hex.decode.Goals as goal

pub loop-place-preserved : goal.loop-place-preserved
loop-place-preserved c =
    let place = c.loop-place.place in
    let bytes = c.loop-place.bytes in
    let more = take_more_set bytes place c.byte_of.result (omega arith) in
    record {
      room = ap (λ n. 2 * n) (length-set bytes place c.byte_of.result) ∙ c.loop-place.invariant.room;
      spelled =
          rw more
          (hex_step c.args.digits.now (take place bytes) place c.byte_of.result
          (omega arith) c.loop-place.invariant.spelled c.byte_of.ensures);
      read = rw more (hex_read (take place bytes) c.byte_of.result (omega arith) c.loop-place.invariant.read);
    }
