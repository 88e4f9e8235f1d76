use Rattle.std.proofs.Common.{arith}
use Rattle.lfs_words.proofs.ReadBack.{bytes_read_back}
use Rattle.lfs_words.proofs.WordBytes.{bytes_word}
use Rattle.lfs_words.proofs.spelling.spell_slice.Goals as goal

pub returns-clause-back : goal.returns-clause-back
returns-clause-back c = λ few. record {
  word = bytes_word c.args.bytes.now (λ k. omega (arith, c.type_inv.bytes k));
  back = bytes_read_back c.args.bytes.now (λ k. omega (arith, c.type_inv.bytes k)) few;
}
