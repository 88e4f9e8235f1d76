use Rattle.std.proofs.Common.{◌≡◌, ◌+◌, ◌*◌, arith}
use Rattle.lfs_words.proofs.HexPairs.{pair_spelled}
use Rattle.lfs_words.proofs.hex.byte_of.Goals as goal

pub returns : goal.returns
returns c =
    let word : c.from_le_bytes-digits.result ≡ c.args.high + 256 * c.args.low =
    omega (arith, c.from_le_bytes-digits.ensures) in
    pair_spelled c.from_le_bytes-digits.result c.args.high c.args.low word c.ranges.high.fits c.ranges.low.fits
    c.requires.high_digit c.requires.low_digit
